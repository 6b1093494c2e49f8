-- What a search found, as the code has it.
use Rattle.std.specs.Prelude.{◌≡◌, ◌≤◌, length, map}
use Rattle.std.specs.List.{AllZip}
use Rattle.hub_spec.specs.Limits.{most_cuts, most_tree_lines}
use Rattle.hub_spec.specs.Problem.{Problem, commodities}
use Rattle.hub_spec.specs.Plans.{IsLeastRoute}
use Rattle.hub_spec.specs.Trees.{preorder, line_count}
use Rattle.search_spec.specs.States.{Grown, answer}
use Rattle.cut_pool.specs.Kept.{kept_set, kept_cuts, kept_mark, AreKeptFor}
use Rattle.cut_pool.specs.Findings.{lines_of}
use Rattle.cut_pool.specs.declared.found.Found.{Found}

-- the code's finding is this one. Its stored cuts are from the hub sets that were separated, and besides there are the
-- imported cuts. A set's cut is stored as the set with its order, or as a Pareto-optimal cut with its mark
pub record IsFound (p : Problem) (g : Grown) (found : Found) : Type 0 where
  pub cost : found.cost ≡ g.state.cost
  pub bound : found.bound ≡ answer g.state
  pub hubs : found.plan.hubs ≡ g.state.hubs
  pub routes : AllZip (IsLeastRoute p found.plan.hubs) (commodities p.size) found.plan.routes
  pub kept : AreKeptFor p found.cuts
  pub sets : map kept_set found.cuts.cuts ≡ g.state.sets
  pub cuts : kept_cuts p found.cuts.cuts ≡ g.state.cuts
  pub marks : map kept_mark found.cuts.cuts ≡ g.state.marks
  pub lines : lines_of found.tree.items ≡ preorder g.tree
  pub few_cuts : length g.state.cuts ≤ most_cuts
  pub few_lines : line_count g.tree ≤ most_tree_lines
