use Rattle.std.proofs.Common.{◌≡◌, ℕ, List, ◌++◌, subst, ap₂, ◌∙◌, rules}
use Rattle.std.specs.List.Sorted.{IsPermutation}
use Rattle.search_spec.specs.Choices.{all_open}
use Rattle.p_hub.proofs.FallingNodes.{sorted_with_nodes}
use Rattle.p_hub.proofs.OpenBranches.{open_ascends}
use Rattle.p_hub.proofs.openings.all_open.Goals as goal

pub returns : goal.returns
unfolding all_open
returns c =
    let b = c.args.branch.now in
    let inside : c.in_ok-open.open.items ≡ c.inside.result.now = search rules in
    let items = c.in_ok-extend_from_slice.ensures.items ∙ ap₂ (λ (xs ys : List ℕ). xs ++ ys) (inside ∙ c.inside.ensures.value) c.free.ensures.value in
    sorted_with_nodes b.free b.inside c.sort_unstable.new.self.items (open_ascends b c.inside.ensures.split)
    (subst (λ (xs : List ℕ). IsPermutation xs c.sort_unstable.new.self.items) items c.sort_unstable.ensures.permutation)
    c.sort_unstable.ensures.sorted
