-- Which cuts are separated, and the rule of a search by these: cuts of minimal duals, or Pareto-optimal cuts where
-- there are.
use Rattle.std.specs.Prelude.{ℕ, List, Option, Some, None, option_map}
use Rattle.hub_spec.specs.Problem.{Problem}
use Rattle.hub_spec.specs.Cuts.{Cut}
use Rattle.core_spec.specs.CoreCuts.{Mark}
use Rattle.cut_model.specs.MarkedCuts.{MarkedCut}
use Rattle.core_cuts.specs.Finding.{core_marked}
use Rattle.search_spec.specs.States.{Parts}
use Rattle.cut_pool.specs.Kept.{Kept, by_set, cored}
use Rattle.search_steps.specs.Advising.{parts_of}

pub data CutKind : Type 0 where
  minimal : CutKind
  core : CutKind

-- the Pareto-optimal cut if there is one, else this cut; and what is stored of it
abbrev pub core_or : Option MarkedCut → Cut → Cut
core_or None cut = cut
core_or (Some x) cut = x.cut

abbrev pub cored_or : Option MarkedCut → Kept → Kept
cored_or None kept = kept
cored_or (Some x) kept = cored x

-- the Benders cut from a hub set, over an order of the other candidates
abbrev pub cut_by : CutKind → Problem → List ℕ → List ℕ → Cut
cut_by minimal p set order = (parts_of p).cut set order
cut_by core p set order = core_or (core_marked p set) ((parts_of p).cut set order)

-- its mark, if it has one
abbrev pub mark_by : CutKind → Problem → List ℕ → Option Mark
mark_by minimal p set = (parts_of p).mark set
mark_by core p set = option_map (λ x. x.mark) (core_marked p set)

-- what is stored of it: the set and the order, or the Pareto-optimal cut
abbrev pub kept_by : CutKind → Problem → List ℕ → List ℕ → Kept
kept_by minimal p set order = by_set set order
kept_by core p set order = cored_or (core_marked p set) (by_set set order)

-- the parts of the rule, with the weights and point of the master, and these cuts
abbrev pub parts_for : CutKind → Problem → Parts
parts_for kind p = record (parts_of p) { cut = cut_by kind p; mark = mark_by kind p }
