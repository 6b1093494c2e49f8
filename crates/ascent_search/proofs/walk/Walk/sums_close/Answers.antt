use Rattle.std.proofs.Common.{◌≡◌, ℕ, [], ◌∷◌, map, refl, ◌∙◌, FitsSigned, Vec, Global, rules}
use Rattle.std.specs.Int.{w128}
use Rattle.std.proofs.lemmas.Int.{to_z-of_z}
use Rattle.hub_spec.specs.Cuts.{Cut}
use Rattle.ascent_search.specs.SingleCuts.{AreLoads, IsOnCut}
use Rattle.ascent_search.proofs.SingleBounds.{cut_numbers, cut_within, cut_bound_is}
use Rattle.ascent_search.proofs.walk.Walk.sums_close.Goals as goal
use Rattle.ascent_search.proofs.walk.Walk.sums_close.Goals.{After-cut_weighting-weighting}

-- the numbers of the cut, as arguments
on_cut : (c : After-cut_weighting-weighting) (cut : Cut) → let t = c.args.self.now.task.now in
    AreLoads t.instance.now cut c.args.total c.args.self.now.bench.loads
    → IsOnCut t.instance.now cut c.cut_weighting-weighting.result
on_cut c cut are =
    let sum = c.args.total in
    let loads = c.args.self.now.bench.loads in
    let rows_are : map (λ (v : Vec ℕ Global). v.items) c.deref.result.now ≡ loads ∷ [] = search rules in
    c.cut_weighting-weighting.ensures cut
    (record { sum = sum; loads = loads; are = are; totals_are = refl; rows_are = rows_are; parts_are = refl })

pub bound_by_number-by_cut-requires-clause-numbers : goal.bound_by_number-by_cut-requires-clause-numbers
bound_by_number-by_cut-requires-clause-numbers c =
    let t = c.args.self.now.task.now in
    let sums = c.requires.sums in
    cut_numbers t.instance.now sums.0 c.cut_weighting-weighting.result c.requires.going.problem
    (on_cut (goal.at.bound_by_number-by_cut-requires-clause-numbers c).After-cut_weighting-weighting sums.0 sums.1)

pub bound_by_number-by_cut-requires-clause-nodes : goal.bound_by_number-by_cut-requires-clause-nodes
bound_by_number-by_cut-requires-clause-nodes c =
    let t = c.args.self.now.task.now in
    let sums = c.requires.sums in
    cut_within t.instance.now sums.0 c.cut_weighting-weighting.result c.args.branch.now c.requires.going.problem c.requires.branch
    (on_cut (goal.at.bound_by_number-by_cut-requires-clause-nodes c).After-cut_weighting-weighting sums.0 sums.1)

pub returns : goal.returns
returns c cut are above =
    let t = c.args.self.now.task.now in
    let bound = c.bound_by_number-by_cut.ensures.value
    ∙ cut_bound_is t.instance.now cut c.cut_weighting-weighting.result c.args.branch.now
    c.requires.going.problem c.requires.branch
    (on_cut (goal.at.returns c).After-cut_weighting-weighting cut are) in
    let fits : FitsSigned w128 c.bound_by_number-by_cut.result = search rules in
    let same = to_z-of_z w128 c.bound_by_number-by_cut.result fits in
    let wanted = c.goal.ensures.value in
    let closes = c.is_above.ensures above in
    search rules
