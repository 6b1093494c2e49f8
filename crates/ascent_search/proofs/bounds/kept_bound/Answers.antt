use Rattle.std.proofs.Common.{◌≡◌, ℕ, ◌-◌, ◌+◌, ◌≤◌, List, length, map, slice_range, All, ◌∙◌, FitsSigned, Vec, Global, rules}
use Rattle.std.specs.Int.{w128}
use Rattle.std.proofs.lemmas.Int.{to_z-of_z}
use Rattle.hub_spec.specs.Problem.{Problem, IsProblem}
use Rattle.hub_spec.specs.Trees.{cut_at}
use Rattle.cut_pool.specs.Kept.{KeptList, kept_cuts, kept_part, IsRemade, AreKeptFor}
use Rattle.ascent_search.specs.Progressing.{cuts_of}
use Rattle.ascent_search.specs.SingleCuts.{AreLentOf, IsOnCut}
use Rattle.ascent_search.proofs.KeptSums.{map-slice_range, kept_at_number}
use Rattle.ascent_search.proofs.SingleBounds.{cut_numbers, cut_within, cut_bound_is}
use Rattle.ascent_search.proofs.bounds.kept_bound.Goals as goal
use Rattle.ascent_search.proofs.bounds.kept_bound.Goals.{After-cut_weighting-weighting}

numbers : (p : Problem) (k : KeptList) (n : ℕ) (totals : List ℕ) (loads : List (Vec ℕ Global)) (parts : List ℕ)
    → IsProblem p → AreKeptFor p k → All IsRemade k.cuts → 1 ≤ n → n ≤ length k.cuts → totals ≡ k.totals
    → map (λ v. v.items) loads ≡ k.loads → parts ≡ map kept_part k.cuts
    → AreLentOf p (cut_at (kept_cuts p k.cuts) n) (slice_range totals (n - 1) (n - 1 + 1))
    (map (λ v. v.items) (slice_range loads (n - 1) (n - 1 + 1))) (slice_range parts (n - 1) (n - 1 + 1))
numbers p k n totals loads parts ok are own least most is_totals is_loads is_parts =
    rw (is_totals, map-slice_range (λ (v : Vec ℕ Global). v.items) loads (n - 1) (n - 1 + 1), is_loads, is_parts)
    (kept_at_number p k n ok are own least most)

-- the numbers of the stored cut
on_cut : (c : After-cut_weighting-weighting) → let p = c.args.task.now.instance.now in
    IsOnCut p (cut_at (cuts_of p c.args.progress.now) c.args.number) c.cut_weighting-weighting.result
on_cut c =
    let going = c.requires.going in
    c.cut_weighting-weighting.ensures _
    (numbers c.args.task.now.instance.now c.args.progress.now.cuts c.args.number c.totals.result.now c.loads.result.now
    c.parts.result.now going.problem going.kept going.own c.requires.least c.requires.most c.totals.ensures.value
    c.loads.ensures.value c.parts.ensures.value)

pub bound_by_number-requires-clause-numbers : goal.bound_by_number-requires-clause-numbers
bound_by_number-requires-clause-numbers c =
    cut_numbers c.args.task.now.instance.now _ c.cut_weighting-weighting.result c.requires.going.problem
    (on_cut (goal.at.bound_by_number-requires-clause-numbers c).After-cut_weighting-weighting)

pub bound_by_number-requires-clause-nodes : goal.bound_by_number-requires-clause-nodes
bound_by_number-requires-clause-nodes c =
    cut_within c.args.task.now.instance.now _ c.cut_weighting-weighting.result c.args.branch.now c.requires.going.problem
    c.requires.branch (on_cut (goal.at.bound_by_number-requires-clause-nodes c).After-cut_weighting-weighting)

pub returns-clause-bound : goal.returns-clause-bound
returns-clause-bound c =
    let fits : FitsSigned w128 c.bound_by_number.result = search rules in
    to_z-of_z w128 c.bound_by_number.result fits ∙ c.bound_by_number.ensures.value
    ∙ cut_bound_is c.args.task.now.instance.now _ c.cut_weighting-weighting.result c.args.branch.now
    c.requires.going.problem c.requires.branch
    (on_cut (goal.at.returns-clause-bound c).After-cut_weighting-weighting)
