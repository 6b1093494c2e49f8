-- The plans of a branch: the branch's bound, and those of its children, are within what they cost.
use Rattle.std.proofs.Common.{ℕ, ◌≤◌, List, All, Contains, arith}
use Rattle.std.proofs.lemmas.Int.{ints}
use Rattle.hub_spec.specs.Problem.{Problem, IsProblem}
use Rattle.hub_spec.specs.Plans.{Plan, IsPlan, plan_cost}
use Rattle.hub_spec.specs.Cuts.{Cut, IsCut}
use Rattle.hub_spec.specs.Trees.{Branching, IsBranch, open_child, closed_child, mixed_total, mixed_gain, Closes}
use Rattle.hub_spec.proofs.Sets.{is_in, is_in-yes, is_in-no, part_is_filter}
use Rattle.hub_spec.proofs.ChildLists.{open_branch, closed_branch}
use Rattle.hub_spec.proofs.WeakDuality.{hub_gains, Agrees, Agrees-open, Agrees-closed, free_gains, target_reached}
use Rattle.leaf_bound.specs.Bounds.{Weighting, bound_of}
use Rattle.leaf_bound.specs.Theorems.{weight_pairs, IsWeightingOf}
use Rattle.leaf_bound.proofs.LeafWeights.{plain_has_bound}
use Rattle.leaf_bound.specs.Shares.{AreShares}
use Rattle.leaf_bound.proofs.BranchHubs.{hubs_agree, branch_below, shares_mix}
use Rattle.hub_fixing.specs.Theorems.{IsSoundAt}

-- the plain bound is within the gains of any hubs of the branch, so that no number of them need be wanted
plan_reaches : (p : Problem) (cuts : List Cut) (m : Weighting) (target : ℕ) (b : Branching) (plan : Plan)
    → IsProblem p → All (IsCut p) cuts → IsWeightingOf p cuts m → AreShares m → IsBranch p b → IsPlan p plan
    → Agrees p.candidates (is_in plan.hubs) b → Closes m.denom target (bound_of m b) → target ≤ plan_cost p plan
plan_reaches p cuts m target b plan ok each made shares branch is_plan agrees closes =
    let weights = weight_pairs m.weights in
    let gains = mixed_gain p cuts m.denom weights in
    let same = part_is_filter p.candidates plan.hubs ok.candidates_ascend is_plan.hubs.ascend is_plan.hubs.are_candidates in
    let hubs = hub_gains p cuts m.denom weights plan is_plan each (shares_mix p cuts m made shares) in
    let free = rw same at (free_gains (mixed_total cuts weights) gains p.candidates (is_in plan.hubs) b agrees) in
    let bound = plain_has_bound p cuts m b made (branch_below p b ok branch) in
    target_reached m.denom target (plan_cost p plan) (bound_of m b) closes (omega (arith, ints, hubs, free, bound))

pub sound_at : (p : Problem) (cuts : List Cut) (m : Weighting) (target : ℕ) (b : Branching) (k : ℕ) → IsProblem p → All (IsCut p) cuts
    → IsWeightingOf p cuts m → AreShares m → IsBranch p b → Contains b.free k → IsSoundAt p m target b k
sound_at p cuts m target b k ok each made shares branch free = record {
  stays_in = λ closes plan is_plan keeps without.
      plan_reaches p cuts m target (closed_child b k) plan ok each made shares (closed_branch p b k branch free) is_plan
      (Agrees-closed p.candidates (is_in plan.hubs) b k (hubs_agree p b plan ok branch keeps) free (is_in-no plan.hubs k without)) closes;
  stays_out = λ closes plan is_plan keeps with_it.
      plan_reaches p cuts m target (open_child b k) plan ok each made shares (open_branch p b k branch free) is_plan
      (Agrees-open p.candidates (is_in plan.hubs) b k (hubs_agree p b plan ok branch keeps) free (is_in-yes plan.hubs k with_it)) closes;
}
