-- Plans with exactly n hubs cost at least the bound of their branch for n hubs. The same holds for the
-- children of the branch.
use Rattle.std.proofs.Common.{◌≡◌, ℕ, ◌≤◌, List, length, All, Contains, ap, ◌∙◌, arith}
use Rattle.std.proofs.lemmas.Int.{ints}
use Rattle.hub_spec.specs.Problem.{Problem, IsProblem}
use Rattle.hub_spec.specs.Plans.{Plan, IsPlan, plan_cost}
use Rattle.hub_spec.specs.Cuts.{Cut, IsCut}
use Rattle.hub_spec.specs.Trees.{Branching, IsBranch, open_child, closed_child, mixed_total, mixed_gain, Closes}
use Rattle.hub_spec.proofs.Sets.{is_in, is_in-yes, is_in-no, part_is_filter}
use Rattle.hub_spec.proofs.ChildLists.{open_branch, closed_branch}
use Rattle.hub_spec.proofs.WeakDuality.{hub_gains, Agrees, Agrees-open, Agrees-closed, counted_gains, target_reached}
use Rattle.leaf_bound.specs.Bounds.{Weighting}
use Rattle.leaf_bound.specs.Theorems.{weight_pairs, IsWeightingOf}
use Rattle.leaf_bound.specs.Shares.{AreShares}
use Rattle.leaf_bound.proofs.BranchHubs.{hubs_agree, branch_below, shares_mix}
use Rattle.p_hub.specs.Counted.{counted_of}
use Rattle.p_hub.specs.Theorems.{IsSoundAt}
use Rattle.p_hub.proofs.CountedBounds.{pairs_counted}

plan_reaches : (p : Problem) (n : ℕ) (cuts : List Cut) (m : Weighting) (target : ℕ) (b : Branching) (plan : Plan)
    → IsProblem p → All (IsCut p) cuts → IsWeightingOf p cuts m → AreShares m → IsBranch p b → IsPlan p plan → length plan.hubs ≡ n
    → Agrees p.candidates (is_in plan.hubs) b → Closes m.denom target (counted_of n m b) → target ≤ plan_cost p plan
plan_reaches p n cuts m target b plan ok each made shares branch is_plan many agrees closes =
    let weights = weight_pairs m.weights in
    let gains = mixed_gain p cuts m.denom weights in
    let same = part_is_filter p.candidates plan.hubs ok.candidates_ascend is_plan.hubs.ascend is_plan.hubs.are_candidates in
    let hubs = hub_gains p cuts m.denom weights plan is_plan each (shares_mix p cuts m made shares) in
    let within = rw same at (counted_gains n (mixed_total cuts weights) gains p.candidates (is_in plan.hubs) b agrees (ap length same ∙ many)) in
    let bound = pairs_counted n p cuts m b made (branch_below p b ok branch) in
    target_reached m.denom target (plan_cost p plan) (counted_of n m b) closes (omega (arith, ints, hubs, within, bound))

pub sound_at : (p : Problem) (n : ℕ) (cuts : List Cut) (m : Weighting) (target : ℕ) (b : Branching) (k : ℕ) → IsProblem p
    → All (IsCut p) cuts → IsWeightingOf p cuts m → AreShares m → IsBranch p b → Contains b.free k → IsSoundAt p n m target b k
sound_at p n cuts m target b k ok each made shares branch free = record {
  stays_in = λ closes plan of without.
      plan_reaches p n cuts m target (closed_child b k) plan ok each made shares (closed_branch p b k branch free) of.is_plan of.many
      (Agrees-closed p.candidates (is_in plan.hubs) b k (hubs_agree p b plan ok branch of.keeps) free (is_in-no plan.hubs k without)) closes;
  stays_out = λ closes plan of with_it.
      plan_reaches p n cuts m target (open_child b k) plan ok each made shares (open_branch p b k branch free) of.is_plan of.many
      (Agrees-open p.candidates (is_in plan.hubs) b k (hubs_agree p b plan ok branch of.keeps) free (is_in-yes plan.hubs k with_it)) closes;
}
