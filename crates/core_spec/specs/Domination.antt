-- Which cut dominates another. At a set of open candidates a cut bounds their routing cost from below.
-- The bound is (total - loads of the set) / part. Two cuts are compared with both parts multiplied out.
use Rattle.std.specs.Prelude.{ℕ, ◌+◌, ◌*◌, ◌<◌, ◌≤◌, List, sum_by}
use Rattle.hub_spec.specs.Problem.{Problem}
use Rattle.hub_spec.specs.Plans.{IsCandidateSet}
use Rattle.hub_spec.specs.Cuts.{Cut, total, load}

-- the sum of the cut's loads of these nodes
abbrev pub loads_on : Cut → List ℕ → ℕ
loads_on cut nodes = sum_by (load cut) nodes

-- at this set the bound of the cut x is at least that of y
abbrev pub SaysNoLess : Cut → Cut → List ℕ → Type 0
SaysNoLess x y set = x.part * total y + y.part * loads_on x set ≤ y.part * total x + x.part * loads_on y set

-- at this set the bound of x is greater than that of y
abbrev pub SaysMore : Cut → Cut → List ℕ → Type 0
SaysMore x y set = x.part * total y + y.part * loads_on x set < y.part * total x + x.part * loads_on y set

-- x dominates y: its bound is no less at any nonempty set of candidates, and greater at some
pub record Dominates (p : Problem) (x y : Cut) : Type 0 where
  pub everywhere : (set : List ℕ) → IsCandidateSet p set → SaysNoLess x y set
  pub somewhere : (set : List ℕ) × IsCandidateSet p set × SaysMore x y set
