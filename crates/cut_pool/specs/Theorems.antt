-- What is proved of stored cuts; each statement is the contract of the public function of its name.
use Rattle.std.specs.Prelude.{◌≡◌, IfSome}
use Rattle.hub_spec.specs.Problem.{Problem, IsProblem}
use Rattle.hub_spec.specs.Cuts.{IsCut}
use Rattle.hub_spec.specs.Ranges.{IsCutInRange, IsFirstCut}
use Rattle.core_spec.specs.CoreCuts.{Mark, IsCoreCut}
use Rattle.core_spec.specs.MarkRanges.{IsMarkInRange}
use Rattle.cut_pool.specs.Kept.{Kept, kept_cut, kept_part, kept_mark, IsRemade, IsKeptFor}

-- a stored cut is a cut of the problem
abbrev pub KeptCutIsCut : Type 0
KeptCutIsCut = (p : Problem) (kept : Kept) → IsProblem p → IsKeptFor p kept → IsCut p (kept_cut p kept)

-- and a certificate may list it
abbrev pub KeptCutIsInRange : Type 0
KeptCutIsInRange = (p : Problem) (kept : Kept) → IsProblem p → IsKeptFor p kept → IsCutInRange p.size (kept_cut p kept)

-- .. of the first version too, where its duals are computed again
abbrev pub KeptCutIsFirst : Type 0
KeptCutIsFirst = (p : Problem) (kept : Kept) → IsProblem p → IsKeptFor p kept → IsRemade kept → IsFirstCut (kept_cut p kept)

-- its part is known without the problem
abbrev pub KeptPartIsPart : Type 0
KeptPartIsPart = (p : Problem) (kept : Kept) → (kept_cut p kept).part ≡ kept_part kept

-- by its mark, if it has one, it is Pareto-optimal, and a certificate may list the mark
pub record IsMarkedBy (p : Problem) (kept : Kept) (mark : Mark) : Type 0 where
  pub core : IsCoreCut p (kept_cut p kept) mark
  pub in_range : IsMarkInRange p.size mark

abbrev pub KeptMarkIsMark : Type 0
KeptMarkIsMark = (p : Problem) (kept : Kept) → IsKeptFor p kept → IfSome (kept_mark kept) (IsMarkedBy p kept)
