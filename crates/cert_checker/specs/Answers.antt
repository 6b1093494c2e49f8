-- What the check of a certificate that is held answers.
use Rattle.std.specs.Prelude.{◌≡◌, ◌≢◌, ◌<◌, length, Some, Contains}
use Rattle.hub_spec.specs.Problem.{Problem}
use Rattle.hub_spec.specs.Plans.{NoPlanBelow, IsOptimal}
use Rattle.hub_spec.specs.Cuts.{Cut, IsCut, IsTight}
use Rattle.hub_spec.specs.Certificates.{Proof}
use Rattle.core_spec.specs.CoreCuts.{Mark}
use Rattle.core_spec.specs.Domination.{Dominates}
use Rattle.cert_spec.specs.Stated.{Stated, cuts_of, IsStatedOf}
use Rattle.cert_spec.specs.Conditions.{AllHold, FailsFirst, conditions}
use Rattle.cert_conditions.specs.Kinds.{kind_of}
use Rattle.cert_checker.specs.declared.verdicts.Verdict as answer

-- the numbers of nodes and candidates are the problem's
abbrev pub IsOfSize : Problem → Proof → Type 0
IsOfSize p k = (k.size ≡ p.size) × (k.candidates ≡ length p.candidates)

-- no cut of the problem that is tight at the hubs of a marked cut's mark dominates that cut, whatever its part
abbrev pub AreUndominated : Problem → Stated → Type 0
AreUndominated p k = (x y : Cut) (mark : Mark) → Contains (cuts_of k) (x, Some mark)
    → IsCut p y → IsTight p mark.hubs y → Dominates p y x → ⊥

-- the verdict is for the certificate, by its bound and its cost
abbrev pub IsByCost : Stated → answer.Verdict → Type 0
IsByCost k answer.TheVariants.Optimal = k.proof.bound ≡ k.proof.cost
IsByCost k answer.TheVariants.Bounds = k.proof.bound ≢ k.proof.cost
IsByCost k (answer.TheVariants.No kind line) = ⊥

-- the verdict is right, by the conditions in the order in which they are tried
abbrev pub IsVerdict : Problem → Stated → answer.Verdict → Type 0
IsVerdict p k answer.TheVariants.Optimal = AllHold (conditions p k) × (k.proof.bound ≡ k.proof.cost)
IsVerdict p k answer.TheVariants.Bounds = AllHold (conditions p k) × (k.proof.bound < k.proof.cost)
IsVerdict p k (answer.TheVariants.No kind line) = FailsFirst (conditions p k) (kind_of kind) line

-- where the verdict is for the certificate, it holds for the instance, marks and all, and no plan costs less than its
-- bound
abbrev pub ShowsBound : Problem → Stated → answer.Verdict → Type 0
ShowsBound p k answer.TheVariants.Optimal = IsStatedOf p k × NoPlanBelow p k.proof.bound
ShowsBound p k answer.TheVariants.Bounds = IsStatedOf p k × NoPlanBelow p k.proof.bound
ShowsBound p k (answer.TheVariants.No kind line) = Unit {0}

-- where the verdict is that the plan is optimal, it is
abbrev pub ShowsOptimal : Problem → Stated → answer.Verdict → Type 0
ShowsOptimal p k answer.TheVariants.Optimal = IsOptimal p k.proof.plan
ShowsOptimal p k answer.TheVariants.Bounds = Unit {0}
ShowsOptimal p k (answer.TheVariants.No kind line) = Unit {0}

-- where the verdict is for the certificate, its marked cuts are Pareto-optimal
abbrev pub ShowsMarks : Problem → Stated → answer.Verdict → Type 0
ShowsMarks p k answer.TheVariants.Optimal = AreUndominated p k
ShowsMarks p k answer.TheVariants.Bounds = AreUndominated p k
ShowsMarks p k (answer.TheVariants.No kind line) = Unit {0}
