-- What an item leaves of a check that keeps what it should.
use Rattle.std.proofs.Common.{◌≡◌, ℕ, Option}
use Rattle.hub_spec.specs.Problem.{Problem}
use Rattle.cert_spec.specs.Lines.{Item as Line}
use Rattle.cert_spec.specs.Grammar.{Stage, after}
use Rattle.cert_spec.specs.Conditions.{AllHold, line_conditions}
use Rattle.cert_spec.specs.Progress.{Progress, after_line}
use Rattle.cert_conditions.specs.declared.kinds.Kind as code
use Rattle.cert_conditions.specs.Steps.{Tried, ended}
use Rattle.cert_conditions.specs.Taken.{Part, nothing, StandsFirm, Keeps}
use Rattle.cert_conditions.specs.declared.checks.Checks.{Checks}

-- a line that ends: what was found of its conditions, and what is kept where they hold
pub record ClosedBy (p : Problem) (line : ℕ) (s : Progress) (at : Stage) (l : Line) (new : Checks) : Type 0 where
  pub kept : Checks
  pub found : Option code.Kind
  pub is : new ≡ ended kept found
  pub same : kept.instance.now ≡ p
  pub line_is : kept.line ≡ line
  pub tried : Tried (line_conditions p s l) found line
  pub keeps : AllHold (line_conditions p s l) → StandsFirm kept (after_line p s l) × Keeps kept (after_line p s l) (after at l) nothing

abbrev pub Closed : Checks → Progress → Stage → Line → Checks → Type 0
Closed c s at l new = ClosedBy c.instance.now c.line s at l new

-- a line that goes on
pub record GrownBy (p : Problem) (line : ℕ) (failure : Option (code.Kind × ℕ)) (s : Progress) (at : Stage) (part : Part) (new : Checks) : Type 0 where
  pub same : new.instance.now ≡ p
  pub line_is : new.line ≡ line
  pub failure_is : new.failure ≡ failure
  pub firm : StandsFirm new s
  pub keeps : Keeps new s at part

abbrev pub Grown : Checks → Progress → Stage → Part → Checks → Type 0
Grown c s at part new = GrownBy c.instance.now c.line c.failure s at part new
