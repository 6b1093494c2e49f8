-- What is proved of made-up instances; the statement is the contract of the public function of its name.
use Rattle.std.specs.Prelude.{ℕ, ◌≤◌, None}
use Rattle.hub_spec.specs.Problem.{IsProblem}
use Rattle.file_spec.specs.Options.{australia_post}
use Rattle.file_spec.specs.Faults.{Fault}
use Rattle.file_spec.specs.Files.{HasContents}
use Rattle.file_spec.specs.Instances.{GivesInstance, GivesFault}
use Rattle.hub_make.specs.Texts.{made_text}
use Rattle.hub_make.specs.Contents.{tail_alone, made_contents, made_problem}

-- the text has just these contents; it gives the instance that they give, which is within its limits, and no fault
pub record IsReadAs (seed size : ℕ) : Type 0 where
  pub contents : HasContents australia_post tail_alone (made_text seed size) (made_contents seed size)
  pub gives : GivesInstance australia_post tail_alone (made_text seed size) None (made_problem seed size)
  pub problem : IsProblem (made_problem seed size)
  pub no_fault : (fault : Fault) → GivesFault australia_post tail_alone (made_text seed size) None fault → ⊥

-- and so it is with each seed and each size in range
abbrev pub MadeIsRead : Type 0
MadeIsRead = (seed size : ℕ) → 1 ≤ size → size ≤ 200 → IsReadAs seed size
