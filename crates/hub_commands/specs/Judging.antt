-- What is read of a file, and what `report` answers.
use Rattle.std.specs.Prelude.{◌≡◌, ℕ, List, Option, Result, Ok, Err}
use Rattle.hub_io.specs.Outside.{Files, Holds}
use Rattle.hub_spec.specs.Problem.{Problem}
use Rattle.cert_spec.specs.Stated.{Stated, IsStatedOf}
use Rattle.file_spec.specs.Faults.{Fault}
use Rattle.cert_checker.specs.Shows.{verdict_of}
use Rattle.cert_checker.specs.Readings.{IsReadAs}
use Rattle.cert_checker.specs.declared.tested.Tested.{Tested}
use Rattle.cert_checker.specs.declared.verdicts.Ending.{Ending}
use Rattle.network_report.specs.Texts.{report_text}
use Rattle.hub_words.specs.Requests.{Source}
use Rattle.hub_sources.specs.Sources.{Blame}
use Rattle.hub_commands.specs.declared.status.Status.TheVariants.{No}
use Rattle.hub_commands.specs.Checks.{JudgesFile, ReportsFile}
use Rattle.hub_commands.specs.VerdictStatuses.{verdict_status}

-- the file holds bytes that are read so
pub record IsReadFrom (p : Problem) (tested : Tested) (held : Option Files) (file : List ℕ) (read : Result Stated Ending) : Type 0 where
  pub bytes : List ℕ
  pub bytes_held : Holds held file bytes
  pub is : IsReadAs p tested bytes read

-- no file of the instance is blamed here
abbrev pub IsNoFault : Blame → Fault → Type 0
IsNoFault blame fault = ⊥

-- what `report` answers
abbrev pub IsReport : Option Files → Source → List ℕ → Result (Problem × Stated) Ending → Type 0
IsReport held s file (Ok (p, k)) = ReportsFile held s file (report_text p k.proof) × IsStatedOf p k
IsReport held s file (Err ending) = JudgesFile held s file (verdict_of ending) × (verdict_status (verdict_of ending) ≡ No)
