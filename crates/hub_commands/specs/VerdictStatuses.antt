-- The number of each status, with which the program ends.
use Rattle.std.specs.Prelude.{ℕ}
use Rattle.cert_spec.specs.Verdicts.{Verdict, optimal, bounds}
use Rattle.hub_words.specs.Requests.{check, report}
use Rattle.hub_commands.specs.declared.status.Status.{Status}
use Rattle.hub_commands.specs.declared.status.Status.TheVariants.{Done, Stopped, No, Lacking, Usage, Instance, Memory, Read, Write}

-- of a verdict of `check`
abbrev pub verdict_status : Verdict → Status
verdict_status (optimal cost) = Done
verdict_status (bounds bound cost) = Stopped
verdict_status verdict = No

-- of a verdict of `report`, which reports the network only where the bytes certify
abbrev pub report_status : Verdict → Status
report_status (optimal cost) = Done
report_status (bounds bound cost) = Done
report_status verdict = No

abbrev pub number_of : Status → ℕ
number_of Done = 0
number_of Stopped = 1
number_of No = 2
number_of Usage = 3
number_of Instance = 4
number_of Memory = 5
number_of Read = 6
number_of Write = 7
number_of Lacking = 8
