-- What is read of a file, and what `report` answers by it.
use Rattle.std.proofs.Common.{◌≡◌, ℕ, List, Option, Ok, Err, refl}
use Rattle.hub_io.specs.Outside.{Files, HoldsMore}
use Rattle.hub_spec.specs.Problem.{Problem}
use Rattle.cert_spec.specs.Stated.{Stated}
use Rattle.cert_spec.specs.Verdicts.{Why, certificate_limit}
use Rattle.cert_checker.specs.Shows.{verdict_of, Proves, ProvesMarks}
use Rattle.cert_checker.specs.Readings.{IsReadAs}
use Rattle.cert_checker.specs.declared.tested.Tested.{Tested}
use Rattle.cert_checker.specs.declared.tested.Tested.TheVariants.{Whole}
use Rattle.cert_checker.specs.declared.verdicts.Ending.{Ending}
use Rattle.cert_checker.specs.declared.verdicts.Ending.TheVariants.{Optimal, Bounds, No, BadLine, Ended, TooLong}
use Rattle.cert_checker.proofs.TooLong.{too_long_held}
use Rattle.hub_words.specs.Requests.{Source}
use Rattle.hub_sources.specs.Told.{ToldInstance}
use Rattle.hub_commands.specs.declared.status.Status.TheVariants as status
use Rattle.hub_commands.specs.VerdictStatuses.{verdict_status}
use Rattle.hub_commands.specs.Judging.{IsReadFrom, IsReport}

pub too_long_read : (p : Problem) (t : Tested) (held : Option Files) (file : List ℕ) → HoldsMore held file certificate_limit
    → IsReadFrom p t held file (Err TooLong)
too_long_read p t held file more =
    let v = too_long_held p held file more in record { bytes = v.bytes; bytes_held = v.are_held; is = v.why }

-- an ending that refuses bytes of which all is tested is the verdict on them
refused : (p : Problem) (bytes : List ℕ) (e : Ending) → IsReadAs p Whole bytes (Err e)
    → Why p bytes (verdict_of e) × Proves p bytes (verdict_of e) × ProvesMarks p bytes (verdict_of e) × (verdict_status (verdict_of e) ≡ status.No)
refused p bytes (Optimal cost) h = absurd h
refused p bytes (Bounds bound cost) h = absurd h
refused p bytes (No kind line) h = (h, tt, tt, refl)
refused p bytes (BadLine line) h = (h, tt, tt, refl)
refused p bytes (Ended line) h = (h, tt, tt, refl)
refused p bytes TooLong h = (h, tt, tt, refl)

pub report_made : (held : Option Files) (s : Source) (file : List ℕ) (p : Problem) (k : Stated) → ToldInstance held s p
    → IsReadFrom p Whole held file (Ok k) → IsReport held s file (Ok (p, k))
report_made held s file p k told read = (
  record {
    problem = p;
    instance = told;
    bytes = read.bytes;
    bytes_held = read.bytes_held;
    not_too_long = read.is.0;
    stated = k;
    spelled = read.is.1;
    holds = read.is.2;
    text_is = refl;
  },
  read.is.2,
)

pub report_refused : (held : Option Files) (s : Source) (file : List ℕ) (p : Problem) (e : Ending) → ToldInstance held s p
    → IsReadFrom p Whole held file (Err e) → IsReport held s file (Err e)
report_refused held s file p e told read =
    let v = refused p read.bytes e read.is in
    (record { problem = p; instance = told; bytes = read.bytes; bytes_held = read.bytes_held; why = v.0; proves = v.1; marks = v.2 }, v.3)
