use Rattle.std.proofs.Common.{List, ℕ, refl, sym, subst}
use Rattle.hub_io.specs.Outside.{Holds}
use Rattle.hub_commands.proofs.ReadFiles.{too_long_read}
use Rattle.hub_io.proofs.Names.{begins_one}
use Rattle.hub_commands.proofs.reading.read_certificate.Goals as goal

pub returns-in_ok-read_tested-in-Ok-clause-read : goal.returns-in_ok-read_tested-in-Ok-clause-read
returns-in_ok-read_tested-in-Ok-clause-read g c =
    let held = g.S.Shelf.held c.args.shelf.now in
    let are_held = subst (λ (x : List ℕ). Holds held c.args.name.now x) (sym c.deref.ensures.value) c.in-Ok.ensures.whole in
    record { bytes = c.deref.result.now; bytes_held = are_held; is = c.in_ok-read_tested-in-Ok.ensures }

pub returns-in-Err-TooLong-clause-read : goal.returns-in-Err-TooLong-clause-read
returns-in-Err-TooLong-clause-read g c =
    too_long_read c.args.instance.now c.args.tested (g.S.Shelf.held c.args.shelf.now) c.args.name.now
    (c.in-Err-TooLong.ensures.too_long (rw c.in-Err-TooLong.field-0-is refl))

pub returns-in_ok-read_tested-in-Ok-clause-begins : goal.returns-in_ok-read_tested-in-Ok-clause-begins
returns-in_ok-read_tested-in-Ok-clause-begins g c = begins_one _ c.read_whole.ensures.begun refl

pub returns-in_err-read_tested-in-Ok-clause-begins : goal.returns-in_err-read_tested-in-Ok-clause-begins
returns-in_err-read_tested-in-Ok-clause-begins g c = begins_one _ c.read_whole.ensures.begun refl

pub returns-in-Err-TooLong-clause-begins : goal.returns-in-Err-TooLong-clause-begins
returns-in-Err-TooLong-clause-begins g c = begins_one _ c.read_whole.ensures.begun refl

pub returns-in-Err-ReadFault-clause-begins : goal.returns-in-Err-ReadFault-clause-begins
returns-in-Err-ReadFault-clause-begins g c = begins_one _ c.read_whole.ensures.begun refl

pub returns-in-Err-OutOfMemory-clause-begins : goal.returns-in-Err-OutOfMemory-clause-begins
returns-in-Err-OutOfMemory-clause-begins g c = begins_one _ c.read_whole.ensures.begun refl
