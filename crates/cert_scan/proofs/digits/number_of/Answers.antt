use Rattle.std.proofs.Common.{refl}
use Rattle.cert_scan.proofs.digits.number_of.Goals as goal

pub returns-clause-number : goal.returns-clause-number
returns-clause-number c =
    record { digits = c.args.digits; room = c.requires.room; spells = c.requires.spells; byte = c.in_ok-last.ensures; ends = refl }
