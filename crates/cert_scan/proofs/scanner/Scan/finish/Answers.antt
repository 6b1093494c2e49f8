use Rattle.std.proofs.Common.{subst, sym}
use Rattle.cert_scan.specs.Scanned.{Tells}
use Rattle.cert_scan.proofs.Finishing.{scanned_tells, scanned_items}
use Rattle.cert_scan.proofs.scanner.Scan.finish.Goals as goal

pub returns-clause-tells : goal.returns-clause-tells
returns-clause-tells c bytes given h few = subst (Tells bytes) (sym c.fault_of.ensures) (scanned_tells bytes given c.args.self.now h few)

pub returns-clause-items : goal.returns-clause-items
returns-clause-items c bytes given k h spells = scanned_items bytes given c.args.self.now k h spells
