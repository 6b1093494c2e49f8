use Rattle.cert_scan.proofs.Finishing.{scanned_line}
use Rattle.cert_scan.proofs.scanner.Scan.line.Goals as goal

pub returns-clause-at_hand : goal.returns-clause-at_hand
returns-clause-at_hand c bytes given h few = scanned_line bytes given c.args.self.now h few
