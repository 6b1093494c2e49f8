use Rattle.cert_scan.proofs.AtOnce.{proof_gives}
use Rattle.cert_scan.proofs.scanner.Scan.begin_proof.Goals as goal

pub returns : goal.returns
returns c = proof_gives c.args.self.now c.args.at c.args.bytes.now c.in-Some.front c.requires c.in-Some.ensures
