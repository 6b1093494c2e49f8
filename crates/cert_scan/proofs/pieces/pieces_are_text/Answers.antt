use Rattle.cert_scan.proofs.Passing.{pieces_are_text_lem}
use Rattle.cert_scan.proofs.pieces.pieces_are_text.Goals as goal

pub returns : goal.returns
returns c = pieces_are_text_lem
