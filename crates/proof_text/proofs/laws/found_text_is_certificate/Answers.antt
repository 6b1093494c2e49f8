use Rattle.proof_text.proofs.FoundLines.{found_text_certificate}
use Rattle.proof_text.proofs.laws.found_text_is_certificate.Goals as goal

pub returns : goal.returns
returns c = found_text_certificate
