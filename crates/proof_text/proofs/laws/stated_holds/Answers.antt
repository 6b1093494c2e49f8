use Rattle.proof_text.proofs.StatedFindings.{stated_is_of, proved_in_range}
use Rattle.proof_text.proofs.laws.stated_holds.Goals as goal

pub returns : goal.returns
returns c = λ v p found tree ok h is. (stated_is_of v p found tree h is, proved_in_range v p found tree h is)
