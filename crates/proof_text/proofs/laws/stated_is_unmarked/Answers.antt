use Rattle.proof_text.proofs.StatedFindings.{stated_unmarked}
use Rattle.proof_text.proofs.laws.stated_is_unmarked.Goals as goal

pub returns : goal.returns
returns c = stated_unmarked
