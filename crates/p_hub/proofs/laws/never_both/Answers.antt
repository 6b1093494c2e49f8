use Rattle.p_hub.proofs.CountedSides.{not_both}
use Rattle.p_hub.proofs.laws.never_both.Goals as goal

pub returns : goal.returns
returns c = not_both
