use Rattle.p_hub.proofs.CountedSides.{listed_closes}
use Rattle.p_hub.proofs.laws.sides_close.Goals as goal

pub returns : goal.returns
returns c = listed_closes
