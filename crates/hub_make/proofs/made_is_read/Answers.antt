use Rattle.hub_make.proofs.Reading.{all_read}
use Rattle.hub_make.proofs.made_is_read.Goals as goal

pub returns : goal.returns
returns c = all_read
