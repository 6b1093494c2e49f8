use Rattle.search_steps.proofs.KindCuts.{kind_is_sound}
use Rattle.search_steps.proofs.kind_laws.parts_are_sound.Goals as goal

pub returns : goal.returns
returns c = kind_is_sound
