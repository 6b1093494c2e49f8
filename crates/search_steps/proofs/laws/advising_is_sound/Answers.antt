use Rattle.search_steps.proofs.MasterNumbers.{advising_sound}
use Rattle.search_steps.proofs.laws.advising_is_sound.Goals as goal

pub returns : goal.returns
returns c = advising_sound
