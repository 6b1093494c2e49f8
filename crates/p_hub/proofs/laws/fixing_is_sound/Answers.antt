use Rattle.p_hub.proofs.WantedPlans.{sound_at}
use Rattle.p_hub.proofs.laws.fixing_is_sound.Goals as goal

pub returns : goal.returns
returns c = sound_at
