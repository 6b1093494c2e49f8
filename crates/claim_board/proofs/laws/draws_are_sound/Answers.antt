use Rattle.claim_board.proofs.Runs.{sound_run}
use Rattle.claim_board.proofs.laws.draws_are_sound.Goals as goal

pub returns : goal.returns
returns c = sound_run
