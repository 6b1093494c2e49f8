use Rattle.std.proofs.Common.{refl}
use Rattle.hub_io.proofs.Names.{begins_one}
use Rattle.hub_sources.proofs.files.read_file.Goals as goal

pub returns-in-Ok-clause-begins : goal.returns-in-Ok-clause-begins
returns-in-Ok-clause-begins g c = begins_one _ c.read_whole.ensures.begun refl

pub returns-in-Err-clause-begins : goal.returns-in-Err-clause-begins
returns-in-Err-clause-begins g c = begins_one _ c.read_whole.ensures.begun refl
