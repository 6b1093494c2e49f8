use Rattle.hub_io.proofs.Names.{begins_one}
use Rattle.std.proofs.Common.{refl}
use Rattle.hub_commands.proofs.checking.check_file.Goals as goal

pub returns-in-Ok-clause-begins : goal.returns-in-Ok-clause-begins
returns-in-Ok-clause-begins g c = begins_one _ c.check_held.ensures.begun refl

pub returns-in-Err-ReadFault-clause-begins : goal.returns-in-Err-ReadFault-clause-begins
returns-in-Err-ReadFault-clause-begins g c = begins_one _ c.check_held.ensures.begun refl

pub returns-in-Err-OutOfMemory-clause-begins : goal.returns-in-Err-OutOfMemory-clause-begins
returns-in-Err-OutOfMemory-clause-begins g c = begins_one _ c.check_held.ensures.begun refl
