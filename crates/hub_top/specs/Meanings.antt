-- What each status says, whoever wrote: of the words, the files, the faults, and what out took.
use Rattle.std.specs.Prelude.{◌≡◌, ℕ, List, [], Option, Some, None}
use Rattle.std.specs.Io.KnownBytes.{Appends}
use Rattle.hub_io.specs.Outside.{Files}
use Rattle.file_spec.specs.Faults.{Fault}
use Rattle.hub_commands.specs.declared.status.Status.{Status}
use Rattle.hub_commands.specs.declared.status.Status.TheVariants.{Done, Stopped, No, Usage, Instance, Memory, Read, Write, Lacking}
use Rattle.hub_words.specs.Requests.{Source, Request, instance}
use Rattle.hub_sources.specs.Sources.{Blame, HasBlame, WhereTold}
use Rattle.hub_commands.specs.Instances.{LacksNetwork}
use Rattle.hub_top.specs.Answers.{Answers}
use Rattle.hub_top.specs.Outcomes.{to_solve}

-- the words are a command, and out took the text of its answer with this status
pub record Answered (asked : Option Request) (held : Option Files) (old new : Option (List ℕ)) (status : Status) : Type 0 where
  pub request : Request
  pub is_asked : asked ≡ Some request
  pub text : List ℕ
  pub answers : Answers request status held text
  pub taken : Appends old new text

-- the words are a command, a file of whose instance has a fault, and out took nothing
pub record Refused (asked : Option Request) (held : Option Files) (old new : Option (List ℕ)) : Type 0 where
  pub request : Request
  pub is_asked : asked ≡ Some request
  pub source : Source
  pub is_named : instance request ≡ Some source
  pub blame : Blame
  pub fault : Fault
  pub holds : WhereTold held (λ files. HasBlame files source blame fault)
  pub taken : Appends old new []

-- the words are a command, the shelf failed, and out took nothing
pub record Unread (asked : Option Request) (fails : Request → Type 0) (old new : Option (List ℕ)) : Type 0 where
  pub request : Request
  pub is_asked : asked ≡ Some request
  pub failed : fails request
  pub taken : Appends old new []

-- the words ask to solve an instance, by a rule or by none, or to solve it again; all candidates together are
-- infeasible for a commodity; out took nothing
pub record Networkless (asked : Option Request) (held : Option Files) (old new : Option (List ℕ)) : Type 0 where
  pub request : Request
  pub is_asked : asked ≡ Some request
  pub source : Source
  pub is_named : to_solve request ≡ Some source
  pub commodity : ℕ × ℕ
  pub lacks : LacksNetwork held source commodity
  pub taken : Appends old new []

abbrev pub Means : Option Request → Option Files → (Request → Type 0) → Option (List ℕ) → Option (List ℕ) → Type 0 → Status → Type 0
Means asked held fails old new rose Done = Answered asked held old new Done
Means asked held fails old new rose Stopped = Answered asked held old new Stopped
Means asked held fails old new rose No = Answered asked held old new No
Means asked held fails old new rose Usage = (asked ≡ None) × Appends old new []
Means asked held fails old new rose Instance = Refused asked held old new
Means asked held fails old new rose Memory = Appends old new []
Means asked held fails old new rose Read = Unread asked fails old new
Means asked held fails old new rose Write = rose
Means asked held fails old new rose Lacking = Networkless asked held old new
