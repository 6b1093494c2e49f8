-- What clap makes of the words of the command.
use Rattle.std.specs.Prelude.{◌≡◌, List, [], ◌∷◌, false, Option, None}
use Rattle.clap.specs.Words.{App, Kinds, Row, Text, app_of, subcommand_of}
use Rattle.clap.specs.Faults.{fault_of}
use Rattle.clap.specs.declared.builder.command.Command.{Command}
use Rattle.clap.specs.declared.builder.command.Command.TheViews.{out-Command}
use Rattle.hub_words.specs.Hub.{hub}

-- the command is this one, and no argument of it is global
pub record Spells (app : App) (c : Command) : Type 0 where
  pub same : app_of c ≡ app
  pub local : (out-Command c).has_globals ≡ false

-- what was found, where there is no fault
abbrev pub unless_fault : {A : Type 0} → Kinds → Option A → Option A
unless_fault [] found = found
unless_fault (fault ∷ faults) found = None

-- the subcommand that the words name and what they give to it, where clap has no fault in them
unfoldable pub parsed : List Text → Option (Text × List Row)
parsed words = unless_fault (fault_of hub words) (subcommand_of hub words)
