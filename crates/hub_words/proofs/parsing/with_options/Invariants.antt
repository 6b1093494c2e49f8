use Rattle.std.proofs.Common.{fold, take}
use Rattle.clap.specs.Words.{app_of}
use Rattle.hub_words.specs.Hub.{with_option}
use Rattle.hub_words.specs.Parses.{Spells}
use Rattle.hub_words.proofs.parsing.with_options.Given as goal

abbrev pub invariant-loop-name : goal.invariant-loop-name
invariant-loop-name l = Spells (fold (λ app name. with_option app name.now) (app_of l.fn.command) (take l.name-index l.names)) l.command
