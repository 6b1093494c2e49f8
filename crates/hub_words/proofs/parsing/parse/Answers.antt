use Rattle.std.proofs.Common.{◌∙◌}
use Rattle.clap.specs.Words.{app_of}
use Rattle.hub_words.specs.Views.{texts}
use Rattle.hub_words.proofs.Parses.{taken, refused}
use Rattle.hub_words.proofs.parsing.parse.Goals as goal

pub returns-in-Ok : goal.returns-in-Ok
returns-in-Ok c =
    taken (app_of c.in_ok-command.command) (texts c.args.words.now) c.in-Ok.found c.in_ok-command.ensures.same c.in-Ok.ensures.kinds
    c.in-Ok.ensures.matches

pub returns : goal.returns
returns c =
    refused (app_of c.in_ok-command.command) (texts c.args.words.now) c.in-Err.error c.in_ok-command.ensures.same c.in-Err.ensures.kinds
    (λ memory. c.in_default.not-OutOfMemory (c.kind.ensures ∙ memory))
