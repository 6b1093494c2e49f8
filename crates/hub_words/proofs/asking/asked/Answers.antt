use Rattle.std.proofs.Common.{◌∙◌, None, Some}
use Rattle.std.proofs.lemmas.Result.{IfOk-weaker}
use Rattle.clap.specs.Words.{found_of, rows_of}
use Rattle.hub_words.specs.Views.{texts}
use Rattle.hub_words.proofs.Entered.{asked_none, asked_with, asked_without, parsed_at}
use Rattle.hub_words.proofs.asking.asked.Goals as goal

pub returns-in_default-clause-command : goal.returns-in_default-clause-command
returns-in_default-clause-command c =
    asked_none (texts c.args.words.now) (parsed_at (texts c.args.words.now) c.in_ok-found.field-0 None c.in_default.is c.in_ok-found.ensures)

pub returns-in-Some-subcommand-clause-command : goal.returns-in-Some-subcommand-clause-command
returns-in-Some-subcommand-clause-command c =
    IfOk-weaker c.request.result _ _
    (λ command e. e ∙ asked_with (texts c.args.words.now) c.in-Some.found c.in-Some-subcommand.name.now (rows_of (found_of c.in-Some-subcommand.rest.now))
    (parsed_at (texts c.args.words.now) c.in_ok-found.field-0 (Some c.in-Some.found) c.in-Some.is c.in_ok-found.ensures)
    c.in-Some-subcommand.ensures.name c.in-Some-subcommand.ensures.rows)
    c.request.ensures.command

pub returns-clause-command : goal.returns-clause-command
returns-clause-command c =
    asked_without (texts c.args.words.now) c.in-Some.found
    (parsed_at (texts c.args.words.now) c.in_ok-found.field-0 (Some c.in-Some.found) c.in-Some.is c.in_ok-found.ensures) c.in-None.ensures.variant
