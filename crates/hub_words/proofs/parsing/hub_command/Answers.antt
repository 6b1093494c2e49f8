use Rattle.std.proofs.Common.{rules, codes}
use Rattle.std.proofs.lemmas.Result.{IfOk-weaker}
use Rattle.clap.specs.Words.{new_app}
use Rattle.clap.specs.Simple.{on_top}
use Rattle.hub_words.specs.Hub.{bare, check_app, demo_app, hub, make_app, optimize_app, report_app, resolve_app, solve_app}
use Rattle.hub_words.specs.Parses.{Spells}
use Rattle.hub_words.proofs.Builders.{one_more_sub}
use Rattle.hub_words.proofs.parsing.hub_command.Goals as goal

pub returns : goal.returns
unfolding hub
returns c =
    let with_solve = one_more_sub (on_top bare (new_app (codes "hub"))) solve_app _ _ _ c.bare_command.ensures c.in_ok-solve_command.ensures c.in_ok-with_solve.ensures in
    let with_optimize = one_more_sub _ optimize_app _ _ _ with_solve c.in_ok-optimize_command.ensures c.in_ok-with_optimize.ensures in
    let with_resolve = one_more_sub _ resolve_app _ _ _ with_optimize c.in_ok-resolve_command.ensures c.in_ok-with_resolve.ensures in
    let check : Spells check_app c.in_ok-certificate_command.field-0 = search rules in
    let report : Spells report_app c.in_ok-certificate_command-2.field-0 = search rules in
    let with_check = one_more_sub _ check_app _ _ _ with_resolve check c.in_ok-with_check.ensures in
    let with_report = one_more_sub _ report_app _ _ _ with_check report c.in_ok-with_report.ensures in
    let with_make = one_more_sub _ make_app _ _ _ with_report c.in_ok-make_command.ensures c.in_ok-with_make.ensures in
    IfOk-weaker c.subcommand-7.result _ _ (λ r adds. one_more_sub _ demo_app _ _ r with_make c.in_ok-demo_command.ensures adds) c.subcommand-7.ensures
