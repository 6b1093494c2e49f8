use Rattle.std.proofs.Common.{◌≡◌, rules, map, refl}
use Rattle.std.proofs.lemmas.Result.{IfOk-weaker}
use Rattle.clap.specs.Words.{app_of}
use Rattle.hub_words.specs.Hub.{search_names}
use Rattle.hub_words.specs.Parses.{Spells}
use Rattle.hub_words.proofs.Builders.{options_named}
use Rattle.hub_words.proofs.parsing.search_command.Goals as goal

pub returns : goal.returns
returns c =
    let names : map (λ name. name.now) c.as_slice.result.now ≡ search_names = search rules in
    let start : Spells (app_of c.args.command) c.args.command = record { same = refl; local = c.requires } in
    IfOk-weaker c.with_options.result _ _ (λ r spells. options_named (app_of c.args.command) c.as_slice.result.now search_names c.args.command r start spells names)
    c.with_options.ensures
