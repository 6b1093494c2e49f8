use Rattle.std.proofs.Common.{◌≡◌, rules, codes, fold, map}
use Rattle.std.proofs.lemmas.Result.{IfOk-weaker}
use Rattle.clap.specs.Words.{app_of}
use Rattle.hub_words.specs.Hub.{flag_rule, instance_words, option_names, with_word}
use Rattle.hub_words.proofs.Builders.{one_more, options_named}
use Rattle.hub_words.proofs.parsing.instance_command.Goals as goal

pub returns : goal.returns
returns c =
    let names : map (λ name. name.now) c.as_slice.result.now ≡ option_names = search rules in
    let optional = options_named (fold with_word (app_of c.args.command) instance_words) c.as_slice.result.now option_names _ _
    c.in_ok-named.ensures c.in_ok-optional.ensures names in
    IfOk-weaker c.arg.result _ _
    (λ r adds. one_more _ (flag_rule (codes "no-self")) c.flag.result _ r optional c.flag.ensures.rule c.flag.ensures.local adds) c.arg.ensures
