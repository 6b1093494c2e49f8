-- What a command spells after one more argument or subcommand.
use Rattle.std.proofs.Common.{◌≡◌, ℕ, ◌+◌, ◌<◌, ◌||◌, false, List, length, take, fold, get_or, map, [], ◌∷◌, refl, ◌∙◌, sym, ap₂, subst}
use Rattle.std.proofs.lemmas.List.Sums.{fold_more}
use Rattle.std.specs.Borrow.{Bor}
use Rattle.clap.specs.Words.{AddsArg, AddsSubcommand, App, Rule, Text, app_of, rule_of, with_rule, with_subcommand}
use Rattle.clap.specs.declared.builder.arg.Arg.{Arg}
use Rattle.clap.specs.declared.builder.command.Command.{Command}
use Rattle.hub_words.specs.Hub.{option_rule, with_option}
use Rattle.hub_words.specs.Parses.{Spells}

pub one_more : (app : App) (rule : Rule) (arg : Arg) (old new : Command) → Spells app old → rule_of arg ≡ rule → arg.global ≡ false
    → AddsArg old arg new → Spells (with_rule app rule) new
one_more app rule arg old new s is local adds = record {
  same = adds.shape local ∙ ap₂ with_rule s.same is;
  local = adds.globals ∙ ap₂ (λ x y. x || y) s.local local;
}

abbrev with_next : App → Bor Text → App
with_next app name = with_option app name.now

pub options_more : (start : App) (names : List (Bor Text)) (i : ℕ) (d : Bor Text) (arg : Arg) (old new : Command) → i < length names
    → Spells (fold with_next start (take i names)) old → rule_of arg ≡ option_rule (get_or names i d).now → arg.global ≡ false
    → AddsArg old arg new → Spells (fold with_next start (take (i + 1) names)) new
options_more start names i d arg old new below s is local adds =
    let P = λ (app : App). Spells app new in
    subst P (sym (fold_more with_next start names i d below)) (one_more (fold with_next start (take i names)) (option_rule (get_or names i d).now) arg old new s is local adds)

pub one_more_sub : (app part : App) (old sub new : Command) → Spells app old → Spells part sub → AddsSubcommand old sub new
    → Spells (with_subcommand app part.top) new
one_more_sub app part old sub new s p adds = record {
  same = adds.shape p.local ∙ ap₂ (λ a (b : App). with_subcommand a b.top) s.same p.same;
  local = adds.globals ∙ ap₂ (λ x y. x || y) s.local p.local;
}

each_next : (a : App) (names : List (Bor Text)) → fold with_next a names ≡ fold with_option a (map (λ name. name.now) names)
each_next a [] = refl
each_next a (name ∷ names) = each_next (with_next a name) names

pub options_named : (app : App) (names : List (Bor Text)) (given : List Text) (old new : Command) → Spells app old
    → Spells (fold with_next (app_of old) names) new → map (λ name. name.now) names ≡ given → Spells (fold with_option app given) new
options_named app names given old new s t is = record {
  same = t.same ∙ each_next (app_of old) names ∙ ap₂ (fold with_option) s.same is;
  local = t.local;
}
