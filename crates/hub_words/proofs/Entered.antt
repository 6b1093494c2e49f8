-- What the words ask for, by the subcommand that a parse entered.
use Rattle.std.proofs.Common.{◌≡◌, List, false, Option, Some, None, refl, sym, ap, ap₂, ◌∙◌}
use Rattle.std.specs.Prelude.{Box, is_some, option_and_then, option_map}
use Rattle.std.specs.Box.{box_value}
use Rattle.std.proofs.lemmas.Option.{none-some, same_Some}
use Rattle.std.proofs.lemmas.Bool.{false≢true}
use Rattle.clap.specs.Words.{Row, Text, has_subcommand, subcommand_name_of, subcommand_rows, subcommand_rows_of}
use Rattle.clap.specs.declared.parser.matches.ArgMatches.{ArgMatches}
use Rattle.clap.specs.declared.parser.matches.ArgMatches.TheViews.{out-ArgMatches, out-SubCommand}
use Rattle.clap.specs.declared.parser.matches.SubCommand.{SubCommand}
use Rattle.hub_words.specs.Parses.{parsed}
use Rattle.hub_words.specs.Words.{asked, request_asked}

entered : {Z : Type 0} (sub : Option (Box SubCommand Z)) (name : Text) (rows : List Row)
    → Some name ≡ option_map (λ b. (out-SubCommand (box_value b)).name.now) sub → Some rows ≡ option_map (λ p. p.1) (subcommand_rows sub)
    → subcommand_rows sub ≡ Some (name, rows)
entered None name rows e f = absurd (none-some _ (sym e))
entered (Some b) name rows e f =
    ap₂ (λ (n : Text) (rs : List Row). Some (n, rs)) (sym (same_Some _ _ e)) (sym (same_Some _ _ f))

not_entered : {Z : Type 0} (sub : Option (Box SubCommand Z)) → false ≡ is_some sub → subcommand_rows sub ≡ None
not_entered None e = refl
not_entered (Some b) e = absurd (false≢true e)

pub asked_none : (words : List Text) → None ≡ parsed words → None ≡ asked words
unfolding asked
asked_none words e = ap (option_and_then (λ p. request_asked p.0 p.1)) e

pub asked_without : (words : List Text) (m : ArgMatches) → subcommand_rows_of m ≡ parsed words → false ≡ has_subcommand m → None ≡ asked words
asked_without words m e without = asked_none words (sym (not_entered (out-ArgMatches m).subcommand without) ∙ e)

pub asked_with : (words : List Text) (m : ArgMatches) (name : Text) (rows : List Row) → subcommand_rows_of m ≡ parsed words
    → Some name ≡ subcommand_name_of m → Some rows ≡ option_map (λ p. p.1) (subcommand_rows_of m) → request_asked name rows ≡ asked words
unfolding asked
asked_with words m name rows e named found =
    ap (option_and_then (λ p. request_asked p.0 p.1)) (sym (entered (out-ArgMatches m).subcommand name rows named found) ∙ e)

pub parsed_at : (words : List Text) (o found : Option ArgMatches) → o ≡ found → option_and_then subcommand_rows_of o ≡ parsed words
    → option_and_then subcommand_rows_of found ≡ parsed words
parsed_at words o found is e = sym (ap (option_and_then subcommand_rows_of) is) ∙ e
