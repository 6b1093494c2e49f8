-- What the parse of the words tells where it is taken and where it is refused.
use Rattle.std.proofs.Common.{◌≡◌, true, List, [], ◌∷◌, Option, None, refl, sym, ◌∙◌, ap, subst, inl, inr}
use Rattle.clap.specs.Words.{App, HasKind, HasMatchesOf, IsAmong, Kinds, Text, is_simple, kind_of, subcommand_of, subcommand_rows_of}
use Rattle.clap.specs.Faults.{fault_of, is_simple_and_free}
use Rattle.clap.specs.declared.error.Error.{Error}
use Rattle.clap.specs.declared.error.kind.ErrorKind.{ErrorKind}
use Rattle.clap.specs.declared.error.kind.ErrorKind.TheVariants.{OutOfMemory}
use Rattle.clap.specs.declared.parser.matches.ArgMatches.{ArgMatches}
use Rattle.clap.proofs.OnLiterals.{clap_on_literals}
use Rattle.hub_words.specs.Hub.{hub}
use Rattle.hub_words.specs.Parses.{parsed, unless_fault}

is_free : is_simple_and_free hub ≡ true
unfolding hub clap_on_literals
is_free = refl

has_matches : is_simple hub ≡ true
unfolding hub clap_on_literals
has_matches = refl

no_fault : {A : Type 0} (kinds : Kinds) (found : Option A) → kinds ≡ [] → found ≡ unless_fault kinds found
no_fault kinds found e = ap (λ k. unless_fault k found) (sym e)

some_fault : {A : Type 0} (kinds : Kinds) (k : ErrorKind) (found : Option A) → IsAmong k kinds → None ≡ unless_fault kinds found
some_fault [] k found among = absurd among
some_fault (x ∷ xs) k found among = refl

taken_by_hub : (words : List Text) (m : ArgMatches) → (is_simple_and_free hub ≡ true → fault_of hub words ≡ []) → HasMatchesOf hub words m
    → subcommand_rows_of m ≡ parsed words
unfolding parsed
taken_by_hub words m free matches = (matches has_matches).1 ∙ no_fault (fault_of hub words) (subcommand_of hub words) (free is_free)

refused_by_hub : (words : List Text) (e : Error) → (is_simple_and_free hub ≡ true → HasKind (fault_of hub words) e)
    → (kind_of e ≡ OutOfMemory → ⊥) → None ≡ parsed words
unfolding parsed
refused_by_hub words e kinds other =
    elim (kinds is_free) [
      | inl memory ↦ absurd (other memory)
      | inr among ↦ some_fault (fault_of hub words) (kind_of e) (subcommand_of hub words) among
    ]

pub taken : (app : App) (words : List Text) (m : ArgMatches) → app ≡ hub → (is_simple_and_free app ≡ true → fault_of app words ≡ [])
    → HasMatchesOf app words m → subcommand_rows_of m ≡ parsed words
taken app words m e =
    subst (λ (a : App). (is_simple_and_free a ≡ true → fault_of a words ≡ []) → HasMatchesOf a words m → subcommand_rows_of m ≡ parsed words)
    (sym e) (taken_by_hub words m)

pub refused : (app : App) (words : List Text) (error : Error) → app ≡ hub
    → (is_simple_and_free app ≡ true → HasKind (fault_of app words) error) → (kind_of error ≡ OutOfMemory → ⊥) → None ≡ parsed words
refused app words error e =
    subst (λ (a : App). (is_simple_and_free a ≡ true → HasKind (fault_of a words) error) → (kind_of error ≡ OutOfMemory → ⊥) → None ≡ parsed words)
    (sym e) (refused_by_hub words error)
