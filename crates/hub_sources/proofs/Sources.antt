-- The sources of fixed costs that the words allow are those that an instance is built from.
use Rattle.std.proofs.Common.{◌≡◌, ℕ, List, Option, Some, None, refl, subst}
use Rattle.std.specs.Prelude.{IsSome}
use Rattle.text_spec.specs.Tokens.{Token, tokens_of}
use Rattle.file_spec.specs.Options.{Layout, cab_matrix, cab_rows, australia_post, Tail, tail_ignored, tail_costs, Options}
use Rattle.file_spec.specs.Contents.{Contents}
use Rattle.file_spec.specs.Files.{tail_of, file_contents, HasContents}
use Rattle.hub_model.specs.Building.{IsOneSource}
use Rattle.hub_words.specs.Requests.{Source, AreSources}

-- a tail lists costs only where the options ask for them
tail_some : (tail : Tail) (n : ℕ) (tokens : List Token) (first : ℕ) → IsSome (tail_of tail n tokens first) → tail ≡ tail_costs
tail_some tail_ignored n tokens first some = cc
tail_some tail_costs n tokens first some = refl

contents_some : (layout : Layout) (o : Options) (tokens : List Token) → IsSome ((file_contents layout o tokens).costs) → o.tail ≡ tail_costs
unfolding file_contents
contents_some cab_matrix o tokens some = cc
contents_some cab_rows o tokens some = cc
contents_some australia_post o tokens some = tail_some o.tail _ tokens _ some

listed_costs : (layout : Layout) (o : Options) (bytes : List ℕ) (c : Contents) → HasContents layout o bytes c → IsSome c.costs → o.tail ≡ tail_costs
listed_costs layout o bytes c has some =
    let P : Contents → Type 0 = λ x. IsSome x.costs in
    contents_some layout o (tokens_of bytes) (subst P has.is some)

none_or_some : (costs : Option (List ℕ)) → (IsSome costs → ⊥) → costs ≡ None
none_or_some None h = refl
none_or_some (Some x) h = absurd (h refl)

pub one_source : (s : Source) (bytes : List ℕ) (c : Contents) (costs : Option (List ℕ)) → AreSources s
    → HasContents s.layout s.options bytes c → (IsSome costs → IsSome s.costs) → IsOneSource costs c.costs s.options.fixed
one_source s bytes c costs sources has named = record {
  no_tail = λ some. none_or_some c.costs (λ listed. sources.no_tail (named some) (listed_costs s.layout s.options bytes c has listed));
  not_fixed = λ some. sources.not_fixed (named some);
  not_fixed_too = λ listed. sources.not_fixed_too (listed_costs s.layout s.options bytes c has listed);
}
