-- The names that calls on a shelf begin, one call after another.
use Rattle.std.proofs.Common.{◌≡◌, ℕ, List, [], ◌∷◌, ◌++◌, Option, None, Some, refl, sym, ap, ◌∙◌, append-nil, append_assoc}
use Rattle.std.specs.Prelude.{option_map}
use Rattle.std.proofs.lemmas.List.Elements.{All-nil, All-cons, All-append, All-weaker}
use Rattle.hub_io.specs.Outside.{with_name, BeginsOnly}

none_more : (names : Option (List (List ℕ))) → names ≡ option_map (λ begun. begun ++ []) names
none_more None = refl
none_more (Some begun) = ap (λ (x : List (List ℕ)). Some x) (sym (append-nil begun))

both_more : (first second : List (List ℕ)) (names : Option (List (List ℕ)))
    → option_map (λ begun. begun ++ second) (option_map (λ begun. begun ++ first) names) ≡ option_map (λ begun. begun ++ (first ++ second)) names
both_more first second None = refl
both_more first second (Some begun) = ap (λ (x : List (List ℕ)). Some x) (append_assoc begun first second)

-- no name was begun
pub begins_none : {may : List ℕ → Type 0} {before now : Option (List (List ℕ))} → now ≡ before → BeginsOnly may before now
begins_none {may} {before} {now} same = record { names = []; more = same ∙ none_more before; each = All-nil may }

-- one name was
pub begins_one : {may : List ℕ → Type 0} (name : List ℕ) {before now : Option (List (List ℕ))} → now ≡ with_name name before → may name
    → BeginsOnly may before now
begins_one {may} name {before} {now} is here = record { names = name ∷ []; more = is; each = All-cons may name [] here (All-nil may) }

-- by one call after another
pub begins_then : {may : List ℕ → Type 0} {before mid now : Option (List (List ℕ))} → BeginsOnly may before mid → BeginsOnly may mid now
    → BeginsOnly may before now
begins_then {may} {before} {mid} {now} first second = record {
  names = first.names ++ second.names;
  more = second.more ∙ ap (option_map (λ begun. begun ++ second.names)) first.more ∙ both_more first.names second.names before;
  each = All-append may first.names second.names first.each second.each;
}

pub begins_more : {may other : List ℕ → Type 0} {before now : Option (List (List ℕ))} → ((name : List ℕ) → may name → other name)
    → BeginsOnly may before now → BeginsOnly other before now
begins_more {may} {other} to begins = record { names = begins.names; more = begins.more; each = All-weaker may other to begins.names begins.each }
