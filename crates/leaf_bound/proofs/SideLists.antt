-- The candidates that are listed with their sides.
use Rattle.std.proofs.Common.{◌≡◌, ℕ, ◌+◌, ◌<◌, List, [], ◌∷◌, ◌++◌, length, take, get_or, refl, sym, append-nil, ℤ, ◌<ℤ◌, Bool, true, false, cond, Contains, ap, ◌∙◌, subst, ⊎_elim, arith}
use Rattle.std.specs.Prelude.{Option, Some, None, filter_map, int_lt}
use Rattle.std.specs.Option.{option_map}
use Rattle.std.proofs.lemmas.List.{take_more}
use Rattle.std.proofs.lemmas.List.Elements.{filter_map-append}
use Rattle.leaf_bound.specs.declared.sides.Side.{Side}
use Rattle.std.proofs.lemmas.Int.{ints}
use Rattle.hub_spec.proofs.SumLemmas.{Contains-cons_cases, nil_contains_none}
use Rattle.hub_spec.proofs.Sets.{Contains-head, Contains-later}
use Rattle.leaf_bound.specs.declared.sides.Side.TheVariants.{In, Out}

-- ---- one candidate more

abbrev pub with_side : (ℕ → Option Side) → ℕ → Option (ℕ × Side)
with_side side k = option_map (λ (s : Side). (k, s)) (side k)

pub side_pushed : (side : ℕ → Option Side) (ks : List ℕ) (i : ℕ) (sides : List (ℕ × Side)) (s : Side) → i < length ks
    → sides ≡ filter_map (with_side side) (take i ks) → Some s ≡ side (get_or ks i 0)
    → sides ++ (get_or ks i 0, s) ∷ [] ≡ filter_map (with_side side) (take (i + 1) ks)
side_pushed side ks i sides s low so_far is =
    rw (take_more ks i 0 low, filter_map-append (with_side side) (take i ks) (get_or ks i 0 ∷ []), ← is, so_far) refl

pub side_passed : (side : ℕ → Option Side) (ks : List ℕ) (i : ℕ) (sides : List (ℕ × Side)) → i < length ks
    → sides ≡ filter_map (with_side side) (take i ks) → None ≡ side (get_or ks i 0)
    → sides ≡ filter_map (with_side side) (take (i + 1) ks)
side_passed side ks i sides low so_far is =
    rw (take_more ks i 0 low, filter_map-append (with_side side) (take i ks) (get_or ks i 0 ∷ []), ← is, so_far)
    (sym (append-nil (filter_map (with_side side) (take i ks))))

-- a node is listed with the side that it has
listed_first : (side : ℕ → Option Side) (m : ℕ) (ms : List ℕ) (k : ℕ) (s : Side) (found : Option Side) → side m ≡ found
    → (Contains (filter_map (with_side side) ms) (k, s) → Contains ms k × (side k ≡ Some s))
    → Contains (filter_map (with_side side) (m ∷ ms)) (k, s) → Contains (m ∷ ms) k × (side k ≡ Some s)
listed_first side m ms k s None is rest c =
    let there = rest (rw is at c) in (Contains-later m ms k there.0, there.1)
listed_first side m ms k s (Some t) is rest c =
    ⊎_elim
    (λ here. let same : m ≡ k = ap (λ (e : ℕ × Side). e.0) here in
    let kept : t ≡ s = ap (λ (e : ℕ × Side). e.1) here in
    (subst (Contains (m ∷ ms)) same (Contains-head m ms), ap side (sym same) ∙ is ∙ ap Some kept))
    (λ later. let there = rest later in (Contains-later m ms k there.0, there.1))
    (Contains-cons_cases (m, t) (filter_map (with_side side) ms) (k, s) (rw is at c))

pub listed : (side : ℕ → Option Side) (ks : List ℕ) (k : ℕ) (s : Side) → Contains (filter_map (with_side side) ks) (k, s)
    → Contains ks k × (side k ≡ Some s)
listed side [] k s c = nil_contains_none (k, s) c
listed side (m ∷ ms) k s c = listed_first side m ms k s (side m) refl (listed side ms k s) c

pub below : (t z : ℤ) → int_lt t z ≡ true → t <ℤ z
below t z passes = grind (arith, ints)

pub closed_first : (closed opened : Bool) → cond closed (Some In) (cond opened (Some Out) None) ≡ Some In → closed ≡ true
closed_first true opened is = refl
closed_first false true is = cc
closed_first false false is = cc

pub then_opened : (closed opened : Bool) → cond closed (Some In) (cond opened (Some Out) None) ≡ Some Out → opened ≡ true
then_opened true opened is = cc
then_opened false true is = refl
then_opened false false is = cc
