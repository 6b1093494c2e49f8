-- Values of nodes above 0, listed one by one, with signed values as a dual is made of them.
use Rattle.std.proofs.Common.{◌≡◌, ℕ, ◌+◌, ◌<◌, ◌≤◌, ◌^◌, ℤ, pos, ◌≤ℤ◌, FitsSigned, to_z, of_z, nat_eq, List, [], ◌∷◌, ◌++◌, length, get_or, take, map, refl, ap, ap₂, sym, subst, ◌∙◌, rules, arith}
use Rattle.std.specs.Int.{w128}
use Rattle.std.specs.List.Sorted.{IsStrictlyIncreasing}
use Rattle.std.proofs.lemmas.Int.{ints, to_z-of_z}
use Rattle.std.proofs.lemmas.List.{take_more, take_all}
use Rattle.std.proofs.lemmas.List.Elements.{All-map, All-weaker}
use Rattle.hub_spec.specs.Separation.{values_listed, AreListedValues}
use Rattle.hub_spec.proofs.SumLemmas.{by_test}
use Rattle.hub_spec.proofs.SetCutFunction.{IsListed, all_listed, listed_ascends}
use Rattle.hub_model.specs.Prices.{natural_values, signed_values, AreSignedPrices}

-- a signed number that is handed on, as the natural number that it is
pub as_natural : (z : ℤ) (n : ℕ) → z ≡ pos n → n < 2 ^ 127 → to_z w128 (of_z w128 z) ≡ pos n
as_natural z n e low =
    let fits : FitsSigned w128 z = rw e (small n low) in
    to_z-of_z w128 z fits ∙ e
  where
    small : (n : ℕ) → n < 2 ^ 127 → FitsSigned w128 (pos n)
    small n low = search (rules, arith)

-- ---- one value more

listed_append : (v : ℕ → ℕ) (ks : List ℕ) (k : ℕ) → values_listed v (ks ++ k ∷ []) ≡ values_listed v ks ++ values_listed v (k ∷ [])
listed_append v [] k = refl
listed_append v (m ∷ ms) k =
    let rest = listed_append v ms k in
    by_test (nat_eq (v m) 0) (λ e. rw e rest) (λ e. rw e (ap (λ es. (m, v m) ∷ es) rest))

signed_append : (es fs : List (ℕ × ℕ)) → signed_values (es ++ fs) ≡ signed_values es ++ signed_values fs
signed_append [] fs = refl
signed_append (e ∷ es) fs = ap (λ xs. (e.0, pos e.1) ∷ xs) (signed_append es fs)

-- these are the values of the first i nodes
pub record AreListedUpTo (v : ℕ → ℕ) (ks : List ℕ) (i : ℕ) (u : List (ℕ × ℤ)) : Type 0 where
  pub are : u ≡ signed_values (values_listed v (take i ks))

pub listed_none : (v : ℕ → ℕ) (ks : List ℕ) → AreListedUpTo v ks 0 []
listed_none v ks = record { are = refl }

pub listed_more : (v : ℕ → ℕ) (ks : List ℕ) (i k n : ℕ) (u w : List (ℕ × ℤ)) → i < length ks → k ≡ get_or ks i 0 → n ≡ v k
    → w ≡ u ++ signed_values (values_listed (λ _. n) (k ∷ [])) → AreListedUpTo v ks i u → AreListedUpTo v ks (i + 1) w
listed_more v ks i k n u w below node value grown so_far =
    let one : values_listed (λ _. n) (k ∷ []) ≡ values_listed v (get_or ks i 0 ∷ []) =
    rw value refl ∙ ap (λ m. values_listed v (m ∷ [])) node in
    record {
      are = grown
          ∙ ap₂ (λ (xs ys : List (ℕ × ℤ)). xs ++ ys) so_far.are (ap signed_values one)
          ∙ sym (signed_append (values_listed v (take i ks)) (values_listed v (get_or ks i 0 ∷ [])))
          ∙ sym (ap signed_values (listed_append v (take i ks) (get_or ks i 0)))
          ∙ sym (ap (λ ms. signed_values (values_listed v ms)) (take_more ks i 0 below));
    }

pub listed_all : (v : ℕ → ℕ) (ks : List ℕ) (i : ℕ) (u : List (ℕ × ℤ)) → length ks ≤ i → AreListedUpTo v ks i u
    → u ≡ signed_values (values_listed v ks)
listed_all v ks i u long so_far = so_far.are ∙ ap (λ ms. signed_values (values_listed v ms)) (take_all i ks long)

-- ---- what the list is like

pub listed_same : (v w : ℕ → ℕ) (ks : List ℕ) → ((k : ℕ) → v k ≡ w k) → values_listed v ks ≡ values_listed w ks
listed_same v w [] same = refl
listed_same v w (k ∷ ks) same =
    let rest = listed_same v w ks same in
    by_test (nat_eq (w k) 0) (λ e. rw (same k, e) rest)
    (λ e. rw (same k, e) (ap (λ es. (k, w k) ∷ es) rest))

firsts_kept : (es : List (ℕ × ℕ)) → map (λ (e : ℕ × ℕ). e.0) es ≡ map (λ (e : ℕ × ℤ). e.0) (signed_values es)
firsts_kept [] = refl
firsts_kept (e ∷ es) = ap (λ ks. e.0 ∷ ks) (firsts_kept es)

pub listed_again : (es : List (ℕ × ℕ)) → natural_values (signed_values es) ≡ es
listed_again [] = refl
listed_again (e ∷ es) = ap (λ xs. e ∷ xs) (listed_again es)

pub values_are_listed : (v : ℕ → ℕ) (ks : List ℕ) → IsStrictlyIncreasing ks → AreListedValues (values_listed v ks)
values_are_listed v ks up = record {
  values = All-weaker (IsListed v ks) (λ (e : ℕ × ℕ). 1 ≤ e.1) (λ e l. l.least) (values_listed v ks) (all_listed v ks);
  ascend = listed_ascends v ks up;
}

-- values as a dual lists them are those of a dual of any price
pub signed_listed : (a : ℕ) (u : List (ℕ × ℕ)) → AreListedValues u → AreSignedPrices (pos a) (signed_values u)
signed_listed a u are = record {
  price = omega (arith, ints);
  values = All-map (λ (e : ℕ × ℤ). pos 1 ≤ℤ e.1) (λ (e : ℕ × ℕ). (e.0, pos e.1)) u
      (All-weaker (λ (e : ℕ × ℕ). 1 ≤ e.1) (λ (e : ℕ × ℕ). pos 1 ≤ℤ pos e.1) (λ e l. omega (arith, ints, l)) u are.values);
  ascend = subst IsStrictlyIncreasing (firsts_kept u) are.ascend;
}
