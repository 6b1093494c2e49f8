-- A leaf that was begun, with numbers that may not fall below 0.
use Rattle.std.proofs.Common.{◌≡◌, ℕ, ◌≤◌, ℤ, pos, negsuc, ◌≤ℤ◌, List, [], ◌∷◌, map, refl, sym, ap, subst, arith}
use Rattle.std.specs.List.{AllByRecursion}
use Rattle.std.specs.List.Sorted.{IsStrictlyIncreasing}
use Rattle.std.proofs.lemmas.Int.{ints}
use Rattle.std.proofs.lemmas.List.Elements.{All-from_recursion, recursion_from_All}
use Rattle.hub_spec.specs.Trees.{leaf_of}
use Rattle.hub_spec.specs.Ranges.{IsShort, IsLineInRange}
use Rattle.hub_model.specs.Amounts.{natural}
use Rattle.hub_model.specs.Mixtures.{natural_weights, IsSignedMixture}

above_0 : (z : ℤ) → 1 ≤ natural z → pos 1 ≤ℤ z
above_0 (pos n) h = omega (arith, ints)
above_0 (negsuc n) h = absurd (omega arith)

abbrev IsWeight : ℕ × ℕ → Type 0
IsWeight e = (1 ≤ e.0) × IsShort e.0 × (1 ≤ e.1) × IsShort e.1

abbrev IsNumberAboveNone : ℤ × ℤ → Type 0
IsNumberAboveNone e = pos 1 ≤ℤ e.0

abbrev IsWeightAboveNone : ℤ × ℤ → Type 0
IsWeightAboveNone e = pos 1 ≤ℤ e.1

cuts_of_weights : (w : List (ℤ × ℤ)) → map (λ (e : ℕ × ℕ). e.0) (natural_weights w) ≡ map (λ (e : ℤ × ℤ). natural e.0) w
cuts_of_weights [] = refl
cuts_of_weights (e ∷ w) = ap (λ cs. natural e.0 ∷ cs) (cuts_of_weights w)

numbers_above : (w : List (ℤ × ℤ)) → AllByRecursion IsWeight (natural_weights w) → AllByRecursion IsNumberAboveNone w
numbers_above [] h = tt
numbers_above (e ∷ w) h = (above_0 e.0 h.0.0, numbers_above w h.1)

weights_above : (w : List (ℤ × ℤ)) → AllByRecursion IsWeight (natural_weights w) → AllByRecursion IsWeightAboveNone w
weights_above [] h = tt
weights_above (e ∷ w) h = (above_0 e.1 h.0.2, weights_above w h.1)

pub signed_mixture : (d : ℕ) (z : ℤ) (w : List (ℤ × ℤ)) → z ≡ pos d → IsLineInRange 0 (leaf_of d (natural_weights w)) → IsSignedMixture z w
signed_mixture d z w is h =
    let each = recursion_from_All IsWeight (natural_weights w) h.2.each in
    record {
      denom_least = subst (λ x. pos 1 ≤ℤ x) (sym is) (let least : 1 ≤ d = h.0 in omega (arith, ints));
      numbers = All-from_recursion IsNumberAboveNone w (numbers_above w each);
      values = All-from_recursion IsWeightAboveNone w (weights_above w each);
      ascend = subst IsStrictlyIncreasing (cuts_of_weights w) h.2.ascend;
    }
