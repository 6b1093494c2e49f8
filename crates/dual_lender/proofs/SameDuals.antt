-- What the test of two duals as lists of numbers says.
use Rattle.std.proofs.Common.{◌≡◌, ℕ, ℤ, Bool, IsTrue, ◌↔◌, ◌&&◌, List, nat_eq, Decides, sym, ap, ap₂, ◌∙◌}
use Rattle.std.proofs.Common.{int_eq}
use Rattle.std.specs.Cmp.Lexicographic.{pointwise}
use Rattle.std.proofs.lemmas.Bool.{and_parts, and_from}
use Rattle.std.proofs.lemmas.Bool.Decides.{Decides-eqb, Decides-int_eq}
use Rattle.std.proofs.lemmas.Slice.Eq.{slice_eq-Decides}
use Rattle.hub_spec.specs.Cuts.{Prices}
use Rattle.hub_model.specs.Prices.{natural_values, signed_values}
use Rattle.hub_model.proofs.ListedValues.{listed_again}

abbrev same_entry : ℕ × ℤ → ℕ × ℤ → Bool
same_entry x y = nat_eq x.0 y.0 && int_eq x.1 y.1

entries_told : (x y : ℕ × ℤ) → Decides (same_entry x y) (x ≡ y)
entries_told x y =
    let node = Decides-eqb x.0 y.0 in
    let value = Decides-int_eq x.1 y.1 in (
      λ e. (let both = and_parts (nat_eq x.0 y.0) (int_eq x.1 y.1) e in ap₂ (λ (k : ℕ) (z : ℤ). (k, z)) (node.0 both.0) (value.0 both.1)),
      λ e. and_from (nat_eq x.0 y.0) (int_eq x.1 y.1) (node.1 (ap (λ (p : ℕ × ℤ). p.0) e)) (value.1 (ap (λ (p : ℕ × ℤ). p.1) e)),
    )

pub same_duals : (d e : Prices) (u w : List (ℕ × ℤ)) (told : Bool) → u ≡ signed_values d.u → w ≡ signed_values e.u → d.a ≡ e.a
    → told ≡ pointwise same_entry u w → IsTrue told ↔ (d ≡ e)
same_duals d e u w told first second price is =
    let lists = slice_eq-Decides entries_told u w told is in
    let back : u ≡ w → d.u ≡ e.u = λ same. sym (listed_again d.u) ∙ ap natural_values (sym first ∙ same ∙ second) ∙ listed_again e.u in (
      λ yes. (let listed = back (lists.0 yes) in ap₂ (λ (a : ℕ) (v : List (ℕ × ℕ)). record { a = a; u = v }) price listed),
      λ same. lists.1 (first ∙ ap (λ (x : Prices). signed_values x.u) same ∙ sym second),
    )
