-- The versions of a text.
use Rattle.std.proofs.Common.{◌≡◌, ◌≢◌, ◌≤◌, ℕ, true, false, Decides, inl, inr, refl, sym, ap, ◌∙◌, eqb-true, eq-eqb, ne_eqb, nat_eq, arith}
use Rattle.std.specs.Prelude.{◌⊎◌}
use Rattle.std.proofs.lemmas.Bool.{cases_eq, or_cases, or_left, or_right}
use Rattle.hub_spec.specs.Certificates.{Proof}
use Rattle.hub_spec.specs.Ranges.{IsFirst, IsVersionOf}
use Rattle.cert_spec.specs.Stated.{IsLater, IsThird, as_second, in_second}
use Rattle.cert_spec.specs.Text.{is_first}
use Rattle.cert_spec.specs.Reading.{is_later, is_third}

-- a later version is not the first, and there are three
pub later_not_first : (v : ℕ) → IsLater v → v ≡ 1 → ⊥
later_not_first v later first = elim later [ inl two ↦ omega (arith, first, two) | inr three ↦ omega (arith, first, three) ]

pub later_most : (v : ℕ) → IsLater v → v ≤ 3
later_most v later = elim later [ inl two ↦ omega (arith, two) | inr three ↦ omega (arith, three) ]

pub first_is_no_later : (v : ℕ) → IsLater v → is_first v ≡ false
first_is_no_later v later = ne_eqb v 1 (later_not_first v later)

-- the third is a later one
pub third_is_later : (v : ℕ) → IsThird v → IsLater v
third_is_later v third = inr third

pub later_decides : (v : ℕ) → Decides (is_later v) (IsLater v)
later_decides v = (
  λ e. elim (or_cases (nat_eq v 2) (nat_eq v 3) e) [ inl two ↦ inl (eqb-true v 2 two) | inr three ↦ inr (eqb-true v 3 three) ],
  λ h. elim h [
    | inl two ↦ or_left (nat_eq v 2) (nat_eq v 3) (eq-eqb v 2 two)
    | inr three ↦ or_right (nat_eq v 2) (nat_eq v 3) (eq-eqb v 3 three)
  ],
)

pub third_decides : (v : ℕ) → Decides (is_third v) (IsThird v)
third_decides v = (eqb-true v 3, eq-eqb v 3)

-- ---- a version as the second says it

as_second_cases : (v : ℕ) → ((v ≡ 3) × (as_second v ≡ 2)) ⊎ ((v ≢ 3) × (as_second v ≡ v))
as_second_cases v = elim (cases_eq v 3) [
  | inl same ↦ inl (same, let test : nat_eq v 3 ≡ true = eq-eqb v 3 same in rw test refl)
  | inr other ↦ inr (other, let test : nat_eq v 3 ≡ false = ne_eqb v 3 other in rw test refl)
]

-- the version that says what a proof in range says: the first, or a later one
abbrev pub SaysProof : Proof → Type 0
SaysProof k = ((k.version ≡ 1) × IsFirst k) ⊎ IsLater k.version

pub version_said : (k : Proof) → IsVersionOf (in_second k) → SaysProof k
version_said k (inl first) = elim (as_second_cases k.version) [
  | inl third ↦ absurd (omega (arith, first.0, third.1))
  | inr other ↦ inl (sym other.1 ∙ first.0, record { cuts = first.1.cuts; tree = first.1.tree })
]
version_said k (inr second) = elim (as_second_cases k.version) [
  | inl third ↦ inr (inr third.0)
  | inr other ↦ inr (inl (sym other.1 ∙ second))
]

pub version_in_second : (k : Proof) → SaysProof k → IsVersionOf (in_second k)
version_in_second k (inl first) = inl (ap as_second first.0, record { cuts = first.1.cuts; tree = first.1.tree })
version_in_second k (inr (inl second)) = inr (ap as_second second)
version_in_second k (inr (inr third)) = inr (ap as_second third)
