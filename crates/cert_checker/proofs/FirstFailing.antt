-- The first dual that is not feasible, where each is tried by itself.
use Rattle.std.proofs.Common.{◌≡◌, ℕ, zero, suc, ◌+◌, ◌<◌, ◌≤◌, Bool, true, false, ◌↔◌, List, [], ◌∷◌, length, Option, Some, None, ⊎_elim, refl, subst, arith}
use Rattle.std.specs.List.{AllZip, range_with_len, slice_get}
use Rattle.std.specs.Option.{MatchOption}
use Rattle.std.proofs.lemmas.Bool.{cases_eq}
use Rattle.rayon.specs.Lists.{filter_by_mask}
use Rattle.hub_spec.specs.Problem.{Problem}
use Rattle.hub_spec.specs.Cuts.{Prices}
use Rattle.cert_checker.specs.Duals.{IsDualAt, IsFirstFailing}

-- the answer is false just where the dual of this number is feasible
abbrev pub IsAnswer : Problem → ℕ → List Prices → ℕ → Bool → Type 0
IsAnswer p part duals t b = (b ≡ false) ↔ IsDualAt p part duals t

module _ (p : Problem) (part : ℕ) (duals : List Prices) where
  -- from this number on that is the first that is not feasible; where there is none, all are
  abbrev IsFirstFrom : ℕ → Option ℕ → Type 0
  IsFirstFrom t first =
      MatchOption first ((s : ℕ) → t ≤ s → s < length duals → IsDualAt p part duals s)
      (λ f. (t ≤ f) × (f < length duals) × ((s : ℕ) → t ≤ s → s < f → IsDualAt p part duals s) × (IsDualAt p part duals f → ⊥))

  behind_one : (t : ℕ) (first : Option ℕ) → IsDualAt p part duals t → IsFirstFrom (t + 1) first → IsFirstFrom t first
  behind_one t None here h = λ s low within.
      ⊎_elim (λ (same : t ≡ s). subst (IsDualAt p part duals) same here) (λ apart. h s (omega (arith, low, apart)) within) (cases_eq t s)
  behind_one t (Some f) here h = (
    omega (arith, h.0),
    h.1,
    (λ s low less. ⊎_elim (λ (same : t ≡ s). subst (IsDualAt p part duals) same here) (λ apart. h.2 s (omega (arith, low, apart)) less) (cases_eq t s)),
    h.3,
  )

  next_from : (t : ℕ) (xs : List ℕ) (b : Bool) (bs : List Bool) → t < length duals → AllZip (IsAnswer p part duals) (t ∷ xs) (b ∷ bs)
      → (AllZip (IsAnswer p part duals) xs bs → IsFirstFrom (t + 1) (slice_get (filter_by_mask xs bs) 0))
      → IsFirstFrom t (slice_get (filter_by_mask (t ∷ xs) (b ∷ bs)) 0)
  next_from t xs true bs within h later =
      (omega arith, within, (λ s low less. absurd (omega (arith, low, less))), λ dual. (let e = h.0.1 dual in absurd (cc)))
  next_from t xs false bs within h later = behind_one t (slice_get (filter_by_mask xs bs) 0) (h.0.0 refl) (later h.1)

  first_from : (k t : ℕ) (bs : List Bool) → t + k ≡ length duals → AllZip (IsAnswer p part duals) (range_with_len t k) bs
      → IsFirstFrom t (slice_get (filter_by_mask (range_with_len t k) bs) 0)
  first_from zero t bs all h = λ s low within. absurd (omega (arith, all, low, within))
  first_from (suc k) t [] all h = absurd h
  first_from (suc k) t (b ∷ bs) all h =
      next_from t (range_with_len (t + 1) k) b bs (omega (arith, all)) h (first_from k (t + 1) bs (omega (arith, all)))

  from_first : (first : Option ℕ) → IsFirstFrom 0 first → IsFirstFailing p part duals first
  from_first None h = λ s within. h s (omega arith) within
  from_first (Some f) h = record { within = h.1; before = λ s less. h.2 s (omega arith) less; here = h.3 }

-- where all were tried
pub first_of_all : (p : Problem) (part : ℕ) (duals : List Prices) (bs : List Bool) (n : ℕ) → n ≡ length duals
    → AllZip (IsAnswer p part duals) (range_with_len 0 n) bs → IsFirstFailing p part duals (slice_get (filter_by_mask (range_with_len 0 n) bs) 0)
first_of_all p part duals bs n all h =
    from_first p part duals (slice_get (filter_by_mask (range_with_len 0 n) bs) 0) (first_from p part duals n 0 bs (omega (arith, all)) h)
