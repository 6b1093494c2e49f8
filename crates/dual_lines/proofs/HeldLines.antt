-- What a line holds when a dual begins and when a value is listed.
use Rattle.std.proofs.Common.{◌≡◌, ◌≢◌, ℕ, ◌*◌, ◌<◌, ◌≤◌, ◌⊎◌, inl, inr, List, [], ◌∷◌, ◌++◌, length, map, set, slice_index, All, Bool, true, Some, IsTrue, ◌↔◌, ⊎_elim, refl, ap, sym, subst, ◌∙◌, arith}
use Rattle.std.specs.List.Sorted.{IsStrictlyIncreasing}
use Rattle.std.proofs.lemmas.Bool.{cases_eq}
use Rattle.std.proofs.lemmas.List.{get_or-set_same, get_or-set_other, map_push, length-map}
use Rattle.std.proofs.lemmas.List.Elements.{All-nil, All-push, All-pop, All-map, All-contains, All-get_or, All-from_get_or}
use Rattle.hub_spec.specs.Problem.{Problem}
use Rattle.hub_spec.specs.Cuts.{value_at}
use Rattle.hub_spec.specs.Ranges.{IsAmount, IsDualInRange}
use Rattle.hub_spec.proofs.Ascending.{ascend_nil, ascend_push}
use Rattle.hub_spec.proofs.Limits.{few_candidates}
use Rattle.hub_spec.proofs.ListedValues.{push_other, push_fresh}
use Rattle.hub_model.specs.CandidateLengths.{candidate_at}
use Rattle.dual_lines.specs.Units.{most_unit, AreUnits}
use Rattle.dual_lines.specs.Places.{ArePlaces, IsPlaceOf, IsWithinListed}
use Rattle.dual_lines.specs.LineParts.{AreAmounts, HasPlace}

-- ---- a dual begins

pub range_begun : (n a : ℕ) → IsAmount a → IsDualInRange n (record { a = a; u = [] })
range_begun n a low = record {
  a = low;
  ascend = ascend_nil;
  each = All-nil (λ (e : ℕ × ℕ). (e.0 < n) × (1 ≤ e.1) × IsAmount e.1);
}

pub amounts_begun : (n : ℕ) (amounts : List ℕ) → length amounts ≡ n → ((k : ℕ) → slice_index amounts k ≡ 0) → AreAmounts n [] amounts
amounts_begun n amounts long none = record { long = long; each = none }

pub units_begun : (p : Problem) (w : ℕ) (units : List ℕ) → length units ≡ length p.candidates
    → ((x : ℕ) → x < length units → slice_index units x ≡ 0) → AreUnits p w (value_at []) units
units_begun p w units long none = record {
  long = long;
  limit = All-from_get_or (λ v. v ≤ most_unit) units 0 (λ x below. omega (arith, none x below));
  all = λ x below. omega (arith, ap (λ (v : ℕ). w * v) (none x (omega (arith, below, long))));
  one = λ x below. omega (arith, none x (omega (arith, below, long)));
}

pub candidates_begun : (p : Problem) (places : List ℕ) → IsTrue true ↔ All (λ (e : ℕ × ℕ). HasPlace p places e.0) []
candidates_begun p places = (λ _. All-nil (λ (e : ℕ × ℕ). HasPlace p places e.0), λ _. refl)

-- ---- a value is listed

pub range_listed : (n a : ℕ) (u : List (ℕ × ℕ)) (k v : ℕ) → k < n → All (λ (e : ℕ × ℕ). e.0 < k) u → 1 ≤ v → IsAmount v
    → IsDualInRange n (record { a = a; u = u }) → IsDualInRange n (record { a = a; u = u ++ (k, v) ∷ [] })
range_listed n a u k v node fresh some low so_far = record {
  a = so_far.a;
  ascend = subst IsStrictlyIncreasing (sym (map_push (λ (e : ℕ × ℕ). e.0) u (k, v)))
      (ascend_push (map (λ (e : ℕ × ℕ). e.0) u) k so_far.ascend
      (λ m c. All-contains (λ m. m < k) (map (λ (e : ℕ × ℕ). e.0) u) m (All-map (λ m. m < k) (λ (e : ℕ × ℕ). e.0) u fresh) c));
  each = All-push (λ (e : ℕ × ℕ). (e.0 < n) × (1 ≤ e.1) × IsAmount e.1) u (k, v) so_far.each (node, some, low);
}

pub amounts_listed : (n : ℕ) (u : List (ℕ × ℕ)) (amounts : List ℕ) (k v : ℕ) → k < n → All (λ (e : ℕ × ℕ). e.0 < k) u → AreAmounts n u amounts
    → length (set amounts k v) ≡ length amounts → AreAmounts n (u ++ (k, v) ∷ []) (set amounts k v)
amounts_listed n u amounts k v node fresh so_far kept = record {
  long = kept ∙ so_far.long;
  each = λ m. ⊎_elim
      (λ same. subst (λ z. slice_index (set amounts k v) z ≡ value_at (u ++ (k, v) ∷ []) z) same
      (get_or-set_same amounts k v 0 (omega (arith, node, so_far.long)) ∙ sym (push_fresh u k v fresh)))
      (λ apart. get_or-set_other amounts k m v 0 (λ e. apart (sym e)) ∙ so_far.each m ∙ sym (push_other u k v m apart))
      (cases_eq k m);
}

-- a place has what it had, or what is put there
pub record IsPut (p : Problem) (u : List (ℕ × ℕ)) (k v unit : ℕ) (units after : List ℕ) (x : ℕ) : Type 0 where
  pub is : ((slice_index after x ≡ unit) × (value_at (u ++ (k, v) ∷ []) (candidate_at p x) ≡ v))
      ⊎ ((slice_index after x ≡ slice_index units x) × (value_at (u ++ (k, v) ∷ []) (candidate_at p x) ≡ value_at u (candidate_at p x)))

pub is_put : (p : Problem) (places : List ℕ) (u : List (ℕ × ℕ)) (k v unit : ℕ) (units after : List ℕ) (x : ℕ) → ArePlaces p places → k < p.size
    → All (λ (e : ℕ × ℕ). e.0 < k) u → length units ≡ length p.candidates
    → (slice_index places k < length units → slice_index after (slice_index places k) ≡ unit)
    → ((y : ℕ) → y ≢ slice_index places k → slice_index after y ≡ slice_index units y) → x < length p.candidates
    → IsPut p u k v unit units after x
is_put p places u k v unit units after x are node fresh long here others within = record {
  is = ⊎_elim
      (λ (same : x ≡ slice_index places k). inl (
        ap (slice_index after) same ∙ here (omega (arith, same, within, long)),
        ap (λ z. value_at (u ++ (k, v) ∷ []) (candidate_at p z)) same
            ∙ ap (value_at (u ++ (k, v) ∷ [])) (are.candidate k node (omega (arith, same, within))) ∙ push_fresh u k v fresh,
      ))
      (λ (apart : x ≡ slice_index places k → ⊥). inr (
        others x apart,
        push_other u k v (candidate_at p x) (λ e. apart (sym (are.place x within) ∙ ap (slice_index places) (sym e))),
      ))
      (cases_eq x (slice_index places k));
}

pub units_listed : (p : Problem) (w : ℕ) (places : List ℕ) (u : List (ℕ × ℕ)) (k v unit : ℕ) (units after : List ℕ) → ArePlaces p places
    → k < p.size → All (λ (e : ℕ × ℕ). e.0 < k) u → w * unit ≤ v → unit ≤ v → unit ≤ most_unit
    → (slice_index places k < length units → slice_index after (slice_index places k) ≡ unit)
    → ((y : ℕ) → y ≢ slice_index places k → slice_index after y ≡ slice_index units y) → length after ≡ length units
    → AreUnits p w (value_at u) units → AreUnits p w (value_at (u ++ (k, v) ∷ [])) after
units_listed p w places u k v unit units after are node fresh all one low here others kept so_far = record {
  long = kept ∙ so_far.long;
  limit = All-from_get_or (λ v. v ≤ most_unit) after 0 (λ x below.
      (let within : x < length p.candidates = omega (arith, below, kept, so_far.long) in
      let old = All-get_or (λ v. v ≤ most_unit) units x 0 (omega (arith, below, kept)) so_far.limit in
      ⊎_elim (λ is. omega (arith, is.0, low)) (λ is. omega (arith, is.0, old)) (put x within).is));
  all = λ x within. ⊎_elim
      (λ is. omega (arith, ap (λ (n : ℕ). w * n) is.0, is.1, all))
      (λ is. omega (arith, ap (λ (n : ℕ). w * n) is.0, is.1, so_far.all x within))
      (put x within).is;
  one = λ x within. ⊎_elim
      (λ is. omega (arith, is.0, is.1, one))
      (λ is. omega (arith, is.0, is.1, so_far.one x within))
      (put x within).is;
}
  where
    put : (x : ℕ) → x < length p.candidates → IsPut p u k v unit units after x
    put x within = is_put p places u k v unit units after x are node fresh so_far.long here others within

pub candidates_listed : (P : ℕ × ℕ → Type 0) (u : List (ℕ × ℕ)) (e : ℕ × ℕ) (before placed both : Bool) → (IsTrue before ↔ All P u)
    → (IsTrue placed ↔ P e) → (IsTrue both ↔ (IsTrue before × IsTrue placed)) → (IsTrue both ↔ All P (u ++ e ∷ []))
candidates_listed P u e before placed both says here is = (
  λ yes. All-push P u e (says.0 (is.0 yes).0) (here.0 (is.0 yes).1),
  λ all. is.1 (says.1 (first all), here.1 (last all)),
)
  where
    first : All P (u ++ e ∷ []) → All P u
    first all = (All-pop P (u ++ e ∷ []) u (Some e) refl all).0

    last : All P (u ++ e ∷ []) → P e
    last all = (All-pop P (u ++ e ∷ []) u (Some e) refl all).1

-- ---- what is held, as it is borrowed

pub places_lent : (p : Problem) (places lent : List ℕ) (count : ℕ) → ArePlaces p places → lent ≡ places → count ≡ length p.candidates
    → IsPlaceOf count (candidate_at p) lent
places_lent p places lent count are same all =
    subst (IsPlaceOf count (candidate_at p)) (sym same) (record { place = λ x below. are.place x (omega (arith, below, all)) })

pub units_lent : (p : Problem) (w : ℕ) (u listed : List (ℕ × ℕ)) (units lent : List ℕ) (count : ℕ) → AreUnits p w (value_at u) units
    → listed ≡ u → lent ≡ units → count ≡ length p.candidates → IsWithinListed count (candidate_at p) listed lent
units_lent p w u listed units lent count are same held all =
    subst (λ es. IsWithinListed count (candidate_at p) es lent) (sym same)
    (subst (IsWithinListed count (candidate_at p) u) (sym held) (record { each = λ x below. are.one x (omega (arith, below, all)) }))

-- ---- room for one more

pub few_listed : (n a : ℕ) (u : List (ℕ × ℕ)) (k : ℕ) → IsDualInRange n (record { a = a; u = u }) → k < n → All (λ (e : ℕ × ℕ). e.0 < k) u
    → length u < n
few_listed n a u k range node fresh =
    let firsts = All-map (λ m. m < k) (λ (e : ℕ × ℕ). e.0) u fresh in
    omega (arith, node, few_candidates (map (λ (e : ℕ × ℕ). e.0) u) k range.ascend firsts, length-map u (λ (e : ℕ × ℕ). e.0))
