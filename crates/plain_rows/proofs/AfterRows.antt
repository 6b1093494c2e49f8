-- One row after a pivot, as it is kept.
use Rattle.std.proofs.Common.{◌≡◌, ◌≢◌, ℕ, ◌+◌, ◌<◌, ◌≤◌, List, All, length, set, ℤ, pos, ◌<ℤ◌, unsigned_abs, sym, ap, ap₂, subst, ◌∙◌, ⊎_elim, arith}
use Rattle.std.specs.Int.{◌∣◌}
use Rattle.std.proofs.lemmas.Bool.{cases_eq}
use Rattle.std.proofs.lemmas.List.{set-get_or}
use Rattle.std.proofs.lemmas.List.Elements.{All-get_or, All-from_get_or}
use Rattle.std.proofs.lemmas.Nat.Gcd.{dvd_antisymm}
use Rattle.frac_rows.specs.Divisors.{divisor_of, reduced}
use Rattle.frac_rows.specs.Rows.{widest, number, eliminated}
use Rattle.frac_rows.specs.Stored.{piece}
use Rattle.frac_rows.proofs.Gcds.{divisor_divides, divides_divisor}
use Rattle.plain_rows.specs.Flat.{base_of, stays_of, cleared, follows_of, IsReduced, AreRows, IsAfter}
use Rattle.plain_rows.proofs.Swapped.{length-base_of, length-stays_of, exchanged_own, exchanged_place, exchanged_other}
use Rattle.plain_rows.proofs.ReducedRows.{taken_none}
use Rattle.plain_rows.proofs.FlatTables.{length_row}

-- ---- the row that stays

module _ (P : ℤ → Type 0) (w : ℕ) (row : List ℤ) (c : ℕ) (long : length row ≡ w + 2) (low : c < w) where
  -- what holds of all of its numbers holds of them afterwards, and the other way round
  stays_all : All P row → All P (stays_of w row c)
  stays_all all =
      All-from_get_or P (stays_of w row c) (pos 0)
      (λ k less.
      ⊎_elim
      (λ (e : k ≡ c).
      subst P (sym (ap (number (stays_of w row c)) e ∙ exchanged_place w row c (number row c) long low)) (All-get_or P row (w + 1) (pos 0) (omega (arith, long)) all))
      (λ (n : k ≢ c).
      ⊎_elim
      (λ (e : k ≡ w + 1).
      subst P (sym (ap (number (stays_of w row c)) e ∙ exchanged_own w row c (number row c) long)) (All-get_or P row c (pos 0) (omega (arith, low, long)) all))
      (λ (m : k ≢ w + 1).
      subst P (sym (exchanged_other w row c k (number row c) n m)) (All-get_or P row k (pos 0) (omega (arith, less, length-stays_of w row c)) all))
      (cases_eq k (w + 1)))
      (cases_eq k c))

  stayed_all : All P (stays_of w row c) → All P row
  stayed_all all =
      let size : length (stays_of w row c) ≡ w + 2 = length-stays_of w row c ∙ long in
      All-from_get_or P row (pos 0)
      (λ k less.
      ⊎_elim
      (λ (e : k ≡ c).
      subst P (exchanged_own w row c (number row c) long ∙ ap (number row) (sym e))
      (All-get_or P (stays_of w row c) (w + 1) (pos 0) (omega (arith, size)) all))
      (λ (n : k ≢ c).
      ⊎_elim
      (λ (e : k ≡ w + 1).
      subst P (exchanged_place w row c (number row c) long low ∙ ap (number row) (sym e))
      (All-get_or P (stays_of w row c) c (pos 0) (omega (arith, size, low)) all))
      (λ (m : k ≢ w + 1).
      subst P (exchanged_other w row c k (number row c) n m) (All-get_or P (stays_of w row c) k (pos 0) (omega (arith, less, size, long)) all))
      (cases_eq k (w + 1)))
      (cases_eq k c))

stays_reduced : (w : ℕ) (row : List ℤ) (c : ℕ) → length row ≡ w + 2 → c < w → IsReduced row → IsReduced (stays_of w row c)
stays_reduced w row c long low kept =
    let new = stays_of w row c in
    let divides : ℕ → ℤ → Type 0 = λ d x. d ∣ unsigned_abs x in
    let same : divisor_of new ≡ divisor_of row =
    dvd_antisymm
    (divides_divisor (divisor_of new) row (stayed_all (divides (divisor_of new)) w row c long low (divisor_divides new)))
    (divides_divisor (divisor_of row) new (stays_all (divides (divisor_of row)) w row c long low (divisor_divides row))) in
    record {
      narrow = stays_all (λ x. unsigned_abs x ≤ widest) w row c long low kept.narrow;
      one = omega (arith, same, kept.one);
    }

-- ---- what a row becomes

pub after_stays : (w h : ℕ) (numbers : List ℤ) (r c i : ℕ) (row new : List ℤ) → AreRows (w + 2) h numbers → i < h → c < w → i ≡ r
    → row ≡ piece (w + 2) numbers i → new ≡ stays_of w row c → IsAfter w numbers r c i new
after_stays w h numbers r c i row new rows low place same of_row is =
    let whole : new ≡ stays_of w (piece (w + 2) numbers i) c = is ∙ ap (λ x. stays_of w x c) of_row in
    record {
      stays = λ _. whole;
      follows = λ other. absurd (other same);
      kept =
          subst IsReduced (sym whole)
          (stays_reduced w (piece (w + 2) numbers i) c (length_row (w + 2) h i numbers rows low) place (rows.each i low));
    }

-- a row that nothing is taken from, since it has 0 at the place
pub after_kept : (w h : ℕ) (numbers : List ℤ) (r c i : ℕ) (new : List ℤ) → AreRows (w + 2) h numbers → r < h → i < h → i ≢ r
    → pos 0 <ℤ number (piece (w + 2) numbers r) c → new ≡ piece (w + 2) numbers i → number (piece (w + 2) numbers i) c ≡ pos 0
    → IsAfter w numbers r c i new
after_kept w h numbers r c i new rows base_low low other above is none =
    let row = piece (w + 2) numbers i in
    let base = piece (w + 2) numbers r in
    let clear : cleared c row ≡ row = ap (set row c) (sym none) ∙ set-get_or row c (pos 0) in
    let long : length row ≡ length (base_of w base c) =
    length_row (w + 2) h i numbers rows low ∙ sym (length-base_of w base c ∙ length_row (w + 2) h r numbers rows base_low) in
    record {
      stays = λ same. absurd (other same);
      follows = λ _.
          is ∙ taken_none (number base c) row (base_of w base c) long above (rows.each i low).one
          ∙ sym (ap₂ (λ x e. reduced (eliminated (number base c) x e (base_of w base c))) clear none);
      kept = subst IsReduced (sym is) (rows.each i low);
    }

-- another row: what was copied and then made
pub after_reduced : (w : ℕ) (numbers : List ℤ) (r c i : ℕ) (base row taken new : List ℤ) → i ≢ r → base ≡ piece (w + 2) numbers r
    → row ≡ piece (w + 2) numbers i → taken ≡ base_of w (piece (w + 2) numbers r) c
    → new ≡ reduced (eliminated (number base c) (cleared c row) (number row c) taken) → IsReduced new → IsAfter w numbers r c i new
after_reduced w numbers r c i base row taken new other of_base of_row of_taken is kept = record {
  stays = λ same. absurd (other same);
  follows = λ _.
      is
      ∙ ap₂ (λ b t. reduced (eliminated (number b c) (cleared c row) (number row c) t)) of_base of_taken
      ∙ ap (λ x. follows_of w (piece (w + 2) numbers r) c x) of_row;
  kept = kept;
}
