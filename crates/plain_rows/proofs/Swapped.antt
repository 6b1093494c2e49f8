-- What a pivot makes of whole rows, by what it makes of those that are kept.
use Rattle.std.proofs.Common.{◌≡◌, ◌≢◌, ℕ, ◌+◌, ◌<◌, List, length, set, get_or, ℤ, pos, ◌-ℤ◌, ◌*ℤ◌, sym, ap, ap₂, ◌∙◌, ⊎_elim, arith}
use Rattle.std.proofs.Math.IntN.{*ℤ-zero, *ℤ_comm}
use Rattle.std.proofs.lemmas.Int.{ints}
use Rattle.std.proofs.lemmas.Bool.{cases_eq}
use Rattle.std.proofs.lemmas.List.{length-set, get_or-set_same, get_or-set_other}
use Rattle.frac_rows.specs.Rows.{number, eliminated}
use Rattle.frac_rows.proofs.Linear.{length-eliminated, number-eliminated}
use Rattle.plain_rows.specs.Flat.{spread_number, base_of, stays_of, cleared}
use Rattle.plain_rows.proofs.Spread.{place_or_none, number_of_owner, number_of_none, number_at}

-- ---- products

cross_none : (p e : ℤ) → p *ℤ e -ℤ e *ℤ p ≡ pos 0
cross_none p e = omega (arith, ints, *ℤ_comm p e)

zeros : (p e : ℤ) → p *ℤ pos 0 -ℤ e *ℤ pos 0 ≡ pos 0
zeros p e = ap₂ ◌-ℤ◌ (*ℤ-zero p) (*ℤ-zero e)

-- ---- columns that change places

-- a list of columns, of which none is b, and a place of it
pub record IsSwap (os : List ℕ) (b c : ℕ) : Type 0 where
  pub low : c < length os
  pub once : (x y : ℕ) → x < length os → y < length os → get_or os x 0 ≡ get_or os y 0 → x ≡ y
  pub none : (a : ℕ) → a < length os → get_or os a 0 ≢ b

abbrev pub OnceIn : List ℕ → Type 0
OnceIn os = (x y : ℕ) → x < length os → y < length os → get_or os x 0 ≡ get_or os y 0 → x ≡ y

pub at_same : (os : List ℕ) (b c : ℕ) → c < length os → get_or (set os c b) c 0 ≡ b
at_same os b c low = get_or-set_same os c b 0 low

pub at_other : (os : List ℕ) (b c a : ℕ) → a ≢ c → get_or (set os c b) a 0 ≡ get_or os a 0
at_other os b c a n = get_or-set_other os c a b 0 n

pub once_after : (os : List ℕ) (b c : ℕ) → IsSwap os b c → OnceIn (set os c b)
once_after os b c swap x y low high e =
    let long : length (set os c b) ≡ length os = length-set os c b in
    ⊎_elim
    (λ (here : x ≡ c).
    ⊎_elim
    (λ (there : y ≡ c). here ∙ sym there)
    (λ (other : y ≢ c).
    absurd (swap.none y (omega (arith, high, long))
    (sym (at_other os b c y other) ∙ sym e ∙ ap (λ z. get_or (set os c b) z 0) here ∙ at_same os b c swap.low)))
    (cases_eq y c))
    (λ (away : x ≢ c).
    ⊎_elim
    (λ (there : y ≡ c).
    absurd (swap.none x (omega (arith, low, long))
    (sym (at_other os b c x away) ∙ e ∙ ap (λ z. get_or (set os c b) z 0) there ∙ at_same os b c swap.low)))
    (λ (other : y ≢ c).
    swap.once x y (omega (arith, low, long)) (omega (arith, high, long)) (sym (at_other os b c x away) ∙ e ∙ at_other os b c y other))
    (cases_eq y c))
    (cases_eq x c)

-- what is none of the list and not b is none of it afterwards; nor is the column that left it
pub none_after : (os : List ℕ) (b c k : ℕ) → c < length os → k ≢ b → ((a : ℕ) → a < length os → a ≢ c → get_or os a 0 ≢ k)
    → (a : ℕ) → a < length (set os c b) → get_or (set os c b) a 0 ≢ k
none_after os b c k low n none a less e =
    ⊎_elim
    (λ (here : a ≡ c). n (sym e ∙ ap (λ z. get_or (set os c b) z 0) here ∙ at_same os b c low))
    (λ (other : a ≢ c). none a (omega (arith, less, length-set os c b)) other (sym (at_other os b c a other) ∙ e))
    (cases_eq a c)

-- ---- the numbers of what is kept

pub number_cleared_same : (row : List ℤ) (c : ℕ) → c < length row → number (cleared c row) c ≡ pos 0
number_cleared_same row c low = get_or-set_same row c (pos 0) (pos 0) low

pub number_cleared : (row : List ℤ) (c k : ℕ) → k ≢ c → number (cleared c row) k ≡ number row k
number_cleared row c k n = get_or-set_other row c k (pos 0) (pos 0) n

-- a row that has its own number at the place c, and another number as its own
abbrev pub exchanged : ℕ → List ℤ → ℕ → ℤ → List ℤ
exchanged w row c z = set (set row c (number row (w + 1))) (w + 1) z

length-exchanged : (w : ℕ) (row : List ℤ) (c : ℕ) (z : ℤ) → length (exchanged w row c z) ≡ length row
length-exchanged w row c z = length-set (set row c (number row (w + 1))) (w + 1) z ∙ length-set row c (number row (w + 1))

pub exchanged_own : (w : ℕ) (row : List ℤ) (c : ℕ) (z : ℤ) → length row ≡ w + 2 → number (exchanged w row c z) (w + 1) ≡ z
exchanged_own w row c z long =
    get_or-set_same (set row c (number row (w + 1))) (w + 1) z (pos 0) (omega (arith, long, length-set row c (number row (w + 1))))

pub exchanged_place : (w : ℕ) (row : List ℤ) (c : ℕ) (z : ℤ) → length row ≡ w + 2 → c < w → number (exchanged w row c z) c ≡ number row (w + 1)
exchanged_place w row c z long low =
    get_or-set_other (set row c (number row (w + 1))) (w + 1) c z (pos 0) (omega (arith, low))
    ∙ get_or-set_same row c (number row (w + 1)) (pos 0) (omega (arith, low, long))

pub exchanged_other : (w : ℕ) (row : List ℤ) (c k : ℕ) (z : ℤ) → k ≢ c → k ≢ w + 1 → number (exchanged w row c z) k ≡ number row k
exchanged_other w row c k z n m =
    get_or-set_other (set row c (number row (w + 1))) (w + 1) k z (pos 0) m ∙ get_or-set_other row c k (number row (w + 1)) (pos 0) n

pub length-base_of : (w : ℕ) (row : List ℤ) (c : ℕ) → length (base_of w row c) ≡ length row
length-base_of w row c = length-exchanged w row c (pos 0)

pub length-stays_of : (w : ℕ) (row : List ℤ) (c : ℕ) → length (stays_of w row c) ≡ length row
length-stays_of w row c = length-exchanged w row c (number row c)

-- what is kept of another row, before it is divided
abbrev pub crossed : ℕ → List ℤ → ℕ → List ℤ → List ℤ
crossed w base c row = eliminated (number base c) (cleared c row) (number row c) (base_of w base c)

-- ---- one number of the whole row

module _ (os : List ℕ) (b c : ℕ) (swap : IsSwap os b c) (base : List ℤ) (base_long : length base ≡ length os + 2) where
  abbrev w : ℕ
  w = length os

  abbrev new : List ℕ
  new = set os c b

  new_long : length new ≡ length os
  new_long = length-set os c b

  col_none : (a : ℕ) → a < length new → get_or new a 0 ≢ get_or os c 0
  col_none =
      none_after os b c (get_or os c 0) swap.low (swap.none c swap.low)
      (λ a l n e. n (swap.once a c l swap.low e))

  -- the row that stays
  pub stays_number : (k : ℕ) → spread_number new (stays_of w base c) (get_or os c 0) k ≡ spread_number os base b k
  stays_number k =
      let z = number base c in
      let S = stays_of w base c in
      let long : length S ≡ length new + 2 = omega (arith, length-stays_of w base c, base_long, new_long) in
      let own : length new + 1 ≡ w + 1 = omega (arith, new_long) in
      ⊎_elim
      (λ (e : k ≡ get_or os c 0).
      number_of_owner new S (get_or os c 0) k long (λ a l f. col_none a l (f ∙ e)) e
      ∙ ap (number S) own ∙ exchanged_own w base c z base_long
      ∙ sym (ap (spread_number os base b) e ∙ number_at os base b c base_long swap.low swap.once))
      (λ (n : k ≢ get_or os c 0).
      ⊎_elim
      (λ (e : k ≡ b).
      ap (spread_number new S (get_or os c 0)) (e ∙ sym (at_same os b c swap.low))
      ∙ number_at new S (get_or os c 0) c long (omega (arith, swap.low, new_long)) (once_after os b c swap)
      ∙ exchanged_place w base c z base_long swap.low
      ∙ sym (number_of_owner os base b k base_long (λ a l f. swap.none a l (f ∙ e)) e))
      (λ (m : k ≢ b).
      ⊎_elim
      (λ (found : (a : ℕ) × (a < length os) × (get_or os a 0 ≡ k)).
      let a = found.0 in
      let at : get_or os a 0 ≡ k = found.2 in
      let apart : a ≢ c = (λ (f : a ≡ c). n (sym at ∙ ap (λ x. get_or os x 0) f)) in
      ap (spread_number new S (get_or os c 0)) (sym at ∙ sym (at_other os b c a apart))
      ∙ number_at new S (get_or os c 0) a long (omega (arith, found.1, new_long)) (once_after os b c swap)
      ∙ exchanged_other w base c a z apart (omega (arith, found.1))
      ∙ sym (ap (spread_number os base b) (sym at) ∙ number_at os base b a base_long found.1 swap.once))
      (λ (none : (a : ℕ) → a < length os → get_or os a 0 ≢ k).
      number_of_none new S (get_or os c 0) k long (none_after os b c k swap.low m (λ a l o. none a l)) n
      ∙ sym (number_of_none os base b k base_long none m))
      (place_or_none os k (length os)))
      (cases_eq k b))
      (cases_eq k (get_or os c 0))

  pub stays_right : number (stays_of w base c) (length new) ≡ number base (length os)
  stays_right =
      ap (number (stays_of w base c)) new_long
      ∙ exchanged_other w base c w (number base c) (omega (arith, swap.low)) (omega arith)

  module _ (owner : ℕ) (other : owner ≢ b) (own_none : (a : ℕ) → a < length os → get_or os a 0 ≢ owner) (row : List ℤ) (long : length row ≡ length os + 2) where
    abbrev Z : List ℤ
    Z = crossed w base c row

    same_length : length (cleared c row) ≡ length (base_of w base c)
    same_length = length-set row c (pos 0) ∙ long ∙ sym base_long ∙ sym (length-base_of w base c)

    pub Z_long : length Z ≡ length new + 2
    Z_long =
        length-eliminated (number base c) (cleared c row) (number row c) (base_of w base c) same_length
        ∙ length-set row c (pos 0) ∙ long ∙ ap (λ n. n + 2) (sym new_long)

    Z_number : (k : ℕ) → number Z k ≡ number base c *ℤ number (cleared c row) k -ℤ number row c *ℤ number (base_of w base c) k
    Z_number k = number-eliminated (number base c) (cleared c row) (number row c) (base_of w base c) k same_length

    -- what a column of the whole row becomes
    abbrev wanted : ℕ → ℤ
    wanted k = number base c *ℤ spread_number os row owner k -ℤ number row c *ℤ spread_number os base b k

    wanted_is : (k : ℕ) (x y : ℤ) → spread_number os row owner k ≡ x → spread_number os base b k ≡ y
        → number base c *ℤ x -ℤ number row c *ℤ y ≡ wanted k
    wanted_is k x y first second = ap₂ (λ u v. number base c *ℤ u -ℤ number row c *ℤ v) (sym first) (sym second)

    Z_is : (k : ℕ) (x y : ℤ) → number (cleared c row) k ≡ x → number (base_of w base c) k ≡ y
        → number Z k ≡ number base c *ℤ x -ℤ number row c *ℤ y
    Z_is k x y first second = Z_number k ∙ ap₂ (λ u v. number base c *ℤ u -ℤ number row c *ℤ v) first second

    at_column : (k : ℕ) → k ≡ get_or os c 0 → spread_number new Z owner k ≡ wanted k
    at_column k e =
        number_of_none new Z owner k Z_long (λ a l f. col_none a l (f ∙ e)) (λ f. own_none c swap.low (sym e ∙ f))
        ∙ sym (cross_none (number base c) (number row c))
        ∙ wanted_is k (number row c) (number base c)
        (ap (spread_number os row owner) e ∙ number_at os row owner c long swap.low swap.once)
        (ap (spread_number os base b) e ∙ number_at os base b c base_long swap.low swap.once)

    at_owner_of_base : (k : ℕ) → k ≡ b → spread_number new Z owner k ≡ wanted k
    at_owner_of_base k e =
        ap (spread_number new Z owner) (e ∙ sym (at_same os b c swap.low))
        ∙ number_at new Z owner c Z_long (omega (arith, swap.low, new_long)) (once_after os b c swap)
        ∙ Z_is c (pos 0) (number base (w + 1)) (number_cleared_same row c (omega (arith, swap.low, long)))
        (exchanged_place w base c (pos 0) base_long swap.low)
        ∙ wanted_is k (pos 0) (number base (w + 1))
        (number_of_none os row owner k long (λ a l f. swap.none a l (f ∙ e)) (λ f. other (sym f ∙ e)))
        (number_of_owner os base b k base_long (λ a l f. swap.none a l (f ∙ e)) e)

    at_a_place : (k a : ℕ) → k ≢ get_or os c 0 → a < length os → get_or os a 0 ≡ k → spread_number new Z owner k ≡ wanted k
    at_a_place k a n low at =
        let apart : a ≢ c = (λ (f : a ≡ c). n (sym at ∙ ap (λ x. get_or os x 0) f)) in
        ap (spread_number new Z owner) (sym at ∙ sym (at_other os b c a apart))
        ∙ number_at new Z owner a Z_long (omega (arith, low, new_long)) (once_after os b c swap)
        ∙ Z_is a (number row a) (number base a) (number_cleared row c a apart) (exchanged_other w base c a (pos 0) apart (omega (arith, low)))
        ∙ wanted_is k (number row a) (number base a)
        (ap (spread_number os row owner) (sym at) ∙ number_at os row owner a long low swap.once)
        (ap (spread_number os base b) (sym at) ∙ number_at os base b a base_long low swap.once)

    at_own : (k : ℕ) → k ≢ b → ((a : ℕ) → a < length os → get_or os a 0 ≢ k) → k ≡ owner → spread_number new Z owner k ≡ wanted k
    at_own k m none e =
        number_of_owner new Z owner k Z_long (none_after os b c k swap.low m (λ a l o. none a l)) e
        ∙ ap (number Z) (ap (λ n. n + 1) new_long)
        ∙ Z_is (w + 1) (number row (w + 1)) (pos 0) (number_cleared row c (w + 1) (omega (arith, swap.low))) (exchanged_own w base c (pos 0) base_long)
        ∙ wanted_is k (number row (w + 1)) (pos 0) (number_of_owner os row owner k long none e) (number_of_none os base b k base_long none m)

    at_none : (k : ℕ) → k ≢ b → ((a : ℕ) → a < length os → get_or os a 0 ≢ k) → k ≢ owner → spread_number new Z owner k ≡ wanted k
    at_none k m none n =
        number_of_none new Z owner k Z_long (none_after os b c k swap.low m (λ a l o. none a l)) n
        ∙ sym (zeros (number base c) (number row c))
        ∙ wanted_is k (pos 0) (pos 0) (number_of_none os row owner k long none n) (number_of_none os base b k base_long none m)

    pub follows_number : (k : ℕ) → spread_number new Z owner k ≡ wanted k
    follows_number k =
        ⊎_elim (at_column k)
        (λ (n : k ≢ get_or os c 0).
        ⊎_elim (at_owner_of_base k)
        (λ (m : k ≢ b).
        ⊎_elim
        (λ (found : (a : ℕ) × (a < length os) × (get_or os a 0 ≡ k)). at_a_place k found.0 n found.1 found.2)
        (λ (none : (a : ℕ) → a < length os → get_or os a 0 ≢ k). ⊎_elim (at_own k m none) (at_none k m none) (cases_eq k owner))
        (place_or_none os k (length os)))
        (cases_eq k b))
        (cases_eq k (get_or os c 0))

    pub follows_right : number Z (length new) ≡ number base c *ℤ number row (length os) -ℤ number row c *ℤ number base (length os)
    follows_right =
        ap (number Z) new_long
        ∙ Z_is w (number row w) (number base w) (number_cleared row c w (omega (arith, swap.low)))
        (exchanged_other w base c w (pos 0) (omega (arith, swap.low)) (omega arith))
