-- What a run keeps, and what its end tells.
use Rattle.std.proofs.Common.{◌≡◌, ◌≢◌, ℕ, ◌-◌, ◌<◌, ◌≤◌, List, [], length, get_or, ℤ, pos, negsuc, ◌-ℤ◌, ◌*ℤ◌, neg_ℤ, ◌<ℤ◌, ◌≤ℤ◌, sym, ap, ap₂, subst, ◌∙◌, ⊎_elim, arith}
use Rattle.std.proofs.Math.IntN.{*ℤ-zero, *ℤ_comm}
use Rattle.std.proofs.lemmas.Int.{ints, by_lt_z}
use Rattle.std.proofs.lemmas.Bool.{cases_eq}
use Rattle.std.proofs.lemmas.List.{get_or-set_same, get_or-set_other}
use Rattle.std.proofs.lemmas.List.Elements.{All-get_or, All-from_get_or}
use Rattle.frac_rows.specs.Rows.{Table, number, right_side, row_at, objective, eliminated, pivoted, after_pivot, IsTable}
use Rattle.frac_rows.specs.Runs.{most_pivots, run}
use Rattle.frac_rows.specs.Theorems.{IsPlace, AreRightsLow, RightsStay, IsBasic, BasisStays}
use Rattle.frac_rows.proofs.Integers.{times-le, times-lt, neg_ℤ-*ℤ}
use Rattle.frac_rows.proofs.Quotients.{scale, scale_low}
use Rattle.frac_rows.proofs.Linear.{length-eliminated, number-eliminated}
use Rattle.frac_rows.proofs.Ratios.{number_is, right_side_is}
use Rattle.frac_rows.proofs.Pivots.{length_after, base_after, other_after, basis_after}
use Rattle.frac_rows.proofs.Solutions.{positive_size, length_at, constraints_after}
use Rattle.frac_rows.proofs.RunSteps.{first_negative_within}
use Rattle.frac_rows.proofs.RunMoves.{IsFirstAt, run_keeps}

-- ---- signs

product_low : (p x : ℤ) → pos 0 <ℤ p → pos 0 ≤ℤ x → pos 0 ≤ℤ (p *ℤ x)
product_low p x above low =
    let k = positive_size p above in
    rw k.2 (omega (arith, ints, times-le k.0 (pos 0) x low, *ℤ-zero (pos k.0)))

product_above : (p x : ℤ) → pos 0 <ℤ p → pos 0 <ℤ x → pos 0 <ℤ (p *ℤ x)
product_above p x above more =
    let k = positive_size p above in
    rw k.2 (omega (arith, ints, times-lt k.0 (pos 0) x k.1 more, *ℤ-zero (pos k.0)))

pub products_low : (x y : ℤ) → pos 0 ≤ℤ x → pos 0 ≤ℤ y → pos 0 ≤ℤ (x *ℤ y)
products_low (pos a) y h low = omega (arith, ints, times-le a (pos 0) y low, *ℤ-zero (pos a))
products_low (negsuc a) y h low = absurd (omega (arith, ints))

product_not_above : (e x : ℤ) → e ≤ℤ pos 0 → pos 0 ≤ℤ x → (e *ℤ x) ≤ℤ pos 0
product_not_above e x h low =
    let other = products_low (neg_ℤ e) x (omega (arith, ints)) low in
    omega (arith, ints, other, neg_ℤ-*ℤ e x)

pub low_from_product : (g : ℕ) (x : ℤ) → 1 ≤ g → pos 0 ≤ℤ (pos g *ℤ x) → pos 0 ≤ℤ x
low_from_product g x g_low h =
    by_lt_z {P = pos 0 ≤ℤ x} x (pos 0) (λ less. let more = times-lt g x (pos 0) g_low less in absurd (omega (arith, ints, more, h, *ℤ-zero (pos g)))) (λ le. le)

above_from_product : (g : ℕ) (x : ℤ) → pos 0 <ℤ (pos g *ℤ x) → pos 0 <ℤ x
above_from_product g x h =
    by_lt_z {P = pos 0 <ℤ x} (pos 0) x (λ less. less) (λ le. let more = times-le g x (pos 0) le in absurd (omega (arith, ints, more, h, *ℤ-zero (pos g))))

none_from_number : (g : ℕ) (x : ℤ) → 1 ≤ g → pos g *ℤ x ≡ pos 0 → x ≡ pos 0
none_from_number g x low e =
    let below = low_from_product g x low (omega (arith, ints, e)) in
    let above : x ≤ℤ pos 0 =
    by_lt_z {P = x ≤ℤ pos 0} (pos 0) x (λ less. let more = times-lt g (pos 0) x low less in absurd (omega (arith, ints, more, e, *ℤ-zero (pos g)))) (λ le. le) in
    omega (arith, ints, below, above)

-- ---- the numbers of a row after a pivot, by a factor above 0

number_pivoted : (base row : List ℤ) (c k : ℕ) → length row ≡ length base
    → (g : ℕ) × (1 ≤ g) × (pos g *ℤ number (pivoted base c row) k ≡ number base c *ℤ number row k -ℤ number row c *ℤ number base k)
unfolding pivoted
number_pivoted base row c k long =
    let z = eliminated (number base c) row (number row c) base in
    (scale z, scale_low z, sym (number_is z k) ∙ number-eliminated (number base c) row (number row c) base k long)

right_pivoted : (base row : List ℤ) (c : ℕ) → length row ≡ length base
    → (g : ℕ) × (1 ≤ g) × (pos g *ℤ right_side (pivoted base c row) ≡ number base c *ℤ right_side row -ℤ number row c *ℤ right_side base)
unfolding pivoted
right_pivoted base row c long =
    let z = eliminated (number base c) row (number row c) base in
    let size = length-eliminated (number base c) row (number row c) base long in (
      scale z,
      scale_low z,
      sym (right_side_is z) ∙ number-eliminated (number base c) row (number row c) base (length z - 1) long
          ∙ ap₂ (λ x y. number base c *ℤ x -ℤ number row c *ℤ y) (ap (λ n. number row (n - 1)) size) (ap (λ n. number base (n - 1)) (size ∙ long)),
    )

-- ---- right sides

rights_row : (base row : List ℤ) (c : ℕ) → length row ≡ length base → pos 0 <ℤ number base c → pos 0 ≤ℤ right_side base → pos 0 ≤ℤ right_side row
    → (pos 0 <ℤ number row c → (right_side base *ℤ number row c) ≤ℤ (right_side row *ℤ number base c))
    → pos 0 ≤ℤ right_side (pivoted base c row)
rights_row base row c long above of_base of_row ratio =
    let p = number base c in
    let e = number row c in
    let new = right_pivoted base row c long in
    let whole : pos 0 ≤ℤ (p *ℤ right_side row -ℤ e *ℤ right_side base) =
    by_lt_z {P = pos 0 ≤ℤ (p *ℤ right_side row -ℤ e *ℤ right_side base)} (pos 0) e
    (λ more. let r = ratio more in omega (arith, ints, r, *ℤ_comm p (right_side row), *ℤ_comm e (right_side base)))
    (λ less. omega (arith, ints, product_low p (right_side row) above of_row, product_not_above e (right_side base) less of_base)) in
    low_from_product new.0 (right_side (pivoted base c row)) new.1 (rw new.2 whole)

pub right_at : (t : Table) (i : ℕ) → IsTable t → AreRightsLow t → i ≤ length t.basis → pos 0 ≤ℤ right_side (row_at t i)
right_at t i table low within = All-get_or (λ row. pos 0 ≤ℤ right_side row) t.rows i [] (omega (arith, table.one_objective)) low

-- no row with a number above 0 has a lesser ratio than the one that leaves; the objective row has none above 0
ratio_of : (t : Table) (r c i : ℕ) → IsFirstAt t r c → i ≤ length t.basis → pos 0 <ℤ number (row_at t i) c
    → (right_side (row_at t r) *ℤ number (row_at t i) c) ≤ℤ (right_side (row_at t i) *ℤ number (row_at t r) c)
ratio_of t r c i first within above =
    ⊎_elim
    (λ e.
    let below = (first_negative_within (objective t) c first.enters).1 in
    let more : pos 0 <ℤ number (objective t) c = subst (λ k. pos 0 <ℤ number (row_at t k) c) e above in
    absurd (omega (arith, ints, below, more)))
    (λ n. first.first.least i (omega arith) above)
    (cases_eq i (length t.basis))

rights_after : (t : Table) (r c : ℕ) → IsTable t → IsPlace t r c → IsFirstAt t r c → AreRightsLow t → AreRightsLow (after_pivot t r c)
rights_after t r c table place first low =
    let u = after_pivot t r c in
    let base = row_at t r in
    All-from_get_or (λ row. pos 0 ≤ℤ right_side row) u.rows []
    (λ i l.
    let within : i ≤ length t.basis = omega (arith, length_after t r c, table.one_objective) in
    ⊎_elim
    (λ e.
    subst (λ row. pos 0 ≤ℤ right_side row) (sym (ap (row_at u) e ∙ base_after t r c (omega (arith, table.one_objective, place.constraint))))
    (right_at t r table low (omega (arith, place.constraint))))
    (λ n.
    let row = row_at t i in
    let long : length row ≡ length base = length_at t i table within ∙ sym (length_at t r table (omega (arith, place.constraint))) in
    subst (λ x. pos 0 ≤ℤ right_side x) (sym (other_after t r c i (omega (arith, table.one_objective)) n))
    (rights_row base row c long place.above (right_at t r table low (omega (arith, place.constraint))) (right_at t i table low within)
    (λ above. ratio_of t r c i first within above)))
    (cases_eq i r))

pub run_keeps_rights : RightsStay
unfolding run
run_keeps_rights t table low = (run_keeps AreRightsLow rights_after most_pivots 0 t table low).1

-- ---- basic columns

-- a number stays above 0 where the base row has 0
pub above_after : (base row : List ℤ) (c k : ℕ) → length row ≡ length base → pos 0 <ℤ number base c → number base k ≡ pos 0 → pos 0 <ℤ number row k
    → pos 0 <ℤ number (pivoted base c row) k
above_after base row c k long above of_base of_row =
    let new = number_pivoted base row c k long in
    let none : number row c *ℤ number base k ≡ pos 0 = ap (λ y. number row c *ℤ y) of_base ∙ *ℤ-zero (number row c) in
    above_from_product new.0 (number (pivoted base c row) k) (rw new.2 (omega (arith, ints, product_above (number base c) (number row k) above of_row, none)))

-- and 0 stays 0
pub none_after : (base row : List ℤ) (c k : ℕ) → length row ≡ length base → number base k ≡ pos 0 → number row k ≡ pos 0 → number (pivoted base c row) k ≡ pos 0
none_after base row c k long of_base of_row =
    let new = number_pivoted base row c k long in
    none_from_number new.0 (number (pivoted base c row) k) new.1
    (new.2 ∙ ap₂ (λ x y. number base c *ℤ x -ℤ number row c *ℤ y) of_row of_base ∙ omega (arith, ints, *ℤ-zero (number base c), *ℤ-zero (number row c)))

-- in the column of the pivot the other rows have 0
none_there : (base row : List ℤ) (c : ℕ) → length row ≡ length base → number (pivoted base c row) c ≡ pos 0
none_there base row c long =
    let new = number_pivoted base row c c long in
    none_from_number new.0 (number (pivoted base c row) c) new.1 (new.2 ∙ omega (arith, ints, *ℤ_comm (number base c) (number row c)))

pub long_rows : (t : Table) (i r : ℕ) → IsTable t → i ≤ length t.basis → r < length t.basis → length (row_at t i) ≡ length (row_at t r)
long_rows t i r table within base = length_at t i table within ∙ sym (length_at t r table (omega arith))

pub row_after : (t : Table) (r c i : ℕ) → IsTable t → i ≤ length t.basis → i ≢ r → row_at (after_pivot t r c) i ≡ pivoted (row_at t r) c (row_at t i)
row_after t r c i table within n = other_after t r c i (omega (arith, table.one_objective)) n

pub base_row : (t : Table) (r c : ℕ) → IsTable t → r < length t.basis → row_at (after_pivot t r c) r ≡ row_at t r
base_row t r c table base = base_after t r c (omega (arith, table.one_objective))

-- the basic column of a row after the pivot
new_basic : (t : Table) (r c : ℕ) → r < length t.basis → get_or (after_pivot t r c).basis r 0 ≡ c
new_basic t r c base = ap (λ b. get_or b r 0) (basis_after t r c) ∙ get_or-set_same t.basis r c 0 base

old_basic : (t : Table) (r c i : ℕ) → i ≢ r → get_or (after_pivot t r c).basis i 0 ≡ get_or t.basis i 0
old_basic t r c i n = ap (λ b. get_or b i 0) (basis_after t r c) ∙ get_or-set_other t.basis r i c 0 n

basic_after : (t : Table) (r c : ℕ) → IsTable t → IsPlace t r c → IsFirstAt t r c → IsBasic t → IsBasic (after_pivot t r c)
basic_after t r c table place first basic =
    let u = after_pivot t r c in
    let constraints = constraints_after t r c in
    let base = place.constraint in
    record {
      own =
          λ i l.
          let low : i < length t.basis = omega (arith, constraints) in
          ⊎_elim
          (λ e.
          subst (λ k. pos 0 <ℤ number (row_at u k) (get_or u.basis k 0)) (sym e)
          (rw (base_row t r c table base, new_basic t r c base) place.above))
          (λ n.
          rw (row_after t r c i table (omega arith) n, old_basic t r c i n)
          (above_after (row_at t r) (row_at t i) c (get_or t.basis i 0) (long_rows t i r table (omega arith) base) place.above
          (basic.others i r low (omega arith) (λ e. n (sym e))) (basic.own i low)))
          (cases_eq i r);
      others =
          λ i j l within other.
          let low : i < length t.basis = omega (arith, constraints) in
          let second : j ≤ length t.basis = omega (arith, constraints) in
          ⊎_elim
          (λ e.
          let n : j ≢ r = λ f. other (f ∙ sym e) in
          subst (λ k. number (row_at u j) (get_or u.basis k 0) ≡ pos 0) (sym e)
          (rw (row_after t r c j table second n, new_basic t r c base) (none_there (row_at t r) (row_at t j) c (long_rows t j r table second base))))
          (λ n.
          let of_base = basic.others i r low (omega arith) (λ e. n (sym e)) in
          rw (old_basic t r c i n)
          (⊎_elim
          (λ e. ap (λ k. number (row_at u k) (get_or t.basis i 0)) e ∙ ap (λ row. number row (get_or t.basis i 0)) (base_row t r c table base) ∙ of_base)
          (λ m.
          ap (λ row. number row (get_or t.basis i 0)) (row_after t r c j table second m)
          ∙ none_after (row_at t r) (row_at t j) c (get_or t.basis i 0) (long_rows t j r table second base) of_base (basic.others i j low second other))
          (cases_eq j r)))
          (cases_eq i r);
    }

pub run_keeps_basis : BasisStays
unfolding run
run_keeps_basis t table basic = (run_keeps IsBasic basic_after most_pivots 0 t table basic).1
