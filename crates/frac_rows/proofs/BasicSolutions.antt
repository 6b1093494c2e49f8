-- The basic solution of a table: there is one, and it solves the table.
use Rattle.std.proofs.Common.{◌≡◌, ◌≢◌, ℕ, ◌+◌, ◌-◌, ◌*◌, ◌<◌, ◌≤◌, nat_eq, List, [], ◌∷◌, ◌++◌, map, length, get_or, All, Contains, ℤ, pos, ◌*ℤ◌, ◌<ℤ◌, ◌≤ℤ◌, unsigned_abs, Option, None, Some, refl, sym, ap, subst, ◌∙◌, ⊎_elim, arith}
use Rattle.std.specs.List.{position, range_with_len}
use Rattle.std.proofs.Math.IntN.{*ℤ-zero, zero-*ℤ, *ℤ_comm, pos-*ℤ-pos}
use Rattle.std.proofs.Math.ListN.{get_or-append}
use Rattle.std.proofs.lemmas.Int.{ints}
use Rattle.std.proofs.lemmas.Bool.{cases_eq, cases_lt}
use Rattle.std.proofs.lemmas.List.{length-append, get_or_past, get_or_default, get_or-append_right}
use Rattle.std.proofs.lemmas.List.Elements.{All-get_or, All-from_get_or, Contains-get_or}
use Rattle.std.proofs.lemmas.List.FromFn.{length-map-range_with_len, get_or-map-range_with_len}
use Rattle.frac_rows.specs.Rows.{Table, number, right_side, row_at, objective, IsTable}
use Rattle.frac_rows.specs.Theorems.{Solves, IsSolution, IsBasic, IsOfObjective, AreRightsLow, IsBasicSolution, SomeBasicSolution, BasicSolves}
use Rattle.frac_rows.proofs.Integers.{*ℤ_left_comm}
use Rattle.frac_rows.proofs.Solutions.{positive_size, length_at}
use Rattle.frac_rows.proofs.RunLaws.{products_low, low_from_product, right_at}
use Rattle.frac_rows.proofs.ListProducts.{product, product_but, product_at, product_low, dot_one}
use Rattle.frac_rows.proofs.Places.{IsOnce, found_is, not_found, found_at}

-- each constraint row has its basic column to itself, and the objective row has v
pub record IsPivotal (t : Table) : Type 0 where
  pub table : IsTable t
  pub basic : IsBasic t
  pub of_objective : IsOfObjective t

-- ---- all basic columns

-- the basic columns, and v for the objective row
abbrev all_basic : Table → List ℕ
all_basic t = t.basis ++ (length (objective t) - 2) ∷ []

-- the column of the row i
abbrev own_place : Table → ℕ → ℕ
own_place t i = get_or (all_basic t) i 0

length-all_basic : (t : Table) → length (all_basic t) ≡ length t.basis + 1
length-all_basic t = length-append t.basis ((length (objective t) - 2) ∷ [])

basic_front : (t : Table) (i : ℕ) → i < length t.basis → own_place t i ≡ get_or t.basis i 0
basic_front t i low = get_or-append t.basis ((length (objective t) - 2) ∷ []) 0 i low

basic_last : (t : Table) → own_place t (length t.basis) ≡ length (objective t) - 2
basic_last t =
    get_or-append_right t.basis ((length (objective t) - 2) ∷ []) (length t.basis) (length t.basis) 0 refl (omega arith)
    ∙ ap (λ k. get_or ((length (objective t) - 2) ∷ []) k 0) {x = length t.basis - length t.basis} {y = 0} (omega arith)

own_all : (t : Table) (i : ℕ) → IsPivotal t → i ≤ length t.basis → pos 0 <ℤ number (row_at t i) (own_place t i)
own_all t i are low =
    ⊎_elim (λ less. subst (λ c. pos 0 <ℤ number (row_at t i) c) (sym (basic_front t i less)) (are.basic.own i less))
    (λ most.
    let e : i ≡ length t.basis = omega arith in
    subst (λ j. pos 0 <ℤ number (row_at t j) (own_place t j)) (sym e)
    (subst (λ c. pos 0 <ℤ number (objective t) c) (sym (basic_last t)) are.of_objective.own))
    (cases_lt i (length t.basis))

others_all : (t : Table) (i j : ℕ) → IsPivotal t → i ≤ length t.basis → j ≤ length t.basis → j ≢ i → number (row_at t j) (own_place t i) ≡ pos 0
others_all t i j are low within other =
    ⊎_elim (λ less. ap (number (row_at t j)) (basic_front t i less) ∙ are.basic.others i j less within other)
    (λ most.
    let e : i ≡ length t.basis = omega arith in
    let before : j < length t.basis = omega arith in
    ap (λ k. number (row_at t j) (own_place t k)) e ∙ ap (number (row_at t j)) (basic_last t) ∙ are.of_objective.others j before)
    (cases_lt i (length t.basis))

once_all : (t : Table) → IsPivotal t → IsOnce (all_basic t)
once_all t are r s low_r low_s e =
    ⊎_elim (λ same. sym same)
    (λ other.
    let count = length-all_basic t in
    let none = others_all t r s are (omega arith) (omega arith) other in
    let own = own_all t s are (omega arith) in
    let more : pos 0 <ℤ number (row_at t s) (own_place t r) = subst (λ c. pos 0 <ℤ number (row_at t s) c) (sym e) own in
    absurd (omega (arith, ints, none, more)))
    (cases_eq s r)

own_column : (t : Table) (j : ℕ) → IsPivotal t → j ≤ length t.basis → own_place t j + 1 < length (objective t)
own_column t j are low =
    ⊎_elim
    (λ less.
    let before = All-get_or (λ c. c + 2 < length (objective t)) t.basis j 0 less are.table.before_v in
    omega (arith, basic_front t j less, before))
    (λ most.
    let e : j ≡ length t.basis = omega arith in
    let last = ap (own_place t) e ∙ basic_last t in
    omega (arith, last, are.table.one_slack_each))
    (cases_lt j (length t.basis))

-- ---- one basic solution

-- the number of the row in its own column
abbrev factor : Table → ℕ → ℕ
factor t i = unsigned_abs (number (row_at t i) (own_place t i))

abbrev factors : Table → List ℕ
factors t = map (factor t) (range_with_len 0 (length t.basis + 1))

-- a denominator for all values
abbrev common : Table → ℕ
common t = product (factors t)

abbrev value_by : Table → Option ℕ → ℤ
value_by t None = pos 0
value_by t (Some i) = right_side (row_at t i) *ℤ pos (product_but (factors t) i)

-- the value of the column k
abbrev basic_value : Table → ℕ → ℤ
basic_value t k = value_by t (position (nat_eq k) (all_basic t))

abbrev basic_values : Table → List ℤ
basic_values t = map (basic_value t) (range_with_len 0 (length (objective t) - 1))

factor_at : (t : Table) (i : ℕ) → i ≤ length t.basis → get_or (factors t) i 0 ≡ factor t i
factor_at t i low = get_or-map-range_with_len (factor t) 0 (length t.basis + 1) i i 0 (omega arith) (omega arith)

common_at : (t : Table) (i : ℕ) → i ≤ length t.basis → common t ≡ factor t i * product_but (factors t) i
common_at t i low =
    product_at (factors t) i (omega (arith, length-map-range_with_len (factor t) 0 (length t.basis + 1)))
    ∙ ap (λ n. n * product_but (factors t) i) (factor_at t i low)

size_above : (z : ℤ) → pos 0 <ℤ z → 1 ≤ unsigned_abs z
size_above z above = omega (arith, ints)

size_is : (z : ℤ) → pos 0 <ℤ z → z ≡ pos (unsigned_abs z)
size_is z above = omega (arith, ints)

common_low : (t : Table) → IsPivotal t → 1 ≤ common t
common_low t are =
    product_low (factors t)
    (All-from_get_or (λ x. 1 ≤ x) (factors t) 0
    (λ i low.
    let within : i ≤ length t.basis = omega (arith, length-map-range_with_len (factor t) 0 (length t.basis + 1)) in
    rw (factor_at t i within) (size_above (number (row_at t i) (own_place t i)) (own_all t i are within))))

value_is : (t : Table) (k : ℕ) → k + 1 < length (objective t) → number (basic_values t) k ≡ basic_value t k
value_is t k low = get_or-map-range_with_len (basic_value t) 0 (length (objective t) - 1) k k (pos 0) (omega arith) (omega arith)

-- f * (r * p) = (f * p) * r
shared : (f p d : ℕ) (r : ℤ) → d ≡ f * p → pos f *ℤ (r *ℤ pos p) ≡ pos d *ℤ r
shared f p d r is =
    *ℤ_left_comm (pos f) r (pos p) ∙ ap (λ z. r *ℤ z) (pos-*ℤ-pos f p ∙ ap pos (sym is)) ∙ *ℤ_comm r (pos d)

own_value : (t : Table) (j : ℕ) → IsPivotal t → j ≤ length t.basis
    → number (row_at t j) (own_place t j) *ℤ number (basic_values t) (own_place t j) ≡ pos (common t) *ℤ right_side (row_at t j)
own_value t j are low =
    let c = own_place t j in
    let rest = product_but (factors t) j in
    let found = found_at (all_basic t) j (once_all t are) (omega (arith, length-all_basic t)) in
    let value : number (basic_values t) c ≡ right_side (row_at t j) *ℤ pos rest = value_is t c (own_column t j are low) ∙ ap (value_by t) found in
    ap (λ z. number (row_at t j) c *ℤ z) value
    ∙ ap (λ z. z *ℤ (right_side (row_at t j) *ℤ pos rest)) (size_is (number (row_at t j) c) (own_all t j are low))
    ∙ shared (factor t j) rest (common t) (right_side (row_at t j)) (common_at t j low)

no_value_by : (t : Table) (c : ℕ) (o : Option ℕ) → c + 2 < length (objective t) → (Contains t.basis c → ⊥) → position (nat_eq c) (all_basic t) ≡ o
    → value_by t o ≡ pos 0
no_value_by t c None low none e = refl
no_value_by t c (Some i) low none e =
    let found = found_is (all_basic t) c i e in
    ⊎_elim
    (λ less. absurd (none (subst (λ k. Contains t.basis k) (sym (basic_front t i less) ∙ found.1) (Contains-get_or t.basis i 0 less))))
    (λ past.
    let last : i ≡ length t.basis = omega (arith, found.0, length-all_basic t) in
    let here : c ≡ length (objective t) - 2 = sym found.1 ∙ ap (own_place t) last ∙ basic_last t in
    absurd (omega (arith, here, low)))
    (cases_lt i (length t.basis))

basic_is : (t : Table) → IsPivotal t → IsBasicSolution t (basic_values t) (common t)
basic_is t are = record {
  above = common_low t are;
  one_each = omega (arith, length-map-range_with_len (basic_value t) 0 (length (objective t) - 1), are.table.one_slack_each);
  basic =
      λ i low.
      subst (λ c. number (row_at t i) c *ℤ number (basic_values t) c ≡ pos (common t) *ℤ right_side (row_at t i)) (basic_front t i low)
      (own_value t i are (omega arith));
  worth =
      subst (λ c. number (objective t) c *ℤ number (basic_values t) c ≡ pos (common t) *ℤ right_side (objective t)) (basic_last t)
      (own_value t (length t.basis) are (omega arith));
  others = λ c low none. value_is t c (omega arith) ∙ no_value_by t c (position (nat_eq c) (all_basic t)) low none refl;
}

pub some_basic_solution : SomeBasicSolution
some_basic_solution t table basic of_objective =
    (basic_values t, common t, basic_is t (record { table = table; basic = basic; of_objective = of_objective }))

-- ---- each basic solution

module _ (t : Table) (values : List ℤ) (denom : ℕ) (are : IsPivotal t) (is : IsBasicSolution t values denom) where
  own_part : (j : ℕ) → j ≤ length t.basis
      → number (row_at t j) (own_place t j) *ℤ number values (own_place t j) ≡ pos denom *ℤ right_side (row_at t j)
  own_part j low =
      ⊎_elim
      (λ less. ap (λ c. number (row_at t j) c *ℤ number values c) (basic_front t j less) ∙ is.basic j less)
      (λ most.
      let e : j ≡ length t.basis = omega arith in
      ap (λ k. number (row_at t k) (own_place t k) *ℤ number values (own_place t k)) e
      ∙ ap (λ c. number (objective t) c *ℤ number values c) (basic_last t) ∙ is.worth ∙ ap (λ k. pos denom *ℤ right_side (row_at t k)) (sym e))
      (cases_lt j (length t.basis))

  -- a column that is not basic has 0
  no_value : (k : ℕ) → k + 1 < length (objective t) → position (nat_eq k) (all_basic t) ≡ None → number values k ≡ pos 0
  no_value k within none =
      let apart : k ≢ length (objective t) - 2 =
      λ e. not_found (all_basic t) k (length t.basis) none (omega (arith, length-all_basic t)) (basic_last t ∙ sym e) in
      is.others k (omega (arith, apart))
      (λ found.
      not_found (all_basic t) k found.0 none (omega (arith, found.1, length-all_basic t))
      (basic_front t found.0 found.1 ∙ get_or_default t.basis found.0 0 k found.1 ∙ found.2))

  -- a column that is not the row's own adds nothing
  nothing_by : (j k : ℕ) (o : Option ℕ) → j ≤ length t.basis → k + 1 < length (objective t) → k ≢ own_place t j
      → position (nat_eq k) (all_basic t) ≡ o → number (row_at t j) k *ℤ number values k ≡ pos 0
  nothing_by j k None low within other e =
      ap (λ z. number (row_at t j) k *ℤ z) (no_value k within e) ∙ *ℤ-zero (number (row_at t j) k)
  nothing_by j k (Some i) low within other e =
      let found = found_is (all_basic t) k i e in
      let apart : j ≢ i = λ same. other (sym found.1 ∙ ap (own_place t) (sym same)) in
      let none : number (row_at t j) k ≡ pos 0 =
      ap (number (row_at t j)) (sym found.1) ∙ others_all t i j are (omega (arith, found.0, length-all_basic t)) low apart in
      ap (λ z. z *ℤ number values k) none ∙ zero-*ℤ (number values k)

  nothing : (j k : ℕ) → j ≤ length t.basis → k ≢ own_place t j → number (row_at t j) k *ℤ number values k ≡ pos 0
  nothing j k low other =
      ⊎_elim
      (λ less. nothing_by j k (position (nat_eq k) (all_basic t)) low less other refl)
      (λ past. ap (λ z. number (row_at t j) k *ℤ z) (get_or_past values k (pos 0) (omega (arith, is.one_each))) ∙ *ℤ-zero (number (row_at t j) k))
      (cases_lt (k + 1) (length (objective t)))

  row_solved : (j : ℕ) → j ≤ length t.basis → Solves values denom (row_at t j)
  row_solved j low =
      let within = own_column t j are low in
      dot_one (row_at t j) values (own_place t j) (omega (arith, length_at t j are.table low, within)) (omega (arith, is.one_each, within))
      (λ k other. nothing j k low other)
      ∙ own_part j low

  pub solved_by : IsSolution t values denom
  solved_by = record {
    one_each = is.one_each;
    solves = All-from_get_or (Solves values denom) t.rows [] (λ i low. row_solved i (omega (arith, are.table.one_objective)));
  }

pub basic_solves : BasicSolves
basic_solves t values denom table basic of_objective is =
    solved_by t values denom (record { table = table; basic = basic; of_objective = of_objective }) is

-- ---- right sides that are not below 0

low_from_ratio : (p x r : ℤ) (denom : ℕ) → pos 0 <ℤ p → pos 0 ≤ℤ r → p *ℤ x ≡ pos denom *ℤ r → pos 0 ≤ℤ x
low_from_ratio p x r denom above low e =
    let k = positive_size p above in
    let right : pos 0 ≤ℤ (pos denom *ℤ r) = products_low (pos denom) r (omega (arith, ints)) low in
    let same : pos k.0 *ℤ x ≡ pos denom *ℤ r = ap (λ z. z *ℤ x) (sym k.2) ∙ e in
    low_from_product k.0 x k.1 (omega (arith, ints, right, same))

value_low_by : (t : Table) (values : List ℤ) (denom k : ℕ) (o : Option ℕ) → IsPivotal t → AreRightsLow t → IsBasicSolution t values denom
    → k + 1 < length (objective t) → position (nat_eq k) (all_basic t) ≡ o → pos 0 ≤ℤ number values k
value_low_by t values denom k None are rights is within e = let none = no_value t values denom are is k within e in omega (arith, ints, none)
value_low_by t values denom k (Some i) are rights is within e =
    let found = found_is (all_basic t) k i e in
    let low : i ≤ length t.basis = omega (arith, found.0, length-all_basic t) in
    let own : pos 0 <ℤ number (row_at t i) k = subst (λ c. pos 0 <ℤ number (row_at t i) c) found.1 (own_all t i are low) in
    let part : number (row_at t i) k *ℤ number values k ≡ pos denom *ℤ right_side (row_at t i) =
    subst (λ c. number (row_at t i) c *ℤ number values c ≡ pos denom *ℤ right_side (row_at t i)) found.1 (own_part t values denom are is i low) in
    low_from_ratio (number (row_at t i) k) (number values k) (right_side (row_at t i)) denom own (right_at t i are.table rights low) part

-- then no value is below 0, v's among them
pub values_low : (t : Table) (values : List ℤ) (denom : ℕ) → IsPivotal t → AreRightsLow t → IsBasicSolution t values denom
    → All (λ x. pos 0 ≤ℤ x) values
values_low t values denom are rights is =
    All-from_get_or (λ x. pos 0 ≤ℤ x) values (pos 0)
    (λ k low. value_low_by t values denom k (position (nat_eq k) (all_basic t)) are rights is (omega (arith, is.one_each)) refl)
