-- The least part that makes the ratios whole gives the reading with the least part, and there is one.
use Rattle.std.proofs.Common.{◌≡◌, ℕ, zero, suc, ◌+◌, ◌*◌, ◌%◌, ◌<◌, ◌≤◌, ◌⊎◌, inl, inr, List, [], ◌∷◌, length, map, drop, get_or, All, pos, ◌*ℤ◌, ⊎_elim, refl, sym, ap, ap₂, ◌∙◌, subst, arith}
use Rattle.std.proofs.Math.IntN.{pos-*ℤ-pos}
use Rattle.std.proofs.Math.Nat.{div-add-mod, mul-mod_right}
use Rattle.std.proofs.lemmas.Bool.{cases_lt}
use Rattle.std.proofs.lemmas.Bool.Decides.{eqb_tells}
use Rattle.std.proofs.lemmas.Grind.{get_or_after_one}
use Rattle.std.proofs.lemmas.Int.{ints}
use Rattle.std.proofs.lemmas.List.{get_or-map, length-map, length-drop}
use Rattle.std.proofs.lemmas.List.Elements.{All-nil, All-cons, All-head, All-tail, All-weaker}
use Rattle.hub_spec.specs.Problem.{Problem, IsProblem}
use Rattle.frac_rows.specs.Rows.{Table, number, row_at}
use Rattle.core_cuts.specs.RunTheorems.{variable_of}
use Rattle.core_cuts.proofs.UnitBalances.{basic_or_not}
use Rattle.core_cuts.specs.declared.ratios.Ratio.{Ratio}
use Rattle.core_cuts.specs.BasicRatios.{AreRatios, IsWholeAt, whole_at, IsLeastPart, nothing, reading_at, IsLeastReading}
use Rattle.core_cuts.specs.Readings.{Reading, value_of, IsWhole}
use Rattle.core_cuts.proofs.FirstAndRest.{first_any}
use Rattle.core_cuts.proofs.Zipped.{value_at_place}

-- ---- one ratio

whole_is : (e : ℕ) (r : Ratio) → IsWholeAt e r → r.over * whole_at e r ≡ e * r.right
whole_is e r whole = omega (arith, div-add-mod (e * r.right) r.over, whole)

is_whole : (e x : ℕ) (r : Ratio) → r.over * x ≡ e * r.right → IsWholeAt e r
is_whole e x r is = ap (λ n. n % r.over) (sym is) ∙ mul-mod_right r.over x

whole_of_none : (e : ℕ) (r : Ratio) → 1 ≤ r.over → IsWholeAt e r → r.right ≡ 0 → whole_at e r ≡ 0
whole_of_none e r some whole none =
    nothing_left r.over (whole_at e r) some (whole_is e r whole ∙ ap (λ n. e * n) none ∙ omega arith)
  where
    nothing_left : (n x : ℕ) → 1 ≤ n → n * x ≡ 0 → x ≡ 0
    nothing_left n zero some is = refl
    nothing_left n (suc x) some is = absurd (omega (arith, some, is))

none_is_whole : (e : ℕ) (r : Ratio) → r.right ≡ 0 → IsWholeAt e r
none_is_whole e r none = is_whole e 0 r (omega (arith, ap (λ n. e * n) none))

-- ---- a part that makes all whole gives a reading

pub over_all : (t : Table) (n : ℕ) (rs : List Ratio) → AreRatios t n rs → All (λ (r : Ratio). 1 ≤ r.over) rs
over_all t n rs are k d l = (are.each k d (omega (arith, l, are.one_each))).some

variable_is : (p : Problem) (rs : List Ratio) (e j : ℕ) (d : Ratio) → IsProblem p → length rs ≡ length p.candidates + 1 → j < length p.candidates + 1
    → variable_of p (reading_at e rs).price (value_of p (reading_at e rs)) j ≡ whole_at e (get_or rs j d)
unfolding reading_at
variable_is p rs e zero d ok long l = ap (whole_at e) (first_any rs nothing d (omega (arith, long)))
variable_is p rs e (suc x) d ok long l =
    let values = map (whole_at e) (drop 1 rs) in
    let few : length (drop 1 rs) ≡ length p.candidates = omega (arith, long, length-drop 1 rs) in
    let same : 1 + x ≡ suc x = omega arith in
    value_at_place p.candidates values x ok.candidates_ascend (length-map (drop 1 rs) (whole_at e) ∙ few) (omega (arith, l))
    ∙ get_or-map (whole_at e) (drop 1 rs) x d 0 (omega (arith, l, few)) ∙ ap (whole_at e) (get_or_after_one rs x d ∙ ap (λ n. get_or rs n d) same)

values_long : (p : Problem) (rs : List Ratio) (e : ℕ) → length rs ≡ length p.candidates + 1 → length (reading_at e rs).values ≡ length p.candidates
unfolding reading_at
values_long p rs e long = omega (arith, long, length-drop 1 rs, length-map (drop 1 rs) (whole_at e))

pub part_is : (rs : List Ratio) (e : ℕ) → (reading_at e rs).part ≡ e
unfolding reading_at
part_is rs e = refl

read_whole : (p : Problem) (t : Table) (rs : List Ratio) (e : ℕ) → IsProblem p → AreRatios t (length p.candidates + 1) rs → 1 ≤ e → All (IsWholeAt e) rs
    → IsWhole p t (reading_at e rs)
read_whole p t rs e ok are some whole = record {
  some_part = omega (arith, some, part_is rs e);
  one_each = values_long p rs e are.one_each;
  read = record {
    basic = λ i l below.
        (let j = get_or t.basis i 0 in
        let r = get_or rs j nothing in
        let is = (are.each j nothing below).basic i l refl in
        let all = whole_is e r (whole j nothing (omega (arith, below, are.one_each))) in
        ap₂ ◌*ℤ◌ is.0 (ap pos (variable_is p rs e j nothing ok are.one_each below)) ∙ pos-*ℤ-pos r.over (whole_at e r) ∙ ap pos all ∙ sym (pos-*ℤ-pos e r.right)
        ∙ ap₂ ◌*ℤ◌ (ap pos (sym (part_is rs e))) (sym is.1));
    others = λ j below none.
        (let r = get_or rs j nothing in
        let is = are.each j nothing below in
        variable_is p rs e j nothing ok are.one_each below
        ∙ whole_of_none e r is.some (whole j nothing (omega (arith, below, are.one_each))) (is.others none));
  };
}

-- ---- the part of a reading makes all whole

pos_same : (a b : ℕ) → pos a ≡ pos b → a ≡ b
pos_same a b e = omega (arith, ints, e)

part_whole : (p : Problem) (t : Table) (rs : List Ratio) (other : Reading) → AreRatios t (length p.candidates + 1) rs → IsWhole p t other
    → All (IsWholeAt other.part) rs
part_whole p t rs other are whole j d l =
    let r = get_or rs j d in
    let below : j < length p.candidates + 1 = omega (arith, l, are.one_each) in
    let is = are.each j d below in
    ⊎_elim
    (λ found. (let i = found.0 in
    let b = get_or t.basis i 0 in
    let x = variable_of p other.price (value_of p other) b in
    let row = is.basic i found.1 found.2 in
    let here = whole.read.basic i found.1 (omega (arith, below, found.2)) in
    let both = sym (pos-*ℤ-pos r.over x) ∙ ap (λ z. z *ℤ pos x) (sym row.0 ∙ ap (number (row_at t i)) (sym found.2)) ∙ here
    ∙ ap (λ z. pos other.part *ℤ z) row.1 ∙ pos-*ℤ-pos other.part r.right in
    is_whole other.part x r (pos_same (r.over * x) (other.part * r.right) both)))
    (λ none. none_is_whole other.part r (is.others none))
    (basic_or_not t.basis j (length t.basis))

pub least_reading : (p : Problem) (t : Table) (rs : List Ratio) (e : ℕ) → IsProblem p → AreRatios t (length p.candidates + 1) rs → IsLeastPart rs e
    → IsLeastReading p t (reading_at e rs)
least_reading p t rs e ok are least = record {
  whole = read_whole p t rs e ok are least.some least.whole;
  least = λ other whole. omega (arith, part_is rs e, least.least other.part whole.some_part (part_whole p t rs other are whole));
}

-- ---- there is a part

whole_more : (e n : ℕ) (r : Ratio) → IsWholeAt e r → IsWholeAt (e * n) r
whole_more e n r whole = is_whole (e * n) (whole_at e r * n) r (omega (arith, ap (λ z. z * n) (whole_is e r whole)))

whole_by_over : (e : ℕ) (r : Ratio) → IsWholeAt (e * r.over) r
whole_by_over e r = is_whole (e * r.over) (e * r.right) r (omega arith)

some_product : (a b : ℕ) → 1 ≤ a → 1 ≤ b → 1 ≤ a * b
some_product zero b some other = absurd (omega (arith, some))
some_product (suc a) b some other = omega (arith, other)

some_part : (rs : List Ratio) → All (λ (r : Ratio). 1 ≤ r.over) rs → (e : ℕ) × (1 ≤ e) × All (IsWholeAt e) rs
some_part [] over = (1, omega arith, All-nil (IsWholeAt 1))
some_part (r ∷ rs) over =
    let rest = some_part rs (All-tail (λ (s : Ratio). 1 ≤ s.over) r rs over) in
    let some = All-head (λ (s : Ratio). 1 ≤ s.over) r rs over in
    let e = rest.0 * r.over in (
      e,
      some_product rest.0 r.over rest.1 some,
      All-cons (IsWholeAt e) r rs (whole_by_over rest.0 r) (All-weaker (IsWholeAt rest.0) (IsWholeAt e) (λ s whole. whole_more rest.0 r.over s whole) rs rest.2),
    )

whole_or_not : (e : ℕ) (rs : List Ratio) → All (IsWholeAt e) rs ⊎ (All (IsWholeAt e) rs → ⊥)
whole_or_not e [] = inl (All-nil (IsWholeAt e))
whole_or_not e (r ∷ rs) =
    ⊎_elim
    (λ here. ⊎_elim (λ rest. inl (All-cons (IsWholeAt e) r rs here.1 rest)) (λ not_rest. inr (λ all. not_rest (All-tail (IsWholeAt e) r rs all))) (whole_or_not e rs))
    (λ apart. inr (λ all. apart.1 (All-head (IsWholeAt e) r rs all)))
    (eqb_tells (e * r.right % r.over) 0)

-- the least part is found below n, or none below it will do
least_below : (rs : List Ratio) (n : ℕ) → ((e : ℕ) × IsLeastPart rs e) ⊎ ((f : ℕ) → 1 ≤ f → f < n → All (IsWholeAt f) rs → ⊥)
least_below rs zero = inr (λ f some l all. absurd (omega (arith, l)))
least_below rs (suc n) =
    ⊎_elim inl (λ none. ⊎_elim (λ whole. at n none whole) (λ not_whole. inr (later n none not_whole)) (whole_or_not n rs)) (least_below rs n)
  where
    later : (n : ℕ) → ((f : ℕ) → 1 ≤ f → f < n → All (IsWholeAt f) rs → ⊥) → (All (IsWholeAt n) rs → ⊥)
        → (f : ℕ) → 1 ≤ f → f < suc n → All (IsWholeAt f) rs → ⊥
    later n none not_whole f some l all =
        ⊎_elim (λ same. not_whole (subst (λ (k : ℕ). All (IsWholeAt k) rs) same.1 all)) (λ apart. none f some (omega (arith, l, apart.1)) all) (eqb_tells f n)

    at : (n : ℕ) → ((f : ℕ) → 1 ≤ f → f < n → All (IsWholeAt f) rs → ⊥) → All (IsWholeAt n) rs
        → ((e : ℕ) × IsLeastPart rs e) ⊎ ((f : ℕ) → 1 ≤ f → f < suc n → All (IsWholeAt f) rs → ⊥)
    at zero none whole = inr (λ f some l all. absurd (omega (arith, some, l)))
    at (suc n) none whole = inl (
      suc n,
      record {
        some = omega arith;
        whole = whole;
        least = λ f some all. not_before f some all;
      },
    )
      where
        not_before : (f : ℕ) → 1 ≤ f → All (IsWholeAt f) rs → suc n ≤ f
        not_before f some all = ⊎_elim (λ less. absurd (none f some less all)) (λ reached. reached) (cases_lt f (suc n))

pub has_least : (rs : List Ratio) → All (λ (r : Ratio). 1 ≤ r.over) rs → (e : ℕ) × IsLeastPart rs e
has_least rs over =
    let part = some_part rs over in
    ⊎_elim (λ found. found) (λ none. absurd (none part.0 part.1 (omega arith) part.2)) (least_below rs (suc part.0))
