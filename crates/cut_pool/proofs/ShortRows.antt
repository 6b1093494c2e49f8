-- Rows of loads in 32 bits, and what is added to them.
use Rattle.std.proofs.Common.{◌≡◌, ◌≢◌, ℕ, ◌+◌, ◌-◌, ◌/◌, ◌^◌, ◌<◌, ◌≤◌, ◌==◌, Bool, false, List, [], ◌∷◌, ◌++◌, slice_index, Option, Some, None, unwrap_or, length, map, get_or, set, refl, sym, ap, ap₂, subst, ◌∙◌, ⊎_elim, Vec, Global, arith}
use Rattle.std.specs.Prelude.{IfSome, SomeIff}
use Rattle.std.proofs.Math.Nat.{div-eq_of_lt, div-div-eq-div-mul, div-le_self}
use Rattle.std.proofs.lemmas.Nat.{pow-add, pow_below}
use Rattle.std.proofs.lemmas.Bool.{cases_lt}
use Rattle.std.proofs.lemmas.List.{length-map, map-set, map_push, get_or-map, get_or_past, get_or-set_same, get_or-set_other, ext_get_or}
use Rattle.std.proofs.lemmas.Bool.Decides.{nat_tests}
use Rattle.cut_pool.specs.Entries.{Entry}
use Rattle.cut_pool.specs.Shorts.{Shorts, unit_row, AreShortLoads, AreShortIfKept, ArePushed, IsWithCut}
use Rattle.cut_pool.proofs.Columns.{map-map}

-- ---- halvings

pub halved_again : (a b x : ℕ) → x / 2 ^ a / 2 ^ b ≡ x / 2 ^ (a + b)
halved_again a b x = div-div-eq-div-mul x (2 ^ a) (2 ^ b) ∙ ap (λ n. x / n) (sym (pow-add 2 a b))

pub halved_fits : (a b x n : ℕ) → a ≤ b → x / 2 ^ a < n → x / 2 ^ b < n
halved_fits a b x n less fits =
    let sum : a + (b - a) ≡ b = omega arith in
    let low : x / 2 ^ b ≤ x / 2 ^ a =
    subst (λ m. m ≤ x / 2 ^ a) (halved_again a (b - a) x ∙ ap (λ c. x / 2 ^ c) sum) (div-le_self (x / 2 ^ a) (2 ^ (b - a))) in
    omega arith

pub halved_away : (x h : ℕ) → x < 2 ^ 32 → 32 ≤ h → x / 2 ^ h ≡ 0
halved_away x h low many =
    div-eq_of_lt
    (⊎_elim (λ less. let more = pow_below 32 h less in omega (arith, more)) (λ rest. let same : h ≡ 32 = omega arith in subst (λ n. x < 2 ^ n) (sym same) low) (cases_lt 32 h))

pub shifted_out : (x h : ℕ) (o : Option ℕ) → x < 2 ^ 32 → SomeIff o (h < 32) (x / 2 ^ h) → unwrap_or o 0 ≡ x / 2 ^ h
shifted_out x h None low is = sym (halved_away x h low (omega (arith, is)))
shifted_out x h (Some y) low is = is.1

pub all_halved : (h n : ℕ) (old new : List ℕ) → length new ≡ length old → length new ≤ n
    → ((i : ℕ) → i < n → get_or new i 0 ≡ get_or old i 0 / 2 ^ h) → new ≡ map (λ x. x / 2 ^ h) old
all_halved h n old new long all each =
    let f = λ (x : ℕ). x / 2 ^ h in
    ext_get_or 0 new (map f old) (long ∙ sym (length-map old f))
    (λ i low. each i (omega arith) ∙ sym (get_or-map f old i 0 0 (omega arith)))

-- ---- rows that are pushed to

-- the first n rows have their loads more, and the others are as they were
pub record ArePushedTo (more halvings : ℕ) (before after : List (Vec ℕ Global)) (loads : List ℕ) (n : ℕ) : Type 0 where
  pub done : (i : ℕ) → i < n → get_or (map (λ v. v.items) after) i []
      ≡ map (λ x. x / 2 ^ more) (get_or (map (λ v. v.items) before) i []) ++ get_or loads i 0 / 2 ^ halvings ∷ []
  pub rest : (i : ℕ) → n ≤ i → get_or (map (λ v. v.items) after) i [] ≡ get_or (map (λ v. v.items) before) i []

pub pushed_next : (more h n : ℕ) (before old : List (Vec ℕ Global)) (v w : Vec ℕ Global) (loads : List ℕ) (number : ℕ)
    → n < length old → w ≡ get_or old n w → v.items ≡ map (λ x. x / 2 ^ more) w.items ++ number ∷ []
    → number ≡ get_or loads n 0 / 2 ^ h → ArePushedTo more h before old loads n
    → ArePushedTo more h before (set old n v) loads (n + 1)
pushed_next more h n before old v w loads number low at is number_is to =
    let items = λ (u : Vec ℕ Global). u.items in
    let put = map-set items old n v in
    let long = length-map old items in
    let row : w.items ≡ get_or (map items before) n [] =
    ap items at ∙ sym (get_or-map items old n w [] low) ∙ to.rest n (omega arith) in
    let here : get_or (map items (set old n v)) n []
    ≡ map (λ x. x / 2 ^ more) (get_or (map items before) n []) ++ get_or loads n 0 / 2 ^ h ∷ [] =
    ap (λ (rows : List (List ℕ)). get_or rows n []) put ∙ get_or-set_same (map items old) n v.items [] (omega (arith, long)) ∙ is
    ∙ ap₂ (λ (xs : List ℕ) (x : ℕ). map (λ x. x / 2 ^ more) xs ++ x ∷ []) row number_is in
    let other : (i : ℕ) → i ≢ n → get_or (map items (set old n v)) i [] ≡ get_or (map items old) i [] = λ i apart.
    ap (λ (rows : List (List ℕ)). get_or rows i []) put ∙ get_or-set_other (map items old) n i v.items [] apart in
    record {
      done = λ i less.
          ⊎_elim (λ before_n. other i (omega arith) ∙ to.done i before_n)
          (λ from. let same : n ≡ i = omega arith in
          subst
          (λ j. get_or (map items (set old n v)) j []
          ≡ map (λ x. x / 2 ^ more) (get_or (map items before) j []) ++ get_or loads j 0 / 2 ^ h ∷ []) same here)
          (cases_lt i n);
      rest = λ i past. other i (omega arith) ∙ to.rest i (omega arith);
    }

-- ---- rows that stand for entries

map-all : (f g : Entry → ℕ) (es : List Entry) → ((e : Entry) → f e ≡ g e) → map f es ≡ map g es
map-all f g [] same = refl
map-all f g (e ∷ es) same = ap₂ (λ x xs. x ∷ xs) (same e) (map-all f g es same)

row_before : (es : List Entry) (s t : Shorts) (is_first : Bool) → AreShortLoads es s → is_first ≡ (length es == 0)
    → (is_first ≡ false → length t.rows ≡ length s.rows) → (k : ℕ) → k < length t.rows
    → get_or s.rows k [] ≡ map (λ (x : Entry). slice_index (unit_row x) k / 2 ^ s.halvings) es
row_before [] s t is_first are first later k low =
    ⊎_elim (λ within. are.row k within) (λ past. get_or_past s.rows k [] past) (cases_lt k (length s.rows))
row_before (e ∷ es) s t is_first are first later k low =
    let rest : is_first ≡ false = first ∙ grind (arith, nat_tests) in
    are.row k (omega (arith, later rest))

-- a cut added to the entries and to the rows
pub entries_with : (es : List Entry) (e : Entry) (s t : Shorts) (is_first : Bool) → AreShortLoads es s → is_first ≡ (length es == 0)
    → (is_first ≡ false → length t.rows ≡ length s.rows) → s.halvings ≤ t.halvings
    → ArePushed (t.halvings - s.halvings) t.halvings s.rows t.rows (unit_row e) → AreShortLoads (es ++ e ∷ []) t
entries_with es e s t is_first are first later above pushed = record {
  row = λ k low.
      let f = λ (x : Entry). slice_index (unit_row x) k / 2 ^ s.halvings in
      let g = λ (x : Entry). slice_index (unit_row x) k / 2 ^ t.halvings in
      let more = t.halvings - s.halvings in
      let sum : s.halvings + more ≡ t.halvings = omega (arith, above) in
      let before : get_or s.rows k [] ≡ map f es =
      row_before es s t is_first are first later k low in
      let halved : map (λ x. x / 2 ^ more) (get_or s.rows k []) ≡ map g es =
      ap (map (λ x. x / 2 ^ more)) before ∙ map-map (λ x. x / 2 ^ more) f es
      ∙ map-all (λ x. f x / 2 ^ more) g es (λ x. halved_again s.halvings more (slice_index (unit_row x) k) ∙ ap (λ n. slice_index (unit_row x) k / 2 ^ n) sum) in
      pushed.row k low ∙ ap (λ xs. xs ++ g e ∷ []) halved ∙ sym (map_push g es e);
}

pub short_more : (es : List Entry) (e : Entry) (kept taken after : Option Shorts) (is_first : Bool) (loads : List ℕ) → AreShortIfKept es kept
    → taken ≡ kept → IfSome after (λ t. IsWithCut taken is_first t loads) → is_first ≡ (length es == 0) → loads ≡ unit_row e
    → AreShortIfKept (es ++ e ∷ []) after
short_more es e kept taken after is_first loads are same_kept with first same = λ t is.
    let w : IsWithCut taken is_first t loads = subst (λ (o : Option Shorts). IfSome o (λ t. IsWithCut taken is_first t loads)) is with in
    entries_with es e w.s t is_first (are w.s (sym same_kept ∙ w.was_kept)) first w.later w.above
    (subst (ArePushed (t.halvings - w.s.halvings) t.halvings w.s.rows t.rows) same w.pushed)
