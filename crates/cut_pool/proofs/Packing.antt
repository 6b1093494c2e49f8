-- Numbers packed and unpacked.
use Rattle.std.proofs.Common.{◌≡◌, ℕ, zero, suc, ◌+◌, ◌-◌, ◌*◌, ◌<◌, ◌≤◌, List, [], ◌∷◌, ◌++◌, length, get_or, take, drop, set, replicate, flat_map, Vec, Global, refl, sym, ap, ap₂, subst, ⊎_elim, ◌∙◌, arith}
use Rattle.std.specs.Prelude.{slice_range}
use Rattle.std.proofs.Math.Nat.{add-mul, mul_assoc, one-mul, mul-le-mul_right}
use Rattle.std.proofs.lemmas.Bool.{cases_lt}
use Rattle.std.proofs.lemmas.List.{append-nil, append_assoc, flat_map_more, length-set, length-replicate, length-drop, length-take-le, take_all, take_more, take_at, take-take, take-append-drop, drop_at, drop-drop, drop-take, set_at, set_past}
use Rattle.hub_spec.specs.Limits.{most_nodes}
use Rattle.hub_spec.specs.Problem.{Problem, IsProblem}
use Rattle.hub_spec.proofs.Limits.{few_candidates}
use Rattle.cut_model.specs.ValueRows.{ValueRows}
use Rattle.cut_pool.specs.Packed.{written, unpacked, all_unpacked, AreRowsFrom}
use Rattle.cut_pool.specs.PackedParts.{packed_rows, ArePackedRows}
use Rattle.cut_pool.specs.Items.{PackedItem}
use Rattle.cut_pool.specs.declared.packed.PackedValues.TheInside.{Inside}

pub length-written : (ns : List ℕ) (xs : List PackedItem) → length (written ns xs) ≡ length ns
length-written ns [] = refl
length-written ns (x ∷ xs) = length-written (set ns x.at x.number) xs ∙ length-set ns x.at x.number

pub length-unpacked : (n : ℕ) (xs : List PackedItem) → length (unpacked n xs) ≡ n
length-unpacked n xs = length-written (replicate n 0) xs ∙ length-replicate n 0

pub written_push : (ns : List ℕ) (xs : List PackedItem) (x : PackedItem) → written ns (xs ++ x ∷ []) ≡ set (written ns xs) x.at x.number
written_push ns [] x = refl
written_push ns (y ∷ xs) x = written_push (set ns y.at y.number) xs x

-- the numbers before a place as they are, and zeros from it on
abbrev pub front : List ℕ → ℕ → List ℕ
front ns i = take i ns ++ replicate (length ns - i) 0

module _ (ns : List ℕ) (i : ℕ) (below : i < length ns) where
  front_here : front ns i ≡ take i ns ++ 0 ∷ replicate (length ns - (i + 1)) 0
  front_here =
      let e : length ns - i ≡ suc (length ns - (i + 1)) = omega (arith, below) in
      ap (λ k. take i ns ++ replicate k 0) e

  front_more : take i ns ++ get_or ns i 0 ∷ replicate (length ns - (i + 1)) 0 ≡ front ns (i + 1)
  front_more =
      sym (append_assoc (take i ns) (get_or ns i 0 ∷ []) (replicate (length ns - (i + 1)) 0))
      ∙ ap (λ xs. xs ++ replicate (length ns - (i + 1)) 0) (sym (take_more ns i 0 below))

  -- a 0 more
  pub front_zero : get_or ns i 0 ≡ 0 → front ns i ≡ front ns (i + 1)
  front_zero is = front_here ∙ ap (λ v. take i ns ++ v ∷ replicate (length ns - (i + 1)) 0) (sym is) ∙ front_more

  -- another number more
  pub front_set : (v : ℕ) → v ≡ get_or ns i 0 → set (front ns i) i v ≡ front ns (i + 1)
  front_set v is =
      ap (λ xs. set xs i v) front_here
      ∙ set_at (take i ns) 0 (replicate (length ns - (i + 1)) 0) v i (length-take-le i ns (omega (arith, below)))
      ∙ ap (λ w. take i ns ++ w ∷ replicate (length ns - (i + 1)) 0) is ∙ front_more

-- lists of one length, one after another: the list of this number
pub list_at : {X : Type 0} (f : X → List ℕ) (c : ℕ) → ((x : X) → length (f x) ≡ c) → (xs : List X) (i : ℕ) (d : X) → i < length xs
    → take c (drop (i * c) (flat_map f xs)) ≡ f (get_or xs i d)
list_at f c each [] i d below = absurd (omega (arith, below))
list_at f c each (x ∷ xs) zero d below =
    let e : 0 * c ≡ 0 = omega arith in
    ap (λ k. take c (drop k (f x ++ flat_map f xs))) e ∙ take_at (f x) (flat_map f xs) c (each x)
list_at f c each (x ∷ xs) (suc i) d below =
    let e : suc i * c ≡ c + i * c = omega arith in
    ap (λ k. take c (drop k (f x ++ flat_map f xs))) e
    ∙ ap (take c) (sym (drop-drop (i * c) c (f x ++ flat_map f xs)))
    ∙ ap (λ ys. take c (drop (i * c) ys)) (drop_at (f x) (flat_map f xs) c (each x))
    ∙ list_at f c each xs i d (omega (arith, below))

one_more : (i c : ℕ) → (i + 1) * c ≡ i * c + c
one_more i c = add-mul i 1 c ∙ ap (λ x. i * c + x) (one-mul c)

pub list_within : (i n c : ℕ) → i < n → i * c + c ≤ n * c
list_within i n c below =
    let le : i + 1 ≤ n = omega (arith, below) in
    omega (arith, one_more i c, mul-le-mul_right c le)

-- a span of a list, by its length
pub span : (a q : ℕ) (xs : List ℕ) → slice_range xs a (a + q) ≡ take q (drop a xs)
span a q xs =
    let e : a + q - a ≡ q = omega arith in
    ap (λ k. take k (drop a xs)) e

joined : (n m : ℕ) (xs : List ℕ) → take n xs ++ take m (drop n xs) ≡ take (n + m) xs
joined n m xs =
    ap₂ (λ (a b : List ℕ). a ++ b) (sym (take-take n (n + m) xs (omega arith))) (sym (drop-take n m xs))
    ∙ take-append-drop n (take (n + m) xs)

-- no list
pub lists_start : (ns : List ℕ) (c : ℕ) (lists : List (Vec PackedItem Global)) → lists ≡ [] → all_unpacked c lists ≡ take (0 * c) ns
lists_start ns c lists none =
    let e : 0 ≡ 0 * c = omega arith in
    ap (all_unpacked c) none ∙ ap (λ k. take k ns) e

-- one list more
pub lists_more : (ns part : List ℕ) (c i start : ℕ) (lists : List (Vec PackedItem Global)) (v : Vec PackedItem Global)
    → start ≡ i * c → start + c ≤ length ns → part ≡ slice_range ns start (start + c) → all_unpacked c lists ≡ take (i * c) ns
    → unpacked (length part) v.items ≡ part → all_unpacked c (lists ++ v ∷ []) ≡ take ((i + 1) * c) ns
lists_more ns part c i start lists v at within is before here =
    let f : Vec PackedItem Global → List ℕ = λ v. unpacked c v.items in
    let whole : part ≡ take c (drop start ns) = is ∙ span start c ns in
    let long : length part ≡ c =
    ap length whole ∙ length-take-le c (drop start ns) (omega (arith, within, length-drop start ns)) in
    let numbers : f v ≡ take c (drop (i * c) ns) =
    ap (λ k. unpacked k v.items) (sym long) ∙ here ∙ whole ∙ ap (λ k. take c (drop k ns)) at in
    sym (flat_map_more f [] lists v) ∙ ap₂ (λ (a b : List ℕ). a ++ b) before numbers ∙ joined (i * c) c ns
    ∙ ap (λ k. take k ns) (sym (one_more i c))

-- a row of a list's rows is a row of all
row_in : (n q i j : ℕ) (items : List ℕ) → j < n
    → take q (drop (j * q) (take (n * q) (drop (i * (n * q)) items))) ≡ take q (drop ((i * n + j) * q) items)
row_in n q i j items below =
    let ys = drop (i * (n * q)) items in
    let fits = list_within j n q below in
    let whole : n * q ≡ j * q + (n * q - j * q) = omega (arith, fits) in
    let place : i * (n * q) + j * q ≡ (i * n + j) * q = ap (λ x. x + j * q) (sym (mul_assoc i n q)) ∙ sym (add-mul (i * n) j q) in
    ap (λ k. take q (drop (j * q) (take k ys))) whole
    ∙ ap (take q) (drop-take (j * q) (n * q - j * q) ys)
    ∙ take-take q (n * q - j * q) (drop (j * q) ys) (omega (arith, fits))
    ∙ ap (take q) (drop-drop (j * q) (i * (n * q)) items)
    ∙ ap (λ k. take q (drop k items)) place

pub rows_unpacked : (s : Inside) (w : ValueRows) (i : ℕ) (x : Vec PackedItem Global) (rows : List ℕ) → ArePackedRows s → packed_rows s ≡ w
    → i < s.size → x ≡ get_or s.origins.items i x → rows ≡ unpacked (s.size * s.places) x.items → AreRowsFrom w i rows
rows_unpacked s w i x rows ok view below is rows_are =
    let n = s.size in
    let q = s.places in
    let items = all_unpacked (n * q) s.origins.items in
    let f : Vec PackedItem Global → List ℕ = λ v. unpacked (n * q) v.items in
    let block : take (n * q) (drop (i * (n * q)) items) ≡ rows =
    list_at f (n * q) (λ v. length-unpacked (n * q) v.items) s.origins.items i x (omega (arith, below, ok.origins))
    ∙ ap f (sym is) ∙ sym rows_are in
    let here : AreRowsFrom (packed_rows s) i rows = record {
      long = ap length rows_are ∙ length-unpacked (n * q) x.items;
      each = λ j inside.
          span (j * q) q rows ∙ ap (λ ys. take q (drop (j * q) ys)) (sym block) ∙ row_in n q i j items inside
          ∙ sym (span ((i * n + j) * q) q items);
    } in
    subst (λ (v : ValueRows). AreRowsFrom v i rows) view here

pub small_cells : (p : Problem) → IsProblem p → p.size * length p.candidates ≤ most_nodes * most_nodes
small_cells p ok =
    let few = few_candidates p.candidates p.size ok.candidates_ascend ok.candidates_are_nodes in
    omega (arith, few, ok.size_limit, mul-le-mul_right (length p.candidates) ok.size_limit)

pub set_beyond : (ns : List ℕ) (i v : ℕ) → length ns ≤ i → set ns i v ≡ ns
set_beyond ns i v past = set_past ns i v past

-- no item
pub front_start : (ns : List ℕ) (items : List PackedItem) → items ≡ [] → unpacked (length ns) items ≡ front ns 0
front_start ns items none =
    let e : length ns ≡ length ns - 0 = omega arith in
    ap (unpacked (length ns)) none ∙ ap (λ k. replicate k 0) e

-- one number more
pub front_further : (ns : List ℕ) (i v : ℕ) (before after : List PackedItem) → i < length ns → v ≡ get_or ns i 0
    → unpacked (length ns) before ≡ front ns i → (v ≡ 0 → after ≡ before)
    → (0 < v → after ≡ before ++ record { at = i; number = v } ∷ []) → unpacked (length ns) after ≡ front ns (i + 1)
front_further ns i v before after below is so_far same more =
    ⊎_elim (λ none. ap (unpacked (length ns)) (same (omega (arith, none))) ∙ so_far ∙ front_zero ns i below (sym is ∙ (omega (arith, none))))
    (λ some. ap (unpacked (length ns)) (more (omega (arith, some)))
    ∙ written_push (replicate (length ns) 0) before (record { at = i; number = v })
    ∙ ap (λ xs. set xs i v) so_far ∙ front_set ns i below v is)
    (cases_lt v 1)

pub front_end : (ns : List ℕ) (i : ℕ) → length ns ≤ i → front ns i ≡ ns
front_end ns i all =
    let e : length ns - i ≡ 0 = omega (arith, all) in
    ap (λ k. take i ns ++ replicate k 0) e ∙ append-nil (take i ns) ∙ take_all i ns all

-- the rows of values are so many for each origin
pub rows_long : (w : ValueRows) (size places rows : ℕ) → size ≡ w.size → places ≡ w.places → rows ≡ w.size * w.size * w.places
    → rows ≡ size * (size * places)
rows_long w size places rows sizes all long =
    long ∙ mul_assoc w.size w.size w.places ∙ sym (ap₂ (λ (a b : ℕ). a * (a * b)) sizes all)
