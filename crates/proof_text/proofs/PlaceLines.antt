-- The lines of a finding's cuts by places are those of the cuts in order.
use Rattle.std.proofs.Common.{◌≡◌, ℕ, zero, suc, ◌+◌, ◌*◌, ◌<◌, ◌≤◌, Bool, false, nat_eq, List, [], ◌∷◌, ◌++◌, length, take, flat_map, get_or, All, if◌then◌else◌, Option, None, refl, sym, ap, ap₂, subst, ◌∙◌, suc-mul, ne_eqb, arith}
use Rattle.std.specs.List.{range_with_len}
use Rattle.std.proofs.lemmas.List.{flat_map_more, take_all, take_more}
use Rattle.std.proofs.lemmas.List.Concat.{flat_map-append}
use Rattle.std.proofs.lemmas.List.Elements.{All-get_or}
use Rattle.std.proofs.lemmas.List.FromFn.{get_or-range_with_len}
use Rattle.std.proofs.lemmas.Nat.{div-mul-add, mod-mul-add}
use Rattle.hub_spec.specs.Problem.{Problem}
use Rattle.hub_spec.specs.Cuts.{Cut, cut_by}
use Rattle.core_spec.specs.CoreCuts.{Mark}
use Rattle.cert_spec.specs.Lines.{Item}
use Rattle.cert_spec.specs.Text.{line_bytes, cut_items_as, cut_items}
use Rattle.cert_format.proofs.Joined.{texts_joined}
use Rattle.cert_format.proofs.CutLines.{cut_text}
use Rattle.cut_pool.specs.Kept.{Kept, by_set, kept_cut, kept_at, IsKeptFor}
use Rattle.proof_text.specs.Certificates.{mark_said}
use Rattle.proof_text.specs.Texts.{head_item, head_items, duals_with, origin_items, place_items, stretch_items, kept_items}
use Rattle.proof_text.proofs.FoundLines.{numbered, length_numbered, same_place, kept_cut_at, kept_cut_text}
use Rattle.proof_text.proofs.Ranges.{joined, same_each, shifted}

-- ---- the origins of a cut

-- an origin behind the first has no line of its cut
pub no_head : (v c : ℕ) (kept : Kept) (i : ℕ) → 1 ≤ i → [] ≡ head_items v c kept i
no_head v c kept i some =
    let apart : nat_eq i 0 ≡ false = ne_eqb i 0 (λ none. absurd (omega (arith, none, some))) in
    sym (ap (λ (b : Bool). if b then head_item v c kept (mark_said v kept) ∷ [] else []) apart)

-- the line of the cut, if there is one, and then those of the duals
pub origin_text : (v : ℕ) (p : Problem) (c : ℕ) (kept : Kept) (i : ℕ)
    → flat_map line_bytes (head_items v c kept i) ++ flat_map line_bytes (duals_with v p kept (mark_said v kept) i)
    ≡ flat_map line_bytes (origin_items v p c kept i)
origin_text v p c kept i = sym (flat_map-append line_bytes (head_items v c kept i) (duals_with v p kept (mark_said v kept) i))

first_other : (head : Item) (f g : ℕ → List Item) (n : ℕ) → 1 ≤ n → f 0 ≡ head ∷ g 0 → ((i : ℕ) → 1 ≤ i → f i ≡ g i)
    → flat_map f (range_with_len 0 n) ≡ head ∷ flat_map g (range_with_len 0 n)
first_other head f g zero some first later = absurd (omega (arith, some))
first_other head f g (suc n) some first later =
    ap₂ (λ (xs ys : List Item). xs ++ ys) first (same_each f g (0 + 1) n (λ i low high. later i (omega (arith, low))))

cut_origins : (v : ℕ) (p : Problem) (c : ℕ) (kept : Kept) → 1 ≤ p.size → IsKeptFor p kept
    → flat_map line_bytes (flat_map (origin_items v p c kept) (range_with_len 0 p.size))
    ≡ flat_map line_bytes (cut_items_as v p.size c (kept_cut p kept) (mark_said v kept))
cut_origins v p c kept some fits =
    let duals = duals_with v p kept (mark_said v kept) in
    ap (flat_map line_bytes)
    (first_other (head_item v c kept (mark_said v kept)) (origin_items v p c kept) duals p.size some refl
    (λ i behind. ap (λ (items : List Item). items ++ duals i) (sym (no_head v c kept i behind))))
    ∙ kept_cut_text v p c kept some fits

-- ---- the places of a cut

place_at : (v : ℕ) (p : Problem) (cuts : List Kept) (m i : ℕ) → i < p.size
    → place_items v p cuts (m * p.size + i) ≡ origin_items v p (m + 1) (kept_at cuts (m + 1)) i
place_at v p cuts m i less =
    let cut = div-mul-add m p.size i less in
    let origin = mod-mul-add m p.size i less in
    λ t. origin_items v p (cut t + 1) (kept_at cuts (cut t + 1)) (origin t)

cut_places : (v : ℕ) (p : Problem) (cuts : List Kept) (m : ℕ) → stretch_items v p cuts (m * p.size) p.size
    ≡ flat_map (origin_items v p (m + 1) (kept_at cuts (m + 1))) (range_with_len 0 p.size)
cut_places v p cuts m =
    let place = place_items v p cuts in
    let from : m * p.size ≡ m * p.size + 0 = omega arith in
    ap (λ (a : ℕ). flat_map place (range_with_len a p.size)) from
    ∙ shifted place (m * p.size) 0 p.size
    ∙ same_each (λ i. place (m * p.size + i)) (origin_items v p (m + 1) (kept_at cuts (m + 1))) 0 p.size
    (λ i low high. place_at v p cuts m i (omega (arith, high)))

one_cut : (v : ℕ) (p : Problem) (cuts : List Kept) (m : ℕ) (d : ℕ × (Cut × Option Mark)) → 1 ≤ p.size → All (IsKeptFor p) cuts → m < length cuts
    → flat_map line_bytes (stretch_items v p cuts (m * p.size) p.size) ≡ cut_text v p.size (get_or (numbered v p cuts) m d)
one_cut v p cuts m d some fit less =
    let one = kept_at cuts (m + 1) in
    let fits = subst (IsKeptFor p) (sym (same_place cuts m)) (All-get_or (IsKeptFor p) cuts m (by_set [] []) less fit) in
    ap (flat_map line_bytes) (cut_places v p cuts m)
    ∙ cut_origins v p (m + 1) one some fits
    ∙ kept_cut_at v p cuts m d one less refl

-- ---- the places of all cuts

first_places : (v : ℕ) (p : Problem) (cuts : List Kept) (m : ℕ) → 1 ≤ p.size → All (IsKeptFor p) cuts → m ≤ length cuts
    → flat_map line_bytes (stretch_items v p cuts 0 (m * p.size)) ≡ flat_map (cut_text v p.size) (take m (numbered v p cuts))
first_places v p cuts zero some fit few =
    let none : 0 * p.size ≡ 0 = omega arith in
    ap (λ (k : ℕ). flat_map line_bytes (stretch_items v p cuts 0 k)) none
first_places v p cuts (suc m) some fit few =
    let d : ℕ × (Cut × Option Mark) = (0, (cut_by [], None)) in
    let n = p.size in
    let all = numbered v p cuts in
    let before = stretch_items v p cuts 0 (m * n) in
    let from : 0 + m * n ≡ m * n = omega arith in
    let next : suc m ≡ m + 1 = omega arith in
    ap (λ (k : ℕ). flat_map line_bytes (stretch_items v p cuts 0 k)) (suc-mul m n)
    ∙ ap (flat_map line_bytes) (sym (joined (place_items v p cuts) 0 (m * n) n))
    ∙ ap (λ (a : ℕ). flat_map line_bytes (before ++ stretch_items v p cuts a n)) from
    ∙ flat_map-append line_bytes before (stretch_items v p cuts (m * n) n)
    ∙ ap₂ (λ (xs ys : List ℕ). xs ++ ys) (first_places v p cuts m some fit (omega (arith, few))) (one_cut v p cuts m d some fit (omega (arith, few)))
    ∙ flat_map_more (cut_text v n) [] (take m all) (get_or all m d)
    ∙ ap (flat_map (cut_text v n)) (sym (take_more all m d (omega (arith, few, length_numbered v p cuts))))
    ∙ ap (λ (k : ℕ). flat_map (cut_text v n) (take k all)) (sym next)

pub all_places : (v : ℕ) (p : Problem) (cuts : List Kept) → 1 ≤ p.size → All (IsKeptFor p) cuts
    → flat_map line_bytes (stretch_items v p cuts 0 (length cuts * p.size)) ≡ flat_map line_bytes (kept_items v p cuts)
all_places v p cuts some fit =
    first_places v p cuts (length cuts) some fit (omega arith)
    ∙ ap (flat_map (cut_text v p.size)) (take_all (length cuts) (numbered v p cuts) (omega (arith, length_numbered v p cuts)))
    ∙ texts_joined (cut_items v p.size) (numbered v p cuts)

-- ---- stretches

-- the places of a stretch, and then those behind it
pub stretch_and_rest : (v : ℕ) (p : Problem) (cuts : List Kept) (first count next rest left : ℕ) → next ≡ first + count → left ≡ count + rest
    → flat_map line_bytes (stretch_items v p cuts first count) ++ flat_map line_bytes (stretch_items v p cuts next rest)
    ≡ flat_map line_bytes (stretch_items v p cuts first left)
stretch_and_rest v p cuts first count next rest left place whole =
    let place_lines = place_items v p cuts in
    sym (flat_map-append line_bytes (stretch_items v p cuts first count) (stretch_items v p cuts next rest))
    ∙ ap (λ (a : ℕ). flat_map line_bytes (stretch_items v p cuts first count ++ stretch_items v p cuts a rest)) place
    ∙ ap (flat_map line_bytes) (joined place_lines first count rest)
    ∙ ap (λ (k : ℕ). flat_map line_bytes (stretch_items v p cuts first k)) (sym whole)

-- the place of a block among those of its stretch
pub block_at : (items : ℕ → List Item) (first count block : ℕ) → block < count
    → flat_map line_bytes (items (first + block)) ≡ flat_map line_bytes (items (get_or (range_with_len first count) block 0))
block_at items first count block less =
    ap (λ (t : ℕ). flat_map line_bytes (items t)) (sym (get_or-range_with_len first count block 0 less))
