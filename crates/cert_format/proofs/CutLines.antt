-- The lines of cuts whose duals a function gives, by what is put: cut by cut, and of each the duals origin by origin.
use Rattle.std.proofs.Common.{◌≡◌, ℕ, ◌+◌, ◌<◌, ◌≤◌, List, ◌++◌, length, map, flat_map, zip, get_or, Option, None, sym, ap, ap₂, ◌∙◌, arith}
use Rattle.std.specs.List.{enumerate_from, range_with_len}
use Rattle.std.proofs.lemmas.Slice.Zip.{get_or-zip, length-zip}
use Rattle.std.proofs.lemmas.List.FromFn.{get_or-enumerate_from, length-map-range_with_len, get_or-range_with_len, get_or-map-range_with_len}
use Rattle.hub_spec.specs.Problem.{commodities}
use Rattle.hub_spec.specs.Cuts.{Prices, Cut}
use Rattle.core_spec.specs.CoreCuts.{Mark}
use Rattle.cert_spec.specs.Lines.{says_cut}
use Rattle.cert_spec.specs.Text.{line_bytes, part_said, cut_items_as, cut_items}
use Rattle.cert_format.specs.DualItems.{row_of, dual_items_from, all_dual_items}
use Rattle.cert_format.proofs.DualRows.{all_dual_items-mapped}

-- the line of the cut and those of its duals are those of the cut without a mark
pub cut_text_by : (v n c part : ℕ) (d : ℕ × ℕ → Prices) (cut : Cut) → 1 ≤ n → cut ≡ record { part = part; duals = map d (commodities n) }
    → line_bytes (says_cut c (part_said v part)) ++ flat_map line_bytes (all_dual_items v n d) ≡ flat_map line_bytes (cut_items_as v n c cut None)
cut_text_by v n c part d cut some is =
    ap (λ items. line_bytes (says_cut c (part_said v part)) ++ flat_map line_bytes items) (all_dual_items-mapped v n d some)
    ∙ ap (λ (k : Cut). flat_map line_bytes (cut_items_as v n c k None)) (sym is)

pub length_row_of : (n : ℕ) (d : ℕ × ℕ → Prices) (i : ℕ) → length (row_of n d i) ≡ n
length_row_of n d i = length-map-range_with_len (λ j. d (i, j)) 0 n

-- a dual in the row of its origin
pub row_at : (n : ℕ) (d : ℕ × ℕ → Prices) (i j : ℕ) (e : Prices) → j < n → get_or (row_of n d i) j e ≡ d (i, j)
row_at n d i j e l = get_or-map-range_with_len (λ j. d (i, j)) 0 n j j e l (omega arith)

-- the lines of an origin's duals
pub origin_at : (v n : ℕ) (d : ℕ × ℕ → Prices) (i : ℕ) → i < n
    → flat_map line_bytes (dual_items_from v n d i) ≡ flat_map line_bytes (dual_items_from v n d (get_or (range_with_len 0 n) i 0))
origin_at v n d i l =
    let at : get_or (range_with_len 0 n) i 0 ≡ i = get_or-range_with_len 0 n i 0 l ∙ omega arith in
    ap (λ (m : ℕ). flat_map line_bytes (dual_items_from v n d m)) (sym at)

-- ---- the cuts with their numbers and marks

-- the text of a cut and its mark with their number
abbrev pub cut_text : ℕ → ℕ → ℕ × (Cut × Option Mark) → List ℕ
cut_text v n c = flat_map line_bytes (cut_items v n c)

-- cuts and their marks, counted from 1
abbrev pub numbered : List (Cut × Option Mark) → List (ℕ × (Cut × Option Mark))
numbered cuts = enumerate_from 1 cuts

numbered_at : (cuts : List (Cut × Option Mark)) (x : ℕ) (d : ℕ × (Cut × Option Mark)) (cut : Cut × Option Mark)
    → x < length cuts → cut ≡ get_or cuts x d.1 → ◌≡◌ {A = ℕ × (Cut × Option Mark)} (x + 1, cut) (get_or (numbered cuts) x d)
numbered_at cuts x d cut l is =
    let at : get_or (numbered cuts) x d ≡ (1 + x, get_or cuts x d.1) = get_or-enumerate_from 1 cuts x d l in
    let number : x + 1 ≡ 1 + x = omega arith in
    ap₂ (λ (c : ℕ) (cut : Cut × Option Mark). (c, cut)) number is ∙ sym at

pub cut_at : (v n : ℕ) (cuts : List (Cut × Option Mark)) (x : ℕ) (d : ℕ × (Cut × Option Mark)) (cut : Cut × Option Mark)
    → x < length cuts → cut ≡ get_or cuts x d.1
    → cut_text v n (x + 1, cut) ≡ cut_text v n (get_or (numbered cuts) x d)
cut_at v n cuts x d cut l is = ap (cut_text v n) (numbered_at cuts x d cut l is)

-- how many they are
pub length-marked : (cuts : List Cut) (marks : List (Option Mark)) → length marks ≡ length cuts → length (zip cuts marks) ≡ length cuts
length-marked cuts marks e = length-zip cuts marks ∙ omega (arith, e)

-- each with its mark
pub marked_cut_at : (cuts : List Cut) (marks : List (Option Mark)) (x : ℕ) (cut : Cut) (mark : Option Mark) → length marks ≡ length cuts → x < length cuts
    → cut ≡ get_or cuts x cut → mark ≡ get_or marks x mark
    → ◌≡◌ {A = ℕ × (Cut × Option Mark)} (x + 1, (cut, mark)) (get_or (numbered (zip cuts marks)) x (0, (cut, mark)))
marked_cut_at cuts marks x cut mark e l at_cut at_mark =
    let pair : get_or (zip cuts marks) x (cut, mark) ≡ (get_or cuts x cut, get_or marks x mark) =
    get_or-zip cuts marks x (cut, mark) l (omega (arith, l, e)) in
    let both = ap₂ (λ (c : Cut) (m : Option Mark). (c, m)) at_cut at_mark ∙ sym pair in
    numbered_at (zip cuts marks) x (0, (cut, mark)) (cut, mark) (omega (arith, l, length-marked cuts marks e)) both

pub marked_at : (v n : ℕ) (cuts : List Cut) (marks : List (Option Mark)) (x : ℕ) (cut : Cut) (mark : Option Mark) → length marks ≡ length cuts → x < length cuts
    → cut ≡ get_or cuts x cut → mark ≡ get_or marks x mark
    → flat_map line_bytes (cut_items_as v n (x + 1) cut mark) ≡ cut_text v n (get_or (numbered (zip cuts marks)) x (0, (cut, mark)))
marked_at v n cuts marks x cut mark e l at_cut at_mark = ap (cut_text v n) (marked_cut_at cuts marks x cut mark e l at_cut at_mark)
