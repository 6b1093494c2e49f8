-- The lines of a finding, by what is put: those of its certificate, cut by cut.
use Rattle.std.proofs.Common.{◌≡◌, ℕ, ◌+◌, ◌-◌, ◌<◌, List, [], ◌∷◌, ◌++◌, length, map, flat_map, zip, get_or, ◌≤◌, Option, Some, None, refl, sym, ap, ◌∙◌, arith}
use Rattle.std.specs.List.{enumerate_from, range_with_len}
use Rattle.std.proofs.lemmas.List.{length-map, get_or-map}
use Rattle.std.proofs.lemmas.List.FromFn.{length-enumerate_from}
use Rattle.hub_spec.specs.Problem.{Problem}
use Rattle.hub_spec.specs.Plans.{Plan}
use Rattle.hub_spec.specs.Cuts.{Cut}
use Rattle.hub_spec.specs.Trees.{Tree, empty, preorder}
use Rattle.hub_model.specs.declared.tree_lines.TreeLine as model
use Rattle.core_spec.specs.CoreCuts.{Mark}
use Rattle.cert_spec.specs.Lines.{Item, says_marked}
use Rattle.cert_spec.specs.Text.{line_bytes, cut_items_as, top_items, cuts_items, tree_items, certificate_text}
use Rattle.cert_spec.proofs.Items.{certificate_items-parts}
use Rattle.cert_scan.specs.Versions.{version_number}
use Rattle.cert_format.specs.Parts.{IsHeadingOf, HasProofs}
use Rattle.cert_format.specs.declared.headings.Heading.{Heading}
use Rattle.cert_format.proofs.Joined.{three_texts}
use Rattle.cert_format.proofs.CutLines.{cut_text, cut_at, cut_text_by}
use Rattle.cut_pool.specs.Kept.{Kept, by_set, KeptList, kept_cut, kept_cuts, kept_part, kept_at, IsKeptFor}
use Rattle.cut_pool.specs.Findings.{lines_of, proof_of}
use Rattle.cut_pool.specs.declared.found.Found.{Found}
use Rattle.dual_lender.specs.Lenders.{kept_dual}
use Rattle.dual_lender.proofs.Lending.{kept_cut_is}
use Rattle.proof_text.specs.Certificates.{mark_said, stated_by}
use Rattle.proof_text.specs.Texts.{head_item, duals_with, kept_dual_items, marked_cut, kept_items, found_top_items, found_items, found_text}
use Rattle.proof_text.proofs.ProvedLines.{all_proved}
use Rattle.proof_text.proofs.SaidMarks.{said_has_proofs}

-- ---- the top

pub top_text : (v : ℕ) (p : Problem) (found : Found) (heading : Heading) {cuts : ℕ} {plan : Plan}
    → IsHeadingOf heading (proof_of v p found empty) → plan ≡ found.plan → cuts ≡ length found.cuts.cuts
    → flat_map line_bytes (top_items (version_number heading.version) heading.size heading.candidates heading.cost
    heading.bound plan cuts)
    ≡ flat_map line_bytes (found_top_items v p found)
top_text v p found heading is same count =
    λ t. flat_map line_bytes (top_items (is.version t) (is.size t) (is.candidates t) (is.cost t) (is.bound t) (same t) (count t))

-- ---- a cut

-- the line of the cut and those of its duals are those of the cut
cut_text_with : (v : ℕ) (p : Problem) (c : ℕ) (kept : Kept) (mark : Option Mark) → 1 ≤ p.size → IsKeptFor p kept → HasProofs p.size mark
    → line_bytes (head_item v c kept mark) ++ flat_map line_bytes (flat_map (duals_with v p kept mark) (range_with_len 0 p.size))
    ≡ flat_map line_bytes (cut_items_as v p.size c (kept_cut p kept) mark)
cut_text_with v p c kept None some fits proved =
    cut_text_by v p.size c (kept_part kept) (kept_dual p kept) (kept_cut p kept) some (kept_cut_is p kept fits)
cut_text_with v p c kept (Some mark) some fits proved =
    ap (λ items. line_bytes (says_marked c (kept_part kept) mark.hubs) ++ flat_map line_bytes items)
    (all_proved p.size (kept_dual p kept) mark.proofs proved)
    ∙ ap (λ (k : Cut). flat_map line_bytes (cut_items_as v p.size c k (Some mark))) (sym (kept_cut_is p kept fits))

-- .. with the mark that is said
pub kept_cut_text : (v : ℕ) (p : Problem) (c : ℕ) (kept : Kept) → 1 ≤ p.size → IsKeptFor p kept
    → line_bytes (head_item v c kept (mark_said v kept)) ++ flat_map line_bytes (kept_dual_items v p kept)
    ≡ flat_map line_bytes (cut_items_as v p.size c (kept_cut p kept) (mark_said v kept))
kept_cut_text v p c kept some fits = cut_text_with v p c kept (mark_said v kept) some fits (said_has_proofs p v kept fits)

-- ---- the cuts

-- the cuts with the marks that are said, and their numbers
abbrev pub numbered : ℕ → Problem → List Kept → List (ℕ × (Cut × Option Mark))
numbered v p kept = enumerate_from 1 (map (marked_cut v p) kept)

pub length_numbered : (v : ℕ) (p : Problem) (kept : List Kept) → length (numbered v p kept) ≡ length kept
length_numbered v p kept = length-enumerate_from 1 (map (marked_cut v p) kept) ∙ length-map kept (marked_cut v p)

-- the stored cut whose number is one above the index
pub same_place : (kept : List Kept) (x : ℕ) → kept_at kept (x + 1) ≡ get_or kept x (by_set [] [])
same_place kept x =
    let place : (x + 1) - 1 ≡ x = omega arith in
    ap (λ (y : ℕ). get_or kept y (by_set [] [])) place

-- the cut at a place
pub kept_cut_at : (v : ℕ) (p : Problem) (kept : List Kept) (x : ℕ) (d : ℕ × (Cut × Option Mark)) (one : Kept) → x < length kept → one ≡ kept_at kept (x + 1)
    → flat_map line_bytes (cut_items_as v p.size (x + 1) (kept_cut p one) (mark_said v one)) ≡ cut_text v p.size (get_or (numbered v p kept) x d)
kept_cut_at v p kept x d one l is =
    let cuts = map (marked_cut v p) kept in
    cut_at v p.size cuts x d (marked_cut v p one) (omega (arith, length-map kept (marked_cut v p), l))
    (ap (marked_cut v p) (is ∙ same_place kept x) ∙ sym (get_or-map (marked_cut v p) kept x (by_set [] []) d.1 l))

-- ---- the whole

pub found_lines : (v : ℕ) (p : Problem) (found : Found) {cuts : KeptList} {lines : List model.TreeLine} → cuts ≡ found.cuts → lines ≡ found.tree.items
    → flat_map line_bytes (found_top_items v p found)
    ++ (flat_map line_bytes (kept_items v p cuts.cuts) ++ flat_map line_bytes (tree_items (lines_of lines)))
    ≡ flat_map line_bytes (found_items v p found)
found_lines v p found same tree =
    (λ t. flat_map line_bytes (found_top_items v p found)
    ++ (flat_map line_bytes (kept_items v p (same t).cuts) ++ flat_map line_bytes (tree_items (lines_of (tree t)))))
    ∙ three_texts (found_top_items v p found) (kept_items v p found.cuts.cuts) (tree_items (lines_of found.tree.items))

pub found_text_is : (v : ℕ) (p : Problem) (found : Found) → flat_map line_bytes (found_items v p found) ≡ found_text v p found
unfolding found_text
found_text_is v p found = refl

-- the cuts with the marks that are said, as they stand in the certificate
cuts_said : (v : ℕ) (p : Problem) (kept : List Kept) → map (marked_cut v p) kept ≡ zip (kept_cuts p kept) (map (mark_said v) kept)
cuts_said v p [] = refl
cuts_said v p (k ∷ kept) = ap (λ (cuts : List (Cut × Option Mark)). marked_cut v p k ∷ cuts) (cuts_said v p kept)

-- the text is that of the certificate with a tree of these lines
pub found_text_certificate : (v : ℕ) (p : Problem) (found : Found) (tree : Tree) → lines_of found.tree.items ≡ preorder tree
    → found_text v p found ≡ certificate_text (stated_by v p found tree)
unfolding found_text certificate_text
found_text_certificate v p found tree lines =
    let kept = found.cuts.cuts in
    let top : ℕ → List Item = λ x. top_items v p.size (length p.candidates) found.cost found.bound found.plan x in
    let count : length kept ≡ length (kept_cuts p kept) = sym (length-map kept (kept_cut p)) in
    ap (flat_map line_bytes)
    ((λ t. top (count t) ++ (cuts_items v p.size 1 (cuts_said v p kept t) ++ tree_items (lines t)))
    ∙ sym (certificate_items-parts (stated_by v p found tree)))
