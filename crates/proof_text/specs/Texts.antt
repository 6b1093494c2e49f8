-- The text of the certificate of what a search found, in a version: its lines in order, the tree's as they were found.
use Rattle.std.specs.Prelude.{◌≡◌, ◌≢◌, ℕ, ◌+◌, ◌*◌, ◌/◌, ◌%◌, List, [], ◌∷◌, ◌++◌, length, map, flat_map, All, nat_eq, if◌then◌else◌, Option, Some, None, ◌⊎◌}
use Rattle.std.specs.List.{range_with_len, slice_index_or}
use Rattle.hub_spec.specs.Problem.{Problem, IsProblem}
use Rattle.hub_spec.specs.Trees.{Tree, preorder}
use Rattle.hub_spec.specs.Cuts.{Prices, Cut}
use Rattle.core_spec.specs.CoreCuts.{CoreProof, Mark}
use Rattle.cert_spec.specs.Stated.{unmarked, as_second, IsStatedInRange, IsStatedOf}
use Rattle.cert_spec.specs.Lines.{Item, says_cut, says_marked, says_dual, says_proof}
use Rattle.cert_spec.specs.Text.{top_items, cuts_items, tree_items, part_said, line_bytes, certificate_text}
use Rattle.cert_format.specs.DualItems.{dual_items_from}
use Rattle.cut_pool.specs.Kept.{Kept, kept_at, kept_cut, kept_part, kept_mark}
use Rattle.cut_pool.specs.Findings.{lines_of, proof_of, IsVersionFor, IsProved}
use Rattle.cut_pool.specs.declared.found.Found.{Found}
use Rattle.dual_lender.specs.Lenders.{kept_dual}
use Rattle.proof_text.specs.Certificates.{mark_said, stated_by}

-- ---- the lines of the cuts by places: the origins of the first cut in order, then those of the second, and so on

-- where there is no proof
abbrev pub no_proof : CoreProof
no_proof = record { turns = 0; scale = 0; ways = [] }

-- the line of a dual with that of its proof, which stands at the commodity's number
abbrev pub proved_pair : ℕ → (ℕ × ℕ → Prices) → List CoreProof → (i j : ℕ) → List Item
proved_pair n dual proofs i j = says_dual (i, j) 1 (dual (i, j)) ∷ says_proof (slice_index_or proofs (i * n + j) no_proof) ∷ []

-- those of all commodities from i
abbrev pub proved_from : ℕ → (ℕ × ℕ → Prices) → List CoreProof → ℕ → List Item
proved_from n dual proofs i = flat_map (proved_pair n dual proofs i) (range_with_len 0 n)

-- the line of the cut of this number, and perhaps with a mark
abbrev pub head_item : (version c : ℕ) → Kept → Option Mark → Item
head_item version c kept None = says_cut c (part_said version (kept_part kept))
head_item version c kept (Some mark) = says_marked c (kept_part kept) mark.hubs

-- it stands before the lines of the cut's first origin
abbrev pub head_items : (version c : ℕ) → Kept → (i : ℕ) → List Item
head_items version c kept i = if nat_eq i 0 then head_item version c kept (mark_said version kept) ∷ [] else []

-- the lines of the duals of an origin, each with its proof where the cut is marked
abbrev pub duals_with : ℕ → Problem → Kept → Option Mark → (i : ℕ) → List Item
duals_with version p kept None i = dual_items_from version p.size (kept_dual p kept) i
duals_with version p kept (Some mark) i = proved_from p.size (kept_dual p kept) mark.proofs i

-- those of all origins
abbrev pub kept_dual_items : ℕ → Problem → Kept → List Item
kept_dual_items version p kept = flat_map (duals_with version p kept (mark_said version kept)) (range_with_len 0 p.size)

-- the lines of an origin of the cut of this number
abbrev pub origin_items : ℕ → Problem → (c : ℕ) → Kept → (i : ℕ) → List Item
origin_items version p c kept i = head_items version c kept i ++ duals_with version p kept (mark_said version kept) i

-- those of a place, counted from 0
abbrev pub place_items : ℕ → Problem → List Kept → ℕ → List Item
place_items version p cuts t = origin_items version p (t / p.size + 1) (kept_at cuts (t / p.size + 1)) (t % p.size)

-- those of so many places one after another
abbrev pub stretch_items : ℕ → Problem → List Kept → (first count : ℕ) → List Item
stretch_items version p cuts first count = flat_map (place_items version p cuts) (range_with_len first count)

-- ---- all lines

-- a stored cut, with the mark that the version states for it
abbrev pub marked_cut : ℕ → Problem → Kept → Cut × Option Mark
marked_cut version p kept = (kept_cut p kept, mark_said version kept)

-- the lines of the stored cuts
abbrev pub kept_items : ℕ → Problem → List Kept → List Item
kept_items version p cuts = cuts_items version p.size 1 (map (marked_cut version p) cuts)

-- the lines up to the number of cuts
abbrev pub found_top_items : ℕ → Problem → Found → List Item
found_top_items version p found =
    top_items version p.size (length p.candidates) found.cost found.bound found.plan (length found.cuts.cuts)

-- all lines
abbrev pub found_items : ℕ → Problem → Found → List Item
found_items version p found =
    found_top_items version p found
    ++ (kept_items version p found.cuts.cuts ++ tree_items (lines_of found.tree.items))

-- the text
unfoldable pub found_text : ℕ → Problem → Found → List ℕ
found_text version p found = flat_map line_bytes (found_items version p found)

-- it is the text of the certificate with each tree that has the found lines
abbrev pub FoundTextIsCertificate : Type 0
FoundTextIsCertificate =
    (version : ℕ) (p : Problem) (found : Found) (tree : Tree) → lines_of found.tree.items ≡ preorder tree
    → found_text version p found ≡ certificate_text (stated_by version p found tree)

-- before the third version, and where no cut is marked in it too, no mark is said
abbrev pub StatedIsUnmarked : Type 0
StatedIsUnmarked =
    (version : ℕ) (p : Problem) (found : Found) (tree : Tree) → (version ≢ 3) ⊎ All (λ kept. kept_mark kept ≡ None) found.cuts.cuts
    → stated_by version p found tree ≡ unmarked (proof_of version p found tree)

-- what it states holds, and is in range in a version that has a text for it
abbrev pub StatedHolds : Type 0
StatedHolds =
    (version : ℕ) (p : Problem) (found : Found) (tree : Tree) → IsProblem p → IsProved p found → lines_of found.tree.items ≡ preorder tree
    → IsStatedOf p (stated_by version p found tree)
    × (IsVersionFor p found.cuts.cuts (as_second version) → IsStatedInRange (stated_by version p found tree))
