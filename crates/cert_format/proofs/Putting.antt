-- The texts of the parts of a certificate, by what is put.
use Rattle.std.proofs.Common.{◌≡◌, ℕ, ◌*◌, ◌<◌, List, [], ◌∷◌, ◌++◌, length, map, flat_map, zip, get_or, All, Option, Some, None, IfSome, refl, sym, ap, ◌∙◌, subst, arith, append-nil}
use Rattle.std.proofs.lemmas.List.{get_or-map, length-map}
use Rattle.std.proofs.lemmas.List.Concat.{flat_map-append}
use Rattle.std.proofs.lemmas.List.Elements.{All-weaker, All-get_or}
use Rattle.std.proofs.lemmas.Slice.Zip.{get_or-zip, length-zip}
use Rattle.hub_spec.specs.Problem.{commodities}
use Rattle.hub_spec.specs.Problem as problem
use Rattle.hub_spec.specs.Plans.{Plan}
use Rattle.hub_spec.specs.Cuts.{Prices, Cut}
use Rattle.hub_spec.specs.Trees.{preorder}
use Rattle.core_spec.specs.CoreCuts.{Mark}
use Rattle.core_spec.specs.MarkRanges.{IsMarkInRange}
use Rattle.hub_spec.proofs.Commodities.{length_commodities, commodity_at}
use Rattle.cert_spec.specs.Stated.{Stated, cuts_of, IsStatedInRange}
use Rattle.cert_spec.specs.Lines.{Item, says_version, says_size, says_cost, says_bound, says_hubs, says_route, says_cuts, says_cut, says_nodes, says_tree, says_end, keyword, numbers}
use Rattle.cert_spec.specs.Text.{line_bytes, route_items, part_said, dual_items, cut_items_as, cut_items, top_items, cuts_items, tree_items, certificate_items, certificate_text}
use Rattle.cert_spec.proofs.Items.{certificate_items-parts}
use Rattle.cert_scan.specs.Versions.{version_number}
use Rattle.hub_model.specs.Lines.{tree_line_of}
use Rattle.hub_model.specs.declared.tree_lines.TreeLine.{TreeLine}
use Rattle.cert_format.specs.Spaced.{words_line}
use Rattle.cert_format.specs.Parts.{HasProofs, IsHeadingOf}
use Rattle.cert_format.specs.declared.headings.Heading.{Heading}
use Rattle.cert_format.proofs.Joined.{texts_joined, three_texts}
use Rattle.cert_format.proofs.CutLines.{cut_text}
use Rattle.cert_format.proofs.Written.{line_of}

-- the line of an item as it is put
abbrev put_of : Item → List ℕ
put_of item = words_line (keyword item) (numbers item)

-- ---- the top

-- the first lines
abbrev pub head_items : (v n q c b : ℕ) → List Item
head_items v n q c b = says_version v ∷ says_size n q ∷ says_cost c ∷ says_bound b ∷ []

pub head_text : (n q cost bound : ℕ) {number v : ℕ} → number ≡ v
    → put_of (says_version number) ++ (put_of (says_size n q) ++ (put_of (says_cost cost) ++ put_of (says_bound bound)))
    ≡ flat_map line_bytes (head_items v n q cost bound)
head_text n q cost bound {v = v} same_version =
    (λ i. line_of (says_version (same_version i)) refl i
    ++ (line_of (says_size n q) refl i ++ (line_of (says_cost cost) refl i ++ line_of (says_bound bound) refl i)))
    ∙ ap (λ bs. line_bytes (says_version v) ++ (line_bytes (says_size n q) ++ (line_bytes (says_cost cost) ++ bs))) (sym (append-nil (line_bytes (says_bound bound))))

pub top_text : (v n q c b : ℕ) (plan : Plan) (cuts : ℕ) {hubs : List ℕ} {routes : List (ℕ × ℕ)} → hubs ≡ plan.hubs → routes ≡ plan.routes
    → flat_map line_bytes (head_items v n q c b)
    ++ (line_bytes (says_hubs hubs) ++ (flat_map line_bytes (route_items (zip (commodities n) routes)) ++ put_of (says_cuts cuts)))
    ≡ flat_map line_bytes (top_items v n q c b plan cuts)
top_text v n q c b plan cuts h r =
    let head = head_items v n q c b in
    let middle = route_items (zip (commodities n) plan.routes) in
    (λ i. flat_map line_bytes head
    ++ (line_bytes (says_hubs (h i)) ++ (flat_map line_bytes (route_items (zip (commodities n) (r i))) ++ line_of (says_cuts cuts) refl i)))
    ∙ ap (λ bs. flat_map line_bytes head ++ (line_bytes (says_hubs plan.hubs) ++ bs))
    (ap (λ bs. flat_map line_bytes middle ++ bs) (sym (append-nil (line_bytes (says_cuts cuts)))) ∙ sym (flat_map-append line_bytes middle (says_cuts cuts ∷ [])))
    ∙ sym (flat_map-append line_bytes head (says_hubs plan.hubs ∷ (middle ++ says_cuts cuts ∷ [])))

pub length_route_items : (n : ℕ) (routes : List (ℕ × ℕ)) → length routes ≡ n * n → length (route_items (zip (commodities n) routes)) ≡ length routes
length_route_items n routes e = length-map (zip (commodities n) routes) _ ∙ length-zip (commodities n) routes ∙ omega (arith, length_commodities n)

pub route_item_at : (n : ℕ) (routes : List (ℕ × ℕ)) (t : ℕ) (d : Item) → t < length routes → length routes ≡ n * n
    → says_route (problem.commodity_at n t) (get_or routes t (0, 0)) ≡ get_or (route_items (zip (commodities n) routes)) t d
route_item_at n routes t d l e =
    sym (get_or-map (λ (p : (ℕ × ℕ) × (ℕ × ℕ)). says_route p.0 p.1) (zip (commodities n) routes) t ((0, 0), (0, 0)) d (omega (arith, length-zip (commodities n) routes, length_commodities n))
    ∙ ap (λ (p : (ℕ × ℕ) × (ℕ × ℕ)). says_route p.0 p.1) (get_or-zip (commodities n) routes t ((0, 0), (0, 0)) (omega (arith, length_commodities n)) l)
    ∙ ap (λ c. says_route c (get_or routes t (0, 0))) (commodity_at n t (0, 0) (omega arith)))

pub route_at : (n : ℕ) (routes : List (ℕ × ℕ)) (t : ℕ) (d : Item) → t < length routes → length routes ≡ n * n
    → line_bytes (says_route (problem.commodity_at n t) (get_or routes t (0, 0))) ≡ line_bytes (get_or (route_items (zip (commodities n) routes)) t d)
route_at n routes t d l e = ap line_bytes (route_item_at n routes t d l e)

-- ---- the cuts

-- the line of a cut without a mark, and those of its duals
pub whole_cut_text : (v n x : ℕ) (cut : Cut) {part : ℕ} {duals : List Prices} → part ≡ cut.part → duals ≡ cut.duals
    → line_bytes (says_cut x (part_said v part)) ++ flat_map line_bytes (dual_items v n duals) ≡ flat_map line_bytes (cut_items_as v n x cut None)
whole_cut_text v n x cut part duals = λ i. line_bytes (says_cut x (part_said v (part i))) ++ flat_map line_bytes (dual_items v n (duals i))

pub cut_texts : (v n : ℕ) (cuts : List (ℕ × (Cut × Option Mark))) → flat_map (cut_text v n) cuts ≡ flat_map line_bytes (flat_map (cut_items v n) cuts)
cut_texts v n cuts = texts_joined (cut_items v n) cuts

-- so it is with each of them
pub whole_at : (n : ℕ) (cuts : List Cut) (x : ℕ) (cut : Cut) → x < length cuts → cut ≡ get_or cuts x cut
    → All (λ c. length c.duals ≡ n * n) cuts → length cut.duals ≡ n * n
whole_at n cuts x cut l e h = ap (λ (c : Cut). length c.duals) e ∙ All-get_or (λ (c : Cut). length c.duals ≡ n * n) cuts x cut l h

-- each mark has a proof for each commodity
has_proofs : (n : ℕ) (mark : Option Mark) → IfSome mark (IsMarkInRange n) → HasProofs n mark
has_proofs n None h = tt
has_proofs n (Some mark) h = h.one_for_each

pub proved_marks : (n : ℕ) (k : Stated) (marks : List (Option Mark)) → IsStatedInRange k → marks ≡ k.marks → n ≡ k.proof.size → All (HasProofs n) marks
proved_marks n k marks h e s =
    let m = k.proof.size in
    let each = All-weaker (λ (mark : Option Mark). IfSome mark (IsMarkInRange m)) (HasProofs m) (has_proofs m) k.marks h.marks in
    subst (λ x. All (HasProofs x) marks) (sym s) (subst (All (HasProofs m)) (sym e) each)

pub proved_at : (n : ℕ) (marks : List (Option Mark)) (x : ℕ) (mark : Option Mark) → x < length marks → mark ≡ get_or marks x mark
    → All (HasProofs n) marks → HasProofs n mark
proved_at n marks x mark l e h = subst (HasProofs n) (sym e) (All-get_or (HasProofs n) marks x mark l h)

-- ---- the tree

abbrev pub tree_line_bytes : TreeLine → List ℕ
tree_line_bytes l = line_bytes (says_tree (tree_line_of l))

pub tree_texts : (lines : List TreeLine) → flat_map tree_line_bytes lines ≡ flat_map line_bytes (map says_tree (map tree_line_of lines))
tree_texts [] = refl
tree_texts (l ∷ lines) = ap (λ bs. tree_line_bytes l ++ bs) (tree_texts lines)

pub tree_text : (lines : List TreeLine)
    → put_of (says_nodes (length lines)) ++ (flat_map line_bytes (map says_tree (map tree_line_of lines)) ++ put_of says_end)
    ≡ flat_map line_bytes (tree_items (map tree_line_of lines))
tree_text lines =
    let middle = map says_tree (map tree_line_of lines) in
    (λ i. line_of (says_nodes (length lines)) refl i ++ (flat_map line_bytes middle ++ line_of says_end refl i))
    ∙ ap (λ count. line_bytes (says_nodes count) ++ (flat_map line_bytes middle ++ line_bytes says_end)) (sym (length-map lines tree_line_of))
    ∙ ap (λ bs. line_bytes (says_nodes (length (map tree_line_of lines))) ++ bs)
    (ap (λ bs. flat_map line_bytes middle ++ bs) (sym (append-nil (line_bytes says_end))) ∙ sym (flat_map-append line_bytes middle (says_end ∷ [])))

-- ---- all parts

pub parts_text : (k : Stated) (heading : Heading) {v n : ℕ} {plan : Plan} (cuts : List Cut) (marks : List (Option Mark)) (lines : List TreeLine)
    → IsHeadingOf heading k.proof → v ≡ k.proof.version → n ≡ k.proof.size → plan ≡ k.proof.plan → cuts ≡ k.proof.cuts → marks ≡ k.marks
    → map tree_line_of lines ≡ preorder k.proof.tree
    → flat_map line_bytes (top_items (version_number heading.version) heading.size heading.candidates heading.cost heading.bound plan (length cuts))
    ++ (flat_map line_bytes (cuts_items v n 1 (zip cuts marks)) ++ flat_map line_bytes (tree_items (map tree_line_of lines)))
    ≡ flat_map line_bytes (certificate_items k)
parts_text k heading cuts marks lines h version size plans all of_all tree =
    let p = k.proof in
    let top = top_items p.version p.size p.candidates p.cost p.bound p.plan (length p.cuts) in
    (λ i. flat_map line_bytes (top_items (h.version i) (h.size i) (h.candidates i) (h.cost i) (h.bound i) (plans i) (length (all i)))
    ++ (flat_map line_bytes (cuts_items (version i) (size i) 1 (zip (all i) (of_all i))) ++ flat_map line_bytes (tree_items (tree i))))
    ∙ three_texts top (cuts_items p.version p.size 1 (cuts_of k)) (tree_items (preorder p.tree))
    ∙ ap (flat_map line_bytes) (sym (certificate_items-parts k))

pub whole_text : (k : Stated) → flat_map line_bytes (certificate_items k) ≡ certificate_text k
unfolding certificate_text
whole_text k = refl
