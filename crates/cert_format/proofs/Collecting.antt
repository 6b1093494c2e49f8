-- What the items of a certificate give is the certificate.
use Rattle.std.proofs.Common.{◌≡◌, ℕ, false, ◌+◌, List, [], ◌∷◌, ◌++◌, length, map, flat_map, zip, replicate, Option, Some, None, IfSome, ⊎_elim, inl, inr, refl, sym, ap, ap₂, ◌∙◌, arith, append_assoc, append-nil, eq-eqb}
use Rattle.std.specs.List.{AllByRecursion, AllZip}
use Rattle.std.proofs.lemmas.List.Concat.{flat_map-append}
use Rattle.std.proofs.lemmas.List.Elements.{recursion_from_All}
use Rattle.hub_spec.specs.Problem.{commodities}
use Rattle.hub_spec.specs.Cuts.{Prices, Cut}
use Rattle.hub_spec.specs.Trees.{TreeLine, branch_on, leaf_of, no_hub, no_route, no_count, preorder, line_count}
use Rattle.hub_spec.specs.Certificates.{Proof}
use Rattle.core_spec.specs.CoreCuts.{Way, CoreProof, Mark}
use Rattle.core_spec.specs.MarkRanges.{IsMarkInRange}
use Rattle.cert_spec.specs.Stated.{Stated, cuts_of, IsStatedInRange}
use Rattle.hub_spec.specs.Ranges.{IsFirstCut, IsFirst, IsCutInRange}
use Rattle.hub_spec.proofs.Commodities.{length_commodities}
use Rattle.cert_spec.specs.Lines.{Item as Line, says_version, says_size, says_cost, says_bound, says_hubs, says_route, says_cuts, says_cut, says_marked, says_dual, says_proof, says_nodes, says_tree, says_end, part_of}
use Rattle.cert_spec.specs.Runs.{spread}
use Rattle.cert_spec.specs.Text.{is_first, route_items, run_items, dual_runs, part_said, proved_items, cut_items_as, cuts_items, certificate_items}
use Rattle.cert_spec.specs.Grammar.{IsVersion}
use Rattle.cert_spec.proofs.Claims.{spread_dual_runs}
use Rattle.cert_spec.proofs.Versions.{first_is_no_later, SaysProof, version_said}
use Rattle.cert_scan.specs.Versions.{version_number, version_of}
use Rattle.cert_scan.proofs.Versions.{number_back}
use Rattle.cert_scan.specs.Parts.{none_left, hub_parts, mark_parts, value_parts, way_parts, weight_parts, parts_of, items_of}
use Rattle.cert_scan.specs.declared.items.Item.{Item}
use Rattle.cert_scan.specs.declared.items.Item.TheVariants.{Hub, End}
use Rattle.cert_format.specs.Gathered.{Gathered, Marking, no_cut, cut_begun, dual_begun, proof_begun, leaf_begun, Standing, whole, at_start, with_duals, with_cut, with_proof, settled, taken, taken_all, all_gathered}

pub taken_all-append : (s : Standing) (xs ys : List Item) → taken_all s (xs ++ ys) ≡ taken_all (taken_all s xs) ys
taken_all-append s [] ys = refl
taken_all-append s (x ∷ xs) ys = taken_all-append (taken s x) xs ys

-- ---- what was begun

-- a run's dual with these values
abbrev pub dual_at : Gathered → (run a : ℕ) → List (ℕ × ℕ) → Standing
dual_at g run a u = record { parts = g; begun = dual_begun run (record { a = a; u = u }) }

-- a proof with these ways
abbrev pub proof_at : Gathered → (turns scale : ℕ) → List Way → Standing
proof_at g turns scale ways = record { parts = g; begun = proof_begun (record { turns = turns; scale = scale; ways = ways }) }

-- a leaf with these weights
abbrev pub leaf_at : Gathered → ℕ → List (ℕ × ℕ) → Standing
leaf_at g denom weights = record { parts = g; begun = leaf_begun denom weights }

pub values_taken : (g : Gathered) (run a : ℕ) (u more : List (ℕ × ℕ)) → taken_all (dual_at g run a u) (value_parts more) ≡ dual_at g run a (u ++ more)
values_taken g run a u [] = ap (dual_at g run a) (sym (append-nil u))
values_taken g run a u (e ∷ more) = values_taken g run a (u ++ e ∷ []) more ∙ ap (dual_at g run a) (append_assoc u (e ∷ []) more)

pub ways_taken : (g : Gathered) (turns scale : ℕ) (ws more : List Way)
    → taken_all (proof_at g turns scale ws) (way_parts more) ≡ proof_at g turns scale (ws ++ more)
ways_taken g turns scale ws [] = ap (proof_at g turns scale) (sym (append-nil ws))
ways_taken g turns scale ws (w ∷ more) =
    ways_taken g turns scale (ws ++ w ∷ []) more ∙ ap (proof_at g turns scale) (append_assoc ws (w ∷ []) more)

pub weights_taken : (g : Gathered) (denom : ℕ) (w more : List (ℕ × ℕ)) → taken_all (leaf_at g denom w) (weight_parts more) ≡ leaf_at g denom (w ++ more)
weights_taken g denom w [] = ap (leaf_at g denom) (sym (append-nil w))
weights_taken g denom w (e ∷ more) = weights_taken g denom (w ++ e ∷ []) more ∙ ap (leaf_at g denom) (append_assoc w (e ∷ []) more)

-- ---- line by line

-- with the line of a cut of this part, and the mark that the line begins
abbrev with_cut_line : Gathered → ℕ → Option Mark → Gathered
with_cut_line g part mark = record (with_cut g) { cuts = g.cuts ++ record { part = part; duals = [] } ∷ []; marking = cut_begun mark }

-- with what one more line says
abbrev with_line : Gathered → Line → Gathered
with_line g (says_version v) = record g { version = version_number (version_of v) }
with_line g (says_size n q) = record g { size = n; candidates = q }
with_line g (says_cost c) = record g { cost = c }
with_line g (says_bound b) = record g { bound = b }
with_line g (says_hubs hubs) = record g { hubs = g.hubs ++ hubs }
with_line g (says_route commodity route) = record g { routes = g.routes ++ route ∷ [] }
with_line g (says_cut number part) = with_cut_line g (part_of part) None
with_line g (says_marked number part hubs) = with_cut_line g part (Some (record { hubs = hubs; proofs = [] }))
with_line g (says_dual commodity run dual) = record g { cuts = with_duals g.cuts (replicate run dual) }
with_line g (says_proof proof) = record g { marking = with_proof g.marking proof }
with_line g (says_nodes all) = with_cut g
with_line g (says_tree line) = record g { lines = g.lines ++ line ∷ [] }
with_line g line = g

-- with what more lines say
abbrev with_lines : Gathered → List Line → Gathered
with_lines g [] = g
with_lines g (line ∷ lines) = with_lines (with_line g line) lines

-- the last cut is marked, with these hubs and proofs so far
abbrev marked_by : List ℕ → List CoreProof → Marking
marked_by hubs proofs = cut_begun (Some (record { hubs = hubs; proofs = proofs }))

hubs_taken : (s : Standing) (hubs : List ℕ) → settled (taken_all s (hub_parts hubs)) ≡ record (settled s) { hubs = (settled s).hubs ++ hubs }
hubs_taken s [] = ap (λ hs. record (settled s) { hubs = hs }) (sym (append-nil (settled s).hubs))
hubs_taken s (k ∷ hubs) =
    hubs_taken (taken s (Hub k (none_left hubs))) hubs
    ∙ ap (λ hs. record (settled s) { hubs = hs }) (append_assoc (settled s).hubs (k ∷ []) hubs)

-- hubs of a mark, behind these
mark_taken : (g : Gathered) (hubs more : List ℕ)
    → taken_all (whole (record g { marking = marked_by hubs [] })) (mark_parts more) ≡ whole (record g { marking = marked_by (hubs ++ more) [] })
mark_taken g hubs [] = ap (λ hs. whole (record g { marking = marked_by hs [] })) (sym (append-nil hubs))
mark_taken g hubs (k ∷ more) =
    mark_taken g (hubs ++ k ∷ []) more ∙ ap (λ hs. whole (record g { marking = marked_by hs [] })) (append_assoc hubs (k ∷ []) more)

line_taken : (s : Standing) (l : Line) → settled (taken_all s (parts_of l)) ≡ with_line (settled s) l
line_taken s (says_version v) = refl
line_taken s (says_size n q) = refl
line_taken s (says_cost c) = refl
line_taken s (says_bound b) = refl
line_taken s (says_hubs hubs) = hubs_taken s hubs
line_taken s (says_route commodity route) = refl
line_taken s (says_cuts all) = refl
line_taken s (says_cut number part) = refl
line_taken s (says_marked number part hubs) = ap settled (mark_taken (with_cut_line (settled s) part None) [] hubs)
line_taken s (says_dual commodity run dual) = ap settled (values_taken (settled s) run dual.a [] dual.u)
line_taken s (says_proof proof) = ap settled (ways_taken (settled s) proof.turns proof.scale [] proof.ways)
line_taken s (says_nodes all) = refl
line_taken s (says_tree (branch_on k)) = refl
line_taken s (says_tree (leaf_of denom weights)) = ap settled (weights_taken (settled s) denom [] weights)
line_taken s (says_tree no_hub) = refl
line_taken s (says_tree (no_route commodity)) = refl
line_taken s (says_tree no_count) = refl
line_taken s says_end = refl

lines_taken : (s : Standing) (ls : List Line) → settled (taken_all s (flat_map parts_of ls)) ≡ with_lines (settled s) ls
lines_taken s [] = refl
lines_taken s (l ∷ ls) =
    ap settled (taken_all-append s (parts_of l) (flat_map parts_of ls))
    ∙ lines_taken (taken_all s (parts_of l)) ls
    ∙ ap (λ g. with_lines g ls) (line_taken s l)

-- ---- all lines

with_lines-append : (g : Gathered) (xs ys : List Line) → with_lines g (xs ++ ys) ≡ with_lines (with_lines g xs) ys
with_lines-append g [] ys = refl
with_lines-append g (x ∷ xs) ys = with_lines-append (with_line g x) xs ys

routes_gathered : (g : Gathered) (cs routes : List (ℕ × ℕ)) → length cs ≡ length routes
    → with_lines g (route_items (zip cs routes)) ≡ record g { routes = g.routes ++ routes }
routes_gathered g [] [] e = ap (λ rs. record g { routes = rs }) (sym (append-nil g.routes))
routes_gathered g [] (r ∷ routes) e = absurd (omega arith)
routes_gathered g (c ∷ cs) [] e = absurd (omega arith)
routes_gathered g (c ∷ cs) (r ∷ routes) e =
    routes_gathered (record g { routes = g.routes ++ r ∷ [] }) cs routes (omega arith)
    ∙ ap (λ rs. record g { routes = rs }) (append_assoc g.routes (r ∷ []) routes)

-- the cut of this part with these duals
abbrev cut_with : ℕ → List Prices → Cut
cut_with part duals = record { part = part; duals = duals }

with_duals-last : (front : List Cut) (part : ℕ) (duals more : List Prices)
    → with_duals (front ++ cut_with part duals ∷ []) more ≡ front ++ cut_with part (duals ++ more) ∷ []
with_duals-last [] part duals more = refl
with_duals-last (c ∷ []) part duals more = refl
with_duals-last (c ∷ e ∷ front) part duals more = ap (λ l. c ∷ l) (with_duals-last (e ∷ front) part duals more)

runs_gathered : (g : Gathered) (front : List Cut) (part : ℕ) (before : List Prices) (n t : ℕ) (rs : List (ℕ × Prices)) → g.cuts ≡ front ++ cut_with part before ∷ []
    → with_lines g (run_items n t rs) ≡ record g { cuts = front ++ cut_with part (before ++ spread rs) ∷ [] }
runs_gathered g front part before n t [] e =
    ap (λ cuts. record g { cuts = cuts }) (e ∙ ap (λ ds. front ++ cut_with part ds ∷ []) (sym (append-nil before)))
runs_gathered g front part before n t (r ∷ rs) e =
    let more = replicate r.0 r.1 in
    runs_gathered (record g { cuts = with_duals g.cuts more }) front part (before ++ more) n (t + r.0) rs
    (ap (λ cuts. with_duals cuts more) e ∙ with_duals-last front part before more)
    ∙ ap (λ ds. record g { cuts = front ++ cut_with part ds ∷ [] }) (append_assoc before more (spread rs))

-- the cut has a proof for each dual, if it is marked
abbrev IsProved : Cut → Option Mark → Type 0
IsProved cut mark = IfSome mark (λ m. length m.proofs ≡ length cut.duals)

-- the line of a cut says its part
abbrev SaysPart : ℕ → Cut → Type 0
SaysPart v cut = part_of (part_said v cut.part) ≡ cut.part

-- with a cut and its mark behind the others
abbrev with_whole : Gathered → Cut → Option Mark → Gathered
with_whole g cut mark = record (with_cut g) { cuts = g.cuts ++ cut ∷ []; marking = cut_begun mark }

unmarked_gathered : (g : Gathered) (v n x : ℕ) (cut : Cut) → SaysPart v cut → with_lines g (cut_items_as v n x cut None) ≡ with_whole g cut None
unmarked_gathered g v n x cut said =
    let part = part_of (part_said v cut.part) in
    runs_gathered (with_cut_line g part None) g.cuts part [] n 0 (dual_runs v n cut.duals) refl
    ∙ ap₂ (λ (e : ℕ) (ds : List Prices). with_whole g (cut_with e ds) None) said (spread_dual_runs v n cut.duals)

-- duals with their proofs, behind these
proved_gathered : (g : Gathered) (front : List Cut) (part : ℕ) (before : List Prices) (hubs : List ℕ) (so_far : List CoreProof) (n t : ℕ)
    (duals : List Prices) (proofs : List CoreProof) → g.cuts ≡ front ++ cut_with part before ∷ [] → g.marking ≡ marked_by hubs so_far
    → length proofs ≡ length duals
    → with_lines g (proved_items n t duals proofs)
    ≡ record g { cuts = front ++ cut_with part (before ++ duals) ∷ []; marking = marked_by hubs (so_far ++ proofs) }
proved_gathered g front part before hubs so_far n t [] [] cuts mark e =
    (λ i. record g { cuts = cuts i; marking = mark i })
    ∙ ap₂ (λ (ds : List Prices) (ps : List CoreProof). record g { cuts = front ++ cut_with part ds ∷ []; marking = marked_by hubs ps })
    (sym (append-nil before)) (sym (append-nil so_far))
proved_gathered g front part before hubs so_far n t [] (p ∷ proofs) cuts mark e = absurd (omega arith)
proved_gathered g front part before hubs so_far n t (d ∷ duals) [] cuts mark e = absurd (omega arith)
proved_gathered g front part before hubs so_far n t (d ∷ duals) (p ∷ proofs) cuts mark e =
    let next = record g { cuts = with_duals g.cuts (d ∷ []); marking = with_proof g.marking p } in
    proved_gathered next front part (before ++ d ∷ []) hubs (so_far ++ p ∷ []) n (t + 1) duals proofs
    (ap (λ cs. with_duals cs (d ∷ [])) cuts ∙ with_duals-last front part before (d ∷ [])) (ap (λ m. with_proof m p) mark) (omega arith)
    ∙ ap₂ (λ (ds : List Prices) (ps : List CoreProof). record g { cuts = front ++ cut_with part ds ∷ []; marking = marked_by hubs ps })
    (append_assoc before (d ∷ []) duals) (append_assoc so_far (p ∷ []) proofs)

cut_gathered : (g : Gathered) (v n x : ℕ) (cut : Cut) (mark : Option Mark) → SaysPart v cut → IsProved cut mark
    → with_lines g (cut_items_as v n x cut mark) ≡ with_whole g cut mark
cut_gathered g v n x cut None said each = unmarked_gathered g v n x cut said
cut_gathered g v n x cut (Some mark) said each =
    let begun = with_cut_line g cut.part (Some (record { hubs = mark.hubs; proofs = [] })) in
    proved_gathered begun g.cuts cut.part [] mark.hubs [] n 0 cut.duals mark.proofs refl refl each

-- at the end no more comes of the last cut
cuts_gathered : (g : Gathered) (v n x : ℕ) (cuts : List Cut) (marks : List (Option Mark)) → length marks ≡ length cuts
    → AllByRecursion (SaysPart v) cuts → AllZip IsProved cuts marks
    → with_cut (with_lines g (cuts_items v n x (zip cuts marks))) ≡ record (with_cut g) { cuts = g.cuts ++ cuts; marks = (with_cut g).marks ++ marks }
cuts_gathered g v n x [] [] e all each =
    ap₂ (λ (cs : List Cut) (ms : List (Option Mark)). record (with_cut g) { cuts = cs; marks = ms })
    (sym (append-nil g.cuts)) (sym (append-nil (with_cut g).marks))
cuts_gathered g v n x [] (m ∷ marks) e all each = absurd (omega arith)
cuts_gathered g v n x (cut ∷ cuts) [] e all each = absurd (omega arith)
cuts_gathered g v n x (cut ∷ cuts) (m ∷ marks) e all each =
    let later = cuts_items v n (x + 1) (zip cuts marks) in
    ap with_cut
    (with_lines-append g (cut_items_as v n x cut m) later
    ∙ ap (λ h. with_lines h later) (cut_gathered g v n x cut m all.0 each.0))
    ∙ cuts_gathered (with_whole g cut m) v n (x + 1) cuts marks (omega arith) all.1 each.1
    ∙ ap₂ (λ (cs : List Cut) (ms : List (Option Mark)). record (with_cut g) { cuts = cs; marks = ms })
    (append_assoc g.cuts (cut ∷ []) cuts) (append_assoc (with_cut g).marks (m ∷ []) marks)

tree_gathered : (g : Gathered) (lines : List TreeLine) → with_lines g (map says_tree lines) ≡ record g { lines = g.lines ++ lines }
tree_gathered g [] = ap (λ ls. record g { lines = ls }) (sym (append-nil g.lines))
tree_gathered g (l ∷ lines) =
    tree_gathered (record g { lines = g.lines ++ l ∷ [] }) lines ∙ ap (λ ls. record g { lines = ls }) (append_assoc g.lines (l ∷ []) lines)

-- ---- what the version says

first_parts : (v : ℕ) (cuts : List Cut) → v ≡ 1 → AllByRecursion IsFirstCut cuts → AllByRecursion (SaysPart v) cuts
first_parts v [] first all = tt
first_parts v (cut ∷ cuts) first all = (rw (eq-eqb v 1 first) (sym all.0.whole), first_parts v cuts first all.1)

later_parts : (v : ℕ) (cuts : List Cut) → is_first v ≡ false → AllByRecursion (SaysPart v) cuts
later_parts v [] later = tt
later_parts v (cut ∷ cuts) later = (rw later refl, later_parts v cuts later)

-- a version that there is, and cuts whose parts it says
record IsSaid (k : Proof) : Type 0 where
  version : IsVersion k.version
  parts : AllByRecursion (SaysPart k.version) k.cuts

said_by : (k : Proof) → SaysProof k → IsSaid k
said_by k of =
    ⊎_elim
    (λ (first : (k.version ≡ 1) × IsFirst k). record {
      version = inl first.0;
      parts = first_parts k.version k.cuts first.0 (recursion_from_All IsFirstCut k.cuts first.1.cuts);
    })
    (λ later. record { version = inr later; parts = later_parts k.version k.cuts (first_is_no_later k.version later) })
    of

-- the version of what is stated in range
said : (k : Stated) → IsStatedInRange k → IsSaid k.proof
said k h = said_by k.proof (version_said k.proof h.proof.version)

-- each marked cut has a proof for each dual
proved_by : (n : ℕ) (cut : Cut) (mark : Option Mark) → IsCutInRange n cut → IfSome mark (IsMarkInRange n) → IsProved cut mark
proved_by n cut None c m = tt
proved_by n cut (Some mark) c m = m.one_for_each ∙ sym c.one_for_each

all_proved : (n : ℕ) (cuts : List Cut) (marks : List (Option Mark)) → length marks ≡ length cuts → AllByRecursion (IsCutInRange n) cuts
    → AllByRecursion (λ mark. IfSome mark (IsMarkInRange n)) marks → AllZip IsProved cuts marks
all_proved n [] [] e cs ms = tt
all_proved n [] (m ∷ marks) e cs ms = absurd (omega arith)
all_proved n (cut ∷ cuts) [] e cs ms = absurd (omega arith)
all_proved n (cut ∷ cuts) (m ∷ marks) e cs ms = (proved_by n cut m cs.0 ms.0, all_proved n cuts marks (omega arith) cs.1 ms.1)

each_proved : (k : Stated) → IsStatedInRange k → AllZip IsProved k.proof.cuts k.marks
each_proved k h =
    let n = k.proof.size in
    all_proved n k.proof.cuts k.marks h.one_for_each (recursion_from_All (IsCutInRange n) k.proof.cuts h.proof.cuts)
    (recursion_from_All (λ mark. IfSome mark (IsMarkInRange n)) k.marks h.marks)

-- the lines of a certificate in front of the last, from each part on
abbrev tree_front : Proof → List Line
tree_front k = says_nodes (line_count k.tree) ∷ map says_tree (preorder k.tree)

abbrev cuts_front : Stated → List Line
cuts_front k = says_cuts (length k.proof.cuts) ∷ (cuts_items k.proof.version k.proof.size 1 (cuts_of k) ++ tree_front k.proof)

abbrev routes_of : Proof → List Line
routes_of k = route_items (zip (commodities k.size) k.plan.routes)

abbrev top_front : Proof → List Line → List Line
top_front k lines = says_version k.version ∷ says_size k.size k.candidates ∷ says_cost k.cost ∷ says_bound k.bound ∷ says_hubs k.plan.hubs ∷ lines

abbrev front_lines : Stated → List Line
front_lines k = top_front k.proof (routes_of k.proof ++ cuts_front k)

front_and_end : (k : Stated) → certificate_items k ≡ front_lines k ++ says_end ∷ []
front_and_end k =
    let routes = routes_of k.proof in
    let cuts = cuts_items k.proof.version k.proof.size 1 (cuts_of k) in
    ap (top_front k.proof)
    (sym (append_assoc routes (cuts_front k) (says_end ∷ [])
    ∙ ap (λ l. routes ++ says_cuts (length k.proof.cuts) ∷ l) (append_assoc cuts (tree_front k.proof) (says_end ∷ []))))

abbrev with_hubs : Proof → Gathered
with_hubs k = record {
  version = k.version;
  size = k.size;
  candidates = k.candidates;
  cost = k.cost;
  bound = k.bound;
  hubs = k.plan.hubs;
  routes = [];
  cuts = [];
  marks = [];
  marking = no_cut;
  lines = [];
}

abbrev with_routes : Proof → Gathered
with_routes k = record (with_hubs k) { routes = k.plan.routes }

abbrev with_cuts : Stated → Gathered
with_cuts k = record (with_routes k.proof) { cuts = k.proof.cuts; marks = k.marks }

front_gathered : (k : Stated) → IsStatedInRange k → with_lines (settled at_start) (front_lines k) ≡ all_gathered k
front_gathered k h =
    let p = k.proof in
    let says = said k h in
    let routes = routes_of p in
    let cuts = cuts_items p.version p.size 1 (cuts_of k) in
    let tree = map says_tree (preorder p.tree) in
    ap (λ (v : ℕ). with_lines (record (with_hubs p) { version = v }) (routes ++ cuts_front k)) (number_back p.version says.version)
    ∙ with_lines-append (with_hubs p) routes (cuts_front k)
    ∙ ap (λ g. with_lines g (cuts_front k))
    (routes_gathered (with_hubs p) (commodities p.size) p.plan.routes (length_commodities p.size ∙ sym h.proof.one_route_each))
    ∙ with_lines-append (with_routes p) cuts (tree_front p)
    ∙ ap (λ g. with_lines g tree) (cuts_gathered (with_routes p) p.version p.size 1 p.cuts k.marks h.one_for_each says.parts (each_proved k h))
    ∙ tree_gathered (with_cuts k) (preorder p.tree)

pub certificate_gathered : (k : Stated) → IsStatedInRange k → (taken_all at_start (items_of k)).parts ≡ all_gathered k
certificate_gathered k h =
    let front = flat_map parts_of (front_lines k) in
    ap (λ (s : Standing). s.parts)
    (ap (taken_all at_start) (ap (flat_map parts_of) (front_and_end k) ∙ flat_map-append parts_of (front_lines k) (says_end ∷ []))
    ∙ taken_all-append at_start front (End ∷ []))
    ∙ lines_taken at_start (front_lines k)
    ∙ front_gathered k h
