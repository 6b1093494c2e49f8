-- Each line that may stand at a stage is taken by a scan at this stage, piece by piece.
use Rattle.std.proofs.Common.{◌≡◌, ◌≢◌, ℕ, zero, suc, ◌+◌, ◌-◌, ◌%◌, ◌^◌, ◌<◌, ◌≤◌, true, false, not, ◌&&◌, ◌||◌, List, [], ◌∷◌, ◌++◌, length, map, codes, decimal, Option, Some, None, nat_le, nat_eq, inl, inr, refl, sym, ap, ◌∙◌, subst, arith, map-id}
use Rattle.std.specs.List.{list_all}
use Rattle.std.proofs.lemmas.Bool.{false≢true, and_from, and_parts, cases_eq, or_left, or_right, not_from_false, ne_eqb, le-leb, lt-ltb, eq-eqb, eqb-true, leb-true}
use Rattle.std.proofs.lemmas.Nat.{mod-mul-add}
use Rattle.hub_spec.proofs.SumLemmas.{by_test}
use Rattle.hub_spec.specs.Limits.{most_nodes, most_part, most_denominator, most_cuts, most_tree_lines}
use Rattle.core_spec.specs.CoreCuts.{CoreProof}
use Rattle.hub_spec.specs.Cuts.{Prices}
use Rattle.hub_spec.specs.Trees.{TreeLine, branch_on, leaf_of, no_hub, no_route, no_count}
use Rattle.cert_spec.specs.Lines.{Item as Line, says_version, says_size, says_cost, says_bound, says_hubs, says_route, says_cuts, says_cut, says_marked, says_dual, says_proof, says_nodes, says_tree, says_end}
use Rattle.cert_spec.specs.Grammar as grammar
use Rattle.cert_spec.specs.Grammar.{Wants, IsOpen, IsVersion, want_hubs}
use Rattle.cert_spec.specs.Reading.{is_version, IsStage, IsSize, ascends, is_short, wants, is_first_line, is_weights_text, is_open, is_tree_line_text, are_mark_hubs, is_marking, is_proof_text}
use Rattle.cert_spec.proofs.Wanted.{wants_decides, dual_decides, first_dual_decides}
use Rattle.cert_spec.proofs.Versions.{later_not_first, later_most, third_is_later}
use Rattle.cert_scan.specs.Moves.{move, more_by, whole_by, within, may_fill, bare_filled_by, moved_by, cut_by, part_by, alone, first_dual_of, stage_after_cuts, stage_after_filled}
use Rattle.cert_scan.specs.Scans.{shape_by, line_by}
use Rattle.cert_scan.specs.Versions.{version_number, version_of}
use Rattle.cert_scan.proofs.Goes.{Walk, Goes, goes_append, goes_byte, goes_number, goes_taken, state}
use Rattle.cert_scan.proofs.Versions.{number_back}
use Rattle.cert_scan.specs.Parts.{none_left}
use Rattle.cert_scan.specs.Pieces.{told_hubs, told_mark, told_values, told_ways, told_weights, word_piece, number_pieces, spaced, mark_pieces, pieces_of}
use Rattle.cert_scan.proofs.Climbs.{climbs_from}
use Rattle.cert_scan.proofs.StagesAt.{stage_at, text_shape, number_of, IsRunOf, alone_run, IsCommodity, NamesNodes, IsAt, commodity_named, cuts_at, dual_at, proof_at, tree_at}
use Rattle.cert_scan.proofs.Passing.{Passes}
use Rattle.cert_scan.specs.declared.items.Version.TheVariants.{First, Second, Third}
use Rattle.cert_scan.specs.declared.items.Item.{Item}
use Rattle.cert_scan.specs.declared.items.Item.TheVariants.{Version as version_item, Size as size_item, Cost as cost_item, Bound as bound_item, Hub as hub_item, Route as route_item, Cuts as cuts_item, Cut as cut_item, CoreHub as core_item, Proof as proof_item, Nodes as nodes_item, Branch as branch_item, Leaf as leaf_item, Empty as empty_item, Block as block_item, Count as count_item, End as end_item}
use Rattle.cert_scan.specs.declared.bytes.Position.TheVariants.{Start, Keyword, Number}
use Rattle.cert_scan.specs.declared.heads.Head.{Head}
use Rattle.cert_scan.specs.declared.heads.Head.TheVariants.{MarkWord, EmptyLine, CountLine}
use Rattle.cert_scan.specs.declared.places.Place.TheVariants.{VersionNumber, NodeCount, CostAmount, BoundAmount, HubNode, RouteFrom, CutCount, CutNumber, CutPart, MarkHub, DualFrom, RunFrom, ProvedFrom, ProofTurns, LineCount, BranchNode, BlockFrom, Denominator}
use Rattle.cert_scan.specs.declared.stages.DualAt.{DualAt}
use Rattle.cert_scan.specs.declared.stages.MarkAt.{MarkAt}
use Rattle.cert_scan.specs.declared.stages.TreeAt.{TreeAt}
use Rattle.cert_scan.specs.declared.stages.Stage.{Stage}
use Rattle.cert_scan.specs.declared.stages.Stage.TheVariants.{Version, Size, Cost, Bound, Hubs, Route, Cuts, Cut, Dual, ProvedDual, Proof, Nodes, Tree, End, Nothing}
use Rattle.cert_scan.specs.declared.items.Version.{Version as TextVersion}
use Rattle.cert_scan.specs.declared.stages.LineRun.{LineRun}
use Rattle.cert_scan.specs.declared.stages.Shape.{Shape}
use Rattle.cert_scan.proofs.ReadLines.{Reads, Ends, ends_line, ends_more, ends_numbers, keyword_passes, next_passes, allows, is_within, last_number, ReadsOn, is_hub, reads_hubs, reads_mark, node_of, is_weight, DualClimbs, dual_climbs, starts_high, reads_proof, first_shape, second_shape, third_shape, cut_fits, reads_size, reads_route, reads_whole_cut, reads_cut_part, told_price, node_told, reads_dual, reads_proved, reads_run, reads_branch, reads_leaf, reads_block}

hub_line : (sh : Shape) (line : ℕ) (hubs : List ℕ) → IsSize sh.n → wants (want_hubs (text_shape sh)) (says_hubs hubs) ≡ true
    → Ends (state sh line (Start Hubs)) (pieces_of (says_hubs hubs)) (grammar.want_route (text_shape sh) 0)
unfolding ReadsOn
hub_line sh line [] size h = absurd (false≢true h)
hub_line sh line (k ∷ rest) size h =
    let a = and_parts (nat_le 1 (length (k ∷ rest))) (ascends (k ∷ rest) && list_all (is_hub sh.n) (k ∷ rest)) h in
    let b = and_parts (ascends (k ∷ rest)) (list_all (is_hub sh.n) (k ∷ rest)) a.1 in
    let up : ascends (map (λ x. x) (k ∷ rest)) ≡ true = ap ascends (map-id (k ∷ rest)) ∙ b.0 in
    let climbs = climbs_from (is_hub sh.n) (λ x. x) 0 (k ∷ rest) (omega arith) up b.1 in
    ends_line sh line Hubs (HubNode 0) (codes "hubs") (k + 1, Some (hub_item k (none_left rest))) (told_hubs rest) (grammar.want_route (text_shape sh) 0) refl refl
    (reads_hubs sh 0 (k ∷ rest) climbs.0 size climbs.1)

-- the hubs of a mark, behind its word
mark_line : (n line all before part : ℕ) (hubs : List ℕ) → IsSize n → before < all → all ≤ most_cuts → 1 ≤ part → part ≤ most_part → are_mark_hubs n hubs ≡ true
    → Ends (state (third_shape n) line (Start (Cut all before))) (pieces_of (says_marked (before + 1) part hubs))
    (grammar.want_proved (text_shape (third_shape n)) all before 0)
unfolding ReadsOn
mark_line n line all before part [] size low few some most h = absurd (false≢true h)
mark_line n line all before part (k ∷ rest) size low few some most h =
    let sh = third_shape n in
    let hubs = k ∷ rest in
    let a = and_parts (nat_le 1 (length (k ∷ rest))) (ascends (k ∷ rest) && list_all (is_hub n) (k ∷ rest)) h in
    let b = and_parts (ascends (k ∷ rest)) (list_all (is_hub n) (k ∷ rest)) a.1 in
    let up : ascends (map (λ x. x) (k ∷ rest)) ≡ true = ap ascends (map-id (k ∷ rest)) ∙ b.0 in
    let climbs = climbs_from (is_hub n) (λ x. x) 0 (k ∷ rest) (omega arith) up b.1 in
    let at : MarkAt = record { all = all; number = before + 1; part = part } in
    let back : before + 1 - 1 ≡ before = omega arith in
    let cut : Item = cut_item (before + 1) part false in
    let behind_it = grammar.want_proved (text_shape (third_shape n)) all before 0 in
    let reads = subst (λ x. Reads (third_shape n) (MarkHub at 0) (told_mark (k ∷ rest)) (grammar.want_proved (text_shape (third_shape n)) all x 0)) back
    (reads_mark (third_shape n) at 0 (k ∷ rest) climbs.0 size climbs.1) in
    let start = state sh line (Start (Cut all before)) in
    let number = state sh line (Number (CutNumber all before) None) in
    let parted = state sh line (Number (CutPart all (before + 1)) None) in
    let word = state sh line (Keyword (MarkWord at) 0) in
    let listed = state sh line (Number (MarkHub at 0) None) in
    let told : ℕ × Option Item = (part, Some cut) in
    ends_more start number (spaced (codes "cut") None) (spaced (decimal (before + 1)) None ∷ spaced (decimal part) (Some cut) ∷ mark_pieces hubs) behind_it
    (keyword_passes start number (codes "cut") told [] refl refl)
    (ends_more number parted (spaced (decimal (before + 1)) None) (spaced (decimal part) (Some cut) ∷ mark_pieces hubs) behind_it
    (next_passes sh line (CutNumber all before) (before + 1) None told [] (CutPart all (before + 1)) (record {
      short = omega arith;
      taken = allows (nat_eq (before + 1) (before + 1) && nat_le (before + 1) most_cuts) false (more_by false (CutPart all (before + 1)))
          (cut_fits all before low few);
      same = refl;
    }))
    (ends_more parted word (spaced (decimal part) (Some cut)) (mark_pieces hubs) behind_it
    (record {
      front = decimal part;
      last = 32;
      split = refl;
      quiet = (goes_number sh line (CutPart all (before + 1)) part (omega arith)).items;
      goes = goes_taken sh line (CutPart all (before + 1)) part (move (Keyword (MarkWord at) 0) (Some cut)) (omega arith)
          (allows (within part most_part) false (move (Keyword (MarkWord at) 0) (Some cut)) (is_within part most_part some most));
    })
    (ends_more word listed (word_piece (codes "core") (told_mark hubs) None) (number_pieces (told_mark hubs)) behind_it
    (keyword_passes word listed (codes "core") (k + 1, Some (core_item k (none_left rest))) (told_mark rest) refl refl)
    (ends_numbers sh line (MarkHub at 0) (told_mark hubs) behind_it reads))))

-- the dual of one commodity
one_line : (sh : Shape) (line : ℕ) (d : DualAt) (dual : Prices) (before : Option Prices) → IsSize sh.n → d.before < d.all → IsCommodity sh.n d.commodity → DualClimbs sh dual
    → Ends (state sh line (Start (Dual d))) (pieces_of (says_dual (d.commodity.from, d.commodity.to) 1 dual))
    (grammar.after_dual (text_shape sh) d.all d.before (number_of sh.n d.commodity + 1) before)
one_line sh line d dual before size place c h =
    let behind_it = grammar.after_dual (text_shape sh) d.all d.before (number_of sh.n d.commodity + 1) before in
    ends_line sh line (Dual d) (DualFrom d) (codes "dual") (node_told d.commodity.from)
    (node_told d.commodity.to ∷ told_price (alone d) dual.a (none_left dual.u) ∷ told_values dual.u) behind_it refl refl
    (reads_dual sh d dual.a dual.u h.high behind_it size.1 c (dual_at sh (alone d) before place c (alone_run sh d c)) h.price h.climbs)

-- and that of one of a marked cut
proved_line : (sh : Shape) (line : ℕ) (d : DualAt) (dual : Prices) → IsSize sh.n → IsCommodity sh.n d.commodity → DualClimbs sh dual
    → Ends (state sh line (Start (ProvedDual d))) (pieces_of (says_dual (d.commodity.from, d.commodity.to) 1 dual))
    (grammar.want_proof (text_shape sh) d.all d.before (number_of sh.n d.commodity))
proved_line sh line d dual size c h =
    let behind_it = grammar.want_proof (text_shape sh) d.all d.before (number_of sh.n d.commodity) in
    ends_line sh line (ProvedDual d) (ProvedFrom d) (codes "dual") (node_told d.commodity.from)
    (node_told d.commodity.to ∷ told_price (alone d) dual.a (none_left dual.u) ∷ told_values dual.u) behind_it refl refl
    (reads_proved sh d dual.a dual.u h.high behind_it size.1 c (record { is = refl; names = c }) h.price h.climbs)

-- and its proof
proof_line : (sh : Shape) (line : ℕ) (d : DualAt) (proof : CoreProof) → IsSize sh.n → d.before < d.all → IsCommodity sh.n d.commodity
    → is_proof_text sh.n proof ≡ true
    → Ends (state sh line (Start (Proof d))) (pieces_of (says_proof proof))
    (grammar.after_proof (text_shape sh) d.all d.before (number_of sh.n d.commodity + 1))
proof_line sh line d proof size place c ok =
    let behind_it = grammar.after_proof (text_shape sh) d.all d.before (number_of sh.n d.commodity + 1) in
    ends_line sh line (Proof d) (ProofTurns d) (codes "proof") (proof.turns, None)
    ((proof.scale, Some (proof_item proof.turns proof.scale (none_left proof.ways))) ∷ told_ways proof.ways) behind_it refl refl
    (reads_proof sh d proof behind_it size.1 (proof_at sh d place c) ok)

at_least_two : (k : ℕ) → 1 ≤ k → k ≢ 1 → 2 ≤ k
at_least_two zero some other = absurd (omega (arith, some))
at_least_two (suc zero) some other = absurd (other refl)
at_least_two (suc (suc k)) some other = omega arith

-- the dual of several commodities, where the first word of a dual may go on
several_line : (sh : Shape) (line : ℕ) (run : LineRun) (dual : Prices) (before : Option Prices)
    → Goes (state sh line (Start (Dual run.first))) (codes "duals" ++ 32 ∷ []) [] (state sh line (Number (RunFrom run.first) None)) → IsSize sh.n
    → run.first.before < run.first.all → IsCommodity sh.n run.first.commodity → IsRunOf sh run → DualClimbs sh dual → nat_eq run.length 1 ≡ false
    → Ends (state sh line (Start (Dual run.first))) (pieces_of (says_dual (run.first.commodity.from, run.first.commodity.to) run.length dual))
    (grammar.after_dual (text_shape sh) run.first.all run.first.before (number_of sh.n run.first.commodity + run.length) before)
several_line sh line run dual before start size place c is h e =
    let behind_it = grammar.after_dual (text_shape sh) run.first.all run.first.before (number_of sh.n run.first.commodity + run.length) before in
    let some = is.some in
    let other : run.length ≢ 1 = λ one. false≢true (sym e ∙ eq-eqb run.length 1 one) in
    rw e (ends_line sh line (Dual run.first) (RunFrom run.first) (codes "duals") (node_told run.first.commodity.from)
    (node_told run.first.commodity.to ∷ (run.length, None) ∷ told_price run dual.a (none_left dual.u) ∷ told_values dual.u) behind_it start.items start.scan
    (reads_run sh run dual.a dual.u h.high behind_it size.1 c (at_least_two run.length some other) is (dual_at sh run before place c is) h.price h.climbs))

-- a shape by its parts
abbrev shape_of : TextVersion → ℕ → Shape
shape_of v n = record { version = v; n = n }

dual_line-several : (v : TextVersion) (n line : ℕ) (d : DualAt) (length : ℕ) (dual : Prices) (before : Option Prices) → IsSize n → d.before < d.all
    → IsCommodity n d.commodity → IsRunOf (shape_of v n) (record { first = d; length = length }) → DualClimbs (shape_of v n) dual → nat_eq length 1 ≡ false
    → Ends (state (shape_of v n) line (Start (Dual d))) (pieces_of (says_dual (d.commodity.from, d.commodity.to) length dual))
    (grammar.after_dual (text_shape (shape_of v n)) d.all d.before (number_of n d.commodity + length) before)
dual_line-several First n line d length dual before size place c is h e = absurd (false≢true (sym e ∙ eq-eqb length 1 (is.first refl)))
dual_line-several Second n line d length dual before size place c is h e =
    several_line (second_shape n) line (record { first = d; length = length }) dual before (record { scan = refl; items = refl }) size place c is h e
dual_line-several Third n line d length dual before size place c is h e =
    several_line (third_shape n) line (record { first = d; length = length }) dual before (record { scan = refl; items = refl }) size place c is h e

dual_line : (v : TextVersion) (n line : ℕ) (d : DualAt) (length : ℕ) (dual : Prices) (before : Option Prices) → IsSize n → d.before < d.all → IsCommodity n d.commodity
    → IsRunOf (shape_of v n) (record { first = d; length = length }) → DualClimbs (shape_of v n) dual
    → Ends (state (shape_of v n) line (Start (Dual d))) (pieces_of (says_dual (d.commodity.from, d.commodity.to) length dual))
    (grammar.after_dual (text_shape (shape_of v n)) d.all d.before (number_of n d.commodity + length) before)
dual_line v n line d length dual before size place c is h =
    by_test (nat_eq length 1)
    (λ e. (let one = eqb-true length 1 e in
    subst (λ l. Ends (state (shape_of v n) line (Start (Dual d))) (pieces_of (says_dual (d.commodity.from, d.commodity.to) l dual))
    (grammar.after_dual (text_shape (shape_of v n)) d.all d.before (number_of n d.commodity + l) before)) (sym one)
    (one_line (shape_of v n) line d dual before size place c h)))
    (λ e. dual_line-several v n line d length dual before size place c is h e)

leaf_line : (sh : Shape) (line : ℕ) (t : TreeAt) (denom : ℕ) (w : List (ℕ × ℕ)) → is_tree_line_text sh.n (leaf_of denom w) ≡ true → may_fill t ≡ true
    → Ends (state sh line (Start (Tree t))) (pieces_of (says_tree (leaf_of denom w))) (grammar.after_tree (text_shape sh) (t.places - 1) (t.left - 1))
leaf_line sh line t denom w h room =
    let p = and_parts (nat_le 1 denom) (nat_le denom most_denominator && is_weights_text w) h in
    let q = and_parts (nat_le denom most_denominator) (is_weights_text w) p.1 in
    let r = and_parts (ascends (map node_of w)) (list_all is_weight w) q.1 in
    let climbs = climbs_from is_weight node_of 1 w (starts_high w r.1) r.0 r.1 in
    ends_line sh line (Tree t) (Denominator t) (codes "leaf") (denom, Some (leaf_item denom (none_left w))) (told_weights w)
    (grammar.after_tree (text_shape sh) (t.places - 1) (t.left - 1)) refl refl
    (reads_leaf sh t denom w climbs.0 (leb-true 1 denom p.0) (leb-true denom most_denominator q.0) room climbs.1)

branch_line : (sh : Shape) (line : ℕ) (t : TreeAt) (k : ℕ) → IsSize sh.n → k < sh.n → t.places + 1 ≤ t.left - 1
    → Ends (state sh line (Start (Tree t))) (pieces_of (says_tree (branch_on k))) (grammar.after_tree (text_shape sh) (t.places + 1) (t.left - 1))
branch_line sh line t k size low room =
    ends_line sh line (Tree t) (BranchNode t) (codes "branch") (k + 1, Some (branch_item k)) [] (grammar.after_tree (text_shape sh) (t.places + 1) (t.left - 1)) refl refl
    (reads_branch sh t k size.1 low room)

-- a line of only a keyword
bare_line : (sh : Shape) (line : ℕ) (t : TreeAt) (head : Head) (word : List ℕ) (item : Item) → may_fill t ≡ true
    → Goes (state sh line (Start (Tree t))) word [] (state sh line (Keyword head (length word)))
    → moved_by sh (Keyword head (length word)) 10 ≡ bare_filled_by t item → shape_by sh (Some item) ≡ sh
    → Ends (state sh line (Start (Tree t))) (word_piece word [] (Some item) ∷ []) (grammar.after_tree (text_shape sh) (t.places - 1) (t.left - 1))
bare_line sh line t head word item room start moves same =
    let start_at : Walk = state sh line (Start (Tree t)) in
    let next = goes_byte sh line (Keyword head (length word)) 10 (move (Start (stage_after_filled t)) (Some item))
    (moves ∙ allows (may_fill t) true (move (Start (stage_after_filled t)) (Some item)) room) in
    let end : Walk = state (shape_by sh (Some item)) (line_by line (Start (stage_after_filled t))) (Start (stage_after_filled t)) in
    let passes : Passes (state sh line (Start (Tree t))) (word_piece word [] (Some item)) end = record {
      front = word;
      last = 10;
      split = refl;
      quiet = start.items;
      goes = goes_append (state sh line (Start (Tree t))) (state sh line (Keyword head (length word))) end word (10 ∷ []) [] (item ∷ []) start next;
    } in
    record {
      shape = shape_by sh (Some item);
      line = line_by line (Start (stage_after_filled t));
      stage = stage_after_filled t;
      passes = (end, passes, refl);
      behind = subst (λ x. IsAt x (stage_after_filled t) (grammar.after_tree (text_shape sh) (t.places - 1) (t.left - 1))) (sym same) (tree_at sh (t.places - 1) (t.left - 1));
    }

empty_line : (sh : Shape) (line : ℕ) (t : TreeAt) → may_fill t ≡ true
    → Ends (state sh line (Start (Tree t))) (pieces_of (says_tree no_hub)) (grammar.after_tree (text_shape sh) (t.places - 1) (t.left - 1))
empty_line sh line t room =
    let start : Goes (state sh line (Start (Tree t))) (codes "empty") [] (state sh line (Keyword (EmptyLine t) 5)) = record { scan = refl; items = refl } in
    bare_line sh line t (EmptyLine t) (codes "empty") empty_item room start refl refl

-- blocks and counts, which are of the later versions
count_line : (v : TextVersion) (n line : ℕ) (t : TreeAt) → (version_number v ≡ 1 → ⊥) → may_fill t ≡ true
    → Ends (state (shape_of v n) line (Start (Tree t))) (pieces_of (says_tree no_count)) (grammar.after_tree (text_shape (shape_of v n)) (t.places - 1) (t.left - 1))
count_line First n line t later room = absurd (later refl)
count_line Second n line t later room =
    bare_line (second_shape n) line t (CountLine t) (codes "count") count_item room (record { scan = refl; items = refl }) refl refl
count_line Third n line t later room =
    bare_line (third_shape n) line t (CountLine t) (codes "count") count_item room (record { scan = refl; items = refl }) refl refl

block_line : (v : TextVersion) (n line : ℕ) (t : TreeAt) (c : ℕ × ℕ) → n ≤ most_nodes → c.0 < n → c.1 < n → (version_number v ≡ 1 → ⊥) → may_fill t ≡ true
    → Ends (state (shape_of v n) line (Start (Tree t))) (pieces_of (says_tree (no_route c))) (grammar.after_tree (text_shape (shape_of v n)) (t.places - 1) (t.left - 1))
block_line First n line t c few from to later room = absurd (later refl)
block_line Second n line t c few from to later room =
    ends_line (second_shape n) line (Tree t) (BlockFrom t) (codes "block") (c.0 + 1, None) ((c.1 + 1, Some (block_item c.0 c.1)) ∷ [])
    (grammar.after_tree (text_shape (second_shape n)) (t.places - 1) (t.left - 1)) refl refl (reads_block (second_shape n) t c.0 c.1 few from to room)
block_line Third n line t c few from to later room =
    ends_line (third_shape n) line (Tree t) (BlockFrom t) (codes "block") (c.0 + 1, None) ((c.1 + 1, Some (block_item c.0 c.1)) ∷ [])
    (grammar.after_tree (text_shape (third_shape n)) (t.places - 1) (t.left - 1)) refl refl (reads_block (third_shape n) t c.0 c.1 few from to room)

-- where a line is open, so is it by the test
room_for : (t : TreeAt) → IsOpen (t.places - 1) (t.left - 1) → may_fill t ≡ true
room_for t h = elim (cases_eq (t.places - 1) 0) [
  | inl none ↦ and_from (nat_le (t.places - 1) (t.left - 1)) _ (le-leb (t.places - 1) (t.left - 1) h.0)
      (or_right (not (nat_eq (t.places - 1) 0)) (nat_eq (t.left - 1) 0) (eq-eqb (t.left - 1) 0 (h.1 none)))
  | inr some ↦ and_from (nat_le (t.places - 1) (t.left - 1)) _ (le-leb (t.places - 1) (t.left - 1) h.0)
      (or_left (not (nat_eq (t.places - 1) 0)) (nat_eq (t.left - 1) 0) (not_from_false (nat_eq (t.places - 1) 0) (ne_eqb (t.places - 1) 0 some)))
]

tree_line : (sh : Shape) (line : ℕ) (t : TreeAt) (item : TreeLine) → IsSize sh.n → Wants (stage_at sh (Tree t)) (says_tree item)
    → Ends (state sh line (Start (Tree t))) (pieces_of (says_tree item)) (grammar.after (stage_at sh (Tree t)) (says_tree item))
tree_line sh line t (branch_on k) size w = branch_line sh line t k size w.0 w.2.0
tree_line sh line t (leaf_of denom weights) size w =
    let tests = (wants_decides (stage_at sh (Tree t)) (says_tree (leaf_of denom weights))).1 w in
    let first = not (nat_eq (version_number sh.version) 1) || is_first_line (leaf_of denom weights) in
    let p = and_parts (is_tree_line_text sh.n (leaf_of denom weights)) (first && is_open (t.places - 1) (t.left - 1)) tests in
    leaf_line sh line t denom weights p.0 (room_for t w.2)
tree_line sh line t no_hub size w = empty_line sh line t (room_for t w.2)
tree_line sh line t (no_route commodity) size w = block_line sh.version sh.n line t commodity size.1 w.0.0 w.0.1 w.1 (room_for t w.2)
tree_line sh line t no_count size w = count_line sh.version sh.n line t w.1 (room_for t w.2)

end_line : (sh : Shape) (line : ℕ) → Ends (state sh line (Start End)) (pieces_of says_end) grammar.want_nothing
end_line sh line =
    let end : Walk = state sh (line_by line (Start Nothing)) (Start Nothing) in
    let passes : Passes (state sh line (Start End)) (word_piece (codes "end") [] (Some end_item)) end =
    record { front = codes "end"; last = 10; split = refl; quiet = refl; goes = record { scan = refl; items = refl } } in
    record { shape = sh; line = line_by line (Start Nothing); stage = Nothing; passes = (end, passes, refl); behind = record { is = refl; names = tt } }

-- the line of the version
version_line : (sh : Shape) (line v : ℕ) → IsVersion v → Ends (state sh line (Start Version)) (pieces_of (says_version v)) (grammar.want_size v)
version_line sh line v is =
    let item : Option Item = Some (version_item (version_of v)) in
    let few : v < 10 ^ 33 = elim is [ inl first ↦ omega (arith, first) | inr later ↦ omega (arith, later_most v later) ] in
    ends_line sh line Version VersionNumber (codes "HUBCERT") (v, Some (version_item (version_of v))) [] (grammar.want_size v) refl refl
    (last_number sh VersionNumber v (Some (version_item (version_of v))) Size (grammar.want_size v) few
    (allows (is_version v) true (whole_by true (Some (version_item (version_of v))) Size) ((wants_decides grammar.want_version (says_version v)).1 is))
    (record { is = ap grammar.want_size (number_back v is); names = tt }))

-- the line of a cut with a part
part_line : (sh : Shape) (line all before part : ℕ) → IsSize sh.n → before < all → all ≤ most_cuts → 1 ≤ part → part ≤ most_part
    → cut_by sh.version all (before + 1) false ≡ more_by false (CutPart all (before + 1))
    → part_by sh.version (record { all = all; number = before + 1; part = part }) true
    ≡ whole_by true (Some (cut_item (before + 1) part true)) (first_dual_of all (before + 1 - 1))
    → Ends (state sh line (Start (Cut all before))) (pieces_of (says_cut (before + 1) (Some part))) (grammar.want_dual (text_shape sh) all before 0 None)
part_line sh line all before part size low few some most number_taken part_taken =
    ends_line sh line (Cut all before) (CutNumber all before) (codes "cut") (before + 1, None) ((part, Some (cut_item (before + 1) part true)) ∷ [])
    (grammar.want_dual (text_shape sh) all before 0 None) refl refl (reads_cut_part sh all before part size low few some most number_taken part_taken)

-- the line of a cut
cut_line : (v : TextVersion) (n line all before : ℕ) (part : Option ℕ) → IsSize n → before < all → all ≤ most_cuts → grammar.IsPart (version_number v) part
    → Ends (state (shape_of v n) line (Start (Cut all before))) (pieces_of (says_cut (before + 1) part)) (grammar.want_dual (text_shape (shape_of v n)) all before 0 None)
cut_line First n line all before None size low few is =
    ends_line (first_shape n) line (Cut all before) (CutNumber all before) (codes "cut") (before + 1, Some (cut_item (before + 1) 1 true)) []
    (grammar.want_dual (text_shape (first_shape n)) all before 0 None) refl refl (reads_whole_cut n all before size low few)
cut_line First n line all before (Some part) size low few is = absurd (later_not_first 1 is.0 refl)
cut_line Second n line all before None size low few is = absurd (omega (arith, is))
cut_line Second n line all before (Some part) size low few is = part_line (second_shape n) line all before part size low few is.1 is.2 refl refl
cut_line Third n line all before None size low few is = absurd (omega (arith, is))
cut_line Third n line all before (Some part) size low few is = part_line (third_shape n) line all before part size low few is.1 is.2 refl refl

-- and of a marked one
marked_line : (v : TextVersion) (n line all before part : ℕ) (hubs : List ℕ) → IsSize n → before < all → all ≤ most_cuts
    → is_marking (text_shape (shape_of v n)) part hubs ≡ true
    → Ends (state (shape_of v n) line (Start (Cut all before))) (pieces_of (says_marked (before + 1) part hubs))
    (grammar.want_proved (text_shape (shape_of v n)) all before 0)
marked_line First n line all before part hubs size low few h = absurd (false≢true h)
marked_line Second n line all before part hubs size low few h = absurd (false≢true h)
marked_line Third n line all before part hubs size low few h =
    let a = and_parts (nat_le 1 part) (nat_le part most_part && are_mark_hubs n hubs) h in
    let b = and_parts (nat_le part most_part) (are_mark_hubs n hubs) a.1 in
    mark_line n line all before part hubs size low few (leb-true 1 part a.0) (leb-true part most_part b.0) b.1

-- a run as the grammar says it
run_is : (sh : Shape) (d : DualAt) (length : ℕ) → IsCommodity sh.n d.commodity → grammar.IsRun (text_shape sh) (number_of sh.n d.commodity) length
    → IsRunOf sh (record { first = d; length = length })
run_is sh d length c h =
    let column : number_of sh.n d.commodity % sh.n ≡ d.commodity.to = mod-mul-add d.commodity.from sh.n d.commodity.to c.to in
    record { some = h.0; within = omega (arith, column, h.1); first = h.2 }

-- each line that may stand at a stage is taken, and leads to what is wanted after it
pub accepts : (sh : Shape) (line : ℕ) (stage : Stage) (item : Line) → NamesNodes sh stage → IsStage (stage_at sh stage) → Wants (stage_at sh stage) item
    → Ends (state sh line (Start stage)) (pieces_of item) (grammar.after (stage_at sh stage) item)
accepts sh line Version (says_version v) names s w = version_line sh line v w
accepts sh line Size (says_size nodes q) names s w =
    ends_line sh line Size NodeCount (codes "size") (nodes, None) ((q, Some (size_item nodes q)) ∷ []) (grammar.want_cost (text_shape (record { version = sh.version; n = nodes }))) refl refl
    (reads_size sh nodes q w.0 w.1 w.2 w.3)
accepts sh line Cost (says_cost c) names s w =
    ends_line sh line Cost CostAmount (codes "cost") (c, Some (cost_item c)) [] (grammar.want_bound (text_shape sh)) refl refl
    (last_number sh CostAmount c (Some (cost_item c)) Bound (grammar.want_bound (text_shape sh)) (omega (arith, w))
    (allows (is_short c) true (whole_by true (Some (cost_item c)) Bound) (lt-ltb c (10 ^ 30) w)) (record { is = refl; names = tt }))
accepts sh line Bound (says_bound b) names s w =
    ends_line sh line Bound BoundAmount (codes "bound") (b, Some (bound_item b)) [] (want_hubs (text_shape sh)) refl refl
    (last_number sh BoundAmount b (Some (bound_item b)) Hubs (want_hubs (text_shape sh)) (omega (arith, w))
    (allows (is_short b) true (whole_by true (Some (bound_item b)) Hubs) (lt-ltb b (10 ^ 30) w)) (record { is = refl; names = tt }))
accepts sh line Hubs (says_hubs hubs) names s w = hub_line sh line hubs s.0 ((wants_decides (want_hubs (text_shape sh)) (says_hubs hubs)).1 w)
accepts sh line (Route c) (says_route commodity route) names s w =
    let is : commodity ≡ (c.from, c.to) = w.0 ∙ commodity_named sh.n c names in
    let behind_it = grammar.after_route (text_shape sh) (number_of sh.n c + 1) in
    let ends = ends_line sh line (Route c) (RouteFrom c) (codes "route") (c.from + 1, None)
    ((c.to + 1, None) ∷ (route.0 + 1, None) ∷ (route.1 + 1, Some (route_item c.from c.to route.0 route.1)) ∷ []) behind_it refl refl
    (reads_route sh c route.0 route.1 s.0.0.1 names w.1 w.2) in
    subst (λ (x : ℕ × ℕ). Ends (state sh line (Start (Route c))) (pieces_of (says_route x route)) behind_it) (sym is) ends
accepts sh line Cuts (says_cuts all) names s w =
    ends_line sh line Cuts CutCount (codes "cuts") (all, Some (cuts_item all)) [] (grammar.after_cut (text_shape sh) all 0) refl refl
    (last_number sh CutCount all (Some (cuts_item all)) (stage_after_cuts all) (grammar.after_cut (text_shape sh) all 0) (omega (arith, w))
    (allows (nat_le all most_cuts) true (whole_by true (Some (cuts_item all)) (stage_after_cuts all)) (le-leb all most_cuts w)) (cuts_at sh all))
accepts sh line (Cut all before) (says_cut number part) names s w =
    subst (λ x. Ends (state sh line (Start (Cut all before))) (pieces_of (says_cut x part)) (grammar.want_dual (text_shape sh) all before 0 None)) (sym w.0)
    (cut_line sh.version sh.n line all before part s.0.0 s.1.0 s.1.1 w.1)
accepts sh line (Cut all before) (says_marked number part hubs) names s w =
    let tests = (wants_decides (stage_at sh (Cut all before)) (says_marked number part hubs)).1 w in
    let marking = and_parts (nat_eq number (before + 1)) (is_marking (text_shape sh) part hubs) tests in
    subst (λ x. Ends (state sh line (Start (Cut all before))) (pieces_of (says_marked x part hubs)) (grammar.want_proved (text_shape sh) all before 0))
    (sym w.0)
    (marked_line sh.version sh.n line all before part hubs s.0.0 s.1.0 s.1.1 marking.1)
accepts sh line (ProvedDual d) (says_dual commodity run dual) names s w =
    subst (λ (x : ℕ × ℕ). Ends (state sh line (Start (ProvedDual d))) (pieces_of (says_dual x run dual))
    (grammar.after (stage_at sh (ProvedDual d)) (says_dual commodity run dual)))
    (sym (w.0 ∙ commodity_named sh.n d.commodity names))
    (subst (λ x. Ends (state sh line (Start (ProvedDual d))) (pieces_of (says_dual (d.commodity.from, d.commodity.to) x dual))
    (grammar.want_proof (text_shape sh) d.all d.before (number_of sh.n d.commodity))) (sym w.1)
    (proved_line sh line d dual s.0.0 names
    (dual_climbs sh dual ((dual_decides sh.n dual).1 w.2)
    (λ first. absurd (later_not_first (version_number sh.version) (third_is_later (version_number sh.version) s.1) first)))))
accepts sh line (Proof d) (says_proof proof) names s w =
    proof_line sh line d proof s.0.0 s.2.0 names ((wants_decides (stage_at sh (Proof d)) (says_proof proof)).1 w)
accepts sh line (Dual d) (says_dual commodity run dual) names s w =
    let behind_it = grammar.after (stage_at sh (Dual d)) (says_dual commodity run dual) in
    let t = number_of sh.n d.commodity + run in
    subst (λ (x : ℕ × ℕ). Ends (state sh line (Start (Dual d))) (pieces_of (says_dual x run dual)) (grammar.after (stage_at sh (Dual d)) (says_dual commodity run dual)))
    (sym (w.0 ∙ commodity_named sh.n d.commodity names))
    (dual_line sh.version sh.n line d run dual (grammar.kept_dual (text_shape sh) (number_of sh.n d.commodity + run) dual) s.0.0 s.1.0 names
    (run_is sh d run names w.1)
    (dual_climbs sh dual ((dual_decides sh.n dual).1 w.2) (λ first. (first_dual_decides dual).1 (w.3 first))))
accepts sh line Nodes (says_nodes all) names s w =
    let tree : Stage = Tree (record { places = 1; left = all }) in
    ends_line sh line Nodes LineCount (codes "nodes") (all, Some (nodes_item all)) [] (grammar.want_tree (text_shape sh) 1 all) refl refl
    (last_number sh LineCount all (Some (nodes_item all)) tree (grammar.want_tree (text_shape sh) 1 all) (omega (arith, w.1))
    (allows (within all most_tree_lines) true (whole_by true (Some (nodes_item all)) tree) (is_within all most_tree_lines w.0 w.1)) (record { is = refl; names = tt }))
accepts sh line (Tree t) (says_tree item) names s w = tree_line sh line t item s.0 w
accepts sh line End says_end names s w = end_line sh line
accepts sh line stage item names s w = absurd w
