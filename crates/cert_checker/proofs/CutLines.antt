-- The items that end a line that begins a cut, or count the lines of the tree, in the lines of the bytes that give
-- them.
use Rattle.std.proofs.Common.{◌≡◌, ℕ, ◌+◌, ◌<◌, ◌≤◌, List, [], ◌∷◌, ◌++◌, length, take, drop, flat_map, ⊎_elim, refl, sym, ap, subst, ◌∙◌, append_assoc, append-nil, length-append, lt_of_not-le, arith}
use Rattle.std.specs.Prelude.{All, Contains}
use Rattle.std.proofs.lemmas.List.{take_at, take-append-le, take-append-drop, drop_more}
use Rattle.std.proofs.lemmas.List.Concat.{flat_map-append}
use Rattle.std.proofs.lemmas.List.Elements.{All-head, All-tail, All-contains, Contains-append_left, Contains-append_right, Contains-push}
use Rattle.cert_spec.specs.Lines.{Item as Line, says_nodes}
use Rattle.cert_spec.specs.Text.{line_bytes}
use Rattle.cert_spec.specs.Grammar.{Stage, want_version, after, Leads}
use Rattle.cert_scan.specs.Scans.{new_scan, scanned}
use Rattle.cert_scan.specs.Parts.{parts_of}
use Rattle.cert_scan.specs.declared.items.Item.{Item}
use Rattle.cert_scan.specs.declared.items.Item.TheVariants.{Nodes}
use Rattle.cert_scan.proofs.ScanBytes.{given_all-append}
use Rattle.cert_scan.proofs.Tight.{wanted_at}
use Rattle.cert_scan.proofs.Tracks.{scanned_tracks}
use Rattle.cert_scan.proofs.OnTime.{lines_give}
use Rattle.cert_conditions.specs.Steps.{IsCut}
use Rattle.cert_checker.specs.Fed.{BeginsCut, IsCutLine, EndsCutLine, HasTreeCount}
use Rattle.cert_checker.proofs.Refusing.{items_in, items_behind, CountsTree, IsNoCut, begun_no_cut, EndsCut, cut_or_none}

-- ---- an item that begins a cut, among those of lines

-- items that begin no cut stand whole before one that does
none_before : (ps rest xs ys : List Item) (i : Item) → All IsNoCut ps → IsCut i → ps ++ rest ≡ xs ++ i ∷ ys
    → (zs : List Item) × (xs ≡ ps ++ zs) × (rest ≡ zs ++ i ∷ ys)
none_before [] rest xs ys i none is e = (xs, refl, e)
none_before (p ∷ ps) rest [] ys i none is e =
    let same : p ≡ i = cc in
    absurd (All-head IsNoCut p ps none (subst IsCut (sym same) is))
none_before (p ∷ ps) rest (x ∷ xs) ys i none is e =
    let same : x ≡ p = cc in
    let tail : ps ++ rest ≡ xs ++ i ∷ ys = cc in
    let more = none_before ps rest xs ys i (All-tail IsNoCut p ps none) is tail in
    (more.0, (λ i. same i ∷ more.1 i), more.2)

-- the line of a cut that ends with this item, which comes behind these of lines
record CutAt (lines : List Line) (xs : List Item) (i : Item) : Type 0 where
  line : Line
  is_cut : IsCutLine line
  front : List Line
  behind : List Line
  split : lines ≡ front ++ line ∷ behind
  before : flat_map parts_of (front ++ line ∷ []) ≡ xs ++ i ∷ []

behind_line : (line : Line) (lines : List Line) (xs zs : List Item) (i : Item) → xs ≡ parts_of line ++ zs → CutAt lines zs i
    → CutAt (line ∷ lines) xs i
behind_line line lines xs zs i e h = record {
  line = h.line;
  is_cut = h.is_cut;
  front = line ∷ h.front;
  behind = h.behind;
  split = ap (λ ls. line ∷ ls) h.split;
  before = ap (λ g. parts_of line ++ g) h.before ∙ sym (append_assoc (parts_of line) zs (i ∷ [])) ∙ ap (λ g. g ++ i ∷ []) (sym e);
}

-- the line is that of the cut, or it comes behind
at_cut : (line : Line) (lines : List Line) (rest xs ys zs : List Item) (i : Item) (c : EndsCut line)
    → ((ws : List Item) → rest ≡ ws ++ i ∷ ys → CutAt lines ws i) → xs ≡ c.front ++ zs → c.last ∷ rest ≡ zs ++ i ∷ ys → CutAt (line ∷ lines) xs i
at_cut line lines rest xs ys [] i c later e tail =
    let same : c.last ≡ i = cc in
    record {
      line = line;
      is_cut = c.is_cut;
      front = [];
      behind = lines;
      split = refl;
      before = append-nil (parts_of line) ∙ c.parts ∙ (λ j. (sym (e ∙ append-nil c.front)) j ++ same j ∷ []);
    }
at_cut line lines rest xs ys (z ∷ zs) i c later e tail =
    let same : c.last ≡ z = cc in
    let others : rest ≡ zs ++ i ∷ ys = cc in
    let items : xs ≡ parts_of line ++ zs =
    e ∙ ap (λ y. c.front ++ y ∷ zs) (sym same) ∙ sym (append_assoc c.front (c.last ∷ []) zs) ∙ ap (λ g. g ++ zs) (sym c.parts) in
    behind_line line lines xs zs i items (later zs others)

cut_at : (lines : List Line) (more xs ys : List Item) (i : Item) → All IsNoCut more → IsCut i → flat_map parts_of lines ++ more ≡ xs ++ i ∷ ys
    → CutAt lines xs i
cut_at [] more xs ys i none is e =
    let some : Contains (xs ++ i ∷ ys) i = Contains-append_right xs (i ∷ ys) i (0, omega arith, refl) in
    absurd (All-contains IsNoCut more i none (subst (λ l. Contains l i) (sym e) some) is)
cut_at (line ∷ lines) more xs ys i none is e =
    let rest = flat_map parts_of lines ++ more in
    let whole : parts_of line ++ rest ≡ xs ++ i ∷ ys = sym (append_assoc (parts_of line) (flat_map parts_of lines) more) ∙ e in
    ⊎_elim (λ (c : EndsCut line).
    let parts : c.front ++ c.last ∷ rest ≡ xs ++ i ∷ ys =
    sym (append_assoc c.front (c.last ∷ []) rest) ∙ ap (λ g. g ++ rest) (sym c.parts) ∙ whole in
    let split = none_before c.front (c.last ∷ rest) xs ys i c.none is parts in
    at_cut line lines rest xs ys split.0 i c (λ ws f. cut_at lines more ws ys i none is f) split.1 split.2)
    (λ (here : All IsNoCut (parts_of line)). (let split = none_before (parts_of line) rest xs ys i here is whole in
    behind_line line lines xs split.0 i split.1 (cut_at lines more split.0 ys i none is split.2)))
    (cut_or_none line)

-- ---- lines in bytes

lead_front : (first : Stage) (front : List Line) (line : Line) (behind : List Line) (last : Stage) → Leads first (front ++ line ∷ behind) last
    → (stage : Stage) × Leads first (front ++ line ∷ []) stage
lead_front first [] line behind last lead = (after first line, (lead.0, refl))
lead_front first (item ∷ front) line behind last lead =
    let more = lead_front (after first item) front line behind last lead.1 in
    (more.0, (lead.0, more.1))

-- the bytes of lines in front, and of the others
text_split : (front behind : List Line) (line : Line) (sofar : List ℕ)
    → flat_map line_bytes (front ++ line ∷ behind) ++ sofar ≡ flat_map line_bytes (front ++ line ∷ []) ++ (flat_map line_bytes behind ++ sofar)
text_split front behind line sofar =
    ap (λ ls. flat_map line_bytes ls ++ sofar) (sym (append_assoc front (line ∷ []) behind))
    ∙ ap (λ t. t ++ sofar) (flat_map-append line_bytes (front ++ line ∷ []) behind)
    ∙ append_assoc (flat_map line_bytes (front ++ line ∷ [])) (flat_map line_bytes behind) sofar

-- lines that have come whole have given their items
items_of_lines : (lines : List Line) (stage : Stage) (rest : List ℕ) → Leads want_version lines stage
    → items_in (flat_map line_bytes lines ++ rest) ≡ flat_map parts_of lines ++ items_behind (flat_map line_bytes lines) rest
items_of_lines lines stage rest lead =
    given_all-append new_scan (flat_map line_bytes lines) rest ∙ ap (λ g. g ++ items_behind (flat_map line_bytes lines) rest) (lines_give lines stage lead)

-- where bytes and others begin with a text that is no longer than these bytes, the bytes begin with it
begins_with : (bytes piece text rest : List ℕ) → bytes ++ piece ≡ text ++ rest → length text ≤ length bytes → bytes ≡ text ++ drop (length text) bytes
begins_with bytes piece text rest e long =
    sym (take-append-drop (length text) bytes) ∙ ap (λ t. t ++ drop (length text) bytes)
    (sym (take-append-le (length text) bytes piece long) ∙ ap (take (length text)) e ∙ take_at text rest (length text) refl)

-- the line whose last item comes behind these bytes has not ended before
ends_behind : (bytes piece : List ℕ) (front : List Line) (line : Line) (stage : Stage) (given : List Item) (i : Item) (rest : List ℕ)
    → Leads want_version (front ++ line ∷ []) stage → flat_map parts_of (front ++ line ∷ []) ≡ (items_in bytes ++ given) ++ i ∷ []
    → bytes ++ piece ≡ flat_map line_bytes (front ++ line ∷ []) ++ rest → length bytes < length (flat_map line_bytes (front ++ line ∷ []))
ends_behind bytes piece front line stage given i rest lead parts text =
    lt_of_not-le (λ long. (let bytes_are = begins_with bytes piece (flat_map line_bytes (front ++ line ∷ [])) rest text long in
    let behind = drop (length (flat_map line_bytes (front ++ line ∷ []))) bytes in
    let items : items_in bytes ≡ flat_map parts_of (front ++ line ∷ []) ++ items_behind (flat_map line_bytes (front ++ line ∷ [])) behind =
    ap items_in bytes_are ∙ items_of_lines (front ++ line ∷ []) stage behind lead in
    omega (
      arith,
      ap length items,
      length-append (flat_map parts_of (front ++ line ∷ [])) (items_behind (flat_map line_bytes (front ++ line ∷ [])) behind),
      ap length parts,
      length-append (items_in bytes ++ given) (i ∷ []),
      length-append (items_in bytes) given,
    )))

contains_split : (xs : List Item) (x : Item) (c : Contains xs x) → xs ≡ take c.0 xs ++ x ∷ drop (c.0 + 1) xs
contains_split xs x c = sym (take-append-drop c.0 xs) ∙ ap (λ l. take c.0 xs ++ l) (drop_more xs c.0 x c.1 ∙ ap (λ y. y ∷ drop (c.0 + 1) xs) c.2)

-- ---- the words of the contract

-- where a piece gives an item that ends a line that begins a cut, that line ends in it
pub ends_cut_line : (bytes piece : List ℕ) → BeginsCut (items_behind bytes piece) → EndsCutLine bytes piece
ends_cut_line bytes piece cut =
    let i = cut.0 in
    let front = take cut.1.0 (items_behind bytes piece) in
    let back = drop (cut.1.0 + 1) (items_behind bytes piece) in
    let t = scanned_tracks (bytes ++ piece) (items_in (bytes ++ piece)) (scanned new_scan (bytes ++ piece)) (record { reached = refl; gives = refl }) in
    let stage = wanted_at t.shape t.held t.stage in
    let items : flat_map parts_of t.lines ++ t.more ≡ (items_in bytes ++ front) ++ i ∷ back =
    sym t.parts ∙ given_all-append new_scan bytes piece ∙ ap (λ g. items_in bytes ++ g) (contains_split (items_behind bytes piece) i cut.1)
    ∙ sym (append_assoc (items_in bytes) front (i ∷ back)) in
    let at = cut_at t.lines t.more (items_in bytes ++ front) back i (begun_no_cut stage t.more t.begun) cut.2 items in
    let lead = lead_front want_version at.front at.line at.behind stage (subst (λ ls. Leads want_version ls stage) at.split t.lead) in
    let rest = flat_map line_bytes at.behind ++ t.sofar in
    let text : bytes ++ piece ≡ flat_map line_bytes (at.front ++ at.line ∷ []) ++ rest =
    t.front ∙ ap (λ ls. flat_map line_bytes ls ++ t.sofar) at.split ∙ text_split at.front at.behind at.line t.sofar in
    let long = ends_behind bytes piece at.front at.line lead.0 front i rest lead.1 at.before text in
    record {
      cut = at.line;
      is_cut = at.is_cut;
      line = record { before = at.front; stage = lead.0; rest = rest; lead = lead.1; text = text };
      ends = omega (
        arith,
        long,
        ap length text,
        length-append bytes piece,
        length-append (flat_map line_bytes (at.front ++ at.line ∷ [])) rest,
      );
    }

-- bytes that have the line of the number of the tree's lines have given that number
pub counts_tree : (bytes : List ℕ) → HasTreeCount bytes → CountsTree (items_in bytes)
counts_tree bytes counts =
    let h = counts.1 in
    let lines = h.before ++ says_nodes counts.0 ∷ [] in
    let parts : flat_map parts_of (h.before ++ says_nodes counts.0 ∷ []) ≡ flat_map parts_of h.before ++ Nodes counts.0 ∷ [] =
    flat_map-append parts_of h.before (says_nodes counts.0 ∷ []) in
    let items : items_in bytes ≡ (flat_map parts_of h.before ++ Nodes counts.0 ∷ []) ++ items_behind (flat_map line_bytes lines) h.rest =
    ap items_in h.text ∙ items_of_lines lines h.stage h.rest h.lead ∙ ap (λ g. g ++ items_behind (flat_map line_bytes lines) h.rest) parts in (
      counts.0,
      subst (λ g. Contains g (Nodes counts.0)) (sym items)
          (Contains-append_left (flat_map parts_of h.before ++ Nodes counts.0 ∷ []) (items_behind (flat_map line_bytes lines) h.rest) (Nodes counts.0)
          (Contains-push (flat_map parts_of h.before) (Nodes counts.0))),
    )
