-- The text of a line: a keyword and numbers, and the word and the hubs of a mark behind them. Pieces of a text that lead a walk on, each
-- giving what it tells with its last byte.
use Rattle.std.proofs.Common.{◌≡◌, ℕ, List, [], ◌∷◌, ◌++◌, map, codes, decimal, refl, sym, ap, ◌∙◌, append_assoc, append-nil, ◌+◌, ◌-◌, ◌<◌, ◌≤◌, length, false, take, drop, flat_map, nat_eq, nat_le, Option, None, subst, arith, suc}
use Rattle.std.specs.List.{join_with_byte}
use Rattle.cert_spec.specs.Lines.{Item as Line, says_marked, keyword, numbers, node_numbers, words_behind, line_text, says_hubs, says_cut, says_dual, says_proof, says_tree, value_numbers, way_numbers, weight_numbers}
use Rattle.cert_scan.specs.declared.stages.MarkAt.{MarkAt}
use Rattle.std.specs.Prelude.{option_to_list}
use Rattle.std.proofs.lemmas.Bool.{cond_both, leb-true, leb-false}
use Rattle.std.proofs.lemmas.List.{length-append, take_all, take-append-le, take-append-drop}
use Rattle.std.proofs.lemmas.List.Concat.{flat_map-append}
use Rattle.hub_spec.specs.Trees.{leaf_of}
use Rattle.hub_spec.proofs.SumLemmas.{by_test}
use Rattle.core_spec.specs.CoreCuts.{Way}
use Rattle.cert_spec.specs.Text.{certificate_items, certificate_text, line_bytes}
use Rattle.cert_scan.proofs.Goes.{Walk, scanned, given_all, Goes, goes_append, given_all-append, nil_front}
use Rattle.cert_scan.specs.Parts.{none_left, parts_of, hub_parts, mark_parts, value_parts, way_parts, weight_parts}
use Rattle.cert_scan.specs.Pieces.{Piece, told_hubs, told_mark, told_values, told_ways, told_weights, told_numbers, told_keyword, word_piece, number_pieces, mark_pieces, pieces_of, bytes_of, told_by, PiecesAreText, whole_within}
use Rattle.cert_scan.specs.declared.items.Item.{Item}
use Rattle.cert_scan.specs.declared.items.Item.TheVariants.{Hub, Cut, CoreHub, DualPair, Dual, Proof, ProofPair, Leaf, LeafPair}

-- of a line with no more than a keyword and numbers
pub plain_text : (line : Line) (word ns : List ℕ) → keyword line ≡ word → numbers line ≡ ns → words_behind line ≡ []
    → line_text line ≡ join_with_byte 32 (word ∷ map decimal ns)
unfolding line_text
plain_text line word ns k e none =
    (λ i. join_with_byte 32 (k i ∷ (map decimal (e i) ++ none i))) ∙ ap (λ l. join_with_byte 32 (word ∷ l)) (append-nil (map decimal ns))

-- what stands before the word of a mark, and what the hubs of the mark stand behind
abbrev pub mark_front : MarkAt → List ℕ
mark_front at = codes "cut" ++ 32 ∷ (decimal at.number ++ 32 ∷ (decimal at.part ++ 32 ∷ []))

abbrev pub mark_word : MarkAt → List ℕ
mark_word at = mark_front at ++ codes "core"

-- what stands in front of the first word
join_front : (front word : List ℕ) (words : List (List ℕ)) → front ++ join_with_byte 32 (word ∷ words) ≡ join_with_byte 32 ((front ++ word) ∷ words)
join_front front word [] = refl
join_front front word (w ∷ words) = sym (append_assoc front word (32 ∷ join_with_byte 32 (w ∷ words)))

-- of a marked cut
pub mark_text : (at : MarkAt) (hubs : List ℕ)
    → line_text (says_marked at.number at.part hubs) ≡ join_with_byte 32 (mark_word at ∷ map decimal (node_numbers hubs))
unfolding line_text
mark_text at hubs =
    let rest = join_with_byte 32 (codes "core" ∷ map decimal (node_numbers hubs)) in
    ap (λ l. codes "cut" ++ 32 ∷ l) (ap (λ l. decimal at.number ++ 32 ∷ l) (sym (append_assoc (decimal at.part) (32 ∷ []) rest))
    ∙ sym (append_assoc (decimal at.number) (32 ∷ (decimal at.part ++ 32 ∷ [])) rest))
    ∙ join_front (mark_front at) (codes "core") (map decimal (node_numbers hubs))

-- the bytes of a piece lead from a to b, and what it tells is given with the last of them
pub record Passes (a : Walk) (p : Piece) (b : Walk) : Type 0 where
  pub front : List ℕ
  pub last : ℕ
  pub split : p.bytes ≡ front ++ last ∷ []
  pub quiet : given_all a front ≡ []
  pub goes : Goes a p.bytes (option_to_list p.tells) b

-- those of pieces one after another
abbrev pub PassAll : Walk → List Piece → Walk → Type 0
PassAll a [] b = a ≡ b
PassAll a (p ∷ pieces) b = (mid : Walk) × Passes a p mid × PassAll mid pieces b

pub pass_all-append : (a b c : Walk) (ps qs : List Piece) → PassAll a ps b → PassAll b qs c → PassAll a (ps ++ qs) c
pass_all-append a b c [] qs h k = subst (λ s. PassAll s qs c) (sym h) k
pass_all-append a b c (p ∷ ps) qs h k = (h.0, h.1, pass_all-append h.0 b c ps qs h.2 k)

pub pass_all_goes : (a b : Walk) (ps : List Piece) → PassAll a ps b → Goes a (bytes_of ps) (told_by ps) b
pass_all_goes a b [] h = record { scan = h; items = refl }
pass_all_goes a b (p ∷ ps) h = goes_append a h.0 b p.bytes (bytes_of ps) (option_to_list p.tells) (told_by ps) h.1.goes (pass_all_goes h.0 b ps h.2)

-- ---- what is given by the first bytes

take-append-add : (xs ys : List ℕ) (n : ℕ) → take (length xs + n) (xs ++ ys) ≡ xs ++ take n ys
take-append-add [] ys n = let e : 0 + n ≡ n = omega arith in ap (λ k. take k ys) e
take-append-add (x ∷ xs) ys n =
    let e : length (x ∷ xs) + n ≡ suc (length xs + n) = omega arith in ap (λ k. take k (x ∷ (xs ++ ys))) e ∙ ap (λ l. x ∷ l) (take-append-add xs ys n)

take_past : (xs ys : List ℕ) (n : ℕ) → length xs ≤ n → take n (xs ++ ys) ≡ xs ++ take (n - length xs) ys
take_past xs ys n h = let e : n ≡ length xs + (n - length xs) = omega arith in ap (λ k. take k (xs ++ ys)) e ∙ take-append-add xs ys (n - length xs)

-- nothing before the last byte of a piece has come
open_gives : (a b : Walk) (p : Piece) (rest : List ℕ) (count : ℕ) → Passes a p b → count < length p.bytes → given_all a (take count (p.bytes ++ rest)) ≡ []
open_gives a b p rest count h low =
    let fits : count ≤ length h.front = omega (arith, ap length h.split, length-append h.front (h.last ∷ [])) in
    let front : take count (p.bytes ++ rest) ≡ take count h.front =
    take-append-le count p.bytes rest (omega arith) ∙ ap (take count) h.split ∙ take-append-le count h.front (h.last ∷ []) fits in
    let all : given_all a (take count h.front) ++ given_all (scanned a (take count h.front)) (drop count h.front) ≡ [] =
    sym (given_all-append a (take count h.front) (drop count h.front)) ∙ ap (given_all a) (take-append-drop count h.front) ∙ h.quiet in
    ap (given_all a) front ∙ nil_front (given_all a (take count h.front)) _ all

-- so many bytes give the items of the pieces that lie whole within them
pub pieces_give : (a b : Walk) (ps : List Piece) (count : ℕ) → PassAll a ps b → given_all a (take count (bytes_of ps)) ≡ told_by (whole_within count ps)
pieces_give a b [] count h = ap (given_all a) (take_all count [] (omega arith))
pieces_give a b (p ∷ ps) count h =
    cond_both (nat_le (length p.bytes) count) (p ∷ whole_within (count - length p.bytes) ps) [] (λ w. given_all a (take count (p.bytes ++ bytes_of ps)) ≡ told_by w)
    (λ e. (let more = pieces_give h.0 b ps (count - length p.bytes) h.2 in
    let rest = take (count - length p.bytes) (bytes_of ps) in
    ap (given_all a) (take_past p.bytes (bytes_of ps) count (leb-true (length p.bytes) count e)) ∙ given_all-append a p.bytes rest
    ∙ (λ i. h.1.goes.items i ++ given_all (h.1.goes.scan i) rest) ∙ ap (λ g. option_to_list p.tells ++ g) more))
    (λ e. open_gives a h.0 p (bytes_of ps) count h.1 (leb-false (length p.bytes) count e))

-- ---- the pieces of lines are their bytes, and tell their items

numbers_of : List (ℕ × Option Item) → List ℕ
numbers_of ts = map (λ (t : ℕ × Option Item). t.0) ts

hubs_told : (hubs : List ℕ) → numbers_of (told_hubs hubs) ≡ map (λ k. k + 1) hubs
unfolding numbers_of
hubs_told [] = refl
hubs_told (k ∷ rest) = ap (λ l. (k + 1) ∷ l) (hubs_told rest)

mark_told : (hubs : List ℕ) → numbers_of (told_mark hubs) ≡ node_numbers hubs
unfolding numbers_of
mark_told [] = refl
mark_told (k ∷ rest) = ap (λ l. (k + 1) ∷ l) (mark_told rest)

values_told : (u : List (ℕ × ℕ)) → numbers_of (told_values u) ≡ value_numbers u
unfolding numbers_of
values_told [] = refl
values_told (e ∷ rest) = ap (λ l. (e.0 + 1) ∷ e.1 ∷ l) (values_told rest)

ways_told : (ways : List Way) → numbers_of (told_ways ways) ≡ way_numbers ways
unfolding numbers_of
ways_told [] = refl
ways_told (w ∷ rest) = ap (λ l. (w.0 + 1) ∷ (w.1 + 1) ∷ w.2 ∷ l) (ways_told rest)

weights_told : (w : List (ℕ × ℕ)) → numbers_of (told_weights w) ≡ weight_numbers w
unfolding numbers_of
weights_told [] = refl
weights_told (e ∷ rest) = ap (λ l. e.0 ∷ e.1 ∷ l) (weights_told rest)

numbers_told : (line : Line) → numbers_of (told_numbers line) ≡ numbers line
unfolding numbers_of
numbers_told (says_hubs hubs) = hubs_told hubs
numbers_told (says_cut number None) = refl
numbers_told (says_dual commodity run dual) =
    by_test (nat_eq run 1) (λ e. rw e (ap (λ l. (commodity.0 + 1) ∷ (commodity.1 + 1) ∷ dual.a ∷ l) (values_told dual.u)))
    (λ e. rw e (ap (λ l. (commodity.0 + 1) ∷ (commodity.1 + 1) ∷ run ∷ dual.a ∷ l) (values_told dual.u)))
numbers_told (says_proof proof) = ap (λ l. proof.turns ∷ proof.scale ∷ l) (ways_told proof.ways)
numbers_told (says_tree (leaf_of denom weights)) = ap (λ l. denom ∷ l) (weights_told weights)
numbers_told line = refl

words_text : (word : List ℕ) (ts : List (ℕ × Option Item)) (tells : Option Item)
    → bytes_of (word_piece word ts tells ∷ number_pieces ts) ≡ join_with_byte 32 (word ∷ map decimal (numbers_of ts)) ++ 10 ∷ []
unfolding numbers_of
words_text word [] tells = append-nil (word ++ 10 ∷ [])
words_text word (t ∷ rest) tells =
    append_assoc word (32 ∷ []) (bytes_of (word_piece (decimal t.0) rest t.1 ∷ number_pieces rest)) ∙ ap (λ l. word ++ 32 ∷ l) (words_text (decimal t.0) rest t.1)
    ∙ sym (append_assoc word (32 ∷ join_with_byte 32 (decimal t.0 ∷ map decimal (numbers_of rest))) (10 ∷ []))

-- a line with no more than a keyword and numbers
plain_pieces_text : (line : Line) → words_behind line ≡ []
    → bytes_of (word_piece (keyword line) (told_numbers line) (told_keyword line) ∷ number_pieces (told_numbers line)) ≡ line_bytes line
plain_pieces_text line none =
    words_text (keyword line) (told_numbers line) (told_keyword line)
    ∙ ap (λ l. l ++ 10 ∷ []) (sym (plain_text line (keyword line) (numbers_of (told_numbers line)) refl (sym (numbers_told line)) none))

-- a word in front of a line
spaced_line : (word line : List ℕ) → (word ++ 32 ∷ []) ++ (line ++ 10 ∷ []) ≡ (word ++ 32 ∷ line) ++ 10 ∷ []
spaced_line word line = append_assoc word (32 ∷ []) (line ++ 10 ∷ []) ∙ sym (append_assoc word (32 ∷ line) (10 ∷ []))

mark_line_text : (number part : ℕ) (hubs : List ℕ) → bytes_of (pieces_of (says_marked number part hubs)) ≡ line_bytes (says_marked number part hubs)
unfolding line_text
mark_line_text number part hubs =
    let mark = join_with_byte 32 (codes "core" ∷ map decimal (node_numbers hubs)) in
    let text : bytes_of (mark_pieces hubs) ≡ join_with_byte 32 (codes "core" ∷ map decimal (node_numbers hubs)) ++ 10 ∷ [] =
    words_text (codes "core") (told_mark hubs) None ∙ ap (λ ns. join_with_byte 32 (codes "core" ∷ map decimal ns) ++ 10 ∷ []) (mark_told hubs) in
    ap (λ l. codes "cut" ++ 32 ∷ l) (ap (λ l. (decimal number ++ 32 ∷ []) ++ ((decimal part ++ 32 ∷ []) ++ l)) text
    ∙ ap (λ l. (decimal number ++ 32 ∷ []) ++ l) (spaced_line (decimal part) mark) ∙ spaced_line (decimal number) (decimal part ++ 32 ∷ mark))

pub line_pieces_text : (line : Line) → bytes_of (pieces_of line) ≡ line_bytes line
line_pieces_text (says_marked number part hubs) = mark_line_text number part hubs
line_pieces_text line = plain_pieces_text line refl

hubs_tell : (hubs : List ℕ) → told_by (number_pieces (told_hubs hubs)) ≡ hub_parts hubs
hubs_tell [] = refl
hubs_tell (k ∷ rest) = ap (λ l. Hub k (none_left rest) ∷ l) (hubs_tell rest)

mark_tell : (hubs : List ℕ) → told_by (number_pieces (told_mark hubs)) ≡ mark_parts hubs
mark_tell [] = refl
mark_tell (k ∷ rest) = ap (λ l. CoreHub k (none_left rest) ∷ l) (mark_tell rest)

values_tell : (u : List (ℕ × ℕ)) → told_by (number_pieces (told_values u)) ≡ value_parts u
values_tell [] = refl
values_tell (e ∷ rest) = ap (λ l. DualPair e.0 e.1 (none_left rest) ∷ l) (values_tell rest)

ways_tell : (ways : List Way) → told_by (number_pieces (told_ways ways)) ≡ way_parts ways
ways_tell [] = refl
ways_tell (w ∷ rest) = ap (λ l. ProofPair w.0 w.1 w.2 (none_left rest) ∷ l) (ways_tell rest)

weights_tell : (w : List (ℕ × ℕ)) → told_by (number_pieces (told_weights w)) ≡ weight_parts w
weights_tell [] = refl
weights_tell (e ∷ rest) = ap (λ l. LeafPair e.0 e.1 (none_left rest) ∷ l) (weights_tell rest)

pub line_pieces_tell : (line : Line) → told_by (pieces_of line) ≡ parts_of line
line_pieces_tell (says_hubs hubs) = hubs_tell hubs
line_pieces_tell (says_cut number None) = refl
line_pieces_tell (says_marked number part hubs) = ap (λ l. Cut number part false ∷ l) (mark_tell hubs)
line_pieces_tell (says_dual commodity run dual) =
    let told : List Item → List Item = λ l. Dual commodity.0 commodity.1 run dual.a (none_left dual.u) ∷ l in
    by_test (nat_eq run 1) (λ e. rw e (ap told (values_tell dual.u))) (λ e. rw e (ap told (values_tell dual.u)))
line_pieces_tell (says_proof proof) = ap (λ l. Proof proof.turns proof.scale (none_left proof.ways) ∷ l) (ways_tell proof.ways)
line_pieces_tell (says_tree (leaf_of denom weights)) = ap (λ l. Leaf denom (none_left weights) ∷ l) (weights_tell weights)
line_pieces_tell line = refl

pub lines_text : (lines : List Line) → bytes_of (flat_map pieces_of lines) ≡ flat_map line_bytes lines
lines_text [] = refl
lines_text (line ∷ lines) =
    flat_map-append (λ (p : Piece). p.bytes) (pieces_of line) (flat_map pieces_of lines) ∙ (λ i. line_pieces_text line i ++ lines_text lines i)

pub lines_tell : (lines : List Line) → told_by (flat_map pieces_of lines) ≡ flat_map parts_of lines
lines_tell [] = refl
lines_tell (line ∷ lines) =
    flat_map-append (λ (p : Piece). option_to_list p.tells) (pieces_of line) (flat_map pieces_of lines) ∙ (λ i. line_pieces_tell line i ++ lines_tell lines i)

pub pieces_are_text_lem : PiecesAreText
unfolding certificate_text
pieces_are_text_lem k = record { text = lines_text (certificate_items k); items = lines_tell (certificate_items k) }
