-- A line made word by word, and lines made one after the other.
use Rattle.std.proofs.Common.{◌≡◌, ℕ, ◌+◌, ◌<◌, ◌≤◌, List, [], ◌∷◌, ◌++◌, map, flat_map, length, get_or, drop, decimal, sym, ap, ◌∙◌, append_assoc, append-nil, codes, arith}
use Rattle.std.specs.List.{join_with_byte}
use Rattle.std.proofs.lemmas.List.{at_drop_more, at_drop_all, flat_map_more}
use Rattle.std.proofs.lemmas.List.FromFn.{map-range_with_len_more}
use Rattle.std.proofs.lemmas.List.Concat.{flat_map-append}
use Rattle.hub_make.specs.Numbers.{nodes, made_cost}
use Rattle.hub_make.specs.Texts.{number_words, coordinate_words, flow_words, cost_words, line_text, made_text}

-- a number behind a space
abbrev pub behind_space : ℕ → List ℕ
behind_space number = 32 ∷ decimal number

-- the numbers of a line behind its first one
abbrev pub rest_of_line : List ℕ → List ℕ
rest_of_line numbers = flat_map behind_space numbers

pub joined : (first : ℕ) (rest : List ℕ) → join_with_byte 32 (number_words (first ∷ rest)) ≡ decimal first ++ rest_of_line rest
joined first [] = sym (append-nil (decimal first))
joined first (next ∷ rest) = ap (λ words. decimal first ++ (32 ∷ words)) (joined next rest)

pub next_number : (rest : List ℕ) (i : ℕ) → i < length rest
    → behind_space (get_or rest i 0) ++ rest_of_line (drop (i + 1) rest) ≡ rest_of_line (drop i rest)
next_number rest i h = sym (at_drop_more rest_of_line rest i 0 h)

pub no_number : (rest : List ℕ) (i : ℕ) → length rest ≤ i → rest_of_line (drop i rest) ≡ []
no_number rest i h = at_drop_all rest_of_line rest i h

-- one more line
pub next_line : (words : ℕ → List (List ℕ)) (front text more : List ℕ) (i : ℕ)
    → text ≡ front ++ flat_map line_text (map words (nodes i)) → more ≡ text ++ line_text (words (i + 1))
    → more ≡ front ++ flat_map line_text (map words (nodes (i + 1)))
next_line words front text more i e f =
    let at : 1 + i ≡ i + 1 = omega arith in
    f ∙ ap (λ bs. bs ++ line_text (words (i + 1))) e
    ∙ flat_map_more line_text front (map words (nodes i)) (words (i + 1))
    ∙ ap (λ lines. front ++ flat_map line_text lines) (sym (map-range_with_len_more words 1 i (i + 1) at))

pub next_in_row : (f : ℕ → ℕ) (row more : List ℕ) (i : ℕ) → row ≡ map f (nodes i) → more ≡ row ++ f (i + 1) ∷ [] → more ≡ map f (nodes (i + 1))
next_in_row f row more i e g =
    let at : 1 + i ≡ i + 1 = omega arith in
    g ∙ ap (λ r. r ++ f (i + 1) ∷ []) e ∙ sym (map-range_with_len_more f 1 i (i + 1) at)

-- the lines of the listed number of hubs and of the factors
abbrev hub_lines : List ℕ
hub_lines = codes "1\n3\n0.75\n2\n"

-- five texts, each put behind those before it
in_a_row : (a b c d e : List ℕ) → (((a ++ b) ++ c) ++ d) ++ e ≡ a ++ (b ++ (c ++ (d ++ (e ++ []))))
in_a_row a b c d e = simp (append_assoc, append-nil)

-- the parts of a text in a row
pub whole_text : (seed size : ℕ) (first second third fourth fifth costs : List ℕ) → first ≡ line_text (number_words (size ∷ []))
    → second ≡ first ++ flat_map line_text (map (coordinate_words seed) (nodes size))
    → third ≡ second ++ flat_map line_text (map (flow_words seed size) (nodes size))
    → fourth ≡ third ++ hub_lines → costs ≡ map (made_cost seed size) (nodes size)
    → fifth ≡ fourth ++ line_text (number_words costs) → fifth ≡ made_text seed size
unfolding made_text
whole_text seed size first second third fourth fifth costs a b c d e f =
    let points = map (coordinate_words seed) (nodes size) in
    let flows = map (flow_words seed size) (nodes size) in
    let x = flat_map line_text points in
    let y = flat_map line_text flows in
    let last = line_text (cost_words seed size) in
    let front = line_text (number_words (size ∷ [])) in
    let said : fifth ≡ (((front ++ x) ++ y) ++ hub_lines) ++ last =
    f ∙ (λ i. d i ++ line_text (number_words (e i)))
    ∙ ap (λ t. (t ++ hub_lines) ++ last) (c ∙ ap (λ t. t ++ y) (b ∙ ap (λ t. t ++ x) a)) in
    let parted : made_text seed size ≡ front ++ (x ++ (y ++ (hub_lines ++ (last ++ [])))) =
    ap (λ t. front ++ t) (flat_map-append line_text points _ ∙ ap (λ t. x ++ t) (flat_map-append line_text flows _)) in
    said ∙ in_a_row front x y hub_lines last ∙ sym parted

-- all numbers of a line
pub all_numbers : (front mid text numbers rest : List ℕ) (first i : ℕ) → numbers ≡ first ∷ rest → mid ≡ front ++ decimal first
    → text ++ rest_of_line (drop i rest) ≡ mid ++ rest_of_line rest → length rest ≤ i
    → text ≡ front ++ join_with_byte 32 (number_words numbers)
all_numbers front mid text numbers rest first i e f same past =
    sym (append-nil text)
    ∙ ap (λ t. text ++ t) (sym (no_number rest i past))
    ∙ same
    ∙ ap (λ t. t ++ rest_of_line rest) f
    ∙ append_assoc front (decimal first) (rest_of_line rest)
    ∙ ap (λ t. front ++ t) (sym (joined first rest) ∙ ap (λ ns. join_with_byte 32 (number_words ns)) (sym e))
