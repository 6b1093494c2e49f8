-- Pieces and zeros that are put one behind the other through a buffer.
use Rattle.std.proofs.Common.{◌≡◌, ℕ, zero, suc, ◌+◌, ◌-◌, ◌/◌, ◌%◌, ◌^◌, ◌<◌, ◌≤◌, List, [], ◌∷◌, ◌++◌, Option, Result, Ok, IsOk, IsErr, OnOk, length, drop, replicate, get_or, refl, sym, ap, ap₂, decimal, subst, ◌∙◌, arith}
use Rattle.std.proofs.lemmas.List.{at_drop_more, at_drop_all}
use Rattle.text_spec.specs.Fixed.{zero_padded, fixed_text}
use Rattle.hub_io.specs.Outside.{Puts, PutsThrough}
use Rattle.hub_io.proofs.Through.{through_none, through_on, through_stop, through_finish}
use Rattle.dec_text.specs.declared.pieces.Piece.{Piece}
use Rattle.dec_text.specs.Lines.{piece_text, line_of}

abbrev zeros : ℕ → List ℕ
zeros n = replicate n 48

one_zero : (n : ℕ) → 0 < n → 48 ∷ zeros (n - 1) ≡ zeros n
one_zero zero l = absurd (omega arith)
one_zero (suc n) l = let less : suc n - 1 ≡ n = omega arith in ap (λ k. 48 ∷ zeros k) less

no_zero : (n : ℕ) → n ≤ 0 → [] ≡ zeros n
no_zero zero l = refl
no_zero (suc n) l = absurd (omega arith)

line_at : (pieces : List Piece) (i : ℕ) (d : Piece) → i < length pieces → piece_text (get_or pieces i d) ++ line_of (drop (i + 1) pieces) ≡ line_of (drop i pieces)
line_at pieces i d l = sym (at_drop_more line_of pieces i d l)

pub padded_is : (width number count : ℕ) (text : List ℕ) → text ≡ decimal number → count ≡ width - length text → zeros count ++ text ≡ zero_padded width number
padded_is width number count text e len = ap₂ (λ n ds. zeros n ++ ds) (len ∙ ap (λ ds. width - length ds) e) e

pub fixed_is : (places value whole decimals : ℕ) → whole ≡ value / 10 ^ places → decimals ≡ value % 10 ^ places → decimal whole ++ (46 ∷ zero_padded places decimals) ≡ fixed_text places value
unfolding fixed_text
fixed_is places value whole decimals e f = ap₂ (λ w d. decimal w ++ (46 ∷ zero_padded places d)) e f

module _ {K E : Type 0} {taken : K → Option (List ℕ)} {faults : K → ℕ} where
  -- two texts, of which a third is made
  pub two_stop : (first last : K) (waiting between rest a b text : List ℕ) (r s : Result (Unit {0}) E) → a ++ b ≡ text → IsErr r → IsErr s → PutsThrough taken faults first last waiting between r a
      → PutsThrough taken faults first last waiting rest s text
  two_stop first last waiting between rest a b text r s e no_r no_s p = subst (PutsThrough taken faults first last waiting rest s) e (through_stop first last waiting between rest a b r s no_r no_s p)

  pub two_on : (first mid last : K) (waiting between rest a b text : List ℕ) (r s : Result (Unit {0}) E) → a ++ b ≡ text → IsOk r → PutsThrough taken faults first mid waiting between r a
      → PutsThrough taken faults mid last between rest s b → PutsThrough taken faults first last waiting rest s text
  two_on first mid last waiting between rest a b text r s e ok p q = subst (PutsThrough taken faults first last waiting rest s) e (through_on first mid last waiting between rest a b r s ok p q)

  -- a row of zeros, from its first one on
  pub zero_stop : (first last : K) (waiting between rest : List ℕ) (n : ℕ) (r s : Result (Unit {0}) E) → 0 < n → IsErr r → IsErr s → PutsThrough taken faults first last waiting between r (48 ∷ [])
      → PutsThrough taken faults first last waiting rest s (zeros n)
  zero_stop first last waiting between rest n r s l no_r no_s p =
      subst (PutsThrough taken faults first last waiting rest s) (one_zero n l) (through_stop first last waiting between rest (48 ∷ []) (zeros (n - 1)) r s no_r no_s p)

  pub zero_more : (first mid last : K) (waiting between rest : List ℕ) (n : ℕ) (r s : Result (Unit {0}) E) → 0 < n → IsOk r → PutsThrough taken faults first mid waiting between r (48 ∷ [])
      → PutsThrough taken faults mid last between rest s (zeros (n - 1)) → PutsThrough taken faults first last waiting rest s (zeros n)
  zero_more first mid last waiting between rest n r s l ok p q =
      subst (PutsThrough taken faults first last waiting rest s) (one_zero n l) (through_on first mid last waiting between rest (48 ∷ []) (zeros (n - 1)) r s ok p q)

  pub zero_end : (at : K) (waiting : List ℕ) (n : ℕ) → n ≤ 0 → PutsThrough {E = E} taken faults at at waiting waiting (Ok tt) (zeros n)
  zero_end at waiting n l = subst (PutsThrough taken faults at at waiting waiting (Ok tt)) (no_zero n l) (through_none at waiting)

  -- a row of pieces, from the i-th on
  pub line_stop : (pieces : List Piece) (i : ℕ) (d : Piece) (first last : K) (waiting between rest : List ℕ) (r s : Result (Unit {0}) E) → i < length pieces → IsErr r → IsErr s
      → PutsThrough taken faults first last waiting between r (piece_text (get_or pieces i d)) → PutsThrough taken faults first last waiting rest s (line_of (drop i pieces))
  line_stop pieces i d first last waiting between rest r s l no_r no_s p =
      subst (PutsThrough taken faults first last waiting rest s) (line_at pieces i d l)
      (through_stop first last waiting between rest (piece_text (get_or pieces i d)) (line_of (drop (i + 1) pieces)) r s no_r no_s p)

  pub line_more : (pieces : List Piece) (i : ℕ) (d : Piece) (first mid last : K) (waiting between rest : List ℕ) (r s : Result (Unit {0}) E) → i < length pieces → IsOk r
      → PutsThrough taken faults first mid waiting between r (piece_text (get_or pieces i d)) → PutsThrough taken faults mid last between rest s (line_of (drop (i + 1) pieces))
      → PutsThrough taken faults first last waiting rest s (line_of (drop i pieces))
  line_more pieces i d first mid last waiting between rest r s l ok p q =
      subst (PutsThrough taken faults first last waiting rest s) (line_at pieces i d l)
      (through_on first mid last waiting between rest (piece_text (get_or pieces i d)) (line_of (drop (i + 1) pieces)) r s ok p q)

  pub line_end : (pieces : List Piece) (i : ℕ) (at : K) (waiting : List ℕ) → length pieces ≤ i → PutsThrough {E = E} taken faults at at waiting waiting (Ok tt) (line_of (drop i pieces))
  line_end pieces i at waiting l = subst (PutsThrough taken faults at at waiting waiting (Ok tt)) (sym (at_drop_all line_of pieces i l)) (through_none at waiting)

  -- a text put whole through an empty buffer, and then what waits, under the text's other name
  pub finish_text : (first mid last : K) (waiting between rest a b : List ℕ) (r s : Result (Unit {0}) E) → a ≡ b → IsOk r → waiting ≡ [] → OnOk s (rest ≡ [])
      → PutsThrough taken faults first mid waiting between r a → PutsThrough taken faults mid last between rest s [] → Puts taken faults first last s b
  finish_text first mid last waiting between rest a b r s e ok none all p q =
      subst (Puts taken faults first last s) e (through_finish first mid last waiting between rest a r s ok none all p q)
