-- What the pieces of a line write.
use Rattle.std.specs.Prelude.{List, ℕ, [], ◌∷◌, ◌++◌, decimal}
use Rattle.std.specs.Fmt.{signed_decimal}
use Rattle.text_spec.specs.Fixed.{fixed_text}
use Rattle.dec_text.specs.declared.pieces.Piece.{Piece}
use Rattle.dec_text.specs.declared.pieces.Piece.TheVariants.{Text, Number, Count, Fixed}

-- the bytes that a piece writes
abbrev pub piece_text : Piece → List ℕ
piece_text (Text bytes) = bytes.now
piece_text (Number value) = signed_decimal value
piece_text (Count value) = decimal value
piece_text (Fixed value places) = fixed_text places value

-- the bytes that the pieces write one behind the other
abbrev pub line_of : List Piece → List ℕ
line_of [] = []
line_of (piece ∷ pieces) = piece_text piece ++ line_of pieces
