-- What the iterator over tokens has left.
use Rattle.std.specs.Prelude.{List, drop}
use Rattle.text_spec.specs.Tokens.{Token, runs}
use Rattle.dec_text.specs.declared.tokens.Tokens.{Tokens}

-- the tokens from the iterator's place on
abbrev pub tokens_left : Tokens → List Token
tokens_left t = runs t.place (drop t.place t.bytes.now)
