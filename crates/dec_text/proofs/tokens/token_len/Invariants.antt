use Rattle.std.proofs.Common.{◌≡◌, ◌+◌, drop}
use Rattle.std.specs.List.{position_or_len}
use Rattle.text_spec.specs.Tokens.{is_separator}
use Rattle.dec_text.proofs.tokens.token_len.Given as goal

abbrev pub invariant-loop-i : goal.invariant-loop-i
invariant-loop-i l = l.i + position_or_len is_separator (drop l.i l.bytes) ≡ position_or_len is_separator l.bytes
