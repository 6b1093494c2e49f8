use Rattle.std.proofs.Common.{◌≡◌, ◌+◌, drop}
use Rattle.std.specs.List.{prefix_len}
use Rattle.text_spec.specs.Tokens.{is_separator}
use Rattle.dec_text.proofs.tokens.separators.Given as goal

abbrev pub invariant-loop-i : goal.invariant-loop-i
invariant-loop-i l = l.i + prefix_len is_separator (drop l.i l.bytes) ≡ prefix_len is_separator l.bytes
