use Rattle.std.proofs.Common.{◌≡◌, ◌+◌, drop}
use Rattle.std.specs.List.{position_or_len}
use Rattle.text_spec.specs.Numbers.{is_exponent_mark}
use Rattle.dec_text.proofs.decimals.exponent_mark_at.Given as goal

abbrev pub invariant-loop-i : goal.invariant-loop-i
invariant-loop-i l = l.i + position_or_len is_exponent_mark (drop l.i l.bytes) ≡ position_or_len is_exponent_mark l.bytes
