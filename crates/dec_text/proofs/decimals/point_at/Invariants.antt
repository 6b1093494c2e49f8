use Rattle.std.proofs.Common.{◌≡◌, ◌+◌, drop}
use Rattle.std.specs.List.{position_or_len}
use Rattle.text_spec.specs.Numbers.{is_point}
use Rattle.dec_text.proofs.decimals.point_at.Given as goal

abbrev pub invariant-loop-i : goal.invariant-loop-i
invariant-loop-i l = l.i + position_or_len is_point (drop l.i l.bytes) ≡ position_or_len is_point l.bytes
