use Rattle.std.proofs.Common.{◌≡◌, ◌≤◌, min, true, drop}
use Rattle.std.specs.List.{list_all}
use Rattle.std.specs.Char.{is_ascii_digit}
use Rattle.std.specs.Str.Parse.{digits_value_after}
use Rattle.text_spec.specs.Numbers.{largest_magnitude}
use Rattle.dec_text.proofs.digits.value_after.Given as goal

abbrev pub invariant-loop-byte : goal.invariant-loop-byte
invariant-loop-byte l = record {
  same : min largest_magnitude (digits_value_after 10 l.value (drop l.byte-index l.digits)) ≡ min largest_magnitude (digits_value_after 10 l.initial.value l.digits);
  capped : l.value ≤ largest_magnitude;
  digits : list_all is_ascii_digit (drop l.byte-index l.digits) ≡ true;
}
