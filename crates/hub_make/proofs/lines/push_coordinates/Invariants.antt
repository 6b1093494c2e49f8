use Rattle.std.proofs.Common.{◌≡◌, ◌++◌, map, flat_map}
use Rattle.hub_make.specs.Numbers.{nodes}
use Rattle.hub_make.specs.Texts.{coordinate_words, line_text}
use Rattle.hub_make.proofs.lines.push_coordinates.Given as goal

abbrev pub invariant-loop-i : goal.invariant-loop-i
invariant-loop-i l = l.text.items ≡ l.initial.text.items ++ flat_map line_text (map (coordinate_words l.seed) (nodes l.i))
