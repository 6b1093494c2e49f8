use Rattle.std.proofs.Common.{◌≡◌, length, take}
use Rattle.cert_lines.specs.Marks.{marked}
use Rattle.cert_lines.proofs.marks.NodeMarks.assign.Given as goal

abbrev pub invariant-loop-i : goal.invariant-loop-i
invariant-loop-i l = record {
  size : length l.self ≡ length l.fn.self;
  nodes : marked l.self ≡ take l.i l.nodes;
}
