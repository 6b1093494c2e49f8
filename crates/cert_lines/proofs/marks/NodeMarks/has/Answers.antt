use Rattle.std.proofs.Common.{◌<◌, ◌≤◌, length, arith}
use Rattle.std.proofs.lemmas.Bool.{le-ltb}
use Rattle.cert_lines.proofs.Marking.{has_within, has_past}
use Rattle.cert_lines.proofs.marks.NodeMarks.has.Goals as goal

pub returns-then-at-len : goal.returns-then-at-len
returns-then-at-len c =
    let marks = c.self.inside.marks.items in
    let within : c.args.k < length marks = omega (arith, c.if-at-len.true, c.len.ensures) in
    rw (← c.self.view_is) (has_within marks c.args.k c.index.result.now c.index.ensures within)

pub returns-else-at-len : goal.returns-else-at-len
returns-else-at-len c =
    let marks = c.self.inside.marks.items in
    let past : length marks ≤ c.args.k = omega (arith, c.if-at-len.false, c.len.ensures) in
    rw (← c.self.view_is) (has_past marks c.args.k _ (le-ltb c.args.k c.len.result c.if-at-len.false) past)
