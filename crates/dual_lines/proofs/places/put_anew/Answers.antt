use Rattle.std.proofs.Common.{ℕ, ◌<◌, length, rules, arith}
use Rattle.std.proofs.lemmas.List.Elements.{All-get_or}
use Rattle.dual_lines.proofs.UnitsAnew.{put_none, put_more, put_all}
use Rattle.dual_lines.proofs.places.put_anew.Goals as goal

pub loop-entry-init : goal.loop-entry-init
loop-entry-init c p before places up are = put_none p before c.args.carried c.args.listed.now c.args.units.now are

pub loop-entry-preserved : goal.loop-entry-preserved
loop-entry-preserved c p before are up old =
    let listed = c.args.listed.now in
    let t = c.loop-entry.entry-index in
    let node = All-get_or (λ (e : ℕ × ℕ). e.0 < length c.args.places.now) listed t (0, 0) c.loop-entry-test.true c.requires in
    put_more p c.args.carried c.args.places.now listed t c.unit_value-value.result c.loop-entry.units c.put_unit.new.units are up
    c.loop-entry-test.true (omega (arith, node, are.long)) c.unit_value-value.ensures.all c.unit_value-value.ensures.one
    c.unit_value-value.ensures.limit c.put_unit.ensures.here c.put_unit.ensures.others (search rules)
    (c.loop-entry.invariant p before are up old)

pub returns : goal.returns
returns c p before are up old =
    put_all p c.args.carried c.args.listed.now c.loop-entry.entry-index c.loop-entry.units (omega arith) (c.loop-entry.invariant p before are up old)
