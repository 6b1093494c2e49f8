use Rattle.std.proofs.Common.{true, false, rules, FitsSigned, refl}
use Rattle.std.specs.Int.{w128}
use Rattle.p_hub.proofs.CountedSides.{rise_fits, rise_test}
use Rattle.p_hub.proofs.sides.Margins.side_of.Goals as goal

pub overflow_add-closed : goal.overflow_add-closed
overflow_add-closed c =
    rise_fits c.args.self.now.bound c.args.self.now.next c.args.gain c.max.result c.requires.bound c.requires.next c.requires.gain c.max.ensures.value

pub returns-then-closed-self : goal.returns-then-closed-self
returns-then-closed-self c =
    let t = c.args.self.now.threshold in
    let fits : FitsSigned w128 t = search rules in
    let closed = rise_test c.args.self.now.bound c.args.self.now.next c.args.gain t c.max.result true c.requires.bound c.requires.next c.requires.gain
    fits c.max.ensures.value c.if-closed-self.true in
    rw closed refl

pub overflow_add-open : goal.overflow_add-open
overflow_add-open c =
    rise_fits c.args.self.now.bound c.args.gain c.args.self.now.last c.max-2.result c.requires.bound c.requires.gain c.requires.last c.max-2.ensures.value

pub returns-then-open-self : goal.returns-then-open-self
returns-then-open-self c =
    let t = c.args.self.now.threshold in
    let fits : FitsSigned w128 t = search rules in
    let closed = rise_test c.args.self.now.bound c.args.self.now.next c.args.gain t c.max.result false c.requires.bound c.requires.next c.requires.gain
    fits c.max.ensures.value c.if-closed-self.false in
    let opened = rise_test c.args.self.now.bound c.args.gain c.args.self.now.last t c.max-2.result true c.requires.bound c.requires.gain c.requires.last
    fits c.max-2.ensures.value c.if-open-self.true in
    rw (closed, opened) refl

pub returns : goal.returns
returns c =
    let t = c.args.self.now.threshold in
    let fits : FitsSigned w128 t = search rules in
    let closed = rise_test c.args.self.now.bound c.args.self.now.next c.args.gain t c.max.result false c.requires.bound c.requires.next c.requires.gain
    fits c.max.ensures.value c.if-closed-self.false in
    let opened = rise_test c.args.self.now.bound c.args.gain c.args.self.now.last t c.max-2.result false c.requires.bound c.requires.gain c.requires.last
    fits c.max-2.ensures.value c.if-open-self.false in
    rw (closed, opened) refl
