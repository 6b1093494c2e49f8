use Rattle.std.proofs.Common.{ℕ, ◌+◌, ◌*◌, Option, IfSome, set, sym, subst}
use Rattle.core_cuts.specs.Ahead.{AreAhead}
use Rattle.core_cuts.specs.Readings.{IsFound}
use Rattle.core_cuts.specs.declared.mirrors.DualPair.{DualPair}
use Rattle.core_cuts.proofs.AheadDuals.{put_ahead}
use Rattle.core_cuts.proofs.ahead.worked_out.Goals as goal

pub returns-in-Some-clause-ahead : goal.returns-in-Some-clause-ahead
returns-in-Some-clause-ahead c =
    let p = c.args.instance.now in
    let back = subst (λ (o : Option DualPair). IfSome o (λ pair. IfSome pair.back (IsFound p c.args.hubs.now (c.args.j, c.args.i)))) c.in-Some.is c.in_ok-pair.ensures.back in
    subst (λ (n : ℕ). AreAhead p c.args.hubs.now (set c.args.ahead.now.items (c.args.j * n + c.args.i) c.in-Some.pair.back)) (sym c.size-n.ensures.value)
    (put_ahead p c.args.hubs.now c.args.j c.args.i c.args.ahead.now.items c.in-Some.pair.back c.requires.to c.requires.from c.requires.ahead back)
