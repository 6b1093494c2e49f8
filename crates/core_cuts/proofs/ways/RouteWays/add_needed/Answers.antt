use Rattle.std.proofs.Common.{get_or, refl}
use Rattle.core_cuts.proofs.NeededLists.{needed_yes, needed_no, costs_more}
use Rattle.core_cuts.proofs.ways.RouteWays.add_needed.Goals as goal
use Rattle.core_cuts.proofs.ways.RouteWays.add_needed.Goals.{in-Some+in_ok-add-in-Some, in-None}

pub loop-x-preserved : goal.loop-x-preserved
loop-x-preserved c =
    let p = c.args.commodity.now.instance.now in
    let k = c.args.k in
    let later = c.args.later.now in
    let x = c.loop-x.x in
    let base = c.args.self.now.edges.items in
    let edges = c.loop-x.self.edges.items in
    elim c.match-needed_right.branch [
      | in-Some+in_ok-add-in-Some w ↦ rw (w.self-is, w.in_ok-add-in-Some.ensures.edges, w.in_ok-add-in-Some.ensures.rights) (
        needed_yes p (c.args.commodity.now.i, c.args.commodity.now.j) k later x base edges c.loop-x-test.true w.in-Some.ensures.needed c.loop-x.invariant.0,
        costs_more p (c.args.commodity.now.i, c.args.commodity.now.j) edges c.loop-x.self.rights.items (k, get_or later x 0) w.in-Some.right c.loop-x.invariant.1 w.in-Some.ensures.value,
      )
      | in-None w ↦ rw w.self-is (
        needed_no p (c.args.commodity.now.i, c.args.commodity.now.j) k later x base edges c.loop-x-test.true (w.in-None.ensures.none refl) c.loop-x.invariant.0,
        c.loop-x.invariant.1,
      )
    ]
