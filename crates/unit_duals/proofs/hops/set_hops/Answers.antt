use Rattle.std.proofs.Common.{◌≡◌, ◌+◌, ◌*◌, arith}
use Rattle.std.proofs.lemmas.Nat.{rows}
use Rattle.unit_duals.specs.Leasts.{IsFirstLeast}
use Rattle.unit_duals.specs.Hops.{hop_by, least_hop}
use Rattle.unit_duals.proofs.TableCells.{table_more}
use Rattle.unit_duals.proofs.hops.set_hops.Goals as goal

pub loop-j-preserved : goal.loop-j-preserved
loop-j-preserved c =
    let l = c.args.legs.now in
    let next = c.loop-x.x * c.size-size.result + (c.loop-j.j + 1) in
    record {
      lasts = table_more c.size-size.result (λ x j y. IsFirstLeast (hop_by l x j) l.hubs y) c.loop-j.lasts c.loop-x.x c.loop-j.j
          c.best_hop-hop.result.last next c.loop-j-test.true (grind (arith, rows)) c.best_hop-hop.ensures.last (omega arith) c.loop-j.invariant.lasts;
      lengths = table_more c.size-size.result (λ x j v. v ≡ least_hop l x j) c.loop-j.lengths c.loop-x.x c.loop-j.j
          c.best_hop-hop.result.length next c.loop-j-test.true (grind (arith, rows)) c.best_hop-hop.ensures.length (omega arith) c.loop-j.invariant.lengths;
    }
