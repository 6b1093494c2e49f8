use Rattle.std.proofs.Common.{◌≡◌, ℕ, ◌+◌, ◌*◌, ap, ◌∙◌, arith}
use Rattle.hub_spec.specs.Problem.{Problem}
use Rattle.unit_duals.proofs.TableCells.{row_within}
use Rattle.value_cuts.specs.Prices.{row_price}
use Rattle.value_cuts.proofs.PriceRows.{row_put}
use Rattle.value_cuts.proofs.pricing.set_prices.Goals as goal

pub loop-i-preserved : goal.loop-i-preserved
loop-i-preserved c =
    let p = c.args.tables.now in
    let w = c.args.values.now in
    let i = c.loop-i.i in
    let same = c.size-size.ensures.value ∙ ap (λ (q : Problem). q.size) c.instance.ensures.value in
    let place : i * c.size-size.result ≡ i * p.size = ap (λ (n : ℕ). i * n) same in
    let next : (i + 1) * p.size ≡ i * p.size + p.size = omega arith in
    let whole = row_within i p.size p.size (omega (arith, c.loop-i-test.true, same)) in
    record {
      prices = row_put p.size i (i * c.size-size.result) _ ((i + 1) * p.size) (λ i j a. a ≡ row_price p w (i, j)) c.loop-i.prices
          c.set_origin_prices.new.prices place next (omega (arith, place, whole, c.loop-i.auto.prices, c.requires.long)) c.set_origin_prices.ensures.long
          c.loop-i.invariant.prices c.set_origin_prices.ensures.prices.from;
      room = omega (arith, c.set_origin_prices.ensures.room, c.loop-i.invariant.room);
      same_room = omega (arith, c.set_origin_prices.ensures.room, c.loop-i.invariant.same_room);
    }
