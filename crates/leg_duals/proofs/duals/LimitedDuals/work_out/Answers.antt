use Rattle.std.proofs.Common.{◌≡◌, ℕ, ◌*◌, List, length, ap, sym, subst, ◌∙◌, arith}
use Rattle.std.proofs.lemmas.List.{with_items_is}
use Rattle.std.specs.Vec.{with_items}
use Rattle.unit_duals.specs.Cells.{cell}
use Rattle.leg_duals.specs.UnitDuals.{AreUnitDuals}
use Rattle.leg_duals.specs.Duals.{AreValues}
use Rattle.leg_duals.proofs.MinimalDuals.{unit_duals_are}
use Rattle.leg_duals.proofs.duals.LimitedDuals.work_out.Goals as goal

pub returns-clause-duals : goal.returns-clause-duals
returns-clause-duals c =
    let w = c.args.ways.now in
    let prices = c.set_prices.new.prices in
    let values = c.set_values.new.values in
    let prices_long : length prices ≡ w.size = omega (arith, c.set_prices.auto.prices, c.deref_mut.ensures.len, c.fit.ensures.len, c.size.ensures.value) in
    let cells : c.count.result * c.size-3.result ≡ length w.order * w.size =
    ap (λ (h : ℕ). h * c.size-3.result) c.count.ensures.value ∙ ap (λ (n : ℕ). length w.order * n) c.size-3.ensures.value in
    let values_long : length values ≡ length w.order * w.size =
    omega (arith, c.set_values.auto.values, c.deref_mut-3.ensures.len, c.renew.ensures.len, cells) in
    let kept = with_items_is c.fit.new.items prices (omega (arith, prices_long, c.fit.ensures.len, c.size.ensures.value)) in
    let lent = c.deref.ensures.value ∙ kept in
    subst (λ (ps : List ℕ). AreUnitDuals w.problem w.hubs w.order w.origin w.start w.size ps (with_items c.renew.new.items values).items) (sym kept)
    (subst (AreUnitDuals w.problem w.hubs w.order w.origin w.start w.size prices)
    (sym (with_items_is c.renew.new.items values (omega (arith, values_long, c.renew.ensures.len, cells))))
    (unit_duals_are w prices values c.size.ensures.ways (record {
      prices_long = prices_long;
      values_long = values_long;
      are_prices = c.set_prices.ensures.prices;
      are_values = λ t below. subst (λ (ps : List ℕ). AreValues w ps (cell w.size values) t) lent (c.set_values.ensures t below);
    })))
