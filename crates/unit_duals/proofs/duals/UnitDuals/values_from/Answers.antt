use Rattle.std.proofs.Common.{◌≡◌, ℕ, ◌*◌, ◌<◌, ◌≤◌, List, All, length, slice_index, ap, sym, subst, ◌∙◌, arith}
use Rattle.std.proofs.lemmas.List.{with_items_is}
use Rattle.std.proofs.lemmas.List.Elements.{All-from_get_or}
use Rattle.std.specs.Vec.{with_items}
use Rattle.unit_duals.specs.Limits.{most_length}
use Rattle.unit_duals.specs.Lengths.{AreFirstLegs}
use Rattle.unit_duals.specs.LeastValues.{IsPrice, ArePrices, AreLeastValues}
use Rattle.unit_duals.specs.Values.{reach_leg}
use Rattle.unit_duals.proofs.HubLengths.{price_is_price}
use Rattle.unit_duals.proofs.PriceLimits.{price_limit}
use Rattle.unit_duals.proofs.WholeOrigins.{values_are_least}
use Rattle.unit_duals.proofs.duals.UnitDuals.values_from.Goals as goal

pub pull_values-requires-clause-lengths : goal.pull_values-requires-clause-lengths
pull_values-requires-clause-lengths c =
    let l = c.args.tables.now.legs in
    let first = c.args.first.now in
    let prices = c.set_prices.new.prices in
    let long : length prices ≡ l.size = omega (arith, c.set_prices.auto.prices, c.deref_mut.ensures.len, c.fit.ensures.len, c.size-2.ensures.value) in
    let are = c.deref.ensures.value ∙ with_items_is c.fit.new.items prices (omega (arith, long, c.fit.ensures.len, c.size-2.ensures.value)) in
    record {
      prices_long = ap length are ∙ long;
      price_limit = subst (All (λ d. d ≤ most_length)) (sym are)
          (All-from_get_or (λ d. d ≤ most_length) prices 0 (λ j below. (let column : j < l.size = omega (arith, below, long) in
          let is = c.set_prices.ensures.each j column in
          let limit = price_limit l first j c.requires.some_hub column c.size-2.ensures.legs c.requires.first in
          omega (arith, is, limit))));
      first_legs = c.requires.first;
      reach_legs = subst (AreFirstLegs l) (sym (c.deref-2.ensures.value ∙ with_items_is c.fit-2.new.items c.set_reach.new.reach
          (omega (arith, c.set_reach.ensures.legs.long, c.fit-2.ensures.len, c.stops.ensures.value)))) c.set_reach.ensures.legs;
    }

pub returns-clause-prices : goal.returns-clause-prices
returns-clause-prices c =
    let l = c.args.tables.now.legs in
    let first = c.args.first.now in
    let prices = c.set_prices.new.prices in
    let long : length prices ≡ l.size = omega (arith, c.set_prices.auto.prices, c.deref_mut.ensures.len, c.fit.ensures.len, c.size-2.ensures.value) in
    subst (ArePrices l first) (sym (with_items_is c.fit.new.items prices (omega (arith, long, c.fit.ensures.len, c.size-2.ensures.value))))
    (record {
      long = long;
      each = λ j below. subst (IsPrice l first j) (sym (c.set_prices.ensures.each j below)) (price_is_price l first j c.requires.some_hub);
    })

pub returns-clause-values : goal.returns-clause-values
returns-clause-values c =
    let l = c.args.tables.now.legs in
    let first = c.args.first.now in
    let reach = c.set_reach.new.reach in
    let values = c.pull_values.new.values in
    let cells : c.count.result * c.size.result ≡ l.count * l.size =
    ap (λ (h : ℕ). h * c.size.result) c.count.ensures.value ∙ ap (λ (n : ℕ). l.count * n) c.size.ensures.value in
    let long : length values ≡ l.count * l.size =
    omega (arith, c.pull_values.auto.values, c.deref_mut-5.ensures.len, c.fit-5.ensures.len, cells) in
    let reach_items = c.deref-2.ensures.value ∙ with_items_is c.fit-2.new.items reach (omega (arith, c.set_reach.ensures.legs.long, c.fit-2.ensures.len, c.stops.ensures.value)) in
    let prices = (with_items c.fit.new.items c.set_prices.new.prices).items in
    subst (AreLeastValues l first prices) (sym (with_items_is c.fit-5.new.items values (omega (arith, long, c.fit-5.ensures.len, cells))))
    (subst (λ (ps : List ℕ). AreLeastValues l first ps values) c.deref.ensures.value
    (values_are_least l c.deref.result.now first c.deref-2.result.now values long
    (λ t below. subst (λ (rs : List ℕ). slice_index rs t ≡ reach_leg l first t) (sym reach_items) (c.set_reach.ensures.each t below))
    c.pull_values.ensures))
