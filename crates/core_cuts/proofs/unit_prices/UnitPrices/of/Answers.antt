use Rattle.std.proofs.Common.{ℕ, List, map, ap, ap₂, ◌∙◌}
use Rattle.core_cuts.specs.Readings.{Reading}
use Rattle.core_cuts.specs.BasicRatios.{whole_at, nothing, reading_at}
use Rattle.core_cuts.proofs.FirstAndRest.{first_any, rest_is}
use Rattle.core_cuts.proofs.unit_prices.UnitPrices.of.Goals as goal

pub returns : goal.returns
unfolding reading_at
returns c =
    let rs = c.args.ratios.now in
    let made : ℕ → List ℕ → Reading = λ price values. record { part = c.args.part; price = price; values = values } in
    ap₂ made (c.times_part-price.ensures ∙ ap (whole_at c.args.part) (first_any rs (record { right = 0; over = 0 }) nothing c.requires.some))
    (c.in_ok-values.ensures ∙ ap (map (whole_at c.args.part)) (rest_is rs))
