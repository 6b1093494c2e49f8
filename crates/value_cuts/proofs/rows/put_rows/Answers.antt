use Rattle.std.proofs.Common.{◌≡◌, ℕ, ◌+◌, ◌*◌, ◌<◌, ◌≤◌, length, Vec, Global, sym, ap, subst, ◌∙◌, arith}
use Rattle.hub_spec.specs.Problem.{Problem}
use Rattle.unit_duals.proofs.TableCells.{row_within}
use Rattle.value_cuts.specs.Prices.{row_price}
use Rattle.value_cuts.proofs.PriceRows.{row_put}
use Rattle.value_cuts.specs.Origins.{IsPriceRow}
use Rattle.value_cuts.proofs.OriginRows.{row_at, many_rows}
use Rattle.value_cuts.proofs.rows.put_rows.Goals as goal
use Rattle.value_cuts.proofs.rows.put_rows.Goals.{After-deref}

below : (c : After-deref) → c.loop-i.i < c.args.tables.now.size
below c = omega (arith, c.loop-i-test.true, c.size-size.ensures.value, ap (λ (q : Problem). q.size) c.instance.ensures.value)

row : (c : After-deref) → IsPriceRow c.args.tables.now c.args._values.now c.loop-i.i c.index-rows-i.result.items
row c =
    row_at (λ (i : ℕ) (r : Vec ℕ Global). IsPriceRow c.args.tables.now c.args._values.now i r.items) c.args.tables.now.size c.args.rows.now c.loop-i.i
    c.index-rows-i.result c.requires.each (below c) c.index-rows-i.is

-- the row's place is within the table
within : (c : After-deref) → c.loop-i.i * c.size-size.result + c.size-size.result ≤ length c.loop-i.prices
within c =
    let p = c.args.tables.now in
    let same = c.size-size.ensures.value ∙ ap (λ (q : Problem). q.size) c.instance.ensures.value in
    let place : c.loop-i.i * c.size-size.result ≡ c.loop-i.i * p.size = ap (λ (n : ℕ). c.loop-i.i * n) same in
    omega (arith, same, place, row_within c.loop-i.i p.size p.size (below c), c.loop-i.auto.prices, c.requires.long)

pub bounds-rows-i : goal.bounds-rows-i
bounds-rows-i c =
    let p = c.args.tables.now in
    let many = many_rows (λ (i : ℕ) (r : Vec ℕ Global). IsPriceRow p c.args._values.now i r.items) p.size c.args.rows.now c.requires.each in
    omega (arith, many, c.loop-i-test.true, c.size-size.ensures.value, ap (λ (q : Problem). q.size) c.instance.ensures.value)

pub copy_from_slice-requires : goal.copy_from_slice-requires
copy_from_slice-requires c =
    let same = c.size-size.ensures.value ∙ ap (λ (q : Problem). q.size) c.instance.ensures.value in
    omega (arith, within c, same, (row c).long, c.deref.ensures.len, ap length c.deref.ensures.value)

pub loop-i-preserved : goal.loop-i-preserved
loop-i-preserved c =
    let p = c.args.tables.now in
    let w = c.args._values.now in
    let i = c.loop-i.i in
    let at = (goal.at.loop-i-preserved c).After-deref in
    let same = c.size-size.ensures.value ∙ ap (λ (q : Problem). q.size) c.instance.ensures.value in
    let place : i * c.size-size.result ≡ i * p.size = ap (λ (n : ℕ). i * n) same in
    let next : (i + 1) * p.size ≡ i * p.size + p.size = omega arith in
    let copied : c.copy_from_slice.new.self ≡ c.index-rows-i.result.items = c.copy_from_slice.ensures.after ∙ c.deref.ensures.value in
    let mine = subst (IsPriceRow p w i) (sym copied) (row at) in
    row_put p.size i (i * c.size-size.result) _ ((i + 1) * p.size) (λ i j a. a ≡ row_price p w (i, j)) c.loop-i.prices
    c.copy_from_slice.new.self place next (omega (arith, within at)) mine.long c.loop-i.invariant mine.prices.from
