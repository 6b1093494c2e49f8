use Rattle.std.proofs.Common.{◌≡◌, ℕ, List, Vec, Global, length, subst, arith}
use Rattle.std.proofs.lemmas.List.{take_all}
use Rattle.std.proofs.lemmas.List.Elements.{All-more, All-map}
use Rattle.test_cuts.proofs.masters.masters.are_rows.Goals as goal

pub loop-row-preserved : goal.loop-row-preserved
loop-row-preserved c =
    let long = λ (v : Vec ℕ Global). length v.items ≡ c.args.nodes in
    All-more long c.args.rows.now c.loop-row.row-index c.row-item.result (omega arith) c.loop-row.invariant
    (subst long c.row-item.is (omega (arith, c.row-item.result.ok.0)))

pub returns : goal.returns
returns c holds =
    let rows = c.args.rows.now in
    let all = take_all c.loop-row.row-index rows (omega arith) in
    All-map (λ (row : List ℕ). length row ≡ c.args.nodes) (λ (v : Vec ℕ Global). v.items) rows (rw all at c.loop-row.invariant)
