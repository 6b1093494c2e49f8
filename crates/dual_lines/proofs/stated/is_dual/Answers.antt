use Rattle.std.proofs.Common.{ℕ, ◌↔◌, IsTrue, subst, rules}
use Rattle.dual_lines.specs.Covers.{IsCovered}
use Rattle.dual_lines.proofs.DualByAmounts.{no_amounts, amounts_short, dual_by_amounts}
use Rattle.dual_lines.proofs.stated.is_dual.Goals as goal

pub set_amounts-requires-clause-cleared : goal.set_amounts-requires-clause-cleared
set_amounts-requires-clause-cleared c = λ k. no_amounts 200 c.size.result k

pub is_covered_by_amounts-requires-clause-short : goal.is_covered_by_amounts-requires-clause-short
is_covered_by_amounts-requires-clause-short c =
    let p = c.args.instance.now in
    amounts_short p.size p.size c.args.dual.now.a c.args.dual.now.u c.set_amounts.new.amounts c.requires.dual
    (record { long = search rules; each = c.set_amounts.ensures.amounts })

pub returns : goal.returns
returns c =
    let p = c.args.instance.now in
    dual_by_amounts p c.args.part c.args.commodity c.args.dual.now c.set_amounts.new.amounts c.is_covered_by_amounts.result
    (record { long = search rules; each = c.set_amounts.ensures.amounts })
    (c.lists_candidates.ensures.0 c.if-not-lists_candidates.false)
    (subst (λ (a : ℕ). IsTrue c.is_covered_by_amounts.result ↔ IsCovered p c.args.part c.args.commodity a c.set_amounts.new.amounts) c.price.ensures.value
    c.is_covered_by_amounts.ensures)
