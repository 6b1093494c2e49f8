use Rattle.std.proofs.Common.{◌≡◌, length, sym, subst, rules}
use Rattle.cut_model.specs.ValueRows.{value_cut}
use Rattle.ascent_search.specs.SingleCuts.{AreLoads}
use Rattle.ascent_search.proofs.SetLeaves.{taken, value_loads}
use Rattle.ascent_search.proofs.pricing.Pricing.sum_loads.Goals as goal

pub returns-clause-sums : goal.returns-clause-sums
returns-clause-sums c =
    let p = c.args.tables.now in
    let w = c.args.values.now in
    let long : length c.sums_of.new.loads ≡ c.args.self.now.loads.len = search rules in
    let nodes : length c.sums_of.new.loads ≡ p.size = search rules in
    subst (AreLoads p (value_cut p w) c.sums_of.result) (sym (taken c.args.self.now.loads.len c.sums_of.new.loads _ long))
    (value_loads p w c.sums_of.new.loads c.sums_of.result c.requires.fit.problem c.sums_of.ensures.total nodes c.sums_of.ensures.loads)
