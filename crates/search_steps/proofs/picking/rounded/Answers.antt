use Rattle.std.proofs.Common.{ℕ, ◌&&◌, ◌||◌, rules, tests}
use Rattle.std.proofs.lemmas.Iterator.{items_from_collect, YieldsList-from_slice}
use Rattle.std.proofs.lemmas.Iterator.Consumers.{YieldsList-at, YieldsList-from_copied, YieldsList-from_filter}
use Rattle.search_spec.specs.Choices.{has_node, is_half, rounded}
use Rattle.frac_master.specs.Advice.{advice_of_code}
use Rattle.search_steps.specs.Advising.{told_by}
use Rattle.search_steps.proofs.picking.rounded.Goals as goal

pub returns-clause-is : goal.returns-clause-is
unfolding rounded
returns-clause-is c =
    let a = told_by (advice_of_code c.args.advice.now) in
    let b = c.args.branch.now in
    let road = YieldsList-from_copied (YieldsList-at c.copied-candidates.ensures.source (YieldsList-from_slice c.args.instance.now.candidates cc)) in
    items_from_collect _ c.collect.ensures.ran
    (YieldsList-from_filter _ (λ (k : ℕ). has_node b.inside k || (has_node b.free k && is_half a k)) (YieldsList-at c.filter.ensures.source road) c.filter.ensures.closure
    (λ x r q k. search (rules, tests)))
