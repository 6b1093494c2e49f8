use Rattle.std.proofs.Common.{◌≡◌, ℕ, List, [], ◌∷◌, ◌++◌, OnOk, subst, ◌∙◌, rules}
use Rattle.hub_spec.specs.Plans.{IsSetCost}
use Rattle.cut_pool.specs.Entries.{core_entry}
use Rattle.search_steps.proofs.AddedCuts.{core_added}
use Rattle.search_steps.proofs.separating.add_core.Goals as goal

pub returns : goal.returns
returns c =
    let p = c.args.instance.now in
    let set = c.args.cut.mark.hubs in
    let same : c.hubs.result.now ≡ set = c.hubs.ensures ∙ search rules in
    let cost : IsSetCost p set c.cost_of_set-cost.result =
    subst (λ (ks : List ℕ). IsSetCost p ks c.cost_of_set-cost.result) same c.cost_of_set-cost.ensures.value in
    core_added p c.args.pool.now.entries c.add_core.new.self.entries c.add_core.result (core_entry p.size c.args.cut) set c.cost_of_set-cost.result
    c.requires.problem c.requires.set (search rules)
    (subst (λ (n : ℕ). OnOk c.add_core.result (c.add_core.new.self.entries ≡ c.args.pool.now.entries ++ core_entry n c.args.cut ∷ []))
    c.size.ensures.value c.add_core.ensures.added)
    cost
