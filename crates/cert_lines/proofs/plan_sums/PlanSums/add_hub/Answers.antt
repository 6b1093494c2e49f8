use Rattle.std.proofs.Common.{◌≡◌, ℕ, ◌+◌, ◌<◌, ◌++◌, [], ◌∷◌, List, All, length, ap, ◌∙◌, sym, subst, arith}
use Rattle.std.proofs.lemmas.List.{length_push}
use Rattle.cert_lines.specs.Marks.{marked}
use Rattle.cert_lines.proofs.Marking.{few_marked}
use Rattle.cert_lines.specs.PlanTallies.{PlanTally, tally_of, with_hub}
use Rattle.cert_lines.proofs.PlanTallies.{hub_behind, hub_added}
use Rattle.cert_lines.proofs.plan_sums.PlanSums.add_hub.Goals as goal

pub invariant_of-self : goal.invariant_of-self
invariant_of-self c =
    let old = marked c.self.inside.hubs in
    let above : All (λ (m : ℕ). m < c.args.k) old =
    subst (λ (t : PlanTally). All (λ (m : ℕ). m < c.args.k) t.hubs) (sym c.self.view_is) c.requires.above in
    let grown : marked c.add.new.self ≡ old ++ c.args.k ∷ [] = c.add.ensures.nodes ∙ hub_behind c.args.k old above in
    let more = ap (λ (ks : List ℕ). length ks) grown ∙ length_push old c.args.k in
    let few = few_marked 0 c.add.new.self in
    record {
      within = record {
        size_limit = omega (arith, c.add.ensures.size, c.self.invariant.size_limit);
        hub_limit = few;
        route_limit = rw c.add.ensures.size c.self.invariant.route_limit;
        cost_limit = omega (arith, more, c.self.invariant.cost_limit, c.fixed_cost.ensures.limit);
      };
      count_is = omega (arith, more, c.self.invariant.count_is);
    }

pub returns : goal.returns
returns c =
    let s = c.self.inside in
    let above : All (λ (m : ℕ). m < c.args.k) (marked s.hubs) =
    subst (λ (t : PlanTally). All (λ (m : ℕ). m < c.args.k) t.hubs) (sym c.self.view_is) c.requires.above in
    subst (λ (t : PlanTally). tally_of c.add.new.self s.routed (s.cost + c.fixed_cost.result) ≡ with_hub c.args.instance.now t c.args.k) c.self.view_is
    (hub_added c.args.instance.now c.args.k s.hubs c.add.new.self s.routed s.cost c.fixed_cost.result c.add.ensures.size
    (c.add.ensures.nodes ∙ hub_behind c.args.k (marked s.hubs) above) c.fixed_cost.ensures.value)
