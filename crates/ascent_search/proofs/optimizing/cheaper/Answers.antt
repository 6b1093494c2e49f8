use Rattle.std.proofs.Common.{ℕ, List, subst, sym, arith}
use Rattle.hub_spec.specs.Plans.{IsHubSet, IsSetCost}
use Rattle.ascent_search.proofs.Findings.{first_kept, given_first}
use Rattle.ascent_search.proofs.optimizing.cheaper.Goals as goal

pub cost_of_set-less-requires : goal.cost_of_set-less-requires
cost_of_set-less-requires c =
    subst (IsHubSet c.args.task.now.instance.now) (sym c.members.ensures.value) c.requires.given.wanted.is_set

pub returns-then-less-own : goal.returns-then-less-own
returns-then-less-own c =
    let p = c.args.task.now.instance.now in
    given_first c.args.task.now c.args.own.hubs c.args.given c.args.own.cost c.cost_of_set-less.result c.requires.first c.requires.cost
    c.requires.given.same c.requires.given.wanted
    (subst (λ (hubs : List ℕ). IsSetCost p hubs c.cost_of_set-less.result) c.members.ensures.value c.cost_of_set-less.ensures.value)
    (omega (arith, c.if-less-own.true))

pub returns : goal.returns
returns c =
    let p = c.args.task.now.instance.now in
    first_kept c.args.task.now c.args.own.hubs c.args.own.cost c.cost_of_set-less.result c.requires.first c.requires.cost
    (subst (λ (hubs : List ℕ). IsSetCost p hubs c.cost_of_set-less.result) c.requires.given.same
    (subst (λ (hubs : List ℕ). IsSetCost p hubs c.cost_of_set-less.result) c.members.ensures.value c.cost_of_set-less.ensures.value))
    (omega (arith, c.if-less-own.false))
