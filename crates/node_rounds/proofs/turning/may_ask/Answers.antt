use Rattle.std.proofs.Common.{ℕ, Option, nat_lt, is_some, refl, ap, sym, ◌∙◌}
use Rattle.search_spec.specs.States.{number_in_pool}
use Rattle.search_steps.specs.Pools.{state_by}
use Rattle.search_steps.proofs.GivenPools.{find_is_number}
use Rattle.node_rounds.proofs.TurnCases.{known_asks, new_asks}
use Rattle.node_rounds.proofs.turning.may_ask.Goals as goal

pub returns-then-is_some : goal.returns-then-is_some
returns-then-is_some c = λ p hubs cost made stop.
    let entries = c.args.pool.now.entries in
    let number = find_is_number p entries c.args.set.now hubs cost made stop c.find.result c.find.ensures.some c.find.ensures.only c.find.ensures.none in
    let known = ap (λ (o : Option ℕ). is_some o) (sym number) ∙ sym c.is_some.ensures ∙ c.if-is_some.true in
    known_asks (number_in_pool (state_by p entries hubs cost made stop) c.args.set.now) (nat_lt c.args.node.now.waits 2) known

pub returns : goal.returns
returns c = λ p hubs cost made stop.
    let entries = c.args.pool.now.entries in
    let number = find_is_number p entries c.args.set.now hubs cost made stop c.find.result c.find.ensures.some c.find.ensures.only c.find.ensures.none in
    let unknown = ap (λ (o : Option ℕ). is_some o) (sym number) ∙ sym c.is_some.ensures ∙ c.if-is_some.false in
    new_asks (number_in_pool (state_by p entries hubs cost made stop) c.args.set.now) (nat_lt c.args.node.now.waits 2)
    (nat_lt c.args.node.now.waits 2) unknown refl
