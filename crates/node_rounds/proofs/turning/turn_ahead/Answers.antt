use Rattle.std.proofs.Common.{List, ℕ, sym, subst, ◌∙◌}
use Rattle.hub_spec.specs.Plans.{IsHubSet}
use Rattle.hub_spec.specs.Separation.{IsOrder}
use Rattle.cut_pool.specs.Entries.{entry_of}
use Rattle.search_steps.specs.Pools.{IsSumsOf}
use Rattle.node_rounds.specs.Outcomes.{IsTurnOf, IsOutcomeOf}
use Rattle.node_rounds.proofs.turning.turn_ahead.Goals as goal

pub sums-requires-clause-set : goal.sums-requires-clause-set
sums-requires-clause-set c =
    let p = c.args.instance.now in
    let outcome = subst (IsOutcomeOf p c.args.pool.now.entries c.args.node.now) c.in-Ask.is c.in_ok-outcome.ensures.sound in
    subst (IsHubSet p) (sym c.in_ok-asked-in-Ask.ensures) outcome.0

pub sums-requires-clause-order : goal.sums-requires-clause-order
sums-requires-clause-order c =
    let p = c.args.instance.now in
    let outcome = subst (IsOutcomeOf p c.args.pool.now.entries c.args.node.now) c.in-Ask.is c.in_ok-outcome.ensures.sound in
    subst (λ (ks : List ℕ). IsOrder p ks c.deref.result.now) (sym c.in_ok-asked-in-Ask.ensures)
    (subst (IsOrder p c.in-Ask.set) (sym c.deref.ensures.value) outcome.1)

pub returns-in_ok-sums-in-Ask-clause-turn : goal.returns-in_ok-sums-in-Ask-clause-turn
returns-in_ok-sums-in-Ask-clause-turn c =
    subst (IsTurnOf c.args.instance.now c.args.pool.now.entries c.args.cost c.args.node.now) c.in-Ask.is c.in_ok-outcome.ensures.turn

pub returns-in_ok-sums-in-Ask-clause-sound : goal.returns-in_ok-sums-in-Ask-clause-sound
returns-in_ok-sums-in-Ask-clause-sound c =
    let p = c.args.instance.now in
    let outcome = subst (IsOutcomeOf p c.args.pool.now.entries c.args.node.now) c.in-Ask.is c.in_ok-outcome.ensures.sound in (
      outcome.0,
      outcome.1,
      outcome.2,
      outcome.3,
      record {
        hubs = c.in_ok-sums-in-Ask.ensures.hubs ∙ c.in_ok-asked-in-Ask.ensures;
        is = subst (λ (os : List ℕ). IsSumsOf p (entry_of c.in_ok-sums-in-Ask.sums os)) c.deref.ensures.value c.in_ok-sums-in-Ask.ensures.sums;
      },
    )
