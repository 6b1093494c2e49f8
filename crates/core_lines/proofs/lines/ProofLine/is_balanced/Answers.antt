use Rattle.std.proofs.Common.{ℕ, false, List, refl, sym, ◌∙◌, subst, eq-eqb, arith}
use Rattle.hub_spec.proofs.AllLoops.{neither}
use Rattle.core_spec.specs.CoreCuts.{IsByFlow}
use Rattle.core_lines.specs.Tallies.{carried}
use Rattle.core_lines.specs.Tests.{AreByFlow, IsSumByFlow}
use Rattle.core_lines.proofs.Balances.{AreUnits, level_balances, balances_level, none_balances}
use Rattle.core_lines.proofs.lines.ProofLine.is_balanced.Goals as goal

pub returns-in_default : goal.returns-in_default
returns-in_default c = neither false refl
    (λ all. c.in_default.ensures.none refl (subst (λ (w : ℕ). IsByFlow w c.args.price) (sym c.carried-carried.ensures.value) all.0))

pub returns-in_default-sum_of_units : goal.returns-in_default-sum_of_units
returns-in_default-sum_of_units c = neither false refl
    (λ all. c.in_default-sum_of_units.ensures.none refl
    (subst (λ (w : ℕ). AreByFlow w c.args.values.now c.candidates.result.now) (sym c.carried-carried.ensures.value)
    (subst (λ (nodes : List ℕ). AreByFlow (carried c.args.self.now) c.args.values.now nodes) (sym c.candidates.ensures.value) all.1)))

pub returns-then-carried-eq0 : goal.returns-then-carried-eq0
returns-then-carried-eq0 c =
    let w = c.carried-carried.ensures.value in
    let units : AreUnits c.args.price c.args.values.now c.args.self.now c.in-Some.price_units c.in-Some-sum_of_units.sum = record {
      price_is = rw w at c.in-Some.ensures.some;
      price_by_flow = subst (λ (x : ℕ). IsByFlow x c.args.price) w c.in-Some.ensures.by_flow;
      sum_is = subst (λ (x : ℕ). IsSumByFlow x c.args.values.now c.args.self.now.problem.candidates c.in-Some-sum_of_units.sum) w
          (subst (λ (nodes : List ℕ). IsSumByFlow c.carried-carried.result c.args.values.now nodes c.in-Some-sum_of_units.sum) c.candidates.ensures.value
          c.in-Some-sum_of_units.ensures.some);
    } in (
      λ _. none_balances c.args.hubs.now c.args.part c.args.price c.args.values.now c.args.self.now c.in-Some.price_units c.in-Some-sum_of_units.sum
          c.least_unit-least.result (sym w ∙ c.if-carried-eq0.true) c.least_unit-least.ensures.cost units,
      λ _. eq-eqb c.carried-carried.result 0 c.if-carried-eq0.true,
    )

pub returns-else-carried-eq0 : goal.returns-else-carried-eq0
returns-else-carried-eq0 c =
    let w = c.carried-carried.ensures.value in
    let units : AreUnits c.args.price c.args.values.now c.args.self.now c.in-Some.price_units c.in-Some-sum_of_units.sum = record {
      price_is = rw w at c.in-Some.ensures.some;
      price_by_flow = subst (λ (x : ℕ). IsByFlow x c.args.price) w c.in-Some.ensures.by_flow;
      sum_is = subst (λ (x : ℕ). IsSumByFlow x c.args.values.now c.args.self.now.problem.candidates c.in-Some-sum_of_units.sum) w
          (subst (λ (nodes : List ℕ). IsSumByFlow c.carried-carried.result c.args.values.now nodes c.in-Some-sum_of_units.sum) c.candidates.ensures.value
          c.in-Some-sum_of_units.ensures.some);
    } in (
      λ holds. level_balances c.args.hubs.now c.args.part c.args.price c.args.values.now c.args.self.now c.in-Some.price_units c.in-Some-sum_of_units.sum
          c.least_unit-least.result units c.least_unit-least.ensures.cost (c.are_level.ensures.0 holds),
      λ all. c.are_level.ensures.1 (balances_level c.args.hubs.now c.args.part c.args.price c.args.values.now c.args.self.now c.in-Some.price_units
          c.in-Some-sum_of_units.sum c.least_unit-least.result (omega (arith, w, c.if-carried-eq0.false)) units c.least_unit-least.ensures.cost all),
    )
