use Rattle.std.proofs.Common.{ℕ, ◌+◌, ◌*◌, ℤ, SFits, to_z-of_z, List, ap, ap₂, ◌∙◌, arith, rules}
use mir.Syntax.{w128}
use Rattle.hub_spec.specs.Cuts.{Prices}
use Rattle.hub_spec.specs.Problem.{Problem, flow}
use Rattle.hub_spec.specs.Separation.{values_listed}
use Rattle.hub_model.specs.Amounts.{natural}
use Rattle.hub_model.specs.Prices.{natural_values}
use Rattle.hub_model.proofs.ListedValues.{listed_again, values_are_listed, signed_listed}
use Rattle.cut_model.specs.ValueRows.{node_value, value_dual, offset_of}
use Rattle.value_cuts.proofs.duals.DualScratch.make.Goals as goal

pub invariant_of-self : goal.invariant_of-self
invariant_of-self c =
    let p = c.args.tables.now in
    let v : ℕ → ℕ = λ k. c.offset_of-offset.result + c.flow_between-flow.result * node_value p c.args.row.now.unit c.args.row.now.row.now k in
    let fits : SFits w128 c.signed-self-inside.result = search (rules, arith) in
    let price = to_z-of_z fits ∙ c.signed-self-inside.ensures in
    record {
      room = omega (arith, c.self.invariant.room, c.list_values.ensures.room);
      prices = rw (price, c.list_values.ensures.are)
          (signed_listed (c.offset_of-offset.result + c.flow_between-flow.result * c.args.price) (values_listed v p.candidates)
          (values_are_listed v p.candidates c.list_values.ensures.problem.candidates_ascend));
    }

pub returns-clause-dual : goal.returns-clause-dual
unfolding value_dual
returns-clause-dual c =
    let p = c.args.tables.now in
    let w = flow p c.args.i c.args.j in
    let given = c.flow_between-flow.result in
    let offset = c.offset_of-offset.result in
    let whole = offset_of p c.args.offset (c.args.i, c.args.j) in
    let value : ℕ → ℕ = node_value p c.args.row.now.unit c.args.row.now.row.now in
    let fits : SFits w128 c.signed-self-inside.result = search (rules, arith) in
    let made : ℤ → List (ℕ × ℤ) → Prices = λ a u. record { a = natural a; u = natural_values u } in
    let listed : ℕ → ℕ → List (ℕ × ℕ) = λ o f. values_listed (λ k. o + f * value k) p.candidates in
    let same = c.offset_of-offset.ensures.value ∙ ap (λ (q : Problem). offset_of q c.args.offset (c.args.i, c.args.j)) c.instance.ensures.value in
    ap₂ made (to_z-of_z fits ∙ c.signed-self-inside.ensures) c.list_values.ensures.are
    ∙ ap (λ (u : List (ℕ × ℕ)). record { a = offset + given * c.args.price; u = u }) (listed_again (listed offset given))
    ∙ ap₂ (λ (o f : ℕ). record { a = o + f * c.args.price; u = listed o f }) same c.flow_between-flow.ensures.value
    ∙ ap (λ (a : ℕ). record { a = whole + w * a; u = listed whole w }) c.requires.price
