use Rattle.std.proofs.Common.{◌≡◌, ℕ, ◌+◌, ◌^◌, ◌<◌, ◌≤◌, pos, SFits, to_z, of_z, to_z-of_z, List, length, slice_index, All, ap, sym, subst, ◌∙◌, arith, rules}
use mir.Syntax.{w128}
use Rattle.std.proofs.lemmas.List.Elements.{All-weaker}
use Rattle.hub_spec.specs.Limits.{most_cost}
use Rattle.hub_spec.specs.Separation.{values_listed, minimal_dual}
use Rattle.pareto_cuts.proofs.Columns.{minimal_of}
use Rattle.hub_spec.proofs.Limits.{few_candidates}
use Rattle.hub_model.specs.Prices.{signed_values}
use Rattle.hub_model.proofs.ListedValues.{signed_listed}
use Rattle.pareto_cuts.proofs.DualLists.{value_limit, values_are_listed}
use Rattle.pareto_cuts.proofs.buffers.fill_dual.Goals as goal

pub list_values-requires-clause-nodes : goal.list_values-requires-clause-nodes
list_values-requires-clause-nodes c =
    let is = c.candidates.ensures.separation in
    let s = c.args.separation.now in
    let long : length c.set_values.new.by_node ≡ s.problem.size = omega (arith, c.requires.long, c.set_values.auto.by_node) in
    subst (λ (ks : List ℕ). All (λ k. k < length c.set_values.new.by_node) ks) (sym c.candidates.ensures.value)
    (subst (λ (n : ℕ). All (λ k. k < n) s.problem.candidates) (sym long) is.problem.candidates_are_nodes)

pub list_values-requires-clause-room : goal.list_values-requires-clause-room
list_values-requires-clause-room c =
    let is = c.candidates.ensures.separation in
    let s = c.args.separation.now in
    let same = ap (λ (ks : List ℕ). length ks) c.candidates.ensures.value in
    omega (arith, same, c.requires.pairs_room, few_candidates s.problem.candidates s.problem.size is.problem.candidates_ascend is.problem.candidates_are_nodes)

pub list_values-requires-clause-limit : goal.list_values-requires-clause-limit
list_values-requires-clause-limit c =
    let is = c.candidates.ensures.separation in
    let s = c.args.separation.now in
    let within = value_limit s c.args.i c.args.j c.set_values.new.by_node is c.requires.origin
    c.requires.destination c.set_values.ensures in
    All-weaker (λ (v : ℕ). v ≤ most_cost) (λ (v : ℕ). v < 2 ^ 127) (λ v low. omega (arith, low)) c.set_values.new.by_node within

pub returns-clause-values : goal.returns-clause-values
returns-clause-values c =
    let is = c.candidates.ensures.separation in
    let s = c.args.separation.now in
    let values = c.set_values.new.by_node in
    c.list_values.ensures.are
    ∙ ap (λ (ks : List ℕ). signed_values (values_listed (slice_index values) ks)) c.candidates.ensures.value
    ∙ ap signed_values (values_are_listed s c.args.i c.args.j values is c.requires.origin c.requires.destination c.set_values.ensures)

pub returns-clause-signed : goal.returns-clause-signed
returns-clause-signed c =
    let is = c.candidates.ensures.separation in
    let s = c.args.separation.now in
    let values = c.set_values.new.by_node in
    let d = minimal_dual s.problem s.hubs s.order (c.args.i, s.start + c.args.j) in
    let are : c.list_values.new.list.items ≡ signed_values d.u = c.list_values.ensures.are
    ∙ ap (λ (ks : List ℕ). signed_values (values_listed (slice_index values) ks)) c.candidates.ensures.value
    ∙ ap signed_values (values_are_listed s c.args.i c.args.j values is c.requires.origin c.requires.destination c.set_values.ensures) in
    let price : to_z w128 (of_z w128 c.price_of.result) ≡ pos d.a =
    (let fits : SFits w128 c.price_of.result = search (rules, arith) in to_z-of_z fits ∙ c.price_of.ensures) in
    rw (price, are) (signed_listed d.a d.u (minimal_of s c.args.i c.args.j is c.requires.origin c.requires.destination).listed)
