use Rattle.std.proofs.Common.{◌≡◌, ℕ, ◌+◌, ◌*◌, ◌<◌, ◌≤◌, List, length, slice_index, ap, sym, ◌∙◌, arith}
use Rattle.std.proofs.lemmas.Nat.{mul-le}
use Rattle.hub_spec.specs.Limits.{most_flow}
use Rattle.hub_spec.specs.Problem.{Problem}
use Rattle.hub_model.proofs.ListedValues.{listed_more}
use Rattle.unit_duals.specs.Limits.{most_length}
use Rattle.hub_model.specs.CandidateLengths.{candidate_at}
use Rattle.cut_model.specs.ValueRows.{node_value}
use Rattle.cut_model.proofs.NodeValues.{worked_value}
use Rattle.value_cuts.proofs.duals.list_values.Goals as goal

pub list_value-requires-clause-limit : goal.list_value-requires-clause-limit
list_value-requires-clause-limit c =
    let low : c.value_of.result ≤ most_length = omega (arith, c.value_of.ensures, c.ceiling-ceiling.ensures.limit) in
    omega (arith, c.requires.offset, mul-le c.args.flow c.value_of.result most_flow most_length c.requires.flow low)

pub loop-x-preserved : goal.loop-x-preserved
loop-x-preserved c =
    let p = c.args.tables.now in
    let x = c.loop-x.x in
    let row = c.args.row.now in
    let k = slice_index c.candidates-candidates.result.now x in
    let v : ℕ → ℕ = λ k. c.args.offset + c.args.flow * node_value p c.args.unit row k in
    let n = c.args.offset + c.args.flow * c.value_of.result in
    let same = c.candidates-candidates.ensures.value ∙ ap (λ (q : Problem). q.candidates) c.instance.ensures.value in
    let within : x < length p.candidates = omega (arith, c.loop-x-test.true, ap (λ (ms : List ℕ). length ms) same) in
    let node : k ≡ candidate_at p x = ap (λ (ms : List ℕ). slice_index ms x) same in
    let value : n ≡ v k =
    ap (λ (a : ℕ). c.args.offset + c.args.flow * a) (worked_value p c.args.unit row x c.ceiling-ceiling.result c.value_of.result c.ceiling-ceiling.ensures.problem
    c.requires.row within c.ceiling-ceiling.ensures.value c.value_of.ensures) ∙ ap v (sym node) in
    record {
      entries = listed_more v p.candidates x k n c.loop-x.u.items c.list_value.new.list.items within node value c.list_value.ensures.are
          c.loop-x.invariant.entries;
      few = omega (arith, c.list_value.ensures.few, c.loop-x.invariant.few);
      room = omega (arith, c.list_value.ensures.room, c.loop-x.invariant.room);
    }
