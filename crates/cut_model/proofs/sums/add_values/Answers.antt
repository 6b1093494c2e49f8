use Rattle.std.proofs.Common.{◌≡◌, ℕ, ◌+◌, ◌*◌, ◌^◌, ◌≤◌, ◌<◌, List, length, map, get_or, sym, ap, ap₂, subst, ◌∙◌, rules, arith}
use Rattle.std.proofs.Math.Nat.{mul-le-mul}
use Rattle.std.specs.List.Sorted.{IsStrictlyIncreasing}
use Rattle.std.proofs.lemmas.List.{take_all}
use Rattle.std.proofs.lemmas.List.Elements.{All-get_or}
use Rattle.hub_spec.specs.Cuts.{value_at}
use Rattle.hub_spec.specs.Ranges.{IsAmount}
use Rattle.cut_model.specs.Totals.{most_duals}
use Rattle.cut_model.proofs.DualEntries.{load_limit, loaded_more}
use Rattle.cut_model.proofs.RunSums.{as_often, value_as_often, nodes_as_often, length_as_often, entry_as_often}
use Rattle.cut_model.proofs.sums.add_values.Goals as goal
use Rattle.cut_model.proofs.sums.add_values.Goals.{After-from}

-- the entry whose turn it is, as often
entry : (c : After-from) → get_or (as_often c.args.many c.args.dual.now.u) c.loop-at.at (0, 0) ≡ (c.value-k.result.0, c.from.result * c.value-k.result.1)
entry c =
    entry_as_often c.args.many c.args.dual.now.u c.loop-at.at (omega arith)
    ∙ ap₂ (λ (k v : ℕ). (k, v)) (sym c.value-k.ensures.node) (ap₂ (λ (a b : ℕ). a * b) (sym c.from.ensures) (sym c.value-k.ensures.value))

ascends : (c : After-from) → IsStrictlyIncreasing (map (λ (e : ℕ × ℕ). e.0) (as_often c.args.many c.args.dual.now.u))
ascends c = subst IsStrictlyIncreasing (sym (nodes_as_often c.args.many c.args.dual.now.u)) c.requires.dual.ascend

inside : (c : After-from) → c.loop-at.at < length (as_often c.args.many c.args.dual.now.u)
inside c = omega (arith, length_as_often c.args.many c.args.dual.now.u)

node : (c : After-from) → c.value-k.result.0 ≡ (get_or (as_often c.args.many c.args.dual.now.u) c.loop-at.at (0, 0)).0
node c = sym (ap (λ (e : ℕ × ℕ). e.0) (entry c))

pub overflow_add-loads : goal.overflow_add-loads
overflow_add-loads c =
    let before = (goal.at.overflow_add-loads c).After-from in
    let short = All-get_or (λ (e : ℕ × ℕ). (e.0 < length c.args.loads.now) × (1 ≤ e.1) × IsAmount e.1) c.args.dual.now.u c.loop-at.at (0, 0) (omega arith) c.requires.dual.each in
    let value : c.value-k.result.1 ≤ 10 ^ 33 = omega (arith, c.value-k.ensures.value, short.2) in
    let times : c.from.result ≤ most_duals = omega (arith, c.from.ensures, c.requires.few) in
    let product = mul-le-mul times value in
    omega (
      arith,
      product,
      load_limit (as_often c.args.many c.args.dual.now.u) c.args.loads.now c.loop-at.loads c.loop-at.at c.value-k.result.0 (ascends before) (inside before)
          (node before) (omega arith) c.requires.most c.loop-at.invariant.each,
    )

pub loop-at-preserved : goal.loop-at-preserved
loop-at-preserved c =
    let before = (goal.at.loop-at-preserved c).After-from in
    record {
      long = search rules;
      each = loaded_more (as_often c.args.many c.args.dual.now.u) c.args.loads.now c.loop-at.loads c.loop-at.at c.value-k.result.0 _ (ascends before) (inside before)
          (node before) (omega arith) (ap (λ (e : ℕ × ℕ). get_or c.loop-at.loads c.value-k.result.0 0 + e.1) (sym (entry before))) c.loop-at.invariant.each;
    }

pub returns : goal.returns
returns c = λ k.
    c.loop-at.invariant.each k
    ∙ ap (λ v. get_or c.args.loads.now k 0 + v)
    (ap (λ (u : List (ℕ × ℕ)). value_at u k) (take_all c.loop-at.at (as_often c.args.many c.args.dual.now.u)
    (omega (arith, length_as_often c.args.many c.args.dual.now.u)))
    ∙ value_as_often c.args.many c.args.dual.now.u k)
