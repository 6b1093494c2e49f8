use Rattle.std.proofs.Common.{◌≡◌, ℕ, ◌*◌, ◌≤◌, ◌↔◌, IsTrue, List, slice_index, All, true≢false, subst, sym, ap, ◌∙◌, arith}
use Rattle.std.proofs.lemmas.Bool.{lt-leb}
use Rattle.std.proofs.lemmas.List.Elements.{All-weaker}
use Rattle.hub_spec.specs.Cuts.{load}
use Rattle.hub_spec.specs.Limits.{most_cost}
use Rattle.core_cuts.proofs.brought_cuts.is_within_sums.Goals as goal
use Rattle.core_cuts.proofs.brought_cuts.is_within_sums.Goals.{then-total-most, else-total-most}

pub returns : goal.returns
returns c =
    let p = c.args.instance.now in
    let cut = c.args.cut.now in
    let loads = c.in_ok-loads.loads.items in
    let most = c.part.result * most_cost in
    let same : most ≡ cut.part * most_cost = ap (λ (n : ℕ). n * most_cost) c.part.ensures in
    elim c.if-total-most.branch [
      | then-total-most w ↦
          let by_candidates = subst (λ (ks : List ℕ). IsTrue w.are_loads_within.result ↔ All (λ k. slice_index w.deref.result.now k ≤ most) ks)
          w.candidates.ensures.value w.are_loads_within.ensures in
          let by_loads = subst (λ (xs : List ℕ). IsTrue w.are_loads_within.result ↔ All (λ k. slice_index xs k ≤ most) p.candidates) w.deref.ensures.value
          by_candidates in (
            λ yes. record {
              total_limit = omega (arith, same, c.total.ensures, w.if-total-most.true);
              load_limit = All-weaker (λ k. slice_index loads k ≤ most) (λ k. load cut k ≤ cut.part * most_cost)
                  (λ k l. omega (arith, l, same, c.in_ok-loads.ensures.are k)) p.candidates (by_loads.0 (sym w.result-is ∙ yes));
            },
            λ within. w.result-is ∙ by_loads.1 (All-weaker (λ k. load cut k ≤ cut.part * most_cost) (λ k. slice_index loads k ≤ most)
                (λ k l. omega (arith, l, same, c.in_ok-loads.ensures.are k)) p.candidates within.load_limit),
          )
      | else-total-most w ↦ (
        λ yes. absurd (true≢false (sym yes ∙ w.result-is ∙ lt-leb c.total.result most w.if-total-most.false)),
        λ within. absurd (omega (arith, same, c.total.ensures, w.if-total-most.false, within.total_limit)),
      )
    ]
