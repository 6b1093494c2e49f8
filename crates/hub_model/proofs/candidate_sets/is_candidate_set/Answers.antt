use Rattle.std.proofs.Common.{◌<◌, ◌≤◌, length, All, not, ap, sym, ◌∙◌, arith}
use Rattle.std.proofs.lemmas.Bool.{false≢true, OnTrue_from}
use Rattle.std.proofs.lemmas.Bool.Decides.{nat_tests}
use Rattle.std.specs.List.Sorted.{IsStrictlyIncreasing}
use Rattle.hub_model.proofs.CandidateNodes.{among_candidates}
use Rattle.hub_model.proofs.candidate_sets.is_candidate_set.Goals as goal
use Rattle.hub_model.proofs.candidate_sets.is_candidate_set.Goals.{then-not-is_empty, else-not-is_empty}

pub returns-then-ascends-clause-tells : goal.returns-then-ascends-clause-tells
returns-then-ascends-clause-tells c = elim c.if-not-is_empty.branch [
  | then-not-is_empty w ↦
      let some : 1 ≤ length c.args.hubs.now = grind (arith, nat_tests) in
      let ascend : IsStrictlyIncreasing c.args.hubs.now = w.ascends.ensures.0 (sym w.value-is ∙ c.if-ascends.true) in
      let among = rw c.candidates.ensures.value at c.are_among.ensures in (
        λ h. record { some_hub = some; ascend = ascend; are_candidates = among.0 h },
        λ set. among.1 set.are_candidates,
      )
  | else-not-is_empty w ↦ absurd (false≢true (sym (w.value-is ∙ ap not w.if-not-is_empty.false) ∙ c.if-ascends.true))
]

pub returns-then-ascends-clause-nodes : goal.returns-then-ascends-clause-nodes
returns-then-ascends-clause-nodes c =
    let among = rw c.candidates.ensures.value at c.are_among.ensures in
    OnTrue_from c.are_among.result (All (λ k. k < c.args.instance.now.size) c.args.hubs.now)
    (λ h. among_candidates c.args.instance.now c.args.hubs.now c.candidates.ensures.problem (among.0 h))
