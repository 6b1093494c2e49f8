use Rattle.std.proofs.Common.{ℕ, not, Bool, Option, is_some, ap, sym, ◌∙◌}
use Rattle.search_steps.specs.Progressing.{state_of}
use Rattle.branch_tree.proofs.Beginning.{candidates_told, candidate_set, other_way, not_candidates, lacks_some, not_wanted, by_number}
use Rattle.branch_tree.proofs.again.is_tried.Goals as goal

pub returns-then-not-are_among-clause-is : goal.returns-then-not-are_among-clause-is
returns-then-not-are_among-clause-is c =
    let p = c.args.task.now.instance.now in
    let set = c.args.set.now in
    let first = candidates_told p set c.candidates.result.now c.members.result.now c.are_among.result c.candidates.ensures.value c.members.ensures.value
    c.are_among.ensures in
    sym (not_candidates p (state_of p c.args.progress.now) set (first ∙ c.if-not-are_among.true))

pub lacking-requires : goal.lacking-requires
lacking-requires c =
    candidate_set c.args.task.now.instance.now c.args.set.now c.candidates.result.now c.members.result.now c.are_among.result c.candidates.ensures.value
    c.members.ensures.value c.are_among.ensures c.if-not-are_among.false c.members.ensures.ascends

pub returns-then-is_some-clause-is : goal.returns-then-is_some-clause-is
returns-then-is_some-clause-is c =
    let p = c.args.task.now.instance.now in
    let set = c.args.set.now in
    let first = candidates_told p set c.candidates.result.now c.members.result.now c.are_among.result c.candidates.ensures.value c.members.ensures.value
    c.are_among.ensures in
    sym (lacks_some p (state_of p c.args.progress.now) set (first ∙ c.if-not-are_among.false)
    (ap (λ (o : Option (ℕ × ℕ)). is_some o) (sym c.lacking.ensures) ∙ sym c.is_some.ensures ∙ c.if-is_some.true))

pub returns-else-has_wanted-clause-is : goal.returns-else-has_wanted-clause-is
returns-else-has_wanted-clause-is c =
    let p = c.args.task.now.instance.now in
    let set = c.args.set.now in
    let first = candidates_told p set c.candidates.result.now c.members.result.now c.are_among.result c.candidates.ensures.value c.members.ensures.value
    c.are_among.ensures in
    c.if-has_wanted.false ∙ sym (not_wanted p (state_of p c.args.progress.now) set (first ∙ c.if-not-are_among.false)
    (ap (λ (o : Option (ℕ × ℕ)). is_some o) (sym c.lacking.ensures) ∙ sym c.is_some.ensures ∙ c.if-is_some.false)
    (sym c.has_wanted.ensures ∙ c.if-has_wanted.false))

pub returns-then-has_wanted-clause-is : goal.returns-then-has_wanted-clause-is
returns-then-has_wanted-clause-is c =
    let p = c.args.task.now.instance.now in
    let set = c.args.set.now in
    let first = candidates_told p set c.candidates.result.now c.members.result.now c.are_among.result c.candidates.ensures.value c.members.ensures.value
    c.are_among.ensures in
    let number = ap (λ (o : Option ℕ). is_some o) (c.number_of.ensures.number p) in
    other_way (is_some c.number_of.result) c.is_none.result c.is_none.ensures
    ∙ ap (λ (b : Bool). not b) number
    ∙ sym (by_number p (state_of p c.args.progress.now) set (first ∙ c.if-not-are_among.false)
    (ap (λ (o : Option (ℕ × ℕ)). is_some o) (sym c.lacking.ensures) ∙ sym c.is_some.ensures ∙ c.if-is_some.false)
    (sym c.has_wanted.ensures ∙ c.if-has_wanted.true))
