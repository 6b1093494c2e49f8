use Rattle.std.proofs.Common.{None, inl, inr, true≢false, sym, ◌∙◌}
use Rattle.core_cuts.specs.Theorems.{IsAskedSet}
use Rattle.core_cuts.proofs.CoredFunctions.{is_marked, result_marked}
use Rattle.core_cuts.proofs.found_cuts.core_cut.Goals as goal
use Rattle.core_cuts.proofs.found_cuts.core_cut.Goals.{After-may_be_marked}

asked : (c : After-may_be_marked) → IsAskedSet c.args.instance.now c.args.set.now
asked c = record { problem = c.may_be_marked.ensures.problem; set = c.requires.set }

pub returns-then-not-may_be_marked-clause-is : goal.returns-then-not-may_be_marked-clause-is
returns-then-not-may_be_marked-clause-is c =
    let given = asked (goal.at.returns-then-not-may_be_marked-clause-is c).After-may_be_marked in
    is_marked c.args.instance.now c.args.set.now None given tt
    (λ _. inl (λ may. absurd (true≢false (sym (c.may_be_marked.ensures.may.1 may) ∙ c.if-not-may_be_marked.true))))

pub returns-in-Some-clause-is : goal.returns-in-Some-clause-is
returns-in-Some-clause-is c =
    result_marked c.args.instance.now c.args.set.now c.cut_by.result (asked (goal.at.returns-in-Some-clause-is c).After-may_be_marked) c.cut_by.ensures.core
    c.cut_by.ensures.plain

pub returns-in-None-clause-is : goal.returns-in-None-clause-is
returns-in-None-clause-is c =
    is_marked c.args.instance.now c.args.set.now None (asked (goal.at.returns-in-None-clause-is c).After-may_be_marked) tt
    (λ _. inr (inl (c.in_ok-founds.ensures.none c.in-None.is)))
