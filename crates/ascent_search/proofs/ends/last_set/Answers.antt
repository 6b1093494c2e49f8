use Rattle.std.proofs.Common.{ℕ, List, Option, Vec, Global, ap, sym, subst, ◌∙◌}
use Rattle.std.specs.Prelude.{option_map}
use Rattle.ascent_search.specs.Ends.{IsLastSet}
use Rattle.ascent_search.proofs.BranchEnds.{only_last, free_left}
use Rattle.ascent_search.proofs.ends.last_set.Goals as goal
use Rattle.ascent_search.proofs.ends.last_set.Goals.{After-deref}

-- the one set that is left, if there is one, as a list
abbrev told : Option (Vec ℕ Global) → Option (List ℕ)
told only = option_map (λ (hubs : Vec ℕ Global). hubs.items) only

pub returns-in-None-clause-some_free : goal.returns-in-None-clause-some_free
returns-in-None-clause-some_free c = λ none.
    free_left c.args.instance.now c.args.branch.now c.only_set.ensures.problem c.requires.branch c.requires.open
    (sym c.in_ok-only.ensures.only ∙ ap told c.in-None.is)

-- the hubs are those of the one set that is left
last : (c : After-deref) → IsLastSet c.args.instance.now c.args.branch.now c.deref.result.now
last c =
    let p = c.args.instance.now in
    let b = c.args.branch.now in
    subst (IsLastSet p b) (sym c.deref.ensures.value)
    (only_last p b c.in-Some.hubs.items c.only_set.ensures.problem c.requires.branch c.requires.open (sym c.in_ok-only.ensures.only ∙ ap told c.in-Some.is))

pub of-requires-clause-some_node : goal.of-requires-clause-some_node
of-requires-clause-some_node c = (last (goal.at.of-requires-clause-some_node c).After-deref).wanted_set.is_set.some_hub

pub of-requires-clause-ascend : goal.of-requires-clause-ascend
of-requires-clause-ascend c = (last (goal.at.of-requires-clause-ascend c).After-deref).wanted_set.is_set.ascend

pub returns-in_ok-of-in-Some-clause-last : goal.returns-in_ok-of-in-Some-clause-last
returns-in_ok-of-in-Some-clause-last c =
    subst (IsLastSet c.args.instance.now c.args.branch.now) (sym c.in_ok-of-in-Some.ensures) (last (goal.at.returns-in_ok-of-in-Some-clause-last c).After-deref)
