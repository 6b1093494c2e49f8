use Rattle.std.proofs.Common.{Some, None, sym, ap, subst, ◌∙◌}
use Rattle.hub_spec.specs.Trees.{preorder}
use Rattle.std.specs.Prelude.{option_map}
use Rattle.hub_spec.specs.Plans.{IsCandidateSet}
use Rattle.hub_spec.specs.Lacking.{lacking}
use Rattle.search_spec.proofs.Nodes.{none_there}
use Rattle.p_hub.proofs.NumberChoices.{some_open}
use Rattle.p_hub.proofs.OpenBranches.{open_set, never_blocked, block_line}
use Rattle.p_hub.proofs.openings.blocked_line.Goals as goal

pub returns-then-is_none : goal.returns-then-is_none
returns-then-is_none c =
    let p = c.args.instance.now in
    let b = c.args.branch.now in
    sym (ap (option_map preorder) (never_blocked p b (sym c.length_limit.ensures.value ∙ none_there c.length_limit.result c.if-is_none.ensures)
    (some_open p b c.length_limit.ensures.problem c.requires.no_end)))

pub lacking-requires : goal.lacking-requires
lacking-requires c =
    let p = c.args.instance.now in
    let b = c.args.branch.now in
    subst (IsCandidateSet p) (sym (c.deref.ensures.value ∙ c.in_ok-open.ensures))
    (open_set p b c.requires.branch (some_open p b c.length_limit.ensures.problem c.requires.no_end))

pub returns-in_default : goal.returns-in_default
returns-in_default c =
    let p = c.args.instance.now in
    block_line p c.args.branch.now None
    (sym c.in_default.is ∙ c.lacking.ensures ∙ ap (lacking p) (c.deref.ensures.value ∙ c.in_ok-open.ensures))

pub returns : goal.returns
returns c =
    let p = c.args.instance.now in
    block_line p c.args.branch.now (Some (c.in-Some.i, c.in-Some.j))
    (sym c.in-Some.is ∙ c.lacking.ensures ∙ ap (lacking p) (c.deref.ensures.value ∙ c.in_ok-open.ensures))
