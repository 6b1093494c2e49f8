use Rattle.std.proofs.Common.{rules, arith, sym, subst, Contains}
use Rattle.hub_spec.specs.Trees.{IsBranch}
use Rattle.hub_spec.proofs.ChildLists.{open_branch, closed_branch}
use Rattle.test_workers.proofs.rounds.child.Goals as goal

pub returns-in_ok-open_child-in-In : goal.returns-in_ok-open_child-in-In
returns-in_ok-open_child-in-In c =
    let p = c.args.instance.now in
    let b = c.args.branch.now in
    let free : Contains b.free c.args.k = search (rules, arith) in
    subst (IsBranch p) (sym c.in_ok-open_child-in-In.ensures) (open_branch p b c.args.k c.requires free)

pub returns-in_ok-closed_child-in-Out : goal.returns-in_ok-closed_child-in-Out
returns-in_ok-closed_child-in-Out c =
    let p = c.args.instance.now in
    let b = c.args.branch.now in
    let free : Contains b.free c.args.k = search (rules, arith) in
    subst (IsBranch p) (sym c.in_ok-closed_child-in-Out.ensures) (closed_branch p b c.args.k c.requires free)
