use Rattle.std.proofs.Common.{ℕ, true, false, List, get_or, All, IsTrue, ◌↔◌, refl, subst}
use Rattle.hub_spec.proofs.AllLoops.{all_broken, all_goes_on, all_ended}
use Rattle.hub_spec.proofs.Mixes.{candidate_is_node}
use Rattle.cert_lines.specs.Paths.{next}
use Rattle.cert_lines.specs.Blocks.{IsBlockedBy}
use Rattle.cert_lines.proofs.Blocked.{blocked_by_first, visited}
use Rattle.cert_lines.proofs.paths.TreePath.is_blocked_from.Goals as goal

pub returns-then-is_shut : goal.returns-then-is_shut
returns-then-is_shut c =
    let first = blocked_by_first c.args.instance.now (next c.args.self.now.pending) (c.args.i, c.args.j) c.args.k (c.is_shut.ensures.0 c.if-is_shut.true) in
    (λ h. first, λ all. refl)

pub is_blocked_by-requires-clause-first_node : goal.is_blocked_by-requires-clause-first_node
is_blocked_by-requires-clause-first_node c =
    candidate_is_node c.args.instance.now c.args.k c.candidates-candidates.ensures.problem c.requires.first

pub is_blocked_by-requires-clause-last : goal.is_blocked_by-requires-clause-last
is_blocked_by-requires-clause-last c =
    visited c.args.instance.now c.candidates-candidates.result.now c.loop-m.m-index c.candidates-candidates.ensures.value c.loop-m-test.true

pub is_blocked_by-requires-clause-last_node : goal.is_blocked_by-requires-clause-last_node
is_blocked_by-requires-clause-last_node c =
    candidate_is_node c.args.instance.now (get_or c.candidates-candidates.result.now c.loop-m.m-index 0) c.candidates-candidates.ensures.problem
    (visited c.args.instance.now c.candidates-candidates.result.now c.loop-m.m-index c.candidates-candidates.ensures.value c.loop-m-test.true)

pub loop-m-preserved : goal.loop-m-preserved
loop-m-preserved c =
    let P = IsBlockedBy c.args.instance.now (next c.args.self.now.pending) (c.args.i, c.args.j) c.args.k in
    all_goes_on P c.candidates-candidates.result.now c.loop-m.m-index 0 c.is_blocked_by.result c.loop-m-test.true c.is_blocked_by.ensures
    c.if-not-is_blocked_by.false c.loop-m.invariant

pub returns-then-not-is_blocked_by : goal.returns-then-not-is_blocked_by
returns-then-not-is_blocked_by c =
    let P = IsBlockedBy c.args.instance.now (next c.args.self.now.pending) (c.args.i, c.args.j) c.args.k in
    subst (λ (cs : List ℕ). IsTrue false ↔ All P cs) c.candidates-candidates.ensures.value
    (all_broken P c.candidates-candidates.result.now c.loop-m.m-index 0 c.is_blocked_by.result c.loop-m-test.true c.is_blocked_by.ensures
    c.if-not-is_blocked_by.true)

pub returns : goal.returns
returns c =
    let P = IsBlockedBy c.args.instance.now (next c.args.self.now.pending) (c.args.i, c.args.j) c.args.k in
    subst (λ (cs : List ℕ). IsTrue true ↔ All P cs) c.candidates-candidates.ensures.value
    (all_ended P c.candidates-candidates.result.now c.loop-m.m-index c.loop-m-test.false c.loop-m.invariant)
