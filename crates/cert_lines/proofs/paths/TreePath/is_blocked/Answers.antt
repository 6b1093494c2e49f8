use Rattle.std.proofs.Common.{ℕ, true, false, List, All, IsTrue, ◌↔◌, subst}
use Rattle.hub_spec.proofs.AllLoops.{all_broken, all_goes_on, all_ended}
use Rattle.cert_lines.specs.Paths.{next}
use Rattle.cert_lines.specs.Blocks.{IsBlockedFrom}
use Rattle.cert_lines.proofs.Blocked.{visited, blocked_anew}
use Rattle.cert_lines.proofs.paths.TreePath.is_blocked.Goals as goal

pub is_blocked_from-requires-clause-first : goal.is_blocked_from-requires-clause-first
is_blocked_from-requires-clause-first c =
    visited c.args.instance.now c.candidates-candidates.result.now c.loop-k.k-index c.candidates-candidates.ensures.value c.loop-k-test.true

pub loop-k-preserved : goal.loop-k-preserved
loop-k-preserved c =
    let P = IsBlockedFrom c.args.instance.now (next c.args.self.now.pending) (c.args.i, c.args.j) in
    all_goes_on P c.candidates-candidates.result.now c.loop-k.k-index 0 c.is_blocked_from.result c.loop-k-test.true c.is_blocked_from.ensures
    c.if-not-is_blocked_from.false c.loop-k.invariant

pub returns-then-not-is_blocked_from : goal.returns-then-not-is_blocked_from
returns-then-not-is_blocked_from c =
    let p = c.args.instance.now in
    let P = IsBlockedFrom p (next c.args.self.now.pending) (c.args.i, c.args.j) in
    blocked_anew p (next c.args.self.now.pending) (c.args.i, c.args.j) false c.requires.from c.requires.to
    (subst (λ (cs : List ℕ). IsTrue false ↔ All P cs) c.candidates-candidates.ensures.value
    (all_broken P c.candidates-candidates.result.now c.loop-k.k-index 0 c.is_blocked_from.result c.loop-k-test.true c.is_blocked_from.ensures
    c.if-not-is_blocked_from.true))

pub returns : goal.returns
returns c =
    let p = c.args.instance.now in
    let P = IsBlockedFrom p (next c.args.self.now.pending) (c.args.i, c.args.j) in
    blocked_anew p (next c.args.self.now.pending) (c.args.i, c.args.j) true c.requires.from c.requires.to
    (subst (λ (cs : List ℕ). IsTrue true ↔ All P cs) c.candidates-candidates.ensures.value
    (all_ended P c.candidates-candidates.result.now c.loop-k.k-index c.loop-k-test.false c.loop-k.invariant))
