use Rattle.std.proofs.Common.{ℕ, ◌<◌, List, slice_index_or, All, ap, sym, subst, arith}
use Rattle.cert_checker.proofs.Listed.{all_below}
use Rattle.cert_checker.proofs.older.list_dual.Goals as goal

pub list-requires-clause-above : goal.list-requires-clause-above
list-requires-clause-above c =
    let u = c.args.dual.now.u in
    subst (λ (m : ℕ). All (λ (e : ℕ × ℕ). e.0 < m) c.loop-at.line.dual.u) (sym c.value-k.ensures.node)
    (subst (λ (l : List (ℕ × ℕ)). All (λ (e : ℕ × ℕ). e.0 < (slice_index_or u c.loop-at.at (0, 0)).0) l) (sym (ap (λ d. d.dual.u) c.loop-at.invariant))
    (all_below u c.requires.dual.ascend c.loop-at.at (omega (arith, c.loop-at-test.true, c.count-at-end.ensures.value))))
