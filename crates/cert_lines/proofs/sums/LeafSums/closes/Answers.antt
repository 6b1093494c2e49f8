use Rattle.std.proofs.Common.{ℕ, List, subst}
use Rattle.cert_lines.specs.Trails.{IsReached}
use Rattle.cert_lines.specs.Paths.{next}
use Rattle.cert_lines.proofs.Walking.{reached_branch}
use Rattle.cert_lines.proofs.sums.LeafSums.closes.Goals as goal

pub returns-clause-branch : goal.returns-clause-branch
returns-clause-branch c same =
    reached_branch c.args.instance.now (next c.args.path.now.pending)
    (subst (λ (ks : List ℕ). IsReached ks (next c.args.path.now.pending)) same c.bound.ensures.reached)
