use Rattle.std.proofs.Common.{ℕ, ◌<◌, subst, sym}
use Rattle.core_lines.proofs.LengthLimits.{few_are_hubs, hubs_are_nodes}
use Rattle.std.proofs.lemmas.List.Elements.{All-weaker}
use Rattle.core_lines.proofs.lines.ProofLine.sum_at.Goals as goal

pub sum_of-requires-clause-nodes : goal.sum_of-requires-clause-nodes
sum_of-requires-clause-nodes c =
    All-weaker (λ (k : ℕ). k < c.args.self.now.problem.size) (λ k. _) (λ k h. subst (λ (n : ℕ). k < n) (sym c.requires.long) h) c.args.hubs.now
    (hubs_are_nodes c.args.self.now.problem c.args.hubs.now c.problem.ensures c.requires.set)

pub sum_of-requires-clause-few : goal.sum_of-requires-clause-few
sum_of-requires-clause-few c = few_are_hubs c.args.self.now.problem c.args.hubs.now c.problem.ensures c.requires.set
