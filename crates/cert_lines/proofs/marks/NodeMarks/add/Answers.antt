use Rattle.std.proofs.Common.{ap, length, List, ℕ, arith, rules}
use Rattle.cert_lines.specs.Marks.{marked}
use Rattle.cert_lines.proofs.Marking.{marked_after_set, length-with_node, few_marked}
use Rattle.cert_lines.proofs.marks.NodeMarks.add.Goals as goal

pub overflow_add-self : goal.overflow_add-self
overflow_add-self c = search (rules, few_marked 0 c.self.inside.marks.items, length-with_node)

pub returns-clause-nodes : goal.returns-clause-nodes
returns-clause-nodes c = rw (← c.self.view_is) (marked_after_set c.self.inside.marks.items c.args.k (rw c.self.view_is c.requires.new) (rw c.self.view_is c.requires.room))

pub invariant_of-self : goal.invariant_of-self
invariant_of-self c =
    let nodes = marked_after_set c.self.inside.marks.items c.args.k (rw c.self.view_is c.requires.new) (rw c.self.view_is c.requires.room) in
    omega (arith, ap (λ (ks : List ℕ). length ks) nodes, length-with_node c.args.k (marked c.self.inside.marks.items), c.self.invariant)
