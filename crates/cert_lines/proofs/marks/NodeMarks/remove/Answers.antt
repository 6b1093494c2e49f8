use Rattle.std.proofs.Common.{ap, length, List, ℕ, Contains, arith}
use Rattle.cert_lines.specs.Marks.{marked}
use Rattle.cert_lines.proofs.Marking.{marked_after_unset, marked_within, length-without}
use Rattle.cert_lines.proofs.marks.NodeMarks.remove.Goals as goal

pub index_mut-requires : goal.index_mut-requires
index_mut-requires c =
    let here : Contains (marked c.self.inside.marks.items) c.args.k = rw c.self.view_is c.requires in
    omega (arith, marked_within c.self.inside.marks.items c.args.k here)

pub returns-clause-nodes : goal.returns-clause-nodes
returns-clause-nodes c = rw (← c.self.view_is) (marked_after_unset c.self.inside.marks.items c.args.k (rw c.self.view_is c.requires))

pub invariant_of-self : goal.invariant_of-self
invariant_of-self c =
    let here : Contains (marked c.self.inside.marks.items) c.args.k = rw c.self.view_is c.requires in
    let nodes = marked_after_unset c.self.inside.marks.items c.args.k here in
    omega (arith, ap (λ (ks : List ℕ). length ks) nodes, length-without c.args.k (marked c.self.inside.marks.items) here, c.self.invariant)
