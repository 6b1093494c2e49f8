use Rattle.std.proofs.Common.{◌≡◌, ◌∙◌, [], List, ℕ, Bool, ap, sym, length, vec_len}
use Rattle.cert_lines.specs.Marks.{marked}
use Rattle.cert_lines.proofs.Marking.{marked-none}
use Rattle.cert_lines.proofs.marks.NodeMarks.clear.Goals as goal

pub returns-clause-none : goal.returns-clause-none
returns-clause-none c = ap (λ (ms : List Bool). marked ms) (c.fill.ensures.items (λ y h. h)) ∙ marked-none 0 (vec_len c.self.inside.marks)

pub invariant_of-self : goal.invariant_of-self
invariant_of-self c =
    let none : marked c.fill.new.self.items ≡ [] = ap (λ (ms : List Bool). marked ms) (c.fill.ensures.items (λ y h. h)) ∙ marked-none 0 (vec_len c.self.inside.marks) in
    sym (ap (λ (ks : List ℕ). length ks) none)
