use Rattle.std.proofs.Common.{◌≡◌, ◌∙◌, [], List, ℕ, Bool, ap, sym, length}
use Rattle.cert_lines.specs.Marks.{marked}
use Rattle.cert_lines.proofs.Marking.{marked-none}
use Rattle.cert_lines.proofs.marks.NodeMarks.new.Goals as goal

pub returns-clause-none : goal.returns-clause-none
returns-clause-none c = ap (λ (ms : List Bool). marked ms) (c.in_ok-vec.ensures.items_if_clones_equal (λ y h. h)) ∙ marked-none 0 c.args.size

pub invariant_of-result : goal.invariant_of-result
invariant_of-result c =
    let none : marked c.in_ok-vec.field-0.items ≡ [] = ap (λ (ms : List Bool). marked ms) (c.in_ok-vec.ensures.items_if_clones_equal (λ y h. h)) ∙ marked-none 0 c.args.size in
    sym (ap (λ (ks : List ℕ). length ks) none)
