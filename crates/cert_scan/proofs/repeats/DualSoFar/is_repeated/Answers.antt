use Rattle.std.proofs.Common.{Some, None, take, drop, ap, sym, ◌∙◌, nat_le, arith}
use Rattle.std.specs.Prelude.{if◌then◌else◌}
use Rattle.std.proofs.lemmas.List.{length-take-le}
use Rattle.std.proofs.lemmas.Bool.{leb-true, leb-false}
use Rattle.hub_spec.proofs.SumLemmas.{by_test}
use Rattle.cert_scan.specs.Repeats.{is_repeated}
use Rattle.cert_scan.proofs.Leftover.{none_behind, some_behind}
use Rattle.cert_scan.proofs.repeats.DualSoFar.is_repeated.Goals as goal

pub returns-then-self : goal.returns-then-self
returns-then-self c =
    let all = c.self.inside.all in
    let come = c.self.inside.come in
    let pairs = take all c.self.inside.pairs in
    let limits = c.self.invariant in
    let long = length-take-le all c.self.inside.pairs (omega (arith, limits.1, limits.2)) in
    let left = ap (λ b. is_repeated (if b then Some (drop come pairs) else None)) (sym c.if-self.true) ∙ ap (λ s. is_repeated s.left) c.self.view_is in
    by_test (nat_le all come)
    (λ e. e ∙ sym (none_behind pairs come (omega (arith, long, leb-true all come e))) ∙ left)
    (λ e. e ∙ sym (some_behind pairs come (omega (arith, long, leb-false all come e))) ∙ left)
