use Rattle.std.proofs.Common.{◌≡◌, ℕ, Bool, sym, ap, subst, ◌∙◌}
use Rattle.std.specs.Prelude.{IfSome}
use Rattle.dual_lines.specs.Lines.{ListedDual}
use Rattle.cert_conditions.specs.Sums.{CutTally, last_of}
use Rattle.cert_conditions.specs.Steps.{begun_dual, dual_with, DualEnds, DualGoesOn, IsKnownWith}
use Rattle.cert_conditions.proofs.checks.Checks.take_dual.Goals as goal

pub end_dual-requires-clause-known : goal.end_dual-requires-clause-known
end_dual-requires-clause-known c =
    let s = c.args.self.now in
    let begun : ListedDual = begun_dual s c.args.commodity c.args.run c.args.a in
    let part : c.part-part.result ≡ (last_of s.cuts).part = c.part-part.ensures.part ∙ ap (λ (t : CutTally). t.part) c.last.ensures in
    let listed : c.begin.new.self ≡ begun = c.begin.ensures ∙ ap (λ (e : ℕ). let d : ListedDual = record begun { part = e } in d) part in
    subst (λ (d : ListedDual). IfSome c.args.known (IsKnownWith d)) (sym listed) c.requires.known

pub returns : goal.returns
returns c =
    let s = c.args.self.now in
    let new = c.end_dual.new.self in
    let begun : ListedDual = begun_dual s c.args.commodity c.args.run c.args.a in
    let part : c.part-part.result ≡ (last_of s.cuts).part = c.part-part.ensures.part ∙ ap (λ (t : CutTally). t.part) c.last.ensures in
    let listed : c.begin.new.self ≡ begun = c.begin.ensures ∙ ap (λ (e : ℕ). let d : ListedDual = record begun { part = e } in d) part in
    subst (λ (last : Bool). DualGoesOn last (dual_with s begun) new) (sym c.if-not-last.false)
    (subst (λ (d : ListedDual). DualEnds (dual_with s d) new) listed c.end_dual.ensures)
