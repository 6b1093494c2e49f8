use Rattle.std.proofs.Common.{◌≡◌, ℕ, suc, ◌-◌, refl, sym, subst, arith}
use Rattle.std.specs.Prelude.{slice_index_or}
use Rattle.cert_spec.specs.Lines.{says_marked}
use Rattle.cert_scan.specs.declared.items.Item.TheVariants.{Cut, CoreHub}
use Rattle.cert_conditions.specs.ListLines.{line_item}
use Rattle.cert_conditions.proofs.list_lines.mark_item.Goals as goal

pub returns-then-at-eq0 : goal.returns-then-at-eq0
returns-then-at-eq0 c =
    let a = c.args in
    subst (λ (t : ℕ). Cut a.x a.part a.last ≡ line_item (says_marked a.x a.part a.hubs.now) t a.last) (sym c.if-at-eq0.true) refl

pub returns : goal.returns
returns c =
    let a = c.args in
    let more : suc (a.at - 1) ≡ a.at = omega (arith, c.if-at-eq0.false) in
    subst (λ (t : ℕ). CoreHub (slice_index_or a.hubs.now (a.at - 1) 0) a.last ≡ line_item (says_marked a.x a.part a.hubs.now) t a.last) more refl
