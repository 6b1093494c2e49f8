use Rattle.std.proofs.Common.{◌≡◌, ℕ, suc, ◌-◌, sym, ap, subst, ◌∙◌, arith}
use Rattle.std.specs.Prelude.{slice_index_or}
use Rattle.cert_spec.specs.Lines.{says_dual}
use Rattle.cert_scan.specs.declared.items.Item.TheVariants.{Dual, DualPair}
use Rattle.cert_conditions.specs.ListLines.{line_item}
use Rattle.cert_conditions.proofs.list_lines.dual_item.Goals as goal

pub returns-then-at-eq0 : goal.returns-then-at-eq0
returns-then-at-eq0 c =
    let a = c.args in
    subst (λ (t : ℕ). Dual a.commodity.0 a.commodity.1 a.run c.price.result a.last ≡ line_item (says_dual a.commodity a.run a.dual.now) t a.last)
    (sym c.if-at-eq0.true) (ap (λ (p : ℕ). Dual a.commodity.0 a.commodity.1 a.run p a.last) c.price.ensures.value)

pub returns : goal.returns
returns c =
    let a = c.args in
    let more : suc (a.at - 1) ≡ a.at = omega (arith, c.if-at-eq0.false) in
    let found = c.value-k in
    subst (λ (t : ℕ). DualPair found.result.0 found.result.1 a.last ≡ line_item (says_dual a.commodity a.run a.dual.now) t a.last) more
    (ap (λ (k : ℕ). DualPair k found.result.1 a.last) found.ensures.node
    ∙ ap (λ (u : ℕ). DualPair (slice_index_or a.dual.now.u (a.at - 1) (0, 0)).0 u a.last) found.ensures.value)
