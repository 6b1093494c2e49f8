use Rattle.std.proofs.Common.{◌≡◌, ℕ, suc, ◌-◌, refl, sym, ap, subst, arith}
use Rattle.cert_spec.specs.Lines.{says_tree}
use Rattle.hub_spec.specs.Trees.{leaf_of}
use Rattle.cert_scan.specs.declared.items.Item.TheVariants.{Leaf, LeafPair}
use Rattle.cert_conditions.specs.ListLines.{line_item}
use Rattle.cert_conditions.proofs.list_lines.leaf_item.Goals as goal

pub returns-then-at-eq0 : goal.returns-then-at-eq0
returns-then-at-eq0 c =
    let a = c.args in
    subst (λ (t : ℕ). Leaf a.denom a.last ≡ line_item (says_tree (leaf_of a.denom a.mix.now.weights)) t a.last) (sym c.if-at-eq0.true) refl

pub returns : goal.returns
returns c =
    let a = c.args in
    let more : suc (a.at - 1) ≡ a.at = omega (arith, c.if-at-eq0.false) in
    let found = c.weight-c.result in
    subst (λ (t : ℕ). LeafPair found.0 found.1 a.last ≡ line_item (says_tree (leaf_of a.denom a.mix.now.weights)) t a.last) more
    (ap (λ (e : ℕ × ℕ). LeafPair e.0 e.1 a.last) c.weight-c.ensures)
