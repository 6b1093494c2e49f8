use Rattle.std.proofs.Common.{◌≡◌, ℕ, suc, ◌-◌, List, sym, ap, subst, ◌∙◌, arith}
use Rattle.std.specs.Prelude.{slice_index_or}
use Rattle.core_spec.specs.CoreCuts.{Way}
use Rattle.cert_spec.specs.Lines.{says_proof}
use Rattle.cert_scan.specs.declared.items.Item.{Item}
use Rattle.cert_scan.specs.declared.items.Item.TheVariants.{Proof, ProofPair}
use Rattle.cert_conditions.specs.ListLines.{line_item}
use Rattle.cert_conditions.proofs.list_lines.proof_item.Goals as goal

pub returns-then-at-eq0 : goal.returns-then-at-eq0
returns-then-at-eq0 c =
    let a = c.args in
    subst (λ (t : ℕ). Proof c.turns.result c.scale.result a.last ≡ line_item (says_proof a.proof.now) t a.last) (sym c.if-at-eq0.true)
    (ap (λ (n : ℕ). Proof n c.scale.result a.last) c.turns.ensures ∙ ap (λ (n : ℕ). Proof a.proof.now.turns n a.last) c.scale.ensures)

pub returns : goal.returns
returns c =
    let a = c.args in
    let at = a.at - 1 in
    let more : suc at ≡ a.at = omega (arith, c.if-at-eq0.false) in
    let pair : List Way → Item = λ ways. let way = slice_index_or ways at (0, 0, 0) in ProofPair way.0 way.1 way.2 a.last in
    subst (λ (t : ℕ). pair c.ways.result.now ≡ line_item (says_proof a.proof.now) t a.last) more (ap pair c.ways.ensures)
