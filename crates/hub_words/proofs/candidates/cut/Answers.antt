use Rattle.std.proofs.Common.{◌≡◌, List, ℕ, ◌-◌, ◌∷◌, take, arith, ap, Some, None, sym, subst, ap₂, ◌∙◌}
use Rattle.std.specs.List.{slice_split}
use Rattle.memchr.specs.Find.{IsFirstByte, is_byte}
use Rattle.hub_words.specs.Values.{is_comma}
use Rattle.hub_words.proofs.ListedNodes.{after_comma, cut_at, uncut}
use Rattle.hub_words.proofs.candidates.cut.Goals as goal

pub returns-in_err-at-clause-parts : goal.returns-in_err-at-clause-parts
returns-in_err-at-clause-parts c =
    rw c.from_residual.ensures
    (uncut c.args.text.now (subst (λ (t : List ℕ). IsFirstByte (is_byte 44) t None) c.as_bytes.ensures.value c.in_err-at.ensures))

pub range_from-requires : goal.range_from-requires
range_from-requires c =
    λ _. after_comma c.args.text.now c.in_ok-at.at c.utf8.text
    (subst (λ (t : List ℕ). IsFirstByte (is_byte 44) t (Some c.in_ok-at.at)) c.as_bytes.ensures.value c.in_ok-at.ensures)

pub returns-clause-parts : goal.returns-clause-parts
returns-clause-parts c =
    let whole : c.in_ok-at.at ≡ c.in_ok-at.at - 0 = omega arith in
    cut_at c.args.text.now c.in_ok-at.at
    (subst (λ (t : List ℕ). IsFirstByte (is_byte 44) t (Some c.in_ok-at.at)) c.as_bytes.ensures.value c.in_ok-at.ensures)
    ∙ ap₂ (λ a b. a ∷ slice_split is_comma b) (ap (λ n. take n c.args.text.now) whole ∙ sym c.range.ensures.value) (sym c.range_from.ensures.value)
