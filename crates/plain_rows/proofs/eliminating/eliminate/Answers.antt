use Rattle.std.proofs.Common.{◌≡◌, ◌-ℤ◌, ◌*ℤ◌, ◌≤◌, ◌<◌, ◌∙◌, pos, length, set, unsigned_abs, FitsSigned, sym, ap, subst, arith, rules}
use borrow.Author.Count.{below_more}
use Rattle.std.specs.Int.{w64}
use Rattle.std.proofs.lemmas.Int.{to_z-of_z}
use Rattle.std.proofs.lemmas.List.{get_or-set_same, get_or-set_other, ext_get_or}
use Rattle.std.proofs.lemmas.List.Elements.{All-from_get_or}
use Rattle.frac_rows.specs.Rows.{widest, number, eliminated}
use Rattle.frac_rows.proofs.Divided.{wide_at}
use Rattle.frac_rows.proofs.Linear.{length-eliminated, number-eliminated}
use Rattle.plain_rows.proofs.SmallProducts.{on_err}
use Rattle.plain_rows.proofs.eliminating.eliminate.Goals as goal
use Rattle.plain_rows.proofs.eliminating.eliminate.Goals.{After-narrow_cross}

-- the number that is to come is as it was
kept : (c : After-narrow_cross) → number c.loop-k.row c.loop-k.k ≡ number c.args.row.now c.loop-k.k
kept c = c.loop-k.invariant.rest c.loop-k.k (omega arith)

pub returns-in_err-row-clause-wide : goal.returns-in_err-row-clause-wide
returns-in_err-row-clause-wide c =
    let k = c.loop-k.k in
    let at = goal.at.returns-in_err-row-clause-wide c in
    let x : FitsSigned w64 (number c.loop-k.row k) = search rules in
    let y : FitsSigned w64 (number c.args.base.now k) = search rules in
    let long = length-eliminated c.args.turn.own c.args.row.now c.args.turn.base c.args.base.now (sym c.requires.as_long) in
    on_err c.from_residual.result
    (wide_at (eliminated c.args.turn.own c.args.row.now c.args.turn.base c.args.base.now) k (omega (arith, long, c.loop-k-test.true, c.loop-k.auto.row))
    (subst (λ z. widest < unsigned_abs z)
    (ap (λ z. c.args.turn.own *ℤ z -ℤ c.args.turn.base *ℤ number c.args.base.now k) (kept at.After-narrow_cross)
    ∙ sym (number-eliminated c.args.turn.own c.args.row.now c.args.turn.base c.args.base.now k (sym c.requires.as_long)))
    (rw (to_z-of_z w64 (number c.loop-k.row k) x, to_z-of_z w64 (number c.args.base.now k) y) at c.in_err-row.ensures.wide)))

pub loop-k-preserved : goal.loop-k-preserved
loop-k-preserved c =
    let k = c.loop-k.k in
    let z = c.in_ok-row.field-0 in
    let at = goal.at.loop-k-preserved c in
    let x : FitsSigned w64 (number c.loop-k.row k) = search rules in
    let y : FitsSigned w64 (number c.args.base.now k) = search rules in
    let fits : FitsSigned w64 z = search rules in
    let low : k < length c.loop-k.row = omega (arith, c.loop-k-test.true, c.loop-k.auto.row) in
    let value : z ≡ c.args.turn.own *ℤ number c.args.row.now k -ℤ c.args.turn.base *ℤ number c.args.base.now k =
    (rw (to_z-of_z w64 (number c.loop-k.row k) x, to_z-of_z w64 (number c.args.base.now k) y) at c.in_ok-row.ensures.value)
    ∙ ap (λ n. c.args.turn.own *ℤ n -ℤ c.args.turn.base *ℤ number c.args.base.now k) (kept at.After-narrow_cross) in
    rw (to_z-of_z w64 z fits)
    (record {
      done =
          below_more
          (λ j. number (set c.loop-k.row k z) j ≡ c.args.turn.own *ℤ number c.args.row.now j -ℤ c.args.turn.base *ℤ number c.args.base.now j) k
          (λ j l. get_or-set_other c.loop-k.row k j z (pos 0) (omega (arith, l)) ∙ c.loop-k.invariant.done j l)
          (get_or-set_same c.loop-k.row k z (pos 0) low ∙ value);
      size =
          below_more (λ j. unsigned_abs (number (set c.loop-k.row k z) j) ≤ widest) k
          (λ j l. subst (λ n. unsigned_abs n ≤ widest) (sym (get_or-set_other c.loop-k.row k j z (pos 0) (omega (arith, l)))) (c.loop-k.invariant.size j l))
          (subst (λ n. unsigned_abs n ≤ widest) (sym (get_or-set_same c.loop-k.row k z (pos 0) low)) c.in_ok-row.ensures.size);
      rest = λ j more. get_or-set_other c.loop-k.row k j z (pos 0) (omega (arith, more)) ∙ c.loop-k.invariant.rest j (omega (arith, more));
    })

pub returns-clause-row : goal.returns-clause-row
returns-clause-row c =
    let long = length-eliminated c.args.turn.own c.args.row.now c.args.turn.base c.args.base.now (sym c.requires.as_long) in
    ext_get_or (pos 0) c.loop-k.row (eliminated c.args.turn.own c.args.row.now c.args.turn.base c.args.base.now) (c.loop-k.auto.row ∙ sym long)
    (λ j l.
    c.loop-k.invariant.done j (omega (arith, l, c.loop-k-test.false, c.loop-k.auto.row))
    ∙ sym (number-eliminated c.args.turn.own c.args.row.now c.args.turn.base c.args.base.now j (sym c.requires.as_long)))

pub returns-clause-kept : goal.returns-clause-kept
returns-clause-kept c =
    All-from_get_or (λ n. unsigned_abs n ≤ widest) c.loop-k.row (pos 0)
    (λ j l. c.loop-k.invariant.size j (omega (arith, l, c.loop-k-test.false, c.loop-k.auto.row)))
