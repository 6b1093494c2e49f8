use Rattle.std.proofs.Common.{◌≡◌, ◌<◌, ◌≤◌, ◌*ℤ◌, ◌-ℤ◌, ◌∙◌, pos, true, unsigned_abs, OnOk, OnErr, FitsSigned, sym, ap, subst, arith, rules}
use Rattle.std.specs.Int.{w64, w128}
use Rattle.std.proofs.lemmas.Int.{ints, to_z-of_z}
use Rattle.frac_rows.specs.Divisors.{quotient, reduced}
use Rattle.frac_rows.specs.Rows.{number, eliminated, is_wide_row, widest}
use Rattle.std.proofs.lemmas.List.{get_or-set_other}
use Rattle.frac_rows.proofs.Divided.{narrow_at, reduced_at, reduces_more, reduced_all, reduced_narrow, reduced_wide}
use Rattle.plain_rows.proofs.ReducedRows.{is_reduced, undivided}
use Rattle.plain_rows.proofs.eliminating.reduce.Goals as goal
use Rattle.plain_rows.proofs.eliminating.reduce.Goals.{After-unsigned_abs}

pub returns-then-divisor-eq1-clause-row : goal.returns-then-divisor-eq1-clause-row
returns-then-divisor-eq1-clause-row c =
    let z = eliminated c.args.turn.own c.args.row.now c.args.turn.base c.args.base.now in
    subst (λ x. OnOk c.eliminate.result (c.eliminate.new.row ≡ x))
    (sym (undivided z c.common_divisor-divisor.result c.if-divisor-eq1.true c.common_divisor-divisor.ensures.value)) c.eliminate.ensures.row

pub returns-then-divisor-eq1-clause-wide : goal.returns-then-divisor-eq1-clause-wide
returns-then-divisor-eq1-clause-wide c =
    let z = eliminated c.args.turn.own c.args.row.now c.args.turn.base c.args.base.now in
    subst (λ x. OnErr c.eliminate.result (is_wide_row x ≡ true))
    (sym (undivided z c.common_divisor-divisor.result c.if-divisor-eq1.true c.common_divisor-divisor.ensures.value)) c.eliminate.ensures.wide

-- what was computed for the place of this turn
at_place : (c : After-unsigned_abs) → c.quotient-number.result ≡ number (reduced (eliminated c.args.turn.own c.args.row.now c.args.turn.base c.args.base.now)) c.loop-k.k
at_place c =
    let k = c.loop-k.k in
    let x : FitsSigned w64 (number c.loop-k.row k) = search rules in
    let y : FitsSigned w64 (number c.args.base.now k) = search rules in
    let kept : number c.loop-k.row k ≡ number c.args.row.now k = c.loop-k.invariant.rest k (omega arith) in
    let value : c.cross.result ≡ c.args.turn.own *ℤ number c.args.row.now k -ℤ c.args.turn.base *ℤ number c.args.base.now k =
    (simp to_z-of_z at c.cross.ensures.value) ∙ ap (λ z. c.args.turn.own *ℤ z -ℤ c.args.turn.base *ℤ number c.args.base.now k) kept in
    let fits : FitsSigned w128 c.cross.result = search rules in
    let is : c.quotient-number.result ≡ quotient c.cross.result c.common_divisor-divisor.result = simp to_z-of_z at c.quotient-number.ensures in
    reduced_at c.args.turn.own c.args.row.now c.args.turn.base c.args.base.now k c.common_divisor-divisor.result c.cross.result c.quotient-number.result
    c.requires.as_long (omega (arith, c.loop-k-test.true, c.loop-k.auto.row)) c.common_divisor-divisor.ensures.value value is

pub returns-then-unsigned_abs-from-clause-wide : goal.returns-then-unsigned_abs-from-clause-wide
returns-then-unsigned_abs-from-clause-wide c =
    let fits : FitsSigned w128 c.quotient-number.result = search rules in
    let size : c.unsigned_abs.result ≡ unsigned_abs c.quotient-number.result = simp to_z-of_z at c.unsigned_abs.ensures.value in
    let wide : widest < unsigned_abs c.quotient-number.result = omega (arith, size, c.from.ensures, c.if-unsigned_abs-from.true) in
    sym (reduced_wide c.args.turn.own c.args.row.now c.args.turn.base c.args.base.now c.loop-k.k c.quotient-number.result
    c.requires.as_long (omega (arith, c.loop-k-test.true, c.loop-k.auto.row)) (at_place (goal.at.returns-then-unsigned_abs-from-clause-wide c).After-unsigned_abs) wide)

-- the row is as it was at the places that are to come
pub cross-requires-clause-x_limit : goal.cross-requires-clause-x_limit
cross-requires-clause-x_limit c =
    let k = c.loop-k.k in
    let x : FitsSigned w64 (number c.loop-k.row k) = search rules in
    let kept : number c.loop-k.row k ≡ number c.args.row.now k = c.loop-k.invariant.rest k (omega arith) in
    rw (to_z-of_z w64 (number c.loop-k.row k) x)
    (subst (λ z. unsigned_abs z ≤ widest) (sym kept) (narrow_at c.args.row.now k c.requires.narrow))

pub loop-k-preserved : goal.loop-k-preserved
loop-k-preserved c =
    let k = c.loop-k.k in
    let fits : FitsSigned w128 c.quotient-number.result = search rules in
    let size : c.unsigned_abs.result ≡ unsigned_abs c.quotient-number.result = simp to_z-of_z at c.unsigned_abs.ensures.value in
    let narrow : unsigned_abs c.quotient-number.result ≤ widest = omega (arith, size, c.from.ensures, c.if-unsigned_abs-from.false) in
    let small : FitsSigned w64 c.quotient-number.result = omega (arith, ints) in
    rw (to_z-of_z w128 c.quotient-number.result fits, to_z-of_z w64 c.quotient-number.result small)
    (record {
      done =
          reduces_more c.args.turn.own c.args.row.now c.args.turn.base c.args.base.now c.loop-k.row k c.quotient-number.result
          (omega (arith, c.loop-k-test.true, c.loop-k.auto.row)) c.loop-k.invariant.done (at_place (goal.at.loop-k-preserved c).After-unsigned_abs) narrow;
      rest =
          λ j more.
          get_or-set_other c.loop-k.row k j c.quotient-number.result (pos 0) (omega (arith, more)) ∙ c.loop-k.invariant.rest j (omega (arith, more));
    })

pub returns-clause-row : goal.returns-clause-row
returns-clause-row c =
    reduced_all c.args.turn.own c.args.row.now c.args.turn.base c.args.base.now c.loop-k.row c.requires.as_long
    (omega (arith, c.loop-k.auto.row)) (λ k low. c.loop-k.invariant.done k (omega (arith, low, c.loop-k-test.false, c.loop-k.auto.row)))

pub returns-clause-kept : goal.returns-clause-kept
returns-clause-kept c =
    is_reduced (eliminated c.args.turn.own c.args.row.now c.args.turn.base c.args.base.now) c.loop-k.row
    (reduced_all c.args.turn.own c.args.row.now c.args.turn.base c.args.base.now c.loop-k.row c.requires.as_long
    (omega (arith, c.loop-k.auto.row)) (λ k low. c.loop-k.invariant.done k (omega (arith, low, c.loop-k-test.false, c.loop-k.auto.row))))
    (reduced_narrow c.args.turn.own c.args.row.now c.args.turn.base c.args.base.now c.loop-k.row c.requires.as_long
    (λ k low. c.loop-k.invariant.done k (omega (arith, low, c.loop-k-test.false, c.loop-k.auto.row))))
