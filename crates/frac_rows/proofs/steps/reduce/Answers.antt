use Rattle.std.proofs.Common.{◌≡◌, ◌<◌, ◌≤◌, ◌*ℤ◌, ◌-ℤ◌, not, unsigned_abs, FitsSigned, ap, arith, rules}
use Rattle.std.specs.Int.{w64, w128}
use Rattle.std.proofs.lemmas.Int.{ints, to_z-of_z}
use Rattle.frac_rows.specs.Divisors.{quotient, reduced}
use Rattle.frac_rows.specs.Rows.{number, eliminated, widest}
use Rattle.frac_rows.proofs.Divided.{reduced_at, reduces_more, reduced_all, reduced_narrow, reduced_wide}
use Rattle.frac_rows.proofs.steps.reduce.Goals as goal
use Rattle.frac_rows.proofs.steps.reduce.Goals.{After-unsigned_abs}

-- what was computed for the place of this turn
at_place : (c : After-unsigned_abs) → c.quotient_by-number.result ≡ number (reduced (eliminated c.args.turn.own c.args.row.now c.args.turn.base c.args.base.now)) c.loop-k.k
at_place c =
    let k = c.loop-k.k in
    let x : FitsSigned w64 (number c.args.row.now k) = search rules in
    let y : FitsSigned w64 (number c.args.base.now k) = search rules in
    let value : c.cross.result ≡ c.args.turn.own *ℤ number c.args.row.now k -ℤ c.args.turn.base *ℤ number c.args.base.now k =
    simp to_z-of_z at c.cross.ensures.value in
    let fits : FitsSigned w128 c.cross.result = search rules in
    let is : c.quotient_by-number.result ≡ quotient c.cross.result c.common_divisor-common.result.number = simp to_z-of_z at c.quotient_by-number.ensures.value in
    reduced_at c.args.turn.own c.args.row.now c.args.turn.base c.args.base.now k c.common_divisor-common.result.number c.cross.result c.quotient_by-number.result
    c.requires.as_long c.loop-k-test.true c.common_divisor-common.ensures.value value is

pub returns-then-unsigned_abs-from-clause-within : goal.returns-then-unsigned_abs-from-clause-within
returns-then-unsigned_abs-from-clause-within c =
    let fits : FitsSigned w128 c.quotient_by-number.result = search rules in
    let size : c.unsigned_abs.result ≡ unsigned_abs c.quotient_by-number.result = simp to_z-of_z at c.unsigned_abs.ensures.value in
    let wide : widest < unsigned_abs c.quotient_by-number.result = omega (arith, size, c.from.ensures, c.if-unsigned_abs-from.true) in
    ap not (reduced_wide c.args.turn.own c.args.row.now c.args.turn.base c.args.base.now c.loop-k.k c.quotient_by-number.result
    c.requires.as_long c.loop-k-test.true (at_place (goal.at.returns-then-unsigned_abs-from-clause-within c).After-unsigned_abs) wide)

pub loop-k-preserved : goal.loop-k-preserved
loop-k-preserved c =
    let fits : FitsSigned w128 c.quotient_by-number.result = search rules in
    let size : c.unsigned_abs.result ≡ unsigned_abs c.quotient_by-number.result = simp to_z-of_z at c.unsigned_abs.ensures.value in
    let narrow : unsigned_abs c.quotient_by-number.result ≤ widest = omega (arith, size, c.from.ensures, c.if-unsigned_abs-from.false) in
    let small : FitsSigned w64 c.quotient_by-number.result = omega (arith, ints) in
    rw (to_z-of_z w128 c.quotient_by-number.result fits, to_z-of_z w64 c.quotient_by-number.result small)
    (reduces_more c.args.turn.own c.args.row.now c.args.turn.base c.args.base.now c.loop-k.out c.loop-k.k c.quotient_by-number.result
    (omega (arith, c.loop-k.auto.out)) c.loop-k.invariant (at_place (goal.at.loop-k-preserved c).After-unsigned_abs) narrow)

pub returns-clause-row : goal.returns-clause-row
returns-clause-row c = λ _.
    reduced_all c.args.turn.own c.args.row.now c.args.turn.base c.args.base.now c.loop-k.out c.requires.as_long
    (omega (arith, c.loop-k.auto.out)) (λ k low. c.loop-k.invariant k (omega arith))

pub returns-clause-within : goal.returns-clause-within
returns-clause-within c =
    ap not (reduced_narrow c.args.turn.own c.args.row.now c.args.turn.base c.args.base.now c.loop-k.out c.requires.as_long
    (λ k low. c.loop-k.invariant k (omega arith)))
