use Rattle.std.proofs.Common.{◌≤◌, ◌≤ℤ◌, ℕ, ℤ, Bool, true, false, cond, int_lt, pos, unsigned_abs, to_z, FitsSigned, sym, subst, arith, rules}
use Rattle.std.specs.Int.{w32}
use borrow.Author.Count.{below_more}
use Rattle.std.proofs.lemmas.Int.{ints, to_z-of_z}
use Rattle.std.proofs.lemmas.List.Elements.{All-from_get_or}
use Rattle.frac_rows.specs.Rows.{number}
use Rattle.frac_rows.proofs.starts.top_of.Goals as goal

either : (m : ℕ) (b : Bool) (x y : ℤ) → unsigned_abs x ≤ m → unsigned_abs y ≤ m → unsigned_abs (cond b x y) ≤ m
either m true x y of_x of_y = of_x
either m false x y of_x of_y = of_y

pub loop-x-preserved : goal.loop-x-preserved
loop-x-preserved c =
    let row = c.args.row.now in
    let i = c.loop-x.x-index in
    let before = c.loop-x.invariant in
    let low = to_z w32 c.loop-x.low-bits in
    let high = to_z w32 c.loop-x.high-bits in
    let x : FitsSigned w32 (number row i) = search rules in
    let of_low : FitsSigned w32 c.min-low.result = search rules in
    let of_high : FitsSigned w32 c.max-high.result = search rules in
    let least = simp to_z-of_z at c.min-low.ensures in
    let greatest = simp to_z-of_z at c.max-high.ensures in
    rw (to_z-of_z w32 c.min-low.result of_low, to_z-of_z w32 c.max-high.result of_high)
    (record {
      above_low =
          below_more (λ j. c.min-low.result ≤ℤ number row j) i (λ j less. omega (arith, ints, least.self_bound, before.above_low j less))
          least.other_bound;
      below_high =
          below_more (λ j. number row j ≤ℤ c.max-high.result) i (λ j less. omega (arith, ints, greatest.self_bound, before.below_high j less))
          greatest.other_bound;
      low = omega (arith, ints, least.self_bound, before.low);
      high = omega (arith, ints, greatest.self_bound, before.high);
      least = λ b all.
          subst (λ z. unsigned_abs z ≤ b) (sym least.value)
          (either b (int_lt (number row i) low) (number row i) low (all i (pos 0) c.loop-x-test.true) (before.least b all));
      greatest = λ b all.
          subst (λ z. unsigned_abs z ≤ b) (sym greatest.value)
          (either b (int_lt (number row i) high) high (number row i) (before.greatest b all) (all i (pos 0) c.loop-x-test.true));
    })

pub returns-clause-above : goal.returns-clause-above
returns-clause-above c =
    All-from_get_or (λ x. unsigned_abs x ≤ c.from.result) c.args.row.now (pos 0)
    (λ j less.
    let before = c.loop-x.invariant in
    omega (
      arith,
      ints,
      before.above_low j (omega (arith, less, c.loop-x-test.false)),
      before.below_high j (omega (arith, less, c.loop-x-test.false)),
      before.low,
      before.high,
      c.unsigned_abs.ensures.value,
      c.unsigned_abs-2.ensures.value,
      c.max.ensures,
      c.from.ensures,
    ))
