-- The bounds of a candidate's two children, and the side that they leave it.
use Rattle.std.proofs.Common.{◌≡◌, ℕ, ℤ, pos, ◌+◌, ◌*◌, ◌+ℤ◌, ◌-ℤ◌, FitsSigned, to_z, of_z, Bool, true, false, cond, Contains, refl, ap, ap₂, ◌∙◌, subst, arith}
use Rattle.std.specs.Prelude.{int_lt, Option, Some, None}
use Rattle.std.specs.Int.{w128, int_min, int_max}
use Rattle.std.proofs.lemmas.Int.{ints, clamps, to_z-of_z}
use Rattle.hub_spec.specs.Trees.{Branching, open_child, closed_child}
use Rattle.hub_spec.proofs.Children.{bound_of_open, bound_of_closed, bound_of_two}
use Rattle.leaf_bound.specs.Bounds.{Weighting, weighted_total, gain_of, bound_of}
use Rattle.leaf_bound.specs.Weighing.{most_gain, most_bound, IsWithin}
use Rattle.leaf_bound.proofs.LentNumbers.{within_fits}
use Rattle.leaf_bound.specs.declared.sides.Side.{Side}
use Rattle.leaf_bound.specs.declared.sides.Side.TheVariants.{In, Out}
use Rattle.hub_fixing.specs.Fixing.{closes_by, side_of, side_by}

closed_is : (m : Weighting) (b : Branching) (k : ℕ) → Contains b.free k → bound_of m b -ℤ int_min (gain_of m k) (pos 0) ≡ bound_of m (closed_child b k)
closed_is m b k free = omega (arith, ints, clamps, bound_of_closed (weighted_total m) (gain_of m) b k free)

open_is : (m : Weighting) (b : Branching) (k : ℕ) → Contains b.free k → bound_of m b +ℤ int_max (gain_of m k) (pos 0) ≡ bound_of m (open_child b k)
open_is m b k free = omega (arith, ints, clamps, bound_of_open (weighted_total m) (gain_of m) b k free)

pub side_is : (m : Weighting) (target : ℕ) (b : Branching) (k : ℕ) → Contains b.free k
    → side_by (bound_of m b) (gain_of m k) (pos (m.denom * target) -ℤ pos m.denom) ≡ side_of m target b k
side_is m target b k free =
    let t = pos (m.denom * target) -ℤ pos m.denom in
    ap₂ (λ (x y : ℤ). cond (int_lt t x) (Some In) (cond (int_lt t y) (Some Out) None)) (closed_is m b k free) (open_is m b k free)

both : (t x y z : ℤ) → z ≡ int_min x y → int_lt t z ≡ false → int_lt t x ≡ true → int_lt t y ≡ true → ⊥
both t x y z is none first second = grind (arith, ints, clamps)

pub not_both : (m : Weighting) (target : ℕ) (b : Branching) (k : ℕ) → Contains b.free k → closes_by m target b ≡ false
    → closes_by m target (open_child b k) ≡ true → closes_by m target (closed_child b k) ≡ true → ⊥
not_both m target b k free none opened closed =
    both (pos (m.denom * target) -ℤ pos m.denom) (bound_of m (open_child b k)) (bound_of m (closed_child b k)) (bound_of m b)
    (bound_of_two (weighted_total m) (gain_of m) b k free) none opened closed

-- ---- numbers that are passed by value

tested : (t x z : ℤ) (answer : Bool) → FitsSigned w128 t → z ≡ x → int_lt (to_z w128 (of_z w128 t)) z ≡ answer → int_lt t x ≡ answer
tested t x z answer fits is test = subst (λ (y : ℤ). int_lt t y ≡ answer) is (rw (to_z-of_z w128 t fits) at test)

closed_passed : (bound gain least : ℤ) → IsWithin most_bound bound → IsWithin most_gain gain
    → least ≡ int_min (to_z w128 (of_z w128 gain)) (pos 0)
    → to_z w128 (of_z w128 (to_z w128 (of_z w128 bound) -ℤ to_z w128 (of_z w128 least))) ≡ bound -ℤ int_min gain (pos 0)
closed_passed bound gain least b g is =
    let fits_bound = within_fits most_bound bound (omega arith) b in
    let fits_gain = within_fits most_gain gain (omega arith) g in
    let at = rw (to_z-of_z w128 gain fits_gain) at is in
    let least_within : IsWithin most_gain least =
    record { least = omega (arith, ints, clamps, at, g.least); most = omega (arith, ints, clamps, at, g.most) } in
    let fits_least = within_fits most_gain least (omega arith) least_within in
    let all : IsWithin (most_bound + most_gain) (bound -ℤ least) = record {
      least = omega (arith, ints, b.least, least_within.most);
      most = omega (arith, ints, b.most, least_within.least);
    } in
    let fits_all = within_fits (most_bound + most_gain) (bound -ℤ least) (omega arith) all in
    rw (to_z-of_z w128 bound fits_bound, to_z-of_z w128 least fits_least, to_z-of_z w128 (bound -ℤ least) fits_all)
    (ap (λ (y : ℤ). bound -ℤ y) at)

open_passed : (bound gain most : ℤ) → IsWithin most_bound bound → IsWithin most_gain gain
    → most ≡ int_max (to_z w128 (of_z w128 gain)) (pos 0)
    → to_z w128 (of_z w128 (to_z w128 (of_z w128 bound) +ℤ to_z w128 (of_z w128 most))) ≡ bound +ℤ int_max gain (pos 0)
open_passed bound gain most b g is =
    let fits_bound = within_fits most_bound bound (omega arith) b in
    let fits_gain = within_fits most_gain gain (omega arith) g in
    let at = rw (to_z-of_z w128 gain fits_gain) at is in
    let most_within : IsWithin most_gain most =
    record { least = omega (arith, ints, clamps, at, g.least); most = omega (arith, ints, clamps, at, g.most) } in
    let fits_most = within_fits most_gain most (omega arith) most_within in
    let all : IsWithin (most_bound + most_gain) (bound +ℤ most) = record {
      least = omega (arith, ints, b.least, most_within.least);
      most = omega (arith, ints, b.most, most_within.most);
    } in
    let fits_all = within_fits (most_bound + most_gain) (bound +ℤ most) (omega arith) all in
    rw (to_z-of_z w128 bound fits_bound, to_z-of_z w128 most fits_most, to_z-of_z w128 (bound +ℤ most) fits_all)
    (ap (λ (y : ℤ). bound +ℤ y) at)

-- the tests of the two children decide
pub closed_test : (bound gain threshold least : ℤ) (answer : Bool) → IsWithin most_bound bound → IsWithin most_gain gain → FitsSigned w128 threshold
    → least ≡ int_min (to_z w128 (of_z w128 gain)) (pos 0)
    → int_lt (to_z w128 (of_z w128 threshold)) (to_z w128 (of_z w128 (to_z w128 (of_z w128 bound) -ℤ to_z w128 (of_z w128 least)))) ≡ answer
    → int_lt threshold (bound -ℤ int_min gain (pos 0)) ≡ answer
closed_test bound gain threshold least answer b g fits is test =
    tested threshold (bound -ℤ int_min gain (pos 0))
    (to_z w128 (of_z w128 (to_z w128 (of_z w128 bound) -ℤ to_z w128 (of_z w128 least)))) answer fits (closed_passed bound gain least b g is) test

pub open_test : (bound gain threshold most : ℤ) (answer : Bool) → IsWithin most_bound bound → IsWithin most_gain gain → FitsSigned w128 threshold
    → most ≡ int_max (to_z w128 (of_z w128 gain)) (pos 0)
    → int_lt (to_z w128 (of_z w128 threshold)) (to_z w128 (of_z w128 (to_z w128 (of_z w128 bound) +ℤ to_z w128 (of_z w128 most)))) ≡ answer
    → int_lt threshold (bound +ℤ int_max gain (pos 0)) ≡ answer
open_test bound gain threshold most answer b g fits is test =
    tested threshold (bound +ℤ int_max gain (pos 0))
    (to_z w128 (of_z w128 (to_z w128 (of_z w128 bound) +ℤ to_z w128 (of_z w128 most)))) answer fits (open_passed bound gain most b g is) test

pub none_by : (bound gain threshold : ℤ) → int_lt threshold (bound -ℤ int_min gain (pos 0)) ≡ false
    → int_lt threshold (bound +ℤ int_max gain (pos 0)) ≡ false → None ≡ side_by bound gain threshold
none_by bound gain threshold closed opened = rw (closed, opened) refl

pub out_by : (bound gain threshold : ℤ) → int_lt threshold (bound -ℤ int_min gain (pos 0)) ≡ false
    → int_lt threshold (bound +ℤ int_max gain (pos 0)) ≡ true → Some Out ≡ side_by bound gain threshold
out_by bound gain threshold closed opened = rw (closed, opened) refl

-- the side that the code finds is the candidate's
pub side_found : (m : Weighting) (target : ℕ) (b : Branching) (k : ℕ) (whole gain threshold : ℤ) (found : Option Side) → Contains b.free k
    → whole ≡ bound_of m b → gain ≡ gain_of m k → threshold ≡ pos (m.denom * target) -ℤ pos m.denom
    → FitsSigned w128 whole → FitsSigned w128 gain → FitsSigned w128 threshold
    → found ≡ side_by (to_z w128 (of_z w128 whole)) (to_z w128 (of_z w128 gain)) (to_z w128 (of_z w128 threshold))
    → found ≡ side_of m target b k
side_found m target b k whole gain threshold found free whole_is gain_is threshold_is fits_whole fits_gain fits_threshold is =
    rw (to_z-of_z w128 whole fits_whole, to_z-of_z w128 gain fits_gain, to_z-of_z w128 threshold fits_threshold) at is
    ∙ ap (λ (z : ℤ). side_by z gain threshold) whole_is ∙ ap (λ (z : ℤ). side_by (bound_of m b) z threshold) gain_is
    ∙ ap (side_by (bound_of m b) (gain_of m k)) threshold_is ∙ side_is m target b k free
