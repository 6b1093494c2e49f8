-- For exactly n hubs, the bounds of a candidate's two children, and the side to which they fix it.
use Rattle.std.proofs.Common.{◌≡◌, ℕ, ℤ, pos, ◌+◌, ◌*◌, ◌-◌, ◌+ℤ◌, ◌-ℤ◌, FitsSigned, to_z, of_z, Bool, true, false, cond, int_lt, List, length, get_or, All, Contains, ap, ap₂, ◌∙◌, subst, arith}
use Rattle.std.specs.Prelude.{Option, Some, None}
use Rattle.std.specs.Int.{w128, int_min, int_max}
use Rattle.std.proofs.lemmas.Int.{ints, clamps, to_z-of_z}
use Rattle.hub_spec.specs.Trees.{Branching, open_child, closed_child, HasRoom}
use Rattle.hub_spec.proofs.LeastSums.{length_with_node, length_without}
use Rattle.hub_spec.proofs.SortedSums.{rising}
use Rattle.hub_spec.proofs.OneOut.{value_of, counted_of_closed, counted_of_open}
use Rattle.hub_spec.proofs.Children.{lesser_of_two}
use Rattle.leaf_bound.specs.declared.weightings.Weighting as lent
use Rattle.leaf_bound.specs.Bounds.{Weighting, weighted_total, gain_of}
use Rattle.leaf_bound.specs.Numbers.{IsNodeWithin, weighting_of}
use Rattle.leaf_bound.specs.Weighing.{most_gain, most_bound, IsWithin}
use Rattle.leaf_bound.proofs.LentNumbers.{within_fits, AreGainsOf, read_gains}
use Rattle.leaf_bound.specs.declared.sides.Side.{Side}
use Rattle.leaf_bound.specs.declared.sides.Side.TheVariants.{In, Out}
use Rattle.leaf_bound.proofs.SideLists.{listed, closed_first, then_opened, below}
use Rattle.p_hub.specs.Counted.{counted_of, gain_in, AreRising}
use Rattle.p_hub.specs.Fixing.{counted_closes, counted_side, counted_fixings, IsBetween, side_by}
use Rattle.p_hub.specs.Theorems.{OtherSideCloses}
use Rattle.p_hub.proofs.RisingGains.{values_rising}
use Rattle.p_hub.proofs.CountedBounds.{rising_same}

-- ---- the children's bounds

closed_room : (n : ℕ) (b : Branching) (k : ℕ) → Contains b.free k → IsBetween n b → HasRoom (Some n) (closed_child b k)
closed_room n b k free between = (omega (arith, between.missing), omega (arith, between.spare, length_without k b.free free))

open_room : (n : ℕ) (b : Branching) (k : ℕ) → Contains b.free k → IsBetween n b → HasRoom (Some n) (open_child b k)
open_room n b k free between =
    let inside = length_with_node k b.inside in
    (omega (arith, between.missing, inside), omega (arith, between.spare, inside, length_without k b.free free))

-- the greatest gain that the bound of the branch counts, and the least that it does not
abbrev pub last_of : ℕ → Weighting → Branching → ℤ
last_of n m b = value_of (n - length b.inside - 1) (rising (gain_of m) b.free)

abbrev pub next_of : ℕ → Weighting → Branching → ℤ
next_of n m b = value_of (n - length b.inside) (rising (gain_of m) b.free)

closed_is : (n : ℕ) (m : Weighting) (b : Branching) (k : ℕ) → Contains b.free k → IsBetween n b
    → counted_of n m b +ℤ int_max (next_of n m b -ℤ gain_of m k) (pos 0) ≡ counted_of n m (closed_child b k)
closed_is n m b k free between =
    omega (arith, ints, clamps, counted_of_closed n (weighted_total m) (gain_of m) b k free (closed_room n b k free between))

open_is : (n : ℕ) (m : Weighting) (b : Branching) (k : ℕ) → Contains b.free k → IsBetween n b
    → counted_of n m b +ℤ int_max (gain_of m k -ℤ last_of n m b) (pos 0) ≡ counted_of n m (open_child b k)
open_is n m b k free between =
    omega (arith, ints, clamps, counted_of_open n (weighted_total m) (gain_of m) b k free (open_room n b k free between))

side_is : (n : ℕ) (m : Weighting) (target : ℕ) (b : Branching) (k : ℕ) → Contains b.free k → IsBetween n b
    → side_by (counted_of n m b) (last_of n m b) (next_of n m b) (pos (m.denom * target) -ℤ pos m.denom) (gain_of m k) ≡ counted_side n m target b k
side_is n m target b k free between =
    let t = pos (m.denom * target) -ℤ pos m.denom in
    ap₂ (λ (x y : ℤ). cond (int_lt t x) (Some In) (cond (int_lt t y) (Some Out) None)) (closed_is n m b k free between) (open_is n m b k free between)

both : (t x y z : ℤ) → z ≡ int_min x y → int_lt t z ≡ false → int_lt t x ≡ true → int_lt t y ≡ true → ⊥
both t x y z is none first second = grind (arith, ints, clamps)

pub not_both : (n : ℕ) (m : Weighting) (target : ℕ) (b : Branching) (k : ℕ) → Contains b.free k → IsBetween n b
    → counted_closes n m target b ≡ false → counted_closes n m target (open_child b k) ≡ true
    → counted_closes n m target (closed_child b k) ≡ true → ⊥
not_both n m target b k free between none opened closed =
    both (pos (m.denom * target) -ℤ pos m.denom) (counted_of n m (open_child b k)) (counted_of n m (closed_child b k)) (counted_of n m b)
    (lesser_of_two (Some n) (weighted_total m) (gain_of m) b k free (open_room n b k free between) (closed_room n b k free between))
    none opened closed

-- the value that is read at a place of the rising gains
pub value_read : (m : lent.Weighting) (gains : List ℤ) (nodes listed : List ℕ) (values : List ℤ) (i j : ℕ) → AreRising gains nodes values
    → nodes ≡ listed → AreGainsOf m gains → All (IsNodeWithin m) listed → i ≡ j
    → get_or values i (pos 0) ≡ value_of j (rising (gain_of (weighting_of m)) listed)
value_read m gains nodes listed values i j are same own within place =
    ap₂ (λ (k : ℕ) (zs : List ℤ). get_or zs k (pos 0)) place
    (values_rising gains nodes values are ∙ ap (rising (gain_in gains)) same
    ∙ rising_same (gain_in gains) (gain_of (weighting_of m)) listed (read_gains m gains listed own within))

-- the side that the code finds is the candidate's
pub side_found : (n : ℕ) (m : Weighting) (target : ℕ) (b : Branching) (k : ℕ) (whole last next threshold gain : ℤ) (found : Option Side)
    → Contains b.free k → IsBetween n b → whole ≡ counted_of n m b → last ≡ last_of n m b → next ≡ next_of n m b
    → threshold ≡ pos (m.denom * target) -ℤ pos m.denom → gain ≡ gain_of m k → found ≡ side_by whole last next threshold gain
    → found ≡ counted_side n m target b k
side_found n m target b k whole last next threshold gain found free between whole_is last_is next_is threshold_is gain_is is =
    is ∙ ap (λ (z : ℤ). side_by z last next threshold gain) whole_is
    ∙ ap (λ (z : ℤ). side_by (counted_of n m b) z next threshold gain) last_is
    ∙ ap (λ (z : ℤ). side_by (counted_of n m b) (last_of n m b) z threshold gain) next_is
    ∙ ap₂ (side_by (counted_of n m b) (last_of n m b) (next_of n m b)) threshold_is gain_is ∙ side_is n m target b k free between

-- ---- what a listed side says

other_closes : (n : ℕ) (m : Weighting) (target : ℕ) (b : Branching) (k : ℕ) (s : Side) → counted_side n m target b k ≡ Some s
    → OtherSideCloses n m target b k s
other_closes n m target b k In is =
    below (pos (m.denom * target) -ℤ pos m.denom) (counted_of n m (closed_child b k))
    (closed_first (counted_closes n m target (closed_child b k)) (counted_closes n m target (open_child b k)) is)
other_closes n m target b k Out is =
    below (pos (m.denom * target) -ℤ pos m.denom) (counted_of n m (open_child b k))
    (then_opened (counted_closes n m target (closed_child b k)) (counted_closes n m target (open_child b k)) is)

pub listed_closes : (n : ℕ) (m : Weighting) (target : ℕ) (b : Branching) (k : ℕ) (s : Side) → Contains (counted_fixings n m target b) (k, s)
    → Contains b.free k × OtherSideCloses n m target b k s
listed_closes n m target b k s c =
    let found = listed (counted_side n m target b) b.free k s c in
    (found.0, other_closes n m target b k s found.1)

-- ---- numbers that are passed by value

-- how far one gain is above another, where it is
abbrev rise : ℤ → ℤ → ℤ
rise more less = int_max (more -ℤ less) (pos 0)

rise_within : (more less most : ℤ) → IsWithin most_gain more → IsWithin most_gain less → most ≡ rise more less → IsWithin (2 * most_gain) most
rise_within more less most m l is =
    record { least = omega (arith, ints, clamps, is); most = omega (arith, ints, clamps, is, m.most, l.least) }

gap_passed : (more less most : ℤ) → IsWithin most_gain more → IsWithin most_gain less
    → most ≡ int_max (to_z w128 (of_z w128 (to_z w128 (of_z w128 more) -ℤ to_z w128 (of_z w128 less)))) (pos 0) → most ≡ rise more less
gap_passed more less most m l is =
    let fits_more = within_fits most_gain more (omega arith) m in
    let fits_less = within_fits most_gain less (omega arith) l in
    let gap : IsWithin (2 * most_gain) (more -ℤ less) =
    record { least = omega (arith, ints, m.least, l.most); most = omega (arith, ints, m.most, l.least) } in
    let fits_gap = within_fits (2 * most_gain) (more -ℤ less) (omega arith) gap in
    rw (to_z-of_z w128 more fits_more, to_z-of_z w128 less fits_less, to_z-of_z w128 (more -ℤ less) fits_gap) at is

sum_within : (bound more less most : ℤ) → IsWithin most_bound bound → IsWithin most_gain more → IsWithin most_gain less → most ≡ rise more less
    → IsWithin (most_bound + 2 * most_gain) (bound +ℤ most)
sum_within bound more less most b m l is =
    let within = rise_within more less most m l is in
    record { least = omega (arith, ints, b.least, within.least); most = omega (arith, ints, b.most, within.most) }

pub rise_fits : (bound more less most : ℤ) → IsWithin most_bound bound → IsWithin most_gain more → IsWithin most_gain less
    → most ≡ int_max (to_z w128 (of_z w128 (to_z w128 (of_z w128 more) -ℤ to_z w128 (of_z w128 less)))) (pos 0)
    → FitsSigned w128 (to_z w128 (of_z w128 bound) +ℤ to_z w128 (of_z w128 most))
rise_fits bound more less most b m l is =
    let gap = gap_passed more less most m l is in
    let fits_bound = within_fits most_bound bound (omega arith) b in
    let fits_most = within_fits (2 * most_gain) most (omega arith) (rise_within more less most m l gap) in
    rw (to_z-of_z w128 bound fits_bound, to_z-of_z w128 most fits_most)
    (within_fits (most_bound + 2 * most_gain) (bound +ℤ most) (omega arith) (sum_within bound more less most b m l gap))

rise_passed : (bound more less most : ℤ) → IsWithin most_bound bound → IsWithin most_gain more → IsWithin most_gain less
    → most ≡ int_max (to_z w128 (of_z w128 (to_z w128 (of_z w128 more) -ℤ to_z w128 (of_z w128 less)))) (pos 0)
    → to_z w128 (of_z w128 (to_z w128 (of_z w128 bound) +ℤ to_z w128 (of_z w128 most))) ≡ bound +ℤ rise more less
rise_passed bound more less most b m l is =
    let gap = gap_passed more less most m l is in
    let fits_bound = within_fits most_bound bound (omega arith) b in
    let fits_most = within_fits (2 * most_gain) most (omega arith) (rise_within more less most m l gap) in
    let fits_all = within_fits (most_bound + 2 * most_gain) (bound +ℤ most) (omega arith) (sum_within bound more less most b m l gap) in
    rw (to_z-of_z w128 bound fits_bound, to_z-of_z w128 most fits_most, to_z-of_z w128 (bound +ℤ most) fits_all) (ap (λ (y : ℤ). bound +ℤ y) gap)

-- a child's test, as the code makes it
pub rise_test : (bound more less threshold most : ℤ) (answer : Bool) → IsWithin most_bound bound → IsWithin most_gain more → IsWithin most_gain less
    → FitsSigned w128 threshold
    → most ≡ int_max (to_z w128 (of_z w128 (to_z w128 (of_z w128 more) -ℤ to_z w128 (of_z w128 less)))) (pos 0)
    → int_lt (to_z w128 (of_z w128 threshold)) (to_z w128 (of_z w128 (to_z w128 (of_z w128 bound) +ℤ to_z w128 (of_z w128 most)))) ≡ answer
    → int_lt threshold (bound +ℤ rise more less) ≡ answer
rise_test bound more less threshold most answer b m l fits is test =
    subst (λ (y : ℤ). int_lt threshold y ≡ answer) (rise_passed bound more less most b m l is) (rw (to_z-of_z w128 threshold fits) at test)
