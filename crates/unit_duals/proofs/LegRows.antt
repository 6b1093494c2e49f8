-- Rows of legs, and their limits.
use Rattle.std.proofs.Common.{◌≡◌, ℕ, ◌+◌, ◌-◌, ◌*◌, ◌<◌, ◌≤◌, List, length, slice_index, slice_range, refl, sym, subst, ◌∙◌, arith}
use Rattle.std.proofs.lemmas.List.Edits.{length-between, get_or-between}
use Rattle.std.proofs.lemmas.List.Elements.{All-get_or, All-from_get_or}
use Rattle.unit_duals.specs.Cells.{cell}
use Rattle.unit_duals.specs.Limits.{most_leg}
use Rattle.unit_duals.specs.Lengths.{UnitLegs, AreLegs, AreFirstLegs, IsLegRow, stops, trunk_leg, last_leg}
use Rattle.unit_duals.specs.Values.{back_leg, reach_leg}
use Rattle.unit_duals.specs.Nearness.{HoldsNear, IsNearPart, AreNearLists}
use Rattle.unit_duals.proofs.LeastNumbers.{least_of_le_start}
use Rattle.unit_duals.proofs.TableCells.{cell_within}
use Rattle.unit_duals.proofs.Listing.{near_part_by}

pub trunk_leg_limit : (l : UnitLegs) (k m : ℕ) → AreLegs l → k < stops l → m < stops l → trunk_leg l k m ≤ most_leg
trunk_leg_limit l k m legs stop other =
    All-get_or (λ d. d ≤ most_leg) l.trunk (k * stops l + m) 0 (omega (arith, cell_within k m (stops l) (stops l) stop other, legs.trunk_long)) legs.trunk_limit

pub last_leg_limit : (l : UnitLegs) (k j : ℕ) → AreLegs l → k < stops l → j < l.size → last_leg l k j ≤ most_leg
last_leg_limit l k j legs stop column =
    All-get_or (λ d. d ≤ most_leg) l.last (k * l.size + j) 0 (omega (arith, cell_within k j l.size (stops l) stop column, legs.last_long)) legs.last_limit

pub back_leg_limit : (l : UnitLegs) (k j : ℕ) → AreLegs l → k < stops l → j < l.size → back_leg l k j ≤ most_leg
unfolding back_leg
back_leg_limit l k j legs stop column =
    omega (
      arith,
      last_leg_limit l k j legs stop column,
      least_of_le_start (last_leg l k j) (λ m. trunk_leg l k (l.count + m) + last_leg l (l.count + m) j) l.hubs,
    )

-- the row k of a table that has these legs
pub leg_row : (n k : ℕ) (leg : ℕ → ℕ) (table items row : List ℕ) → table ≡ items → length row ≡ n
    → ((j : ℕ) → j < n → slice_index row j ≡ cell n table k j) → ((j : ℕ) → j < n → cell n items k j ≡ leg j)
    → ((j : ℕ) → j < n → leg j ≤ most_leg) → IsLegRow n leg row
leg_row n k leg table items row same long each is limit = record {
  long = long;
  each = each_leg;
  limit = All-from_get_or (λ d. d ≤ most_leg) row 0
      (λ j below. let column : j < n = omega (arith, below, long) in let e = each_leg j column in let b = limit j column in omega (arith, e, b));
}
  where
    each_leg : (j : ℕ) → j < n → slice_index row j ≡ leg j
    each_leg j below = each j below ∙ subst (λ (t : List ℕ). cell n t k j ≡ leg j) (sym same) (is j below)

-- the part of a list as a list of its own
pub holds_near : (n : ℕ) (far : ℕ → Type 0) (start end : ℕ) (nodes : List ℕ) → IsNearPart n far start end nodes
    → HoldsNear n far (slice_range nodes start end)
holds_near n far start end nodes part = record {
  are_nodes = All-from_get_or (λ j. j < n) (slice_range nodes start end) 0
      (λ y below. let e = get_or-between nodes start end y 0 (omega (arith, below, long)) in
      let b = part.are_nodes (start + y) (omega arith) (omega (arith, below, long)) in omega (arith, e, b));
  left_out = λ j below none. part.left_out j below
      (λ y low high e. none (y - start) (omega (arith, low, high, long))
      (get_or-between nodes start end (y - start) 0 (omega (arith, low, high)) ∙ at_place y low ∙ e));
}
  where
    long : length (slice_range nodes start end) ≡ end - start
    long = length-between nodes start end part.within

    at_place : (y : ℕ) → start ≤ y → slice_index nodes (start + (y - start)) ≡ slice_index nodes y
    at_place y low = (let same : start + (y - start) ≡ y = omega (arith, low) in subst (λ (x : ℕ). slice_index nodes (start + (y - start)) ≡ slice_index nodes x) same refl)

-- lists of what is near in one sense are lists of what is near in another
pub near_lists_by : (n c t : ℕ) (far also : ℕ → ℕ → ℕ → Type 0) (starts nodes : List ℕ)
    → ((s d j : ℕ) → d < s → s < t → j < n → far s d j → also s d j) → AreNearLists n c far t starts nodes → AreNearLists n c also t starts nodes
near_lists_by n c t far also starts nodes then lists = record {
  each = λ s d earlier row. near_part_by n (far s d) (also s d) (slice_index starts (s * c + d)) (slice_index starts (s * c + d + 1)) nodes
      (λ j below. then s d j earlier row below) (lists.each s d earlier row);
}

pub reach_leg_limit : (l : UnitLegs) (first : List ℕ) (k : ℕ) → AreFirstLegs l first → k < stops l → reach_leg l first k ≤ most_leg
unfolding reach_leg
reach_leg_limit l first k legs stop =
    omega (
      arith,
      All-get_or (λ d. d ≤ most_leg) first k 0 (omega (arith, stop, legs.long)) legs.limit,
      least_of_le_start (slice_index first k) (λ m. slice_index first (l.count + m) + trunk_leg l (l.count + m) k) l.hubs,
    )

-- a row that is set in whole
pub whole_leg_row : (n : ℕ) (leg : ℕ → ℕ) (row : List ℕ) → length row ≡ n → ((j : ℕ) → j < n → slice_index row j ≡ leg j)
    → ((j : ℕ) → j < n → leg j ≤ most_leg) → IsLegRow n leg row
whole_leg_row n leg row long each limit = record {
  long = long;
  each = each;
  limit = All-from_get_or (λ d. d ≤ most_leg) row 0
      (λ j below. let column : j < n = omega (arith, below, long) in let e = each j column in let b = limit j column in omega (arith, e, b));
}
