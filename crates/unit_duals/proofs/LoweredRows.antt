-- Lengths lowered by one hub after another.
use Rattle.std.proofs.Common.{◌≡◌, ℕ, ◌+◌, ◌*◌, ◌<◌, ◌≤◌, min, List, length, slice_index, refl, sym, ap, subst, ◌∙◌, ⊎_elim, arith}
use Rattle.unit_duals.specs.Leasts.{least_of}
use Rattle.unit_duals.specs.Cells.{IsTable}
use Rattle.unit_duals.specs.Lengths.{UnitLegs, AreLegs, AreFirstLegs, stops}
use Rattle.unit_duals.specs.Lowered.{length_from, AreLoweredBy, AreLowered, EndAlike, AreRows}
use Rattle.unit_duals.specs.Values.{back_leg, reach_leg, price_by}
use Rattle.unit_duals.proofs.LeastNumbers.{least_of-none, least_of_le_start, least_of_le, least_of_is, least_step, least_same}
use Rattle.unit_duals.proofs.LegRows.{trunk_leg_limit, back_leg_limit}
use Rattle.unit_duals.proofs.TableCells.{cell_within, row_within}

-- the least is the same where one of the numbers came first
pub least_sooner : (start : ℕ) (f : ℕ → ℕ) (k y : ℕ) → y < k → least_of (min start (f y)) f k ≡ least_of start f k
least_sooner start f k y below = omega (arith, no_more, no_less)
  where
    no_more : least_of (min start (f y)) f k ≤ least_of start f k
    no_more = ⊎_elim
        (λ e. omega (arith, e, least_of_le_start (min start (f y)) f k))
        (λ p. omega (arith, p.2, least_of_le (min start (f y)) f k p.0 p.1))
        (least_of_is start f k)

    no_less : least_of start f k ≤ least_of (min start (f y)) f k
    no_less = ⊎_elim
        (λ e. omega (arith, e, least_of_le_start start f k, least_of_le start f k y below))
        (λ p. omega (arith, p.2, least_of_le start f k p.0 p.1))
        (least_of_is (min start (f y)) f k)

pub lowered_none : (n : ℕ) (bases table : List ℕ) (start : ℕ) (items : List ℕ) → AreLowered n bases table start 0 items items
lowered_none n bases table start items = record {
  here = λ j below. sym (least_of-none (slice_index items j) (λ x. length_from n bases table (start + x) j));
}

-- one more hub
pub lowered_more : (n : ℕ) (bases table : List ℕ) (start x : ℕ) (old mid new : List ℕ) → AreLowered n bases table start x old mid
    → AreLoweredBy n bases table (start + x) mid new → AreLowered n bases table start (x + 1) old new
lowered_more n bases table start x old mid new so_far by = record {
  here = λ j below. least_step (slice_index old j) (λ y. length_from n bases table (start + y) j) x (slice_index mid j)
      (length_from n bases table (start + x) j) (slice_index new j) (so_far.here j below) refl (by.here j below);
}

-- all of them
pub lowered_all : (n : ℕ) (bases table : List ℕ) (start x hubs : ℕ) (old mid new : List ℕ) → EndAlike n bases table start hubs old mid
    → AreLowered n bases table start x mid new → x ≡ hubs → AreLowered n bases table start hubs old new
lowered_all n bases table start x hubs old mid new alike lowered same = record {
  here = λ j below. subst (λ (y : ℕ). slice_index new j ≡ least_of (slice_index mid j) (λ z. length_from n bases table (start + z) j) y)
      same (lowered.here j below) ∙ alike.here j below;
}

-- one of the hubs sooner
pub alike_sooner : (n : ℕ) (bases table : List ℕ) (start hubs y : ℕ) (old new : List ℕ) → y < hubs
    → AreLoweredBy n bases table (start + y) old new → EndAlike n bases table start hubs old new
alike_sooner n bases table start hubs y old new below by = record {
  here = λ j column.
      (let f : ℕ → ℕ = λ x. length_from n bases table (start + x) j in
      subst (λ (v : ℕ). least_of v f hubs ≡ least_of (slice_index old j) f hubs) (sym (by.here j column))
      (least_sooner (slice_index old j) f hubs y below));
}

-- ---- the tables of a cut

-- the trunk legs, with the first legs as bases
pub trunk_rows : (l : UnitLegs) (first : List ℕ) (n : ℕ) → n ≡ stops l → AreLegs l → AreFirstLegs l first → AreRows n first l.trunk
trunk_rows l first n is legs firsts = subst (λ (w : ℕ). AreRows w first l.trunk) (sym is) (record {
  rows = λ m below. omega (arith, row_within m (stops l) (stops l) (omega (arith, below, firsts.long)), legs.trunk_long);
  base_limit = firsts.limit;
  leg_limit = λ m j below column. omega (arith, trunk_leg_limit l m j legs (omega (arith, below, firsts.long)) column);
})

pub reach_lowered : (l : UnitLegs) (first : List ℕ) (n : ℕ) (new : List ℕ) → n ≡ stops l → AreLowered n first l.trunk l.count l.hubs first new
    → (k : ℕ) → k < stops l → slice_index new k ≡ reach_leg l first k
unfolding reach_leg
reach_lowered l first n new is lowered k stop =
    (subst (λ (w : ℕ). AreLowered w first l.trunk l.count l.hubs first new) is lowered).here k stop

-- the least lengths on, with the first legs as bases
pub back_rows : (l : UnitLegs) (first back : List ℕ) (n : ℕ) → n ≡ l.size → AreLegs l → AreFirstLegs l first → length back ≡ stops l * l.size
    → IsTable l.size (λ k j v. v ≡ back_leg l k j) back (length back) → AreRows n first back
back_rows l first back n is legs firsts long table = subst (λ (w : ℕ). AreRows w first back) (sym is) (record {
  rows = λ m below. omega (arith, row_within m l.size (stops l) (omega (arith, below, firsts.long)), long);
  base_limit = firsts.limit;
  leg_limit = λ m j below column. (let stop : m < stops l = omega (arith, below, firsts.long) in
      omega (
        arith,
        back_leg_limit l m j legs stop column,
        table.each m j column (omega (arith, cell_within m j l.size (stops l) stop column, long)),
      ));
})

pub prices_lowered : (l : UnitLegs) (first back old new : List ℕ) (n : ℕ) → n ≡ l.size → length back ≡ stops l * l.size
    → IsTable l.size (λ k j v. v ≡ back_leg l k j) back (length back)
    → ((j : ℕ) → j < l.size → slice_index old j ≡ slice_index first l.count + back_leg l l.count j)
    → AreLowered n first back l.count l.hubs old new → (j : ℕ) → j < l.size → slice_index new j ≡ price_by l first j
unfolding price_by
prices_lowered l first back old new n is long table start lowered j column =
    (subst (λ (w : ℕ). AreLowered w first back l.count l.hubs old new) is lowered).here j column
    ∙ least_same (slice_index old j) (slice_index first l.count + back_leg l l.count j) (λ x. length_from l.size first back (l.count + x) j)
    (λ x. slice_index first (l.count + x) + back_leg l (l.count + x) j) l.hubs (start j column)
    (λ x below. ap (λ (d : ℕ). slice_index first (l.count + x) + d)
    (table.each (l.count + x) j column (omega (arith, cell_within (l.count + x) j l.size (stops l) (omega (arith, below)) column, long))))
