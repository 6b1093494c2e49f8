-- Tables of legs between nodes and candidates.
use Rattle.std.proofs.Common.{◌≡◌, ℕ, ◌+◌, ◌*◌, ◌<◌, ◌≤◌, List, [], ◌∷◌, length, set, slice_index, fold, max, All, ap, sym, subst, arith}
use Rattle.std.proofs.lemmas.Nat.{mul-le}
use Rattle.std.proofs.lemmas.List.Elements.{All-get_or, All-head, All-tail}
use Rattle.hub_spec.specs.Limits.{most_distance, most_factor}
use Rattle.hub_spec.specs.Problem.{Problem, distance, greatest, IsProblem}
use Rattle.unit_duals.specs.Cells.{cell, IsTable}
use Rattle.unit_duals.specs.Raised.{IsRowSet}
use Rattle.unit_duals.specs.Lengths.{IsLegRow}
use Rattle.unit_duals.specs.Limits.{most_leg, most_length}
use Rattle.unit_duals.proofs.TableCells.{table_more, cell_within, row_within}
use Rattle.unit_duals.proofs.SetStretches.{table_row}
use Rattle.unit_duals.proofs.LegRows.{leg_row}
use Rattle.hub_model.specs.CandidateLengths.{candidate_at, length_ceiling}
use Rattle.leg_duals.specs.CandidateLegs.{collection_length, trunk_length, delivery_length, IsLegTable}
use Rattle.leg_duals.proofs.LegLimits.{distance_limit, leg_limit}

pub candidate_node : (p : Problem) (x : ℕ) → IsProblem p → x < length p.candidates → candidate_at p x < p.size
candidate_node p x ok within = All-get_or (λ k. k < p.size) p.candidates x 0 within ok.candidates_are_nodes

-- a leg more in a row
pub leg_more : (n : ℕ) (leg : ℕ → ℕ → ℕ) (table : List ℕ) (rows t x at v : ℕ) → t < rows → x < n → at ≡ t * n + x → length table ≡ rows * n
    → v ≡ leg t x → IsTable n (λ t x v. v ≡ leg t x) table (t * n + x)
    → IsTable n (λ t x v. v ≡ leg t x) (set table at v) (t * n + (x + 1))
leg_more n leg table rows t x at v row column place long is so_far =
    subst (λ (z : ℕ). IsTable n (λ t x v. v ≡ leg t x) (set table z v) (t * n + (x + 1))) (sym place)
    (table_more n (λ t x v. v ≡ leg t x) table t x v (t * n + (x + 1)) column (omega (arith, long, cell_within t x n rows row column)) is (omega arith) so_far)

-- a row of collection more, whose stops are the candidates
pub collect_row : (p : Problem) (i factor q : ℕ) (ks table after : List ℕ) → q ≡ length ks → ks ≡ p.candidates → factor ≡ p.collect
    → IsRowSet q i q (λ x. factor * distance p i (slice_index ks x)) table after
    → IsTable (length p.candidates) (λ i x v. v ≡ collection_length p i x) table (i * length p.candidates)
    → IsTable (length p.candidates) (λ i x v. v ≡ collection_length p i x) after ((i + 1) * length p.candidates)
collect_row p i factor q ks table after all same is row so_far =
    let n = length p.candidates in
    table_row n i ((i + 1) * n) (λ i x v. v ≡ collection_length p i x) (λ x. factor * distance p i (candidate_at p x)) table after (omega arith)
    (λ x below. ap (λ (f : ℕ). f * distance p i (candidate_at p x)) is)
    (subst (λ (ms : List ℕ). IsRowSet (length ms) i (length ms) (λ x. factor * distance p i (slice_index ms x)) table after) same
    (subst (λ (m : ℕ). IsRowSet m i m (λ x. factor * distance p i (slice_index ks x)) table after) all row)) so_far

-- the trunk between stops that are the candidates
pub between_table : (p : Problem) (q : ℕ) (ks table : List ℕ) → q ≡ length ks → ks ≡ p.candidates
    → IsTable q (λ x y v. v ≡ p.trunk * distance p (slice_index ks x) (slice_index ks y)) table (length table)
    → IsTable (length p.candidates) (λ x y v. v ≡ trunk_length p x y) table (length table)
between_table p q ks table all same is =
    subst (λ (ms : List ℕ). IsTable (length ms) (λ x y v. v ≡ p.trunk * distance p (slice_index ms x) (slice_index ms y)) table (length table)) same
    (subst (λ (m : ℕ). IsTable m (λ x y v. v ≡ p.trunk * distance p (slice_index ks x) (slice_index ks y)) table (length table)) all is)

-- a whole table
pub leg_table : (rows n : ℕ) (leg : ℕ → ℕ → ℕ) (table items : List ℕ) (q : ℕ) → q ≡ n → items ≡ table → length table ≡ rows * n
    → IsTable n (λ t x v. v ≡ leg t x) table (length table) → IsLegTable rows q leg items
leg_table rows n leg table items q same held long is =
    subst (λ (m : ℕ). IsLegTable rows m leg items) (sym same) (subst (IsLegTable rows n leg) (sym held) (record {
      long = long;
      each = λ t x row column. is.each t x column (omega (arith, long, cell_within t x n rows row column));
    }))

-- a row of one
pub row_start : (rows q t : ℕ) (leg : ℕ → ℕ → ℕ) (table items : List ℕ) → IsLegTable rows q leg items → t < rows → table ≡ items
    → t * q + q ≤ length table
row_start rows q t leg table items is row same = omega (arith, row_within t q rows row, is.long, ap length same)

pub leg_row_of : (p : Problem) (rows q t : ℕ) (leg : ℕ → ℕ → ℕ) (table items row : List ℕ) → IsLegTable rows q leg items
    → q ≡ length p.candidates → t < rows → table ≡ items → length row ≡ q
    → ((x : ℕ) → x < q → slice_index row x ≡ cell q table t x) → ((x : ℕ) → x < length p.candidates → leg t x ≤ most_leg)
    → IsLegRow (length p.candidates) (leg t) row
leg_row_of p rows q t leg table items row is places within same long each low =
    subst (λ (n : ℕ). IsLegRow n (leg t) row) places
    (leg_row q t (leg t) table items row same long each (λ x below. is.each t x within below) (λ x below. low x (omega (arith, below, places))))

pub collection_length_limit : (p : Problem) (i x : ℕ) → IsProblem p → i < p.size → x < length p.candidates → collection_length p i x ≤ most_leg
collection_length_limit p i x ok origin within =
    leg_limit p.collect (distance p i (candidate_at p x)) ok.collect_limit (distance_limit p i (candidate_at p x) ok origin (candidate_node p x ok within))

pub trunk_length_limit : (p : Problem) (x y : ℕ) → IsProblem p → x < length p.candidates → y < length p.candidates → trunk_length p x y ≤ most_leg
trunk_length_limit p x y ok first last =
    leg_limit p.trunk (distance p (candidate_at p x) (candidate_at p y)) ok.trunk_limit
    (distance_limit p (candidate_at p x) (candidate_at p y) ok (candidate_node p x ok first) (candidate_node p y ok last))

pub delivery_length_limit : (p : Problem) (j x : ℕ) → IsProblem p → j < p.size → x < length p.candidates → delivery_length p j x ≤ most_leg
delivery_length_limit p j x ok destination within =
    leg_limit p.deliver (distance p (candidate_at p x) j) ok.deliver_limit
    (distance_limit p (candidate_at p x) j ok (candidate_node p x ok within) destination)

-- ---- the ceiling

fold_within : (a most : ℕ) (ns : List ℕ) → a ≤ most → All (λ d. d ≤ most) ns → fold max a ns ≤ most
fold_within a most [] low all = low
fold_within a most (n ∷ ns) low all =
    fold_within (max a n) most ns (omega (arith, low, All-head (λ d. d ≤ most) n ns all)) (All-tail (λ d. d ≤ most) n ns all)

pub ceiling_limit : (p : Problem) → IsProblem p → length_ceiling p ≤ most_length
unfolding length_ceiling greatest
ceiling_limit p ok =
    let far = fold_within 0 most_distance p.distances (omega arith) ok.distance_limit in
    omega (
      arith,
      mul-le (p.collect + p.trunk + p.deliver) (fold max 0 p.distances) (3 * most_factor) most_distance
          (omega (arith, ok.collect_limit, ok.trunk_limit, ok.deliver_limit)) far,
    )
