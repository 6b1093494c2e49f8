-- The objective row of a best table of the core problem is a cover.
use Rattle.std.proofs.Common.{◌≡◌, ℕ, zero, suc, ◌+◌, ◌-◌, ◌*◌, ◌<◌, ◌≤◌, ◌||◌, nat_eq, List, [], ◌∷◌, ◌++◌, map, length, drop, filter, get_or, sum_by, All, Contains, ℤ, pos, negsuc, ◌+ℤ◌, ◌-ℤ◌, ◌*ℤ◌, ◌≤ℤ◌, unsigned_abs, refl, sym, ap, ◌∙◌, subst, arith}
use Rattle.std.proofs.Math.IntN.{*ℤ-zero, pos-*ℤ-pos}
use Rattle.std.proofs.lemmas.Int.{ints}
use Rattle.std.proofs.lemmas.List.{length-append, length-map, get_or-drop, length-drop, get_or_default}
use Rattle.std.proofs.lemmas.List.Elements.{All-get_or, All-cons, All-nil, All-append, All-filter, All-map, All-head, All-tail, All-contains}
use Rattle.std.proofs.lemmas.List.Sums.{sum_by-cons}
use Rattle.hub_spec.specs.Problem.{Problem}
use Rattle.hub_spec.specs.Plans.{IsHubSet}
use Rattle.hub_spec.proofs.SumLemmas.{by_test, sum_by-same}
use Rattle.hub_spec.proofs.Sets.{is_in-yes, is_in-no, All-from_contains, Contains-head, Contains-later}
use Rattle.core_spec.specs.CoreCuts.{Way, taken_at, taken, taken_through}
use Rattle.frac_rows.specs.Rows.{number, right_side, objective}
use Rattle.frac_rows.specs.Runs.{run}
use Rattle.frac_rows.specs.Starts.{start}
use Rattle.frac_rows.specs.Stored.{dot}
use Rattle.frac_rows.specs.declared.ended.Ended.TheVariants.{Best}
use Rattle.frac_rows.proofs.Integers.{*ℤ--ℤ}
use Rattle.frac_rows.proofs.Solutions.{positive_size}
use Rattle.frac_rows.proofs.FirstTables.{first_is_table}
use Rattle.core_cuts.specs.Combined.{IsCombined}
use Rattle.core_cuts.specs.CoreTables.{is_needed, pairs_of, core_edges, edge_right, through, counts, price_column, value_column, core_columns, core_rights, core_table, ways_of}
use Rattle.core_cuts.specs.RunTheorems.{IsBestCover, IsNarrowCore}
use Rattle.core_cuts.proofs.Combining.{run_combines}
use Rattle.frac_rows.proofs.BestTables.{best_low}
use Rattle.frac_rows.proofs.LastSolutions.{objective_last}

-- ---- sums over the ways of a row

one_product : (y : ℤ) (h : ℕ) → pos 0 ≤ℤ y → y *ℤ pos h ≡ pos (unsigned_abs y * h)
one_product (pos n) h low = pos-*ℤ-pos n h
one_product (negsuc n) h low = absurd (omega (arith, ints))

one_taken : (y : ℤ) (h : ℕ) → pos 0 ≤ℤ y → y *ℤ (pos 0 -ℤ pos h) ≡ pos 0 -ℤ pos (unsigned_abs y * h)
one_taken y h low =
    omega (arith, ints, *ℤ--ℤ y (pos 0) (pos h), *ℤ-zero y, one_product y h low)

dot_added : (h : ℕ × ℕ → ℕ) (last : ℤ) (edges : List (ℕ × ℕ)) (numbers : List ℤ) → length edges < length numbers
    → ((j : ℕ) → j < length edges → pos 0 ≤ℤ number numbers j)
    → dot numbers (map (λ e. pos (h e)) edges ++ last ∷ [])
    ≡ pos (sum_by (λ (w : Way). w.2 * h (w.0, w.1)) (ways_of edges numbers)) +ℤ number numbers (length edges) *ℤ last
dot_added h last [] [] long low = absurd (omega arith)
dot_added h last [] (y ∷ []) long low = omega (arith, ints)
dot_added h last [] (y ∷ z ∷ numbers) long low = omega (arith, ints)
dot_added h last (e ∷ edges) [] long low = absurd (omega arith)
dot_added h last (e ∷ edges) (y ∷ numbers) long low =
    let rest = dot_added h last edges numbers (omega arith) (λ j l. low (suc j) (omega arith)) in
    let here = one_product y (h e) (low 0 (omega arith)) in
    let whole = ap pos (sum_by-cons (λ (w : Way). w.2 * h (w.0, w.1)) (e.0, e.1, unsigned_abs y) (ways_of edges numbers)) in
    omega (arith, ints, rest, here, whole)

dot_taken : (h : ℕ × ℕ → ℕ) (last : ℤ) (edges : List (ℕ × ℕ)) (numbers : List ℤ) → length edges < length numbers
    → ((j : ℕ) → j < length edges → pos 0 ≤ℤ number numbers j)
    → dot numbers (map (λ e. pos 0 -ℤ pos (h e)) edges ++ last ∷ [])
    ≡ (pos 0 -ℤ pos (sum_by (λ (w : Way). w.2 * h (w.0, w.1)) (ways_of edges numbers))) +ℤ number numbers (length edges) *ℤ last
dot_taken h last [] [] long low = absurd (omega arith)
dot_taken h last [] (y ∷ []) long low = omega (arith, ints)
dot_taken h last [] (y ∷ z ∷ numbers) long low = omega (arith, ints)
dot_taken h last (e ∷ edges) [] long low = absurd (omega arith)
dot_taken h last (e ∷ edges) (y ∷ numbers) long low =
    let rest = dot_taken h last edges numbers (omega arith) (λ j l. low (suc j) (omega arith)) in
    let here = one_taken y (h e) (low 0 (omega arith)) in
    let whole = ap pos (sum_by-cons (λ (w : Way). w.2 * h (w.0, w.1)) (e.0, e.1, unsigned_abs y) (ways_of edges numbers)) in
    omega (arith, ints, rest, here, whole)

-- what is counted of ways: all, and those through a node
taken_is : (ways : List Way) → sum_by (λ (w : Way). w.2 * 1) ways ≡ taken ways
taken_is ways = sum_by-same (λ (w : Way). w.2 * 1) (λ w. w.2) ways (λ w. omega arith)

through_is : (k : ℕ) (ways : List Way) → sum_by (λ (w : Way). w.2 * through (w.0, w.1) k) ways ≡ taken_through ways k
through_is k ways = sum_by-same (λ (w : Way). w.2 * through (w.0, w.1) k) (taken_at k) ways
    (λ w. by_test (nat_eq w.0 k || nat_eq w.1 k) (λ e. rw e (omega arith)) (λ e. rw e (omega arith)))

-- ---- the ways are by candidates

abbrev pub ByBoth : List ℕ → ℕ × ℕ → Type 0
ByBoth nodes e = Contains nodes e.0 × Contains nodes e.1

pairs_by : (nodes ks : List ℕ) → ((m : ℕ) → Contains ks m → Contains nodes m) → All (ByBoth nodes) (pairs_of ks)
pairs_by nodes [] among = All-nil (ByBoth nodes)
pairs_by nodes (k ∷ ks) among =
    All-append (ByBoth nodes) (map (λ m. (k, m)) ks) (pairs_of ks)
    (All-map (ByBoth nodes) (λ m. (k, m)) ks (All-from_contains (λ m. ByBoth nodes (k, m)) ks
    (λ m c. (among k (Contains-head k ks), among m (Contains-later k ks m c)))))
    (pairs_by nodes ks (λ m c. among m (Contains-later k ks m c)))

pub edges_by : (p : Problem) (c : ℕ × ℕ) → All (ByBoth p.candidates) (core_edges p c)
unfolding core_edges
edges_by p c =
    All-append (ByBoth p.candidates) (map (λ k. (k, k)) p.candidates) (filter (is_needed p c) (pairs_of p.candidates))
    (All-map (ByBoth p.candidates) (λ k. (k, k)) p.candidates
    (All-from_contains (λ k. ByBoth p.candidates (k, k)) p.candidates (λ k here. (here, here))))
    (All-filter (is_needed p c) (ByBoth p.candidates) (pairs_of p.candidates) (pairs_by p.candidates p.candidates (λ m here. here)))

ways_by : (nodes : List ℕ) (edges : List (ℕ × ℕ)) (numbers : List ℤ) → All (ByBoth nodes) edges
    → All (λ (way : Way). Contains nodes way.0 × Contains nodes way.1) (ways_of edges numbers)
ways_by nodes [] numbers each = All-nil (λ (way : Way). Contains nodes way.0 × Contains nodes way.1)
ways_by nodes (e ∷ edges) [] each = All-nil (λ (way : Way). Contains nodes way.0 × Contains nodes way.1)
ways_by nodes (e ∷ edges) (y ∷ numbers) each =
    All-cons (λ (way : Way). Contains nodes way.0 × Contains nodes way.1) (e.0, e.1, unsigned_abs y) (ways_of edges numbers)
    (All-head (ByBoth nodes) e edges each) (ways_by nodes edges numbers (All-tail (ByBoth nodes) e edges each))

-- ---- the last objective row

pub record IsLastRow (p : Problem) (hubs : List ℕ) (c : ℕ × ℕ) (row : List ℤ) (scale : ℕ) : Type 0 where
  pub some_scale : 1 ≤ scale
  pub scale_is : number row (length row - 2) ≡ pos scale
  pub combined : IsCombined (core_columns p hubs c) (core_rights p c) row
  pub low : (j : ℕ) → j + 2 < length row → pos 0 ≤ℤ number row j

pub columns_long : (p : Problem) (hubs : List ℕ) (c : ℕ × ℕ) → All (λ column. length column ≡ length (core_rights p c) + 1) (core_columns p hubs c)
columns_long p hubs c =
    let edges = core_edges p c in
    let turns = length p.candidates in
    let rights : length (core_rights p c) ≡ length edges = length-map edges (λ e. pos (edge_right p c e)) in
    All-cons (λ (column : List ℤ). length column ≡ length (core_rights p c) + 1) (price_column edges turns) (map (value_column edges hubs turns) p.candidates)
    (omega (arith, rights, length-append (map (λ (e : ℕ × ℕ). pos 1) edges) ((pos 0 -ℤ pos (2 + 2 * turns)) ∷ []), length-map edges (λ (e : ℕ × ℕ). pos 1)))
    (All-map (λ (column : List ℤ). length column ≡ length (core_rights p c) + 1) (value_column edges hubs turns) p.candidates
    (All-from_contains (λ k. length (value_column edges hubs turns k) ≡ length (core_rights p c) + 1) p.candidates (λ k here.
    omega (
      arith,
      rights,
      length-append (map (λ (e : ℕ × ℕ). pos 0 -ℤ pos (through e k)) edges) (pos (counts hubs turns k) ∷ []),
      length-map edges (λ (e : ℕ × ℕ). pos 0 -ℤ pos (through e k)),
    ))))

-- what is behind the variables, and what the columns make of it
record IsKeptRow (p : Problem) (hubs : List ℕ) (c : ℕ × ℕ) (row kept : List ℤ) (scale : ℕ) : Type 0 where
  long : length kept ≡ length (core_edges p c) + 2
  low : (j : ℕ) → j < length (core_edges p c) → pos 0 ≤ℤ number kept j
  v : number kept (length (core_edges p c)) ≡ pos scale
  price : pos 0 ≤ℤ dot kept (price_column (core_edges p c) (length p.candidates))
  values : (k : ℕ) → Contains p.candidates k → pos 0 ≤ℤ dot kept (value_column (core_edges p c) hubs (length p.candidates) k)
  right : right_side row ≡ dot kept (core_rights p c ++ pos 0 ∷ [])

kept_row : (p : Problem) (hubs : List ℕ) (c : ℕ × ℕ) (row : List ℤ) (scale : ℕ) → IsLastRow p hubs c row scale
    → IsKeptRow p hubs c row (drop (length p.candidates + 1) row) scale
kept_row p hubs c row scale last =
    let columns = core_columns p hubs c in
    let column = value_column (core_edges p c) hubs (length p.candidates) in
    let variables : length columns ≡ length p.candidates + 1 = omega (arith, length-map p.candidates column) in
    let rights : length (core_rights p c) ≡ length (core_edges p c) = length-map (core_edges p c) (λ e. pos (edge_right p c e)) in
    let row_long : length row ≡ length p.candidates + 1 + (length (core_edges p c) + 2) = omega (arith, last.combined.long, variables, rights) in
    let behind : drop (length columns) row ≡ drop (length p.candidates + 1) row = ap (λ n. drop n row) variables in
    let at = λ (j : ℕ). get_or-drop (length p.candidates + 1) row j (pos 0) in
    record {
      long = omega (arith, row_long, length-drop (length p.candidates + 1) row);
      low = λ j l. subst (λ (z : ℤ). pos 0 ≤ℤ z) (sym (at j)) (last.low (length p.candidates + 1 + j) (omega (arith, row_long)));
      v = at (length (core_edges p c)) ∙ ap (number row) (omega (arith, row_long)) ∙ last.scale_is;
      price = subst (λ (z : ℤ). pos 0 ≤ℤ z)
          (last.combined.variables 0 (omega (arith, variables)) ∙ ap (λ r. dot r (price_column (core_edges p c) (length p.candidates))) behind)
          (last.low 0 (omega (arith, row_long)));
      values = λ k here. (let x = here.0 in
          let is : get_or columns (suc x) [] ≡ column k =
          get_or_map column p.candidates x here.1 ∙ ap column (get_or_default p.candidates x 0 k here.1 ∙ here.2) in
          subst (λ (z : ℤ). pos 0 ≤ℤ z)
          (last.combined.variables (suc x) (omega (arith, variables, here.1)) ∙ ap (dot (drop (length columns) row)) is ∙ ap (λ r. dot r (column k)) behind)
          (last.low (suc x) (omega (arith, row_long, here.1))));
      right = last.combined.right ∙ ap (λ r. dot r (core_rights p c ++ pos 0 ∷ [])) behind;
    }
  where
    get_or_map : (f : ℕ → List ℤ) (ks : List ℕ) (x : ℕ) → x < length ks → get_or (map f ks) x [] ≡ f (get_or ks x 0)
    get_or_map f [] x l = absurd (omega arith)
    get_or_map f (k ∷ ks) zero l = refl
    get_or_map f (k ∷ ks) (suc x) l = get_or_map f ks x (omega arith)

-- what v's number takes of an objective's number
scaled : (y : ℤ) (scale n : ℕ) → y ≡ pos scale → y *ℤ (pos 0 -ℤ pos n) ≡ pos 0 -ℤ pos (scale * n)
scaled y scale n e = ap (λ z. z *ℤ (pos 0 -ℤ pos n)) e ∙ one_taken (pos scale) n (omega (arith, ints))

scaled_up : (y : ℤ) (scale n : ℕ) → y ≡ pos scale → y *ℤ pos n ≡ pos (scale * n)
scaled_up y scale n e = ap (λ z. z *ℤ pos n) e ∙ pos-*ℤ-pos scale n

enough_taken : (p : Problem) (hubs : List ℕ) (c : ℕ × ℕ) (row kept : List ℤ) (scale : ℕ) → IsKeptRow p hubs c row kept scale
    → scale * (2 + 2 * length p.candidates) ≤ taken (ways_of (core_edges p c) kept)
enough_taken p hubs c row kept scale is =
    let n = 2 + 2 * length p.candidates in
    let whole = dot_added (λ e. 1) (pos 0 -ℤ pos n) (core_edges p c) kept (omega (arith, is.long)) is.low in
    let by_v = scaled (number kept (length (core_edges p c))) scale n is.v in
    omega (arith, ints, whole, by_v, is.price, taken_is (ways_of (core_edges p c) kept))

within_counts : (p : Problem) (hubs : List ℕ) (c : ℕ × ℕ) (row kept : List ℤ) (scale k : ℕ) → IsKeptRow p hubs c row kept scale
    → Contains p.candidates k → taken_through (ways_of (core_edges p c) kept) k ≤ scale * counts hubs (length p.candidates) k
within_counts p hubs c row kept scale k is here =
    let n = counts hubs (length p.candidates) k in
    let whole = dot_taken (λ e. through e k) (pos n) (core_edges p c) kept (omega (arith, is.long)) is.low in
    let by_v = scaled_up (number kept (length (core_edges p c))) scale n is.v in
    omega (arith, ints, whole, by_v, is.values k here, through_is k (ways_of (core_edges p c) kept))

pub row_covers : (p : Problem) (hubs : List ℕ) (c : ℕ × ℕ) (row : List ℤ) (scale : ℕ) → IsHubSet p hubs → IsLastRow p hubs c row scale
    → IsBestCover p hubs c row scale
row_covers p hubs c row scale set last =
    let turns = length p.candidates in
    let kept = drop (turns + 1) row in
    let is = kept_row p hubs c row scale last in
    let ways = ways_of (core_edges p c) kept in
    let whole = dot_added (edge_right p c) (pos 0) (core_edges p c) kept (omega (arith, is.long)) is.low in
    record {
      scale_is = last.scale_is;
      cover = record {
        some_scale = last.some_scale;
        by_candidates = ways_by p.candidates (core_edges p c) kept (edges_by p c);
        enough = enough_taken p hubs c row kept scale is;
        at_hubs = All-from_contains (λ k. taken_through ways k ≤ scale * (1 + 2 * turns)) hubs (λ k hub.
            (let within = within_counts p hubs c row kept scale k is (All-contains (Contains p.candidates) hubs k set.are_candidates hub) in
            rw (is_in-yes hubs k hub) at within));
        elsewhere = All-from_contains (λ k. (Contains hubs k → ⊥) → taken_through ways k ≤ scale) p.candidates (λ k here none.
            (let within = within_counts p hubs c row kept scale k is here in
            omega (arith, rw (is_in-no hubs k none) at within)));
      };
      right_is = omega (arith, ints, is.right, whole, *ℤ-zero (number kept (length (core_edges p c))));
    }

pub best_is_cover : (p : Problem) (hubs : List ℕ) (c : ℕ × ℕ) → IsHubSet p hubs → IsNarrowCore p hubs c
    → (run (core_table p hubs c)).ended ≡ Best
    → (scale : ℕ) × IsBestCover p hubs c (objective (run (core_table p hubs c)).table) scale
unfolding core_table
best_is_cover p hubs c set narrow best =
    let t = start (core_columns p hubs c) (core_rights p c) in
    let first = first_is_table (core_columns p hubs c) (core_rights p c) narrow.columns narrow.rights in
    let end = objective_last t first.table first.of_objective in
    let row = objective (run t).table in
    let size = positive_size (number row (length row - 2)) end.1.own in
    let combined = All-get_or (IsCombined (core_columns p hubs c) (core_rights p c)) (run t).table.rows (length (run t).table.basis) []
    (omega (arith, end.0.one_objective)) (run_combines (core_columns p hubs c) (core_rights p c) narrow.columns narrow.rights (columns_long p hubs c)) in
    (size.0, row_covers p hubs c row size.0 set (record { some_scale = size.1; scale_is = size.2; combined = combined; low = λ j l. best_low t j best l }))
