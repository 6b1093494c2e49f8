-- The basic solution of the last table, as weights of the cuts and surpluses of the free nodes.
use Rattle.std.proofs.Common.{◌≡◌, ℕ, zero, suc, ◌+◌, ◌-◌, ◌*◌, ◌/◌, ◌<◌, List, [], ◌∷◌, ◌++◌, map, length, take, drop, ℤ, pos, ◌+ℤ◌, ◌*ℤ◌, ◌≤ℤ◌, sym, ap, ap₂, subst, ◌∙◌, arith}
use Rattle.std.specs.Prelude.{slice_index}
use Rattle.std.proofs.Math.IntN.{*ℤ-zero, pos-*ℤ-pos}
use Rattle.std.proofs.lemmas.Int.{ints}
use Rattle.std.proofs.lemmas.List.{length-map, length-drop, length-take-le, map-append, append_assoc, take-append-drop, take_at, get_or-map, get_or-take, get_or_past, get_or-append-add}
use Rattle.std.proofs.lemmas.List.Elements.{All-get_or}
use Rattle.std.proofs.lemmas.List.FromFn.{fill_by_all}
use Rattle.hub_spec.specs.Trees.{Branching}
use Rattle.hub_model.specs.Amounts.{natural}
use Rattle.frac_rows.specs.Rows.{number, right_side, objective, IsTable}
use Rattle.frac_rows.specs.Runs.{run}
use Rattle.frac_rows.specs.Starts.{own_numbers, start_row}
use Rattle.frac_rows.specs.Stored.{dot}
use Rattle.frac_rows.specs.Theorems.{Solves, IsSolution, IsBasicSolution}
use Rattle.frac_rows.proofs.FirstRows.{dot-own_numbers}
use Rattle.frac_rows.proofs.BasicSolutions.{some_basic_solution, solved_by, values_low}
use Rattle.frac_rows.proofs.LastSolutions.{solves_first}
use Rattle.frac_master.specs.Masters.{MasterNumbers, halved, halvings_of, master}
use Rattle.frac_master.specs.Advice.{whole_weight, advised_weight, advised_scale, advice}
use Rattle.frac_master.specs.Theorems.{IsScaledMix, mixed_worth, IsLastMix}
use Rattle.frac_master.proofs.IntegerSums.{dot_joined}
use Rattle.frac_master.proofs.MasterColumns.{length-master_columns, length-rights_of}
use Rattle.frac_master.proofs.LastTables.{last_width}
use Rattle.frac_master.proofs.BasicSolutions.{IsFeasible, feasible_last, natural_again, weight_is}
use Rattle.frac_master.proofs.MasterRows.{right_of_free, right_of_sum, start_right, master_row, master_constraints, master_width, master_feasible}
use Rattle.frac_master.proofs.MixedRows.{columns_of_master, rights_of_master, of_variables, mix_values, length-mix_values, in_free_row, in_sum_row, in_objective_row}

number_low : (xs : List ℕ) (i : ℕ) → pos 0 ≤ℤ number (map pos xs) i
number_low [] i = omega (arith, ints)
number_low (x ∷ xs) zero = omega (arith, ints)
number_low (x ∷ xs) (suc i) = number_low xs i

-- ---- natural values that solve a master

module _ (m : MasterNumbers) (b : Branching) (xs : List ℕ) (denom : ℕ) (solution : IsSolution (master m b) (map pos xs) denom) where
  abbrev h : ℕ
  h = halvings_of m b

  abbrev cuts : ℕ
  cuts = length m.totals

  abbrev n : ℕ
  n = length b.free

  abbrev weights : List ℕ
  weights = take (length m.totals) xs

  abbrev surpluses : List ℕ
  surpluses = take (length b.free) (drop (length m.totals) xs)

  -- the values of the slacks and of v
  abbrev behind : List ℤ
  behind = map pos (drop n (drop cuts xs))

  long : length xs ≡ cuts + n + (n + 2)
  long = omega (arith, solution.one_each, length-map xs pos, master_width m b)

  weights_long : length weights ≡ cuts
  weights_long = length-take-le cuts xs (omega (arith, long))

  surpluses_long : length surpluses ≡ n
  surpluses_long = length-take-le n (drop cuts xs) (omega (arith, long, length-drop cuts xs))

  behind_long : length behind ≡ n + 2
  behind_long = omega (arith, long, length-map (drop n (drop cuts xs)) pos, length-drop n (drop cuts xs), length-drop cuts xs)

  parts : map pos xs ≡ mix_values weights surpluses ++ behind
  parts =
      ap (map pos) (sym (take-append-drop cuts xs)) ∙ map-append pos weights (drop cuts xs)
      ∙ ap (λ zs. map pos weights ++ zs) (ap (map pos) (sym (take-append-drop n (drop cuts xs))) ∙ map-append pos surpluses (drop n (drop cuts xs)))
      ∙ sym (append_assoc (map pos weights) (map pos surpluses) behind)

  row_is : (i : ℕ) → i < n + 2 → IsTable (master m b)
      → dot (of_variables m b i) (mix_values weights surpluses) +ℤ number behind i ≡ pos denom *ℤ number (rights_of_master m b) i
  unfolding start_row
  row_is i low table =
      let columns = columns_of_master m b in
      let rights = rights_of_master m b in
      let f = λ (column : List ℤ). number column i in
      let solves : Solves (map pos xs) denom (start_row columns rights i) =
      rw (← master_row m b i (omega arith))
      (All-get_or (Solves (map pos xs) denom) (master m b).rows i [] (omega (arith, table.one_objective, master_constraints m b)) solution.solves) in
      let own : dot (own_numbers rights i) behind ≡ number behind i =
      dot-own_numbers rights i behind (omega (arith, behind_long, length-rights_of h m.fixed b.free)) in
      let joined : dot (start_row columns rights i) (mix_values weights surpluses ++ behind)
      ≡ dot (of_variables m b i) (mix_values weights surpluses) +ℤ dot (own_numbers rights i) behind =
      dot_joined (of_variables m b i) (own_numbers rights i) (mix_values weights surpluses) behind
      (omega (
        arith,
        length-map columns f,
        length-master_columns h b m.totals m.loads,
        length-mix_values m b weights surpluses weights_long surpluses_long,
      )) in
      let right : pos denom *ℤ right_side (start_row columns rights i) ≡ pos denom *ℤ number rights i = ap (λ z. pos denom *ℤ z) (start_right columns rights i) in
      let all : dot (start_row columns rights i) (mix_values weights surpluses ++ behind) ≡ pos denom *ℤ right_side (start_row columns rights i) =
      ap (dot (start_row columns rights i)) (sym parts) ∙ solves in
      omega (arith, ints, joined, own, right, all)

  -- the values of the variables
  pub front_is : take (length m.totals + length b.free) (map pos xs) ≡ map pos (take (length m.totals) xs ++ take (length b.free) (drop (length m.totals) xs))
  front_is =
      ap (take (cuts + n)) parts
      ∙ take_at (mix_values weights surpluses) behind (cuts + n) (length-mix_values m b weights surpluses weights_long surpluses_long)
      ∙ sym (map-append pos weights surpluses)

  pub is_mix : IsTable (master m b) → IsScaledMix m b (take (length m.totals) xs) (take (length b.free) (drop (length m.totals) xs)) denom
  is_mix table = record {
    one_each = weights_long;
    one_surplus_each = surpluses_long;
    most =
        let row = row_is n (omega arith) table in
        let right : pos denom *ℤ number (rights_of_master m b) n ≡ pos denom =
        ap (λ z. pos denom *ℤ z) (right_of_sum h m.fixed b.free) ∙ pos-*ℤ-pos denom 1 ∙ omega (arith, ints) in
        omega (arith, ints, row, right, in_sum_row m b weights surpluses weights_long surpluses_long, number_low (drop n (drop cuts xs)) n);
    paid =
        λ j low.
        let row = row_is j (omega arith) table in
        let f = halved h (slice_index m.fixed (slice_index b.free j)) in
        let right : pos denom *ℤ number (rights_of_master m b) j ≡ pos (denom * f) =
        ap (λ z. pos denom *ℤ z) (right_of_free h m.fixed b.free j low) ∙ pos-*ℤ-pos denom f in
        omega (arith, ints, row, right, in_free_row m b weights surpluses weights_long surpluses_long j low, number_low (drop n (drop cuts xs)) j);
  }

  -- v's value
  pub v_is : IsTable (master m b)
      → number (map pos xs) (length (objective (master m b)) - 2)
      ≡ mixed_worth m b (take (length m.totals) xs) (take (length b.free) (drop (length m.totals) xs))
  v_is table =
      let front = mix_values weights surpluses in
      let place : length (objective (master m b)) - 2 ≡ length front + (n + 1) =
      omega (arith, master_width m b, length-mix_values m b weights surpluses weights_long surpluses_long) in
      let row = row_is (n + 1) (omega arith) table in
      let right : pos denom *ℤ number (rights_of_master m b) (n + 1) ≡ pos 0 =
      ap (λ z. pos denom *ℤ z) (get_or_past (rights_of_master m b) (n + 1) (pos 0) (omega (arith, length-rights_of h m.fixed b.free))) ∙ *ℤ-zero (pos denom) in
      let last : number behind (n + 1) ≡ mixed_worth m b weights surpluses =
      omega (arith, ints, row, right, in_objective_row m b weights surpluses weights_long surpluses_long) in
      ap₂ (λ zs k. number zs k) parts place ∙ get_or-append-add front behind (n + 1) (pos 0) ∙ last

-- ---- the basic solution of the last table

module _ (m : MasterNumbers) (b : Branching) (table : IsTable (master m b)) (values : List ℤ) (denom : ℕ)
    (is : IsBasicSolution (run (master m b)).table values denom) where
  abbrev xs : List ℕ
  xs = map natural values

  feasible : IsFeasible (run (master m b)).table
  feasible = feasible_last (master m b) (master_feasible m b table)

  again : map pos xs ≡ values
  again = natural_again values (values_low (run (master m b)).table values denom feasible.pivotal feasible.rights_low is)

  first_solved : IsSolution (master m b) (map pos xs) denom
  first_solved =
      subst (λ zs. IsSolution (master m b) zs denom) (sym again)
      (solves_first (master m b) values denom table (solved_by (run (master m b)).table values denom feasible.pivotal is))

  worth_reached : advised_scale (run (master m b)).table
      *ℤ mixed_worth m b (take (length m.totals) xs) (take (length b.free) (drop (length m.totals) xs))
      ≡ pos denom *ℤ right_side (objective (run (master m b)).table)
  unfolding advised_scale
  worth_reached =
      let u = (run (master m b)).table in
      let v : number values (length (objective u) - 2) ≡ mixed_worth m b (take (length m.totals) xs) (take (length b.free) (drop (length m.totals) xs)) =
      ap₂ (λ zs w. number zs (w - 2)) (sym again) (last_width (master m b) table) ∙ v_is m b xs denom first_solved table in
      ap (λ z. number (objective u) (length (objective u) - 2) *ℤ z) (sym v) ∙ is.worth

  are_advised : (advice m b).weights ≡ map (λ w. whole_weight * w / denom) (take (length m.totals) xs)
  unfolding advice
  are_advised =
      let u = (run (master m b)).table in
      let share = λ (w : ℕ). whole_weight * w / denom in
      let cuts = length m.totals in
      let size = (is_mix m b xs denom first_solved table).one_each in
      sym (fill_by_all (advised_weight u) (map share (take cuts xs)) cuts 0 (length-map (take cuts xs) share ∙ size)
      (λ c low.
      get_or-map share (take cuts xs) c 0 0 (omega (arith, size)) ∙ ap share (get_or-take cuts xs c 0 low)
      ∙ ap share (get_or-map natural values c (pos 0) 0 (omega (arith, is.one_each, last_width (master m b) table, master_width m b)))
      ∙ sym (weight_is u values denom feasible is c (omega (arith, last_width (master m b) table, master_width m b)))))

  pub last_mix_is : IsLastMix m b (take (length m.totals) (map natural values)) (take (length b.free) (drop (length m.totals) (map natural values))) denom
  last_mix_is = record {
    above = is.above;
    basic = record {
      values = values;
      solution = is;
      variables = ap (take (length m.totals + length b.free)) (sym again) ∙ front_is m b xs denom first_solved;
    };
    mix = is_mix m b xs denom first_solved table;
    worth = worth_reached;
    advised = are_advised;
  }

-- the last table of a master within the limits has such a mix
pub last_mix : (m : MasterNumbers) (b : Branching) → IsTable (master m b)
    → (weights : List ℕ) × (surpluses : List ℕ) × (denom : ℕ) × IsLastMix m b weights surpluses denom
last_mix m b table =
    let u = (run (master m b)).table in
    let are = feasible_last (master m b) (master_feasible m b table) in
    let found = some_basic_solution u are.pivotal.table are.pivotal.basic are.pivotal.of_objective in
    let xs = map natural found.0 in
    (take (length m.totals) xs, take (length b.free) (drop (length m.totals) xs), found.1, last_mix_is m b table found.0 found.1 found.2)
