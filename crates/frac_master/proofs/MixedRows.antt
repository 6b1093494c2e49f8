-- What weights of the cuts and surpluses of the free nodes take of each row of a master.
use Rattle.std.proofs.Common.{◌≡◌, ◌≢◌, ℕ, ◌+◌, ◌*◌, ◌<◌, ◌≤◌, List, [], ◌++◌, map, length, ℤ, pos, ◌+ℤ◌, ◌-ℤ◌, ◌*ℤ◌, neg_ℤ, sym, ap, ap₂, ◌∙◌, ⊎_elim, arith}
use Rattle.std.specs.Prelude.{slice_index, slice_index_or}
use Rattle.std.specs.List.{range_with_len, sum}
use Rattle.std.proofs.Math.Nat.{mul_comm}
use Rattle.std.proofs.Math.IntN.{*ℤ-zero, *ℤ_comm, pos-*ℤ-pos}
use Rattle.std.proofs.lemmas.Int.{ints}
use Rattle.std.proofs.lemmas.Bool.{cases_lt}
use Rattle.std.proofs.lemmas.List.{length-map, length-append, map-append, get_or-map, get_or_past}
use Rattle.std.proofs.lemmas.List.FromFn.{get_or-map-range_with_len}
use Rattle.hub_spec.specs.Sums.{sum_ints}
use Rattle.hub_spec.specs.Trees.{Branching}
use Rattle.frac_rows.specs.Rows.{number}
use Rattle.frac_rows.specs.Stored.{dot}
use Rattle.frac_rows.proofs.Integers.{neg_ℤ-*ℤ}
use Rattle.frac_rows.proofs.ListProducts.{dot_none, dot_one}
use Rattle.frac_master.specs.Masters.{MasterNumbers, cut_column, surplus_column, cut_columns, surplus_columns, rights_of, master_columns, halvings_of}
use Rattle.frac_master.specs.Theorems.{scaled_load, mixed_loads, scaled_worth, mixed_worth}
use Rattle.frac_master.proofs.IntegerSums.{dot_joined, sums_agree, sum_of_naturals, sum_negated, sum_by_places, sum_of_columns}
use Rattle.frac_master.proofs.MasterColumns.{length-cut_columns, length-surplus_columns}
use Rattle.frac_master.proofs.MasterRows.{cut_load, cut_one, cut_lost, surplus_own, surplus_other, surplus_lost}

-- the columns of the variables
abbrev pub columns_of_master : MasterNumbers → Branching → List (List ℤ)
columns_of_master m b = master_columns (halvings_of m b) b m.totals m.loads

abbrev pub rights_of_master : MasterNumbers → Branching → List ℤ
rights_of_master m b = rights_of (halvings_of m b) m.fixed b.free

-- the numbers of the variables in the row i
abbrev pub of_variables : MasterNumbers → Branching → ℕ → List ℤ
of_variables m b i = map (λ (column : List ℤ). number column i) (columns_of_master m b)

-- the values of the variables
abbrev pub mix_values : List ℕ → List ℕ → List ℤ
mix_values weights surpluses = map pos weights ++ map pos surpluses

pub length-mix_values : (m : MasterNumbers) (b : Branching) (weights surpluses : List ℕ) → length weights ≡ length m.totals → length surpluses ≡ length b.free
    → length (mix_values weights surpluses) ≡ length m.totals + length b.free
length-mix_values m b weights surpluses one_each one_surplus_each =
    omega (
      arith,
      length-append (map pos weights) (map pos surpluses),
      length-map weights pos,
      length-map surpluses pos,
      one_each,
      one_surplus_each,
    )

module _ (m : MasterNumbers) (b : Branching) (weights surpluses : List ℕ) (one_each : length weights ≡ length m.totals)
    (one_surplus_each : length surpluses ≡ length b.free) where
  abbrev h : ℕ
  h = halvings_of m b

  abbrev n : ℕ
  n = length b.free

  abbrev cuts : List ℕ
  cuts = range_with_len 0 (length m.totals)

  abbrev of_cut : ℕ → List ℤ
  of_cut c = cut_column h b (slice_index m.totals c) (slice_index_or m.loads c [])

  -- the numbers of the surpluses in the row i
  abbrev of_surpluses : ℕ → List ℤ
  of_surpluses i = map (λ (column : List ℤ). number column i) (surplus_columns n)

  taken : (i : ℕ) → dot (of_variables m b i) (mix_values weights surpluses)
      ≡ sum_ints (λ c. number (of_cut c) i *ℤ pos (slice_index weights c)) cuts +ℤ dot (of_surpluses i) (map pos surpluses)
  unfolding cut_columns
  taken i =
      let f = λ (column : List ℤ). number column i in
      ap (λ xs. dot xs (mix_values weights surpluses)) (map-append f (cut_columns h b m.totals m.loads) (surplus_columns n))
      ∙ dot_joined (map f (cut_columns h b m.totals m.loads)) (map f (surplus_columns n)) (map pos weights) (map pos surpluses)
      (omega (arith, length-map (cut_columns h b m.totals m.loads) f, length-cut_columns h b m.totals m.loads, length-map weights pos, one_each))
      ∙ ap (λ z. z +ℤ dot (map f (surplus_columns n)) (map pos surpluses)) (sum_of_columns of_cut i (length m.totals) weights one_each)

  surplus_at : (j i : ℕ) → j < n → number (of_surpluses i) j ≡ number (surplus_column n j) i
  unfolding surplus_columns
  surplus_at j i low =
      get_or-map (λ (column : List ℤ). number column i) (surplus_columns n) j [] (pos 0) (omega (arith, length-surplus_columns n))
      ∙ ap (λ (column : List ℤ). number column i) (get_or-map-range_with_len (surplus_column n) 0 n j j [] low (omega arith))

  surplus_past : (j i : ℕ) → n ≤ j → number (of_surpluses i) j ≡ pos 0
  surplus_past j i past =
      get_or_past (of_surpluses i) j (pos 0) (omega (arith, length-map (surplus_columns n) (λ (column : List ℤ). number column i), length-surplus_columns n))

  -- in the row of a free node: its own surplus alone
  no_other : (i j : ℕ) → i < n + 1 → j ≢ i → number (of_surpluses i) j *ℤ number (map pos surpluses) j ≡ pos 0
  no_other i j low other =
      let none : number (of_surpluses i) j ≡ pos 0 =
      ⊎_elim (λ less. surplus_at j i less ∙ surplus_other n j i low (λ e. other (sym e))) (λ past. surplus_past j i past) (cases_lt j n) in
      ap (λ z. z *ℤ number (map pos surpluses) j) none ∙ *ℤ_comm (pos 0) (number (map pos surpluses) j) ∙ *ℤ-zero (number (map pos surpluses) j)

  own_surplus : (j : ℕ) → j < n → dot (of_surpluses j) (map pos surpluses) ≡ neg_ℤ (pos (slice_index surpluses j))
  own_surplus j low =
      let s = slice_index surpluses j in
      dot_one (of_surpluses j) (map pos surpluses) j
      (omega (arith, length-map (surplus_columns n) (λ (column : List ℤ). number column j), length-surplus_columns n))
      (omega (arith, length-map surpluses pos, one_surplus_each)) (λ k other. no_other j k (omega arith) other)
      ∙ ap₂ ◌*ℤ◌ (surplus_at j j low ∙ surplus_own n j low) (get_or-map pos surpluses j 0 (pos 0) (omega (arith, one_surplus_each)))
      ∙ neg_ℤ-*ℤ (pos 1) (pos s) ∙ ap neg_ℤ (pos-*ℤ-pos 1 s) ∙ omega (arith, ints)

  of_load : (j : ℕ) → j < n → sum_ints (λ c. number (of_cut c) j *ℤ pos (slice_index weights c)) cuts ≡ pos (mixed_loads m b weights (slice_index b.free j))
  of_load j low =
      let k = slice_index b.free j in
      sums_agree (λ c. number (of_cut c) j *ℤ pos (slice_index weights c)) (λ c. pos (slice_index weights c * scaled_load m b k c)) cuts
      (λ c.
      ap (λ z. z *ℤ pos (slice_index weights c)) (cut_load h b (slice_index m.totals c) (slice_index_or m.loads c []) j low)
      ∙ pos-*ℤ-pos (scaled_load m b k c) (slice_index weights c) ∙ ap pos (mul_comm (scaled_load m b k c) (slice_index weights c)))
      ∙ sum_of_naturals (λ c. slice_index weights c * scaled_load m b k c) cuts

  -- in the row of the j-th free node
  pub in_free_row : (j : ℕ) → j < length b.free
      → dot (of_variables m b j) (mix_values weights surpluses) ≡ pos (mixed_loads m b weights (slice_index b.free j)) -ℤ pos (slice_index surpluses j)
  in_free_row j low = omega (arith, ints, taken j, of_load j low, own_surplus j low)

  of_sum : sum_ints (λ c. number (of_cut c) n *ℤ pos (slice_index weights c)) cuts ≡ pos (sum weights)
  of_sum =
      sums_agree (λ c. number (of_cut c) n *ℤ pos (slice_index weights c)) (λ c. pos (slice_index weights c)) cuts
      (λ c.
      ap (λ z. z *ℤ pos (slice_index weights c)) (cut_one h b (slice_index m.totals c) (slice_index_or m.loads c []))
      ∙ pos-*ℤ-pos 1 (slice_index weights c) ∙ omega (arith, ints))
      ∙ sum_of_naturals (slice_index weights) cuts ∙ ap pos (sum_by_places weights (length m.totals) one_each)

  no_surplus : dot (of_surpluses n) (map pos surpluses) ≡ pos 0
  no_surplus =
      dot_none (of_surpluses n) (map pos surpluses)
      (λ j.
      ⊎_elim (λ less. no_other n j (omega arith) (λ e. absurd (omega arith)))
      (λ past.
      ap (λ z. z *ℤ number (map pos surpluses) j) (surplus_past j n past) ∙ *ℤ_comm (pos 0) (number (map pos surpluses) j) ∙ *ℤ-zero (number (map pos surpluses) j))
      (cases_lt j n))

  -- in the row of the weights' sum
  pub in_sum_row : dot (of_variables m b (length b.free)) (mix_values weights surpluses) ≡ pos (sum weights)
  in_sum_row = omega (arith, ints, taken n, of_sum, no_surplus)

  of_worths : sum_ints (λ c. number (of_cut c) (n + 1) *ℤ pos (slice_index weights c)) cuts
      ≡ neg_ℤ (sum_ints (λ c. pos (slice_index weights c) *ℤ scaled_worth m b c) cuts)
  of_worths =
      sums_agree (λ c. number (of_cut c) (n + 1) *ℤ pos (slice_index weights c)) (λ c. neg_ℤ (pos (slice_index weights c) *ℤ scaled_worth m b c)) cuts
      (λ c.
      ap (λ z. z *ℤ pos (slice_index weights c)) (cut_lost h b (slice_index m.totals c) (slice_index_or m.loads c []))
      ∙ neg_ℤ-*ℤ (scaled_worth m b c) (pos (slice_index weights c)) ∙ ap neg_ℤ (*ℤ_comm (scaled_worth m b c) (pos (slice_index weights c))))
      ∙ sum_negated (λ c. pos (slice_index weights c) *ℤ scaled_worth m b c) cuts

  all_surpluses : dot (of_surpluses (n + 1)) (map pos surpluses) ≡ pos (sum surpluses)
  unfolding surplus_columns
  all_surpluses =
      sum_of_columns (surplus_column n) (n + 1) n surpluses one_surplus_each
      ∙ sums_agree (λ j. number (surplus_column n j) (n + 1) *ℤ pos (slice_index surpluses j)) (λ j. pos (slice_index surpluses j)) (range_with_len 0 n)
      (λ j. ap (λ z. z *ℤ pos (slice_index surpluses j)) (surplus_lost n j) ∙ pos-*ℤ-pos 1 (slice_index surpluses j) ∙ omega (arith, ints))
      ∙ sum_of_naturals (slice_index surpluses) (range_with_len 0 n) ∙ ap pos (sum_by_places surpluses n one_surplus_each)

  -- in the objective row
  pub in_objective_row : dot (of_variables m b (length b.free + 1)) (mix_values weights surpluses) ≡ neg_ℤ (mixed_worth m b weights surpluses)
  in_objective_row = omega (arith, ints, taken (n + 1), of_worths, all_surpluses)
