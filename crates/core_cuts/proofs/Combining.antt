-- Rows stay combinations of the first rows through a run.
use Rattle.std.proofs.Common.{◌≡◌, ℕ, zero, suc, ◌+◌, ◌-◌, ◌<◌, ◌≤◌, List, [], ◌∷◌, ◌++◌, map, length, drop, get_or, All, ℤ, pos, ◌-ℤ◌, ◌*ℤ◌, ◌≤ℤ◌, refl, sym, ap, ap₂, ◌∙◌, subst, ⊎_elim, arith}
use Rattle.std.specs.List.{range_with_len}
use Rattle.std.proofs.lemmas.Int.{ints, by_lt_z}
use Rattle.std.proofs.lemmas.Bool.{cases_eq}
use Rattle.std.proofs.lemmas.List.{length-append}
use Rattle.std.proofs.lemmas.List.Elements.{All-get_or, All-from_get_or, All-head, All-tail, All-map, All-weaker}
use Rattle.frac_rows.specs.Divisors.{reduced}
use Rattle.frac_rows.specs.Rows.{Table, number, row_at, eliminated, pivoted, after_pivot, AreNarrow, IsTable}
use Rattle.frac_rows.specs.Runs.{most_pivots, run}
use Rattle.frac_rows.specs.Starts.{own_numbers, start_row, start}
use Rattle.frac_rows.specs.Stored.{dot, extended}
use Rattle.frac_rows.specs.Theorems.{IsPlace}
use Rattle.frac_rows.proofs.Integers.{times-lt}
use Rattle.frac_rows.proofs.Quotients.{scale, scale_low, times-reduced, length-reduced}
use Rattle.frac_rows.proofs.Linear.{dot-times, length-extended, length-eliminated, number-eliminated, dot-eliminated, extended-eliminated}
use Rattle.frac_rows.proofs.Ratios.{number_is}
use Rattle.frac_rows.proofs.Refined.{reduced-extended}
use Rattle.frac_rows.proofs.Pivots.{length_after, base_after, other_after}
use Rattle.frac_rows.proofs.RunMoves.{IsFirstAt, run_keeps}
use Rattle.frac_rows.proofs.FirstRows.{length-own_numbers, own_right, dot-own_numbers}
use Rattle.frac_rows.proofs.FirstTables.{first_is_table}
use Rattle.core_cuts.specs.Combined.{IsCombined}

pub equal_from_times : (s : ℕ) (a b : ℤ) → 1 ≤ s → pos s *ℤ a ≡ pos s *ℤ b → a ≡ b
equal_from_times s a b some e =
    let low : a ≤ℤ b = by_lt_z {P = a ≤ℤ b} b a (λ less. let m = times-lt s b a some less in absurd (omega (arith, ints, m, e))) (λ le. le) in
    let high : b ≤ℤ a = by_lt_z {P = b ≤ℤ a} a b (λ less. let m = times-lt s a b some less in absurd (omega (arith, ints, m, e))) (λ le. le) in
    omega (arith, ints, low, high)

-- a row by its numbers behind the variables
pub record IsMade (columns : List (List ℤ)) (rights row : List ℤ) : Type 0 where
  pub kept : List ℤ
  pub is : row ≡ extended columns kept
  pub long : length kept ≡ length rights + 2
  pub right : number kept (length rights + 1) ≡ dot kept (rights ++ pos 0 ∷ [])

-- what is eliminated from kept parts has the same right side by its slacks
right_eliminated : (p e : ℤ) (kept base column : List ℤ) (k : ℕ) → length kept ≡ length base
    → number kept k ≡ dot kept column → number base k ≡ dot base column
    → number (reduced (eliminated p kept e base)) k ≡ dot (reduced (eliminated p kept e base)) column
right_eliminated p e kept base column k long of_kept of_base =
    let z = eliminated p kept e base in
    let whole : number z k ≡ dot z column =
    number-eliminated p kept e base k long ∙ ap₂ (λ x y. p *ℤ x -ℤ e *ℤ y) of_kept of_base ∙ sym (dot-eliminated p kept e base column long) in
    let one : number z k ≡ pos (scale z) *ℤ number (reduced z) k = number_is z k in
    let other : dot z column ≡ pos (scale z) *ℤ dot (reduced z) column =
    ap (λ row. dot row column) (sym (times-reduced z)) ∙ dot-times (pos (scale z)) (reduced z) column in
    equal_from_times (scale z) (number (reduced z) k) (dot (reduced z) column) (scale_low z) (sym one ∙ whole ∙ other)

made_pivoted : (columns : List (List ℤ)) (rights base row : List ℤ) (c : ℕ) → IsMade columns rights base → IsMade columns rights row
    → IsMade columns rights (pivoted base c row)
unfolding pivoted
made_pivoted columns rights base row c of_base of_row =
    let p = number base c in
    let e = number row c in
    let z = eliminated p of_row.kept e of_base.kept in
    let long : length of_row.kept ≡ length of_base.kept = of_row.long ∙ sym of_base.long in
    record {
      kept = reduced z;
      is = ap₂ (λ r b. reduced (eliminated p r e b)) of_row.is of_base.is
          ∙ ap reduced (extended-eliminated columns p of_row.kept e of_base.kept long) ∙ reduced-extended columns z;
      long = length-reduced z ∙ length-eliminated p of_row.kept e of_base.kept long ∙ of_row.long;
      right = right_eliminated p e of_row.kept of_base.kept (rights ++ pos 0 ∷ []) (length rights + 1) long of_row.right of_base.right;
    }

AreMade : List (List ℤ) → List ℤ → Table → Type 0
AreMade columns rights t = All (IsMade columns rights) t.rows

made_after : (columns : List (List ℤ)) (rights : List ℤ) (t : Table) (r c : ℕ) → IsTable t → IsPlace t r c → IsFirstAt t r c
    → AreMade columns rights t → AreMade columns rights (after_pivot t r c)
unfolding AreMade
made_after columns rights t r c table place first made =
    let constraint : r < length t.rows = omega (arith, table.one_objective, place.constraint) in
    let at = λ (i : ℕ) (l : i < length t.rows). All-get_or (IsMade columns rights) t.rows i [] l made in
    All-from_get_or (IsMade columns rights) (after_pivot t r c).rows [] (λ i l.
    let within : i < length t.rows = omega (arith, l, length_after t r c) in
    ⊎_elim
    (λ same. subst (IsMade columns rights) (sym (ap (row_at (after_pivot t r c)) same ∙ base_after t r c constraint)) (at r constraint))
    (λ other. subst (IsMade columns rights) (sym (other_after t r c i within other)) (made_pivoted columns rights (row_at t r) (row_at t i) c (at r constraint) (at i within)))
    (cases_eq i r))

-- ---- the first rows

made_first : (columns : List (List ℤ)) (rights : List ℤ) (i : ℕ) → All (λ column. length column ≡ length rights + 1) columns
    → IsMade columns rights (start_row columns rights i)
unfolding start_row extended
made_first columns rights i long = record {
  kept = own_numbers rights i;
  is = ap (λ row. row ++ own_numbers rights i) (numbers columns long);
  long = length-own_numbers rights i;
  right = own_right rights i (length rights + 1) refl ∙ sym (dot-own_numbers rights i (rights ++ pos 0 ∷ []) (omega (arith, length-append rights (pos 0 ∷ [])))
      ∙ number_front rights i);
}
  where
    numbers : (cs : List (List ℤ)) → All (λ column. length column ≡ length rights + 1) cs
        → map (λ column. number column i) cs ≡ map (dot (own_numbers rights i)) cs
    numbers [] each = refl
    numbers (c ∷ cs) each = ap₂ (λ x xs. x ∷ xs)
        (sym (dot-own_numbers rights i c (All-head (λ (column : List ℤ). length column ≡ length rights + 1) c cs each)))
        (numbers cs (All-tail (λ (column : List ℤ). length column ≡ length rights + 1) c cs each))

    number_front : (xs : List ℤ) (k : ℕ) → number (xs ++ pos 0 ∷ []) k ≡ number xs k
    number_front [] zero = refl
    number_front [] (suc k) = refl
    number_front (x ∷ xs) zero = refl
    number_front (x ∷ xs) (suc k) = number_front xs k

made_start : (columns : List (List ℤ)) (rights : List ℤ) → All (λ column. length column ≡ length rights + 1) columns
    → AreMade columns rights (start columns rights)
unfolding AreMade start
made_start columns rights long = each (range_with_len 0 (length rights + 1))
  where
    each : (is : List ℕ) → All (IsMade columns rights) (map (start_row columns rights) is)
    each is = All-map (IsMade columns rights) (start_row columns rights) is (λ k d l. made_first columns rights (get_or is k d) long)

-- ---- the last rows

pub number_mapped : (f : List ℤ → ℤ) (cs : List (List ℤ)) (kept : List ℤ) (j : ℕ) → j < length cs → number (map f cs ++ kept) j ≡ f (get_or cs j [])
number_mapped f [] kept j l = absurd (omega arith)
number_mapped f (c ∷ cs) kept zero l = refl
number_mapped f (c ∷ cs) kept (suc j) l = number_mapped f cs kept j (omega arith)

pub number_behind : (f : List ℤ → ℤ) (cs : List (List ℤ)) (kept : List ℤ) (k n : ℕ) → n ≡ length cs + k → number (map f cs ++ kept) n ≡ number kept k
number_behind f [] kept k n e = ap (number kept) (e ∙ omega arith)
number_behind f (c ∷ cs) kept k zero e = absurd (omega arith)
number_behind f (c ∷ cs) kept k (suc n) e = number_behind f cs kept k n (omega arith)

drop_mapped : (f : List ℤ → ℤ) (cs : List (List ℤ)) (kept : List ℤ) → drop (length cs) (map f cs ++ kept) ≡ kept
drop_mapped f [] kept = refl
drop_mapped f (c ∷ cs) kept = drop_mapped f cs kept

combined : (columns : List (List ℤ)) (rights row : List ℤ) → IsMade columns rights row → IsCombined columns rights row
unfolding extended
combined columns rights row made =
    let behind : drop (length columns) row ≡ made.kept =
    ap (drop (length columns)) made.is ∙ drop_mapped (dot made.kept) columns made.kept in
    let long : length row ≡ length columns + (length rights + 2) =
    ap length made.is ∙ length-extended columns made.kept ∙ ap (λ n. length columns + n) made.long in
    record {
      long = long;
      variables = λ j l. ap (λ r. number r j) made.is ∙ number_mapped (dot made.kept) columns made.kept j l
          ∙ ap (λ r. dot r (get_or columns j [])) (sym behind);
      right = ap (λ r. number r (length row - 1)) made.is
          ∙ number_behind (dot made.kept) columns made.kept (length rights + 1) (length row - 1) (omega (arith, long))
          ∙ made.right ∙ ap (λ r. dot r (rights ++ pos 0 ∷ [])) (sym behind);
    }

pub run_combines : (columns : List (List ℤ)) (rights : List ℤ) → All AreNarrow columns → AreNarrow rights
    → All (λ column. length column ≡ length rights + 1) columns
    → All (IsCombined columns rights) (run (start columns rights)).table.rows
unfolding run AreMade
run_combines columns rights narrow narrow_rights long =
    let first = first_is_table columns rights narrow narrow_rights in
    let kept = run_keeps (AreMade columns rights) (made_after columns rights) most_pivots 0 (start columns rights) first.table (made_start columns rights long) in
    All-weaker (IsMade columns rights) (IsCombined columns rights) (combined columns rights) (run (start columns rights)).table.rows kept.1
