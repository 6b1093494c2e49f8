-- The lines of an origin's duals, one after another or run by run.
use Rattle.std.proofs.Common.{◌≡◌, ◌≢◌, ℕ, zero, suc, ◌+◌, ◌-◌, ◌<◌, ◌≤◌, ℤ, List, [], ◌∷◌, ◌++◌, drop, flat_map, get_or, replicate, refl, sym, ap, subst, ◌∙◌, append-nil, arith}
use Rattle.std.proofs.lemmas.List.{drop_more, drop_all}
use Rattle.hub_spec.specs.Cuts.{Prices}
use Rattle.hub_model.specs.Prices.{natural_values, signed_values}
use Rattle.cert_spec.specs.Lines.{says_dual}
use Rattle.cert_spec.specs.Text.{line_bytes}
use Rattle.cert_format.specs.DualItems.{row_items_from, no_dual, BeginsOther, IsRunAt, row_of}
use Rattle.cert_format.proofs.CutLines.{length_row_of, row_at}
use Rattle.cert_format.proofs.DualRows.{next_line, next_text, no_lines}

-- the text of the lines of the duals of the commodities from i, of which the one to j is the first
abbrev pub text_from : (v n : ℕ) → (ℕ × ℕ → Prices) → (i j : ℕ) → List ℕ
text_from v n d i j = flat_map line_bytes (row_items_from v n i j (drop j (row_of n d i)))

next_dual : (n : ℕ) (d : ℕ × ℕ → Prices) (i j : ℕ) → j < n → drop j (row_of n d i) ≡ d (i, j) ∷ drop (j + 1) (row_of n d i)
next_dual n d i j less =
    drop_more (row_of n d i) j no_dual (omega (arith, less, length_row_of n d i))
    ∙ ap (λ dual. dual ∷ drop (j + 1) (row_of n d i)) (row_at n d i j no_dual less)

-- ---- one line each, in the first version

one_alone : (n : ℕ) (d : ℕ × ℕ → Prices) (i j : ℕ) → j < n → IsRunAt 1 (row_of n d i) j 1
one_alone n d i j less = record {
  equal = record {
    some = omega arith;
    within = omega (arith, less, length_row_of n d i);
    same = drop_more (row_of n d i) j no_dual (omega (arith, less, length_row_of n d i));
  };
  first = λ one. refl;
  later = λ other. absurd (other refl);
}

pub each_text : (n : ℕ) (d : ℕ × ℕ → Prices) (i j : ℕ) (made : Prices) {price : ℕ} (values : List (ℕ × ℤ)) → j < n → made ≡ d (i, j)
    → price ≡ made.a → values ≡ signed_values made.u
    → line_bytes (says_dual (i, j) 1 (record { a = price; u = natural_values values })) ++ text_from 1 n d i (j + 1) ≡ text_from 1 n d i j
each_text n d i j made values less is same listed =
    next_text 1 n i j 1 (row_of n d i) made values (length_row_of n d i) (one_alone n d i j less) (is ∙ sym (row_at n d i j made less)) same listed

pub each_end : (v n : ℕ) (d : ℕ × ℕ → Prices) (i j : ℕ) → n ≤ j → [] ≡ text_from v n d i j
each_end v n d i j past = ap (flat_map line_bytes) (sym (no_lines v n i j (row_of n d i) (omega (arith, past, length_row_of n d i))))

-- ---- runs, in the second version

-- this dual is that of each commodity from i, from the one to first on up to the one to j
pub record IsRunOf (n : ℕ) (d : ℕ × ℕ → Prices) (i first j : ℕ) (dual : Prices) : Type 0 where
  pub some : first < j
  pub within : j ≤ n
  pub is_first : dual ≡ d (i, first)
  pub same : drop first (row_of n d i) ≡ replicate (j - first) dual ++ drop j (row_of n d i)

pub run_begins : (n : ℕ) (d : ℕ × ℕ → Prices) (i j : ℕ) (held : Prices) → j < n → held ≡ d (i, j) → IsRunOf n d i j (j + 1) held
run_begins n d i j held less is =
    let one : j + 1 - j ≡ 1 = omega arith in
    record {
      some = omega arith;
      within = omega (arith, less);
      is_first = is;
      same = next_dual n d i j less ∙ ap (λ dual. dual ∷ drop (j + 1) (row_of n d i)) (sym is)
          ∙ ap (λ m. replicate m held ++ drop (j + 1) (row_of n d i)) (sym one);
    }

replicate_more : (m : ℕ) (x : Prices) (ys : List Prices) → replicate m x ++ x ∷ ys ≡ replicate (m + 1) x ++ ys
replicate_more zero x ys = refl
replicate_more (suc m) x ys =
    let next : suc (m + 1) ≡ suc m + 1 = omega arith in
    ap (λ zs. x ∷ zs) (replicate_more m x ys) ∙ ap (λ k. replicate k x ++ ys) next

pub run_grows : (n : ℕ) (d : ℕ × ℕ → Prices) (i first j : ℕ) (held : Prices) → j < n → held ≡ d (i, j) → IsRunOf n d i first j held
    → IsRunOf n d i first (j + 1) held
run_grows n d i first j held less is run =
    let more : j - first + 1 ≡ j + 1 - first = omega (arith, run.some) in
    let later = drop (j + 1) (row_of n d i) in
    record {
      some = omega (arith, run.some);
      within = omega (arith, less);
      is_first = run.is_first;
      same = run.same ∙ ap (λ ds. replicate (j - first) held ++ ds) (next_dual n d i j less ∙ ap (λ dual. dual ∷ later) (sym is))
          ∙ replicate_more (j - first) held later ∙ ap (λ m. replicate m held ++ later) more;
    }

said : (n : ℕ) (d : ℕ × ℕ → Prices) (i first j run : ℕ) (held : Prices) → run ≡ j - first → IsRunOf n d i first j held
    → BeginsOther held (drop j (row_of n d i)) → IsRunAt 2 (row_of n d i) first run
said n d i first j run held long is other =
    let row = row_of n d i in
    let end : first + run ≡ j = omega (arith, long, is.some) in
    let at : get_or row first no_dual ≡ held = row_at n d i first no_dual (omega (arith, is.some, is.within)) ∙ sym is.is_first in
    record {
      equal = record {
        some = omega (arith, long, is.some);
        within = omega (arith, end, is.within, length_row_of n d i);
        same = is.same ∙ (λ t. replicate (sym long t) (sym at t) ++ drop (sym end t) row);
      };
      first = λ one. absurd (omega (arith, one));
      later = λ second. subst (λ (e : Prices). BeginsOther e (drop (first + run) row)) (sym at)
          (subst (λ (m : ℕ). BeginsOther held (drop m row)) (sym end) other);
    }

run_text : (n : ℕ) (d : ℕ × ℕ → Prices) (i first j run : ℕ) (held : Prices) → run ≡ j - first → IsRunOf n d i first j held
    → BeginsOther held (drop j (row_of n d i))
    → line_bytes (says_dual (i, first) run held) ++ text_from 2 n d i j ≡ text_from 2 n d i first
run_text n d i first j run held long is other =
    let row = row_of n d i in
    let end : first + run ≡ j = omega (arith, long, is.some) in
    let at : get_or row first no_dual ≡ held = row_at n d i first no_dual (omega (arith, is.some, is.within)) ∙ sym is.is_first in
    (λ t. line_bytes (says_dual (i, first) run (sym at t)) ++ flat_map line_bytes (row_items_from 2 n i (sym end t) (drop (sym end t) row)))
    ∙ ap (flat_map line_bytes) (sym (next_line 2 n i first run row (length_row_of n d i) (said n d i first j run held long is other)))

-- the next dual is another
pub run_ended : (n : ℕ) (d : ℕ × ℕ → Prices) (i first j run : ℕ) (held : Prices) → run ≡ j - first → IsRunOf n d i first j held → j < n
    → held ≢ d (i, j) → line_bytes (says_dual (i, first) run held) ++ text_from 2 n d i j ≡ text_from 2 n d i first
run_ended n d i first j run held long is less other =
    run_text n d i first j run held long is (subst (BeginsOther held) (sym (next_dual n d i j less)) other)

-- there is no next one
pub run_last : (n : ℕ) (d : ℕ × ℕ → Prices) (i first j run : ℕ) (held : Prices) → run ≡ n - first → IsRunOf n d i first j held → n ≤ j
    → line_bytes (says_dual (i, first) run held) ≡ text_from 2 n d i first
run_last n d i first j run held long is past =
    let end : j ≡ n = omega (arith, past, is.within) in
    let none : [] ≡ drop j (row_of n d i) = sym (drop_all j (row_of n d i) (omega (arith, past, length_row_of n d i))) in
    sym (append-nil (line_bytes (says_dual (i, first) run held)))
    ∙ ap (λ bytes. line_bytes (says_dual (i, first) run held) ++ bytes) (each_end 2 n d i j past)
    ∙ run_text n d i first j run held (long ∙ ap (λ m. m - first) (sym end)) is (subst (BeginsOther held) none tt)
