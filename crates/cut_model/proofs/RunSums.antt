-- The sums of a cut's prices and values, run by run.
use Rattle.std.proofs.Common.{◌≡◌, ℕ, ◌+◌, ◌*◌, ◌^◌, ◌<◌, ◌≤◌, List, [], ◌∷◌, length, get_or, take, map, sum_by, nat_eq, All, refl, sym, ap, ap₂, subst, ◌∙◌, arith}
use Rattle.std.proofs.Math.Nat.{mul-le-mul_left}
use Rattle.std.proofs.lemmas.List.{length-map, get_or-map, take_all}
use Rattle.std.proofs.lemmas.List.Concat.{flat_map-cons}
use Rattle.std.proofs.lemmas.List.Folds.{sum_by-replicate}
use Rattle.std.proofs.lemmas.List.Elements.{All-head, All-tail, All-take, All-get_or, All-from_get_or, All-weaker}
use Rattle.std.proofs.lemmas.List.Sums.{sum_by-cons, sum_by-append, sum_by-take-le}
use Rattle.hub_spec.specs.Cuts.{Prices, value_at}
use Rattle.hub_spec.specs.Ranges.{IsDualInRange}
use Rattle.hub_spec.proofs.SumLemmas.{by_test}
use Rattle.cut_model.specs.Totals.{most_duals, most_sum}
use Rattle.cut_model.specs.Runs.{no_run, no_dual, run_dual, duals_of_run, run_duals, begun, run_load, HaveEnds}
use Rattle.cut_model.specs.declared.values.StatedValue.{StatedValue}
use Rattle.cut_model.specs.declared.runs.Run.{Run}
use Rattle.cut_model.proofs.DualEntries.{value_at_short}
use Rattle.cut_model.proofs.RunLists.{many_of, run_length, begun_next, number_found}

-- a sum over the duals is one over the runs
pub sum_of_runs : (g : Prices → ℕ) (values : List StatedValue) (runs : List Run)
    → sum_by (λ (r : Run). r.many * g (run_dual values r)) runs ≡ sum_by g (run_duals values runs)
sum_of_runs g values [] = refl
sum_of_runs g values (r ∷ runs) =
    sum_by-cons (λ (s : Run). s.many * g (run_dual values s)) r runs
    ∙ ap₂ (λ (a b : ℕ). a + b) (sym (sum_by-replicate g r.many (run_dual values r))) (sum_of_runs g values runs)
    ∙ sym (sum_by-append g (duals_of_run values r) (run_duals values runs))
    ∙ ap (sum_by g) (sym (flat_map-cons (duals_of_run values) r runs))

-- what holds of each dual holds of that of each run
pub all_of_runs : (P : Prices → Type 0) (values : List StatedValue) (runs : List Run) (count : ℕ) → HaveEnds runs count
    → All P (run_duals values runs) → All (λ r. P (run_dual values r)) runs
all_of_runs P values runs count ends all =
    All-from_get_or (λ r. P (run_dual values r)) runs no_run (λ i within.
    let some = All-get_or (λ (r : Run). 1 ≤ r.many) runs i no_run within ends.each in
    let next = begun_next runs i within in
    let part : begun runs (i + 1) ≤ sum_by many_of runs = sum_by-take-le many_of runs (i + 1) in
    subst P (number_found values runs (begun runs i) i no_dual no_run (record { within = within; from = omega arith; to = omega (arith, some, next) }))
    (All-get_or P (run_duals values runs) (begun runs i) no_dual (omega (arith, run_length values runs, some, next, part)) all))

-- ---- limits

weighted_limit : (f : Run → ℕ) (m : ℕ) (runs : List Run) → All (λ r. f r ≤ m) runs → sum_by (λ r. r.many * f r) runs ≤ sum_by many_of runs * m
weighted_limit f m [] h = omega arith
weighted_limit f m (r ∷ runs) h =
    let one = mul-le-mul_left r.many (All-head (λ r. f r ≤ m) r runs h) in
    let rest = weighted_limit f m runs (All-tail (λ r. f r ≤ m) r runs h) in
    rw (sum_by-cons (λ r. r.many * f r) r runs, sum_by-cons many_of r runs) (grind (arith, one, rest))

value_of_dual : (n k : ℕ) (d : Prices) → IsDualInRange n d → value_at d.u k ≤ 10 ^ 33
value_of_dual n k d h =
    let one = value_at_short (10 ^ 33) d.u k (omega arith)
    (All-weaker (λ (e : ℕ × ℕ). (e.0 < n) × (1 ≤ e.1) × (e.1 < 10 ^ 33)) (λ (e : ℕ × ℕ). e.1 < 10 ^ 33) (λ e h. h.2) d.u h.each) in
    omega (arith, one)

pub loads_limit : (n : ℕ) (values : List StatedValue) (runs : List Run) (i : ℕ) (loads : List ℕ) → begun runs (length runs) ≤ most_duals
    → All (λ r. IsDualInRange n (run_dual values r)) runs → ((k : ℕ) → get_or loads k 0 ≡ sum_by (run_load values k) (take i runs))
    → All (λ x. x ≤ most_sum) loads
loads_limit n values runs i loads few are sums =
    let whole : begun runs (length runs) ≡ sum_by many_of runs = ap (sum_by many_of) (take_all (length runs) runs (omega arith)) in
    All-from_get_or (λ x. x ≤ most_sum) loads 0 (λ k below.
    let part = sum_by-take-le many_of runs i in
    let each = All-weaker (λ r. IsDualInRange n (run_dual values r)) (λ r. value_at (run_dual values r).u k ≤ 10 ^ 33)
    (λ r h. value_of_dual n k (run_dual values r) h) runs are in
    let sum = weighted_limit (λ r. value_at (run_dual values r).u k) (10 ^ 33) (take i runs)
    (All-take (λ r. value_at (run_dual values r).u k ≤ 10 ^ 33) i runs each) in
    omega (arith, sums k, sum, part, few, whole))

-- ---- values as often

-- the values of a list, each so many times
abbrev pub as_often : ℕ → List (ℕ × ℕ) → List (ℕ × ℕ)
as_often many u = map (λ (e : ℕ × ℕ). (e.0, many * e.1)) u

pub value_as_often : (many : ℕ) (u : List (ℕ × ℕ)) (k : ℕ) → value_at (as_often many u) k ≡ many * value_at u k
value_as_often many [] k = omega arith
value_as_often many (e ∷ u) k = by_test (nat_eq e.0 k) (λ t. rw t refl) (λ t. rw t (value_as_often many u k))

pub nodes_as_often : (many : ℕ) (u : List (ℕ × ℕ)) → map (λ (e : ℕ × ℕ). e.0) (as_often many u) ≡ map (λ (e : ℕ × ℕ). e.0) u
nodes_as_often many [] = refl
nodes_as_often many (e ∷ u) = ap (λ ks. e.0 ∷ ks) (nodes_as_often many u)

pub length_as_often : (many : ℕ) (u : List (ℕ × ℕ)) → length (as_often many u) ≡ length u
length_as_often many u = length-map u (λ (e : ℕ × ℕ). (e.0, many * e.1))

pub entry_as_often : (many : ℕ) (u : List (ℕ × ℕ)) (i : ℕ) → i < length u
    → get_or (as_often many u) i (0, 0) ≡ ((get_or u i (0, 0)).0, many * (get_or u i (0, 0)).1)
entry_as_often many u i within = get_or-map (λ (e : ℕ × ℕ). (e.0, many * e.1)) u i (0, 0) (0, 0) within
