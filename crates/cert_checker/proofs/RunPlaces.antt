-- In which run the dual of a commodity stands, and how many runs there are.
use Rattle.std.proofs.Common.{◌≡◌, ℕ, zero, suc, ◌+◌, ◌-◌, ◌%◌, ◌<◌, ◌≤◌, Bool, true, false, not, ◌&&◌, ◌||◌, IsTrue, ◌↔◌, List, [], ◌∷◌, length, get_or, Option, None, nat_eq, nat_lt, if◌then◌else◌, ◌⊎◌, ⊎_elim, refl, sym, ap, ap₂, ◌∙◌, subst, lt-ltb, le-ltb, ne_eqb, arith}
use Rattle.std.proofs.lemmas.Bool.{cases_lt, false≢true}
use Rattle.hub_spec.specs.Cuts.{Prices}
use Rattle.hub_spec.proofs.SumLemmas.{by_test}
use Rattle.cert_spec.specs.Runs.{ends_row, joined, runs, spread, AreRuns, before_at}
use Rattle.cert_spec.specs.Text.{same_prices, is_first, singles, dual_runs}
use Rattle.cert_spec.proofs.RunLaws.{runs_are}
use Rattle.cert_spec.proofs.SamePrices.{prices_told}
use Rattle.cert_spec.proofs.Claims.{spread_dual_runs}
use Rattle.cert_spec.proofs.Leads.{length-spread}
use Rattle.cert_scan.specs.Versions.{version_number}
use Rattle.cert_scan.specs.declared.items.Version.{Version}
use Rattle.cert_scan.specs.declared.items.Version.TheVariants.{First, Second, Third}
use Rattle.cert_checker.specs.Runs.{place_of, no_dual, begins_run, begun}

-- ---- what tests say

told_same : (told : Bool) (d e : Prices) → (IsTrue told ↔ (d ≡ e)) → told ≡ same_prices d e
told_same true d e says = sym (subst (λ (x : Prices). same_prices d x ≡ true) (says.0 refl) (prices_told.complete d))
told_same false d e says =
    by_test (same_prices d e) (λ same. absurd (false≢true (says.1 (prices_told.sound d e same)))) (λ other. sym other)

-- ---- one run more

-- 1 where the test holds
abbrev one_if : Bool → ℕ
one_if b = if b then 1 else 0

pub place_within : {X : Type 0} (r : ℕ × X) (rest : List (ℕ × X)) (s : ℕ) → s < r.0 → place_of (r ∷ rest) s ≡ 0
place_within r rest s less = rw (lt-ltb s r.0 less) refl

pub place_behind : {X : Type 0} (r : ℕ × X) (rest : List (ℕ × X)) (s q : ℕ) → s ≡ r.0 + q → place_of (r ∷ rest) s ≡ 1 + place_of rest q
place_behind r rest s q e =
    let past : nat_lt s r.0 ≡ false = le-ltb s r.0 (omega (arith, e)) in
    let left : s - r.0 ≡ q = omega (arith, e) in
    rw past (ap (λ (m : ℕ). 1 + place_of rest m) left)

-- the next element stands in a run that is longer by one, as the element did in the run
place_longer : {X : Type 0} (x : X) (r : ℕ × X) (rest : List (ℕ × X)) (s : ℕ) → place_of ((r.0 + 1, x) ∷ rest) (suc s) ≡ place_of (r ∷ rest) s
place_longer x r rest s =
    ⊎_elim
    (λ less. place_within (r.0 + 1, x) rest (suc s) (omega (arith, less)) ∙ sym (place_within r rest s less))
    (λ more. place_behind (r.0 + 1, x) rest (suc s) (s - r.0) (omega (arith, more)) ∙ sym (place_behind r rest s (s - r.0) (omega (arith, more))))
    (cases_lt s r.0)

-- the place of the next element, where one joins some runs or stands before them
place_joined : {X : Type 0} (same : X → X → Bool) (last : Bool) (x : X) (r : ℕ × X) (rest : List (ℕ × X)) (s : ℕ)
    → place_of (joined same last x (r ∷ rest)) (suc s) ≡ one_if (last || not (same x r.1)) + place_of (r ∷ rest) s
place_joined same true x r rest s = place_behind (1, x) (r ∷ rest) (suc s) s (omega arith)
place_joined same false x r rest s =
    by_test (same x r.1)
    (λ e. rw e (let kept : place_of ((r.0 + 1, x) ∷ rest) (suc s) ≡ place_of (r ∷ rest) s = place_longer x r rest s in omega (arith, kept)))
    (λ e. rw e (place_behind (1, x) (r ∷ rest) (suc s) s (omega arith)))

-- the first stands in the first
first_place : {X : Type 0} (same : X → X → Bool) (last : Bool) (x : X) (rs : List (ℕ × X)) → place_of (joined same last x rs) 0 ≡ 0
first_place same last x [] = refl
first_place same last x (r ∷ rest) =
    by_test (not last && same x r.1)
    (λ e. rw e (place_within (r.0 + 1, x) rest 0 (omega arith)))
    (λ e. rw e (place_within (1, x) (r ∷ rest) 0 (omega arith)))

-- runs begin with the first element
record BeginsWith {X : Type 0} (x : X) (rs : List (ℕ × X)) : Type 0 where
  run : ℕ
  rest : List (ℕ × X)
  are : rs ≡ (run, x) ∷ rest

begins_with : {X : Type 0} (same : X → X → Bool) (last : Bool) (x : X) (rs : List (ℕ × X)) → BeginsWith x (joined same last x rs)
begins_with same last x [] = record { run = 1; rest = []; are = refl }
begins_with same last x (r ∷ rest) =
    by_test (not last && same x r.1)
    (λ e. rw e (record { run = r.0 + 1; rest = rest; are = refl }))
    (λ e. rw e (record { run = 1; rest = r ∷ rest; are = refl }))

-- ---- the places by the runs that have begun

-- a run begins behind the element of number s, where the first has number t
abbrev begins_behind : ℕ → ℕ → List Prices → ℕ → Bool
begins_behind n t xs s = ends_row n (t + s) || not (same_prices (get_or xs s no_dual) (get_or xs (suc s) no_dual))

-- behind the first, each stands where it did, but for a run that the first makes
place_after : (n t : ℕ) (x y : Prices) (xs : List Prices) (s : ℕ) → place_of (runs same_prices n t (x ∷ y ∷ xs)) (suc s)
    ≡ one_if (ends_row n t || not (same_prices x y)) + place_of (runs same_prices n (t + 1) (y ∷ xs)) s
place_after n t x y xs s =
    let begin = begins_with same_prices (ends_row n (t + 1)) y (runs same_prices n (t + 1 + 1) xs) in
    ap (λ rs. place_of (joined same_prices (ends_row n t) x rs) (suc s)) begin.are
    ∙ place_joined same_prices (ends_row n t) x (begin.run, y) begin.rest s
    ∙ ap (λ rs. one_if (ends_row n t || not (same_prices x y)) + place_of rs s) (sym begin.are)

next_place : (n t : ℕ) (xs : List Prices) (s : ℕ) → s + 1 < length xs
    → place_of (runs same_prices n t xs) (suc s) ≡ place_of (runs same_prices n t xs) s + one_if (begins_behind n t xs s)
next_place n t [] s within = absurd (omega (arith, within))
next_place n t (x ∷ []) s within = absurd (omega (arith, within))
next_place n t (x ∷ y ∷ xs) zero within =
    let here = first_place same_prices (ends_row n t) x (runs same_prices n (t + 1) (y ∷ xs)) in
    let there = first_place same_prices (ends_row n (t + 1)) y (runs same_prices n (t + 1 + 1) xs) in
    let after = place_after n t x y xs 0 in
    let begins : one_if (begins_behind n t (x ∷ y ∷ xs) 0) ≡ one_if (ends_row n t || not (same_prices x y)) =
    (let place : t + 0 ≡ t = omega arith in ap (λ (m : ℕ). one_if (ends_row n m || not (same_prices x y))) place) in
    omega (arith, here, there, after, begins)
next_place n t (x ∷ y ∷ xs) (suc s) within =
    let later = next_place n (t + 1) (y ∷ xs) s (omega (arith, within)) in
    let after = place_after n t x y xs (suc s) in
    let before = place_after n t x y xs s in
    let begins : one_if (begins_behind n t (x ∷ y ∷ xs) (suc s)) ≡ one_if (begins_behind n (t + 1) (y ∷ xs) s) =
    (let place : t + suc s ≡ t + 1 + s = omega arith in
    ap (λ (m : ℕ). one_if (ends_row n m || not (same_prices (get_or (y ∷ xs) s no_dual) (get_or (y ∷ xs) (suc s) no_dual)))) place) in
    omega (arith, later, after, before, begins)

begins_same : (n : ℕ) (duals : List Prices) (t : ℕ) → one_if (begins_behind n 0 duals t) ≡ one_if (begins_run n duals (t + 1))
begins_same n duals t =
    let place : 0 + t + 1 ≡ t + 1 = omega arith in
    let before : t ≡ t + 1 - 1 = omega arith in
    let here : suc t ≡ t + 1 = omega arith in
    ap₂ (λ (m i : ℕ). one_if (nat_eq (m % n) 0 || not (same_prices (get_or duals i no_dual) (get_or duals (suc t) no_dual)))) place before
    ∙ ap (λ (i : ℕ). one_if (nat_eq ((t + 1) % n) 0 || not (same_prices (get_or duals (t + 1 - 1) no_dual) (get_or duals i no_dual)))) here

pub place_begun : (n : ℕ) (duals : List Prices) (t : ℕ) → t < length duals → place_of (runs same_prices n 0 duals) t ≡ begun n duals t
place_begun n [] t within = absurd (omega (arith, within))
place_begun n (x ∷ duals) zero within = first_place same_prices (ends_row n 0) x (runs same_prices n 1 duals)
place_begun n (x ∷ duals) (suc t) within =
    let next = next_place n 0 (x ∷ duals) t (omega (arith, within)) in
    let before = place_begun n (x ∷ duals) t (omega (arith, within)) in
    let begins : one_if (begins_behind n 0 (x ∷ duals) t) ≡ one_if (begins_run n (x ∷ duals) (t + 1)) = begins_same n (x ∷ duals) t in
    omega (arith, next, before, begins)

-- ---- how many runs there are

-- each run has some element
abbrev AreSome : {X : Type 0} → List (ℕ × X) → Type 0
AreSome [] = Unit {0}
AreSome (r ∷ rest) = (1 ≤ r.0) × AreSome rest

-- the last element stands in the last run
last_place : (rs : List (ℕ × Prices)) (q : ℕ) → AreSome rs → q + 1 ≡ length (spread rs) → place_of rs q + 1 ≡ length rs
last_place [] q some e = absurd (omega (arith, e))
last_place (r ∷ []) q some e =
    let long = length-spread r.0 r.1 [] in
    let place = place_within r [] q (omega (arith, e, long)) in
    omega (arith, place)
last_place (r ∷ next ∷ rest) q some e =
    let long = length-spread r.0 r.1 (next ∷ rest) in
    let after = length-spread next.0 next.1 rest in
    let left : q - r.0 + 1 ≡ length (spread (next ∷ rest)) = omega (arith, e, long, after, some.1.0) in
    let place = place_behind r (next ∷ rest) q (q - r.0) (omega (arith, e, long, after, some.1.0)) in
    let later = last_place (next ∷ rest) (q - r.0) some.1 left in
    omega (arith, place, later)

some_in_runs : {X : Type 0} (n t : ℕ) (before : Option X) (rs : List (ℕ × X)) → AreRuns n t before rs → AreSome rs
some_in_runs n t before [] are = tt
some_in_runs n t before (r ∷ rest) are = (are.0, some_in_runs n (t + r.0) (before_at n (t + r.0) r.1) rest are.3)

some_in_singles : (duals : List Prices) → AreSome (singles duals)
some_in_singles [] = tt
some_in_singles (d ∷ duals) = (omega arith, some_in_singles duals)

some_in_each : (v n : ℕ) (duals : List Prices) → 1 ≤ n → AreSome (dual_runs v n duals)
some_in_each v n duals some =
    by_test (is_first v) (λ e. rw e (some_in_singles duals))
    (λ e. rw e (some_in_runs n 0 None (runs same_prices n 0 duals) (runs_are same_prices n 0 duals prices_told some)))

pub runs_counted : (v n : ℕ) (duals : List Prices) (q : ℕ) → 1 ≤ n → q + 1 ≡ length duals → place_of (dual_runs v n duals) q + 1 ≡ length (dual_runs v n duals)
runs_counted v n duals q some e =
    last_place (dual_runs v n duals) q (some_in_each v n duals some) (e ∙ ap length (sym (spread_dual_runs v n duals)))

pub place_single : (duals : List Prices) (t : ℕ) → t < length duals → place_of (singles duals) t ≡ t
place_single [] t within = absurd (omega (arith, within))
place_single (d ∷ duals) zero within = place_within (1, d) (singles duals) 0 (omega arith)
place_single (d ∷ duals) (suc t) within =
    let place = place_behind (1, d) (singles duals) (suc t) t (omega arith) in
    omega (arith, place, place_single duals t (omega (arith, within)))

-- ---- by the versions that code has

pub first_version : (version : Version) (n : ℕ) (duals : List Prices) (t : ℕ) → version ≡ First → t < length duals
    → t ≡ place_of (dual_runs (version_number version) n duals) t
first_version version n duals t is within =
    sym (place_single duals t within) ∙ ap (λ (v : Version). place_of (dual_runs (version_number v) n duals) t) (sym is)

pub later_version : (version : Version) (n : ℕ) (duals : List Prices) (t count : ℕ) → (version ≡ Second) ⊎ (version ≡ Third) → t < length duals
    → count ≡ begun n duals t → count ≡ place_of (dual_runs (version_number version) n duals) t
later_version version n duals t count later within e =
    let place = λ (v : Version). place_of (dual_runs (version_number v) n duals) t in
    e ∙ sym (place_begun n duals t within) ∙ ⊎_elim (λ second. ap place (sym second)) (λ third. ap place (sym third)) later

-- a run begins where the origin does not, by the test of two duals
pub begins_by : (n t : ℕ) (duals : List Prices) (told : Bool) → (t % n ≡ 0 → ⊥)
    → (IsTrue told ↔ (get_or duals (t - 1) no_dual ≡ get_or duals t no_dual)) → not told ≡ begins_run n duals t
begins_by n t duals told other says =
    rw (ne_eqb (t % n) 0 other) (ap not (told_same told (get_or duals (t - 1) no_dual) (get_or duals t no_dual) says))
