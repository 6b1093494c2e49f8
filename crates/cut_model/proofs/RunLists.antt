-- Lists of runs: how many commodities they are for, and which dual each of these has.
use Rattle.std.proofs.Common.{◌≡◌, ℕ, ◌+◌, ◌-◌, ◌<◌, ◌≤◌, List, [], ◌∷◌, ◌++◌, length, get_or, take, drop, replicate, sum_by, All, refl, sym, ap, ap₂, subst, ◌∙◌, ⊎_elim, arith}
use Rattle.std.specs.List.{slice_range}
use Rattle.std.proofs.lemmas.List.{append-nil, length-append, length-replicate, length-take-le, length-drop, length-map, get_or-replicate, get_or_append_left, get_or-append_right, take_all, take-append-le, take-append-drop, drop-append-le, drop_at, drop-map, take_rest}
use Rattle.std.proofs.lemmas.Bool.{cases_eq}
use Rattle.std.proofs.lemmas.List.Concat.{flat_map-append, flat_map-cons, get_or-flat_map}
use Rattle.std.proofs.lemmas.List.Elements.{All-head, All-tail, All-take, All-drop, All-push, All-weaker}
use Rattle.std.proofs.lemmas.List.Sums.{sum_by-cons, sum_by_push, sum_by_more, sum_by-take-drop}
use Rattle.hub_spec.specs.Cuts.{Prices}
use Rattle.hub_spec.specs.Limits.{most_nodes}
use Rattle.hub_spec.specs.Ranges.{IsDualInRange}
use Rattle.cut_model.specs.Totals.{most_duals}
use Rattle.cut_model.specs.Values.{listed_value, listed_values}
use Rattle.cut_model.specs.Runs.{no_run, run_dual, duals_of_run, run_duals, begun, IsRunOf, HaveEnds, IsRunAt}
use Rattle.cut_model.specs.declared.values.StatedValue.{StatedValue}
use Rattle.cut_model.specs.declared.runs.Run.{Run}

abbrev pub many_of : Run → ℕ
many_of r = r.many

-- ---- how many commodities

pub run_length : (values : List StatedValue) (runs : List Run) → length (run_duals values runs) ≡ sum_by many_of runs
run_length values [] = refl
run_length values (r ∷ runs) =
    ap length (flat_map-cons (duals_of_run values) r runs)
    ∙ length-append (duals_of_run values r) (run_duals values runs)
    ∙ ap₂ (λ (a b : ℕ). a + b) (length-replicate r.many (run_dual values r)) (run_length values runs)
    ∙ sym (sum_by-cons many_of r runs)

least_many : (runs : List Run) → All (λ r. 1 ≤ r.many) runs → length runs ≤ sum_by many_of runs
least_many [] h = omega arith
least_many (r ∷ runs) h =
    rw (sum_by-cons many_of r runs) (omega (arith, All-head (λ (r : Run). 1 ≤ r.many) r runs h, least_many runs (All-tail (λ (r : Run). 1 ≤ r.many) r runs h)))

-- so many runs are for as many commodities at least
pub begun_least : (runs : List Run) (count i : ℕ) → HaveEnds runs count → i ≤ length runs → i ≤ begun runs i
begun_least runs count i h within =
    omega (arith, least_many (take i runs) (All-take (λ (r : Run). 1 ≤ r.many) i runs h.each), length-take-le i runs within)

-- and so are those behind them
pub begun_most : (runs : List Run) (count i : ℕ) → HaveEnds runs count → i ≤ length runs → begun runs i + (length runs - i) ≤ count
begun_most runs count i h within =
    let all : sum_by many_of runs ≡ count = ap (sum_by many_of) (sym (take_all (length runs) runs (omega arith))) ∙ h.all in
    omega (arith, least_many (drop i runs) (All-drop (λ (r : Run). 1 ≤ r.many) i runs h.each), length-drop i runs, sum_by-take-drop many_of runs i, all)

pub begun_all : (runs : List Run) (count : ℕ) → HaveEnds runs count → sum_by many_of runs ≡ count
begun_all runs count h = ap (sum_by many_of) (sym (take_all (length runs) runs (omega arith))) ∙ h.all

pub begun_next : (runs : List Run) (i : ℕ) → i < length runs → begun runs (i + 1) ≡ begun runs i + (get_or runs i no_run).many
begun_next runs i within = sum_by_more many_of runs i no_run within

-- ---- which dual

pub number_found : (values : List StatedValue) (runs : List Run) (number place : ℕ) (d : Prices) (e : Run) → IsRunAt runs number place
    → get_or (run_duals values runs) number d ≡ run_dual values (get_or runs place e)
number_found values runs number place d e at =
    let r = get_or runs place e in
    let next = sum_by_more many_of runs place e at.within in
    let j : ℕ = number - begun runs place in
    let before = run_length values (take place runs) in
    let inside : j < r.many = omega (arith, at.from, at.to, next) in
    let here : number ≡ length (run_duals values (take place runs)) + j = omega (arith, before, at.from) in
    ap (λ n. get_or (run_duals values runs) n d) here
    ∙ get_or-flat_map (duals_of_run values) runs place j e d at.within (omega (arith, inside, length-replicate r.many (run_dual values r)))
    ∙ get_or-replicate r.many j (run_dual values r) d inside

-- ---- more values

slice_kept : {X : Type 0} (xs ys : List X) (from to : ℕ) → take (length xs) ys ≡ xs → from ≤ to → to ≤ length xs
    → slice_range ys from to ≡ slice_range xs from to
slice_kept xs ys from to kept order within =
    let whole : ys ≡ xs ++ drop (length xs) ys = sym (take-append-drop (length xs) ys) ∙ ap (λ zs. zs ++ drop (length xs) ys) kept in
    ap (λ zs. take (to - from) (drop from zs)) whole
    ∙ ap (take (to - from)) (drop-append-le from xs (drop (length xs) ys) (omega arith))
    ∙ take-append-le (to - from) (drop from xs) (drop (length xs) ys) (omega (arith, length-drop from xs))

length_kept : {X : Type 0} (xs ys : List X) → take (length xs) ys ≡ xs → length xs ≤ length ys
length_kept xs ys kept = omega (arith, ap length (sym (take-append-drop (length xs) ys) ∙ ap (λ zs. zs ++ drop (length xs) ys) kept), length-append xs (drop (length xs) ys))

pub dual_kept : (values more : List StatedValue) (r : Run) → take (length values) more ≡ values → IsRunOf values r → run_dual more r ≡ run_dual values r
dual_kept values more r kept is =
    ap (λ (vs : List StatedValue). record { a = r.price; u = listed_values vs }) (slice_kept values more r.from r.to kept is.order is.within)

run_kept : (values more : List StatedValue) → take (length values) more ≡ values → (r : Run) → IsRunOf values r → IsRunOf more r
run_kept values more kept r is = record {
  some = is.some;
  order = is.order;
  within = omega (arith, is.within, length_kept values more kept);
  dual = subst (IsDualInRange most_nodes) (sym (dual_kept values more r kept is)) is.dual;
}

pub runs_kept : (values more : List StatedValue) (runs : List Run) → take (length values) more ≡ values → All (IsRunOf values) runs → All (IsRunOf more) runs
runs_kept values more runs kept are = All-weaker (IsRunOf values) (IsRunOf more) (run_kept values more kept) runs are

pub duals_kept : (values more : List StatedValue) (runs : List Run) → take (length values) more ≡ values → All (IsRunOf values) runs
    → run_duals more runs ≡ run_duals values runs
duals_kept values more [] kept are = refl
duals_kept values more (r ∷ runs) kept are =
    flat_map-cons (duals_of_run more) r runs
    ∙ ap₂ (λ (ds es : List Prices). ds ++ es)
    (ap (replicate r.many) (dual_kept values more r kept (All-head (IsRunOf values) r runs are)))
    (duals_kept values more runs kept (All-tail (IsRunOf values) r runs are))
    ∙ sym (flat_map-cons (duals_of_run values) r runs)

-- ---- a run more

ends_before : (runs : List Run) (count i : ℕ) (r : Run) → HaveEnds runs count → i < length runs
    → (get_or (runs ++ r ∷ []) i no_run).end ≡ begun (runs ++ r ∷ []) (i + 1)
ends_before runs count i r h below =
    ap (λ (s : Run). s.end) (get_or_append_left runs (r ∷ []) no_run i below)
    ∙ h.ends i below
    ∙ sym (ap (sum_by many_of) (take-append-le (i + 1) runs (r ∷ []) (omega arith)))

all_more : (runs : List Run) (count n : ℕ) (r : Run) → HaveEnds runs count → length (runs ++ r ∷ []) ≤ n → begun (runs ++ r ∷ []) n ≡ count + r.many
all_more runs count n r h long =
    ap (sum_by many_of) (take_all n (runs ++ r ∷ []) long)
    ∙ sum_by_push many_of runs r
    ∙ ap (λ c. c + r.many) (begun_all runs count h)

pub ends_more : (runs : List Run) (count : ℕ) (r : Run) → HaveEnds runs count → 1 ≤ r.many → r.end ≡ count + r.many → HaveEnds (runs ++ r ∷ []) r.end
ends_more runs count r h some end =
    let long : length (runs ++ r ∷ []) ≡ length runs + 1 = length-append runs (r ∷ []) in
    record {
      each = All-push (λ (s : Run). 1 ≤ s.many) runs r h.each some;
      ends = λ i below. ⊎_elim (λ here. (let at : i ≡ length runs = here in
          ap (λ (s : Run). s.end) (get_or-append_right runs (r ∷ []) (length runs) i no_run refl (omega (arith, at))
          ∙ (let first : i - length runs ≡ 0 = omega (arith, at) in ap (λ (n : ℕ). get_or (r ∷ []) n no_run) first))
          ∙ end ∙ sym (all_more runs count (i + 1) r h (omega (arith, at, long)))))
          (λ apart. ends_before runs count i r h (omega (arith, below, long, apart)))
          (cases_eq i (length runs));
      all = all_more runs count (length (runs ++ r ∷ [])) r h (omega arith) ∙ sym end;
    }

-- the dual of a run whose values are the last
pub last_dual : (values more : List StatedValue) (u : List (ℕ × ℕ)) (r : Run) → take (length values) more ≡ values
    → listed_values more ≡ listed_values values ++ u → r.from ≡ length values → r.to ≡ length more
    → run_dual more r ≡ record { a = r.price; u = u }
last_dual values more u r kept listed from to =
    let end : slice_range more r.from r.to ≡ drop (length values) more =
    ap₂ (λ (i j : ℕ). slice_range more i j) from to ∙ take_rest more (length values) in
    ap (λ (vs : List (ℕ × ℕ)). record { a = r.price; u = vs })
    (ap listed_values end
    ∙ sym (drop-map listed_value (length values) more)
    ∙ ap (drop (length values)) listed
    ∙ drop_at (listed_values values) u (length values) (length-map values listed_value))

pub last_is_run : (values more : List StatedValue) (u : List (ℕ × ℕ)) (r : Run) → take (length values) more ≡ values
    → listed_values more ≡ listed_values values ++ u → r.from ≡ length values → r.to ≡ length more
    → 1 ≤ r.many → IsDualInRange most_nodes (record { a = r.price; u = u }) → IsRunOf more r
last_is_run values more u r kept listed from to some fits = record {
  some = some;
  order = omega (arith, from, to, length_kept values more kept);
  within = omega (arith, to);
  dual = subst (IsDualInRange most_nodes) (sym (last_dual values more u r kept listed from to)) fits;
}

-- ---- a whole cut

-- so many duals there are
pub duals_counted : (values : List StatedValue) (runs : List Run) (count : ℕ) → HaveEnds runs count → length (run_duals values runs) ≡ count
duals_counted values runs count h = run_length values runs ∙ begun_all runs count h

-- ---- where a search for a number begins

not_below : (a b : ℕ) → (a < b → ⊥) → b ≤ a
not_below a b h = omega (arith, h)

pub low_begins : (runs : List Run) (count number low : ℕ) → HaveEnds runs count → number < count → low ≡ length runs - (count - number)
    → begun runs low ≤ number
low_begins runs count number low h below is =
    let few = begun_most runs count low h (omega (arith, is)) in
    ⊎_elim (λ none. (let e : low ≡ 0 = none in let z : begun runs low ≡ 0 = ap (begun runs) e in omega (arith, z)))
    (λ some. (let apart : low ≡ 0 → ⊥ = some in omega (arith, few, apart, is, below)))
    (cases_eq low 0)

pub high_begins : (runs : List Run) (count number high : ℕ) → HaveEnds runs count → number < count → high ≤ length runs → high ≤ number + 1
    → (high < number + 1 → high ≡ length runs) → number < begun runs high
high_begins runs count number high h below within most else =
    let least = begun_least runs count high h within in
    ⊎_elim (λ full. (let e : high ≡ length runs = full in let all : begun runs high ≡ count = ap (begun runs) e ∙ h.all in omega (arith, all, below)))
    (λ apart. (let some : number + 1 ≤ high = not_below high (number + 1) (λ l. apart (else l)) in omega (arith, some, least)))
    (cases_eq high (length runs))

pub some_run : (runs : List Run) (count number : ℕ) → HaveEnds runs count → number < count → 0 < length runs
some_run [] count number h below = (let none : count ≡ 0 = sym h.all in absurd (omega (arith, none, below)))
some_run (r ∷ runs) count number h below = omega arith

pub few_runs : (values : List StatedValue) (runs : List Run) (count : ℕ) → HaveEnds runs count → length (run_duals values runs) ≤ most_duals
    → begun runs (length runs) ≤ most_duals
few_runs values runs count h few = omega (arith, duals_counted values runs count h, h.all, few)

-- with a run more, whose values are the last
pub duals_more : (values more : List StatedValue) (runs : List Run) (u : List (ℕ × ℕ)) (r : Run) → take (length values) more ≡ values
    → All (IsRunOf values) runs → listed_values more ≡ listed_values values ++ u → r.from ≡ length values → r.to ≡ length more
    → run_duals more (runs ++ r ∷ []) ≡ run_duals values runs ++ replicate r.many (record { a = r.price; u = u })
duals_more values more runs u r kept are listed from to =
    flat_map-append (duals_of_run more) runs (r ∷ [])
    ∙ ap₂ (λ (ds es : List Prices). ds ++ es) (duals_kept values more runs kept are)
    (flat_map-cons (duals_of_run more) r [] ∙ append-nil (duals_of_run more r)
    ∙ ap (replicate r.many) (last_dual values more u r kept listed from to))
