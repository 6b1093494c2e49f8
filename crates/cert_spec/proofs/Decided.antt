-- Each condition of the check either holds or does not, so one of them is the first that fails, or all hold.
use Rattle.std.proofs.Common.{◌≡◌, ℕ, ◌+◌, ◌-◌, ◌*◌, ◌<◌, ◌≤◌, zero, suc, nat_eq, Bool, true, false, true≢false, Option, Some, None, subst, ℤ, pos, ◌-ℤ◌, ◌<ℤ◌, List, [], ◌∷◌, ◌++◌, length, replicate, All, Contains, ◌⊎◌, inl, inr, refl, sym, ◌∙◌, arith}
use Rattle.std.specs.Prelude.{IfSome, slice_index_or}
use Rattle.std.proofs.lemmas.Bool.{cases_lt}
use Rattle.std.proofs.lemmas.List.Elements.{All-contains, All-contains_itself, All-weaker}
use Rattle.std.proofs.lemmas.Int.{by_lt_z, ints}
use Rattle.hub_spec.specs.Limits.{most_cost}
use Rattle.hub_spec.specs.Problem.{Problem, route_cost, is_allowed, commodity_at}
use Rattle.hub_spec.specs.Plans.{plan_cost}
use Rattle.hub_spec.specs.Cuts.{Prices, value_at, IsDual, Cut, total, load, IsWithinSums}
use Rattle.hub_spec.specs.Trees.{Branching, cut_at, share, IsMultiple, weight_sum, leaf_bound, IsClosed, IsBlocked, HasRoom, LacksRoom, TreeLine, branch_on, leaf_of, no_hub, no_route, no_count}
use Rattle.hub_spec.proofs.Decisions.{Decided, decided_by, decided_and, decided_or, decided_le, decided_eq, decided_all, decided_contains}
use Rattle.cert_spec.specs.Stated.{Stated}
use Rattle.cert_spec.specs.Lines.{Item, says_version, says_size, says_cost, says_bound, says_hubs, says_route, says_cuts, says_cut, says_marked, says_dual, says_proof, says_nodes, says_tree, says_end}
use Rattle.cert_spec.specs.Text.{certificate_items}
use Rattle.cert_spec.specs.Progress.{Progress, is_whole, at_start, after_line}
use Rattle.cert_spec.specs.Conditions.{Kind, Cost, Sum, Claim, claim, AllHold, FailsFirst, if_time, IsDualOfRun, marked_hubs, tree_conditions, line_conditions, conditions_from, conditions, is_of_cuts, asked, older_conditions}
use Rattle.cert_spec.proofs.DecidedCores.{decided_core_dual, decided_may}

decided_true : (b : Bool) → Decided (b ≡ true)
decided_true true = inl refl
decided_true false = inr (λ e. true≢false (sym e))

-- the two hubs are the same, or the route through both is not allowed, or it covers the price with their values
abbrev Covers : Problem → ℕ → ℕ × ℕ → Prices → ℕ → ℕ → Type 0
Covers p part c d k m = (k ≡ m) ⊎ ((is_allowed p c k m ≡ false) ⊎ (d.a ≤ part * route_cost p c.0 c.1 k m + value_at d.u k + value_at d.u m))

abbrev CoversSingle : Problem → ℕ → ℕ × ℕ → Prices → ℕ → Type 0
CoversSingle p part c d k = (is_allowed p c k k ≡ false) ⊎ (d.a ≤ part * route_cost p c.0 c.1 k k + value_at d.u k)

abbrev CoversAll : Problem → ℕ → ℕ × ℕ → Prices → ℕ → Type 0
CoversAll p part c d k = All (Covers p part c d k) p.candidates

decided_false : (b : Bool) → Decided (b ≡ false)
decided_false false = inl refl
decided_false true = inr (λ e. true≢false e)

decided_covers : (p : Problem) (part : ℕ) (c : ℕ × ℕ) (d : Prices) (k m : ℕ) → Decided (Covers p part c d k m)
decided_covers p part c d k m = decided_or (decided_eq k m) (decided_or (decided_false (is_allowed p c k m)) (decided_le d.a _))

where_allowed : {P : Type 0} (b : Bool) → (b ≡ false) ⊎ P → b ≡ true → P
where_allowed b (inl off) on = absurd (true≢false (sym on ∙ off))
where_allowed b (inr h) on = h

pub dual_from_covers : (p : Problem) (part : ℕ) (c : ℕ × ℕ) (d : Prices)
    → (All (λ (e : ℕ × ℕ). Contains p.candidates e.0) d.u × (All (CoversSingle p part c d) p.candidates × All (CoversAll p part c d) p.candidates))
    → IsDual p part c d
dual_from_covers p part c d h = record {
  are_candidates = h.0;
  one_hub = λ k in_k allowed. where_allowed (is_allowed p c k k) (All-contains (CoversSingle p part c d) p.candidates k h.1.0 in_k) allowed;
  two_hubs = λ k m in_k in_m apart allowed.
      elim (All-contains (Covers p part c d k) p.candidates m (All-contains (CoversAll p part c d) p.candidates k h.1.1 in_k) in_m) [
        | inl same ↦ absurd (apart same)
        | inr covered ↦ where_allowed (is_allowed p c k m) covered allowed
      ];
}

if_allowed : {P : Type 0} (b : Bool) → (b ≡ true → P) → (b ≡ false) ⊎ P
if_allowed true h = inr (h refl)
if_allowed false h = inl refl

pub covers_from_dual : (p : Problem) (part : ℕ) (c : ℕ × ℕ) (d : Prices) → IsDual p part c d
    → (All (λ (e : ℕ × ℕ). Contains p.candidates e.0) d.u × (All (CoversSingle p part c d) p.candidates × All (CoversAll p part c d) p.candidates))
covers_from_dual p part c d h = (
  h.are_candidates,
  (
    All-weaker (Contains p.candidates) (CoversSingle p part c d) (λ k in_k. if_allowed (is_allowed p c k k) (h.one_hub k in_k)) p.candidates
        (All-contains_itself p.candidates),
    All-weaker (Contains p.candidates) (CoversAll p part c d)
        (λ k in_k. All-weaker (Contains p.candidates) (Covers p part c d k)
        (λ m in_m. elim (decided_eq k m) [ inl same ↦ inl same | inr apart ↦ inr (if_allowed (is_allowed p c k m) (h.two_hubs k m in_k in_m apart)) ])
        p.candidates (All-contains_itself p.candidates))
        p.candidates (All-contains_itself p.candidates),
  ),
)

pub decided_dual : (p : Problem) (part : ℕ) (c : ℕ × ℕ) (d : Prices) → Decided (IsDual p part c d)
decided_dual p part c d = decided_by (dual_from_covers p part c d) (covers_from_dual p part c d)
    (decided_and (decided_all (λ (e : ℕ × ℕ). Contains p.candidates e.0) (λ e. decided_contains p.candidates e.0) d.u)
    (decided_and (decided_all (CoversSingle p part c d) (λ k. decided_or (decided_false (is_allowed p c k k)) (decided_le d.a _)) p.candidates)
    (decided_all (CoversAll p part c d) (λ k. decided_all (Covers p part c d k) (decided_covers p part c d k) p.candidates) p.candidates)))

-- what is said of all numbers below one
decided_each : (P : ℕ → Type 0) → ((s : ℕ) → Decided (P s)) → (n : ℕ) → Decided ((s : ℕ) → s < n → P s)
decided_each P d zero = inl (λ s less. absurd (omega (arith, less)))
decided_each P d (suc n) = elim (decided_each P d n) [
  | inl below ↦ elim (d n) [
    | inl here ↦ inl (λ s less. elim (cases_lt s n) [
      | inl before ↦ below s before
      | inr above ↦ (let same : n ≡ s = omega (arith, above, less) in subst P same here)
    ])
    | inr gone ↦ inr (λ h. gone (h n (omega arith)))
  ]
  | inr gone ↦ inr (λ h. gone (λ s less. h s (omega (arith, less))))
]

decided_run : (p : Problem) (part t : ℕ) (r : ℕ × Prices) → Decided (IsDualOfRun p part t r)
decided_run p part t r = decided_by (λ h. record { each = h }) (λ h. h.each)
    (decided_each (λ s. IsDual p part (commodity_at p.size (t + s)) r.1) (λ s. decided_dual p part (commodity_at p.size (t + s)) r.1) r.0)

decided_sums : (p : Problem) (cut : Cut) → Decided (IsWithinSums p cut)
decided_sums p cut = decided_by
    {P = (total cut ≤ cut.part * most_cost) × All (λ k. load cut k ≤ cut.part * most_cost) p.candidates}
    (λ h. record { total_limit = h.0; load_limit = h.1 }) (λ h. (h.total_limit, h.load_limit))
    (decided_and (decided_le (total cut) (cut.part * most_cost)) (decided_all (λ k. load cut k ≤ cut.part * most_cost) (λ k. decided_le (load cut k) (cut.part * most_cost)) p.candidates))

-- ---- the number of hubs, and commodities with no route

decided_wanted : (wanted : Option ℕ) (m : ℕ) → Decided (IfSome wanted (λ n. m ≡ n))
decided_wanted None m = inl tt
decided_wanted (Some n) m = decided_eq m n

decided_room : (wanted : Option ℕ) (b : Branching) → Decided (HasRoom wanted b)
decided_room None b = inl tt
decided_room (Some n) b = decided_and (decided_le (length b.inside) n) (decided_le n (length b.inside + length b.free))

decided_lacks : (wanted : Option ℕ) (b : Branching) → Decided (LacksRoom wanted b)
decided_lacks None b = inr (λ h. h)
decided_lacks (Some n) b = decided_or (decided_le (suc n) (length b.inside)) (decided_le (suc (length b.inside + length b.free)) n)

-- the route is not allowed, or one of its hubs is closed
abbrev IsShut : Problem → Branching → ℕ × ℕ → ℕ → ℕ → Type 0
IsShut p b c k m = (is_allowed p c k m ≡ false) ⊎ (Contains b.outside k ⊎ Contains b.outside m)

decided_blocked : (p : Problem) (b : Branching) (c : ℕ × ℕ) → Decided (IsBlocked p b c)
decided_blocked p b c = decided_by
    {P = (suc c.0 ≤ p.size) × ((suc c.1 ≤ p.size) × All (λ k. All (IsShut p b c k) p.candidates) p.candidates)}
    (λ h. record {
      from = h.0;
      to = h.1.0;
      closed = λ k m in_k in_m allowed. where_allowed (is_allowed p c k m)
          (All-contains (IsShut p b c k) p.candidates m (All-contains (λ x. All (IsShut p b c x) p.candidates) p.candidates k h.1.1 in_k) in_m) allowed;
    })
    (λ h. (
      h.from,
      (
        h.to,
        All-weaker (Contains p.candidates) (λ k. All (IsShut p b c k) p.candidates)
            (λ k in_k. All-weaker (Contains p.candidates) (IsShut p b c k) (λ m in_m. if_allowed (is_allowed p c k m) (h.closed k m in_k in_m))
            p.candidates (All-contains_itself p.candidates)) p.candidates (All-contains_itself p.candidates),
      ),
    ))
    (decided_and (decided_le (suc c.0) p.size) (decided_and (decided_le (suc c.1) p.size)
    (decided_all (λ k. All (IsShut p b c k) p.candidates) (λ k. decided_all (IsShut p b c k)
    (λ m. decided_or (decided_false (is_allowed p c k m)) (decided_or (decided_contains b.outside k) (decided_contains b.outside m))) p.candidates) p.candidates)))

decided_nil : (xs : List ℕ) → Decided (xs ≡ [])
decided_nil [] = inl refl
decided_nil (x ∷ xs) = inr (λ e. cc)

decided_closed : (b : Branching) → Decided (IsClosed b)
decided_closed b = decided_by {P = (b.inside ≡ []) × (b.free ≡ [])}
    (λ h. record { none_inside = h.0; none_free = h.1 }) (λ h. (h.none_inside, h.none_free))
    (decided_and (decided_nil b.inside) (decided_nil b.free))

pub decided_below : (x y : ℤ) → Decided (x <ℤ y)
decided_below x y = by_lt_z x y (λ below. inl below) (λ above. inr (λ below. omega (arith, ints)))

-- each of these conditions holds or does not
abbrev pub AllDecided : List Claim → Type 0
AllDecided [] = Unit {0}
AllDecided (c ∷ cs) = Decided c.holds × AllDecided cs

AllDecided-append : (xs ys : List Claim) → AllDecided xs → AllDecided ys → AllDecided (xs ++ ys)
AllDecided-append [] ys h g = g
AllDecided-append (x ∷ xs) ys h g = (h.0, AllDecided-append xs ys h.1 g)

if_time_decided : (b : Bool) (c : Claim) → Decided c.holds → AllDecided (if_time b c)
if_time_decided true c d = (d, tt)
if_time_decided false c d = tt

tree_line_decided : (p : Problem) (s : Progress) (pending : List Branching) (l : TreeLine) → AllDecided (tree_conditions p s pending l)
tree_line_decided p s [] l = tt
tree_line_decided p s (b ∷ pending) (branch_on k) = (decided_contains b.free k, tt)
tree_line_decided p s (b ∷ pending) (leaf_of denom weights) = (
  decided_room p.wanted b,
  (
    decided_all (λ (e : ℕ × ℕ). e.0 ≤ length s.cuts) (λ e. decided_le e.0 (length s.cuts)) weights,
    (
      decided_all (IsMultiple s.cuts) (λ e. decided_eq (share s.cuts e * (cut_at s.cuts e.0).part) e.1) weights,
      (
        decided_le (weight_sum weights) denom,
        (decided_below (pos (denom * s.bound) -ℤ pos denom) (leaf_bound p s.cuts denom weights b), tt),
      ),
    ),
  ),
)
tree_line_decided p s (b ∷ pending) no_hub = (decided_closed b, tt)
tree_line_decided p s (b ∷ pending) (no_route commodity) = (decided_blocked p b commodity, tt)
tree_line_decided p s (b ∷ pending) no_count = (decided_lacks p.wanted b, tt)

line_decided : (p : Problem) (s : Progress) (item : Item) → AllDecided (line_conditions p s item)
line_decided p s (says_version v) = tt
line_decided p s (says_size n q) = (decided_and (decided_eq n p.size) (decided_eq q (length p.candidates)), tt)
line_decided p s (says_cost c) = tt
line_decided p s (says_bound b) = (decided_le b s.cost, tt)
line_decided p s (says_hubs hubs) =
    (decided_all (Contains p.candidates) (decided_contains p.candidates) hubs, (decided_wanted p.wanted (length hubs), tt))
line_decided p s (says_route commodity route) =
    let routes = s.routes ++ route ∷ [] in
    let cost = plan_cost p (record { hubs = s.hubs; routes = routes }) in (
      decided_and (decided_contains s.hubs route.0) (decided_contains s.hubs route.1),
      (
        decided_true (is_allowed p commodity route.0 route.1),
        if_time_decided (nat_eq (length routes) (s.size * s.size)) (claim Cost s.line (s.cost ≡ cost)) (decided_eq s.cost cost),
      ),
    )
line_decided p s (says_cuts all) = tt
line_decided p s (says_cut number part) = tt
line_decided p s (says_marked number part hubs) =
    (decided_and (decided_may p) (decided_all (Contains p.candidates) (decided_contains p.candidates) hubs), tt)
line_decided p s (says_dual commodity run dual) =
    let duals = s.duals ++ replicate run dual in
    let cut : Cut = record { part = s.part; duals = duals } in (
      decided_run p s.part (length s.duals) (run, dual),
      if_time_decided (is_whole s duals) (claim Sum s.line (IsWithinSums p cut)) (decided_sums p cut),
    )
line_decided p s (says_proof proof) =
    let t = length s.duals - 1 in
    (decided_core_dual p (marked_hubs s.mark) s.part (commodity_at p.size t) (slice_index_or s.duals t (record { a = 0; u = [] })) proof, tt)
line_decided p s (says_nodes all) = tt
line_decided p s (says_tree l) = tree_line_decided p s s.pending l
line_decided p s says_end = tt

lines_decided : (p : Problem) (s : Progress) (items : List Item) → AllDecided (conditions_from p s items)
lines_decided p s [] = tt
lines_decided p s (item ∷ items) =
    AllDecided-append (line_conditions p s item) (conditions_from p (after_line p s item) items) (line_decided p s item)
    (lines_decided p (after_line p s item) items)

pub conditions_decided : (p : Problem) (k : Stated) → AllDecided (conditions p k)
conditions_decided p k = lines_decided p at_start (certificate_items k)

-- and so each of some of them
some_decided : (is_asked : Kind → Bool) (cs : List Claim) → AllDecided cs → AllDecided (asked is_asked cs)
some_decided is_asked [] d = tt
some_decided is_asked (c ∷ cs) d =
    AllDecided-append (if_time (is_asked c.kind) c) (asked is_asked cs) (if_time_decided (is_asked c.kind) c d.0) (some_decided is_asked cs d.1)

pub older_decided : (p : Problem) (k : Stated) → AllDecided (older_conditions p k)
older_decided p k = some_decided is_of_cuts (conditions p k) (conditions_decided p k)

-- all of these conditions hold, or one of them is the first that fails
pub first_failure : (cs : List Claim) → AllDecided cs → AllHold cs ⊎ ((kind : Kind) × (line : ℕ) × FailsFirst cs kind line)
first_failure [] d = inl tt
first_failure (c ∷ cs) d = elim d.0 [
  | inl holds ↦ elim (first_failure cs d.1) [
    | inl all ↦ inl (holds, all)
    | inr some ↦ inr (some.0, some.1, inr (holds, some.2))
  ]
  | inr fails ↦ inr (c.kind, c.line, inl (fails, refl, refl))
]

pub failure_or_all : (cs : List Claim) (kind : Kind) (line : ℕ) → AllHold cs → FailsFirst cs kind line → ⊥
failure_or_all [] kind line a f = f
failure_or_all (c ∷ cs) kind line a f = elim f [
  | inl here ↦ here.0 a.0
  | inr later ↦ failure_or_all cs kind line a.1 later.1
]

pub one_failure : (cs : List Claim) (kind other : Kind) (line place : ℕ) → FailsFirst cs kind line → FailsFirst cs other place
    → (kind ≡ other) × (line ≡ place)
one_failure [] kind other line place f g = absurd f
one_failure (c ∷ cs) kind other line place f g = elim f [
  | inl here ↦ elim g [
    | inl there ↦ (sym here.1 ∙ there.1, sym here.2 ∙ there.2)
    | inr later ↦ absurd (here.0 later.0)
  ]
  | inr later ↦ elim g [
    | inl there ↦ absurd (there.0 later.0)
    | inr further ↦ one_failure cs kind other line place later.1 further.1
  ]
]
