-- The master of a pool's cuts, and the weights and point that it gives a search.
use Rattle.std.proofs.Common.{◌≡◌, ℕ, zero, suc, ◌*◌, ◌/◌, ◌<◌, ◌≤◌, List, [], ◌∷◌, ◌++◌, length, map, get_or, sum, All, Contains, inl, inr, refl, sym, ap, ap₂, subst, ◌∙◌, Option, div-mul-le_self, arith, ◌+◌, Some, None}
use Rattle.std.specs.Prelude.{slice_index}
use Rattle.std.proofs.Math.Nat.{mul-div_cancel}
use Rattle.std.proofs.lemmas.List.{length-map}
use Rattle.std.proofs.lemmas.Grind.{same_number_lists}
use Rattle.std.proofs.lemmas.List.FromFn.{length-map-range_with_len}
use Rattle.std.proofs.lemmas.List.Elements.{All-head, All-tail, All-append, All-map, All-weaker, All-contains, All-from_get_or, Contains-append_left, Contains-append_right}
use Rattle.std.proofs.lemmas.List.Sums.{sum_by-cons, get_or-le-sum_by}
use Rattle.hub_spec.specs.Limits.{most_part}
use Rattle.hub_spec.specs.Problem.{Problem, IsProblem}
use Rattle.hub_spec.proofs.Sets.{All-from_contains}
use Rattle.hub_spec.specs.Cuts.{Cut, IsCut}
use Rattle.hub_spec.specs.Trees.{Branching, IsBranch}
use Rattle.leaf_bound.specs.Bounds.{AreMultiples}
use Rattle.leaf_bound.proofs.LeafWeights.{pairs_mix}
use Rattle.frac_master.specs.Masters.{MasterNumbers, AreMasterNumbers, AreWithinTotals, master_of, candidates_of, greatest_number}
use Rattle.frac_master.specs.Advice.{Advised, advice, AreMixWeights}
use Rattle.frac_master.specs.Theorems.{IsMaster, IsMixed}
use Rattle.frac_master.proofs.Scalings.{loads_below as loads_under}
use Rattle.frac_master.proofs.MasterTables.{weights_are_a_mix}
use Rattle.search_spec.specs.States.{denominator}
use Rattle.cut_pool.specs.Entries.{Entry, entry_part, unit_totals, unit_loads, most_stated}
use Rattle.cut_pool.specs.Shorts.{unit_row}
use Rattle.search_core.proofs.Weightings.{below_size}
use Rattle.search_steps.specs.Pools.{IsPoolOf, pool_cuts, state_by}
use Rattle.search_steps.specs.Advising.{with_share, advised_costs, unit_total, master_numbers, told_by, in_parts, advised_on, master_advising}
use Rattle.search_steps.specs.Weights.{AreNodeWeights}
use Rattle.search_steps.specs.Theorems.{AdvisingIsSound}
use Rattle.search_steps.proofs.PoolNumbers.{lent_parts, parts_are, parts_least, told_totals, told_loads, loads_below, loads_long}
use Rattle.search_steps.proofs.PoolLoads.{AreAtMost, most_reached}

-- ---- the fixed costs of the master

share_long : (wanted : Option ℕ) (cost : ℕ) (fixed : List ℕ) → length (with_share wanted cost fixed) ≡ length fixed
share_long None cost fixed = refl
share_long (Some n) cost fixed = length-map fixed (λ (f : ℕ). f + cost / n)

-- one for each node
costs_long : (p : Problem) (cost : ℕ) (fixed : List ℕ) → IsProblem p → fixed ≡ advised_costs p cost → length fixed ≡ p.size
costs_long p cost fixed ok costs = ap length costs ∙ share_long p.wanted cost p.fixed_costs ∙ ok.cost_for_each_node

-- ---- the numbers

-- the numbers are those that the pool lends for one unit of its cuts' parts, with the fixed costs for an incumbent of
-- this cost
pub record AreMasters (p : Problem) (entries : List Entry) (cost : ℕ) (totals : List ℕ) (loads : List (List ℕ)) (fixed : List ℕ) : Type 0 where
  pub problem : IsProblem p
  pub pool : IsPoolOf p entries
  pub costs : fixed ≡ advised_costs p cost
  pub are_totals : totals ≡ unit_totals entries
  pub are_loads : loads ≡ unit_loads entries

pub many_totals : (p : Problem) (entries : List Entry) (cost : ℕ) (totals : List ℕ) (loads : List (List ℕ)) (fixed : List ℕ)
    → AreMasters p entries cost totals loads fixed → length totals ≡ length entries
many_totals p entries cost totals loads fixed are =
    ap length are.are_totals ∙ length-map entries (λ (e : Entry). e.total / entry_part e)

pub numbers_serve : (p : Problem) (entries : List Entry) (cost : ℕ) (totals : List ℕ) (loads : List (List ℕ)) (fixed : List ℕ)
    → AreMasters p entries cost totals loads fixed → AreMasterNumbers totals loads fixed
numbers_serve p entries cost totals loads fixed are = record {
  one_each = ap length are.are_loads ∙ length-map entries unit_row ∙ sym (many_totals p entries cost totals loads fixed are);
  as_long = subst (All (λ (row : List ℕ). length row ≡ length fixed)) (sym are.are_loads)
      (loads_long p entries (length fixed) are.pool (costs_long p cost fixed are.problem are.costs));
}

pub within_totals : (p : Problem) (entries : List Entry) (cost : ℕ) (totals : List ℕ) (loads : List (List ℕ)) (fixed : List ℕ)
    → AreMasters p entries cost totals loads fixed → AreWithinTotals (most_stated entries) totals loads
within_totals p entries cost totals loads fixed are =
    rw (are.are_totals, are.are_loads) (loads_below p entries are.problem are.pool)

pub nodes_serve : (p : Problem) (cost : ℕ) (fixed : List ℕ) (b : Branching) → IsProblem p → fixed ≡ advised_costs p cost → IsBranch p b
    → All (λ k. k < length fixed) (candidates_of b)
nodes_serve p cost fixed b ok costs is =
    let below = below_size p b ok is in
    subst (λ (n : ℕ). All (λ k. k < n) (candidates_of b)) (sym (costs_long p cost fixed ok costs))
    (All-append (λ k. k < p.size) b.inside (b.outside ++ b.free) below.inside
    (All-append (λ k. k < p.size) b.outside b.free below.outside below.free))

is_master : (p : Problem) (cuts : List Cut) (cost : ℕ) (b : Branching) → IsProblem p → IsBranch p b → IsMaster (master_numbers p cuts cost) b
is_master p cuts cost b ok is =
    let same = costs_long p cost (advised_costs p cost) ok refl in
    record {
      split = is.split;
      nodes = nodes_serve p cost (advised_costs p cost) b ok refl is;
      few = omega (arith, same, ok.size_limit);
    }

-- the numbers are those of the master of the cuts
masters_same : (p : Problem) (entries : List Entry) (cost : ℕ) (totals : List ℕ) (loads : List (List ℕ)) (fixed : List ℕ)
    → AreMasters p entries cost totals loads fixed → master_of totals loads fixed ≡ master_numbers p (pool_cuts p entries) cost
masters_same p entries cost totals loads fixed are =
    let of : List ℕ → List (List ℕ) → MasterNumbers = λ t l. record { totals = t; loads = l; fixed = fixed } in
    ap₂ of (are.are_totals ∙ told_totals p entries are.pool) (are.are_loads ∙ told_loads p entries are.pool)
    ∙ ap (λ (f : List ℕ). record (master_numbers p (pool_cuts p entries) cost) { fixed = f }) are.costs

-- the greatest load of the cuts that are stored with their duals is not above the greatest number of the master
candidate_there : (p : Problem) (b : Branching) (k : ℕ) → IsBranch p b → Contains p.candidates k → Contains (candidates_of b) k
candidate_there p b k is c = elim (is.all k c) [
  | inl inside ↦ Contains-append_left b.inside (b.outside ++ b.free) k inside
  | inr other ↦ Contains-append_right b.inside (b.outside ++ b.free) k (elim other [
    | inl outside ↦ Contains-append_left b.outside b.free k outside
    | inr free ↦ Contains-append_right b.outside b.free k free
  ])
]

at_candidates : (p : Problem) (b : Branching) (m : ℕ) (rows : List (List ℕ)) → IsBranch p b
    → All (λ row. All (λ k. slice_index row k ≤ m) (candidates_of b)) rows → AreAtMost p m rows
at_candidates p b m rows is low =
    All-weaker (λ (row : List ℕ). All (λ k. slice_index row k ≤ m) (candidates_of b)) (λ (row : List ℕ). All (λ k. slice_index row k ≤ m) p.candidates)
    (λ row all. All-from_contains (λ k. slice_index row k ≤ m) p.candidates
    (λ k c. All-contains (λ k. slice_index row k ≤ m) (candidates_of b) k all (candidate_there p b k is c))) rows low

pub most_serves : (p : Problem) (entries : List Entry) (cost : ℕ) (totals : List ℕ) (loads : List (List ℕ)) (fixed : List ℕ) (b : Branching)
    → AreMasters p entries cost totals loads fixed → IsBranch p b → most_stated entries ≤ greatest_number (master_of totals loads fixed) b
most_serves p entries cost totals loads fixed b are is =
    let m = master_of totals loads fixed in
    let g = greatest_number m b in
    most_reached p entries g are.pool (subst (AreAtMost p g) are.are_loads (at_candidates p b g m.loads is (loads_under m b)))

-- ---- weights lowered to multiples of the parts

in_parts_at : (ws parts : List ℕ) (k : ℕ) → k < length ws → length ws ≤ length parts
    → get_or (in_parts ws parts) k 0 ≡ get_or ws k 0 / get_or parts k 0 * get_or parts k 0
in_parts_at [] parts k low few = absurd (omega (arith, low))
in_parts_at (w ∷ ws) [] k low few = absurd (omega (arith, few))
in_parts_at (w ∷ ws) (e ∷ parts) zero low few = refl
in_parts_at (w ∷ ws) (e ∷ parts) (suc k) low few = in_parts_at ws parts k (omega (arith, low)) (omega (arith, few))

-- rounded down to multiples they are multiples
parts_multiple : (ws parts : List ℕ) → length ws ≤ length parts → All (λ (e : ℕ). 1 ≤ e) parts → AreMultiples (in_parts ws parts) parts
parts_multiple [] parts few least = tt
parts_multiple (w ∷ ws) [] few least = absurd (omega (arith, few))
parts_multiple (w ∷ ws) (e ∷ parts) few least =
    let some = All-head (λ (n : ℕ). 1 ≤ n) e parts least in (
      ap (λ (n : ℕ). n * e) (mul-div_cancel (w / e) some),
      parts_multiple ws parts (omega (arith, few)) (All-tail (λ (n : ℕ). 1 ≤ n) e parts least),
    )

parts_long : (ws parts : List ℕ) → length ws ≤ length parts → length (in_parts ws parts) ≡ length ws
parts_long [] parts few = refl
parts_long (w ∷ ws) [] few = absurd (omega (arith, few))
parts_long (w ∷ ws) (e ∷ parts) few = omega (arith, parts_long ws parts (omega (arith, few)))

parts_below : (ws parts : List ℕ) → sum (in_parts ws parts) ≤ sum ws
parts_below [] parts = omega arith
parts_below (w ∷ ws) [] = omega arith
parts_below (w ∷ ws) (e ∷ parts) =
    omega (arith, div-mul-le_self w e, parts_below ws parts, sum_by-cons (λ (n : ℕ). n) w ws, sum_by-cons (λ (n : ℕ). n) (w / e * e) (in_parts ws parts))

-- weights that were lowered one by one
pub lowered_each : (old new parts : List ℕ) → length new ≡ length old → length old ≤ length parts
    → ((k : ℕ) → k < length old → get_or new k 0 ≡ get_or old k 0 / get_or parts k 0 * get_or parts k 0) → new ≡ in_parts old parts
lowered_each old new parts same few each =
    same_number_lists new (in_parts old parts) (same ∙ sym (parts_long old parts few))
    (λ k low. let here : k < length old = omega (arith, low, same) in each k here ∙ sym (in_parts_at old parts k here few))

-- ---- the weights and point of the master

pub advice_is : (p : Problem) (entries : List Entry) (cost : ℕ) (totals : List ℕ) (loads : List (List ℕ)) (fixed : List ℕ) (b : Branching) (a : Advised) (ws : List ℕ)
    → AreMasters p entries cost totals loads fixed → a ≡ advice (master_of totals loads fixed) b → ws ≡ in_parts a.weights (lent_parts entries)
    → (hubs : List ℕ) (made : ℕ) (stop : Option ℕ) → told_by (record a { weights = ws }) ≡ master_advising p (state_by p entries hubs cost made stop) b
unfolding master_advising
advice_is p entries cost totals loads fixed b a ws are is lowered hubs made stop =
    let cuts = pool_cuts p entries in
    ap (λ (xs : List ℕ). told_by (record a { weights = xs })) (lowered ∙ ap (in_parts a.weights) (parts_are p entries are.pool))
    ∙ ap (λ (x : Advised). told_by (advised_on cuts x)) (is ∙ ap (λ (n : MasterNumbers). advice n b) (masters_same p entries cost totals loads fixed are))

pub point_long : (p : Problem) (entries : List Entry) (cost : ℕ) (totals : List ℕ) (loads : List (List ℕ)) (fixed : List ℕ) (b : Branching) (a : Advised)
    → AreMasters p entries cost totals loads fixed → a ≡ advice (master_of totals loads fixed) b → length a.point ≡ p.size
unfolding advice
point_long p entries cost totals loads fixed b a are is =
    ap (λ (x : Advised). length x.point) is ∙ length-map-range_with_len _ 0 (length fixed) ∙ costs_long p cost fixed are.problem are.costs

pub node_weights : (p : Problem) (entries : List Entry) (cost : ℕ) (totals : List ℕ) (loads : List (List ℕ)) (fixed weights lowered : List ℕ)
    → AreMasters p entries cost totals loads fixed → AreMixWeights (length totals) weights
    → lowered ≡ in_parts weights (lent_parts entries) → AreNodeWeights entries lowered
node_weights p entries cost totals loads fixed weights lowered are mix is =
    let parts = lent_parts entries in
    let few : length weights ≤ length parts =
    omega (arith, mix.one_each, many_totals p entries cost totals loads fixed are, length-map entries entry_part) in
    let least = All-weaker (λ (part : ℕ). (1 ≤ part) × (part ≤ most_part)) (λ (part : ℕ). 1 ≤ part) (λ part limits. limits.0) parts
    (parts_least p entries are.problem are.pool) in
    let most : sum lowered ≤ denominator = omega (arith, ap sum is, parts_below weights parts, mix.most) in
    record {
      few = omega (arith, ap length is, parts_long weights parts few, few, length-map entries entry_part);
      each = All-from_get_or (λ (w : ℕ). w ≤ denominator) lowered 0
          (λ k low. let within = get_or-le-sum_by (λ (n : ℕ). n) lowered k 0 low in omega (arith, within, most));
      multiples = subst (λ (ws : List ℕ). AreMultiples ws parts) (sym is) (parts_multiple weights parts few least);
      most = most;
    }

-- ---- the weights and point of the master are sound

pub advising_sound : AdvisingIsSound
unfolding master_advising
advising_sound p ok s b is_state is_branch some =
    let m = master_numbers p s.cuts s.cost in
    let mixed : IsMixed (length m.totals) (advice m b).weights = weights_are_a_mix m b (is_master p s.cuts s.cost b ok is_branch) in
    let parts = map (λ (cut : Cut). cut.part) s.cuts in
    let given = (advice m b).weights in
    let weights = in_parts given parts in
    let few : length given ≤ length parts = omega (arith, mixed.one_each, length-map s.cuts unit_total, length-map s.cuts (λ (cut : Cut). cut.part)) in
    let least = All-map (λ (e : ℕ). 1 ≤ e) (λ (cut : Cut). cut.part) s.cuts
    (All-weaker (IsCut p) (λ (cut : Cut). 1 ≤ cut.part) (λ cut is. is.part_least) s.cuts is_state.cuts) in
    let mix = pairs_mix s.cuts denominator weights (parts_multiple given parts few least)
    (omega (arith, parts_long given parts few, mixed.one_each, length-map s.cuts unit_total)) (omega arith) (omega arith)
    (omega (arith, mixed.most, parts_below given parts)) in
    record {
      mix = mix.mix;
      listed = record { values = mix.above; ascend = mix.ascend };
    }
