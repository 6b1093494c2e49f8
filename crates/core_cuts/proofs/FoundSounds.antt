-- Of what size a dual is that is found, and what it lists.
use Rattle.std.proofs.Common.{◌≡◌, ℕ, ◌+◌, ◌*◌, ◌<◌, ◌≤◌, List, [], ◌∷◌, length, All, Contains, inl, sym, subst, ◌∙◌, arith}
use Rattle.std.specs.List.{AllZip}
use Rattle.std.proofs.Math.Nat.{mul-le-mul}
use Rattle.std.proofs.lemmas.List.Elements.{All-nil, All-cons, All-head, All-tail, All-get_or, All-weaker}
use Rattle.std.proofs.lemmas.Nat.{mul-add-lt}
use Rattle.std.proofs.lemmas.Slice.Zip.{AllZip-long}
use Rattle.hub_spec.specs.Limits.{most_flow}
use Rattle.hub_spec.specs.Problem.{Problem, IsProblem, flow, commodities}
use Rattle.hub_spec.specs.Cuts.{value_at}
use Rattle.hub_spec.specs.Plans.{IsHubSet}
use Rattle.hub_spec.proofs.Commodities.{length_commodities}
use Rattle.hub_spec.proofs.Limits.{commodities_are_nodes}
use Rattle.hub_spec.proofs.SetCutFunction.{IsListed, all_listed, listed_ascends, value_at_listed}
use Rattle.core_spec.specs.CoreCuts.{MayBeMarked}
use Rattle.core_cuts.specs.Brought.{most_found, IsSoundFound}
use Rattle.core_cuts.specs.Readings.{Reading, value_of, most_units, FoundDual, found_of, dual_of, IsReading, IsFit, IsFound}
use Rattle.core_cuts.specs.Theorems.{IsAsked}
use Rattle.core_cuts.proofs.LastTables.{asked_of}
use Rattle.core_cuts.proofs.Zipped.{value_at_limit}

flow_limit : (p : Problem) (i j : ℕ) → IsProblem p → i < p.size → j < p.size → flow p i j ≤ most_flow
unfolding flow
flow_limit p i j ok from to =
    All-get_or (λ w. w ≤ most_flow) p.flows (i * p.size + j) 0 (omega (arith, ok.flow_for_each_pair, mul-add-lt i p.size j p.size from to)) ok.flow_limit

sound_of : (p : Problem) (hubs : List ℕ) (c : ℕ × ℕ) (r : Reading) → IsAsked p hubs c → IsReading p hubs c r → IsFit p hubs c r
    → IsSoundFound p (found_of p hubs c r)
unfolding found_of dual_of
sound_of p hubs c r asked reading fit =
    let ok = asked.problem in
    let v = λ (k : ℕ). flow p c.0 c.1 * value_of p r k in
    let u = (dual_of p c r).u in
    let all = all_listed v p.candidates in
    let carried = flow_limit p c.0 c.1 ok asked.from asked.to in
    record {
      some_part = reading.whole.some_part;
      within = record {
        price = (let m = mul-le-mul carried fit.price in omega (arith, m));
        values = All-weaker (IsListed v p.candidates) (λ (e : ℕ × ℕ). e.1 ≤ most_found)
            (λ e l. (let m = mul-le-mul carried (value_at_limit most_units p.candidates r.values e.0 fit.values) in omega (arith, m, l.value))) u all;
      };
      listed = record {
        values = All-weaker (IsListed v p.candidates) (λ (e : ℕ × ℕ). 1 ≤ e.1) (λ e l. l.least) u all;
        ascend = listed_ascends v p.candidates ok.candidates_ascend;
      };
      are_candidates = All-weaker (IsListed v p.candidates) (λ e. Contains p.candidates e.0) (λ e l. l.node) u all;
      own_values = All-weaker (IsListed v p.candidates) (λ e. value_at u e.0 ≡ e.1)
          (λ e l. value_at_listed v p.candidates e.0 (inl l.node) ∙ sym l.value) u all;
    }

pub found_sound : (p : Problem) (hubs : List ℕ) (c : ℕ × ℕ) (f : FoundDual) → IsAsked p hubs c → IsFound p hubs c f → IsSoundFound p f
found_sound p hubs c f asked (r, reading, fit, is) = subst (IsSoundFound p) (sym is) (sound_of p hubs c r asked reading fit)

-- ---- of all commodities

pub all_asked : (p : Problem) (hubs : List ℕ) → IsProblem p → MayBeMarked p → IsHubSet p hubs → All (IsAsked p hubs) (commodities p.size)
all_asked p hubs ok may set =
    All-weaker (λ (c : ℕ × ℕ). (c.0 < p.size) × (c.1 < p.size)) (IsAsked p hubs) (λ c nodes. asked_of p hubs c.0 c.1 ok may set nodes.0 nodes.1)
    (commodities p.size) (commodities_are_nodes p.size)

-- what follows for each of the second list, where each of the first has a property
pub zipped_all : {A B : Type 0} (P : A → Type 0) (R : A → B → Type 0) (Q : B → Type 0) → ((x : A) (y : B) → P x → R x y → Q y)
    → (xs : List A) (ys : List B) → All P xs → AllZip R xs ys → All Q ys
zipped_all P R Q follows [] [] all are = All-nil Q
zipped_all P R Q follows [] (y ∷ ys) all are = absurd are
zipped_all P R Q follows (x ∷ xs) [] all are = absurd are
zipped_all P R Q follows (x ∷ xs) (y ∷ ys) all are =
    All-cons Q y ys (follows x y (All-head P x xs all) are.0) (zipped_all P R Q follows xs ys (All-tail P x xs all) are.1)

pub all_sound : (p : Problem) (hubs : List ℕ) (cs : List (ℕ × ℕ)) (fs : List FoundDual) → All (IsAsked p hubs) cs → AllZip (IsFound p hubs) cs fs
    → All (IsSoundFound p) fs
all_sound p hubs cs fs asked are = zipped_all (IsAsked p hubs) (IsFound p hubs) (IsSoundFound p) (λ c f. found_sound p hubs c f) cs fs asked are

pub founds_long : (p : Problem) (hubs : List ℕ) (fs : List FoundDual) → AllZip (IsFound p hubs) (commodities p.size) fs → length fs ≡ p.size * p.size
founds_long p hubs fs are = AllZip-long (IsFound p hubs) (commodities p.size) fs are ∙ length_commodities p.size
