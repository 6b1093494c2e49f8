-- What a search costs at most, by what it begins with.
use Rattle.std.proofs.Common.{◌≡◌, ℕ, ◌+◌, ◌-◌, ◌*◌, ◌≤◌, true, false, not, nat_lt, nat_eq, Bool, List, [], length, take, sum_by, All, Option, Some, None, is_some, refl, sym, ap, subst, ◌∙◌, eqb-true, ltb-true, mul-add, true≢false, arith}
use Rattle.std.specs.Prelude.{IfSome}
use Rattle.std.proofs.Math.Nat.{mul-le-mul_left}
use Rattle.std.proofs.lemmas.Bool.{ltb-false, eq-eqb}
use Rattle.std.proofs.lemmas.List.{take_all}
use Rattle.std.proofs.lemmas.List.Elements.{All-get_or}
use Rattle.hub_spec.specs.Problem.{Problem, IsProblem, opening_cost, commodities}
use Rattle.hub_spec.specs.Plans.{routing_cost, IsHubSet, IsSetCost}
use Rattle.hub_spec.specs.Cuts.{Cut, cut_by, load, IsCut}
use Rattle.hub_spec.specs.Trees.{cut_at}
use Rattle.hub_spec.specs.Lacking.{lacking}
use Rattle.hub_spec.proofs.Lacking.{tells}
use Rattle.hub_spec.proofs.SetCosts.{one_set_cost}
use Rattle.hub_spec.proofs.SumLemmas.{by_test}
use Rattle.hub_spec.proofs.WeakDuality.{cut_bound}
use Rattle.search_spec.specs.States.{State, Parts, number_in_pool}
use Rattle.search_spec.specs.Steps.{begun, separated, searched}
use Rattle.search_spec.specs.Laws.{IsWantedSet, IsState, IsStart, AreSound}
use Rattle.search_spec.specs.Choices.{begun_for}
use Rattle.search_spec.specs.Again.{Start, IsStartOf, has_wanted, with_given, is_tried, tried, begun_again}
use Rattle.search_spec.specs.Costs.{IsAtMostOf, least_of, first_hubs, IsAtMostBoth}
use Rattle.search_spec.proofs.Beginnings.{all_has, given_start}
use Rattle.search_spec.proofs.Separated.{number_reached}
use Rattle.search_spec.proofs.WholeSearches.{begun_by, root_grown}

-- ---- a set that is separated

pub separated_less : (parts : Parts) (set order : List ℕ) (s : State) → (separated parts set order s).cost ≤ s.cost
unfolding separated
separated_less parts set order s =
    by_test (nat_lt (parts.cost set) s.cost) (λ e. rw e (omega (arith, ltb-true (parts.cost set) s.cost e))) (λ e. rw e (omega arith))

separated_most : (parts : Parts) (set order : List ℕ) (s : State) → (separated parts set order s).cost ≤ parts.cost set
unfolding separated
separated_most parts set order s =
    by_test (nat_lt (parts.cost set) s.cost) (λ e. rw e (omega arith)) (λ e. rw e (omega (arith, ltb-false (parts.cost set) s.cost e)))

-- ---- the whole search

pub cost_falls : (p : Problem) (parts : Parts) (n : Option ℕ) (s : State) → IsProblem p → AreSound p parts → IsStart p s
    → (searched p parts n s).state.cost ≤ s.cost
cost_falls p parts n s ok sound start = (root_grown p parts n s ok sound start).next.cost

-- ---- the beginning

pub least_to : (p : Problem) (hubs : List ℕ) (less c : ℕ) → less ≤ c → IsAtMostOf p hubs c → IsAtMostOf p hubs less
least_to p hubs less c low at = λ set cost is. omega (arith, low, at set cost is)

pub both_to : (p : Problem) (start : Start) (less c : ℕ) → less ≤ c → IsAtMostBoth p start c → IsAtMostBoth p start less
both_to p start less c low at = record {
  own = least_to p (first_hubs p) less c low at.own;
  given = least_to p start.hubs less c low at.given;
}

begun_least : (p : Problem) (parts : Parts) (wanted : Option ℕ) → IsHubSet p p.candidates → AreSound p parts
    → IsAtMostOf p (least_of wanted p.candidates) (begun_for p parts wanted).cost
unfolding begun_for begun
begun_least p parts None all sound = λ set cost is.
    omega (arith, one_set_cost p p.candidates (parts.cost p.candidates) cost (sound.cost p.candidates all) is)
begun_least p parts (Some n) all sound = λ set cost is.
    let least = take n p.candidates in
    by_test (nat_eq n (length p.candidates))
    (λ e. rw e (let whole : least ≡ p.candidates = take_all n p.candidates (omega (arith, eqb-true n (length p.candidates) e)) in
    omega (arith, one_set_cost p p.candidates (parts.cost p.candidates) cost (sound.cost p.candidates all) (subst (λ hubs. IsSetCost p hubs cost) whole is))))
    (λ e. rw e (omega (arith, one_set_cost p least (parts.cost least) cost (sound.cost least set.is_set) is)))

pub begun_most : (p : Problem) (parts : Parts) → IsHubSet p p.candidates → AreSound p parts
    → IsAtMostOf p (first_hubs p) (begun_for p parts p.wanted).cost
begun_most p parts all sound = begun_least p parts p.wanted all sound

-- ---- the hubs that are tried

-- a hub set that is wanted is tried, unless it is in the pool
wanted_has : (p : Problem) (wanted : Option ℕ) (hubs : List ℕ) → IfSome wanted (λ n. length hubs ≡ n) → has_wanted wanted hubs ≡ true
wanted_has p None hubs is = refl
wanted_has p (Some n) hubs is = eq-eqb (length hubs) n is

set_tried : (p : Problem) (s : State) (hubs : List ℕ) → IsWantedSet p hubs → is_tried p s hubs ≡ not (is_some (number_in_pool s hubs))
unfolding is_tried
set_tried p s hubs set =
    let first = all_has p.candidates hubs set.is_set.are_candidates in
    let second : is_some (lacking p hubs) ≡ false = ap (λ (o : Option (ℕ × ℕ)). is_some o) ((tells p hubs).none.1 set.is_set.lacks_none) in
    let third = wanted_has p p.wanted hubs set.wanted in
    rw (first, second, third) refl

cut_there : (p : Problem) (cuts : List Cut) (x : ℕ) → All (IsCut p) cuts → 1 ≤ x → x ≤ length cuts → IsCut p (cut_at cuts x)
cut_there p cuts x are least most = All-get_or (IsCut p) cuts (x - 1) (cut_by []) (omega (arith, least, most)) are

less_by : (e a b : ℕ) → 1 ≤ e → e * a ≤ e * b → a ≤ b
less_by e a b some low =
    by_test (nat_lt b a)
    (λ t. let up : b + 1 ≤ a = omega (arith, ltb-true b a t) in absurd (omega (arith, mul-le-mul_left e up, mul-add e b 1, low, some)))
    (λ t. omega (arith, ltb-false b a t))

-- one in the pool costs at least what the state has
pool_least : (p : Problem) (s : State) (hubs : List ℕ) (x cost : ℕ) → IsState p s → IsWantedSet p hubs → number_in_pool s hubs ≡ Some x
    → IsSetCost p hubs cost → s.cost ≤ cost
pool_least p s hubs x cost ok set is is_cost =
    let r = number_reached p hubs s x ok set.wanted is in
    let cut = cut_at s.cuts x in
    let is_cut : IsCut p cut = cut_there p s.cuts x ok.cuts r.least r.most in
    let plan = is_cost.reached.0 in
    let bound = cut_bound p plan cut is_cost.reached.1 is_cut in
    let loads = ap (λ (hs : List ℕ). sum_by (load cut) hs) is_cost.reached.2 in
    let opening = ap (λ (hs : List ℕ). cut.part * opening_cost p hs) is_cost.reached.2 in
    let routing = routing_cost p (commodities p.size) plan.routes in
    let costs = ap (λ (c : ℕ). cut.part * c) (sym is_cost.reached.3) ∙ mul-add cut.part (opening_cost p plan.hubs) routing in
    less_by cut.part s.cost cost is_cut.part_least (omega (arith, r.reaches.says, bound, loads, opening, costs))

in_pool : (p : Problem) (s : State) (hubs : List ℕ) (o : Option ℕ) → number_in_pool s hubs ≡ o → is_some o ≡ true → IsWantedSet p hubs
    → (cost : ℕ) → IsState p s → IsSetCost p hubs cost → s.cost ≤ cost
in_pool p s hubs None same e set cost ok is = absurd (true≢false (sym e))
in_pool p s hubs (Some x) same e set cost ok is = pool_least p s hubs x cost ok set same is

not_false : (b : Bool) → not b ≡ false → b ≡ true
not_false true e = refl
not_false false e = absurd (true≢false e)

tried_cost : (p : Problem) (parts : Parts) (hubs : List ℕ) (s : State) → AreSound p parts → IsState p s → IsAtMostOf p hubs (tried p parts hubs s).cost
unfolding tried
tried_cost p parts hubs s sound ok = λ set cost is.
    let known = set_tried p s hubs set in
    by_test (is_tried p s hubs)
    (λ e. rw e (omega (arith, separated_most parts hubs (parts.ascending hubs) s, one_set_cost p hubs (parts.cost hubs) cost (sound.cost hubs set.is_set) is)))
    (λ e. rw e (in_pool p s hubs (number_in_pool s hubs) refl (not_false (is_some (number_in_pool s hubs)) (sym known ∙ e)) set cost ok is))

tried_less : (p : Problem) (parts : Parts) (hubs : List ℕ) (s : State) → (tried p parts hubs s).cost ≤ s.cost
unfolding tried
tried_less p parts hubs s =
    by_test (is_tried p s hubs) (λ e. rw e (separated_less parts hubs (parts.ascending hubs) s)) (λ e. rw e (omega arith))

given_cost : (cuts : List Cut) (s : State) → (with_given cuts s).cost ≡ s.cost
unfolding with_given
given_cost cuts s = refl

pub again_most : (p : Problem) (parts : Parts) (start : Start) → IsProblem p → IsHubSet p p.candidates → AreSound p parts → IsStartOf p start
    → IsAtMostBoth p start (begun_again p parts start).cost
unfolding begun_again
again_most p parts start ok all sound is =
    let begun = begun_for p parts p.wanted in
    let given = with_given start.cuts begun in
    let state = (given_start p start.cuts begun is.cuts is.in_range (begun_by p parts p.wanted ok all sound refl)).state in
    record {
      own = least_to p (first_hubs p) (tried p parts start.hubs given).cost begun.cost
          (omega (arith, tried_less p parts start.hubs given, given_cost start.cuts begun)) (begun_most p parts all sound);
      given = tried_cost p parts start.hubs given sound state;
    }
