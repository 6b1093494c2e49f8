-- Pareto-optimal cuts are tight at their hubs, and no cut that is tight there dominates them.
use Rattle.std.proofs.Common.{◌≡◌, ℕ, ◌+◌, ◌*◌, ◌≤◌, List, [], ◌∷◌, length, zip, sum_by, None, ap, arith}
use Rattle.std.specs.List.{AllZip}
use Rattle.std.proofs.lemmas.List.Sums.{sum_by-cons}
use Rattle.std.proofs.Math.Nat.{mul-add}
use Rattle.hub_spec.specs.Problem.{Problem, IsProblem, commodities, opening_cost}
use Rattle.hub_spec.specs.Edges.{least_cost}
use Rattle.hub_spec.specs.Plans.{IsHubSet}
use Rattle.hub_spec.specs.Cuts.{Prices, Cut, IsDual, IsCut, IsTight}
use Rattle.core_spec.specs.Domination.{Dominates}
use Rattle.core_spec.specs.CoreCuts.{CoreProof, values_on, IsCoreDual, Mark, IsCoreCut}
use Rattle.core_spec.proofs.Covers.{core_outweighs}
use Rattle.core_spec.proofs.TightDuals.{loads_by_duals, least_costs, set_cost_by_least, IsTightDual, tight_each}
use Rattle.core_spec.proofs.Sides.{dominating_outweighs}

-- ---- a Pareto-optimal cut is tight

core_prices : (p : Problem) (hubs : List ℕ) (part : ℕ) (cs : List (ℕ × ℕ)) (ds : List Prices) (proofs : List CoreProof)
    → length proofs ≡ length ds → AllZip (λ c t. IsCoreDual p hubs part c t.0 t.1) cs (zip ds proofs)
    → sum_by (λ (d : Prices). d.a) ds ≡ part * least_costs p hubs cs + sum_by (λ (d : Prices). values_on d hubs) ds
core_prices p hubs part [] [] [] long core = omega arith
core_prices p hubs part [] [] (f ∷ proofs) long core = absurd (omega arith)
core_prices p hubs part [] (d ∷ ds) [] long core = absurd (omega arith)
core_prices p hubs part [] (d ∷ ds) (f ∷ proofs) long core = absurd core
core_prices p hubs part (c ∷ cs) [] proofs long core = absurd core
core_prices p hubs part (c ∷ cs) (d ∷ ds) [] long core = absurd core
core_prices p hubs part (c ∷ cs) (d ∷ ds) (f ∷ proofs) long core =
    let costs = ap (λ n. part * n) (sum_by-cons (least_cost p hubs) c cs) in
    omega (
      arith,
      costs,
      sum_by-cons (λ (e : Prices). e.a) d ds,
      sum_by-cons (λ (e : Prices). values_on e hubs) d ds,
      core.0.tight,
      core_prices p hubs part cs ds proofs (omega arith) core.1,
    )

pub core_is_tight : (p : Problem) (x : Cut) (mark : Mark) → IsCoreCut p x mark → IsTight p mark.hubs x
core_is_tight p x mark core =
    let least = least_costs p mark.hubs (commodities p.size) in
    let prices = core_prices p mark.hubs x.part (commodities p.size) x.duals mark.proofs core.one_proof_each core.proofs in
    record {
      cost = opening_cost p mark.hubs + least;
      is_cost = set_cost_by_least p mark.hubs core.hubs;
      tight = omega (arith, prices, loads_by_duals x.duals mark.hubs, mul-add x.part (opening_cost p mark.hubs) least);
    }

-- ---- and not dominated

all_outweigh : (p : Problem) (hubs : List ℕ) (e f : ℕ) (cs : List (ℕ × ℕ)) (ds : List Prices) (proofs : List CoreProof) (ts : List Prices)
    → IsProblem p → p.longest ≡ None → IsHubSet p hubs → length proofs ≡ length ds
    → AllZip (λ c t. IsCoreDual p hubs e c t.0 t.1) cs (zip ds proofs)
    → AllZip (IsDual p f) cs ts → AllZip (IsTightDual p hubs f) cs ts
    → e * (2 * sum_by (λ (d : Prices). d.a) ts) + f * sum_by (λ (d : Prices). values_on d p.candidates) ds
    ≤ f * (2 * sum_by (λ (d : Prices). d.a) ds) + e * sum_by (λ (d : Prices). values_on d p.candidates) ts
all_outweigh p hubs e f [] [] proofs [] ok any set long core duals tight = omega arith
all_outweigh p hubs e f [] [] proofs (t ∷ ts) ok any set long core duals tight = absurd duals
all_outweigh p hubs e f [] (d ∷ ds) [] ts ok any set long core duals tight = absurd (omega arith)
all_outweigh p hubs e f [] (d ∷ ds) (q ∷ proofs) ts ok any set long core duals tight = absurd core
all_outweigh p hubs e f (c ∷ cs) [] proofs ts ok any set long core duals tight = absurd core
all_outweigh p hubs e f (c ∷ cs) (d ∷ ds) [] ts ok any set long core duals tight = absurd core
all_outweigh p hubs e f (c ∷ cs) (d ∷ ds) (q ∷ proofs) [] ok any set long core duals tight = absurd duals
all_outweigh p hubs e f (c ∷ cs) (d ∷ ds) (q ∷ proofs) (t ∷ ts) ok any set long core duals tight =
    let one = core_outweighs p hubs e f c d t q ok any set core.0 duals.0 tight.0 in
    let rest = all_outweigh p hubs e f cs ds proofs ts ok any set (omega arith) core.1 duals.1 tight.1 in
    let a1 = ap (λ n. f * n) (sum_by-cons (λ (x : Prices). x.a) d ds) in
    let a2 = ap (λ n. e * n) (sum_by-cons (λ (x : Prices). x.a) t ts) in
    let u1 = ap (λ n. f * n) (sum_by-cons (λ (x : Prices). values_on x p.candidates) d ds) in
    let u2 = ap (λ n. e * n) (sum_by-cons (λ (x : Prices). values_on x p.candidates) t ts) in
    omega (arith, one, rest, a1, a2, u1, u2)

pub core_is_undominated : (p : Problem) (x y : Cut) (mark : Mark) → IsProblem p → IsCoreCut p x mark
    → IsCut p y → IsTight p mark.hubs y → Dominates p y x → ⊥
core_is_undominated p x y mark ok core cut tight dominates =
    let more = dominating_outweighs p y x ok core.may.some_candidates dominates in
    let no_more = all_outweigh p mark.hubs x.part y.part (commodities p.size) x.duals mark.proofs y.duals ok core.may.any_length core.hubs
    core.one_proof_each core.proofs cut.duals (tight_each p mark.hubs y core.hubs cut tight) in
    let lx = ap (λ n. y.part * n) (loads_by_duals x.duals p.candidates) in
    let ly = ap (λ n. x.part * n) (loads_by_duals y.duals p.candidates) in
    omega (arith, more, no_more, lx, ly)
