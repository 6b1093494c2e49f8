-- The sums of the first origins, and of one more.
use Rattle.std.proofs.Common.{◌≡◌, ℕ, ◌+◌, ◌*◌, ◌^◌, ◌<◌, List, length, get_or, take, sum_by, slice_index, ap, sym, ◌∙◌, arith}
use Rattle.std.specs.List.{AllZip, range_with_len}
use Rattle.hub_spec.specs.Problem.{commodities}
use Rattle.hub_spec.specs.Cuts.{total, load}
use Rattle.hub_spec.specs.Separation.{set_cut}
use Rattle.pareto_cuts.specs.Separations.{SetSeparation, IsSeparation}
use Rattle.pareto_cuts.proofs.SetSums.{price_of, value_of, total_more, load_more, total_within, load_within, whole_sum, total_by_commodities, load_by_commodities}
use Rattle.par_separate.specs.declared.origins.OriginSums.{OriginSums}
use Rattle.par_separate.specs.Origins.{AreSumsFrom}
use Rattle.par_separate.proofs.OriginZips.{at_origin, many_origins}

-- the item at i has the sums of the origin i
pub next_origin : (s : SetSeparation) (os : List OriginSums) (i : ℕ) (o : OriginSums) → AllZip (AreSumsFrom s) (range_with_len 0 s.problem.size) os
    → i < length os → o ≡ get_or os i o → (i < s.problem.size) × AreSumsFrom s i o
next_origin s os i o each inside is =
    let below : i < s.problem.size = omega (arith, many_origins (AreSumsFrom s) s.problem.size os each) in
    (below, at_origin (AreSumsFrom s) s.problem.size os i o each below is)

-- the sum of the prices, and of the values of the node k, of all commodities from the first t origins
abbrev pub total_to : SetSeparation → ℕ → ℕ
total_to s t = sum_by (price_of s.problem s.hubs s.order) (take (t * s.problem.size) (commodities s.problem.size))

abbrev pub load_to : SetSeparation → ℕ → ℕ → ℕ
load_to s k t = sum_by (value_of s.problem s.hubs s.order k) (take (t * s.problem.size) (commodities s.problem.size))

pub total_further : (s : SetSeparation) (i total : ℕ) (o : OriginSums) → i < s.problem.size → total ≡ total_to s i → AreSumsFrom s i o → total + o.total ≡ total_to s (i + 1)
total_further s i total o below is from =
    ap (λ (x : ℕ). total + x) from.is_total ∙ total_more s.problem s.hubs s.order i total below is

pub load_further : (s : SetSeparation) (i k load : ℕ) (o : OriginSums) → i < s.problem.size → k < s.problem.size → load ≡ load_to s k i → AreSumsFrom s i o
    → load + slice_index o.loads.items k ≡ load_to s k (i + 1)
load_further s i k load o below node is from =
    load_more s.problem s.hubs s.order i k load _ below is (ap (λ (x : ℕ). load + x) (from.are_loads k node))

pub total_further_fits : (s : SetSeparation) (i total : ℕ) (o : OriginSums) → IsSeparation s → i < s.problem.size → total ≡ total_to s i → AreSumsFrom s i o → total + o.total < 2 ^ 128
total_further_fits s i total o ok below is from =
    omega (arith, total_further s i total o below is from, total_within s.problem s.hubs s.order ((i + 1) * s.problem.size) ok.problem ok.set ok.order)

pub load_further_fits : (s : SetSeparation) (i k load : ℕ) (o : OriginSums) → IsSeparation s → i < s.problem.size → k < s.problem.size → load ≡ load_to s k i → AreSumsFrom s i o
    → load + slice_index o.loads.items k < 2 ^ 128
load_further_fits s i k load o ok below node is from =
    omega (arith, load_further s i k load o below node is from, load_within s.problem s.hubs s.order k ((i + 1) * s.problem.size) ok.problem ok.set ok.order)

-- of all origins they are the cut's
pub all_total : (s : SetSeparation) (t : ℕ) → t ≡ s.problem.size → total_to s t ≡ total (set_cut s.problem s.hubs s.order)
all_total s t all =
    whole_sum s.problem.size t (price_of s.problem s.hubs s.order) all ∙ sym (total_by_commodities s.problem s.hubs s.order)

pub all_load : (s : SetSeparation) (k t : ℕ) → t ≡ s.problem.size → load_to s k t ≡ load (set_cut s.problem s.hubs s.order) k
all_load s k t all =
    whole_sum s.problem.size t (value_of s.problem s.hubs s.order k) all ∙ sym (load_by_commodities s.problem s.hubs s.order k)

-- a separation's cut, by the words with which it was made
pub separation_cut : (s made : SetSeparation) (hubs : List ℕ) → s ≡ made → made.hubs ≡ hubs
    → set_cut s.problem s.hubs s.order ≡ set_cut made.problem hubs made.order
separation_cut s made hubs is same =
    ap (λ (x : SetSeparation). set_cut x.problem x.hubs x.order) is ∙ ap (λ (hs : List ℕ). set_cut made.problem hs made.order) same
