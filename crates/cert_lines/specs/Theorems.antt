-- What is proved of the sums of a leaf; each statement is the contract of the public function of its name.
use Rattle.std.specs.Prelude.{◌≡◌, ℕ, ◌<◌, List, [], ◌∷◌, ◌++◌, slice_index}
use Rattle.hub_spec.specs.Problem.{Problem, IsProblem}
use Rattle.hub_spec.specs.Cuts.{Cut, total, load}
use Rattle.hub_spec.specs.Trees.{Branching, IsBranch, cut_at, leaf_bound}
use Rattle.cert_lines.specs.Tallies.{Tally, IsBegun, IsAdded, tally_bound, AreSumsOf}

-- sums that are begun are those of no pair
abbrev pub SumsBegin : Type 0
SumsBegin = (n : ℕ) (cuts : List Cut) (denom : ℕ) (tally : Tally)
    → IsBegun denom n tally → AreSumsOf n cuts denom [] tally

-- with the part, the total and the loads of a pair's cut added, they are those of the pairs with that one behind
abbrev pub SumsGoOn : Type 0
SumsGoOn = (n : ℕ) (cuts : List Cut) (denom : ℕ) (weights : List (ℕ × ℕ)) (pair : ℕ × ℕ) (loads : List ℕ) (tally later : Tally)
    → AreSumsOf n cuts denom weights tally
    → ((k : ℕ) → k < n → slice_index loads k ≡ load (cut_at cuts pair.0) k)
    → IsAdded tally pair.1 (cut_at cuts pair.0).part (total (cut_at cuts pair.0)) loads later
    → AreSumsOf n cuts denom (weights ++ pair ∷ []) later

-- the bound by the sums of a leaf's pairs is the bound at the leaf, whether a number of hubs is wanted or not
abbrev pub SumsBoundLeaf : Type 0
SumsBoundLeaf = (p : Problem) (cuts : List Cut) (denom : ℕ) (weights : List (ℕ × ℕ)) (b : Branching) (tally : Tally)
    → IsProblem p → IsBranch p b → AreSumsOf p.size cuts denom weights tally
    → tally_bound p tally b ≡ leaf_bound p cuts denom weights b
