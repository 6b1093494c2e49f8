-- What the items that a scan gives say, at any time.
use Rattle.std.specs.Prelude.{◌≡◌, ℕ, ◌+◌, ◌<◌, ◌≤◌, false, List, [], ◌∷◌, ◌++◌, flat_map, All, ◌⊎◌}
use Rattle.std.specs.List.Sorted.{IsStrictlyIncreasing}
use Rattle.core_spec.specs.CoreCuts.{CoreProof}
use Rattle.core_spec.specs.MarkRanges.{IsProofInRange}
use Rattle.hub_spec.specs.Limits.{most_part}
use Rattle.hub_spec.specs.Problem.{commodity_at}
use Rattle.hub_spec.specs.Cuts.{Prices}
use Rattle.hub_spec.specs.Trees.{leaf_of}
use Rattle.hub_spec.specs.Ranges.{IsDualInRange, IsLineInRange, IsFirstDual}
use Rattle.cert_spec.specs.Lines.{Item as Line}
use Rattle.cert_spec.specs.Stated.{IsThird}
use Rattle.cert_spec.specs.Grammar.{Stage, Shape, want_version, want_hubs, want_cut, want_dual, want_proved, want_proof, want_tree, IsRun, Leads}
use Rattle.cert_scan.specs.Parts.{parts_of, open_hubs, open_mark, open_values, open_ways, open_weights}
use Rattle.cert_scan.specs.declared.items.Item.{Item}
use Rattle.cert_scan.specs.declared.items.Item.TheVariants.{Cut, Dual, Proof, Leaf}

-- some hubs, ascending, of n nodes
pub record BegunHubs (n : ℕ) (given : List Item) : Type 0 where
  pub hubs : List ℕ
  pub are : given ≡ open_hubs hubs
  pub ascend : IsStrictlyIncreasing hubs
  pub nodes : All (λ k. k < n) hubs

-- the price of a run of commodities, of which the first is this one and has number t, and some values, all as the version
-- says them
pub record BegunDual (s : Shape) (t : ℕ) (commodity : ℕ × ℕ) (given : List Item) : Type 0 where
  pub dual : Prices
  pub run : ℕ
  pub are : given ≡ Dual commodity.0 commodity.1 run dual.a false ∷ open_values dual.u
  pub is_run : IsRun s t run
  pub in_range : IsDualInRange s.size dual
  pub first : s.version ≡ 1 → IsFirstDual dual

-- the number of the next cut, which is marked, and its part, and some hubs of its mark, as the third version says them
pub record BegunCut (s : Shape) (x : ℕ) (given : List Item) : Type 0 where
  pub part : ℕ
  pub hubs : List ℕ
  pub are : given ≡ Cut (x + 1) part false ∷ open_mark hubs
  pub third : IsThird s.version
  pub some : 1 ≤ part
  pub most : part ≤ most_part
  pub ascend : IsStrictlyIncreasing hubs
  pub nodes : All (λ k. k < s.size) hubs

-- the price of this commodity, and some values, in range
pub record BegunProved (n : ℕ) (commodity : ℕ × ℕ) (given : List Item) : Type 0 where
  pub dual : Prices
  pub are : given ≡ Dual commodity.0 commodity.1 1 dual.a false ∷ open_values dual.u
  pub in_range : IsDualInRange n dual

-- the turns and the scale of a proof, and some ways, in range
pub record BegunProof (n : ℕ) (given : List Item) : Type 0 where
  pub proof : CoreProof
  pub are : given ≡ Proof proof.turns proof.scale false ∷ open_ways proof.ways
  pub in_range : IsProofInRange n proof

-- the denominator of a leaf, and some weights, in range
pub record BegunLeaf (n : ℕ) (given : List Item) : Type 0 where
  pub denom : ℕ
  pub weights : List (ℕ × ℕ)
  pub are : given ≡ Leaf denom false ∷ open_weights weights
  pub in_range : IsLineInRange n (leaf_of denom weights)

-- what may be given of a line at this stage whose end was not given
abbrev pub IsBegun : Stage → List Item → Type 0
IsBegun (want_hubs s) given = BegunHubs s.size given
IsBegun (want_cut s all x) given = (given ≡ []) ⊎ BegunCut s x given
IsBegun (want_dual s all x t before) given = (given ≡ []) ⊎ BegunDual s t (commodity_at s.size t) given
IsBegun (want_proved s all x t) given = (given ≡ []) ⊎ BegunProved s.size (commodity_at s.size t) given
IsBegun (want_proof s all x t) given = (given ≡ []) ⊎ BegunProof s.size given
IsBegun (want_tree s places left) given = (given ≡ []) ⊎ BegunLeaf s.size given
IsBegun stage given = given ≡ []

-- the items are those of lines that may stand so from the first on, and the first ones of one more line
pub record IsGiven (given : List Item) : Type 0 where
  pub lines : List Line
  pub stage : Stage
  pub more : List Item
  pub lead : Leads want_version lines stage
  pub are : given ≡ flat_map parts_of lines ++ more
  pub begun : IsBegun stage more
