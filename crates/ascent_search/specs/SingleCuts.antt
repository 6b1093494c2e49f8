-- One cut alone: its sums, and the bound of a branch by it.
use Rattle.std.specs.Prelude.{◌≡◌, ℕ, ◌<◌, ◌≤◌, ℤ, pos, ◌≤ℤ◌, List, [], ◌∷◌, length, slice_index, Option, Some, None, IfSome}
use Rattle.hub_spec.specs.Problem.{Problem}
use Rattle.hub_spec.specs.Plans.{IsHubSet}
use Rattle.hub_spec.specs.Cuts.{Cut, total, load, IsCut}
use Rattle.hub_spec.specs.Separation.{IsOrder}
use Rattle.hub_spec.specs.Trees.{Branching, leaf_bound, Closes}
use Rattle.leaf_bound.specs.declared.weightings.Weighting as lent
use Rattle.leaf_bound.specs.Numbers.{rows_of}
use Rattle.search_spec.specs.States.{denominator, whole_on}
use Rattle.ascent_search.specs.declared.leaves.Choice.{Choice}
use Rattle.ascent_search.specs.declared.leaves.OrderedSet.{OrderedSet}

-- the total of a cut of the problem with the part 1, and its load of each node
pub record AreLoads (p : Problem) (cut : Cut) (sum : ℕ) (loads : List ℕ) : Type 0 where
  pub is_cut : IsCut p cut
  pub whole : cut.part ≡ 1
  pub is_total : sum ≡ total cut
  pub long : length loads ≡ p.size
  pub are_loads : (k : ℕ) → k < p.size → slice_index loads k ≡ load cut k

-- the total, the loads and the part of the cut as arguments, each in a list of one
pub record AreLentOf (p : Problem) (cut : Cut) (totals : List ℕ) (rows : List (List ℕ)) (parts : List ℕ) : Type 0 where
  pub sum : ℕ
  pub loads : List ℕ
  pub are : AreLoads p cut sum loads
  pub totals_are : totals ≡ sum ∷ []
  pub rows_are : rows ≡ loads ∷ []
  pub parts_are : parts ≡ 1 ∷ []

-- the weighting has the problem's fixed costs, and the whole weight on the cut alone
pub record IsOnCut (p : Problem) (cut : Cut) (m : lent.Weighting) : Type 0 where
  pub lent_of : AreLentOf p cut m.totals.now (rows_of m) m.parts.now
  pub fixed_are : m.fixed.now ≡ p.fixed_costs
  pub weights_are : m.weights.now ≡ denominator ∷ []
  pub denom_is : m.denom ≡ denominator

-- the weighting has the problem's fixed costs, and no cut
pub record IsOnNone (p : Problem) (m : lent.Weighting) : Type 0 where
  pub totals_are : m.totals.now ≡ []
  pub rows_are : rows_of m ≡ []
  pub parts_are : m.parts.now ≡ []
  pub fixed_are : m.fixed.now ≡ p.fixed_costs
  pub weights_are : m.weights.now ≡ []
  pub denom_is : m.denom ≡ denominator

-- the bound of a branch by the cut alone
abbrev pub cut_bound : Problem → Cut → Branching → ℤ
cut_bound p cut b = leaf_bound p (cut ∷ []) denominator (whole_on 1) b

-- the cut alone fathoms the branch at the cutoff
abbrev pub ClosesBy : Problem → Cut → ℕ → Branching → Type 0
ClosesBy p cut target b = Closes denominator target (cut_bound p cut b)

-- the whole weight on the cut of this number, or no weight
abbrev pub weights_on : Option ℕ → List (ℕ × ℕ)
weights_on None = []
weights_on (Some c) = whole_on c

-- the bound is that of the branch by the cut of this number alone, or by none; it is not below 0
pub record IsChoice (p : Problem) (cuts : List Cut) (b : Branching) (choice : Choice) : Type 0 where
  pub least : IfSome choice.number (λ c. 1 ≤ c)
  pub most : IfSome choice.number (λ c. c ≤ length cuts)
  pub bound : choice.bound ≡ leaf_bound p cuts denominator (weights_on choice.number) b
  pub low : pos 0 ≤ℤ choice.bound

-- the hub set, and an order of the other candidates
pub record IsOrderedSet (p : Problem) (set : List ℕ) (ordered : OrderedSet) : Type 0 where
  pub hubs : ordered.set ≡ set
  pub is_set : IsHubSet p ordered.set
  pub is_order : IsOrder p ordered.set ordered.order.items
