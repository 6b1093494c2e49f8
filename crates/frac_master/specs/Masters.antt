-- The master problem of a branch, scaled to small whole numbers, as the first table of a linear program.
use Rattle.std.specs.Prelude.{◌≡◌, ℕ, ◌+◌, ◌/◌, ◌^◌, ◌==◌, ◌<◌, ◌≤◌, nat_le, if◌then◌else◌, List, [], ◌∷◌, ◌++◌, map, length, slice_index, slice_index_or, sum_by, max, All, ℤ, pos, ◌-ℤ◌, neg_ℤ}
use Rattle.std.specs.List.{range_with_len, flat_map, position_or_len, AllZip}
use Rattle.hub_spec.specs.Problem.{greatest}
use Rattle.hub_spec.specs.Trees.{Branching}
use Rattle.frac_rows.specs.Rows.{Table}
use Rattle.frac_rows.specs.Starts.{start}

-- ---- numbers

-- each cut's total, each cut's load of each node, and each node's fixed cost
pub record MasterNumbers : Type 0 where
  pub totals : List ℕ
  pub loads : List (List ℕ)
  pub fixed : List ℕ

-- the numbers of a master
abbrev pub master_of : List ℕ → List (List ℕ) → List ℕ → MasterNumbers
master_of totals loads fixed = record { totals = totals; loads = loads; fixed = fixed }

-- each cut has a load of each node
pub record AreMasterNumbers (totals : List ℕ) (loads : List (List ℕ)) (fixed : List ℕ) : Type 0 where
  pub one_each : length loads ≡ length totals
  pub as_long : All (λ row. length row ≡ length fixed) loads

-- the number after h halvings, each of them rounded down
abbrev pub halved : ℕ → ℕ → ℕ
halved h x = x / 2 ^ h

-- no load is above both its cut's total and this number
abbrev pub AreWithinTotals : ℕ → List ℕ → List (List ℕ) → Type 0
AreWithinTotals most totals loads = AllZip (λ total row. All (λ x. x ≤ max total most) row) totals loads

-- the row of each node has the cuts' loads of it, halved h times
pub record AreShortRows (h : ℕ) (rows loads : List (List ℕ)) : Type 0 where
  pub row : (k : ℕ) → k < length rows → slice_index_or rows k [] ≡ map (λ load. halved h (slice_index load k)) loads

-- the nodes that the branch speaks of
abbrev pub candidates_of : Branching → List ℕ
candidates_of b = b.inside ++ (b.outside ++ b.free)

-- ---- scaling

-- the numbers of these nodes, of a list with one for each node
abbrev pub at_nodes : List ℕ → List ℕ → List ℕ
at_nodes nodes row = map (slice_index row) nodes

-- the greatest among all totals, all loads of candidates and all fixed costs of candidates
unfoldable pub greatest_number : MasterNumbers → Branching → ℕ
greatest_number m b =
    let nodes = candidates_of b in
    greatest (m.totals ++ (flat_map (at_nodes nodes) m.loads ++ at_nodes nodes m.fixed))

-- what no scaled number is above
abbrev pub most_scaled : ℕ
most_scaled = 4095

-- the least number of halvings after which g is at most that; it is sought below g, since g halvings are enough
unfoldable pub halvings : ℕ → ℕ
halvings g = position_or_len (λ h. nat_le (halved h g) most_scaled) (range_with_len 0 g)

-- how often each number of the master is halved
abbrev pub halvings_of : MasterNumbers → Branching → ℕ
halvings_of m b = halvings (greatest_number m b)

-- ---- the linear program

-- what a cut with this total and these loads adds to the objective: the total less the loads of the nodes inside
abbrev pub worth : ℕ → Branching → ℕ → List ℕ → ℤ
worth h b total loads = pos (halved h total) -ℤ pos (sum_by (λ k. halved h (slice_index loads k)) b.inside)

-- the column of a cut: its loads of the free nodes, 1 in the row of the weights' sum, and what v loses by it
unfoldable pub cut_column : ℕ → Branching → ℕ → List ℕ → List ℤ
cut_column h b total loads =
    map (λ k. pos (halved h (slice_index loads k))) b.free ++ pos 1 ∷ neg_ℤ (worth h b total loads) ∷ []

-- the column of the surplus of the j-th of n free nodes: its load above its fixed cost, which v loses
unfoldable pub surplus_column : ℕ → ℕ → List ℤ
surplus_column n j = map (λ i. if i == j then neg_ℤ (pos 1) else pos 0) (range_with_len 0 (n + 1)) ++ pos 1 ∷ []

-- the columns of the cuts with these totals and loads
unfoldable pub cut_columns : ℕ → Branching → List ℕ → List (List ℕ) → List (List ℤ)
cut_columns h b totals loads =
    map (λ c. cut_column h b (slice_index totals c) (slice_index_or loads c [])) (range_with_len 0 (length totals))

-- the columns of the surpluses of n free nodes
unfoldable pub surplus_columns : ℕ → List (List ℤ)
surplus_columns n = map (surplus_column n) (range_with_len 0 n)

-- the right sides: the fixed costs of the free nodes, and 1 for the sum of the weights
unfoldable pub rights_of : ℕ → List ℕ → List ℕ → List ℤ
rights_of h fixed free = map (λ k. pos (halved h (slice_index fixed k))) free ++ pos 1 ∷ []

-- the columns of the variables: the weights of the cuts, then the surpluses of the free nodes
abbrev pub master_columns : ℕ → Branching → List ℕ → List (List ℕ) → List (List ℤ)
master_columns h b totals loads = cut_columns h b totals loads ++ surplus_columns (length b.free)

-- the master before the first pivot
unfoldable pub master : MasterNumbers → Branching → Table
master m b =
    let h = halvings_of m b in
    start (master_columns h b m.totals m.loads) (rights_of h m.fixed b.free)
