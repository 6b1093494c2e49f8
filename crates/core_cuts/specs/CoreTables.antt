-- The linear program whose best dual is Pareto-optimal, all by unit of flow. Its variables are the price and the
-- value of each candidate, its constraints the ways of the commodity.
use Rattle.std.specs.Prelude.{ℕ, ◌+◌, ◌*◌, ◌/◌, Bool, ◌&&◌, ◌||◌, nat_eq, nat_lt, if◌then◌else◌, List, [], ◌∷◌, ◌++◌, length, map, filter, flat_map, ℤ, pos, ◌-ℤ◌, unsigned_abs}
use Rattle.hub_spec.specs.Problem.{Problem, flow}
use Rattle.hub_spec.proofs.Sets.{is_in}
use Rattle.core_spec.specs.CoreCuts.{Way, pair_cost}
use Rattle.frac_rows.specs.Rows.{Table}
use Rattle.frac_rows.specs.Starts.{start}

-- whether the hub edge is needed: it costs less than each of its single hubs
abbrev pub is_needed : Problem → ℕ × ℕ → ℕ × ℕ → Bool
is_needed p c e =
    nat_lt (pair_cost p c e.0 e.1) (pair_cost p c e.0 e.0) && nat_lt (pair_cost p c e.0 e.1) (pair_cost p c e.1 e.1)

-- the pairs of an ascending list, the lesser first, in order
abbrev pub pairs_of : List ℕ → List (ℕ × ℕ)
pairs_of [] = []
pairs_of (k ∷ ks) = map (λ m. (k, m)) ks ++ pairs_of ks

-- the ways of the commodity: each single hub, then each needed edge
unfoldable pub core_edges : Problem → ℕ × ℕ → List (ℕ × ℕ)
core_edges p c = map (λ k. (k, k)) p.candidates ++ filter (is_needed p c) (pairs_of p.candidates)

-- the cost of a way by unit of flow; 0 where nothing flows
abbrev pub edge_right : Problem → ℕ × ℕ → ℕ × ℕ → ℕ
edge_right p c e = pair_cost p c e.0 e.1 / flow p c.0 c.1

-- whether the way is through the node, as a number
abbrev pub through : ℕ × ℕ → ℕ → ℕ
through e k = if nat_eq e.0 k || nat_eq e.1 k then 1 else 0

-- how often the objective counts a node's value: the hubs two times T more
abbrev pub counts : List ℕ → ℕ → ℕ → ℕ
counts hubs turns k = if is_in hubs k then 1 + 2 * turns else 1

-- a column: a number for each way, and what v loses by it
abbrev pub price_column : List (ℕ × ℕ) → ℕ → List ℤ
price_column edges turns = map (λ e. pos 1) edges ++ (pos 0 -ℤ pos (2 + 2 * turns)) ∷ []

abbrev pub value_column : List (ℕ × ℕ) → List ℕ → ℕ → ℕ → List ℤ
value_column edges hubs turns k = map (λ e. pos 0 -ℤ pos (through e k)) edges ++ pos (counts hubs turns k) ∷ []

abbrev pub core_columns : Problem → List ℕ → ℕ × ℕ → List (List ℤ)
core_columns p hubs c =
    price_column (core_edges p c) (length p.candidates)
    ∷ map (value_column (core_edges p c) hubs (length p.candidates)) p.candidates

abbrev pub core_rights : Problem → ℕ × ℕ → List ℤ
core_rights p c = map (λ e. pos (edge_right p c e)) (core_edges p c)

unfoldable pub core_table : Problem → List ℕ → ℕ × ℕ → Table
core_table p hubs c = start (core_columns p hubs c) (core_rights p c)

-- the ways with the numbers of their slacks in a row
abbrev pub ways_of : List (ℕ × ℕ) → List ℤ → List Way
ways_of [] numbers = []
ways_of (e ∷ edges) [] = []
ways_of (e ∷ edges) (y ∷ numbers) = (e.0, e.1, unsigned_abs y) ∷ ways_of edges numbers

-- the way begins at the node and is taken
abbrev pub begins_at : ℕ → Way → Bool
begins_at k way = nat_eq way.0 k && nat_lt 0 way.2

-- the ways that are taken, in the order of a proof line: node by node those that begin at it, where the ways that begin
-- at a node stand in order
unfoldable pub ordered_ways : List ℕ → List Way → List Way
ordered_ways nodes ways = flat_map (λ k. filter (begins_at k) ways) nodes
