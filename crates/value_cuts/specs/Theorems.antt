-- What is proved of the duals and the Benders cuts from any dual values.
use Rattle.std.specs.Prelude.{◌≡◌, ℕ, ◌*◌, ◌≤◌, List, Contains}
use Rattle.hub_spec.specs.Problem.{Problem, IsProblem, flow}
use Rattle.hub_spec.specs.Cuts.{Prices, value_at, IsDual, IsCut}
use Rattle.hub_spec.specs.Ranges.{IsCutInRange, IsFirstCut}
use Rattle.hub_model.specs.CandidateLengths.{length_ceiling}
use Rattle.cut_model.specs.ValueRows.{value_dual, ValueRows, value_cut}

-- whatever the row lists, and whatever the offset is, its dual is feasible
abbrev pub ValueDualIsDual : Type 0
ValueDualIsDual = (p : Problem) (unit offset : ℕ) (row : List ℕ) (c : ℕ × ℕ) → IsDual p 1 c (value_dual p unit offset row c)

-- whatever the values are, their cut is a cut of the problem: its duals are feasible, and its sums within their limit
abbrev pub ValueCutIsCut : Type 0
ValueCutIsCut = (p : Problem) (w : ValueRows) → IsProblem p → IsCut p (value_cut p w)

-- and a certificate may list it
abbrev pub ValueCutIsInRange : Type 0
ValueCutIsInRange = (p : Problem) (w : ValueRows) → IsProblem p → IsCutInRange p.size (value_cut p w)

-- .. of the first version too: its part is 1, and its amounts have at most 30 digits
abbrev pub ValueCutIsFirst : Type 0
ValueCutIsFirst = (p : Problem) (w : ValueRows) → IsProblem p → IsFirstCut (value_cut p w)

-- without an offset no feasible dual that gives the candidates these values has a greater price, up to the ceiling
abbrev pub NoGreaterPrice : Type 0
NoGreaterPrice = (p : Problem) (unit : ℕ) (row : List ℕ) (c : ℕ × ℕ) (d : Prices) → IsProblem p
    → IsDual p 1 c d
    → ((k : ℕ) → Contains p.candidates k → value_at d.u k ≡ value_at (value_dual p unit 0 row c).u k)
    → d.a ≤ flow p c.0 c.1 * length_ceiling p
    → d.a ≤ (value_dual p unit 0 row c).a
