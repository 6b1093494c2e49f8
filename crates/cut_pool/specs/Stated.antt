-- Explicit cuts: they are stored with their duals.
use Rattle.std.specs.Prelude.{ℕ, List}
use Rattle.cut_pool.specs.Kept.{Kept, cored, given}

-- a Pareto-optimal cut or an imported one
abbrev pub IsStated : Kept → Type 0
IsStated (cored x) = Unit {0}
IsStated (given cut) = Unit {0}
IsStated _ = ⊥

-- the part of such a cut, its total and its load of each node
pub record PartSums : Type 0 where
  pub part : ℕ
  pub total : ℕ
  pub loads : List ℕ
