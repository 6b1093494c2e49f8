-- A cut with its mark.
use Rattle.hub_spec.specs.Cuts.{Cut}
use Rattle.core_spec.specs.CoreCuts.{Mark}

-- the cut, and the mark that is to show that it is undominated
pub record MarkedCut : Type 0 where
  pub cut : Cut
  pub mark : Mark
