-- The file that code blames for a fault.
use Rattle.hub_sources.specs.declared.halts.Blamed.{Blamed}
use Rattle.hub_sources.specs.declared.halts.Blamed.TheVariants.{Instance, Costs}
use Rattle.hub_sources.specs.Sources.{Blame, on_instance, on_costs}

abbrev pub blame_of : Blamed → Blame
blame_of Instance = on_instance
blame_of Costs = on_costs
