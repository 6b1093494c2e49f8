-- What the call that builds an instance takes and returns.
use Rattle.std.specs.Prelude.{◌≡◌, ℕ, ℤ, List, Option, None, IfSome}
use Rattle.std.specs.declared.vec.Vec.{Vec}
use Rattle.std.specs.declared.alloc.Global.{Global}
use Rattle.hub_spec.specs.Problem.{Problem}
use Rattle.file_spec.specs.Options.{Options}
use Rattle.file_spec.specs.Contents.{Contents}
use Rattle.file_spec.specs.Instances.{HasAsked, made, build_fault}
use Rattle.hub_model.specs.Building.{AreGivenCosts, IsOneSource, costs_of}

-- the fixed costs of a costs file, where there is one, fit the contents, and there is no other source beside them
pub record AreBuildable (o : Options) (contents : Contents) (costs : Option (Vec ℤ Global)) : Type 0 where
  pub given : IfSome costs (λ c. AreGivenCosts contents.size c.items)
  pub one_source : IsOneSource (costs_of costs) contents.costs o.fixed
  pub listed : HasAsked o contents

-- routes are limited as the options say, and no number of hubs is wanted where the options have none
pub record KeepsLimits (o : Options) (p : Problem) : Type 0 where
  pub longest : p.longest ≡ o.longest
  pub wanted : o.hubs ≡ None → p.wanted ≡ None

-- the instance was made of them, and they have no fault together
pub record IsBuilt (o : Options) (contents : Contents) (costs : Option (List ℕ)) (p : Problem) : Type 0 where
  pub is : p ≡ made o contents costs
  pub legal : build_fault o contents costs ≡ None
