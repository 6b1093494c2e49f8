-- What is proved of the parts of a plan's cost; the statement is the contract of the public function of its name.
use Rattle.std.specs.Prelude.{◌≡◌, ◌+◌}
use Rattle.hub_spec.specs.Problem.{Problem, IsProblem, opening_cost}
use Rattle.hub_spec.specs.Certificates.{Proof, Holds}
use Rattle.network_report.specs.Parts.{collection_cost, trunk_cost, delivery_cost}

-- collection, trunk, delivery and the hubs' fixed costs are together the cost that a certificate states where it holds
abbrev pub PartsAddUp : Type 0
PartsAddUp = (p : Problem) (k : Proof) → IsProblem p → Holds p k
    → collection_cost p k.plan + trunk_cost p k.plan + delivery_cost p k.plan + opening_cost p k.plan.hubs ≡ k.cost
