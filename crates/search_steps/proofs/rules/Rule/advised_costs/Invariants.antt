use Rattle.std.proofs.Common.{◌≡◌, ◌+◌, ◌/◌, ℕ, map, take}
use Rattle.search_steps.proofs.rules.Rule.advised_costs.Given as goal

abbrev pub invariant-loop-own : goal.invariant-loop-own
invariant-loop-own g l = l.room.items ≡ map (λ (f : ℕ). f + l.cost / l.hubs) (take l.own-index l.fixed)
