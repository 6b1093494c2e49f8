use Rattle.std.proofs.Common.{◌≡◌, ◌^◌, ◌≤◌, take, max}
use Rattle.std.specs.Prelude.{fold}
use Rattle.leg_duals.proofs.candidate_filling.farthest_of.Given as goal

abbrev pub invariant-loop-d : goal.invariant-loop-d
invariant-loop-d l = record { value : l.most ≡ fold max 0 (take l.d-index l.d-items); limit : l.most ≤ 10 ^ 10 }
