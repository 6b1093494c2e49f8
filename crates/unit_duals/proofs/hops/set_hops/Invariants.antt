use Rattle.std.proofs.Common.{◌≡◌, ◌+◌, ◌*◌}
use Rattle.unit_duals.specs.Cells.{IsTable}
use Rattle.unit_duals.specs.Leasts.{IsFirstLeast}
use Rattle.unit_duals.specs.Hops.{hop_by, least_hop}
use Rattle.unit_duals.proofs.hops.set_hops.Given as goal

abbrev pub invariant-loop-x : goal.invariant-loop-x
invariant-loop-x l = record {
  lasts : IsTable l.size (λ x j y. IsFirstLeast (hop_by l.legs x j) l.legs.hubs y) l.lasts (l.x * l.size);
  lengths : IsTable l.size (λ x j v. v ≡ least_hop l.legs x j) l.lengths (l.x * l.size);
}

abbrev pub invariant-loop-j : goal.invariant-loop-j
invariant-loop-j l = record {
  lasts : IsTable l.size (λ x j y. IsFirstLeast (hop_by l.legs x j) l.legs.hubs y) l.lasts (l.x * l.size + l.j);
  lengths : IsTable l.size (λ x j v. v ≡ least_hop l.legs x j) l.lengths (l.x * l.size + l.j);
}
