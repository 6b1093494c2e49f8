use Rattle.std.proofs.Common.{◌≡◌, All}
use Rattle.std.specs.Arc.{arc_value}
use Rattle.desks.proofs.partners.Partner.awaited.Given as goal

abbrev pub invariant-loop-look : goal.invariant-loop-look
invariant-loop-look g l = record {
  key : l.self-inside.desk ≡ l.fn.self;
  kept : All (λ a. g.T.Told.holds l.fn.self (arc_value a)) l.self-inside.kept.items;
}
