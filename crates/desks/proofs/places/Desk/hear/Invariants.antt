use Rattle.std.proofs.Common.{◌≡◌, All}
use Rattle.std.specs.Arc.{arc_value}
use Rattle.desks.specs.Posts.{IsToldUnder, IsHeardUnder}
use Rattle.desks.proofs.places.Desk.hear.Given as goal

abbrev pub invariant-loop-at : goal.invariant-loop-at
invariant-loop-at g l = record {
  key : l.self-inside.key ≡ l.fn.self;
  told : All (IsToldUnder l.fn.self) l.self-inside.to.items;
  heard : All (IsHeardUnder l.fn.self) l.self-inside.from.items;
  held : All (λ a. g.T.Told.holds l.fn.self (arc_value a)) l.items.items;
}
