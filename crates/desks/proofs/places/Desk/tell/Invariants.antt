use Rattle.std.proofs.Common.{◌≡◌, All}
use Rattle.desks.specs.Posts.{IsToldUnder, IsHeardUnder}
use Rattle.desks.proofs.places.Desk.tell.Given as goal

abbrev pub invariant-loop-at : goal.invariant-loop-at
invariant-loop-at g l = record {
  key : l.self-inside.key ≡ l.fn.self;
  told : All (IsToldUnder l.fn.self) l.self-inside.to.items;
  heard : All (IsHeardUnder l.fn.self) l.self-inside.from.items;
}
