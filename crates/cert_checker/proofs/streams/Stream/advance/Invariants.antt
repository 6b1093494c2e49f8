use Rattle.std.proofs.Common.{◌≡◌, ℕ, ◌-◌, ◌≤◌, ◌++◌, List, length, take}
use Rattle.cert_scan.specs.declared.items.Item.{Item}
use Rattle.cert_checker.specs.Fed.{HasCome}
use Rattle.cert_checker.proofs.streams.Stream.advance.Given as goal

abbrev pub invariant-loop-at : goal.invariant-loop-at
invariant-loop-at l = record {
  within : l.at ≤ length l.piece;
  come : (bytes : List ℕ) (given : List Item) → HasCome bytes given l.fn.self → (later : List Item) × HasCome (bytes ++ take l.at l.piece) later l.self;
  room : l.self.room ≡ l.fn.self.room;
  short : l.self.is_too_long ≡ l.fn.self.is_too_long;
  instance : l.self.checks.instance ≡ l.fn.self.checks.instance;
}

abbrev pub decreases-loop-at : goal.decreases-loop-at
decreases-loop-at l = length l.piece - l.at
