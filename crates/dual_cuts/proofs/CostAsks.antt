-- What a cost asks that may be absent: nothing where it is.
use Rattle.std.proofs.Common.{◌≡◌, ℕ, ◌-◌, ◌≤◌, Option, Some, None, refl, ap, arith}
use Rattle.hub_spec.specs.Separation.{below_price}

pub ask_is : (a : ℕ) (d : Option ℕ) (f : ℕ) → d ≡ Some f → below_price a d ≡ a - f
ask_is a d f there = ap (below_price a) there

-- the ask, less the value of the other node, where it is enough to look at a cost that is there
pub ask_low_beside : (a v most : ℕ) (d : Option ℕ) → ((f : ℕ) → d ≡ Some f → a - f - v ≤ most) → below_price a d - v ≤ most
ask_low_beside a v most None low = omega arith
ask_low_beside a v most (Some f) low = low f refl

pub ask_low : (a most : ℕ) (d : Option ℕ) → ((f : ℕ) → d ≡ Some f → a - f ≤ most) → below_price a d ≤ most
ask_low a most None low = omega arith
ask_low a most (Some f) low = low f refl
