-- The ways by hubs, by the hubs' numbers.
use Rattle.std.proofs.Common.{◌≡◌, ℕ, ◌+◌, ◌<◌, length, subst, sym, arith}
use Rattle.leg_duals.specs.Ways.{WaysFrom, IsWay, no_way}
use Rattle.leg_duals.specs.Lowered.{AnyOf, IsLowered}
use Rattle.leg_duals.specs.Duals.{IsHubWay}
use Rattle.leg_duals.proofs.LoweredSets.{lowered_as}
use Rattle.leg_duals.proofs.SparedWays.{hub_number}

-- the ways by hubs whose last one has a number below `count`
abbrev pub WaysToHubs : WaysFrom → ℕ → ℕ → ℕ → Type 0
WaysToHubs w count = AnyOf count (λ y. AnyOf (length w.hubs) (λ x. IsWay w (length w.order + x) (length w.order + y)))

pub hub_ways : (w : WaysFrom) (count : ℕ) (prices : ℕ → ℕ) → count ≡ length w.hubs → IsLowered w.size (WaysToHubs w count) (λ _. no_way) prices
    → IsLowered w.size (IsHubWay w) (λ _. no_way) prices
hub_ways w count prices all = lowered_as w.size (WaysToHubs w count) (IsHubWay w) (λ _. no_way) prices forth back
  where
    forth : (j v : ℕ) → j < w.size → WaysToHubs w count j v → IsHubWay w j v
    forth j v low is = (
      length w.order + is.2.0,
      length w.order + is.0,
      (omega arith, omega (arith, is.2.1)),
      (omega arith, omega (arith, is.1, all)),
      is.2.2,
    )

    back : (j v : ℕ) → j < w.size → IsHubWay w j v → WaysToHubs w count j v
    back j v low is =
        let first = hub_number w is.0 is.2 in
        let last = hub_number w is.1 is.3 in (
          last.0,
          omega (arith, last.1, all),
          (
            first.0,
            first.1,
            subst (λ (m : ℕ). IsWay w (length w.order + first.0) m j v) (sym last.2) (subst (λ (k : ℕ). IsWay w k is.1 j v) (sym first.2) is.4),
          ),
        )
