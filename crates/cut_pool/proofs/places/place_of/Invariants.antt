use Rattle.std.proofs.Common.{◌-◌, map}
use Rattle.cut_pool.specs.Kept.{kept_of}
use Rattle.cut_pool.specs.PoolCuts.{sets_of}
use Rattle.cut_pool.proofs.Indexes.{IsSearch}
use Rattle.cut_pool.proofs.places.place_of.Given as goal

abbrev pub invariant-loop-low : goal.invariant-loop-low
invariant-loop-low l = IsSearch (sets_of (map kept_of l.cuts)) l.by_set l.hubs l.low l.high

abbrev pub decreases-loop-low : goal.decreases-loop-low
decreases-loop-low l = l.high - l.low
