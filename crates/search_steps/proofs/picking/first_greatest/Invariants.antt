use Rattle.std.proofs.Common.{◌≡◌, ℕ, pos, take, get_or, slice_index_or, int_lt}
use Rattle.std.specs.List.{best_of}
use Rattle.search_steps.proofs.picking.first_greatest.Given as goal

abbrev pub invariant-loop-k : goal.invariant-loop-k
invariant-loop-k l =
    l.best ≡ best_of (λ (k m : ℕ). int_lt (slice_index_or l.point m (pos 0)) (slice_index_or l.point k (pos 0))) (get_or l.nodes 0 0) (take l.k-index l.k-items)
