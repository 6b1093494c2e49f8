use Rattle.std.proofs.Common.{◌≡◌, ℕ, take, get_or, nat_lt}
use Rattle.std.specs.List.{best_of}
use Rattle.search_spec.specs.Choices.{from_half}
use Rattle.frac_master.specs.Advice.{advice_of_code}
use Rattle.search_steps.specs.Advising.{told_by}
use Rattle.search_steps.proofs.picking.first_nearest.Given as goal

abbrev pub invariant-loop-k : goal.invariant-loop-k
invariant-loop-k l =
    l.best ≡ best_of (λ (k m : ℕ). nat_lt (from_half (told_by (advice_of_code l.advice)) k) (from_half (told_by (advice_of_code l.advice)) m))
    (get_or l.nodes 0 0) (take l.k-index l.k-items)
