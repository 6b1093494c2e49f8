-- The sums of the Benders cut from a hub set are what a search stores of it.
use Rattle.std.proofs.Common.{◌≡◌, ℕ, ◌<◌, List, length, slice_index, sym, subst}
use Rattle.hub_spec.specs.Problem.{Problem}
use Rattle.hub_spec.specs.Plans.{IsHubSet}
use Rattle.hub_spec.specs.Cuts.{total, load}
use Rattle.hub_spec.specs.Separation.{IsOrder, set_cut}
use Rattle.cut_pool.specs.Entries.{Sums, entry_of}
use Rattle.search_steps.specs.Pools.{IsSumsOf}

pub are_sums : (p : Problem) (hubs order loads : List ℕ) (t : ℕ) → IsHubSet p hubs → IsOrder p hubs order → t ≡ total (set_cut p hubs order) → length loads ≡ p.size
    → ((k : ℕ) → k < p.size → slice_index loads k ≡ load (set_cut p hubs order) k) → (s : Sums) → s ≡ record { hubs = hubs; total = t; loads = loads }
    → IsSumsOf p (entry_of s order)
are_sums p hubs order loads t set is sum long each s same =
    subst (λ (x : Sums). IsSumsOf p (entry_of x order)) (sym same)
    record { pooled = tt; fits = (set, is); is_total = sum; one_load_each = long; are_loads = each }
