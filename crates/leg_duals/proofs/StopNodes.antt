-- The node of a stop.
use Rattle.std.proofs.Common.{◌≡◌, ℕ, ◌+◌, ◌-◌, ◌<◌, ◌≤◌, List, length, slice_index, All, Contains, ⊎_elim, sym, subst, ◌∙◌, arith}
use Rattle.std.proofs.lemmas.Bool.{cases_lt}
use Rattle.std.proofs.lemmas.List.{get_or_append_left, get_or-append-add, get_or_default}
use Rattle.std.proofs.lemmas.List.Elements.{All-get_or, Contains-get_or}
use Rattle.leg_duals.specs.StopLegs.{stop_node}

-- a place of the order
pub place_node : (hubs order : List ℕ) (k : ℕ) → k < length order → stop_node hubs order k ≡ slice_index order k
place_node hubs order k below = get_or_append_left order hubs 0 k below

-- a hub
pub hub_node : (hubs order : List ℕ) (x : ℕ) → stop_node hubs order (length order + x) ≡ slice_index hubs x
hub_node hubs order x = get_or-append-add order hubs x 0

pub stop_is_node : (n : ℕ) (hubs order : List ℕ) (k : ℕ) → All (λ m. m < n) hubs → All (λ m. m < n) order
    → k < length order + length hubs → stop_node hubs order k < n
stop_is_node n hubs order k hubs_are order_is stop = ⊎_elim
    (λ (early : k < length order). let e = place_node hubs order k early in
    let b = All-get_or (λ m. m < n) order k 0 early order_is in omega (arith, e, b))
    (λ (late : length order ≤ k). let same : length order + (k - length order) ≡ k = omega (arith, late) in
    let e = hub_node hubs order (k - length order) in
    let b = All-get_or (λ m. m < n) hubs (k - length order) 0 (omega (arith, stop, late)) hubs_are in
    subst (λ (s : ℕ). stop_node hubs order s < n) same (omega (arith, e, b)))
    (cases_lt k (length order))

-- ---- hubs

-- the stop m is a hub
abbrev pub IsHubPlace : List ℕ → List ℕ → ℕ → Type 0
IsHubPlace hubs order m = (length order ≤ m) × (m < length order + length hubs)

-- the stop of a hub
pub hub_place : (hubs order : List ℕ) (h : ℕ) → Contains hubs h → (m : ℕ) × IsHubPlace hubs order m × (stop_node hubs order m ≡ h)
hub_place hubs order h is_in = (
  length order + is_in.0,
  (omega arith, omega (arith, is_in.1)),
  hub_node hubs order is_in.0 ∙ get_or_default hubs is_in.0 0 h is_in.1 ∙ is_in.2,
)

-- the node of a stop that is a hub
pub place_hub : (hubs order : List ℕ) (m : ℕ) → IsHubPlace hubs order m → Contains hubs (stop_node hubs order m)
place_hub hubs order m hub =
    let same : length order + (m - length order) ≡ m = omega (arith, hub.0) in
    let here = Contains-get_or hubs (m - length order) 0 (omega (arith, hub.0, hub.1)) in
    subst (λ (s : ℕ). Contains hubs (stop_node hubs order s)) same (subst (Contains hubs) (sym (hub_node hubs order (m - length order))) here)
