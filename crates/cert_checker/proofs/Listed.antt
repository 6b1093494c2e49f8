-- Values of nodes listed one after another.
use Rattle.std.proofs.Common.{◌≡◌, ℕ, zero, suc, ◌+◌, ◌-◌, ◌<◌, List, length, map, take, get_or, All, ap, arith}
use Rattle.std.specs.List.Sorted.{IsStrictlyIncreasing}
use Rattle.std.proofs.Math.ListN.{get_or-map}
use Rattle.std.proofs.lemmas.List.{get_or-take, length-take, length-map}
use Rattle.std.proofs.lemmas.List.Elements.{All-from_get_or}

module _ (u : List (ℕ × ℕ)) (up : IsStrictlyIncreasing (map (λ (e : ℕ × ℕ). e.0) u)) where
  node : (s : ℕ) → get_or (map (λ (e : ℕ × ℕ). e.0) u) s 0 ≡ (get_or u s (0, 0)).0
  node s = get_or-map (λ (e : ℕ × ℕ). e.0) u s (0, 0)

  below_next : (s : ℕ) → s + 1 < length u → (get_or u s (0, 0)).0 < (get_or u (s + 1) (0, 0)).0
  below_next s below =
      let h = up s (omega (arith, length-map u (λ (e : ℕ × ℕ). e.0), below)) in omega (arith, h, node s, node (s + 1))

  -- the node of a value is below each later one
  below_later : (s d : ℕ) → s + suc d < length u → (get_or u s (0, 0)).0 < (get_or u (s + suc d) (0, 0)).0
  below_later s zero below = below_next s (omega (arith, below))
  below_later s (suc d) below =
      let h = below_later s d (omega (arith, below)) in
      let g = below_next (s + suc d) (omega (arith, below)) in
      let same : (get_or u (s + suc d + 1) (0, 0)).0 ≡ (get_or u (s + suc (suc d)) (0, 0)).0 =
      ap (λ m. (get_or u m (0, 0)).0) (let e : s + suc d + 1 ≡ s + suc (suc d) = omega arith in e) in
      omega (arith, h, g, same)

  below_at : (s at : ℕ) → s < at → at < length u → (get_or u s (0, 0)).0 < (get_or u at (0, 0)).0
  below_at s at less within =
      let h = below_later s (at - s - 1) (omega (arith, less, within)) in
      let same : (get_or u (s + suc (at - s - 1)) (0, 0)).0 ≡ (get_or u at (0, 0)).0 =
      ap (λ m. (get_or u m (0, 0)).0) (let e : s + suc (at - s - 1) ≡ at = omega (arith, less) in e) in
      omega (arith, h, same)

  -- those before it are below the node of a value
  pub all_below : (at : ℕ) → at < length u → All (λ (e : ℕ × ℕ). e.0 < (get_or u at (0, 0)).0) (take at u)
  all_below at within =
      All-from_get_or (λ (e : ℕ × ℕ). e.0 < (get_or u at (0, 0)).0) (take at u) (0, 0) (λ s below.
      let less : s < at = omega (arith, below, length-take at u) in
      let same : (get_or (take at u) s (0, 0)).0 ≡ (get_or u s (0, 0)).0 = ap (λ (e : ℕ × ℕ). e.0) (get_or-take at u s (0, 0) less) in
      omega (arith, below_at s at less within, same))
