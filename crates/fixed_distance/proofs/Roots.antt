-- A root that is cut to a whole number and then divided is the planar distance.
use Rattle.std.proofs.Common.{◌≡◌, ℕ, ◌+◌, ◌*◌, ◌/◌, ◌^◌, ◌<◌, ◌≤◌, ap₂, ◌∙◌, arith}
use Rattle.std.proofs.Math.Nat.{mul-le-mul, pow-suc, pow-zero, mul-div-le, lt-mul-div-succ}
use Rattle.file_spec.specs.Distances.{planar_distance}
use Rattle.file_spec.proofs.Distances.{planar_unique}

square : (x : ℕ) → x ^ 2 ≡ x * x
square x =
    let two : x ^ 2 ≡ x ^ 1 * x = pow-suc x 1 in
    let one : x ^ 1 ≡ x ^ 0 * x = pow-suc x 0 in
    rw (two, one, pow-zero) (omega arith)

-- what is divided by k is below the next multiple of k
next_multiple : (k r : ℕ) → 1 ≤ k → r + 1 ≤ k * (r / k + 1)
next_multiple k r h = (let above : r < k * (r / k + 1) = lt-mul-div-succ r h in omega arith)

-- r is the root of s, cut
divided_root : (k s r : ℕ) → 1 ≤ k → r * r ≤ s → (k * (r / k)) ^ 2 ≤ s
divided_root k s r h below =
    let down : k * (r / k) ≤ r = mul-div-le r k in
    let squares : k * (r / k) * (k * (r / k)) ≤ r * r = mul-le-mul down down in
    rw (square (k * (r / k))) (omega arith)

next_root : (k s r : ℕ) → 1 ≤ k → s < (r + 1) * (r + 1) → s < (k * (r / k + 1)) ^ 2
next_root k s r h above =
    let up : r + 1 ≤ k * (r / k + 1) = next_multiple k r h in
    let squares : (r + 1) * (r + 1) ≤ k * (r / k + 1) * (k * (r / k + 1)) = mul-le-mul up up in
    rw (square (k * (r / k + 1))) (omega arith)

root_is_planar : (divide dx dy r : ℕ) → 1 ≤ divide → r * r ≤ dx * dx + dy * dy → dx * dx + dy * dy < (r + 1) * (r + 1)
    → r / (1000 * divide) ≡ planar_distance divide dx dy
root_is_planar divide dx dy r one below above =
    let k = 1000 * divide in
    planar_unique divide dx dy (r / k) one
    (record {
      not_longer = rw (square dx, square dy) (divided_root k (dx * dx + dy * dy) r (omega arith) below);
      next_longer = rw (square dx, square dy) (next_root k (dx * dx + dy * dy) r (omega arith) above);
    })

-- the root of the squares of x and y, which are dx and dy
pub divided_is_planar : (divide dx dy x y r : ℕ) → x ≡ dx → y ≡ dy → 1 ≤ divide → r * r ≤ x * x + y * y
    → x * x + y * y < (r + 1) * (r + 1) → r / (1000 * divide) ≡ planar_distance divide dx dy
divided_is_planar divide dx dy x y r same_x same_y one below above =
    root_is_planar divide x y r one below above ∙ ap₂ (planar_distance divide) same_x same_y
