-- The loads of a cut by what is known of each node's.
use Rattle.std.proofs.Common.{◌≡◌, ℕ, suc, ◌<◌, List, [], ◌∷◌, length, get_or, refl, sym, ap₂, ◌∙◌, arith}
use Rattle.std.proofs.lemmas.List.FromFn.{length-map-range_with_len, get_or-map-range_with_len}
use Rattle.hub_spec.specs.Cuts.{Cut, load}
use Rattle.cut_pool.specs.Kept.{node_loads}

pub same_lists : (xs ys : List ℕ) → length xs ≡ length ys → ((k : ℕ) → k < length xs → get_or xs k 0 ≡ get_or ys k 0) → xs ≡ ys
same_lists [] [] long same = refl
same_lists [] (y ∷ ys) long same = absurd (omega (arith, long))
same_lists (x ∷ xs) [] long same = absurd (omega (arith, long))
same_lists (x ∷ xs) (y ∷ ys) long same =
    ap₂ (λ (z : ℕ) (zs : List ℕ). z ∷ zs) (same 0 (omega arith))
    (same_lists xs ys (omega (arith, long)) (λ k low. same (suc k) (omega (arith, low))))

-- a load for each of n nodes
pub loads_are : (n : ℕ) (cut : Cut) (loads : List ℕ) → length loads ≡ n → ((k : ℕ) → k < n → get_or loads k 0 ≡ load cut k) → loads ≡ node_loads n cut
loads_are n cut loads long each =
    same_lists loads (node_loads n cut) (long ∙ sym (length-map-range_with_len (load cut) 0 n))
    (λ k low. let node : k < n = omega (arith, low, long) in
    each k node ∙ sym (get_or-map-range_with_len (load cut) 0 n k k 0 node (omega arith)))
