-- The order of hub sets.
use Rattle.std.proofs.Common.{◌≡◌, ◌≢◌, ℕ, List, true, false, refl, sym, ap, ◌∙◌}
use Rattle.std.specs.Prelude.{IsFalse}
use Rattle.std.specs.declared.cmp.Ordering.{Ordering}
use Rattle.std.specs.declared.cmp.Ordering.TheVariants.{Less, Equal, Greater}
use Rattle.std.specs.Ordering.{nat_cmp, is_lt, ordering_reverse}
use Rattle.std.specs.Cmp.Lexicographic.{slice_cmp}
use Rattle.std.specs.FinMap.{nat_cmp-IsAntisymmetric, slice_cmp-IsAntisymmetric}
use Rattle.std.proofs.lemmas.Cmp.{nat_list_cmp_total, tied_itself}
use Rattle.cut_pool.specs.Ordered.{Precedes}

less_from_test : (o : Ordering) → is_lt o ≡ true → o ≡ Less
less_from_test Less h = refl
less_from_test Equal h = cc
less_from_test Greater h = cc

pub precedes_trans : (xs ys zs : List ℕ) → Precedes xs ys → Precedes ys zs → Precedes xs zs
precedes_trans xs ys zs p q = ap is_lt (nat_list_cmp_total.trans xs ys zs (less_from_test _ p) (less_from_test _ q))

pub precedes_itself : (xs : List ℕ) → Precedes xs xs → ⊥
precedes_itself xs p = let e : false ≡ true = sym (ap is_lt (tied_itself nat_list_cmp_total xs)) ∙ p in cc

-- what does not come before another list, and is not that list, comes after it
pub precedes_other : (xs ys : List ℕ) → IsFalse (is_lt (slice_cmp nat_cmp xs ys)) → xs ≢ ys → Precedes ys xs
precedes_other xs ys not_less other =
    elim (slice_cmp nat_cmp xs ys) as (λ o. slice_cmp nat_cmp xs ys ≡ o → is_lt o ≡ false → Precedes ys xs) [
      | Less ↦ λ e h. cc
      | Equal ↦ λ e h. absurd (other (slice_cmp-IsAntisymmetric nat_cmp-IsAntisymmetric xs ys e))
      | Greater ↦ λ e h. ap is_lt (nat_list_cmp_total.antisymm ys xs ∙ ap ordering_reverse e)
    ] refl not_less

-- what comes after a list that is not before zs is not before zs
pub not_before : (xs ys zs : List ℕ) → Precedes xs ys → IsFalse (is_lt (slice_cmp nat_cmp xs zs)) → IsFalse (is_lt (slice_cmp nat_cmp ys zs))
not_before xs ys zs p not_less =
    elim (is_lt (slice_cmp nat_cmp ys zs)) as (λ b. is_lt (slice_cmp nat_cmp ys zs) ≡ b → b ≡ false) [
      | true ↦ λ e. sym (precedes_trans xs ys zs p e) ∙ not_less
      | false ↦ λ e. refl
    ] refl
