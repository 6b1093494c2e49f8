-- A whole row that is written number by number.
use Rattle.std.proofs.Common.{◌≡◌, ◌≢◌, ℕ, ◌+◌, ◌<◌, List, length, set, get_or, ℤ, pos, refl, sym, ap, ◌∙◌, ⊎_elim, arith}
use Rattle.std.proofs.lemmas.Bool.{cases_eq}
use Rattle.std.proofs.lemmas.List.{length-set, get_or-set_same, get_or-set_other}
use Rattle.frac_rows.specs.Rows.{number}
use Rattle.plain_rows.specs.Flat.{spread_number, spread, IsSpread}
use Rattle.plain_rows.proofs.Spread.{place_or_none, number_at, number_of_owner, number_of_none, number-spread, right-spread, length-spread, same_row}

-- the numbers of the first c places stand where they belong, and 0 elsewhere
pub record AreSpread (os : List ℕ) (kept : List ℤ) (c : ℕ) (out : List ℤ) : Type 0 where
  pub placed : (a : ℕ) → a < c → number out (get_or os a 0) ≡ number kept a
  pub others : (k : ℕ) → ((a : ℕ) → a < c → get_or os a 0 ≢ k) → number out k ≡ pos 0

pub spread_written : (os : List ℕ) (owner v n : ℕ) (kept out : List ℤ) → n ≡ length os → IsSpread os owner v → length kept ≡ n + 2 → length out ≡ v + 2
    → AreSpread os kept n out → set (set out owner (number kept (n + 1))) (v + 1) (number kept n) ≡ spread os owner v kept
spread_written os owner v n kept out size is kept_long long written =
    let first = set out owner (number kept (n + 1)) in
    let all = set first (v + 1) (number kept n) in
    let first_long : length first ≡ v + 2 = length-set out owner (number kept (n + 1)) ∙ long in
    let whole : length kept ≡ length os + 2 = omega (arith, kept_long, size) in
    let low = is.own_low in
    same_row v all (spread os owner v kept) (length-set first (v + 1) (number kept n) ∙ first_long) (length-spread os owner v kept)
    (λ k most.
    get_or-set_other first (v + 1) k (number kept n) (pos 0) (omega (arith, most))
    ∙ ⊎_elim
    (λ (e : k ≡ owner).
    ap (number first) e ∙ get_or-set_same out owner (number kept (n + 1)) (pos 0) (omega (arith, long, low))
    ∙ ap (λ m. number kept (m + 1)) size
    ∙ sym (number_of_owner os kept owner k whole (λ a l f. is.apart a l (f ∙ e)) e))
    (λ (other : k ≢ owner).
    get_or-set_other out owner k (number kept (n + 1)) (pos 0) other
    ∙ ⊎_elim
    (λ (found : (a : ℕ) × (a < length os) × (get_or os a 0 ≡ k)).
    ap (number out) (sym found.2) ∙ written.placed found.0 (omega (arith, found.1, size))
    ∙ sym (ap (spread_number os kept owner) (sym found.2) ∙ number_at os kept owner found.0 whole found.1 is.once))
    (λ (none : (a : ℕ) → a < length os → get_or os a 0 ≢ k).
    written.others k (λ a l. none a (omega (arith, l, size))) ∙ sym (number_of_none os kept owner k whole none other))
    (place_or_none os k (length os)))
    (cases_eq k owner)
    ∙ sym (number-spread os owner v k kept most))
    (get_or-set_same first (v + 1) (number kept n) (pos 0) (omega (arith, first_long))
    ∙ ap (number kept) size ∙ sym (right-spread os owner v (v + 1) kept refl))
