-- The values of a dual listed one by one.
use Rattle.std.proofs.Common.{◌≡◌, ℕ, ℤ, ◌+◌, ◌<◌, ◌≤◌, pos, false, nat_eq, List, [], ◌∷◌, ◌++◌, length, get_or, take, sym, ap, ap₂, ◌∙◌, ne_eqb, arith}
use Rattle.std.proofs.lemmas.List.{take_more, map-append}
use Rattle.hub_spec.specs.Separation.{values_listed}
use Rattle.hub_model.specs.Prices.{signed_values}

abbrev signed_entry : ℕ × ℕ → ℕ × ℤ
signed_entry e = (e.0, pos e.1)

-- a value above 0 is listed
entry_listed : (node value : ℕ) (e : ℕ × ℕ) → node ≡ e.0 → value ≡ e.1 → 1 ≤ value → values_listed (λ _. value) (node ∷ []) ≡ e ∷ []
entry_listed node value e first second some =
    let apart : nat_eq value 0 ≡ false = ne_eqb value 0 (λ none. absurd (omega (arith, none, some))) in
    rw apart (ap₂ (λ (k v : ℕ). (k, v) ∷ []) first second)

pub entry_more : (u : List (ℕ × ℕ)) (i node value : ℕ) (old new : List (ℕ × ℤ)) → i < length u → node ≡ (get_or u i (0, 0)).0
    → value ≡ (get_or u i (0, 0)).1 → 1 ≤ (get_or u i (0, 0)).1 → new ≡ old ++ signed_values (values_listed (λ _. value) (node ∷ []))
    → old ≡ signed_values (take i u) → new ≡ signed_values (take (i + 1) u)
entry_more u i node value old new below first second some grown so_far =
    let e = get_or u i (0, 0) in
    grown
    ∙ ap₂ (λ (xs ys : List (ℕ × ℤ)). xs ++ ys) so_far (ap signed_values (entry_listed node value e first second (omega (arith, second, some))))
    ∙ sym (map-append signed_entry (take i u) (e ∷ []))
    ∙ ap signed_values (sym (take_more u i (0, 0) below))
