-- The runs of duals, by the commodities that begin them.
use Rattle.std.specs.Prelude.{ℕ, zero, suc, ◌+◌, ◌-◌, ◌%◌, Bool, not, ◌||◌, List, [], ◌∷◌, slice_index_or, nat_eq, nat_lt, if◌then◌else◌}
use Rattle.hub_spec.specs.Cuts.{Prices}
use Rattle.cert_spec.specs.Text.{same_prices}

-- the number of the run, counted from 0, that has the element of number s
abbrev pub place_of : {X : Type 0} → List (ℕ × X) → ℕ → ℕ
place_of [] s = 0
place_of (r ∷ rest) s = if nat_lt s r.0 then 0 else 1 + place_of rest (s - r.0)

-- where there is no dual
abbrev pub no_dual : Prices
no_dual = record { a = 0; u = [] }

-- the commodity of number t is the first of its origin, or has another dual than the one before it
abbrev pub begins_run : ℕ → List Prices → ℕ → Bool
begins_run n duals t =
    nat_eq (t % n) 0 || not (same_prices (slice_index_or duals (t - 1) no_dual) (slice_index_or duals t no_dual))

-- how many commodities after the first begin a run, up to that of number t
abbrev pub begun : ℕ → List Prices → ℕ → ℕ
begun n duals zero = 0
begun n duals (suc t) = begun n duals t + (if begins_run n duals (t + 1) then 1 else 0)
