-- Duals added to the last of some cuts.
use Rattle.std.proofs.Common.{◌≡◌, ℕ, zero, suc, ◌-◌, ◌≤◌, List, [], ◌∷◌, ◌++◌, length, get_or, set, ap, ◌∙◌, arith}
use Rattle.hub_spec.specs.Cuts.{Prices, Cut}
use Rattle.cert_format.specs.Gathered.{with_duals}

-- the cut with these duals behind its own
abbrev longer : Cut → List Prices → Cut
longer cut duals = record { part = cut.part; duals = cut.duals ++ duals }

last_added : (cuts : List Cut) (i : ℕ) (d old new : Cut) (duals : List Prices) → suc i ≡ length cuts → old ≡ get_or cuts i d
    → new ≡ longer old duals → set cuts i new ≡ with_duals cuts duals
last_added [] i d old new duals l at is = absurd (omega arith)
last_added (x ∷ []) zero d old new duals l at is = ap (λ (c : Cut). c ∷ []) (is ∙ ap (λ (o : Cut). longer o duals) at)
last_added (x ∷ []) (suc i) d old new duals l at is = absurd (omega arith)
last_added (x ∷ y ∷ cuts) zero d old new duals l at is = absurd (omega arith)
last_added (x ∷ y ∷ cuts) (suc i) d old new duals l at is = ap (λ cs. x ∷ cs) (last_added (y ∷ cuts) i d old new duals (omega arith) at is)

pub duals_added : (cuts : List Cut) (n : ℕ) (d old new : Cut) (duals : List Prices) → n ≡ length cuts → 1 ≤ n → old ≡ get_or cuts (n - 1) d
    → new ≡ longer old duals → set cuts (n - 1) new ≡ with_duals cuts duals
duals_added cuts n d old new duals l some at is = last_added cuts (n - 1) d old new duals (omega arith) at is
