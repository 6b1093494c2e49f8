-- The numbers of the commodities in order, up to the first that lacks its row.
use Rattle.std.proofs.Common.{◌≡◌, ℕ, ◌+◌, ◌*◌, ◌/◌, ◌%◌, ◌<◌, List, [], ◌∷◌, ◌++◌, map, true, false, Some, None, option_map, Result, Ok, Err, IfErr, ℤ, pos, refl, sym, ap, ◌∙◌}
use Rattle.file_spec.specs.Faults.{missing_pair}
use Rattle.file_spec.specs.Files.{divided_distance}
use Rattle.hub_model.specs.Amounts.{natural}
use Rattle.hub_model.specs.Faults.{fault_of}
use Rattle.hub_model.specs.declared.faults.InstanceFault.{InstanceFault}
use Rattle.hub_model.specs.declared.faults.Refusal.TheVariants.{Fault as of_fault}
use Rattle.instance_cab.specs.ListedRows.{Taken, taken_at, flow_of, distance_of, listed_flows, listed_distances, lacks, first_lack, IsLack}
use Rattle.instance_cab.proofs.Ranges.{none_more, found_here}
use Rattle.token_reader.proofs.Formulas.{amount_push}

pub no_lack : (n : ℕ) (taken : Taken) → first_lack n taken 0 ≡ None
unfolding first_lack
no_lack n taken = refl

pub no_lack_more : (n : ℕ) (taken : Taken) (m : ℕ) → first_lack n taken m ≡ None → lacks n taken m ≡ false → first_lack n taken (m + 1) ≡ None
unfolding first_lack
no_lack_more n taken m none here = none_more (lacks n taken) m none here

lack_here : (n : ℕ) (taken : Taken) (m all : ℕ) → first_lack n taken m ≡ None → lacks n taken m ≡ true → m < all → first_lack n taken all ≡ Some m
unfolding first_lack
lack_here n taken m all none here below = found_here (lacks n taken) m all none here below

pub lack_told : {A : Type 0} (n : ℕ) (taken : Taken) (m : ℕ) (outcome : Result A InstanceFault) → first_lack n taken m ≡ None → m < n * n
    → IfErr outcome (λ f. lacks n taken m ≡ true) → IfErr outcome (λ f. fault_of f ≡ missing_pair (m / n) (m % n))
    → IfErr outcome (λ f. IsLack n taken (of_fault f))
lack_told n taken m (Ok value) none below here is = tt
lack_told n taken m (Err f) none below here is =
    ap (option_map (λ s. missing_pair (s / n) (s % n))) (lack_here n taken m (n * n) none here below) ∙ ap (λ x. Some x) (sym is)

pub flows_none : (taken : Taken) → [] ≡ listed_flows taken 0
unfolding listed_flows
flows_none taken = refl

pub flows_more : (taken : Taken) (m v : ℕ) (before after : List ℤ) → after ≡ before ++ pos v ∷ [] → v ≡ flow_of (taken_at taken m)
    → map natural before ≡ listed_flows taken m → map natural after ≡ listed_flows taken (m + 1)
unfolding listed_flows
flows_more taken m v before after pushed e values = amount_push (λ s. flow_of (taken_at taken s)) m v before after pushed e values

pub distances_none : (divide n : ℕ) (taken : Taken) → [] ≡ listed_distances divide n taken 0
unfolding listed_distances
distances_none divide n taken = refl

pub distances_more : (divide n : ℕ) (taken : Taken) (m v : ℕ) (before after : List ℤ) → after ≡ before ++ pos v ∷ []
    → v ≡ divided_distance divide n m (distance_of (taken_at taken m)) → map natural before ≡ listed_distances divide n taken m
    → map natural after ≡ listed_distances divide n taken (m + 1)
unfolding listed_distances
distances_more divide n taken m v before after pushed e values =
    amount_push (λ s. divided_distance divide n s (distance_of (taken_at taken s))) m v before after pushed e values
