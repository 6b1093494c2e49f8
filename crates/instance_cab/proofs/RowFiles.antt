-- What a file in the row layout gives, of what its rows say.
use Rattle.std.proofs.Common.{true, false, ◌≡◌, ℕ, ◌+◌, ◌-◌, ◌*◌, ◌/◌, ◌%◌, ◌<◌, Bool, not, ◌&&◌, cond, nat_eq, List, length, map, find, Option, Some, None, option_map, is_some, Result, Ok, Err, IfErr, inl, inr, refl, sym, subst, ap, ◌∙◌, arith}
use Rattle.std.specs.List.{range_with_len}
use Rattle.std.proofs.lemmas.Bool.{cases_lt}
use Rattle.std.proofs.lemmas.Option.{slice_get_past}
use Rattle.text_spec.specs.Tokens.{Token, tokens_of}
use Rattle.file_spec.specs.Options.{cab_rows, flow_first, Options, IsOptions}
use Rattle.file_spec.specs.Faults.{Fault, missing_pair}
use Rattle.file_spec.specs.Contents.{Contents, IsContents}
use Rattle.file_spec.specs.Places.{token_at}
use Rattle.file_spec.specs.RowLayout.{row_start, row_count, has_row, missing_fault, field_fault, end_fault, row_fault, row_of, listed}
use Rattle.file_spec.specs.Files.{divided_distance, file_contents, HasContents}
use Rattle.file_spec.proofs.Firsts.{NoneUpTo}
use Rattle.file_spec.proofs.Ends.{none_past}
use Rattle.file_spec.proofs.RowLimits.{row_fault_is}
use Rattle.file_spec.proofs.ContentLimits.{contents_within}
use Rattle.hub_model.specs.Faults.{fault_of}
use Rattle.hub_model.specs.declared.faults.Refusal.{Refusal}
use Rattle.hub_model.specs.declared.faults.Refusal.TheVariants.{Fault as of_fault, OutOfMemory}
use Rattle.token_reader.specs.Refusals.{IsRefused}
use Rattle.token_reader.proofs.Stretches.{IsFirstOf}
use Rattle.instance_cab.specs.Matrices.{contents_with}
use Rattle.instance_cab.specs.ListedRows.{Taken, taken_at, flow_of, distance_of, listed_flows, listed_distances, first_lack, IsLack, listed_at, IsListing}
use Rattle.instance_cab.proofs.RowStages.{stands_is, stopped_refused}

-- the tokens in front of the end, by the field of the row that would follow
past_is : (n : ℕ) (tokens : List Token) (field : ℕ) → field < 4 → length tokens ≡ 1 + 4 * row_count tokens
    → row_fault n tokens (row_start (row_count tokens) + field) ≡ end_fault n tokens field
past_is n tokens field h whole =
    let r = row_count tokens in
    let t = row_start r + field in
    let gone : is_some (token_at tokens (row_start r)) ≡ false = ap is_some (slice_get_past tokens (row_start r - 1) (omega arith)) in
    row_fault_is n tokens r field t h refl ∙ ap (λ b. cond b (field_fault n tokens r field t) (end_fault n tokens field)) gone

-- the pair that lacks its row
missing_is : (n : ℕ) (bytes : List ℕ) (taken : Taken) → IsListing bytes n taken
    → missing_fault n (tokens_of bytes) ≡ option_map (λ s. missing_pair (s / n) (s % n)) (first_lack n taken (n * n))
unfolding missing_fault first_lack
missing_is n bytes taken all =
    let tokens = tokens_of bytes in
    let has : (s : ℕ) → has_row n tokens (row_count tokens) s ≡ is_some (taken_at taken s) =
    λ s. sym (stands_is n tokens (row_count tokens) s (taken_at taken s) (all.holds s)) in
    λ i. option_map (λ s. missing_pair (s / n) (s % n)) (find (λ s. not (nat_eq (s / n) (s % n)) && not (has s i)) (range_with_len 0 (n * n)))

lack_first : (n : ℕ) (bytes : List ℕ) (taken : Taken) (fault : Fault) → IsListing bytes n taken
    → option_map (λ s. missing_pair (s / n) (s % n)) (first_lack n taken (n * n)) ≡ Some fault → IsFirstOf (row_fault n (tokens_of bytes)) fault
lack_first n bytes taken fault all lack =
    let tokens = tokens_of bytes in
    let t = row_start (row_count tokens) in
    let whole = all.whole_rows in
    let e : t ≡ t + 0 = omega arith in (
      t,
      record {
        counted = omega arith;
        here = ap (row_fault n tokens) e ∙ (past_is n tokens 0 (omega arith) whole ∙ (missing_is n bytes taken all ∙ lack));
        before = λ u one below. all.legal u one (omega arith);
      },
    )

pub lack_refused : {A : Type 0} (o : Options) (bytes : List ℕ) (n : ℕ) (taken : Taken) (outcome : Result A Refusal) → IsListing bytes n taken
    → IfErr outcome (IsLack n taken) → IfErr outcome (IsRefused cab_rows o bytes)
lack_refused o bytes n taken (Ok value) all lack = tt
lack_refused o bytes n taken (Err OutOfMemory) all lack = tt
lack_refused o bytes n taken (Err (of_fault f)) all lack = stopped_refused o bytes n (of_fault f) all.size (lack_first n bytes taken (fault_of f) all lack)

-- what is listed of a commodity
flow_by : (tokens : List Token) (row : Option ℕ) → listed tokens 6 2 row ≡ flow_of (option_map (listed_at tokens) row)
unfolding listed_at
flow_by tokens None = refl
flow_by tokens (Some r) = refl

distance_by : (tokens : List Token) (row : Option ℕ) → listed tokens 3 3 row ≡ distance_of (option_map (listed_at tokens) row)
unfolding listed_at
distance_by tokens None = refl
distance_by tokens (Some r) = refl

flows_are : (n : ℕ) (bytes : List ℕ) (taken : Taken) → IsListing bytes n taken
    → map (λ s. listed (tokens_of bytes) 6 2 (row_of n (tokens_of bytes) s)) (range_with_len 0 (n * n)) ≡ listed_flows taken (n * n)
unfolding listed_flows
flows_are n bytes taken all =
    let tokens = tokens_of bytes in
    let value : (s : ℕ) → listed tokens 6 2 (row_of n tokens s) ≡ flow_of (taken_at taken s) =
    λ s. flow_by tokens (row_of n tokens s) ∙ ap flow_of (sym (all.holds s)) in
    λ i. map (λ s. value s i) (range_with_len 0 (n * n))

distances_are : (divide n : ℕ) (bytes : List ℕ) (taken : Taken) → IsListing bytes n taken
    → map (λ s. divided_distance divide n s (listed (tokens_of bytes) 3 3 (row_of n (tokens_of bytes) s))) (range_with_len 0 (n * n))
    ≡ listed_distances divide n taken (n * n)
unfolding listed_distances
distances_are divide n bytes taken all =
    let tokens = tokens_of bytes in
    let value : (s : ℕ) → listed tokens 3 3 (row_of n tokens s) ≡ distance_of (taken_at taken s) =
    λ s. distance_by tokens (row_of n tokens s) ∙ ap distance_of (sym (all.holds s)) in
    λ i. map (λ s. divided_distance divide n s (value s i)) (range_with_len 0 (n * n))

-- no token has a fault, up to where nothing new is said
none_to_end : (n : ℕ) (bytes : List ℕ) (taken : Taken) → IsListing bytes n taken → first_lack n taken (n * n) ≡ None
    → NoneUpTo (row_fault n (tokens_of bytes)) (length (tokens_of bytes) + 4)
none_to_end n bytes taken all whole t one up =
    let tokens = tokens_of bytes in
    let long = all.whole_rows in
    let none : missing_fault n tokens ≡ None = missing_is n bytes taken all ∙ ap (option_map (λ s. missing_pair (s / n) (s % n))) whole in
    elim (cases_lt (length tokens) t) [
      | inl past ↦
          (let field = t - row_start (row_count tokens) in
          let within : field < 4 = omega arith in
          let e : row_start (row_count tokens) + field ≡ t = omega arith in
          let P : ℕ → Type 0 = λ t. row_fault n tokens t ≡ None in
          subst P e (past_is n tokens field within long ∙ none_end (nat_eq field 0) (missing_fault n tokens) none))
      | inr before ↦ all.legal t one before
    ]
  where
    none_end : (b : Bool) (fault : Option Fault) → fault ≡ None → cond b fault None ≡ None
    none_end true fault e = e
    none_end false fault e = refl

-- the contents of a file with n nodes
abbrev contents_by : ℕ → ℕ → List Token → Contents
contents_by divide n tokens = record {
  size = n;
  flows = map (λ s. listed tokens 6 2 (row_of n tokens s)) (range_with_len 0 (n * n));
  distances = map (λ s. divided_distance divide n s (listed tokens 3 3 (row_of n tokens s))) (range_with_len 0 (n * n));
  collect = 1000;
  trunk = 1000;
  deliver = 1000;
  listed_p = None;
  costs = None;
}

pub has_rows : (o : Options) (bytes : List ℕ) (n : ℕ) (taken : Taken) (flows distances : List ℕ) → IsListing bytes n taken → first_lack n taken (n * n) ≡ None
    → flows ≡ listed_flows taken (n * n) → distances ≡ listed_distances o.divide n taken (n * n)
    → HasContents cab_rows o bytes (contents_with flow_first n flows distances)
unfolding file_contents
has_rows o bytes n taken flows distances all whole f d =
    let tokens = tokens_of bytes in
    let P : ℕ → Type 0 = λ m. NoneUpTo (row_fault m tokens) (length tokens + 4) in
    let flow = f ∙ sym (flows_are n bytes taken all) in
    let distance = d ∙ sym (distances_are o.divide n bytes taken all) in
    record {
      legal = none_past cab_rows o tokens (subst P all.size (none_to_end n bytes taken all whole));
      is = (λ i. contents_with flow_first n (flow i) (distance i)) ∙ ap (λ m. contents_by o.divide m tokens) all.size;
    }

pub rows_limits : (o : Options) (bytes : List ℕ) (c : Contents) → IsOptions o → HasContents cab_rows o bytes c → IsContents c
rows_limits o bytes c ok has = contents_within cab_rows o bytes c ok has
