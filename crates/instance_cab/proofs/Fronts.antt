-- A list of numbers as it is read, and what is kept of it.
use Rattle.std.proofs.Common.{◌≡◌, ℕ, ◌+◌, ◌*◌, ◌≤◌, ◌⊎◌, inl, inr, List, length, map, All, ℤ, pos, refl, sym, subst, ap, ◌∙◌, arith, slice_index}
use Rattle.std.specs.List.{range_with_len}
use Rattle.std.proofs.lemmas.List.FromFn.{length-map-range_with_len, get_or-map-range_with_len}
use Rattle.std.proofs.lemmas.List.{length-map}
use Rattle.std.proofs.lemmas.List.Elements.{All-map, All-weaker}
use Rattle.std.proofs.lemmas.Int.{ints}
use Rattle.hub_spec.specs.Limits.{most_distance}
use Rattle.file_spec.specs.Places.{a_quantity}
use Rattle.file_spec.specs.Files.{divided_distance}
use Rattle.hub_model.specs.Amounts.{natural}
use Rattle.hub_model.specs.GivenNumbers.{IsAmountUpTo}
use Rattle.hub_model.proofs.Signs.{natural-pos}
use Rattle.token_reader.specs.Unread.{Unread, later, value_here, values_here}
use Rattle.token_reader.proofs.Formulas.{same_below}
use Rattle.instance_cab.specs.declared.kinds.ListKind.{ListKind}
use Rattle.instance_cab.specs.declared.kinds.ListKind.TheVariants.{Flow, Distance, Cost}
use Rattle.instance_cab.specs.Matrices.{places_of, wanted_of, kept_front, divided_list}

pub length-values : (places m : ℕ) (r : Unread) → length (values_here places m r) ≡ m
unfolding values_here
length-values places m r = length-map-range_with_len (λ s. value_here places (later s r)) 0 m

-- flows and costs are kept as they are read
flows_kept : (n m : ℕ) (r : Unread) → values_here 6 m r ≡ kept_front Flow n m r
unfolding values_here kept_front
flows_kept n m r = refl

costs_kept : (n m : ℕ) (r : Unread) → values_here 6 m r ≡ kept_front Cost n m r
unfolding values_here kept_front
costs_kept n m r = refl

pub kept_as_read : (kind : ListKind) (n m : ℕ) (r : Unread) → (kind ≡ Flow) ⊎ (kind ≡ Cost) → values_here (places_of kind) m r ≡ kept_front kind n m r
kept_as_read kind n m r (inl is) =
    let P : ListKind → Type 0 = λ kind. values_here (places_of kind) m r ≡ kept_front kind n m r in subst P (sym is) (flows_kept n m r)
kept_as_read kind n m r (inr is) =
    let P : ListKind → Type 0 = λ kind. values_here (places_of kind) m r ≡ kept_front kind n m r in subst P (sym is) (costs_kept n m r)

-- distances are divided
distances_kept : (divide n m : ℕ) (r : Unread) → divided_list divide n (values_here 3 m r) ≡ kept_front (Distance divide) n m r
unfolding values_here kept_front divided_list
distances_kept divide n m r =
    let f = λ (s : ℕ). value_here 3 (later s r) in
    let values = map f (range_with_len 0 m) in
    ap (λ k. map (λ s. divided_distance divide n s (slice_index values s)) (range_with_len 0 k)) (length-map-range_with_len f 0 m)
    ∙ same_below _ (λ s. divided_distance divide n s (f s)) m
    (λ s below. let zeroth : 0 + s ≡ s = omega arith in
    ap (divided_distance divide n s) (get_or-map-range_with_len f 0 m s s 0 below zeroth))

pub divided_kept : (kind : ListKind) (divide n m : ℕ) (r : Unread) (read : List ℤ) → kind ≡ Distance divide
    → read ≡ map pos (values_here (places_of kind) m r) → divided_list divide n (map natural read) ≡ kept_front kind n m r
divided_kept kind divide n m r read is values =
    ap (λ zs. divided_list divide n (map natural zs)) values
    ∙ (ap (divided_list divide n) (natural-pos (values_here (places_of kind) m r))
    ∙ (ap (λ kind. divided_list divide n (values_here (places_of kind) m r)) is
    ∙ (distances_kept divide n m r ∙ ap (λ kind. kept_front kind n m r) (sym is))))

-- the distances that are read are as many, and each is within its limit
pub distances_count : (places n m : ℕ) (r : Unread) (read : List ℤ) → read ≡ map pos (values_here places m r) → m ≤ n * n → length read ≤ n * n
distances_count places n m r read values h =
    omega (arith, ap length values, length-map (values_here places m r) (λ v. pos v), length-values places m r)

distance_limit : (kind : ListKind) (divide limit : ℕ) → kind ≡ Distance divide → a_quantity (places_of kind) limit ≡ wanted_of kind → limit ≡ most_distance
distance_limit kind divide limit is wanted =
    let P : ListKind → Type 0 = λ kind. a_quantity (places_of kind) limit ≡ wanted_of kind in
    let e : a_quantity 3 limit ≡ a_quantity 3 most_distance = subst P is wanted in
    cc

pub distances_within : (kind : ListKind) (divide limit : ℕ) (values : List ℕ) (read : List ℤ) → kind ≡ Distance divide
    → a_quantity (places_of kind) limit ≡ wanted_of kind → All (λ v. v ≤ limit) values → read ≡ map pos values → All (IsAmountUpTo most_distance) read
distances_within kind divide limit values read is wanted within e =
    let P : List ℤ → Type 0 = λ zs. All (IsAmountUpTo most_distance) zs in
    let most : limit ≡ most_distance = distance_limit kind divide limit is wanted in
    subst P (sym e) (All-map (IsAmountUpTo most_distance) (λ v. pos v) values
    (All-weaker (λ v. v ≤ limit) (λ v. IsAmountUpTo most_distance (pos v)) (λ v h. record { least = omega (arith, ints); limit = omega arith }) values within))
