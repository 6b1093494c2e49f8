-- What a file gives whose front and tail are read.
use Rattle.std.proofs.Common.{◌≡◌, ℕ, ◌+◌, ◌-◌, ◌*◌, ◌/◌, ◌%◌, ◌<◌, ◌≤◌, List, map, length, get_or, Option, Some, None, Result, Ok, Err, IfErr, refl, sym, subst, ap, ap₂, ◌∙◌, inl, inr, arith}
use Rattle.std.specs.List.{range_with_len}
use Rattle.std.proofs.lemmas.Bool.{cases_lt}
use Rattle.std.proofs.lemmas.List.{length-map}
use Rattle.std.proofs.lemmas.List.FromFn.{get_or-map-range_with_len, length-map-range_with_len}
use Rattle.std.proofs.lemmas.Nat.{div_below, mod_below}
use Rattle.text_spec.specs.Tokens.{Token, tokens_of}
use Rattle.file_spec.specs.Options.{australia_post, Tail, tail_ignored, tail_costs, Options}
use Rattle.file_spec.specs.Contents.{Contents}
use Rattle.file_spec.specs.Faults.{Fault}
use Rattle.file_spec.specs.Places.{post_wanted, tail_wanted, token_fault, token_at, value_at, coordinate_at}
use Rattle.file_spec.specs.Files.{file_size, tail_of, post_distance, file_contents, HasContents, HasFault}
use Rattle.file_spec.proofs.PostLimits.{post_tail_wanted}
use Rattle.hub_model.specs.Faults.{fault_of}
use Rattle.hub_model.specs.declared.faults.Refusal.{Refusal}
use Rattle.hub_model.specs.declared.faults.Refusal.TheVariants.{Fault as of_fault, OutOfMemory}
use Rattle.token_reader.specs.Refusals.{IsRefused}
use Rattle.token_reader.specs.Unread.{Unread, whole, later, fault_here, value_here, coordinate_here, values_here}
use Rattle.token_reader.proofs.Ahead.{later-later}
use Rattle.token_reader.proofs.Formulas.{same_below}
use Rattle.token_reader.proofs.Stretches.{fault_later, value_later, coordinate_later}
use Rattle.instance_ap.specs.declared.layout.Preamble.{Preamble}
use Rattle.instance_ap.specs.Points.{origin, coordinates_of, distance_between, distance_of, distances_front}
use Rattle.instance_ap.specs.Fronts.{point_here, points_front, tail_here, IsLegalTail, IsTailFault, StoppedInTail}
use Rattle.instance_ap.specs.Files.{front_length, IsFront, contents_with}
use Rattle.instance_ap.proofs.PostTokens.{post_fault}

-- the numbers behind the first k tokens
values_are : (bytes : List ℕ) (places k m first : ℕ) → first ≡ 1 + k
    → values_here places m (later k (whole bytes)) ≡ map (λ s. value_at (tokens_of bytes) places (first + s)) (range_with_len 0 m)
unfolding values_here
values_are bytes places k m first e =
    same_below (λ s. value_here places (later s (later k (whole bytes)))) (λ s. value_at (tokens_of bytes) places (first + s)) m
    (λ s l. (let t : 1 + (k + s) ≡ first + s = omega arith in
    ap (value_here places) (later-later s k (whole bytes)) ∙ (value_later places (k + s) bytes ∙ ap (value_at (tokens_of bytes) places) t)))

-- the point of node i
point_is : (bytes : List ℕ) (i : ℕ)
    → point_here (later (2 * i) (later 1 (whole bytes))) ≡ (coordinate_at (tokens_of bytes) (2 + 2 * i), coordinate_at (tokens_of bytes) (3 + 2 * i))
unfolding point_here
point_is bytes i =
    let x : 1 + (1 + 2 * i) ≡ 2 + 2 * i = omega arith in
    let y : 1 + (1 + 2 * i + 1) ≡ 3 + 2 * i = omega arith in
    let at = later-later (2 * i) 1 (whole bytes) in
    ap₂ (λ a b. (a, b))
    (ap coordinate_here at ∙ (coordinate_later (1 + 2 * i) bytes ∙ ap (coordinate_at (tokens_of bytes)) x))
    (ap (λ u. coordinate_here (later 1 u)) at ∙ (ap coordinate_here (later-later 1 (1 + 2 * i) (whole bytes))
    ∙ (coordinate_later (1 + 2 * i + 1) bytes ∙ ap (coordinate_at (tokens_of bytes)) y)))

point_at : (bytes : List ℕ) (n i : ℕ) → i < n
    → get_or (points_front n (later 1 (whole bytes))) i origin ≡ (coordinate_at (tokens_of bytes) (2 + 2 * i), coordinate_at (tokens_of bytes) (3 + 2 * i))
unfolding points_front
point_at bytes n i h =
    get_or-map-range_with_len (λ k. point_here (later (2 * k) (later 1 (whole bytes)))) 0 n i i origin h (omega arith) ∙ point_is bytes i

-- the distances between the points that are read
distances_are : (bytes : List ℕ) (divide n : ℕ)
    → distances_front divide n (points_front n (later 1 (whole bytes))) (n * n) ≡ map (λ s. post_distance divide n (tokens_of bytes) s) (range_with_len 0 (n * n))
unfolding distances_front
distances_are bytes divide n =
    let points = points_front n (later 1 (whole bytes)) in
    same_below (distance_of divide n points) (λ s. post_distance divide n (tokens_of bytes) s) (n * n)
    (λ s l. (let some : 0 < n = grind arith in
    let i : s / n < n = div_below s n n some l in
    let j : s % n < n = mod_below s n some in
    ap₂ (distance_between divide) (point_at bytes n (s / n) i) (point_at bytes n (s % n) j)))

points_count : (n : ℕ) (r : Unread) → length (points_front n r) ≡ n
unfolding points_front
points_count n r = length-map-range_with_len (λ k. point_here (later (2 * k) r)) 0 n

-- there are as many points as nodes
pub front_count : (bytes : List ℕ) (front : Preamble) → IsFront bytes front → length front.points.items ≡ front.n
front_count bytes front is =
    sym (length-map front.points.items coordinates_of) ∙ (ap length is.points ∙ points_count front.n (later 1 (whole bytes)))

-- what is wrong with the s-th token of the tail
tail_fault : (o : Options) (bytes : List ℕ) (n s t : ℕ) → n ≡ file_size (tokens_of bytes) → 1 + (front_length n + s) ≡ t
    → post_fault o bytes t ≡ fault_here (tail_wanted o.tail n s) (later s (later (front_length n) (whole bytes)))
tail_fault o bytes n s t size e =
    let tokens = tokens_of bytes in
    let w = tail_wanted o.tail n s in
    let is : post_wanted o.tail (file_size tokens) t ≡ w = ap (λ m. post_wanted o.tail m t) (sym size) ∙ post_tail_wanted o.tail n s t (omega arith) in
    ap (λ w. token_fault w t (token_at tokens t)) is
    ∙ (ap (λ i. token_fault w i (token_at tokens i)) (sym e)
    ∙ (sym (fault_later w (front_length n + s) bytes) ∙ sym (ap (fault_here w) (later-later s (front_length n) (whole bytes)))))

-- no token has a fault where none of the front and of the tail has one
all_legal : (o : Options) (bytes : List ℕ) (front : Preamble) → IsFront bytes front → IsLegalTail o.tail front.n front.rest
    → (t : ℕ) → 1 ≤ t → post_fault o bytes t ≡ None
all_legal o bytes front is legal t one =
    let k = front_length front.n in
    elim (cases_lt k t) [
      | inl past ↦ (let e : 1 + (k + (t - (k + 1))) ≡ t = omega arith in
          tail_fault o bytes front.n (t - (k + 1)) t is.size e
          ∙ (ap (λ u. fault_here (tail_wanted o.tail front.n (t - (k + 1))) (later (t - (k + 1)) u)) (sym is.rest) ∙ legal.each (t - (k + 1))))
      | inr within ↦ is.legal o t one within
    ]

-- the first fault of the tail is that of the file
first_of_tail : (o : Options) (bytes : List ℕ) (front : Preamble) (f : Fault) → IsFront bytes front → IsTailFault o.tail front.n front.rest f
    → HasFault australia_post o bytes f
first_of_tail o bytes front f is first =
    let k = front_length front.n in
    record {
      token = 1 + (k + first.place);
      counted = omega arith;
      here = tail_fault o bytes front.n first.place (1 + (k + first.place)) is.size refl
          ∙ (ap (λ u. fault_here (tail_wanted o.tail front.n first.place) (later first.place u)) (sym is.rest) ∙ first.here);
      before = λ t one below. elim (cases_lt k t) [
        | inl past ↦ (let e : 1 + (k + (t - (k + 1))) ≡ t = omega arith in
            tail_fault o bytes front.n (t - (k + 1)) t is.size e
            ∙ (ap (λ u. fault_here (tail_wanted o.tail front.n (t - (k + 1))) (later (t - (k + 1)) u)) (sym is.rest)
            ∙ first.before (t - (k + 1)) (omega arith)))
        | inr within ↦ is.legal o t one within
      ];
    }

tail_stopped : (o : Options) (bytes : List ℕ) (front : Preamble) (refusal : Refusal) → IsFront bytes front
    → StoppedInTail o.tail front.n front.rest refusal → IsRefused australia_post o bytes refusal
tail_stopped o bytes front OutOfMemory is stopped = tt
tail_stopped o bytes front (of_fault f) is stopped = first_of_tail o bytes front (fault_of f) is stopped

pub tail_refused : {A : Type 0} (o : Options) (bytes : List ℕ) (front : Preamble) (tail : Tail) (outcome : Result A Refusal) → IsFront bytes front
    → tail ≡ o.tail → IfErr outcome (StoppedInTail tail front.n front.rest) → IfErr outcome (IsRefused australia_post o bytes)
tail_refused o bytes front tail (Ok value) is same stopped = tt
tail_refused o bytes front tail (Err refusal) is same stopped =
    let P : Tail → Type 0 = λ tail. StoppedInTail tail front.n front.rest refusal in
    tail_stopped o bytes front refusal is (subst P same stopped)

-- the fixed costs of the tail
costs_are : (tail : Tail) (bytes : List ℕ) (n k first : ℕ) → first ≡ 1 + k
    → tail_here tail n (later k (whole bytes)) ≡ tail_of tail n (tokens_of bytes) first
costs_are tail_ignored bytes n k first e = refl
costs_are tail_costs bytes n k first e = ap Some (values_are bytes 6 k n first e)

-- the contents of a file with n nodes
abbrev contents_by : Options → List Token → ℕ → Contents
contents_by o tokens n = record {
  size = n;
  flows = map (λ s. value_at tokens 6 (2 + 2 * n + s)) (range_with_len 0 (n * n));
  distances = map (λ s. post_distance o.divide n tokens s) (range_with_len 0 (n * n));
  collect = value_at tokens 3 (3 + 2 * n + n * n);
  trunk = value_at tokens 3 (4 + 2 * n + n * n);
  deliver = value_at tokens 3 (5 + 2 * n + n * n);
  listed_p = Some (value_at tokens 0 (2 + 2 * n + n * n));
  costs = tail_of o.tail n tokens (6 + 2 * n + n * n);
}

gathered : (o : Options) (bytes : List ℕ) (front : Preamble) (distances : List ℕ) (costs : Option (List ℕ)) → IsFront bytes front
    → distances ≡ distances_front o.divide front.n (map coordinates_of front.points.items) (front.n * front.n)
    → costs ≡ tail_here o.tail front.n front.rest
    → contents_with front.n front.flows distances front.listed_p front.factors costs ≡ contents_by o (tokens_of bytes) front.n
gathered o bytes front distances costs is far tail =
    let n = front.n in
    let flows = is.flows ∙ values_are bytes 6 (1 + 2 * n) (n * n) (2 + 2 * n) (omega arith) in
    let apart = far ∙ (ap (λ points. distances_front o.divide n points (n * n)) is.points ∙ distances_are bytes o.divide n) in
    let fixed = tail ∙ (ap (tail_here o.tail n) is.rest ∙ costs_are o.tail bytes n (front_length n) (6 + 2 * n + n * n) (omega arith)) in
    λ i. record {
      size = n;
      flows = flows i;
      distances = apart i;
      collect = is.collect i;
      trunk = is.trunk i;
      deliver = is.deliver i;
      listed_p = Some (is.listed_p i);
      costs = fixed i;
    }

-- a file has the contents that are read
pub has_contents : (o : Options) (bytes : List ℕ) (front : Preamble) (tail : Tail) (divide n : ℕ) (distances : List ℕ) (costs : Option (List ℕ))
    → IsFront bytes front → tail ≡ o.tail → divide ≡ o.divide → n ≡ front.n → IsLegalTail tail front.n front.rest
    → costs ≡ tail_here tail front.n front.rest → distances ≡ distances_front divide n (map coordinates_of front.points.items) (n * n)
    → HasContents australia_post o bytes (contents_with front.n front.flows distances front.listed_p front.factors costs)
unfolding file_contents
has_contents o bytes front tail divide n distances costs is same_tail same_divide count legal fixed far =
    let points = map coordinates_of front.points.items in
    let P : Tail → Type 0 = λ tail. IsLegalTail tail front.n front.rest in
    let apart = far ∙ (ap₂ (λ d n. distances_front d n points (n * n)) same_divide count) in
    record {
      legal = all_legal o bytes front is (subst P same_tail legal);
      is = gathered o bytes front distances costs is apart (fixed ∙ ap (λ tail. tail_here tail front.n front.rest) same_tail)
          ∙ ap (contents_by o (tokens_of bytes)) is.size;
    }
