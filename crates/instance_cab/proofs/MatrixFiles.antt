-- What a file in the matrix layout gives, of the two matrices that are read.
use Rattle.std.proofs.Common.{◌≡◌, ℕ, ◌+◌, ◌*◌, ◌≤◌, List, map, None, sym, ap, ◌∙◌, arith}
use Rattle.std.specs.List.{range_with_len}
use Rattle.text_spec.specs.Tokens.{Token, tokens_of}
use Rattle.file_spec.specs.Options.{cab_matrix, Order, flow_first, distance_first, Options}
use Rattle.file_spec.specs.Contents.{Contents}
use Rattle.file_spec.specs.Places.{value_at}
use Rattle.file_spec.specs.Files.{file_size, flow_place, distance_place, divided_distance, file_contents, HasContents}
use Rattle.file_spec.proofs.Firsts.{NoneUpTo}
use Rattle.file_spec.proofs.Ends.{none_past}
use Rattle.token_reader.specs.Unread.{whole, later, value_here}
use Rattle.token_reader.proofs.Ahead.{later-later}
use Rattle.token_reader.proofs.Stretches.{value_later}
use Rattle.instance_cab.specs.declared.kinds.ListKind.{ListKind}
use Rattle.instance_cab.specs.declared.kinds.ListKind.TheVariants.{Flow, Distance}
use Rattle.instance_cab.specs.Matrices.{places_of, kept_of, kept_front, first_kind, second_kind, contents_with}
use Rattle.instance_cab.proofs.MatrixTokens.{matrix_fault}

-- a stretch of numbers, by the numbers of their tokens
pub front_is : (kind : ListKind) (n k m : ℕ) (bytes : List ℕ) (f : ℕ → ℕ)
    → ((s : ℕ) → f s ≡ kept_of kind n s (value_at (tokens_of bytes) (places_of kind) (1 + (k + s))))
    → map f (range_with_len 0 m) ≡ kept_front kind n m (later k (whole bytes))
unfolding kept_front
front_is kind n k m bytes f h =
    let value : (s : ℕ) → f s ≡ kept_of kind n s (value_here (places_of kind) (later s (later k (whole bytes)))) =
    λ s. h s ∙ ap (kept_of kind n s) (sym (ap (value_here (places_of kind)) (later-later s k (whole bytes)) ∙ value_later (places_of kind) (k + s) bytes)) in
    λ i. map (λ s. value s i) (range_with_len 0 m)

flow_at : (tokens : List Token) (k s t : ℕ) → t ≡ 1 + (k + s) → value_at tokens 6 t ≡ value_at tokens 6 (1 + (k + s))
flow_at tokens k s t e = ap (value_at tokens 6) e

distance_at : (tokens : List Token) (divide n k s t : ℕ) → t ≡ 1 + (k + s)
    → divided_distance divide n s (value_at tokens 3 t) ≡ divided_distance divide n s (value_at tokens 3 (1 + (k + s)))
distance_at tokens divide n k s t e = ap (λ t. divided_distance divide n s (value_at tokens 3 t)) e

-- the contents of a file with n nodes
abbrev contents_by : Order → ℕ → ℕ → List Token → Contents
contents_by order divide n tokens = record {
  size = n;
  flows = map (λ s. value_at tokens 6 (flow_place order n s)) (range_with_len 0 (n * n));
  distances = map (λ s. divided_distance divide n s (value_at tokens 3 (distance_place order n s))) (range_with_len 0 (n * n));
  collect = 1000;
  trunk = 1000;
  deliver = 1000;
  listed_p = None;
  costs = None;
}

abbrev contents_read : Order → ℕ → ℕ → List ℕ → Contents
contents_read order divide n bytes = contents_with order n
    (kept_front (first_kind order divide) n (n * n) (later 1 (whole bytes)))
    (kept_front (second_kind order divide) n (n * n) (later (1 + n * n) (whole bytes)))

gathered : (order : Order) (divide n : ℕ) (bytes : List ℕ) → contents_by order divide n (tokens_of bytes) ≡ contents_read order divide n bytes
gathered flow_first divide n bytes =
    let flows = front_is Flow n 1 (n * n) bytes _ (λ s. flow_at (tokens_of bytes) 1 s (2 + s) (omega arith)) in
    let distances = front_is (Distance divide) n (1 + n * n) (n * n) bytes _ (λ s. distance_at (tokens_of bytes) divide n (1 + n * n) s (2 + n * n + s) (omega arith)) in
    λ i. contents_with flow_first n (flows i) (distances i)
gathered distance_first divide n bytes =
    let distances = front_is (Distance divide) n 1 (n * n) bytes _ (λ s. distance_at (tokens_of bytes) divide n 1 s (2 + s) (omega arith)) in
    let flows = front_is Flow n (1 + n * n) (n * n) bytes _ (λ s. flow_at (tokens_of bytes) (1 + n * n) s (2 + n * n + s) (omega arith)) in
    λ i. contents_with distance_first n (distances i) (flows i)

-- the end of the file by the number of nodes that it states
by_size : (n m t : ℕ) → n ≡ m → t ≤ 2 + 2 * (m * m) → t ≤ 1 + n * n + n * n + 1
by_size n m t e h = let square : n * n ≡ m * m = (λ i. e i * e i) in omega arith

-- a file without a fault up to its end has the contents that are read
pub all_read : (o : Options) (bytes : List ℕ) (n : ℕ) → n ≡ file_size (tokens_of bytes) → NoneUpTo (matrix_fault o bytes) (1 + n * n + n * n + 1)
    → HasContents cab_matrix o bytes (contents_read o.order o.divide n bytes)
unfolding file_contents
all_read o bytes n e none = record {
  legal = none_past cab_matrix o (tokens_of bytes) (λ t one up. none t one (by_size n (file_size (tokens_of bytes)) t e up));
  is = sym (gathered o.order o.divide n bytes) ∙ ap (λ m. contents_by o.order o.divide m (tokens_of bytes)) e;
}
