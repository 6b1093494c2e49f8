-- What each token of a file in the matrix layout is to be, stretch by stretch.
use Rattle.std.proofs.Common.{◌≡◌, ℕ, ◌+◌, ◌*◌, ◌<◌, ◌≤◌, List, Option, refl, sym, ap, ◌∙◌, arith}
use Rattle.std.proofs.lemmas.Bool.{lt-leb, le-leb}
use Rattle.text_spec.specs.Tokens.{tokens_of}
use Rattle.file_spec.specs.Options.{cab_matrix, Order, flow_first, distance_first, Options}
use Rattle.file_spec.specs.Faults.{Fault}
use Rattle.file_spec.specs.Places.{a_size, nothing, matrix_wanted, matrices_wanted}
use Rattle.file_spec.specs.Files.{file_size, fault_at}
use Rattle.token_reader.proofs.Stretches.{AreWanted, stretch_of}
use Rattle.instance_cab.specs.declared.kinds.ListKind.{ListKind}
use Rattle.instance_cab.specs.Matrices.{wanted_of, first_kind, second_kind}

wanted_by_kinds : (order : Order) (divide n t : ℕ) → matrices_wanted order n t ≡ matrix_wanted (wanted_of (first_kind order divide)) (wanted_of (second_kind order divide)) n t
wanted_by_kinds flow_first divide n t = refl
wanted_by_kinds distance_first divide n t = refl

wanted_size : (order : Order) (n t : ℕ) → t ≤ 1 → matrices_wanted order n t ≡ a_size
wanted_size order n t h = wanted_by_kinds order 1 n t ∙ rw (le-leb t 1 h) refl

wanted_first : (order : Order) (divide n t : ℕ) → 1 < t → t ≤ 1 + n * n → matrices_wanted order n t ≡ wanted_of (first_kind order divide)
wanted_first order divide n t h k = wanted_by_kinds order divide n t ∙ rw (lt-leb t 1 h, le-leb t (1 + n * n) k) refl

wanted_second : (order : Order) (divide n t : ℕ) → 1 + n * n < t → t ≤ 1 + 2 * (n * n) → matrices_wanted order n t ≡ wanted_of (second_kind order divide)
wanted_second order divide n t h k =
    wanted_by_kinds order divide n t ∙ rw (lt-leb t 1 (omega arith), lt-leb t (1 + n * n) h, le-leb t (1 + 2 * (n * n)) k) refl

wanted_end : (order : Order) (n t : ℕ) → 1 + 2 * (n * n) < t → matrices_wanted order n t ≡ nothing
wanted_end order n t h =
    wanted_by_kinds order 1 n t ∙ rw (lt-leb t 1 (omega arith), lt-leb t (1 + n * n) (omega arith), lt-leb t (1 + 2 * (n * n)) h) refl

-- what is wrong with token t of the file
abbrev pub matrix_fault : Options → List ℕ → ℕ → Option Fault
matrix_fault o bytes = fault_at cab_matrix o (tokens_of bytes)

-- the first and the second kind of matrix in the file
abbrev pub first_of : Options → ListKind
first_of o = first_kind o.order o.divide

abbrev pub second_of : Options → ListKind
second_of o = second_kind o.order o.divide

-- the number of nodes, the two matrices, and the end
pub size_stretch : (o : Options) (bytes : List ℕ) → AreWanted (matrix_fault o bytes) bytes a_size 0 1
size_stretch o bytes =
    let n = file_size (tokens_of bytes) in stretch_of (matrices_wanted o.order n) bytes a_size 0 1 (λ t h k. wanted_size o.order n t (omega arith))

pub first_stretch : (o : Options) (bytes : List ℕ) (n : ℕ) → n ≡ file_size (tokens_of bytes)
    → AreWanted (matrix_fault o bytes) bytes (wanted_of (first_of o)) 1 (n * n)
first_stretch o bytes n e =
    stretch_of (matrices_wanted o.order (file_size (tokens_of bytes))) bytes (wanted_of (first_of o)) 1 (n * n)
    (λ t h k. ap (λ m. matrices_wanted o.order m t) (sym e) ∙ wanted_first o.order o.divide n t h k)

pub second_stretch : (o : Options) (bytes : List ℕ) (n : ℕ) → n ≡ file_size (tokens_of bytes)
    → AreWanted (matrix_fault o bytes) bytes (wanted_of (second_of o)) (1 + n * n) (n * n)
second_stretch o bytes n e =
    stretch_of (matrices_wanted o.order (file_size (tokens_of bytes))) bytes (wanted_of (second_of o)) (1 + n * n) (n * n)
    (λ t h k. ap (λ m. matrices_wanted o.order m t) (sym e) ∙ wanted_second o.order o.divide n t h (omega arith))

pub end_stretch : (o : Options) (bytes : List ℕ) (n : ℕ) → n ≡ file_size (tokens_of bytes)
    → AreWanted (matrix_fault o bytes) bytes nothing (1 + n * n + n * n) 1
end_stretch o bytes n e =
    stretch_of (matrices_wanted o.order (file_size (tokens_of bytes))) bytes nothing (1 + n * n + n * n) 1
    (λ t h k. ap (λ m. matrices_wanted o.order m t) (sym e) ∙ wanted_end o.order n t (omega arith))
