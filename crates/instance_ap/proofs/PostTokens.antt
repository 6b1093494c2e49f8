-- What each token of a file in the layout of Australia Post is to be, stretch by stretch, and what is wrong with it.
use Rattle.std.proofs.Common.{◌≡◌, ℕ, ◌+◌, ◌*◌, ◌<◌, ◌≤◌, List, Option, sym, ap, ◌∙◌, arith}
use Rattle.std.proofs.lemmas.Bool.{lt-leb, le-leb}
use Rattle.text_spec.specs.Tokens.{tokens_of}
use Rattle.file_spec.specs.Options.{australia_post, Tail, Options}
use Rattle.file_spec.specs.Faults.{Fault}
use Rattle.file_spec.specs.Places.{Wanted, a_size, a_coordinate, a_flow, a_count, a_factor, post_wanted}
use Rattle.file_spec.specs.Files.{file_size, fault_at}
use Rattle.file_spec.proofs.PostLimits.{coordinate_wanted, factor_wanted}
use Rattle.token_reader.proofs.Stretches.{AreWanted, stretch_of}

-- what is wrong with token t
abbrev pub post_fault : Options → List ℕ → ℕ → Option Fault
post_fault o bytes t = fault_at australia_post o (tokens_of bytes) t

size_wanted : (tail : Tail) (n t : ℕ) → t ≤ 1 → post_wanted tail n t ≡ a_size
size_wanted tail n t h = rw (le-leb t 1 h)

flow_wanted : (tail : Tail) (n t : ℕ) → 1 + 2 * n < t → t ≤ 1 + 2 * n + n * n → post_wanted tail n t ≡ a_flow
flow_wanted tail n t a b = rw (lt-leb t 1 (omega arith), lt-leb t (1 + 2 * n) a, le-leb t (1 + 2 * n + n * n) b)

count_wanted : (tail : Tail) (n t : ℕ) → 1 + 2 * n + n * n < t → t ≤ 2 + 2 * n + n * n → post_wanted tail n t ≡ a_count
count_wanted tail n t a b =
    rw (lt-leb t 1 (omega arith), lt-leb t (1 + 2 * n) (omega arith), lt-leb t (1 + 2 * n + n * n) a, le-leb t (2 + 2 * n + n * n) b)

-- a stretch, in a file with n nodes
stretch : (o : Options) (bytes : List ℕ) (w : Wanted) (n k m : ℕ) → n ≡ file_size (tokens_of bytes)
    → ((t : ℕ) → k < t → t ≤ k + m → post_wanted o.tail n t ≡ w) → AreWanted (post_fault o bytes) bytes w k m
stretch o bytes w n k m size same =
    stretch_of (post_wanted o.tail (file_size (tokens_of bytes))) bytes w k m
    (λ t past up. ap (λ n. post_wanted o.tail n t) (sym size) ∙ same t past up)

pub size_stretch : (o : Options) (bytes : List ℕ) → AreWanted (post_fault o bytes) bytes a_size 0 1
size_stretch o bytes =
    stretch_of (post_wanted o.tail (file_size (tokens_of bytes))) bytes a_size 0 1
    (λ t past up. size_wanted o.tail (file_size (tokens_of bytes)) t (omega arith))

pub points_stretch : (o : Options) (bytes : List ℕ) (n : ℕ) → n ≡ file_size (tokens_of bytes)
    → AreWanted (post_fault o bytes) bytes a_coordinate 1 (2 * n)
points_stretch o bytes n size =
    stretch o bytes a_coordinate n 1 (2 * n) size (λ t past up. coordinate_wanted o.tail n t (omega arith) (omega arith))

pub flows_stretch : (o : Options) (bytes : List ℕ) (n : ℕ) → n ≡ file_size (tokens_of bytes)
    → AreWanted (post_fault o bytes) bytes a_flow (1 + 2 * n) (n * n)
flows_stretch o bytes n size = stretch o bytes a_flow n (1 + 2 * n) (n * n) size (λ t past up. flow_wanted o.tail n t past up)

pub count_stretch : (o : Options) (bytes : List ℕ) (n : ℕ) → n ≡ file_size (tokens_of bytes)
    → AreWanted (post_fault o bytes) bytes a_count (1 + 2 * n + n * n) 1
count_stretch o bytes n size =
    stretch o bytes a_count n (1 + 2 * n + n * n) 1 size (λ t past up. count_wanted o.tail n t past (omega arith))

pub factors_stretch : (o : Options) (bytes : List ℕ) (n : ℕ) → n ≡ file_size (tokens_of bytes)
    → AreWanted (post_fault o bytes) bytes a_factor (2 + 2 * n + n * n) 3
factors_stretch o bytes n size =
    stretch o bytes a_factor n (2 + 2 * n + n * n) 3 size (λ t past up. factor_wanted o.tail n t (omega arith) (omega arith))
