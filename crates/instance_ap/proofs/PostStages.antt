-- How far a file is read in front of its tail, whatever the options are.
use Rattle.std.proofs.Common.{◌≡◌, ℕ, ◌+◌, ◌*◌, List, Result, Ok, Err, IfOk, IfErr, OnOk, sym, subst, ap, ◌∙◌, arith}
use Rattle.std.proofs.lemmas.Result.{IfOk-at_ok}
use Rattle.text_spec.specs.Tokens.{tokens_of}
use Rattle.file_spec.specs.Options.{australia_post, Options}
use Rattle.file_spec.specs.Places.{Wanted, a_size, a_coordinate, a_flow, a_count, a_factor, value_at}
use Rattle.file_spec.specs.Files.{file_size}
use Rattle.file_spec.proofs.Firsts.{NoneUpTo}
use Rattle.hub_model.specs.Faults.{fault_of}
use Rattle.hub_model.specs.declared.faults.InstanceFault.{InstanceFault}
use Rattle.hub_model.specs.declared.faults.Refusal.{Refusal}
use Rattle.hub_model.specs.declared.faults.Refusal.TheVariants.{Fault as of_fault}
use Rattle.token_reader.specs.Refusals.{IsRefused}
use Rattle.token_reader.specs.Unread.{Unread, whole, later, fault_here, value_here, AreLegal, IsFirstFault, StoppedAt, told}
use Rattle.token_reader.proofs.Ahead.{later-none, later-later}
use Rattle.token_reader.proofs.Stages.{IsReadTo, read_nothing, read_on, read_one, stopped_within, is_refused, stretch_refused, one_refused, size_is}
use Rattle.token_reader.proofs.Stretches.{AreWanted, value_later, one_legal}
use Rattle.instance_ap.proofs.PostTokens.{post_fault, size_stretch, points_stretch, flows_stretch, count_stretch, factors_stretch}

-- the first k tokens of a file with n nodes are read, and none of them has a fault
pub record IsUpTo (bytes : List ℕ) (n k : ℕ) (r : Unread) : Type 0 where
  pub size : n ≡ file_size (tokens_of bytes)
  pub at : r ≡ later k (whole bytes)
  pub none : (o : Options) → NoneUpTo (post_fault o bytes) k

read_to : (bytes : List ℕ) (n k : ℕ) (r : Unread) (o : Options) → IsUpTo bytes n k r → IsReadTo (post_fault o bytes) bytes k r
read_to bytes n k r o so_far = record { at = so_far.at; none = so_far.none o }

-- the size is read, or it has the fault
pub size_read : (bytes : List ℕ) (n : ℕ) (start r : Unread) (outcome : Result ℕ InstanceFault) → outcome ≡ Ok n → start ≡ whole bytes
    → told outcome ≡ fault_here a_size start → IfOk outcome (λ n. n ≡ value_here 0 start) → OnOk outcome (r ≡ later 1 start) → IsUpTo bytes n 1 r
size_read bytes n start r outcome ok at fault value moved = record {
  size = IfOk-at_ok (λ n. n ≡ value_here 0 start) ok value ∙ (ap (value_here 0) at ∙ size_is bytes);
  at = IfOk-at_ok (λ n. r ≡ later 1 start) ok moved ∙ ap (later 1) at;
  none = λ o. (read_one (post_fault o bytes) bytes a_size 0 start r outcome n (size_stretch o bytes)
      (read_nothing (post_fault o bytes) bytes start at) ok fault moved).none;
}

pub size_refused : (bytes : List ℕ) (start : Unread) (outcome : Result ℕ InstanceFault) → start ≡ whole bytes
    → told outcome ≡ fault_here a_size start → (o : Options) → IfErr outcome (λ e. IsRefused australia_post o bytes (of_fault e))
size_refused bytes start outcome at fault o =
    one_refused australia_post o bytes a_size 0 start outcome (size_stretch o bytes) (read_nothing (post_fault o bytes) bytes start at) fault

-- what the next m tokens are to be
abbrev Stretch : List ℕ → Wanted → ℕ → ℕ → Type 0
Stretch bytes w k m = (o : Options) → AreWanted (post_fault o bytes) bytes w k m

-- a stretch is read
stretch_read : (bytes : List ℕ) (w : Wanted) (n k m : ℕ) (start r : Unread) → Stretch bytes w k m → IsUpTo bytes n k start
    → AreLegal w m start → r ≡ later m start → IsUpTo bytes n (k + m) r
stretch_read bytes w n k m start r same so_far legal moved = record {
  size = so_far.size;
  at = moved ∙ (ap (later m) so_far.at ∙ later-later m k (whole bytes));
  none = λ o. (read_on (post_fault o bytes) bytes w k m start r (same o) (read_to bytes n k start o so_far) legal moved).none;
}

pub points_read : (bytes : List ℕ) (n : ℕ) (start r : Unread) → IsUpTo bytes n 1 start → AreLegal a_coordinate (2 * n) start
    → r ≡ later (2 * n) start → IsUpTo bytes n (1 + 2 * n) r
points_read bytes n start r so_far legal moved =
    stretch_read bytes a_coordinate n 1 (2 * n) start r (λ o. points_stretch o bytes n so_far.size) so_far legal moved

pub points_refused : {A : Type 0} (bytes : List ℕ) (n : ℕ) (start : Unread) (outcome : Result A Refusal) → IsUpTo bytes n 1 start
    → IfErr outcome (StoppedAt a_coordinate (2 * n) start) → (o : Options) → IfErr outcome (IsRefused australia_post o bytes)
points_refused bytes n start outcome so_far stopped o =
    stretch_refused australia_post o bytes a_coordinate 1 (2 * n) start outcome (points_stretch o bytes n so_far.size)
    (read_to bytes n 1 start o so_far) stopped

pub flows_read : (bytes : List ℕ) (n : ℕ) (start r : Unread) → IsUpTo bytes n (1 + 2 * n) start → AreLegal a_flow (n * n) start
    → r ≡ later (n * n) start → IsUpTo bytes n (1 + 2 * n + n * n) r
flows_read bytes n start r so_far legal moved =
    stretch_read bytes a_flow n (1 + 2 * n) (n * n) start r (λ o. flows_stretch o bytes n so_far.size) so_far legal moved

pub flows_refused : {A : Type 0} (bytes : List ℕ) (n : ℕ) (start : Unread) (outcome : Result A Refusal) → IsUpTo bytes n (1 + 2 * n) start
    → IfErr outcome (StoppedAt a_flow (n * n) start) → (o : Options) → IfErr outcome (IsRefused australia_post o bytes)
flows_refused bytes n start outcome so_far stopped o =
    stretch_refused australia_post o bytes a_flow (1 + 2 * n) (n * n) start outcome (flows_stretch o bytes n so_far.size)
    (read_to bytes n (1 + 2 * n) start o so_far) stopped

-- the listed number of hubs
pub count_read : {A : Type 0} (bytes : List ℕ) (n : ℕ) (start r : Unread) (outcome : Result A InstanceFault) (p : A)
    → IsUpTo bytes n (1 + 2 * n + n * n) start → outcome ≡ Ok p → told outcome ≡ fault_here a_count start → OnOk outcome (r ≡ later 1 start)
    → IsUpTo bytes n (2 + 2 * n + n * n) r
count_read bytes n start r outcome p so_far ok fault moved =
    let e : 1 + 2 * n + n * n + 1 ≡ 2 + 2 * n + n * n = omega arith in
    let P : ℕ → Type 0 = λ k. IsUpTo bytes n k r in
    subst P e (stretch_read bytes a_count n (1 + 2 * n + n * n) 1 start r (λ o. count_stretch o bytes n so_far.size) so_far
    (one_legal a_count start (sym fault ∙ ap told ok)) (IfOk-at_ok (λ v. r ≡ later 1 start) ok moved))

pub count_refused : {A : Type 0} (bytes : List ℕ) (n : ℕ) (start : Unread) (outcome : Result A InstanceFault)
    → IsUpTo bytes n (1 + 2 * n + n * n) start → told outcome ≡ fault_here a_count start
    → (o : Options) → IfErr outcome (λ e. IsRefused australia_post o bytes (of_fault e))
count_refused bytes n start outcome so_far fault o =
    one_refused australia_post o bytes a_count (1 + 2 * n + n * n) start outcome (count_stretch o bytes n so_far.size)
    (read_to bytes n (1 + 2 * n + n * n) start o so_far) fault

-- the factors
pub factors_read : (bytes : List ℕ) (n : ℕ) (start r : Unread) → IsUpTo bytes n (2 + 2 * n + n * n) start → AreLegal a_factor 3 start
    → r ≡ later 3 start → IsUpTo bytes n (5 + 2 * n + n * n) r
factors_read bytes n start r so_far legal moved =
    let e : 2 + 2 * n + n * n + 3 ≡ 5 + 2 * n + n * n = omega arith in
    let P : ℕ → Type 0 = λ k. IsUpTo bytes n k r in
    subst P e (stretch_read bytes a_factor n (2 + 2 * n + n * n) 3 start r (λ o. factors_stretch o bytes n so_far.size) so_far legal moved)

pub factors_refused : {A : Type 0} (bytes : List ℕ) (n : ℕ) (start : Unread) (outcome : Result A InstanceFault) → IsUpTo bytes n (2 + 2 * n + n * n) start
    → IfErr outcome (λ e. IsFirstFault a_factor 3 start (fault_of e)) → (o : Options) → IfErr outcome (λ e. IsRefused australia_post o bytes (of_fault e))
factors_refused bytes n start (Ok v) so_far stopped o = tt
factors_refused bytes n start (Err e) so_far stopped o =
    is_refused australia_post o bytes (of_fault e)
    (stopped_within (post_fault o bytes) bytes a_factor (2 + 2 * n + n * n) 3 start (of_fault e) (factors_stretch o bytes n so_far.size)
    (read_to bytes n (2 + 2 * n + n * n) start o so_far) stopped)

-- what the next token writes, and the j-th after it
pub value_after : (bytes : List ℕ) (places n k j t v : ℕ) (start : Unread) → IsUpTo bytes n k start → v ≡ value_here places (later j start)
    → 1 + (k + j) ≡ t → v ≡ value_at (tokens_of bytes) places t
value_after bytes places n k j t v start so_far is e =
    is
    ∙ (ap (λ u. value_here places (later j u)) so_far.at
    ∙ (ap (value_here places) (later-later j k (whole bytes))
    ∙ (value_later places (k + j) bytes ∙ ap (value_at (tokens_of bytes) places) e)))

pub value_next : (bytes : List ℕ) (places n k t v : ℕ) (start : Unread) → IsUpTo bytes n k start → v ≡ value_here places start
    → 1 + k ≡ t → v ≡ value_at (tokens_of bytes) places t
value_next bytes places n k t v start so_far is e =
    value_after bytes places n k 0 t v start so_far (is ∙ ap (value_here places) (sym (later-none start))) (omega arith)
