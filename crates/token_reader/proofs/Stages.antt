-- How far a file is read, and what follows where a read goes well or tells a fault. `f t` is what is wrong with token t
-- of the file, in whatever layout.
use Rattle.std.proofs.Common.{◌≡◌, ℕ, ◌+◌, List, Option, Some, Result, Ok, Err, IfErr, OnOk, refl, sym, subst, ap, ◌∙◌, arith}
use Rattle.std.proofs.lemmas.Result.{IfOk-at_ok}
use Rattle.text_spec.specs.Tokens.{tokens_of}
use Rattle.file_spec.specs.Options.{Layout, Options}
use Rattle.file_spec.specs.Faults.{Fault}
use Rattle.file_spec.specs.Places.{Wanted}
use Rattle.file_spec.specs.Files.{file_size, fault_at, cost_fault_at}
use Rattle.file_spec.proofs.Firsts.{NoneUpTo}
use Rattle.hub_model.specs.Faults.{fault_of}
use Rattle.hub_model.specs.declared.faults.InstanceFault.{InstanceFault}
use Rattle.hub_model.specs.declared.faults.Refusal.{Refusal}
use Rattle.hub_model.specs.declared.faults.Refusal.TheVariants.{Fault as of_fault, OutOfMemory}
use Rattle.token_reader.specs.Unread.{Unread, whole, later, fault_here, value_here, AreLegal, StoppedAt, told}
use Rattle.token_reader.specs.Refusals.{IsRefused, IsRefusedCosts}
use Rattle.token_reader.proofs.Ahead.{later-none, later-later}
use Rattle.token_reader.proofs.Stretches.{AreWanted, IsFirstOf, none_so_far, none_longer, first_fault, one_fault, one_legal}

-- the first k tokens are read, and none of them has a fault
pub record IsReadTo (f : ℕ → Option Fault) (bytes : List ℕ) (k : ℕ) (r : Unread) : Type 0 where
  pub at : r ≡ later k (whole bytes)
  pub none : NoneUpTo f k

-- reading stopped at the first fault; want of memory says nothing
abbrev pub StoppedFirst : (ℕ → Option Fault) → Refusal → Type 0
StoppedFirst f (of_fault e) = IsFirstOf f (fault_of e)
StoppedFirst f OutOfMemory = Unit {0}

-- nothing is read
pub read_nothing : (f : ℕ → Option Fault) (bytes : List ℕ) (r : Unread) → r ≡ whole bytes → IsReadTo f bytes 0 r
read_nothing f bytes r at = record { at = at ∙ sym (later-none (whole bytes)); none = none_so_far f }

-- a stretch of m tokens is read
pub read_on : (f : ℕ → Option Fault) (bytes : List ℕ) (w : Wanted) (k m : ℕ) (start r : Unread) → AreWanted f bytes w k m → IsReadTo f bytes k start
    → AreLegal w m start → r ≡ later m start → IsReadTo f bytes (k + m) r
read_on f bytes w k m start r same so_far legal moved =
    let P : Unread → Type 0 = λ u. AreLegal w m u in
    record {
      at = moved ∙ (ap (later m) so_far.at ∙ later-later m k (whole bytes));
      none = none_longer f bytes w k m m same (omega arith) so_far.none (subst P so_far.at legal);
    }

-- one token is read
pub read_one : {A : Type 0} (f : ℕ → Option Fault) (bytes : List ℕ) (w : Wanted) (k : ℕ) (start r : Unread) (outcome : Result A InstanceFault) (value : A)
    → AreWanted f bytes w k 1 → IsReadTo f bytes k start → outcome ≡ Ok value → told outcome ≡ fault_here w start → OnOk outcome (r ≡ later 1 start)
    → IsReadTo f bytes (k + 1) r
read_one f bytes w k start r outcome value same so_far ok fault moved =
    read_on f bytes w k 1 start r same so_far (one_legal w start (sym fault ∙ ap told ok)) (IfOk-at_ok (λ v. r ≡ later 1 start) ok moved)

-- reading stops within a stretch
pub stopped_within : (f : ℕ → Option Fault) (bytes : List ℕ) (w : Wanted) (k m : ℕ) (start : Unread) (refusal : Refusal) → AreWanted f bytes w k m
    → IsReadTo f bytes k start → StoppedAt w m start refusal → StoppedFirst f refusal
stopped_within f bytes w k m start OutOfMemory same so_far stopped = tt
stopped_within f bytes w k m start (of_fault e) same so_far stopped =
    let P : Unread → Type 0 = λ u. StoppedAt w m u (of_fault e) in
    first_fault f bytes w k m (fault_of e) same so_far.none (subst P so_far.at stopped)

-- reading stops at one token
pub one_stopped : (f : ℕ → Option Fault) (bytes : List ℕ) (w : Wanted) (k : ℕ) (start : Unread) (e : InstanceFault)
    → AreWanted f bytes w k 1 → IsReadTo f bytes k start → Some (fault_of e) ≡ fault_here w start → StoppedFirst f (of_fault e)
one_stopped f bytes w k start e same so_far fault =
    stopped_within f bytes w k 1 start (of_fault e) same so_far (one_fault w start (fault_of e) (sym fault))

-- the file is refused for that
pub is_refused : (layout : Layout) (o : Options) (bytes : List ℕ) (refusal : Refusal) → StoppedFirst (fault_at layout o (tokens_of bytes)) refusal
    → IsRefused layout o bytes refusal
is_refused layout o bytes OutOfMemory stopped = tt
is_refused layout o bytes (of_fault e) stopped =
    record { token = stopped.0; counted = stopped.1.counted; here = stopped.1.here; before = stopped.1.before }

pub is_refused_costs : (n : ℕ) (bytes : List ℕ) (refusal : Refusal) → StoppedFirst (cost_fault_at n (tokens_of bytes)) refusal
    → IsRefusedCosts n bytes refusal
is_refused_costs n bytes OutOfMemory stopped = tt
is_refused_costs n bytes (of_fault e) stopped =
    record { token = stopped.0; counted = stopped.1.counted; here = stopped.1.here; before = stopped.1.before }

-- a file is refused where a stretch is read, and where one token is
pub stretch_refused : {A : Type 0} (layout : Layout) (o : Options) (bytes : List ℕ) (w : Wanted) (k m : ℕ) (start : Unread) (outcome : Result A Refusal)
    → AreWanted (fault_at layout o (tokens_of bytes)) bytes w k m → IsReadTo (fault_at layout o (tokens_of bytes)) bytes k start
    → IfErr outcome (StoppedAt w m start) → IfErr outcome (IsRefused layout o bytes)
stretch_refused layout o bytes w k m start (Ok value) same so_far stopped = tt
stretch_refused layout o bytes w k m start (Err refusal) same so_far stopped =
    is_refused layout o bytes refusal (stopped_within (fault_at layout o (tokens_of bytes)) bytes w k m start refusal same so_far stopped)

pub one_refused : {A : Type 0} (layout : Layout) (o : Options) (bytes : List ℕ) (w : Wanted) (k : ℕ) (start : Unread) (outcome : Result A InstanceFault)
    → AreWanted (fault_at layout o (tokens_of bytes)) bytes w k 1 → IsReadTo (fault_at layout o (tokens_of bytes)) bytes k start
    → told outcome ≡ fault_here w start → IfErr outcome (λ e. IsRefused layout o bytes (of_fault e))
one_refused layout o bytes w k start (Ok value) same so_far fault = tt
one_refused layout o bytes w k start (Err e) same so_far fault =
    is_refused layout o bytes (of_fault e) (one_stopped (fault_at layout o (tokens_of bytes)) bytes w k start e same so_far fault)

-- and a costs file
pub stretch_refused_costs : {A : Type 0} (n : ℕ) (bytes : List ℕ) (w : Wanted) (k m : ℕ) (start : Unread) (outcome : Result A Refusal)
    → AreWanted (cost_fault_at n (tokens_of bytes)) bytes w k m → IsReadTo (cost_fault_at n (tokens_of bytes)) bytes k start
    → IfErr outcome (StoppedAt w m start) → IfErr outcome (IsRefusedCosts n bytes)
stretch_refused_costs n bytes w k m start (Ok value) same so_far stopped = tt
stretch_refused_costs n bytes w k m start (Err refusal) same so_far stopped =
    is_refused_costs n bytes refusal (stopped_within (cost_fault_at n (tokens_of bytes)) bytes w k m start refusal same so_far stopped)

pub one_refused_costs : {A : Type 0} (n : ℕ) (bytes : List ℕ) (w : Wanted) (k : ℕ) (start : Unread) (outcome : Result A InstanceFault)
    → AreWanted (cost_fault_at n (tokens_of bytes)) bytes w k 1 → IsReadTo (cost_fault_at n (tokens_of bytes)) bytes k start
    → told outcome ≡ fault_here w start → IfErr outcome (λ e. IsRefusedCosts n bytes (of_fault e))
one_refused_costs n bytes w k start (Ok value) same so_far fault = tt
one_refused_costs n bytes w k start (Err e) same so_far fault =
    is_refused_costs n bytes (of_fault e) (one_stopped (cost_fault_at n (tokens_of bytes)) bytes w k start e same so_far fault)

-- the number of nodes is what the first token writes
pub size_is : (bytes : List ℕ) → value_here 0 (whole bytes) ≡ file_size (tokens_of bytes)
unfolding value_here
size_is bytes = refl
