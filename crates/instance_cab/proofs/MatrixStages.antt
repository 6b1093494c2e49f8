-- How far a file in the matrix layout is read, and what is known then.
use Rattle.std.proofs.Common.{◌≡◌, ℕ, ◌+◌, ◌*◌, List, Result, Ok, IfOk, OnOk, IfErr, refl, sym, subst, ap, ◌∙◌}
use Rattle.std.proofs.lemmas.Result.{IfOk-at_ok}
use Rattle.text_spec.specs.Tokens.{tokens_of}
use Rattle.file_spec.specs.Options.{cab_matrix, Options, IsOptions}
use Rattle.file_spec.specs.Contents.{Contents, IsContents}
use Rattle.file_spec.specs.Places.{a_size, nothing}
use Rattle.file_spec.specs.Files.{file_size, HasContents}
use Rattle.file_spec.proofs.ContentLimits.{contents_within}
use Rattle.hub_model.specs.declared.faults.InstanceFault.{InstanceFault}
use Rattle.hub_model.specs.declared.faults.Refusal.{Refusal}
use Rattle.hub_model.specs.declared.faults.Refusal.TheVariants.{Fault as of_fault}
use Rattle.token_reader.specs.Unread.{Unread, whole, later, fault_here, value_here, AreLegal, StoppedAt, told}
use Rattle.token_reader.specs.Refusals.{IsRefused}
use Rattle.token_reader.proofs.Stretches.{one_legal}
use Rattle.token_reader.proofs.Stages.{IsReadTo, read_nothing, read_on, read_one, one_refused, stretch_refused, size_is}
use Rattle.instance_cab.specs.declared.kinds.ListKind.{ListKind}
use Rattle.instance_cab.specs.Matrices.{wanted_of, kept_front, contents_with}
use Rattle.instance_cab.proofs.MatrixTokens.{matrix_fault, first_of, second_of, size_stretch, first_stretch, second_stretch, end_stretch}
use Rattle.instance_cab.proofs.MatrixFiles.{all_read}

-- the size is read
pub record IsSized (o : Options) (bytes : List ℕ) (n : ℕ) (r : Unread) : Type 0 where
  size : n ≡ file_size (tokens_of bytes)
  read : IsReadTo (matrix_fault o bytes) bytes 1 r

-- and the first matrix
pub record IsHalfRead (o : Options) (bytes : List ℕ) (n : ℕ) (first : List ℕ) (r : Unread) : Type 0 where
  size : n ≡ file_size (tokens_of bytes)
  read : IsReadTo (matrix_fault o bytes) bytes (1 + n * n) r
  first_is : first ≡ kept_front (first_of o) n (n * n) (later 1 (whole bytes))

-- and the second
pub record AreBothRead (o : Options) (bytes : List ℕ) (n : ℕ) (first second : List ℕ) (r : Unread) : Type 0 where
  size : n ≡ file_size (tokens_of bytes)
  read : IsReadTo (matrix_fault o bytes) bytes (1 + n * n + n * n) r
  first_is : first ≡ kept_front (first_of o) n (n * n) (later 1 (whole bytes))
  second_is : second ≡ kept_front (second_of o) n (n * n) (later (1 + n * n) (whole bytes))

pub sized : (o : Options) (bytes : List ℕ) (n : ℕ) (start r : Unread) (outcome : Result ℕ InstanceFault) → outcome ≡ Ok n → start ≡ whole bytes
    → told outcome ≡ fault_here a_size start → IfOk outcome (λ n. n ≡ value_here 0 start) → OnOk outcome (r ≡ later 1 start) → IsSized o bytes n r
sized o bytes n start r outcome ok at fault value moved = record {
  size = IfOk-at_ok (λ n. n ≡ value_here 0 start) ok value ∙ (ap (value_here 0) at ∙ size_is bytes);
  read = read_one (matrix_fault o bytes) bytes a_size 0 start r outcome n (size_stretch o bytes) (read_nothing (matrix_fault o bytes) bytes start at) ok fault moved;
}

pub size_refused : (o : Options) (bytes : List ℕ) (start : Unread) (outcome : Result ℕ InstanceFault) → start ≡ whole bytes
    → told outcome ≡ fault_here a_size start → IfErr outcome (λ f. IsRefused cab_matrix o bytes (of_fault f))
size_refused o bytes start outcome at fault =
    one_refused cab_matrix o bytes a_size 0 start outcome (size_stretch o bytes) (read_nothing (matrix_fault o bytes) bytes start at) fault

pub half_read : (o : Options) (bytes : List ℕ) (n : ℕ) (kind : ListKind) (start r : Unread) (first : List ℕ) → IsSized o bytes n start
    → kind ≡ first_of o → AreLegal (wanted_of kind) (n * n) start → first ≡ kept_front kind n (n * n) start → r ≡ later (n * n) start
    → IsHalfRead o bytes n first r
half_read o bytes n kind start r first so_far is legal kept moved = record {
  size = so_far.size;
  read = read_on (matrix_fault o bytes) bytes (wanted_of (first_of o)) 1 (n * n) start r (first_stretch o bytes n so_far.size) so_far.read
      (subst (λ k. AreLegal (wanted_of k) (n * n) start) is legal) moved;
  first_is = kept ∙ (λ i. kept_front (is i) n (n * n) (so_far.read.at i));
}

pub first_refused : (o : Options) (bytes : List ℕ) (n : ℕ) (kind : ListKind) (start : Unread) (outcome : Result (List ℕ) Refusal) → IsSized o bytes n start
    → kind ≡ first_of o → IfErr outcome (StoppedAt (wanted_of kind) (n * n) start) → IfErr outcome (IsRefused cab_matrix o bytes)
first_refused o bytes n kind start outcome so_far is stopped =
    stretch_refused cab_matrix o bytes (wanted_of (first_of o)) 1 (n * n) start outcome (first_stretch o bytes n so_far.size) so_far.read
    (subst (λ k. IfErr outcome (StoppedAt (wanted_of k) (n * n) start)) is stopped)

pub both_read : (o : Options) (bytes : List ℕ) (n : ℕ) (kind : ListKind) (start r : Unread) (first second : List ℕ) → IsHalfRead o bytes n first start
    → kind ≡ second_of o → AreLegal (wanted_of kind) (n * n) start → second ≡ kept_front kind n (n * n) start → r ≡ later (n * n) start
    → AreBothRead o bytes n first second r
both_read o bytes n kind start r first second so_far is legal kept moved = record {
  size = so_far.size;
  read = read_on (matrix_fault o bytes) bytes (wanted_of (second_of o)) (1 + n * n) (n * n) start r (second_stretch o bytes n so_far.size) so_far.read
      (subst (λ k. AreLegal (wanted_of k) (n * n) start) is legal) moved;
  first_is = so_far.first_is;
  second_is = kept ∙ (λ i. kept_front (is i) n (n * n) (so_far.read.at i));
}

pub second_refused : (o : Options) (bytes : List ℕ) (n : ℕ) (kind : ListKind) (start : Unread) (first : List ℕ) (outcome : Result (List ℕ) Refusal)
    → IsHalfRead o bytes n first start → kind ≡ second_of o → IfErr outcome (StoppedAt (wanted_of kind) (n * n) start)
    → IfErr outcome (IsRefused cab_matrix o bytes)
second_refused o bytes n kind start first outcome so_far is stopped =
    stretch_refused cab_matrix o bytes (wanted_of (second_of o)) (1 + n * n) (n * n) start outcome (second_stretch o bytes n so_far.size) so_far.read
    (subst (λ k. IfErr outcome (StoppedAt (wanted_of k) (n * n) start)) is stopped)

pub end_refused : (o : Options) (bytes : List ℕ) (n : ℕ) (start : Unread) (first second : List ℕ) (outcome : Result (Unit {0}) InstanceFault)
    → AreBothRead o bytes n first second start → told outcome ≡ fault_here nothing start
    → IfErr outcome (λ f. IsRefused cab_matrix o bytes (of_fault f))
end_refused o bytes n start first second outcome so_far fault =
    one_refused cab_matrix o bytes nothing (1 + n * n + n * n) start outcome (end_stretch o bytes n so_far.size) so_far.read fault

pub has_contents : (o : Options) (bytes : List ℕ) (n : ℕ) (start : Unread) (first second : List ℕ) (outcome : Result (Unit {0}) InstanceFault)
    → AreBothRead o bytes n first second start → outcome ≡ Ok tt → told outcome ≡ fault_here nothing start
    → HasContents cab_matrix o bytes (contents_with o.order n first second)
has_contents o bytes n start first second outcome so_far ok fault =
    let end = read_on (matrix_fault o bytes) bytes nothing (1 + n * n + n * n) 1 start (later 1 start) (end_stretch o bytes n so_far.size) so_far.read
    (one_legal nothing start (sym fault ∙ ap told ok)) refl in
    let P : Contents → Type 0 = λ c. HasContents cab_matrix o bytes c in
    subst P (λ i. contents_with o.order n (sym so_far.first_is i) (sym so_far.second_is i)) (all_read o bytes n so_far.size end.none)

pub has_limits : (o : Options) (bytes : List ℕ) (c : Contents) → IsOptions o → HasContents cab_matrix o bytes c → IsContents c
has_limits o bytes c ok has = contents_within cab_matrix o bytes c ok has
