-- A row read token by token.
use Rattle.std.proofs.Common.{◌≡◌, ℕ, ◌+◌, ◌<◌, None, Result, Ok, Err, IfErr, OnOk, sym, subst, ap, ◌∙◌, inl, inr, arith}
use Rattle.std.proofs.lemmas.Bool.{cases_lt}
use Rattle.std.proofs.lemmas.Result.{IfOk-at_ok}
use Rattle.file_spec.specs.Places.{Wanted, field_wanted}
use Rattle.hub_model.specs.Faults.{fault_of}
use Rattle.hub_model.specs.declared.faults.InstanceFault.{InstanceFault}
use Rattle.token_reader.specs.Unread.{Unread, later, fault_here, told}
use Rattle.token_reader.proofs.Ahead.{later-none, later-later}
use Rattle.instance_cab.specs.ListedRows.{IsRowLegal, IsRowFault}

-- the tokens of the row are read up to this field
pub record IsReadInRow (n : ℕ) (start : Unread) (field : ℕ) (r : Unread) : Type 0 where
  pub at : r ≡ later field start
  pub none : (earlier : ℕ) → earlier < field → fault_here (field_wanted n earlier) (later earlier start) ≡ None

pub row_begins : (n : ℕ) (start : Unread) → IsReadInRow n start 0 start
row_begins n start = record { at = sym (later-none start); none = λ earlier h. absurd (omega arith) }

pub field_read : {A : Type 0} (n : ℕ) (start : Unread) (field next : ℕ) (w : Wanted) (u r : Unread) (outcome : Result A InstanceFault) (value : A)
    → field_wanted n field ≡ w → field + 1 ≡ next → IsReadInRow n start field u → outcome ≡ Ok value → told outcome ≡ fault_here w u → OnOk outcome (r ≡ later 1 u)
    → IsReadInRow n start next r
field_read n start field next w u r outcome value is e so_far ok fault moved =
    let P : ℕ → Type 0 = λ k. fault_here (field_wanted n k) (later k start) ≡ None in
    let here : P field = (λ i. fault_here (is i) (sym so_far.at i)) ∙ (sym fault ∙ ap told ok) in
    record {
      at = IfOk-at_ok (λ v. r ≡ later 1 u) ok moved ∙ (ap (later 1) so_far.at ∙ (later-later 1 field start ∙ ap (λ k. later k start) e));
      none = λ earlier h. elim (cases_lt earlier field) [
        | inl below ↦ so_far.none earlier below
        | inr above ↦ (let same : field ≡ earlier = omega arith in subst P same here)
      ];
    }

pub field_stopped : {A : Type 0} (n : ℕ) (start : Unread) (field : ℕ) (w : Wanted) (u : Unread) (outcome : Result A InstanceFault)
    → field_wanted n field ≡ w → field < 4 → IsReadInRow n start field u → told outcome ≡ fault_here w u
    → IfErr outcome (λ f. IsRowFault n start (fault_of f))
field_stopped n start field w u (Ok value) is within so_far fault = tt
field_stopped n start field w u (Err f) is within so_far fault = record {
  field = field;
  within = within;
  before = so_far.none;
  here = (λ i. fault_here (is i) (sym so_far.at i)) ∙ sym fault;
}

pub row_legal : (n : ℕ) (start r : Unread) → IsReadInRow n start 4 r → IsRowLegal n start
row_legal n start r whole = record { each = whole.none }
