-- Tokens without a fault behind others, and the first fault there.
use Rattle.std.proofs.Common.{◌≡◌, ℕ, ◌+◌, ◌-◌, ◌*◌, ◌<◌, ◌≤◌, Result, Ok, Err, IfErr, None, subst, ap, sym, ◌∙◌, inl, inr, arith}
use Rattle.std.proofs.lemmas.Bool.{cases_lt}
use Rattle.file_spec.specs.Faults.{Fault}
use Rattle.file_spec.specs.Places.{Wanted}
use Rattle.hub_model.specs.Faults.{fault_of}
use Rattle.hub_model.specs.declared.faults.InstanceFault.{InstanceFault}
use Rattle.token_reader.specs.Unread.{Unread, later, fault_here, AreLegal, IsFirstFault}
use Rattle.token_reader.proofs.Ahead.{later-later}

-- m more tokens behind k others
legal_behind : (w : Wanted) (k m : ℕ) (r : Unread) → AreLegal w k r → AreLegal w m (later k r) → AreLegal w (k + m) r
legal_behind w k m r before behind = record {
  each = λ s h. elim (cases_lt s k) [
    | inl below ↦ before.each s below
    | inr above ↦ (let e : k + (s - k) ≡ s = omega arith in
        let P : ℕ → Type 0 = λ i. fault_here w (later i r) ≡ None in
        subst P e (ap (fault_here w) (sym (later-later (s - k) k r)) ∙ behind.each (s - k) (omega arith)))
  ];
}

-- the first fault behind k others
fault_behind : (w : Wanted) (k m n : ℕ) (r : Unread) (f : Fault) → k + m ≤ n → AreLegal w k r → IsFirstFault w m (later k r) f → IsFirstFault w n r f
fault_behind w k m n r f fits before first =
    let within = first.within in
    record {
      place = k + first.place;
      within = omega arith;
      before = legal_behind w k first.place r before first.before;
      here = ap (fault_here w) (sym (later-later first.place k r)) ∙ first.here;
    }

-- two more tokens are read behind k pairs
pub moved_pair : (k : ℕ) (r start next : Unread) → start ≡ later (2 * k) r → next ≡ later 2 start → next ≡ later (2 * (k + 1)) r
moved_pair k r start next at moved =
    let e : 2 * k + 2 ≡ 2 * (k + 1) = omega arith in moved ∙ (ap (later 2) at ∙ (later-later 2 (2 * k) r ∙ ap (λ m. later m r) e))

pub legal_pair : (w : Wanted) (k : ℕ) (r start : Unread) → start ≡ later (2 * k) r → AreLegal w (2 * k) r → AreLegal w 2 start
    → AreLegal w (2 * (k + 1)) r
legal_pair w k r start at before behind =
    let e : 2 * k + 2 ≡ 2 * (k + 1) = omega arith in
    let P : ℕ → Type 0 = λ m. AreLegal w m r in
    let Q : Unread → Type 0 = λ u. AreLegal w 2 u in
    subst P e (legal_behind w (2 * k) 2 r before (subst Q at behind))

pub fault_pair : {A : Type 0} (w : Wanted) (k n : ℕ) (r start : Unread) (outcome : Result A InstanceFault) → k < n → start ≡ later (2 * k) r
    → AreLegal w (2 * k) r → IfErr outcome (λ f. IsFirstFault w 2 start (fault_of f)) → IfErr outcome (λ f. IsFirstFault w (2 * n) r (fault_of f))
fault_pair w k n r start (Ok v) fits at before first = tt
fault_pair w k n r start (Err f) fits at before first =
    let P : Unread → Type 0 = λ u. IsFirstFault w 2 u (fault_of f) in
    fault_behind w (2 * k) 2 (2 * n) r (fault_of f) (omega arith) before (subst P at first)
