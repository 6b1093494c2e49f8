-- One more token is read behind k others.
use Rattle.std.proofs.Common.{◌≡◌, ℕ, ◌+◌, ◌<◌, Result, Ok, Err, IfErr, ap, sym, ◌∙◌}
use Rattle.file_spec.specs.Places.{Wanted}
use Rattle.hub_model.specs.Faults.{fault_of}
use Rattle.hub_model.specs.declared.faults.InstanceFault.{InstanceFault}
use Rattle.token_reader.specs.Unread.{Unread, later, fault_here, AreLegal, IsFirstFault, told}
use Rattle.token_reader.proofs.Ahead.{later-later}
use Rattle.token_reader.proofs.Stretches.{legal_more}

pub moved_token : (k : ℕ) (r start next : Unread) → start ≡ later k r → next ≡ later 1 start → next ≡ later (k + 1) r
moved_token k r start next at moved = moved ∙ (ap (later 1) at ∙ later-later 1 k r)

pub legal_token : {A : Type 0} (w : Wanted) (k : ℕ) (r start : Unread) (outcome : Result A InstanceFault) (v : A) → start ≡ later k r
    → outcome ≡ Ok v → told outcome ≡ fault_here w start → AreLegal w k r → AreLegal w (k + 1) r
legal_token w k r start outcome v at ok fault legal = legal_more w k r legal (ap (fault_here w) (sym at) ∙ (sym fault ∙ ap told ok))

-- it is the first one with a fault
pub fault_token : {A : Type 0} (w : Wanted) (k n : ℕ) (r start : Unread) (outcome : Result A InstanceFault) → k < n → start ≡ later k r
    → told outcome ≡ fault_here w start → AreLegal w k r → IfErr outcome (λ f. IsFirstFault w n r (fault_of f))
fault_token w k n r start (Ok v) fits at fault legal = tt
fault_token w k n r start (Err f) fits at fault legal =
    record { place = k; within = fits; before = legal; here = ap (fault_here w) (sym at) ∙ sym fault }
