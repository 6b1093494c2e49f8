-- What is written where a sink fails.
use Rattle.std.proofs.Common.{◌≡◌, ℕ, List, [], Option, Ok, inl, inr, refl, arith}
use Rattle.std.proofs.KnownBytes.{Appends-nil}
use Rattle.hub_io.specs.Outside.{Puts}
use Rattle.hub_io.specs.declared.shelf.Failed.{Failed}
use Rattle.hub_commands.specs.declared.status.Status.{Status}
use Rattle.hub_sources.specs.declared.halts.Halt.{Halt}
use Rattle.hub_sources.specs.declared.halts.Halt.TheVariants as halts
use Rattle.hub_top.specs.Views.{halted}
use Rattle.hub_top.specs.Outcomes.{Outcome, status_of, out_text, err_text, IsTold, Written, whole, out_cut, err_cut}

-- an empty text is put by doing nothing
nothing_put : {K : Type 0} (taken : K → Option (List ℕ)) (faults : K → ℕ) (at : K) → Puts {E = Failed} taken faults at at (Ok tt) []
nothing_put taken faults at = record { whole = Appends-nil (taken at); front = tt; later = omega arith; failed = tt }

-- an outcome that says nothing on err was written, where its text was put on out
pub written_out : {O E : Type 0} (out_taken : O → Option (List ℕ)) (out_faults : O → ℕ) (err_taken : E → Option (List ℕ)) (err_faults : E → ℕ)
    (out_old out_new : O) (err : E) (status : Status) (outcome : Outcome) → err_text outcome ≡ []
    → IsTold out_taken out_faults out_old out_new status (status_of outcome) (out_text outcome)
    → Written out_taken out_faults err_taken err_faults out_old out_new err err status outcome
written_out out_taken out_faults err_taken err_faults out_old out_new err status outcome none (inl h) =
    whole h.0 (rw none (nothing_put err_taken err_faults err)) h.1
written_out out_taken out_faults err_taken err_faults out_old out_new err status outcome none (inr h) = out_cut h.0 h.1 refl h.2

-- and one that says nothing on out, where its text was put on err
pub written_err : {O E : Type 0} (out_taken : O → Option (List ℕ)) (out_faults : O → ℕ) (err_taken : E → Option (List ℕ)) (err_faults : E → ℕ)
    (out : O) (err_old err_new : E) (status : Status) (outcome : Outcome) → out_text outcome ≡ []
    → IsTold err_taken err_faults err_old err_new status (status_of outcome) (err_text outcome)
    → Written out_taken out_faults err_taken err_faults out out err_old err_new status outcome
written_err out_taken out_faults err_taken err_faults out err_old err_new status outcome none (inl h) =
    whole (rw none (nothing_put out_taken out_faults out)) h.0 h.1
written_err out_taken out_faults err_taken err_faults out err_old err_new status outcome none (inr h) =
    err_cut h.0 (rw none (nothing_put out_taken out_faults out)) h.1 h.2

-- where a command has no answer, nothing is put on out
pub halt_puts_nothing : (h : Halt) → out_text (halted h) ≡ []
halt_puts_nothing (halts.Fault blamed fault) = refl
halt_puts_nothing halts.Memory = refl
halt_puts_nothing halts.Read = refl
