-- The tail of a file: it is not looked at, or it is a fixed cost for each node and the end.
use Rattle.std.proofs.Common.{◌≡◌, ℕ, ◌+◌, ◌-◌, ◌<◌, ◌≤◌, drop, Option, Some, None, Result, Ok, refl, ap, sym, ◌∙◌, inl, inr, arith}
use Rattle.std.specs.List.{slice_get}
use Rattle.std.proofs.lemmas.Bool.{cases_lt, lt-ltb, le-ltb}
use Rattle.text_spec.specs.Tokens.{Token}
use Rattle.file_spec.specs.Options.{tail_ignored, tail_costs}
use Rattle.file_spec.specs.Places.{a_cost, anything, nothing, tail_wanted, token_fault, token_at}
use Rattle.file_spec.proofs.Ends.{nothing_there}
use Rattle.file_spec.proofs.TokenLimits.{ended_by}
use Rattle.hub_model.specs.declared.faults.InstanceFault.{InstanceFault}
use Rattle.token_reader.specs.Unread.{Unread, later, fault_here, AreLegal, told}
use Rattle.token_reader.proofs.Ahead.{slice_get-drop}
use Rattle.instance_ap.specs.Fronts.{IsLegalTail}

-- whatever a token is, it has no fault where anything is wanted
anything_there : (t : ℕ) (token : Option Token) → token_fault anything t token ≡ None
anything_there t None = refl
anything_there t (Some token) = refl

pub ignored_legal : (n : ℕ) (r : Unread) → IsLegalTail tail_ignored n r
unfolding fault_here
ignored_legal n r = record { each = λ s. anything_there (later s r).next (slice_get (later s r).tokens 0) }

-- fixed costs are wanted, and behind them nothing
cost_wanted : (n s : ℕ) → s < n → tail_wanted tail_costs n s ≡ a_cost
cost_wanted n s h = rw (lt-ltb s n h)

end_wanted : (n s : ℕ) → n ≤ s → tail_wanted tail_costs n s ≡ nothing
end_wanted n s h = rw (le-ltb s n h)

-- where no token is and none is wanted, so it is further on
nothing_later : (n s : ℕ) (r : Unread) → n ≤ s → fault_here nothing (later n r) ≡ None → fault_here nothing (later s r) ≡ None
unfolding fault_here later
nothing_later n s r h none =
    let first : token_at r.tokens (1 + n) ≡ None =
    (let e : 1 + n - 1 ≡ n = omega arith in
    ap (slice_get r.tokens) e ∙ (sym (slice_get-drop n r.tokens) ∙ nothing_there (r.next + n) (slice_get (drop n r.tokens) 0) none)) in
    let further : token_at r.tokens (1 + s) ≡ None = ended_by r.tokens (1 + n) (1 + s) first (omega arith) in
    let e : s ≡ 1 + s - 1 = omega arith in
    ap (token_fault nothing (r.next + s)) (slice_get-drop s r.tokens ∙ (ap (slice_get r.tokens) e ∙ further))

pub costs_legal : (n : ℕ) (r last : Unread) (outcome : Result (Unit {0}) InstanceFault) → AreLegal a_cost n r → last ≡ later n r
    → outcome ≡ Ok tt → told outcome ≡ fault_here nothing last → IsLegalTail tail_costs n r
costs_legal n r last outcome legal at ok fault = record {
  each = λ s. elim (cases_lt s n) [
    | inl below ↦ ap (λ w. fault_here w (later s r)) (cost_wanted n s below) ∙ legal.each s below
    | inr past ↦ ap (λ w. fault_here w (later s r)) (end_wanted n s past)
        ∙ nothing_later n s r past (ap (fault_here nothing) (sym at) ∙ (sym fault ∙ ap told ok))
  ];
}
