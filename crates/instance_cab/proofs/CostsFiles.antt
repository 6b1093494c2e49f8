-- A costs file: what each token is to be, and what the file gives.
use Rattle.std.proofs.Common.{◌≡◌, ℕ, ◌+◌, List, map, All, ℤ, pos, Option, Result, Ok, IfErr, refl, sym, subst, ap, ◌∙◌, arith}
use Rattle.std.specs.List.{range_with_len}
use Rattle.std.proofs.lemmas.Bool.{lt-leb, le-leb}
use Rattle.text_spec.specs.Tokens.{tokens_of}
use Rattle.file_spec.specs.Faults.{Fault}
use Rattle.file_spec.specs.Places.{a_cost, nothing, costs_wanted, value_at}
use Rattle.file_spec.specs.Files.{cost_fault_at, HasCosts}
use Rattle.file_spec.proofs.Ends.{costs_none_past}
use Rattle.file_spec.proofs.CostsFiles.{costs_within}
use Rattle.hub_model.proofs.Signs.{natural-pos, pos_least}
use Rattle.hub_model.specs.Amounts.{natural, IsNatural}
use Rattle.hub_model.specs.Building.{AreGivenCosts}
use Rattle.hub_model.specs.declared.faults.InstanceFault.{InstanceFault}
use Rattle.hub_model.specs.declared.faults.Refusal.{Refusal}
use Rattle.hub_model.specs.declared.faults.Refusal.TheVariants.{Fault as of_fault}
use Rattle.token_reader.specs.Unread.{Unread, whole, later, fault_here, AreLegal, StoppedAt, told}
use Rattle.token_reader.specs.Refusals.{IsRefusedCosts}
use Rattle.token_reader.proofs.Ahead.{later-none}
use Rattle.token_reader.proofs.Stretches.{AreWanted, stretch_of, one_legal}
use Rattle.token_reader.proofs.Stages.{IsReadTo, read_nothing, read_on, one_refused_costs, stretch_refused_costs}
use Rattle.instance_cab.specs.declared.kinds.ListKind.TheVariants.{Cost}
use Rattle.instance_cab.specs.Matrices.{kept_front}
use Rattle.instance_cab.proofs.MatrixFiles.{front_is}

-- what is wrong with token t of the file
abbrev costs_fault : ℕ → List ℕ → ℕ → Option Fault
costs_fault n bytes = cost_fault_at n (tokens_of bytes)

costs_stretch : (n : ℕ) (bytes : List ℕ) → AreWanted (costs_fault n bytes) bytes a_cost 0 n
costs_stretch n bytes = stretch_of (costs_wanted n) bytes a_cost 0 n (λ t h k. rw (le-leb t n (omega arith)) refl)

end_stretch : (n : ℕ) (bytes : List ℕ) → AreWanted (costs_fault n bytes) bytes nothing n 1
end_stretch n bytes = stretch_of (costs_wanted n) bytes nothing n 1 (λ t h k. rw (lt-leb t n h) refl)

-- the costs are read
abbrev pub AreCostsRead : ℕ → List ℕ → Unread → Type 0
AreCostsRead n bytes r = IsReadTo (costs_fault n bytes) bytes n r

pub costs_read : (n : ℕ) (bytes : List ℕ) (start r : Unread) → start ≡ whole bytes → AreLegal a_cost n start → r ≡ later n start → AreCostsRead n bytes r
costs_read n bytes start r at legal moved =
    let P : ℕ → Type 0 = λ k. IsReadTo (costs_fault n bytes) bytes k r in
    let all : 0 + n ≡ n = omega arith in
    subst P all (read_on (costs_fault n bytes) bytes a_cost 0 n start r (costs_stretch n bytes) (read_nothing (costs_fault n bytes) bytes start at) legal moved)

pub costs_refused : {A : Type 0} (n : ℕ) (bytes : List ℕ) (start : Unread) (outcome : Result A Refusal) → start ≡ whole bytes
    → IfErr outcome (StoppedAt a_cost n start) → IfErr outcome (IsRefusedCosts n bytes)
costs_refused n bytes start outcome at stopped =
    stretch_refused_costs n bytes a_cost 0 n start outcome (costs_stretch n bytes) (read_nothing (costs_fault n bytes) bytes start at) stopped

pub costs_end_refused : (n : ℕ) (bytes : List ℕ) (r : Unread) (outcome : Result (Unit {0}) InstanceFault) → AreCostsRead n bytes r
    → told outcome ≡ fault_here nothing r → IfErr outcome (λ f. IsRefusedCosts n bytes (of_fault f))
costs_end_refused n bytes r outcome so_far fault = one_refused_costs n bytes nothing n r outcome (end_stretch n bytes) so_far fault

costs_front : (n : ℕ) (bytes : List ℕ) → map (λ k. value_at (tokens_of bytes) 6 (1 + k)) (range_with_len 0 n) ≡ kept_front Cost n n (whole bytes)
costs_front n bytes =
    front_is Cost n 0 n bytes (λ k. value_at (tokens_of bytes) 6 (1 + k)) (λ s. ap (value_at (tokens_of bytes) 6) (omega arith))
    ∙ ap (kept_front Cost n n) (later-none (whole bytes))

-- the file ends there, and the costs are its
pub has_costs : (n : ℕ) (bytes costs : List ℕ) (start r : Unread) (outcome : Result (Unit {0}) InstanceFault) → start ≡ whole bytes
    → AreCostsRead n bytes r → costs ≡ kept_front Cost n n start → outcome ≡ Ok tt → told outcome ≡ fault_here nothing r → HasCosts n bytes costs
has_costs n bytes costs start r outcome at so_far kept ok fault =
    let end = read_on (costs_fault n bytes) bytes nothing n 1 r (later 1 r) (end_stretch n bytes) so_far (one_legal nothing r (sym fault ∙ ap told ok)) refl in
    record {
      legal = costs_none_past n (tokens_of bytes) end.none;
      is = kept ∙ (ap (kept_front Cost n n) at ∙ sym (costs_front n bytes));
    }

-- and as the numbers of a vector
pub costs_given : (n : ℕ) (bytes costs : List ℕ) (items : List ℤ) → HasCosts n bytes costs → items ≡ map pos costs → HasCosts n bytes (map natural items)
costs_given n bytes costs items has is =
    let P : List ℕ → Type 0 = λ cs. HasCosts n bytes cs in subst P (sym (ap (map natural) is ∙ natural-pos costs)) has

pub given_costs : (n : ℕ) (bytes costs : List ℕ) (items : List ℤ) → HasCosts n bytes costs → items ≡ map pos costs → AreGivenCosts n items
given_costs n bytes costs items has is =
    let P : List ℤ → Type 0 = λ zs. All IsNatural zs in
    record {
      naturals = subst P (sym is) (pos_least costs);
      legal = costs_within n bytes (map natural items) (costs_given n bytes costs items has is);
    }
