-- Numbers without a fault are within their limit.
use Rattle.std.proofs.Common.{◌≡◌, ℕ, ◌+◌, ◌<◌, ◌≤◌, All, subst, sym, arith}
use Rattle.std.specs.List.{slice_get}
use Rattle.std.proofs.lemmas.List.Elements.{All-from_get_or}
use Rattle.std.proofs.lemmas.List.FromFn.{length-map-range_with_len, get_or-map-range_with_len}
use Rattle.file_spec.specs.Places.{a_quantity}
use Rattle.file_spec.proofs.TokenLimits.{token_within}
use Rattle.token_reader.specs.Unread.{Unread, later, fault_here, value_here, values_here, AreLegal}

value_within : (places limit s m : ℕ) (r : Unread) → AreLegal (a_quantity places limit) m r → s < m → value_here places (later s r) ≤ limit
unfolding fault_here value_here
value_within places limit s m r legal h = token_within places limit (later s r).next (slice_get (later s r).tokens 0) (legal.each s h)

pub values_within : (places limit m : ℕ) (r : Unread) → AreLegal (a_quantity places limit) m r → All (λ v. v ≤ limit) (values_here places m r)
unfolding values_here
values_within places limit m r legal =
    let f = λ (s : ℕ). value_here places (later s r) in
    let P : ℕ → Type 0 = λ v. v ≤ limit in
    All-from_get_or P _ 0 (λ i h.
    let below : i < m = omega (arith, length-map-range_with_len f 0 m) in
    let zeroth : 0 + i ≡ i = omega arith in
    subst P (sym (get_or-map-range_with_len f 0 m i i 0 below zeroth)) (value_within places limit i m r legal below))
