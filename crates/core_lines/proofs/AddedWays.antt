-- How often nodes are passed with one way more.
use Rattle.std.proofs.Common.{◌≡◌, ◌↔◌, ℕ, ◌+◌, ◌*◌, ◌≤◌, Bool, true, false, ◌&&◌, IsTrue, refl, nat_eq, ◌||◌, List, ◌++◌, length, take, drop, slice_index, All, arith, ap, ◌∙◌}
use Rattle.std.proofs.lemmas.List.{take-append-le, take_all}
use Rattle.std.proofs.lemmas.List.Elements.{All-get_or, All-from_get_or}
use Rattle.std.proofs.lemmas.Bool.{false≢true}
use Rattle.hub_spec.proofs.SumLemmas.{by_test}
use Rattle.core_spec.specs.CoreCuts.{Way, taken_at}

taken_few : (k : ℕ) (way : Way) → taken_at k way ≤ way.2
taken_few k way = by_test (nat_eq way.0 k || nat_eq way.1 k) (λ e. rw e (omega arith)) (λ e. rw e (omega arith))

pub through_more : (old new : List ℕ) (way : Way) (n most : ℕ) → length new ≡ length old
    → ((x : ℕ) → slice_index new x ≡ slice_index old x + taken_at x way) → way.2 ≤ most
    → All (λ x. x ≤ n * most) old → All (λ x. x ≤ (n + 1) * most) new
through_more old new way n most long passed few limit =
    All-from_get_or (λ x. x ≤ (n + 1) * most) new 0
    (λ i l. (let before = All-get_or (λ x. x ≤ n * most) old i 0 (omega (arith, l, long)) limit in
    omega (arith, before, passed i, taken_few i way, few)))

-- what is written back where all of a list was borrowed
pub all_written : (n : ℕ) (new items : List ℕ) → n ≡ length items → length new ≡ length items → take n (new ++ drop (length new) items) ≡ new
all_written n new items is long =
    ap (λ k. take k (new ++ drop (length new) items)) {x = n} {y = length new} (omega (arith, is, long))
    ∙ take-append-le (length new) new (drop (length new) items) (omega arith) ∙ take_all (length new) new (omega arith)

-- whether all ways so far, and one more, are by candidates
pub both_known : (A : Type 0) (before here : Bool) → (IsTrue here ↔ A) → IsTrue (before && here) ↔ (IsTrue before × A)
both_known A true here is = (λ both. (refl, is.0 both), λ both. is.1 both.1)
both_known A false here is = (λ both. absurd (false≢true both), λ both. absurd (false≢true both.0))
