-- The marks of a finding's cuts that a version says.
use Rattle.std.proofs.Common.{◌≡◌, ◌≢◌, ℕ, List, [], ◌∷◌, length, map, replicate, nat_eq, Option, Some, None, IfSome, refl, ap₂, ne_eqb}
use Rattle.std.specs.List.{All, AllZip}
use Rattle.std.proofs.lemmas.Bool.{cond_both, cond-false}
use Rattle.std.proofs.lemmas.Option.{IfSome_then}
use Rattle.std.proofs.lemmas.List.Elements.{All-nil, All-cons, All-head, All-tail, All-map, All-weaker}
use Rattle.hub_spec.specs.Problem.{Problem}
use Rattle.core_spec.specs.CoreCuts.{Mark}
use Rattle.core_spec.specs.MarkRanges.{IsMarkInRange}
use Rattle.cert_spec.specs.Stated.{IsAsMarked}
use Rattle.cert_format.specs.Parts.{HasProofs}
use Rattle.cut_pool.specs.Kept.{Kept, kept_cut, kept_cuts, kept_mark, IsKeptFor}
use Rattle.cut_pool.specs.Theorems.{IsMarkedBy}
use Rattle.cut_pool.proofs.KeptCutLaws.{kept_mark_is}
use Rattle.proof_text.specs.Certificates.{mark_said}

-- what holds of the mark that a cut has, and of none, holds of the one that is said
said : (v : ℕ) (kept : Kept) (P : Option Mark → Type 0) → P (kept_mark kept) → P None → P (mark_said v kept)
said v kept P has none = cond_both (nat_eq v 3) (kept_mark kept) None P (λ third. has) (λ other. none)

-- ---- the mark of one cut

marked_by : (p : Problem) (v : ℕ) (kept : Kept) → IsKeptFor p kept → IfSome (mark_said v kept) (IsMarkedBy p kept)
marked_by p v kept fits = said v kept (λ mark. IfSome mark (IsMarkedBy p kept)) (kept_mark_is p kept fits) tt

said_in_range : (p : Problem) (v : ℕ) (kept : Kept) → IsKeptFor p kept → IfSome (mark_said v kept) (IsMarkInRange p.size)
said_in_range p v kept fits = IfSome_then (mark_said v kept) (marked_by p v kept fits) (λ mark h. h.in_range)

-- it has a proof for each commodity
pub said_has_proofs : (p : Problem) (v : ℕ) (kept : Kept) → IsKeptFor p kept → HasProofs p.size (mark_said v kept)
said_has_proofs p v kept fits = IfSome_then (mark_said v kept) (said_in_range p v kept fits) (λ mark h. h.one_for_each)

as_marked : (p : Problem) (kept : Kept) (mark : Option Mark) → IfSome mark (IsMarkedBy p kept) → IsAsMarked p (kept_cut p kept) mark
as_marked p kept None h = tt
as_marked p kept (Some mark) h = h.core

-- ---- those of all cuts

pub all_in_range : (p : Problem) (v : ℕ) (kept : List Kept) → All (IsKeptFor p) kept
    → All (λ mark. IfSome mark (IsMarkInRange p.size)) (map (mark_said v) kept)
all_in_range p v kept fit =
    let InRange : Option Mark → Type 0 = λ mark. IfSome mark (IsMarkInRange p.size) in
    All-map InRange (mark_said v) kept (All-weaker (IsKeptFor p) (λ k. InRange (mark_said v k)) (said_in_range p v) kept fit)

pub all_as_marked : (p : Problem) (v : ℕ) (kept : List Kept) → All (IsKeptFor p) kept
    → AllZip (IsAsMarked p) (kept_cuts p kept) (map (mark_said v) kept)
all_as_marked p v [] fit = tt
all_as_marked p v (k ∷ kept) fit = (
  as_marked p k (mark_said v k) (marked_by p v k (All-head (IsKeptFor p) k kept fit)),
  all_as_marked p v kept (All-tail (IsKeptFor p) k kept fit),
)

-- ---- where none is said

-- the version is not the third
pub other_says_none : (v : ℕ) (kept : List Kept) → v ≢ 3 → All (λ k. mark_said v k ≡ None) kept
other_says_none v [] other = All-nil (λ k. mark_said v k ≡ None)
other_says_none v (k ∷ kept) other =
    All-cons (λ k. mark_said v k ≡ None) k kept (cond-false (nat_eq v 3) (kept_mark k) None (ne_eqb v 3 other)) (other_says_none v kept other)

-- no cut has a mark
pub none_says_none : (v : ℕ) (kept : List Kept) → All (λ k. kept_mark k ≡ None) kept → All (λ k. mark_said v k ≡ None) kept
none_says_none v kept none =
    All-weaker (λ k. kept_mark k ≡ None) (λ k. mark_said v k ≡ None) (λ k has. said v k (λ mark. mark ≡ None) has refl) kept none

pub none_said : (p : Problem) (v : ℕ) (kept : List Kept) → All (λ k. mark_said v k ≡ None) kept
    → map (mark_said v) kept ≡ replicate (length (kept_cuts p kept)) None
none_said p v [] none = refl
none_said p v (k ∷ kept) none =
    ap₂ (λ (m : Option Mark) (ms : List (Option Mark)). m ∷ ms) (All-head (λ k. mark_said v k ≡ None) k kept none)
    (none_said p v kept (All-tail (λ k. mark_said v k ≡ None) k kept none))
