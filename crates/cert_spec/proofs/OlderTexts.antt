-- What is said of the bytes of an older certificate is exactly one.
use Rattle.std.proofs.Common.{sym, ◌∙◌, ◌≡◌, ℕ, List, length, inl, inr, refl, subst, ap, arith}
use Rattle.std.proofs.lemmas.Bool.{cases_lt}
use Rattle.hub_spec.specs.Problem.{Problem, IsProblem, IsSameNetwork}
use Rattle.hub_spec.specs.Certificates.{HasCutsOf}
use Rattle.hub_spec.proofs.SameNetworks.{cuts_stay, one_closed_cost}
use Rattle.cert_spec.specs.Stated.{Stated, IsStatedInRange}
use Rattle.cert_spec.specs.Text.{Spells}
use Rattle.cert_spec.specs.Conditions.{Kind, FailsFirst, older_conditions}
use Rattle.cert_spec.specs.Verdicts.{certificate_limit, Certifies, optimal, Why, Older, serves, serves_not, unread, over_limit, IsOlder}
use Rattle.cert_spec.specs.Theorems.{OneCertificate, EachIsTextOrFault}
use Rattle.cert_spec.proofs.ByLines.{has_cuts_by_lines}
use Rattle.cert_spec.proofs.Decided.{older_decided, first_failure, failure_or_all, one_failure}

not_failing : (p : Problem) (k : Stated) (kind : Kind) (line : ℕ) → IsStatedInRange k → HasCutsOf p k.proof → FailsFirst (older_conditions p k) kind line → ⊥
not_failing p k kind line r has f = failure_or_all (older_conditions p k) kind line ((has_cuts_by_lines p k r).1 has) f

has_or_fails : OneCertificate → (p : Problem) (bytes : List ℕ) (k m : Stated) (kind : Kind) (line : ℕ) → Spells bytes k → Spells bytes m
    → HasCutsOf p k.proof → FailsFirst (older_conditions p m) kind line → ⊥
has_or_fails one p bytes k m kind line spells other has f =
    not_failing p m kind line other.in_range (subst (λ (x : Stated). HasCutsOf p x.proof) (one bytes k m spells other) has) f

same_older : OneCertificate → EachIsTextOrFault → (p : Problem) (bytes : List ℕ) (v w : Older) → IsOlder p bytes v → IsOlder p bytes w → v ≡ w
same_older one text p bytes (serves k) (serves m) h g = ap serves (one bytes k m h.1 g.1)
same_older one text p bytes (serves k) (serves_not kind line) h g = absurd (has_or_fails one p bytes k g.1.0 kind line h.1 g.1.1 h.2 g.1.2)
same_older one text p bytes (serves k) (unread fault) h g = absurd ((text bytes).not_both k fault h.1 g.1)
same_older one text p bytes (serves k) over_limit h g = (let short = h.0 in absurd (omega arith))
same_older one text p bytes (serves_not kind line) (serves k) h g = absurd (has_or_fails one p bytes k h.1.0 kind line g.1 h.1.1 g.2 h.1.2)
same_older one text p bytes (serves_not kind line) (serves_not other place) h g =
    let moved = subst (λ (x : Stated). FailsFirst (older_conditions p x) kind line) (one bytes h.1.0 g.1.0 h.1.1 g.1.1) h.1.2 in
    let same = one_failure (older_conditions p g.1.0) kind other line place moved g.1.2 in
    let e : kind ≡ other = same.0 in
    let f : line ≡ place = same.1 in
    cc
same_older one text p bytes (serves_not kind line) (unread fault) h g = absurd ((text bytes).not_both h.1.0 fault h.1.1 g.1)
same_older one text p bytes (serves_not kind line) over_limit h g = (let short = h.0 in absurd (omega arith))
same_older one text p bytes (unread fault) (serves k) h g = absurd ((text bytes).not_both k fault g.1 h.1)
same_older one text p bytes (unread fault) (serves_not kind line) h g = absurd ((text bytes).not_both g.1.0 fault g.1.1 h.1)
same_older one text p bytes (unread fault) (unread other) h g = ap unread ((text bytes).one_fault fault other h.1 g.1)
same_older one text p bytes (unread fault) over_limit h g = (let short = h.0 in absurd (omega arith))
same_older one text p bytes over_limit (serves k) h g = (let short = g.0 in absurd (omega arith))
same_older one text p bytes over_limit (serves_not kind line) h g = (let short = g.0 in absurd (omega arith))
same_older one text p bytes over_limit (unread fault) h g = (let short = g.0 in absurd (omega arith))
same_older one text p bytes over_limit over_limit h g = refl

some_older : EachIsTextOrFault → (p : Problem) (bytes : List ℕ) → (older : Older) × IsOlder p bytes older
some_older text p bytes = elim (cases_lt certificate_limit (length bytes)) [
  | inl long ↦ (over_limit, long)
  | inr short ↦ elim (text bytes).one_of [
    | inl spelled ↦ elim (first_failure (older_conditions p spelled.0) (older_decided p spelled.0)) [
      | inl all ↦ (serves spelled.0, (short, spelled.1, (has_cuts_by_lines p spelled.0 spelled.1.in_range).0 all))
      | inr some ↦ (serves_not some.0 some.1, (short, (spelled.0, spelled.1, some.2)))
    ]
    | inr fault ↦ (unread fault.0, (short, fault.1))
  ]
]

pub one_older_from : OneCertificate → EachIsTextOrFault → (p : Problem) (bytes : List ℕ)
    → (older : Older) × IsOlder p bytes older × ((other : Older) → IsOlder p bytes other → other ≡ older)
one_older_from one text p bytes =
    let some = some_older text p bytes in (some.0, some.1, λ other is. same_older one text p bytes other some.0 is some.1)

pub certified_serves_lem : (p q : Problem) (bytes : List ℕ) (bound cost : ℕ) → IsSameNetwork p q → Certifies p bytes bound cost
    → (k : Stated) × IsOlder q bytes (serves k)
certified_serves_lem p q bytes bound cost same is =
    let k = is.certificate.0 in
    (k, (is.not_too_long, is.certificate.1, cuts_stay p q k.proof same is.certificate.2.holds))

pub one_optimal_cost : (p : Problem) (bytes other : List ℕ) (cost too : ℕ) → IsProblem p → Why p bytes (optimal cost) → Why p other (optimal too)
    → cost ≡ too
one_optimal_cost p bytes other cost too ok why why_too =
    let k = why.certificate in
    let m = why_too.certificate in
    sym k.4 ∙ one_closed_cost p k.0.proof m.0.proof ok k.2.holds m.2.holds (k.3 ∙ sym k.4) (m.3 ∙ sym m.4) ∙ m.4
