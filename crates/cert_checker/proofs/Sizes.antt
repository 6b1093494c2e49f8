-- Bytes that serve by their size, and what else is said of them.
use Rattle.std.proofs.Common.{◌≡◌, ℕ, List, [], ◌∷◌, ⊎_elim, subst, arith}
use Rattle.hub_spec.specs.Problem.{Problem}
use Rattle.cert_spec.specs.Stated.{Stated}
use Rattle.cert_spec.specs.Conditions.{Kind, FailsFirst}
use Rattle.cert_spec.proofs.OneText.{one_certificate_lem}
use Rattle.cert_spec.proofs.TextOrFault.{each_is_text_or_fault_lem}
use Rattle.cert_spec.specs.Verdicts.{Older, serves, serves_not, unread, over_limit}
use Rattle.cert_checker.specs.Answers.{IsOfSize}
use Rattle.cert_checker.specs.Readings.{size_claim, IsSized}

-- it serves
abbrev pub IsServing : Older → Type 0
IsServing (serves k) = Unit {0}
IsServing (serves_not kind line) = ⊥
IsServing (unread fault) = ⊥
IsServing over_limit = ⊥

of_size_or_not : (p : Problem) (k m : Stated) (kind : Kind) (line : ℕ) → k ≡ m → IsOfSize p k.proof → FailsFirst (size_claim p m ∷ []) kind line → ⊥
of_size_or_not p k m kind line same has fails =
    ⊎_elim (λ no. no.0 (subst (λ (s : Stated). IsOfSize p s.proof) same has)) (λ more. more.1) fails

-- where bytes serve nothing else is said of them
pub still_serving : (p : Problem) (bytes : List ℕ) (k : Stated) (said : Older) → IsSized p bytes (serves k) → IsSized p bytes said → IsServing said
still_serving p bytes k (serves m) h g = tt
still_serving p bytes k (serves_not kind line) h g =
    of_size_or_not p k g.1.0 kind line (one_certificate_lem bytes k g.1.0 h.1 g.1.1) h.2 g.1.2
still_serving p bytes k (unread fault) h g = (each_is_text_or_fault_lem bytes).not_both k fault h.1 g.1
still_serving p bytes k over_limit h g = (let short = h.0 in absurd (omega (arith, short, g)))
