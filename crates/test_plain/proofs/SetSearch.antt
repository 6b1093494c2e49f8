-- The step of a search through all sets of candidates.
use Rattle.std.proofs.Common.{◌≡◌, ℕ, ◌+◌, ◌<◌, true, false, List, [], ◌∷◌, ◌++◌, length, get_or, subst, sym, ap, ◌∙◌}
use Rattle.std.proofs.lemmas.List.{append-nil}
use Rattle.hub_spec.specs.Problem.{Problem, IsProblem}
use Rattle.test_plain.specs.AllSets.{AreFirstHubs}
use Rattle.test_plain.proofs.AllSets.{first_hubs_next}

pub opened_first : (p : Problem) (at : ℕ) (inside opened : List ℕ) (k : ℕ) → IsProblem p → at < length p.candidates
    → AreFirstHubs p.candidates at inside → k ≡ get_or p.candidates at 0 → opened ≡ inside ++ k ∷ []
    → AreFirstHubs p.candidates (at + 1) opened
opened_first p at inside opened k ok within first is more =
    subst (AreFirstHubs p.candidates (at + 1)) (ap (λ m. inside ++ m ∷ []) (sym is) ∙ sym more)
    (first_hubs_next p.candidates at inside true ok.candidates_ascend within first)

pub closed_first : (p : Problem) (at : ℕ) (inside : List ℕ) → IsProblem p → at < length p.candidates
    → AreFirstHubs p.candidates at inside → AreFirstHubs p.candidates (at + 1) inside
closed_first p at inside ok within first =
    subst (AreFirstHubs p.candidates (at + 1)) (append-nil inside)
    (first_hubs_next p.candidates at inside false ok.candidates_ascend within first)
