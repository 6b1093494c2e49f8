-- No cut that is tight at the hubs of its mark dominates a marked cut of bytes that certify.
use Rattle.std.proofs.Common.{ℕ, List, [], ◌∷◌, zip, Some, Contains, subst, inl, inr}
use Rattle.std.specs.List.{AllZip}
use Rattle.hub_spec.specs.Problem.{Problem, IsProblem}
use Rattle.hub_spec.specs.Cuts.{Cut, IsCut, IsTight}
use Rattle.hub_spec.proofs.Decisions.{Contains-cases, Contains-none}
use Rattle.core_spec.specs.CoreCuts.{Mark}
use Rattle.core_spec.specs.Domination.{Dominates}
use Rattle.core_spec.specs.Theorems.{CoreIsUndominated}
use Rattle.cert_spec.specs.Stated.{Stated, cuts_of, IsAsMarked}
use Rattle.cert_spec.specs.Text.{Spells}
use Rattle.cert_spec.specs.Verdicts.{Certifies}
use Rattle.cert_spec.specs.Theorems.{OneCertificate}

-- what holds place by place holds of each pair
zipped_holds : {A B : Type 0} (R : A → B → Type 0) (xs : List A) (ys : List B) (x : A) (y : B) → AllZip R xs ys → Contains (zip xs ys) (x, y) → R x y
zipped_holds R [] ys x y all in_both = absurd (Contains-none (x, y) in_both)
zipped_holds R (a ∷ xs) [] x y all in_both = absurd all
zipped_holds {A} {B} R (a ∷ xs) (b ∷ ys) x y all in_both = elim (Contains-cases (a, b) (zip xs ys) (x, y) in_both) [
  | inl same ↦ subst (λ (t : A × B). R t.0 t.1) same all.0
  | inr later ↦ zipped_holds R xs ys x y all.1 later
]

pub undominated_from : OneCertificate → CoreIsUndominated → (p : Problem) (bytes : List ℕ) (bound cost : ℕ) (k : Stated) (x y : Cut) (mark : Mark) → IsProblem p
    → Certifies p bytes bound cost → Spells bytes k → Contains (cuts_of k) (x, Some mark)
    → IsCut p y → IsTight p mark.hubs y → Dominates p y x → ⊥
undominated_from one core p bytes bound cost k x y mark ok certifies spells marked cut tight =
    let m = certifies.certificate.0 in
    let same = one bytes k m spells certifies.certificate.1 in
    let in_both = subst (λ (s : Stated). Contains (cuts_of s) (x, Some mark)) same marked in
    core p x y mark ok (zipped_holds (IsAsMarked p) m.proof.cuts m.marks x (Some mark) certifies.certificate.2.marks in_both) cut tight
