-- What is found for some commodities.
use Rattle.std.proofs.Common.{◌≡◌, ℕ, Option, None, Some, option_map, List, [], ◌∷◌, All, Contains, refl, sym, ap₂, subst}
use Rattle.std.specs.List.{AllZip}
use Rattle.std.specs.Option.{option_and_then}
use Rattle.std.proofs.lemmas.List.Elements.{All-head, All-tail, All-cons, All-nil}
use Rattle.std.proofs.lemmas.Option.{none-some, same_Some}
use Rattle.hub_spec.specs.Problem.{Problem}
use Rattle.hub_spec.proofs.Decisions.{Contains-head, Contains-tail}
use Rattle.core_cuts.specs.Finding.{core_found, core_founds}
use Rattle.core_cuts.specs.Readings.{FoundDual, IsFound, IsNotFound}
use Rattle.core_cuts.specs.Theorems.{IsAsked}
use Rattle.core_cuts.proofs.FoundFunctions.{found_function}
use Rattle.core_cuts.proofs.OneReading.{found_one}

-- with the rest
and_rest : (p : Problem) (hubs : List ℕ) (c : ℕ × ℕ) (found : FoundDual) (cs : List (ℕ × ℕ)) (founds : List FoundDual) (rest : Option (List FoundDual))
    → IsFound p hubs c found → ((fs : List FoundDual) → rest ≡ Some fs → AllZip (IsFound p hubs) cs fs)
    → option_map (λ fs. found ∷ fs) rest ≡ Some founds → AllZip (IsFound p hubs) (c ∷ cs) founds
and_rest p hubs c found cs founds None is each given = absurd (none-some founds given)
and_rest p hubs c found cs founds (Some fs) is each given =
    subst (AllZip (IsFound p hubs) (c ∷ cs)) (same_Some (found ∷ fs) founds given) (is, each fs refl)

founds_by : (p : Problem) (hubs : List ℕ) (c : ℕ × ℕ) (cs : List (ℕ × ℕ)) (founds : List FoundDual) (o : Option FoundDual) → IsAsked p hubs c → core_found p hubs c ≡ o
    → ((fs : List FoundDual) → core_founds p hubs cs ≡ Some fs → AllZip (IsFound p hubs) cs fs)
    → option_and_then (λ found. option_map (λ fs. found ∷ fs) (core_founds p hubs cs)) o ≡ Some founds → AllZip (IsFound p hubs) (c ∷ cs) founds
founds_by p hubs c cs founds None asked at each given = absurd (none-some founds given)
founds_by p hubs c cs founds (Some found) asked at each given =
    and_rest p hubs c found cs founds (core_founds p hubs cs) (((found_function p hubs c asked).0 found).1 at) each given

pub founds_are : (p : Problem) (hubs : List ℕ) (cs : List (ℕ × ℕ)) (founds : List FoundDual) → All (IsAsked p hubs) cs → core_founds p hubs cs ≡ Some founds
    → AllZip (IsFound p hubs) cs founds
founds_are p hubs [] founds asked given = subst (AllZip (IsFound p hubs) []) (same_Some [] founds given) tt
founds_are p hubs (c ∷ cs) founds asked given =
    founds_by p hubs c cs founds (core_found p hubs c) (All-head (IsAsked p hubs) c cs asked) refl
    (λ fs. founds_are p hubs cs fs (All-tail (IsAsked p hubs) c cs asked)) given

-- a commodity for which nothing is found
abbrev pub IsLacking : Problem → List ℕ → List (ℕ × ℕ) → Type 0
IsLacking p hubs cs = (c : ℕ × ℕ) × Contains cs c × IsNotFound p hubs c

lacking_rest : (p : Problem) (hubs : List ℕ) (c : ℕ × ℕ) (found : FoundDual) (cs : List (ℕ × ℕ)) (rest : Option (List FoundDual))
    → (rest ≡ None → IsLacking p hubs cs) → option_map (λ fs. found ∷ fs) rest ≡ None → IsLacking p hubs (c ∷ cs)
lacking_rest p hubs c found cs None none given =
    let lack = none refl in (lack.0, Contains-tail c cs lack.0 lack.1, lack.2)
lacking_rest p hubs c found cs (Some fs) none given = absurd (none-some (found ∷ fs) (sym given))

lacking_by : (p : Problem) (hubs : List ℕ) (c : ℕ × ℕ) (cs : List (ℕ × ℕ)) (o : Option FoundDual) → IsAsked p hubs c → core_found p hubs c ≡ o
    → (core_founds p hubs cs ≡ None → IsLacking p hubs cs)
    → option_and_then (λ found. option_map (λ fs. found ∷ fs) (core_founds p hubs cs)) o ≡ None → IsLacking p hubs (c ∷ cs)
lacking_by p hubs c cs None asked at none given = (c, Contains-head c cs, (found_function p hubs c asked).1.1 at)
lacking_by p hubs c cs (Some found) asked at none given = lacking_rest p hubs c found cs (core_founds p hubs cs) none given

pub one_lacks : (p : Problem) (hubs : List ℕ) (cs : List (ℕ × ℕ)) → All (IsAsked p hubs) cs → core_founds p hubs cs ≡ None → IsLacking p hubs cs
one_lacks p hubs [] asked given = absurd (none-some [] (sym given))
one_lacks p hubs (c ∷ cs) asked given =
    lacking_by p hubs c cs (core_found p hubs c) (All-head (IsAsked p hubs) c cs asked) refl (one_lacks p hubs cs (All-tail (IsAsked p hubs) c cs asked)) given

-- ---- no other is found for them, and none of them lacks one

pub same_founds : (p : Problem) (hubs : List ℕ) (cs : List (ℕ × ℕ)) (fs gs : List FoundDual) → All (IsAsked p hubs) cs
    → AllZip (IsFound p hubs) cs fs → AllZip (IsFound p hubs) cs gs → fs ≡ gs
same_founds p hubs [] [] [] asked one other = refl
same_founds p hubs [] [] (g ∷ gs) asked one other = absurd other
same_founds p hubs [] (f ∷ fs) gs asked one other = absurd one
same_founds p hubs (c ∷ cs) [] gs asked one other = absurd one
same_founds p hubs (c ∷ cs) (f ∷ fs) [] asked one other = absurd other
same_founds p hubs (c ∷ cs) (f ∷ fs) (g ∷ gs) asked one other =
    ap₂ (λ (x : FoundDual) (xs : List FoundDual). x ∷ xs) (found_one p hubs c f g (All-head (IsAsked p hubs) c cs asked) one.0 other.0)
    (same_founds p hubs cs fs gs (All-tail (IsAsked p hubs) c cs asked) one.1 other.1)

pub found_in : (p : Problem) (hubs : List ℕ) (cs : List (ℕ × ℕ)) (fs : List FoundDual) → AllZip (IsFound p hubs) cs fs
    → All (λ c. (f : FoundDual) × IsFound p hubs c f) cs
found_in p hubs [] fs each = All-nil (λ c. (f : FoundDual) × IsFound p hubs c f)
found_in p hubs (c ∷ cs) [] each = absurd each
found_in p hubs (c ∷ cs) (f ∷ fs) each = All-cons (λ c. (f : FoundDual) × IsFound p hubs c f) c cs (f, each.0) (found_in p hubs cs fs each.1)
