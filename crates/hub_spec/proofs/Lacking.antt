-- What the test for a route says, and the first commodity that hubs lack.
use Rattle.std.proofs.Common.{◌≡◌, ℕ, Bool, true, false, List, [], ◌∷◌, Contains, All, Some, None, ⊎_elim, refl, ap, sym, subst, ◌∙◌, true≢false}
use Rattle.std.specs.List.{list_any}
use Rattle.std.proofs.lemmas.Option.{same_Some, none-some}
use Rattle.std.proofs.lemmas.List.Elements.{All-nil, All-cons, All-head, All-tail}
use Rattle.hub_spec.specs.Problem.{Problem, is_allowed, commodities}
use Rattle.hub_spec.specs.Plans.{IsRoute, HasRoute}
use Rattle.hub_spec.specs.Lacking.{serves, first_lacked, lacking}
use Rattle.hub_spec.specs.Theorems.{TellsLacked}
use Rattle.hub_spec.proofs.SumLemmas.{by_test, Contains-cons_cases, nil_contains_none}
use Rattle.hub_spec.proofs.Sets.{Contains-head, Contains-later}

any_there : {X : Type 0} (test : X → Bool) (xs : List X) → list_any test xs ≡ true → (x : X) × Contains xs x × (test x ≡ true)
any_there test [] e = absurd (true≢false (sym e))
any_there test (x ∷ xs) e =
    by_test (test x) (λ here. (x, Contains-head x xs, here))
    (λ not_here. (let rest = any_there test xs (rw not_here at e) in (rest.0, Contains-later x xs rest.0 rest.1, rest.2)))

any_when : {X : Type 0} (test : X → Bool) (xs : List X) (y : X) → Contains xs y → test y ≡ true → list_any test xs ≡ true
any_when test [] y c passes = nil_contains_none y c
any_when test (x ∷ xs) y c passes =
    ⊎_elim (λ here. let e : test x ≡ true = ap test here ∙ passes in rw e refl)
    (λ later. by_test (test x) (λ e. rw e refl) (λ e. rw e (any_when test xs y later passes))) (Contains-cons_cases x xs y c)

pub serves_when : (p : Problem) (hubs : List ℕ) (c : ℕ × ℕ) → serves p hubs c ≡ true → HasRoute p hubs c
serves_when p hubs c e =
    let first = any_there (λ k. list_any (is_allowed p c k) hubs) hubs e in
    let last = any_there (is_allowed p c first.0) hubs first.2 in
    ((first.0, last.0), record { first = first.1; last = last.1; allowed = last.2 })

pub when_serves : (p : Problem) (hubs : List ℕ) (c route : ℕ × ℕ) → IsRoute p hubs c route → serves p hubs c ≡ true
when_serves p hubs c route is =
    any_when (λ k. list_any (is_allowed p c k) hubs) hubs route.0 is.first (any_when (is_allowed p c route.0) hubs route.1 is.last is.allowed)

pub no_route_when : (p : Problem) (hubs : List ℕ) (c : ℕ × ℕ) → serves p hubs c ≡ false → HasRoute p hubs c → ⊥
no_route_when p hubs c e has = true≢false (sym (when_serves p hubs c has.0 has.1) ∙ e)

pub none_lacked : (p : Problem) (hubs : List ℕ) (cs : List (ℕ × ℕ)) → first_lacked p hubs cs ≡ None → All (HasRoute p hubs) cs
none_lacked p hubs [] e = All-nil (HasRoute p hubs)
none_lacked p hubs (c ∷ cs) e =
    by_test (serves p hubs c) (λ yes. All-cons (HasRoute p hubs) c cs (serves_when p hubs c yes) (none_lacked p hubs cs (rw yes at e)))
    (λ no. absurd (none-some c (sym (rw no at e))))

pub lacked_none : (p : Problem) (hubs : List ℕ) (cs : List (ℕ × ℕ)) → All (HasRoute p hubs) cs → first_lacked p hubs cs ≡ None
lacked_none p hubs [] h = refl
lacked_none p hubs (c ∷ cs) h =
    let here = All-head (HasRoute p hubs) c cs h in
    rw (when_serves p hubs c here.0 here.1) (lacked_none p hubs cs (All-tail (HasRoute p hubs) c cs h))

pub lacked_is : (p : Problem) (hubs : List ℕ) (cs : List (ℕ × ℕ)) (c : ℕ × ℕ) → first_lacked p hubs cs ≡ Some c
    → Contains cs c × (serves p hubs c ≡ false)
lacked_is p hubs [] c e = absurd (none-some c e)
lacked_is p hubs (d ∷ cs) c e =
    by_test (serves p hubs d)
    (λ yes. (let rest = lacked_is p hubs cs c (rw yes at e) in (Contains-later d cs c rest.0, rest.1)))
    (λ no. (let same = same_Some d c (rw no at e) in
    (subst (Contains (d ∷ cs)) same (Contains-head d cs), subst (λ (x : ℕ × ℕ). serves p hubs x ≡ false) same no)))

pub tells : (p : Problem) (hubs : List ℕ) → TellsLacked p hubs
unfolding lacking
tells p hubs = record {
  none = (none_lacked p hubs (commodities p.size), lacked_none p hubs (commodities p.size));
  lacked = λ c e. (let is = lacked_is p hubs (commodities p.size) c e in (is.0, no_route_when p hubs c is.1));
}
