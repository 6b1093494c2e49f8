-- Duals that are found ahead: none at first; one is taken, and one is put at the place of its commodity.
use Rattle.std.proofs.Common.{◌≡◌, ℕ, ◌+◌, ◌*◌, ◌<◌, Option, None, IfSome, List, length, get_or, set, inl, inr, sym, ◌∙◌, subst, arith}
use Rattle.std.proofs.lemmas.Bool.{cases_eq}
use Rattle.std.proofs.lemmas.List.{length-set, get_or-set_same, get_or-set_other}
use Rattle.hub_spec.specs.Problem.{Problem, commodities}
use Rattle.hub_spec.proofs.Commodities.{commodity_index, commodity_at_index}
use Rattle.core_cuts.specs.Ahead.{AreAhead}
use Rattle.core_cuts.specs.Readings.{FoundDual, IsFound}

-- what stands at the place is found for its commodity
abbrev IsFor : Problem → List ℕ → ℕ → Option FoundDual → Type 0
IsFor p hubs t o = IfSome o (IsFound p hubs (get_or (commodities p.size) t (0, 0)))

pub one_ahead : (p : Problem) (hubs : List ℕ) (i j : ℕ) (ahead : List (Option FoundDual)) → i < p.size → j < p.size → AreAhead p hubs ahead
    → IfSome (get_or ahead (i * p.size + j) None) (IsFound p hubs (i, j))
one_ahead p hubs i j ahead from to are =
    subst (λ (c : ℕ × ℕ). IfSome (get_or ahead (i * p.size + j) None) (IsFound p hubs c)) (commodity_at_index p.size i j (0, 0) from to)
    (are.found (i * p.size + j) (commodity_index p.size i j from to))

-- with another dual put at a place of which it is the commodity's
put_at : (p : Problem) (hubs : List ℕ) (place t : ℕ) (ahead : List (Option FoundDual)) (o : Option FoundDual) → place < length ahead
    → IsFor p hubs place o → IsFor p hubs t (get_or ahead t None) → IsFor p hubs t (get_or (set ahead place o) t None)
put_at p hubs place t ahead o inside here before = elim (cases_eq t place) [
  | inl same ↦ rw same (subst (IsFor p hubs place) (sym (get_or-set_same ahead place o None inside)) here)
  | inr other ↦ subst (IsFor p hubs t) (sym (get_or-set_other ahead place t o None other)) before
]

pub put_ahead : (p : Problem) (hubs : List ℕ) (i j : ℕ) (ahead : List (Option FoundDual)) (o : Option FoundDual) → i < p.size → j < p.size
    → AreAhead p hubs ahead → IfSome o (IsFound p hubs (i, j)) → AreAhead p hubs (set ahead (i * p.size + j) o)
put_ahead p hubs i j ahead o from to are is =
    let place = i * p.size + j in
    let inside : place < length ahead = omega (arith, are.places, commodity_index p.size i j from to) in
    let here : IsFor p hubs place o = subst (λ (c : ℕ × ℕ). IfSome o (IsFound p hubs c)) (sym (commodity_at_index p.size i j (0, 0) from to)) is in
    record {
      places = length-set ahead place o ∙ are.places;
      found = λ t within. put_at p hubs place t ahead o inside here (are.found t within);
    }
