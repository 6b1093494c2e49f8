-- The fixings that are still to be made.
use Rattle.std.proofs.Common.{◌≡◌, ◌≢◌, ℕ, ◌-◌, ◌<◌, ◌≤◌, List, [], ◌∷◌, length, get_or, take, drop, All, Contains, refl, ap, sym, arith}
use Rattle.std.specs.List.Sorted.{IsStrictlyIncreasing}
use Rattle.std.proofs.lemmas.List.{take_all}
use Rattle.std.proofs.lemmas.List.Elements.{All-head, All-tail}
use Rattle.hub_spec.specs.Problem.{Problem}
use Rattle.hub_spec.specs.Cuts.{Cut}
use Rattle.hub_spec.specs.Trees.{Branching}
use Rattle.hub_spec.proofs.Ascending.{without_keeps}
use Rattle.leaf_bound.specs.declared.sides.Side as code
use Rattle.leaf_bound.specs.declared.sides.Side.TheVariants.{In}
use Rattle.search_spec.specs.States.{State}
use Rattle.search_spec.specs.Steps.{Side, stays_open, stays_closed, child_on, fixings}
use Rattle.search_spec.proofs.Fixings.{AreFixings, fixings_are}
use Rattle.search_steps.specs.Weights.{side_as, sides_as}
use Rattle.search_steps.specs.FixingsLeft.{AreOnFree}

-- the first of the code's fixings, and the others
abbrev pub first_of : List (ℕ × code.Side) → ℕ × code.Side
first_of fixings = get_or fixings 0 (0, In)

abbrev pub others_of : List (ℕ × code.Side) → List (ℕ × code.Side)
others_of fixings = take (length fixings - 1) (drop 1 fixings)

pub sides_split : (fixings : List (ℕ × code.Side)) → 1 ≤ length fixings
    → sides_as fixings ≡ ((first_of fixings).0, side_as (first_of fixings).1) ∷ sides_as (others_of fixings)
sides_split [] some = absurd (omega arith)
sides_split (f ∷ rest) some =
    ap (λ (fs : List (ℕ × code.Side)). (f.0, side_as f.1) ∷ sides_as fs) (sym (take_all (length (f ∷ rest) - 1) rest (omega arith)))

pub none_left : (fixings : List (ℕ × code.Side)) → length fixings < 1 → sides_as fixings ≡ []
none_left [] none = refl
none_left (f ∷ rest) none = absurd (omega arith)

on_free_from : (p : Problem) (cuts : List Cut) (cost : ℕ) (w : List (ℕ × ℕ)) (b : Branching) (fs : List (ℕ × Side)) → AreFixings p cuts cost w b fs
    → AreOnFree b fs
on_free_from p cuts cost w b [] are = tt
on_free_from p cuts cost w b (f ∷ rest) are = (are.0, are.2, on_free_from p cuts cost w b rest are.3)

pub fixings_on_free : (p : Problem) (s : State) (b : Branching) (w : List (ℕ × ℕ)) → IsStrictlyIncreasing b.free → AreOnFree b (fixings p s b w)
fixings_on_free p s b w up = on_free_from p s.cuts s.cost w b (fixings p s b w) (fixings_are p s b w up)

still_free : (side : Side) (b : Branching) (k m : ℕ) → k ≢ m → Contains b.free m → Contains (child_on side b k).free m
still_free stays_open b k m apart free = without_keeps k b.free m free apart
still_free stays_closed b k m apart free = without_keeps k b.free m free apart

-- the later ones are on free nodes of the child
pub on_free_in_child : (side : Side) (b : Branching) (k : ℕ) (rest : List (ℕ × Side)) → All (λ (g : ℕ × Side). k ≢ g.0) rest → AreOnFree b rest
    → AreOnFree (child_on side b k) rest
on_free_in_child side b k [] apart are = tt
on_free_in_child side b k (g ∷ rest) apart are = (
  still_free side b k g.0 (All-head (λ (h : ℕ × Side). k ≢ h.0) g rest apart) are.0,
  are.1,
  on_free_in_child side b k rest (All-tail (λ (h : ℕ × Side). k ≢ h.0) g rest apart) are.2,
)
