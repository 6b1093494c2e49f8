-- The sides that bounds give are those of the search's definition.
use Rattle.std.proofs.Common.{◌≡◌, ℕ, List, [], ◌∷◌, Contains, Option, Some, None, Bool, true, false, cond, refl, ap, ap₂, ◌∙◌}
use Rattle.std.specs.Prelude.{filter_map}
use Rattle.std.specs.Option.{option_map}
use Rattle.std.specs.List.{cons_option}
use Rattle.hub_spec.specs.Problem.{Problem}
use Rattle.hub_spec.specs.Trees.{Branching, IsBranch, open_child, closed_child}
use Rattle.hub_spec.proofs.ChildLists.{open_branch, closed_branch}
use Rattle.hub_spec.proofs.Sets.{Contains-head, Contains-later}
use Rattle.search_spec.specs.States.{State}
use Rattle.search_spec.specs.Steps as steps
use Rattle.search_spec.specs.Steps.{closes_at, fixed_side, fixing, fixings}
use Rattle.leaf_bound.specs.declared.sides.Side.{Side}
use Rattle.leaf_bound.specs.declared.sides.Side.TheVariants.{In, Out}
use Rattle.search_steps.specs.Weights.{side_as, sides_as}

-- the node with its side as the search has it
abbrev node_as : ℕ × Side → ℕ × steps.Side
node_as e = (e.0, side_as e.1)

put : (x : Option (ℕ × Side)) (y : Option (ℕ × steps.Side)) (xs : List (ℕ × Side)) (ys : List (ℕ × steps.Side))
    → option_map node_as x ≡ y → sides_as xs ≡ ys → sides_as (cons_option x xs) ≡ cons_option y ys
put None y xs ys is rest = rest ∙ ap (λ (z : Option (ℕ × steps.Side)). cons_option z ys) is
put (Some x) y xs ys is rest =
    ap (λ (zs : List (ℕ × steps.Side)). node_as x ∷ zs) rest ∙ ap (λ (z : Option (ℕ × steps.Side)). cons_option z ys) is

listed_as : (f : ℕ → Option (ℕ × Side)) (g : ℕ → Option (ℕ × steps.Side)) (ks : List ℕ)
    → ((k : ℕ) → Contains ks k → option_map node_as (f k) ≡ g k) → sides_as (filter_map f ks) ≡ filter_map g ks
listed_as f g [] same = refl
listed_as f g (k ∷ ks) same =
    put (f k) (g k) (filter_map f ks) (filter_map g ks) (same k (Contains-head k ks)) (listed_as f g ks (λ m c. same m (Contains-later k ks m c)))

-- the side by the tests of the two children
abbrev pub side_when : Bool → Bool → Option Side
side_when closed opened = cond closed (Some In) (cond opened (Some Out) None)

by_tests : (k : ℕ) (closed opened : Bool)
    → option_map node_as (option_map (λ (side : Side). (k, side)) (side_when closed opened))
    ≡ option_map (λ (side : steps.Side). (k, side)) (cond closed (Some steps.stays_open) (cond opened (Some steps.stays_closed) None))
by_tests k true opened = refl
by_tests k false true = refl
by_tests k false false = refl

-- the sides that a test of the children gives
abbrev pub sides_by : (Branching → Bool) → Branching → List (ℕ × Side)
sides_by closes b = filter_map (λ k. option_map (λ side. (k, side)) (side_when (closes (closed_child b k)) (closes (open_child b k)))) b.free

-- they are the search's where it is the search's test of them
pub sides_are : (p : Problem) (s : State) (b : Branching) (w : List (ℕ × ℕ)) (closes : Branching → Bool) → IsBranch p b
    → ((c : Branching) → IsBranch p c → closes c ≡ closes_at p s c w)
    → sides_as (sides_by closes b) ≡ fixings p s b w
unfolding fixings fixing fixed_side
sides_are p s b w closes is same =
    let side : Bool → Bool → ℕ → Option (ℕ × steps.Side) =
    λ closed opened k. option_map (λ (side : steps.Side). (k, side)) (cond closed (Some steps.stays_open) (cond opened (Some steps.stays_closed) None)) in
    listed_as (λ k. option_map (λ (side : Side). (k, side)) (side_when (closes (closed_child b k)) (closes (open_child b k)))) (fixing p s b w) b.free
    (λ k free. by_tests k (closes (closed_child b k)) (closes (open_child b k))
    ∙ ap₂ (λ (x y : Bool). side x y k) (same (closed_child b k) (closed_branch p b k is free)) (same (open_child b k) (open_branch p b k is free)))
