-- What a search found has a text in each version.
use Rattle.std.proofs.Common.{ℕ, List, [], ◌∷◌, All, inl, inr, ⊎_elim}
use Rattle.std.proofs.lemmas.List.Elements.{All-nil, All-cons, All-head, All-tail}
use Rattle.hub_spec.specs.Problem.{Problem, IsProblem}
use Rattle.hub_spec.specs.Trees.{Tree, preorder}
use Rattle.hub_spec.specs.Ranges.{IsFirstCut, IsFirstLine, IsVersionOf}
use Rattle.cut_pool.specs.Kept.{Kept, kept_cut, kept_cuts, IsRemade, IsKeptFor}
use Rattle.cut_pool.specs.Findings.{proof_of, IsUnlimited, IsVersionFor}
use Rattle.cut_pool.specs.declared.found.Found.{Found}
use Rattle.cut_pool.proofs.KeptCutLaws.{kept_is_first}

pub kept_are_first : (p : Problem) (kept : List Kept) → IsProblem p → All (IsKeptFor p) kept → All IsRemade kept
    → All IsFirstCut (kept_cuts p kept)
kept_are_first p [] ok fit own = All-nil IsFirstCut
kept_are_first p (k ∷ ks) ok fit own =
    All-cons IsFirstCut (kept_cut p k) (kept_cuts p ks)
    (kept_is_first p k ok (All-head (IsKeptFor p) k ks fit) (All-head IsRemade k ks own))
    (kept_are_first p ks ok (All-tail (IsKeptFor p) k ks fit) (All-tail IsRemade k ks own))

-- cuts that fit, and the lines of a tree, which are the first version's where the problem is unlimited
pub has_text : (p : Problem) (found : Found) (tree : Tree) (version : ℕ) → IsProblem p → All (IsKeptFor p) found.cuts.cuts
    → (IsUnlimited p → All IsFirstLine (preorder tree)) → IsVersionFor p found.cuts.cuts version → IsVersionOf (proof_of version p found tree)
has_text p found tree version ok fit lines is =
    ⊎_elim (λ first. inl (first.0, record { cuts = kept_are_first p found.cuts.cuts ok fit first.2; tree = lines first.1 })) (λ second. inr second) is
