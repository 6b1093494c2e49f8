-- The certificate of what a search found.
use Rattle.std.specs.Prelude.{◌≡◌, ℕ, map, All, nat_eq, if◌then◌else◌, Option, None}
use Rattle.hub_spec.specs.Problem.{Problem}
use Rattle.hub_spec.specs.Trees.{Tree, preorder}
use Rattle.hub_spec.specs.Ranges.{IsVersionOf, IsInRange}
use Rattle.core_spec.specs.CoreCuts.{Mark}
use Rattle.cert_spec.specs.Stated.{Stated, as_second}
use Rattle.cut_pool.specs.Kept.{Kept, kept_mark, IsKeptFor}
use Rattle.cut_pool.specs.Findings.{lines_of, proof_of}
use Rattle.cut_pool.specs.declared.found.Found.{Found}

-- the mark that a text of the version states for a stored cut: only the third states marks
abbrev pub mark_said : ℕ → Kept → Option Mark
mark_said version kept = if nat_eq version 3 then kept_mark kept else None

-- what is found with this tree, as a certificate of the version states it
abbrev pub stated_by : ℕ → Problem → Found → Tree → Stated
stated_by version p found tree = record { proof = proof_of version p found tree; marks = map (mark_said version) found.cuts.cuts }

-- this is the certificate of the version with each tree that has the found lines
abbrev pub IsCertificateOf : ℕ → Problem → Found → Stated → Type 0
IsCertificateOf version p found k =
    (tree : Tree) → lines_of found.tree.items ≡ preorder tree → k ≡ stated_by version p found tree

-- What is found can be stated. Its cuts fit the problem, and its lines are those of a tree. With that tree it is
-- within the ranges of a certificate of the second version.
pub record CanBeStated (p : Problem) (found : Found) : Type 0 where
  pub fit : All (IsKeptFor p) found.cuts.cuts
  pub tree : Tree
  pub lines : lines_of found.tree.items ≡ preorder tree
  pub in_range : IsInRange (proof_of 2 p found tree)

-- .. and the version has a text for all of it
abbrev pub HasVersion : ℕ → Problem → Found → Type 0
HasVersion version p found = (tree : Tree) → lines_of found.tree.items ≡ preorder tree → IsVersionOf (proof_of (as_second version) p found tree)
