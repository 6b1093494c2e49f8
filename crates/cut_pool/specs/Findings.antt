-- What a search found, as a certificate.
use Rattle.std.specs.Prelude.{◌≡◌, ℕ, List, length, map, All, ◌⊎◌, None}
use Rattle.hub_spec.specs.Problem.{Problem}
use Rattle.hub_spec.specs.Trees.{Tree, TreeLine, preorder}
use Rattle.hub_spec.specs.Certificates.{Proof, Holds}
use Rattle.hub_spec.specs.Ranges.{IsSecond, IsInRange}
use Rattle.hub_model.specs.declared.tree_lines.TreeLine as model
use Rattle.hub_model.specs.Lines.{tree_line_of}
use Rattle.cut_pool.specs.Kept.{Kept, kept_cuts, IsRemade, IsKeptFor}
use Rattle.cut_pool.specs.declared.found.Found.{Found}

-- the lines that these stand for
abbrev pub lines_of : List model.TreeLine → List TreeLine
lines_of lines = map tree_line_of lines

-- the certificate that this is with the tree of its lines, in this version
abbrev pub proof_of : ℕ → Problem → Found → Tree → Proof
proof_of version p found tree = record {
  version = version;
  size = p.size;
  candidates = length p.candidates;
  cost = found.cost;
  bound = found.bound;
  plan = found.plan;
  cuts = kept_cuts p found.cuts.cuts;
  tree = tree;
}

-- no length of routes is limited, and any number of hubs will do
pub record IsUnlimited (p : Problem) : Type 0 where
  pub any_length : p.longest ≡ None
  pub any_number : p.wanted ≡ None

-- the duals of each cut are computed again: none is Pareto-optimal with a mark, and none was imported
abbrev pub AreRemade : Found → Type 0
AreRemade found = All IsRemade found.cuts.cuts

-- the versions that can list each finding of the problem with these cuts: always the second. The
-- first is one too where the problem is unlimited and the duals of each cut are computed again
abbrev pub IsVersionFor : Problem → List Kept → ℕ → Type 0
IsVersionFor p cuts version = ((version ≡ 1) × IsUnlimited p × All IsRemade cuts) ⊎ IsSecond version

-- its cuts fit. Its lines are those of a tree with which it is a certificate of the problem. In each of these versions
-- it is within the ranges of a certificate
pub record IsProved (p : Problem) (found : Found) : Type 0 where
  pub fit : All (IsKeptFor p) found.cuts.cuts
  pub tree : Tree
  pub lines : lines_of found.tree.items ≡ preorder tree
  pub in_range : (version : ℕ) → IsVersionFor p found.cuts.cuts version → IsInRange (proof_of version p found tree)
  pub holds : (version : ℕ) → Holds p (proof_of version p found tree)
