-- The certificate that its parts stand for.
use Rattle.std.specs.Prelude.{◌≡◌, ℕ, ◌*◌, List, length, map, Option, IfSome}
use Rattle.hub_spec.specs.Plans.{Plan}
use Rattle.hub_spec.specs.Cuts.{Cut}
use Rattle.hub_spec.specs.Trees.{preorder}
use Rattle.hub_spec.specs.Certificates.{Proof}
use Rattle.core_spec.specs.CoreCuts.{Mark}
use Rattle.cert_spec.specs.Stated.{Stated, IsStatedInRange}
use Rattle.hub_model.specs.Lines.{tree_line_of}
use Rattle.hub_model.specs.declared.tree_lines.TreeLine.{TreeLine}
use Rattle.cert_scan.specs.Versions.{version_number}
use Rattle.cert_format.specs.Growing.{tree_of}
use Rattle.cert_format.specs.declared.headings.Heading.{Heading}

-- what the parts stand for
abbrev pub proof_of : Heading → Plan → List Cut → List TreeLine → Proof
proof_of heading plan cuts lines = record {
  version = version_number heading.version;
  size = heading.size;
  candidates = heading.candidates;
  cost = heading.cost;
  bound = heading.bound;
  plan = plan;
  cuts = cuts;
  tree = tree_of (map tree_line_of lines);
}

-- with the marks of the cuts
abbrev pub stated_of : Heading → Plan → List Cut → List (Option Mark) → List TreeLine → Stated
stated_of heading plan cuts marks lines = record { proof = proof_of heading plan cuts lines; marks = marks }

-- these are the lines of one tree
abbrev pub AreOneTree : List TreeLine → Type 0
AreOneTree lines = preorder (tree_of (map tree_line_of lines)) ≡ map tree_line_of lines

-- all numbers are within the ranges of the grammar, and the lines are those of one tree
pub record AreCertificateParts (heading : Heading) (plan : Plan) (cuts : List Cut) (marks : List (Option Mark)) (lines : List TreeLine) : Type 0 where
  pub in_range : IsStatedInRange (stated_of heading plan cuts marks lines)
  pub one_tree : AreOneTree lines

-- the first lines say so of the certificate
pub record IsHeadingOf (heading : Heading) (k : Proof) : Type 0 where
  pub version : version_number heading.version ≡ k.version
  pub size : heading.size ≡ k.size
  pub candidates : heading.candidates ≡ k.candidates
  pub cost : heading.cost ≡ k.cost
  pub bound : heading.bound ≡ k.bound

-- a mark has a proof for each commodity between n nodes
abbrev pub HasProofs : ℕ → Option Mark → Type 0
HasProofs n mark = IfSome mark (λ m. length m.proofs ≡ n * n)
