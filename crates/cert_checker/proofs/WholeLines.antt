-- The lines of a certificate that is held, by its parts.
use Rattle.std.proofs.Common.{◌≡◌, ℕ, List, [], ◌++◌, length, map, zip, Option, sym, subst, ◌∙◌}
use Rattle.hub_spec.specs.Plans.{Plan}
use Rattle.hub_spec.specs.Cuts.{Cut}
use Rattle.hub_spec.specs.Trees.{preorder}
use Rattle.core_spec.specs.CoreCuts.{Mark}
use Rattle.hub_model.specs.Lines.{tree_line_of}
use Rattle.hub_model.specs.declared.tree_lines.TreeLine.{TreeLine}
use Rattle.cert_spec.specs.Lines.{Item}
use Rattle.cert_spec.specs.Grammar.{want_nothing}
use Rattle.cert_spec.specs.Stated.{Stated, IsStatedInRange}
use Rattle.cert_spec.specs.Text.{top_items, cuts_items, tree_items, certificate_items}
use Rattle.cert_spec.proofs.Items.{certificate_items-parts}
use Rattle.cert_spec.proofs.Leads.{each_text_leads_lem}
use Rattle.cert_scan.specs.Parts.{items_of}
use Rattle.cert_scan.specs.Versions.{version_number}
use Rattle.cert_format.specs.Parts.{IsHeadingOf}
use Rattle.cert_format.specs.declared.headings.Heading.{Heading}
use Rattle.cert_conditions.specs.Taken.{HasTaken}
use Rattle.cert_conditions.specs.ListLines.{MayTakeLines, TakesLines}
use Rattle.cert_conditions.specs.declared.checks.Checks.{Checks}

-- the parts of a certificate, as a walk has them
pub record Parts : Type 0 where
  pub heading : Heading
  pub version : ℕ
  pub size : ℕ
  pub plan : Plan
  pub cuts : List Cut
  pub marks : List (Option Mark)
  pub tree : List TreeLine

-- they are those of this one
pub record ArePartsOf (k : Stated) (s : Parts) : Type 0 where
  pub heading_is : IsHeadingOf s.heading k.proof
  pub version_is : s.version ≡ k.proof.version
  pub size_is : s.size ≡ k.proof.size
  pub plan_is : s.plan ≡ k.proof.plan
  pub cuts_are : s.cuts ≡ k.proof.cuts
  pub marks_are : s.marks ≡ k.marks
  pub tree_is : map tree_line_of s.tree ≡ preorder k.proof.tree

abbrev pub top_lines : Parts → List Item
top_lines s =
    let h = s.heading in
    top_items (version_number h.version) h.size h.candidates h.cost h.bound s.plan (length s.cuts)

abbrev pub cuts_lines : Parts → List Item
cuts_lines s = cuts_items s.version s.size 1 (zip s.cuts s.marks)

abbrev pub tree_lines : Parts → List Item
tree_lines s = tree_items (map tree_line_of s.tree)

abbrev pub behind_top : Parts → List Item
behind_top s = cuts_lines s ++ tree_lines s

lines_by_parts : (k : Stated) (s : Parts) → ArePartsOf k s → top_lines s ++ behind_top s ≡ certificate_items k
lines_by_parts k s are =
    (λ i. top_items (are.heading_is.version i) (are.heading_is.size i) (are.heading_is.candidates i) (are.heading_is.cost i) (are.heading_is.bound i)
    (are.plan_is i) (length (are.cuts_are i))
    ++ (cuts_items (are.version_is i) (are.size_is i) 1 (zip (are.cuts_are i) (are.marks_are i)) ++ tree_items (are.tree_is i)))
    ∙ sym (certificate_items-parts k)

-- they may come first
pub parts_may : (c : Checks) (k : Stated) (s : Parts) → ArePartsOf k s → IsStatedInRange k → HasTaken [] c → MayTakeLines c (top_lines s ++ behind_top s)
parts_may c k s are range none =
    subst (MayTakeLines c) (sym (lines_by_parts k s are)) ([], none, (want_nothing, each_text_leads_lem k range))

-- and where they came, the certificate did
pub whole_taken : (c d : Checks) (k : Stated) (s : Parts) → ArePartsOf k s → IsStatedInRange k → HasTaken [] c
    → TakesLines c (top_lines s ++ behind_top s) d → HasTaken (items_of k) d
whole_taken c d k s are range none taken =
    subst (λ (lines : List Item). TakesLines c lines d) (lines_by_parts k s are) taken [] none (want_nothing, each_text_leads_lem k range)
