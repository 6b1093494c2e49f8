-- The lines of the cuts of a finding by places. A place is one origin of one cut.
use Rattle.std.specs.Prelude.{ℕ, ◌+◌, ◌*◌, ◌/◌, ◌≤◌, List, length, All, Option, MatchOption}
use Rattle.hub_spec.specs.Limits.{most_nodes, most_cuts}
use Rattle.cert_spec.specs.Lines.{Item}
use Rattle.cert_scan.specs.Versions.{version_number}
use Rattle.cut_pool.specs.Kept.{Kept, kept_at, IsKeptFor}
use Rattle.dual_lender.specs.Lenders.{LenderState, IsLenderFor, IsReady}
use Rattle.proof_text.specs.Texts.{place_items}
use Rattle.proof_text.specs.declared.places.CutLines.{CutLines}

-- there are nodes, and no more of them and of the cuts than there may be, and the cuts fit the instance
pub record AreLines (l : CutLines) : Type 0 where
  pub some : 1 ≤ l.tables.now.size
  pub small : l.tables.now.size ≤ most_nodes
  pub few : length l.cuts.now.cuts ≤ most_cuts
  pub fit : All (IsKeptFor l.tables.now) l.cuts.now.cuts

-- how many places there are
abbrev pub place_count : CutLines → ℕ
place_count l = length l.cuts.now.cuts * l.tables.now.size

-- the stored cut of the place
abbrev pub cut_of : CutLines → ℕ → Kept
cut_of l t = kept_at l.cuts.now.cuts (t / l.tables.now.size + 1)

-- the lines of the place
abbrev pub items_of : CutLines → ℕ → List Item
items_of l t = place_items (version_number l.version) l.tables.now l.cuts.now.cuts t

-- the workspace is for the instance, and ready for the cut of this number, if there is one
pub record Lends (l : CutLines) (cut : Option ℕ) (s : LenderState) : Type 0 where
  pub lender : IsLenderFor l.tables.now s
  pub ready : MatchOption cut (Unit {0}) (λ c. IsReady l.tables.now (kept_at l.cuts.now.cuts c) s)
