-- Some places one after another, as a job of the worker pool.
use Rattle.std.specs.Prelude.{◌≡◌, ℕ, ◌+◌, ◌≤◌, List, flat_map}
use Rattle.cert_spec.specs.Lines.{Item}
use Rattle.cert_spec.specs.Text.{line_bytes}
use Rattle.cert_scan.specs.Versions.{version_number}
use Rattle.proof_text.specs.Texts.{stretch_items}
use Rattle.proof_text.specs.Places.{AreLines, Lends, items_of, place_count}
use Rattle.proof_text.specs.declared.stretches.PlaceScratch.{PlaceScratch}
use Rattle.proof_text.specs.declared.stretches.Stretch.{Stretch}

-- the places are there
pub record IsStretch (s : Stretch) : Type 0 where
  pub lines : AreLines s.lines.now
  pub within : s.first + s.count ≤ place_count s.lines.now

-- a worker's workspace fits the lines
abbrev pub Serves : Stretch → PlaceScratch → Type 0
Serves s scratch = Lends s.lines.now scratch.cut scratch.lender

-- this is the text of the place of the block
abbrev pub IsTextAt : Stretch → ℕ → List ℕ → Type 0
IsTextAt s block text = text ≡ flat_map line_bytes (items_of s.lines.now (s.first + block))

-- the lines of the stretch
abbrev pub items_along : Stretch → List Item
items_along s = stretch_items (version_number s.lines.now.version) s.lines.now.tables.now s.lines.now.cuts.now.cuts s.first s.count
