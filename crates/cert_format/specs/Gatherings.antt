-- What a gathering holds.
use Rattle.std.specs.Prelude.{ℕ, ℤ, List, map, Some, None}
use Rattle.core_spec.specs.CoreCuts.{Way}
use Rattle.hub_model.specs.Mixtures.{natural_weights}
use Rattle.hub_model.specs.Lines.{tree_line_of}
use Rattle.cert_scan.specs.Versions.{version_number}
use Rattle.cert_format.specs.Gathered.{Marking, no_cut, cut_begun, Gathered, Begun, no_line, dual_begun, proof_begun, leaf_begun, Standing}
use Rattle.cert_format.specs.declared.begun.BegunLine.{BegunLine}
use Rattle.cert_format.specs.declared.begun.LineHead.{LineHead}
use Rattle.cert_format.specs.declared.begun.LineHead.TheVariants.{Nothing, Dual, Proof, Leaf}
use Rattle.cert_format.specs.declared.begun_marks.BegunMark.{BegunMark}
use Rattle.cert_format.specs.declared.begun_marks.BegunMark.TheVariants.{NoCut, Unmarked, Marked}
use Rattle.cert_format.specs.declared.gathering.Gathering.{Gathering}

-- the mark of the last cut
abbrev pub marking_of : BegunMark → Marking
marking_of NoCut = no_cut
marking_of Unmarked = cut_begun None
marking_of (Marked hubs proofs) = cut_begun (Some (record { hubs = hubs.items; proofs = proofs.items }))

-- the parts
abbrev pub gathered_of : Gathering → Gathered
gathered_of g = record {
  version = version_number g.version;
  size = g.size;
  candidates = g.candidates;
  cost = g.cost;
  bound = g.bound;
  hubs = g.hubs.items;
  routes = g.routes.items;
  cuts = g.cuts.items;
  marks = g.marks.items;
  marking = marking_of g.last_mark;
  lines = map tree_line_of g.lines.items;
}

-- the line that was begun, by what stands before its list, and the lists of a dual, a proof and a leaf
abbrev pub begun_by : LineHead → List (ℕ × ℕ) → List Way → List (ℤ × ℤ) → Begun
begun_by Nothing values ways weights = no_line
begun_by (Dual run price) values ways weights = dual_begun run (record { a = price; u = values })
begun_by (Proof turns scale) values ways weights = proof_begun (record { turns = turns; scale = scale; ways = ways })
begun_by (Leaf denom) values ways weights = leaf_begun denom (natural_weights weights)

abbrev pub begun_of : BegunLine → Begun
begun_of b = begun_by b.head b.values.items b.ways.items b.weights.items

abbrev pub standing_of : Gathering → Standing
standing_of g = record { parts = gathered_of g; begun = begun_of g.begun }
