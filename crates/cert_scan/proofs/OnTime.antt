-- What is given at any time are the items of the pieces that have come whole.
use Rattle.std.proofs.Common.{◌≡◌, ℕ, ◌||◌, false, List, [], ◌∷◌, ◌++◌, length, take, drop, flat_map, refl, sym, ap, ◌∙◌, subst}
use Rattle.std.proofs.lemmas.List.{take_at, take-append-drop}
use Rattle.cert_spec.specs.Lines.{Item as Line}
use Rattle.cert_spec.specs.Text.{certificate_items, certificate_text, line_bytes}
use Rattle.cert_spec.specs.Grammar as grammar
use Rattle.cert_spec.specs.Grammar.{want_version, want_nothing, after, Leads}
use Rattle.cert_spec.specs.Reading.{IsStage}
use Rattle.cert_spec.proofs.Leads.{each_text_leads_lem}
use Rattle.cert_spec.proofs.Stages.{stage_after}
use Rattle.cert_scan.specs.Scans as scan
use Rattle.cert_scan.specs.Scans.{new_shape, new_scan}
use Rattle.cert_scan.specs.Repeats.{DualSoFar, no_dual}
use Rattle.cert_scan.proofs.Goes.{Walk, new_walk, scanned, given_all, given_all-append, state}
use Rattle.cert_scan.proofs.Repeated.{noted_all, shape_all, repeats_in, repeats_in-append, line_repeats}
use Rattle.cert_scan.proofs.Tight.{wanted_at, Agrees, agrees_next, untight, wanted_repeats, wanted_next}
use Rattle.cert_scan.proofs.Sifted.{shape_told, quiet_front, given_same}
use Rattle.cert_scan.specs.Parts.{parts_of}
use Rattle.cert_scan.specs.Pieces.{pieces_of, bytes_of, told_by, whole_within, AreOnTime}
use Rattle.cert_scan.specs.Scanned.{HasScanned}
use Rattle.cert_scan.proofs.StagesAt.{stage_at, loose, NamesNodes}
use Rattle.cert_scan.proofs.Passing.{PassAll, pass_all-append, pass_all_goes, pieces_give, line_pieces_tell, lines_text, lines_tell}
use Rattle.cert_scan.proofs.Accepts.{accepts}
use Rattle.cert_scan.specs.declared.items.Item.{Item}
use Rattle.cert_scan.specs.declared.bytes.Position.TheVariants.{Start}
use Rattle.cert_scan.specs.declared.stages.Shape.{Shape}
use Rattle.cert_scan.specs.declared.stages.Stage.{Stage}
use Rattle.cert_scan.specs.declared.stages.Stage.TheVariants.{Version}
use Rattle.cert_scan.specs.declared.scanner.Scan.{Scan}

-- a stage at which any dual may come is one, too
loose_stage : (g : grammar.Stage) → IsStage g → IsStage (loose g)
loose_stage (grammar.want_dual s all x t before) h = h
loose_stage g h = h

-- what a line tells of the shape
line_shape : (sh next : Shape) (line end : ℕ) (stage behind : Stage) (item : Line) → PassAll (state sh line (Start stage)) (pieces_of item) (state next end (Start behind))
    → shape_all sh (parts_of item) ≡ next
line_shape sh next line end stage behind item passes =
    let start = state sh line (Start stage) in
    let goes = pass_all_goes (state sh line (Start stage)) (state next end (Start behind)) (pieces_of item) passes in
    ap (shape_all sh) (sym (goes.items ∙ line_pieces_tell item)) ∙ shape_told start (bytes_of (pieces_of item)) ∙ ap (λ w. w.shape) goes.scan

-- lines that may stand one after another lead a walk on, piece by piece, and repeat no dual
record LinesPass (sh : Shape) (line : ℕ) (held : DualSoFar) (stage : Stage) (lines : List Line) : Type 0 where
  end : Walk
  passes : PassAll (state sh line (Start stage)) (flat_map pieces_of lines) end
  quiet : repeats_in sh held (flat_map parts_of lines) ≡ false

lines_pass : (sh : Shape) (line : ℕ) (held : DualSoFar) (stage : Stage) (lines : List Line) (last : grammar.Stage) → NamesNodes sh stage → IsStage (stage_at sh stage)
    → Agrees (stage_at sh stage) held → Leads (wanted_at sh held stage) lines last → LinesPass sh line held stage lines
lines_pass sh line held stage [] last names s agrees lead = record { end = state sh line (Start stage); passes = refl; quiet = refl }
lines_pass sh line held stage (item ∷ lines) last names s agrees lead =
    let there = untight sh held stage item lead.0 in
    let ends = accepts sh line stage item names s there in
    let told : shape_all sh (parts_of item) ≡ ends.shape = line_shape sh ends.shape line ends.line stage ends.stage item ends.passes in
    let next = noted_all sh held (parts_of item) in
    let behind : after (wanted_at sh held stage) item ≡ wanted_at ends.shape (noted_all sh held (parts_of item)) ends.stage =
    wanted_next sh ends.shape held stage ends.stage item s there ends.behind in
    let rest = lines_pass ends.shape ends.line next ends.stage lines last ends.behind.names
    (subst IsStage (sym ends.behind.is) (loose_stage (after (stage_at sh stage) item) (stage_after (stage_at sh stage) item s there)))
    (agrees_next sh ends.shape held stage ends.stage item there agrees ends.behind) (subst (λ g. Leads g lines last) behind lead.1) in
    record {
      end = rest.end;
      passes = pass_all-append (state sh line (Start stage)) (state ends.shape ends.line (Start ends.stage)) rest.end (pieces_of item) (flat_map pieces_of lines) ends.passes rest.passes;
      quiet = repeats_in-append sh held (parts_of item) (flat_map parts_of lines)
          ∙ (λ i. (line_repeats sh held item ∙ wanted_repeats sh held stage item lead.0 agrees) i || repeats_in (told i) next (flat_map parts_of lines))
          ∙ rest.quiet;
    }

-- lines of a text from its first on
text_passes : (lines : List Line) (stage : grammar.Stage) → Leads want_version lines stage → LinesPass new_shape 1 no_dual Version lines
text_passes lines stage lead = lines_pass new_shape 1 no_dual Version lines stage tt tt tt lead

-- their bytes give their items to a walk
walk_gives : (lines : List Line) (stage : grammar.Stage) → Leads want_version lines stage → given_all new_walk (flat_map line_bytes lines) ≡ flat_map parts_of lines
walk_gives lines stage lead =
    let passes = text_passes lines stage lead in
    ap (given_all new_walk) (sym (lines_text lines)) ∙ (pass_all_goes new_walk passes.end (flat_map pieces_of lines) passes.passes).items ∙ lines_tell lines

-- and to a scan
pub lines_give : (lines : List Line) (stage : grammar.Stage) → Leads want_version lines stage → scan.given_all new_scan (flat_map line_bytes lines) ≡ flat_map parts_of lines
lines_give lines stage lead =
    let gives = walk_gives lines stage lead in
    given_same new_scan (flat_map line_bytes lines) (ap (repeats_in new_shape no_dual) gives ∙ (text_passes lines stage lead).quiet) ∙ gives

-- so many of the bytes give the items of the pieces that lie whole within them
front_gives : (lines : List Line) (stage : grammar.Stage) (count : ℕ) → Leads want_version lines stage
    → scan.given_all new_scan (take count (flat_map line_bytes lines)) ≡ told_by (whole_within count (flat_map pieces_of lines))
front_gives lines stage count lead =
    let passes = text_passes lines stage lead in
    let bytes = flat_map line_bytes lines in
    let front = take count bytes in
    let split : given_all new_walk (take count bytes) ++ given_all (scanned new_walk (take count bytes)) (drop count bytes) ≡ flat_map parts_of lines =
    sym (given_all-append new_walk (take count bytes) (drop count bytes)) ∙ ap (given_all new_walk) (take-append-drop count bytes) ∙ walk_gives lines stage lead in
    let quiet = quiet_front new_walk no_dual (given_all new_walk (take count bytes)) (given_all (scanned new_walk (take count bytes)) (drop count bytes))
    (ap (repeats_in new_shape no_dual) split ∙ passes.quiet) in
    given_same new_scan front quiet ∙ ap (λ b. given_all new_walk (take count b)) (sym (lines_text lines))
    ∙ pieces_give new_walk passes.end (flat_map pieces_of lines) count passes.passes

lines_on_time : (bytes : List ℕ) (given : List Item) (s : Scan) → HasScanned bytes given s → (lines : List Line) (stage : grammar.Stage) (rest : List ℕ)
    → Leads want_version lines stage → bytes ++ rest ≡ flat_map line_bytes lines → given ≡ told_by (whole_within (length bytes) (flat_map pieces_of lines))
lines_on_time bytes given s h lines stage rest lead text =
    let front : take (length bytes) (flat_map line_bytes lines) ≡ bytes = ap (take (length bytes)) (sym text) ∙ take_at bytes rest (length bytes) refl in
    sym h.gives ∙ ap (scan.given_all new_scan) (sym front) ∙ front_gives lines stage (length bytes) lead

pub scanned_on_time : (bytes : List ℕ) (given : List Item) (s : Scan) → HasScanned bytes given s → AreOnTime bytes given
unfolding certificate_text
scanned_on_time bytes given s h = record {
  of_lines = lines_on_time bytes given s h;
  of_certificate = λ k rest spells. lines_on_time bytes given s h (certificate_items k) want_nothing rest (each_text_leads_lem k spells.in_range) spells.text;
}
