-- What a finished scan tells.
use Rattle.std.proofs.Common.{◌≡◌, ◌≢◌, ℕ, ◌+◌, List, [], ◌∷◌, ◌++◌, length, flat_map, Option, Some, None, nat_eq, ◌⊎◌, inl, inr, refl, sym, ap, ◌∙◌, subst, append_assoc, append-nil, arith}
use Rattle.std.specs.List.{join_with_byte}
use Rattle.std.proofs.lemmas.List.Splits.{length-slice_split, slice_split_none, slice_split_at, join_with_byte-slice_split}
use Rattle.cert_spec.specs.Stated.{Stated}
use Rattle.cert_spec.specs.Lines.{Item as Line, line_text}
use Rattle.cert_spec.specs.Text.{certificate_text, line_bytes, Spells}
use Rattle.cert_spec.specs.Grammar as grammar
use Rattle.cert_spec.specs.Grammar.{want_version, want_nothing, after, Leads, IsLine, parts, TextFault, bad_line, ended, LastFault, IsFaultFrom, IsTextFault}
use Rattle.cert_spec.specs.Reading.{IsStage}
use Rattle.cert_spec.proofs.Wanted.{line_has_no_feed}
use Rattle.cert_spec.proofs.Stages.{stage_after}
use Rattle.cert_spec.proofs.LeadsBack.{each_lead_is_text_lem}
use Rattle.cert_spec.proofs.OneText.{one_certificate_lem}
use Rattle.cert_spec.proofs.TextOrFault.{each_is_text_or_fault_lem}
use Rattle.cert_scan.specs.Scans.{fault_at, fault_by}
use Rattle.cert_scan.specs.Parts.{parts_of, items_of}
use Rattle.cert_scan.specs.Scanned.{HasScanned, AreCountable, fault_of, Tells, IsLineAtHand}
use Rattle.cert_scan.specs.Repeats.{DualSoFar}
use Rattle.cert_scan.proofs.Tight.{wanted_at}
use Rattle.cert_scan.proofs.Tracks.{Tracks, HasFailed, ArePlain, scanned_tracks}
use Rattle.cert_scan.specs.declared.items.Item.{Item}
use Rattle.cert_scan.specs.declared.items.Fault.{Fault}
use Rattle.cert_scan.specs.declared.items.Fault.TheVariants.{BadLine, Ended}
use Rattle.cert_scan.specs.declared.bytes.Position.{Position}
use Rattle.cert_scan.specs.declared.bytes.Position.TheVariants.{Start, Failed}
use Rattle.cert_scan.specs.declared.stages.Shape.{Shape}
use Rattle.cert_scan.specs.declared.stages.Stage.{Stage}
use Rattle.cert_scan.specs.declared.stages.Stage.TheVariants.{Nothing}
use Rattle.cert_scan.specs.declared.scanner.Scan.{Scan}

-- a text has some part
record Parts (bytes : List ℕ) : Type 0 where
  first : List ℕ
  others : List (List ℕ)
  are : parts bytes ≡ first ∷ others

some_part : (bytes : List ℕ) (ps : List (List ℕ)) → parts bytes ≡ ps → Parts bytes
some_part bytes [] e = absurd (omega (arith, ap length e, length-slice_split (λ b. nat_eq b 10) bytes))
some_part bytes (p ∷ ps) e = record { first = p; others = ps; are = e }

parts_line : (part rest : List ℕ) → ArePlain part → parts (part ++ 10 ∷ rest) ≡ part ∷ parts rest
parts_line part rest plain = slice_split_at (λ b. nat_eq b 10) part 10 rest plain refl

-- a fault behind a line that may stand there
fault_behind : (stage : grammar.Stage) (line : ℕ) (item : Line) (rest : List ℕ) (fault : TextFault) → IsStage stage → grammar.Wants stage item
    → IsFaultFrom (after stage item) (line + 1) (parts rest) fault → IsFaultFrom stage line (parts (line_bytes item ++ rest)) fault
fault_behind stage line item rest fault s w h =
    let more = some_part rest (parts rest) refl in
    let later = subst (λ ps. IsFaultFrom (after stage item) (line + 1) ps fault) more.are h in
    let split : parts (line_bytes item ++ rest) ≡ line_text item ∷ parts rest =
    ap parts (append_assoc (line_text item) (10 ∷ []) rest) ∙ parts_line (line_text item) rest (line_has_no_feed stage item s w) in
    subst (λ ps. IsFaultFrom stage line ps fault) (sym (split ∙ ap (λ ps. line_text item ∷ ps) more.are)) (inl (item, record { wanted = w; text = refl }, later))

-- and behind several
fault_behind_all : (first last : grammar.Stage) (line : ℕ) (items : List Line) (rest : List ℕ) (fault : TextFault) → IsStage first → Leads first items last
    → IsFaultFrom last (line + length items) (parts rest) fault → IsFaultFrom first line (parts (flat_map line_bytes items ++ rest)) fault
fault_behind_all first last line [] rest fault s h f =
    let same : line + 0 ≡ line = omega arith in
    subst (λ stage. IsFaultFrom stage line (parts rest) fault) (sym h) (subst (λ l. IsFaultFrom last l (parts rest) fault) same f)
fault_behind_all first last line (item ∷ items) rest fault s h f =
    let same : line + length (item ∷ items) ≡ line + 1 + length items = omega arith in
    let later = fault_behind_all (after first item) last (line + 1) items rest fault (stage_after first item s h.0) h.1 (subst (λ l. IsFaultFrom last l (parts rest) fault) same f) in
    subst (λ bytes. IsFaultFrom first line (parts bytes) fault) (sym (append_assoc (line_bytes item) (flat_map line_bytes items) rest))
    (fault_behind first line item (flat_map line_bytes items ++ rest) fault s h.0 later)

-- the fault of what has come of a line is that of the text
text_fault : {bytes : List ℕ} {given : List Item} {sh : Shape} {line : ℕ} {position : Position} {so_far : DualSoFar} (h : Tracks bytes given sh line position so_far) (fault : TextFault)
    → IsFaultFrom (wanted_at h.shape h.held h.stage) (length h.lines + 1) (parts h.sofar) fault → IsTextFault bytes fault
text_fault h fault f =
    let turn : length h.lines + 1 ≡ 1 + length h.lines = omega arith in
    subst (λ b. IsTextFault b fault) (sym h.front)
    (fault_behind_all want_version (wanted_at h.shape h.held h.stage) 1 h.lines h.sofar fault tt h.lead (subst (λ l. IsFaultFrom (wanted_at h.shape h.held h.stage) l (parts h.sofar) fault) turn f))

-- a line whose end has not come
last_ended : (sh : Shape) (held : DualSoFar) (stage : Stage) (line : ℕ) (last : List ℕ) → (stage ≡ Nothing → ⊥) → LastFault (wanted_at sh held stage) line last (ended line)
last_ended sh held Nothing line last h = absurd (h refl)
last_ended sh held stage line last h = refl

ended_fault : {bytes : List ℕ} {given : List Item} {sh : Shape} {line : ℕ} {position : Position} {so_far : DualSoFar} (h : Tracks bytes given sh line position so_far) → ArePlain h.sofar → (h.stage ≡ Nothing → ⊥)
    → IsTextFault bytes (ended (length h.lines + 1))
ended_fault h plain some =
    text_fault h (ended (length h.lines + 1))
    (subst (λ ps. IsFaultFrom (wanted_at h.shape h.held h.stage) (length h.lines + 1) ps (ended (length h.lines + 1))) (sym (slice_split_none (λ b. nat_eq b 10) h.sofar plain))
    (last_ended h.shape h.held h.stage (length h.lines + 1) h.sofar some))

-- something stands where nothing may
extra_from : (line : ℕ) (bytes : List ℕ) (ps : List (List ℕ)) → bytes ≢ [] → parts bytes ≡ ps → IsFaultFrom want_nothing line ps (bad_line line)
extra_from line bytes [] some e = absurd (omega (arith, ap length e, length-slice_split (λ b. nat_eq b 10) bytes))
extra_from line bytes (last ∷ []) some e = ((λ none. some (sym (join_with_byte-slice_split 10 bytes) ∙ ap (join_with_byte 10) e ∙ none)), refl)
extra_from line bytes (part ∷ next ∷ rest) some e = inr ((λ item is. is.wanted), refl)

bad_from : (sh : Shape) (held : DualSoFar) (stage : Stage) (line : ℕ) (sofar : List ℕ) → HasFailed (wanted_at sh held stage) stage sofar
    → IsFaultFrom (wanted_at sh held stage) line (parts sofar) (bad_line line)
bad_from sh held stage line sofar (inl bad) =
    let more = some_part bad.rest (parts bad.rest) refl in
    subst (λ ps. IsFaultFrom (wanted_at sh held stage) line ps (bad_line line))
    (sym (ap parts bad.text ∙ parts_line bad.part bad.rest bad.plain ∙ ap (λ ps. bad.part ∷ ps) more.are)) (inr (bad.none, refl))
bad_from sh held stage line sofar (inr over) =
    subst (λ s. IsFaultFrom (wanted_at sh held s) line (parts sofar) (bad_line line)) (sym over.0) (extra_from line sofar (parts sofar) over.1 refl)

bad_fault : {bytes : List ℕ} {given : List Item} {sh : Shape} {line : ℕ} {so_far : DualSoFar} (h : Tracks bytes given sh line Failed so_far) → IsTextFault bytes (bad_line (length h.lines + 1))
bad_fault h = text_fault h (bad_line (length h.lines + 1)) (bad_from h.shape h.held h.stage (length h.lines + 1) h.sofar h.now)

-- the text is whole
record IsWhole (bytes : List ℕ) (given : List Item) : Type 0 where
  proof : Stated
  spells : Spells bytes proof
  items : given ≡ items_of proof

whole : {bytes : List ℕ} {given : List Item} {sh : Shape} {line : ℕ} {so_far : DualSoFar} → Tracks bytes given sh line (Start Nothing) so_far → IsWhole bytes given
unfolding certificate_text
whole {bytes = bytes} {given = given} h =
    let is : wanted_at h.shape h.held h.stage ≡ want_nothing = ap (wanted_at h.shape h.held) (sym h.now.here.0) in
    let text = each_lead_is_text_lem h.lines (subst (Leads want_version h.lines) is h.lead) in
    record {
      proof = text.0;
      spells = record {
        in_range = text.1;
        text = h.front ∙ ap (λ r. flat_map line_bytes h.lines ++ r) h.now.here.1 ∙ append-nil (flat_map line_bytes h.lines) ∙ ap (flat_map line_bytes) text.2;
      };
      items = h.parts ∙ ap (λ r. flat_map parts_of h.lines ++ r) h.now.here.2 ∙ append-nil (flat_map parts_of h.lines) ∙ ap (flat_map parts_of) text.2;
    }

-- or it has this fault
record HasFault (bytes : List ℕ) (position : Position) (line : ℕ) (lines : ℕ) : Type 0 where
  told : Fault
  is : fault_at line position ≡ Some told
  fault : line ≡ lines → IsTextFault bytes (fault_of told)
  some : (f : TextFault) × IsTextFault bytes f

ended_there : {bytes : List ℕ} {given : List Item} {sh : Shape} {line : ℕ} {position : Position} {so_far : DualSoFar} (h : Tracks bytes given sh line position so_far) → ArePlain h.sofar → (h.stage ≡ Nothing → ⊥)
    → fault_at line position ≡ Some (Ended line) → HasFault bytes position line (length h.lines + 1)
ended_there {bytes = bytes} {line = line} h plain some e = record {
  told = Ended line;
  is = e;
  fault = λ same. subst (λ l. IsTextFault bytes (ended l)) (sym same) (ended_fault h plain some);
  some = (ended (length h.lines + 1), ended_fault h plain some);
}

Outcome : (bytes : List ℕ) (given : List Item) (sh : Shape) (line : ℕ) (position : Position) (so_far : DualSoFar) → Tracks bytes given sh line position so_far → Type 0
Outcome bytes given sh line position so_far h = ((fault_at line position ≡ None) × IsWhole bytes given) ⊎ HasFault bytes position line (length h.lines + 1)

start_outcome : {bytes : List ℕ} {given : List Item} {sh : Shape} {line : ℕ} {so_far : DualSoFar} (s : Stage) (h : Tracks bytes given sh line (Start s) so_far) → Outcome bytes given sh line (Start s) so_far h
unfolding Outcome
start_outcome Nothing h = inl (refl, whole h)
start_outcome s h = let is = h.now.here.0 in inr (ended_there h h.now.plain (λ e. cc) refl)

outcome_at : {bytes : List ℕ} {given : List Item} {sh : Shape} {line : ℕ} {so_far : DualSoFar} (position : Position) (h : Tracks bytes given sh line position so_far) → Outcome bytes given sh line position so_far h
unfolding Outcome
outcome_at (Start s) h = start_outcome s h
outcome_at {bytes = bytes} {line = line} Failed h = inr (record {
  told = BadLine line;
  is = refl;
  fault = λ same. subst (λ l. IsTextFault bytes (bad_line l)) (sym same) (bad_fault h);
  some = (bad_line (length h.lines + 1), bad_fault h);
})
outcome_at position h = inr (ended_there h h.now.plain h.now.busy refl)

-- what finish tells
tells_none : (bytes : List ℕ) (given : List Item) (fault : Option Fault) → fault ≡ None → IsWhole bytes given → Tells bytes fault
tells_none bytes given fault e w = subst (Tells bytes) (sym e) (record { whole = ((λ none. (w.proof, w.spells)), λ k. refl); of_grammar = tt })

tells_some : (bytes : List ℕ) (fault : Option Fault) (told : Fault) → fault ≡ Some told → IsTextFault bytes (fault_of told) → Tells bytes fault
tells_some bytes fault told e f = subst (Tells bytes) (sym e) (record {
  whole = ((λ none. cc), λ k. absurd ((each_is_text_or_fault_lem bytes).not_both k.0 (fault_of told) k.1 f));
  of_grammar = f;
})

pub scanned_tells : (bytes : List ℕ) (given : List Item) (scan : Scan) → HasScanned bytes given scan → AreCountable bytes → Tells bytes (fault_by scan)
unfolding Outcome
scanned_tells bytes given scan h few =
    let t = scanned_tracks bytes given scan h in
    elim (outcome_at scan.position t) [
      | inl w ↦ tells_none bytes given (fault_by scan) w.0 w.1
      | inr f ↦ tells_some bytes (fault_by scan) f.told f.is (f.fault (t.line_is few))
    ]

-- the items of a text that spells a certificate
pub scanned_items : (bytes : List ℕ) (given : List Item) (scan : Scan) (k : Stated) → HasScanned bytes given scan → Spells bytes k → given ≡ items_of k
unfolding Outcome
scanned_items bytes given scan k h spells =
    let t = scanned_tracks bytes given scan h in
    elim (outcome_at scan.position t) [
      | inl w ↦ w.1.items ∙ ap items_of (one_certificate_lem bytes w.1.proof k w.1.spells spells)
      | inr f ↦ absurd ((each_is_text_or_fault_lem bytes).not_both k f.some.0 spells f.some.1)
    ]

-- ---- the line at hand

-- whole lines and what has come of one more have as many parts
length-parts : (first last : grammar.Stage) (lines : List Line) (sofar : List ℕ) → IsStage first → Leads first lines last → ArePlain sofar
    → length (parts (flat_map line_bytes lines ++ sofar)) ≡ length lines + 1
length-parts first last [] sofar s h plain = ap length (slice_split_none (λ b. nat_eq b 10) sofar plain)
length-parts first last (line ∷ lines) sofar s h plain =
    let rest = flat_map line_bytes lines ++ sofar in
    let split : parts (flat_map line_bytes (line ∷ lines) ++ sofar) ≡ line_text line ∷ parts rest =
    ap parts (append_assoc (line_bytes line) (flat_map line_bytes lines) sofar ∙ append_assoc (line_text line) (10 ∷ []) rest)
    ∙ parts_line (line_text line) rest (line_has_no_feed first line s h.0) in
    let more = length-parts (after first line) last lines sofar (stage_after first line s h.0) h.1 plain in
    omega (arith, ap length split, more)

-- a scan that has not failed tells no bad line
told_ended : (line : ℕ) (told : Fault) (position : Position) → (position ≡ Failed → ⊥) → fault_at line position ≡ Some told → Ended line ≡ told
told_ended line told (Start Nothing) h e = cc
told_ended line told Failed h e = absurd (h refl)
told_ended line told position h e = cc

no_bad_line : {bytes : List ℕ} {given : List Item} {sh : Shape} {line : ℕ} {so_far : DualSoFar} (position : Position) (h : Tracks bytes given sh line position so_far) → (position ≡ Failed → ⊥) → line ≡ length h.lines + 1
    → (bad : ℕ) → IsTextFault bytes (bad_line bad) → ⊥
unfolding Outcome
no_bad_line {bytes = bytes} {line = line} position h good same bad f = elim (outcome_at position h) [
  | inl w ↦ (each_is_text_or_fault_lem bytes).not_both w.1.proof (bad_line bad) w.1.spells f
  | inr told ↦ (let end : IsTextFault bytes (ended line) =
      subst (λ x. IsTextFault bytes (fault_of x)) (sym (told_ended line told.told position good told.is)) (told.fault same) in
      let both : ended line ≡ bad_line bad = (each_is_text_or_fault_lem bytes).one_fault (ended line) (bad_line bad) end f in
      cc)
]

line_good : {bytes : List ℕ} {given : List Item} {sh : Shape} {line : ℕ} {so_far : DualSoFar} (position : Position) (h : Tracks bytes given sh line position so_far) → ArePlain h.sofar → (position ≡ Failed → ⊥)
    → line ≡ length h.lines + 1 → IsLineAtHand bytes line
line_good {bytes = bytes} position h plain good same =
    let here = length-parts want_version (wanted_at h.shape h.held h.stage) h.lines h.sofar tt h.lead plain in
    record {
      good = λ none. omega (arith, same, length-slice_split (λ b. nat_eq b 10) bytes, ap (λ b. length (parts b)) h.front, here);
      bad = λ bad f. absurd (no_bad_line position h good same bad f);
    }

same_line : (a b : ℕ) → bad_line a ≡ bad_line b → a ≡ b
same_line a b e = cc

line_of : {bytes : List ℕ} {given : List Item} {sh : Shape} {line : ℕ} {so_far : DualSoFar} (position : Position) (h : Tracks bytes given sh line position so_far) → line ≡ length h.lines + 1 → IsLineAtHand bytes line
line_of {bytes = bytes} Failed h same = record {
  good = λ none. absurd (none (length h.lines + 1) (bad_fault h));
  bad = λ bad f. same ∙ same_line (length h.lines + 1) bad
      ((each_is_text_or_fault_lem bytes).one_fault (bad_line (length h.lines + 1)) (bad_line bad) (bad_fault h) f);
}
line_of position h same = line_good position h h.now.plain (λ e. cc) same

-- the number of the line at hand
pub scanned_line : (bytes : List ℕ) (given : List Item) (scan : Scan) → HasScanned bytes given scan → AreCountable bytes → IsLineAtHand bytes scan.line
scanned_line bytes given scan h few =
    let t = scanned_tracks bytes given scan h in
    line_of scan.position t (t.line_is few)
