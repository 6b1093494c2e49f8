-- What one byte more makes of a line.
use Rattle.std.proofs.Common.{◌≡◌, ℕ, ◌+◌, ◌-◌, ◌*◌, ◌/◌, ◌%◌, ◌<◌, ◌≤◌, true, false, ◌&&◌, List, [], ◌∷◌, ◌++◌, length, take, get_or, map, codes, decimal, Option, Some, None, nat_lt, nat_le, nat_eq, inl, inr, refl, sym, ap, ◌∙◌, subst, append_assoc, append-nil, arith}
use Rattle.std.specs.Prelude.{Bool, IfSome, option_to_list, if◌then◌else◌}
use Rattle.std.proofs.lemmas.Bool.{cond_both, cond-true, cond-false, and_parts, ltb-true, ltb-false, leb-true, eqb-true, ne_eqb, cases_Bool}
use Rattle.std.proofs.lemmas.List.{take_more, take_all, map-append}
use Rattle.std.proofs.lemmas.Fmt.{decimal_digit, decimal_step_wide}
use Rattle.hub_spec.specs.Trees.{no_hub, no_count}
use Rattle.hub_spec.proofs.SumLemmas.{by_test}
use Rattle.cert_spec.specs.Lines.{says_tree, says_end, line_text}
use Rattle.cert_spec.specs.Reading.{IsStage}
use Rattle.std.proofs.lemmas.Option.{same_Some, none-some, cond_some}
use Rattle.cert_scan.specs.Moves.{move, taken_by, refusal, spoiled_by, keyword_of, first_place_of, first_number_by, bare_by, behind_keyword_by, unmatched_by, turned_or, duals_line_of, block_line_of, turned_by, keyword_by, count_line_of, tree_head_at, begun_as, begun_by, may_fill, stage_after_filled, nearly_longest, with_digit_of, spelled_by, behind_number_by, number_by, moved_by}
use Rattle.cert_scan.specs.Scans.{shape_by}
use Rattle.cert_scan.specs.Given.{IsBegun}
use Rattle.cert_scan.proofs.StagesAt.{stage_at, NamesNodes, IsAt, tree_at}
use Rattle.cert_scan.specs.Versions.{version_number}
use Rattle.cert_spec.proofs.Versions.{later_not_first}
use Rattle.cert_spec.specs.Grammar.{after}
use Rattle.hub_spec.specs.Limits.{most_part}
use Rattle.cert_scan.specs.Repeats.{ends_dual}
use Rattle.cert_scan.proofs.Passing.{mark_front}
use Rattle.cert_scan.proofs.Goes.{Goes, state}
use Rattle.cert_scan.proofs.Takes.{stage_of_head, HasHead, front_of_head, given_of_head, front_text, keyword_letter, begins, place_in, led_more}
use Rattle.cert_scan.proofs.Said.{empty_wanted, open_behind}
use Rattle.cert_scan.proofs.Turns.{opened, InCut, PartBehind, MarkBehind, Ended, GoesOn, turns}
use Rattle.cert_scan.specs.declared.items.Item.{Item}
use Rattle.cert_scan.specs.declared.items.Item.TheVariants.{Empty as empty_item, Count as count_item, End as end_item}
use Rattle.cert_scan.specs.declared.bytes.Position.{Position}
use Rattle.cert_scan.specs.declared.bytes.Position.TheVariants.{Start, Number, Keyword, Spoiled, Failed}
use Rattle.cert_scan.specs.declared.heads.Head.{Head}
use Rattle.cert_scan.specs.declared.heads.Head.TheVariants.{VersionLine, SizeLine, CostLine, BoundLine, HubsLine, RouteLine, CutsLine, CutLine, MarkWord, DualLine, DualsLine, ProvedLine, ProofLine, NodesLine, BranchLine, LeafLine, EmptyLine, BlockLine, CountLine, EndLine}
use Rattle.cert_scan.specs.declared.places.Place.{Place}
use Rattle.cert_scan.specs.declared.places.Place.TheVariants.{CutNumber, CutPart}
use Rattle.cert_scan.specs.declared.items.Version.{Version as TextVersion}
use Rattle.cert_scan.specs.declared.items.Version.TheVariants.{First, Second, Third}
use Rattle.cert_scan.specs.declared.stages.TreeAt.{TreeAt}
use Rattle.cert_scan.specs.declared.stages.Shape.{Shape}
use Rattle.cert_scan.specs.declared.stages.Stage.{Stage}
use Rattle.cert_scan.specs.declared.stages.Stage.TheVariants.{Version, Size, Cost, Bound, Hubs, Route, Cuts, Cut, Dual, ProvedDual, Proof, Nodes, Tree, End, Nothing}
use Rattle.cert_scan.proofs.Here.{begun_none, word_begun, front_more, DigitsAre, IsSpelled, KeywordIs, NumberIs, number_ends, opens_begun, Here, AfterAt, After}

-- a byte that is not as wanted
is_bad : (sh : Shape) (stage : Stage) (byte : ℕ) (bytes : List ℕ) (given : List Item) → byte ≡ 10 → IsBegun (stage_at sh stage) given → After sh stage byte bytes given (refusal true)
is_bad sh stage byte bytes given feed h = record { ends = inl feed; none = refl; begun = h }

is_spoiled : (sh : Shape) (stage : Stage) (byte : ℕ) (bytes : List ℕ) (given : List Item) → (stage ≡ Nothing → ⊥) → nat_eq byte 10 ≡ false → IsBegun (stage_at sh stage) given
    → After sh stage byte bytes given (refusal false)
is_spoiled sh stage byte bytes given some plain h = record { no_feed = plain; some = some; same = refl; quiet = tt; here = subst (IsBegun (stage_at sh stage)) (sym (append-nil given)) h }

spoils : (sh : Shape) (stage : Stage) (byte : ℕ) (bytes : List ℕ) (given : List Item) → (stage ≡ Nothing → ⊥) → IsBegun (stage_at sh stage) given → After sh stage byte bytes given (spoiled_by byte)
spoils sh stage byte bytes given some h =
    elim (cases_Bool (nat_eq byte 10)) [
      | inl feed ↦ subst (λ b. After sh stage byte bytes given (refusal b)) (sym feed) (is_bad sh stage byte bytes given (eqb-true byte 10 feed) h)
      | inr plain ↦ subst (λ b. After sh stage byte bytes given (refusal b)) (sym plain) (is_spoiled sh stage byte bytes given some plain h)
    ]

-- ---- keywords

-- something stands behind a test that holds
cond_option : (test : Bool) (o : Option Head) (head : Head) → (if test then o else None) ≡ Some head → (test ≡ true) × (o ≡ Some head)
cond_option true o head e = (refl, e)
cond_option false o head e = absurd (none-some head e)

head_some : (head : Head) → stage_of_head head ≡ Nothing → ⊥
head_some VersionLine e = cc
head_some head e = cc

-- an item that is given before a word stays as it is
head_still : (head : Head) → map opened (given_of_head head) ≡ given_of_head head
head_still (MarkWord at) = refl
head_still head = refl

first_cut : (head : Head) (place : Place) (given : List Item) → first_place_of head ≡ Some place → given ≡ given_of_head head → InCut place head [] given
first_cut (CutLine all before) place given e g = subst (λ p. InCut p (CutLine all before) [] given) (same_Some _ place e) (refl, refl, g)
first_cut (EmptyLine t) place given e g = absurd (none-some place e)
first_cut (CountLine t) place given e g = absurd (none-some place e)
first_cut EndLine place given e g = absurd (none-some place e)
first_cut head place given e g = subst (λ p. InCut p head [] given) (same_Some _ place e) tt

-- the first number behind a word begins, if there is one
number_starts : (sh : Shape) (head : Head) (place : Option Place) (byte : ℕ) (bytes : List ℕ) (given : List Item) → first_place_of head ≡ place → HasHead sh head
    → byte ≡ 32 → bytes ≡ (front_of_head head ++ keyword_of head) ++ 32 ∷ [] → given ≡ given_of_head head
    → After sh (stage_of_head head) byte bytes given (first_number_by place)
number_starts sh head None byte bytes given e known space text g =
    is_spoiled sh (stage_of_head head) byte bytes given (head_some head) (ap (λ b. nat_eq b 10) space) (word_begun sh (stage_of_head head) head given refl known g)
number_starts sh head (Some place) byte bytes given e known space text g =
    let word = front_of_head head ++ keyword_of head in
    let same = append-nil given ∙ g in
    record {
      no_feed = ap (λ b. nat_eq b 10) space;
      some = head_some head;
      same = refl;
      quiet = tt;
      here = record {
        head = head;
        stage_is = refl;
        known = known;
        ns = [];
        digits = [];
        text = text ∙ sym (append-nil (word ++ 32 ∷ []));
        spelled = refl;
        leads = e;
        begun = word_begun sh (stage_of_head head) head (given ++ []) refl known same;
        still = ap (map opened) same ∙ head_still head ∙ sym same;
        cut = first_cut head place (given ++ []) e same;
      };
    }

abbrev HeadEnds : Shape → Head → Type 0
HeadEnds sh head = HasHead sh head → (byte : ℕ) (bytes : List ℕ) (given : List Item) → byte ≡ 10 → bytes ≡ (front_of_head head ++ keyword_of head) ++ 10 ∷ []
    → given ≡ given_of_head head
    → After sh (stage_of_head head) byte bytes given (bare_by head)

bad_head : (sh : Shape) (stage : Stage) (byte : ℕ) (bytes : List ℕ) (given : List Item) → byte ≡ 10 → given ≡ [] → After sh stage byte bytes given (refusal true)
bad_head sh stage byte bytes given feed none = is_bad sh stage byte bytes given feed (subst (IsBegun (stage_at sh stage)) (sym none) (begun_none sh stage))

-- a line of the tree that is only a keyword, and fills a place
empty_ends : (sh : Shape) (t : TreeAt) → HeadEnds sh (EmptyLine t)
unfolding line_text
empty_ends sh t known byte bytes given feed text none =
    cond_both (may_fill t) (move (Start (stage_after_filled t)) (Some empty_item)) (refusal true) (After sh (Tree t) byte bytes given)
    (λ room. record {
      feed = feed;
      line = says_tree no_hub;
      wanted = empty_wanted sh t room;
      text = text;
      parts = ap (λ g. g ++ empty_item ∷ []) none;
      behind = tree_at sh (t.places - 1) (t.left - 1);
    })
    (λ full. bad_head sh (Tree t) byte bytes given feed none)

count_ends : (sh : Shape) (t : TreeAt) → HeadEnds sh (CountLine t)
unfolding line_text
count_ends sh t later byte bytes given feed text none =
    cond_both (may_fill t) (move (Start (stage_after_filled t)) (Some count_item)) (refusal true) (After sh (Tree t) byte bytes given)
    (λ room. record {
      feed = feed;
      line = says_tree no_count;
      wanted = (tt, later_not_first (version_number sh.version) later, open_behind sh t room);
      text = text;
      parts = ap (λ g. g ++ count_item ∷ []) none;
      behind = tree_at sh (t.places - 1) (t.left - 1);
    })
    (λ full. bad_head sh (Tree t) byte bytes given feed none)

end_ends : (sh : Shape) → HeadEnds sh EndLine
unfolding line_text
end_ends sh known byte bytes given feed text none = record {
  feed = feed;
  line = says_end;
  wanted = tt;
  text = text;
  parts = ap (λ g. g ++ end_item ∷ []) none;
  behind = record { is = refl; names = tt };
}

head_ends : (sh : Shape) (head : Head) → HeadEnds sh head
head_ends sh (EmptyLine d) known byte bytes given f t g = empty_ends sh d known byte bytes given f t g
head_ends sh (CountLine d) known byte bytes given f t g = count_ends sh d known byte bytes given f t g
head_ends sh EndLine known byte bytes given f t g = end_ends sh known byte bytes given f t g
head_ends sh (MarkWord at) known byte bytes given f t g =
    is_bad sh (Cut at.all (at.number - 1)) byte bytes given f (word_begun sh (Cut at.all (at.number - 1)) (MarkWord at) given refl known g)
head_ends sh head known byte bytes given f t g = bad_head sh (stage_of_head head) byte bytes given f g

behind_keyword : (sh : Shape) (head : Head) (byte : ℕ) (bytes : List ℕ) (given : List Item) → HasHead sh head → bytes ≡ front_of_head head ++ keyword_of head
    → given ≡ given_of_head head → After sh (stage_of_head head) byte (bytes ++ byte ∷ []) given (behind_keyword_by head byte)
behind_keyword sh head byte bytes given known text none =
    cond_both (nat_eq byte 32) _ _ (After sh (stage_of_head head) byte (bytes ++ byte ∷ []) given)
    (λ e. (let space = eqb-true byte 32 e in
    number_starts sh head (first_place_of head) byte (bytes ++ byte ∷ []) given refl known space (λ i. text i ++ space i ∷ []) none))
    (λ other. cond_both (nat_eq byte 10) _ _ (After sh (stage_of_head head) byte (bytes ++ byte ∷ []) given)
    (λ e. (let feed = eqb-true byte 10 e in
    head_ends sh head known byte (bytes ++ byte ∷ []) given feed (λ i. text i ++ feed i ∷ []) none))
    (λ plain. is_spoiled sh (stage_of_head head) byte (bytes ++ byte ∷ []) given (head_some head) plain
    (word_begun sh (stage_of_head head) head given refl known none)))

unmatched : (sh : Shape) (head : Head) (matched byte : ℕ) (bytes : List ℕ) (given : List Item) → KeywordIs sh (stage_of_head head) head matched bytes given
    → After sh (stage_of_head head) byte (bytes ++ byte ∷ []) given (unmatched_by head matched byte)
unmatched sh head matched byte bytes given h =
    cond_both (nat_lt matched (length (keyword_of head))) _ _ (After sh (stage_of_head head) byte (bytes ++ byte ∷ []) given)
    (λ low. spoils sh (stage_of_head head) byte (bytes ++ byte ∷ []) given (head_some head)
    (word_begun sh (stage_of_head head) head given refl h.known h.given_is))
    (λ e. (let all = ltb-false matched (length (keyword_of head)) e in
    behind_keyword sh head byte bytes given h.known (h.text ∙ ap (λ w. front_of_head head ++ w) (take_all matched (keyword_of head) all)) h.given_is))

-- a line turns out to be another one of its stage, by the byte behind so many letters
record Turned (sh : Shape) (head other : Head) (matched byte : ℕ) : Type 0 where
  stage : stage_of_head other ≡ stage_of_head head
  known : HasHead sh other
  few : matched + 1 ≤ length (keyword_of other)
  word : (front_of_head head ++ take matched (keyword_of head)) ++ byte ∷ [] ≡ front_of_head other ++ take (matched + 1) (keyword_of other)
  given : given_of_head head ≡ given_of_head other
  no_feed : nat_eq byte 10 ≡ false

duals_turned : (sh : Shape) (version : TextVersion) (head other : Head) → sh.version ≡ version → duals_line_of version head ≡ Some other → Turned sh head other 4 115
duals_turned sh Second (DualLine d) other is e = subst (λ o. Turned sh (DualLine d) o 4 115) (same_Some (DualsLine d) other e)
    (record { stage = refl; known = inl (ap version_number is); few = omega arith; word = refl; given = refl; no_feed = refl })
duals_turned sh Third (DualLine d) other is e = subst (λ o. Turned sh (DualLine d) o 4 115) (same_Some (DualsLine d) other e)
    (record { stage = refl; known = inr (ap version_number is); few = omega arith; word = refl; given = refl; no_feed = refl })
duals_turned sh version head other is e = absurd (none-some other e)

block_turned : (sh : Shape) (version : TextVersion) (head other : Head) → sh.version ≡ version → block_line_of version head ≡ Some other → Turned sh head other 1 108
block_turned sh Second (BranchLine t) other is e = subst (λ o. Turned sh (BranchLine t) o 1 108) (same_Some (BlockLine t) other e)
    (record { stage = refl; known = inl (ap version_number is); few = omega arith; word = refl; given = refl; no_feed = refl })
block_turned sh Third (BranchLine t) other is e = subst (λ o. Turned sh (BranchLine t) o 1 108) (same_Some (BlockLine t) other e)
    (record { stage = refl; known = inr (ap version_number is); few = omega arith; word = refl; given = refl; no_feed = refl })
block_turned sh version head other is e = absurd (none-some other e)

turned_is : (sh : Shape) (head other : Head) (matched byte : ℕ) → turned_by sh.version head matched byte ≡ Some other → Turned sh head other matched byte
turned_is sh head other matched byte e =
    let there = λ (k b : ℕ) (four : matched ≡ k) (letter : byte ≡ b) (t : Turned sh head other k b).
    subst (λ m. Turned sh head other m byte) (sym four) (subst (λ x. Turned sh head other k x) (sym letter) t) in
    by_test (nat_eq byte 115 && nat_eq matched 4)
    (λ duals. (let k = and_parts (nat_eq byte 115) (nat_eq matched 4) duals in
    there 4 115 (eqb-true matched 4 k.1) (eqb-true byte 115 k.0)
    (duals_turned sh sh.version head other refl (sym (cond-true (nat_eq byte 115 && nat_eq matched 4) _ _ duals) ∙ e))))
    (λ no. (let block = cond_option (nat_eq byte 108 && nat_eq matched 1) (block_line_of sh.version head) other (sym (cond-false (nat_eq byte 115 && nat_eq matched 4) _ _ no) ∙ e) in
    let k = and_parts (nat_eq byte 108) (nat_eq matched 1) block.0 in
    there 1 108 (eqb-true matched 1 k.1) (eqb-true byte 108 k.0) (block_turned sh sh.version head other refl block.1)))

turned : (sh : Shape) (head : Head) (matched byte : ℕ) (bytes : List ℕ) (given : List Item) (other : Option Head) → KeywordIs sh (stage_of_head head) head matched bytes given
    → turned_by sh.version head matched byte ≡ other → After sh (stage_of_head head) byte (bytes ++ byte ∷ []) given (turned_or other head matched byte)
turned sh head matched byte bytes given None h e = unmatched sh head matched byte bytes given h
turned sh head matched byte bytes given (Some other) h e =
    let is = turned_is sh head other matched byte e in
    record {
      no_feed = is.no_feed;
      some = head_some head;
      same = refl;
      quiet = tt;
      here = record {
        stage_is = is.stage;
        known = is.known;
        few = is.few;
        text = ap (λ b. b ++ byte ∷ []) h.text ∙ is.word;
        given_is = append-nil given ∙ h.given_is ∙ is.given;
      };
    }

keyword_moves : (sh : Shape) (head : Head) (matched byte : ℕ) (bytes : List ℕ) (given : List Item) → KeywordIs sh (stage_of_head head) head matched bytes given
    → After sh (stage_of_head head) byte (bytes ++ byte ∷ []) given (keyword_by sh.version head matched byte)
keyword_moves sh head matched byte bytes given h =
    cond_both (nat_lt matched (length (keyword_of head)) && nat_eq byte (get_or (keyword_of head) matched 0)) _ _
    (After sh (stage_of_head head) byte (bytes ++ byte ∷ []) given)
    (λ e. (let k = and_parts (nat_lt matched (length (keyword_of head))) (nat_eq byte (get_or (keyword_of head) matched 0)) e in
    let low = ltb-true matched (length (keyword_of head)) k.0 in
    let is = eqb-true byte (get_or (keyword_of head) matched 0) k.1 in
    let letter = keyword_letter head matched low in
    record {
      no_feed = ne_eqb byte 10 (λ feed. omega arith);
      some = head_some head;
      same = refl;
      quiet = tt;
      here = record {
        stage_is = refl;
        known = h.known;
        few = omega arith;
        text = (λ i. h.text i ++ is i ∷ []) ∙ append_assoc (front_of_head head) (take matched (keyword_of head)) (get_or (keyword_of head) matched 0 ∷ [])
            ∙ ap (λ w. front_of_head head ++ w) (sym (take_more (keyword_of head) matched 0 low));
        given_is = append-nil given ∙ h.given_is;
      };
    }))
    (λ other. turned sh head matched byte bytes given (turned_by sh.version head matched byte) h refl)

-- ---- numbers

-- the line ends behind a number
line_taken : (sh : Shape) (stage : Stage) (place : Place) (v : ℕ) (bytes : List ℕ) (given : List Item) (position : Position) → IsStage (stage_at sh stage)
    → NamesNodes sh stage → NumberIs sh stage place (Some v) bytes given → Goes (state sh 0 (Start stage)) bytes given (state sh 0 (Number place (Some v)))
    → (taken_by sh place v true).position ≡ position → Ended position (taken_by sh place v true).item
    → AfterAt sh stage 10 (bytes ++ 10 ∷ []) given (taken_by sh place v true).item position
line_taken sh stage place v bytes given (Start at) s names h g e ended =
    let l = number_ends sh stage place v bytes given s names h g (ap begins e) in
    let same : l.at ≡ at = (let both : Start l.at ≡ Start at = sym l.position ∙ e in cc) in
    record {
      feed = refl;
      line = l.line;
      wanted = l.wanted;
      text = l.text;
      parts = l.parts;
      behind = subst (λ x. IsAt (shape_by sh (taken_by sh place v true).item) x (after (stage_at sh stage) l.line)) same l.behind;
    }
line_taken sh stage place v bytes given Failed s names h g e none = record { ends = inl refl; none = none; begun = h.begun }
line_taken sh stage place v bytes given position s names h g e ended = absurd ended

in_cut : (next place : Place) (v : ℕ) (head : Head) (ns : List ℕ) (given : List Item) → InCut place head ns given → PartBehind place v next
    → InCut next head (ns ++ v ∷ []) (given ++ [])
in_cut (CutPart all number) place v head ns given h p =
    let there : InCut (CutNumber all p.0) head ns given = subst (λ q. InCut q head ns given) p.1 h in
    (p.0, there.0, (λ i. there.1 i ++ p.2 i ∷ []), append-nil given ∙ there.2, p.3)
in_cut (CutNumber all before) place v head ns given h p = absurd p
in_cut next place v head ns given h p = tt

-- what stands before another number
mid : (sh : Shape) (stage : Stage) (place next : Place) (v : ℕ) (bytes : List ℕ) (given all : List Item) → (h : NumberIs sh stage place (Some v) bytes given)
    → (taken_by sh place v false).position ≡ Number next None → IsBegun (stage_at sh stage) all → map opened all ≡ all
    → InCut next h.head (h.ns ++ v ∷ []) all → NumberIs sh stage next None (bytes ++ 32 ∷ []) all
mid sh stage place next v bytes given all h e begun still cut =
    let word = front_of_head h.head ++ keyword_of h.head in
    record {
      head = h.head;
      stage_is = h.stage_is;
      known = h.known;
      ns = h.ns ++ v ∷ [];
      digits = [];
      text = ap (λ b. b ++ 32 ∷ []) (h.text ∙ ap (λ d. front_text word h.ns ++ d) h.spelled.spelled) ∙ append_assoc (front_text word h.ns) (decimal v) (32 ∷ [])
          ∙ front_more word h.ns v ∙ sym (append-nil (front_text word (h.ns ++ v ∷ [])));
      spelled = refl;
      leads = led_more sh (first_place_of h.head) h.ns place v h.leads ∙ ap place_in e;
      begun = begun;
      still = still;
      cut = cut;
    }

mark_begins : (sh : Shape) (stage : Stage) (place : Place) (v : ℕ) (bytes : List ℕ) (given : List Item) (head : Head) (matched : ℕ) (item : Option Item)
    → NumberIs sh stage place (Some v) bytes given → MarkBehind sh place v head matched item
    → KeywordIs sh stage head matched (bytes ++ 32 ∷ []) (given ++ option_to_list item)
mark_begins sh stage place v bytes given head matched item h m =
    let at = m.at in
    let c : InCut (CutPart m.at.all m.at.number) h.head h.ns given = subst (λ q. InCut q h.head h.ns given) m.place_is h.cut in
    let word = front_of_head h.head ++ keyword_of h.head in
    let number = c.4 in
    let back : at.number - 1 ≡ c.0 = omega arith in
    let numbers : h.ns ++ v ∷ [] ≡ at.number ∷ at.part ∷ [] = (λ i. c.2 i ++ m.part_is i ∷ []) in
    let front : front_text word (h.ns ++ v ∷ []) ≡ mark_front m.at =
    (λ i. front_text (front_of_head (c.1 i) ++ keyword_of (c.1 i)) (numbers i))
    ∙ ap (λ l. codes "cut" ++ 32 ∷ l) (append_assoc (decimal at.number) (32 ∷ []) ((decimal at.part ++ 32 ∷ []) ++ [])
    ∙ ap (λ l. decimal at.number ++ 32 ∷ l) (append-nil (decimal at.part ++ 32 ∷ []))) in
    let there : KeywordIs sh stage (MarkWord m.at) 0 (bytes ++ 32 ∷ []) (given ++ option_to_list item) = record {
      stage_is = ap (Cut at.all) back ∙ sym (ap stage_of_head c.1) ∙ h.stage_is;
      known = record { third = m.third; number = omega arith; some = subst (λ x. 1 ≤ x) m.part_is m.in_range.low; most = subst (λ x. x ≤ most_part) m.part_is m.in_range.high };
      few = omega arith;
      text = ap (λ b. b ++ 32 ∷ []) (h.text ∙ ap (λ d. front_text word h.ns ++ d) h.spelled.spelled) ∙ append_assoc (front_text word h.ns) (decimal v) (32 ∷ [])
          ∙ front_more word h.ns v ∙ front ∙ sym (append-nil (mark_front m.at));
      given_is = (λ i. c.3 i ++ option_to_list (m.gives i));
    } in
    subst (λ x. KeywordIs sh stage x matched (bytes ++ 32 ∷ []) (given ++ option_to_list item)) (sym m.head_is)
    (subst (λ k. KeywordIs sh stage (MarkWord m.at) k (bytes ++ 32 ∷ []) (given ++ option_to_list item)) (sym m.none) there)

number_some : {sh : Shape} {stage : Stage} {place : Place} {value : Option ℕ} {bytes : List ℕ} {given : List Item} → NumberIs sh stage place value bytes given
    → stage ≡ Nothing → ⊥
number_some h e = head_some h.head (h.stage_is ∙ e)

-- another number or a word begins behind a number
number_taken : (sh : Shape) (stage : Stage) (place : Place) (v : ℕ) (bytes : List ℕ) (given : List Item) (item : Option Item) (position : Position)
    → IsStage (stage_at sh stage) → NamesNodes sh stage → NumberIs sh stage place (Some v) bytes given
    → Goes (state sh 0 (Start stage)) bytes given (state sh 0 (Number place (Some v)))
    → (taken_by sh place v false).position ≡ position → GoesOn sh place v (taken_by sh place v true) position item
    → AfterAt sh stage 32 (bytes ++ 32 ∷ []) given item position
number_taken sh stage place v bytes given None (Number next None) s names h g e t =
    let same = append-nil given in
    record {
      no_feed = refl;
      some = number_some h;
      same = refl;
      quiet = tt;
      here = mid sh stage place next v bytes given (given ++ []) h e (subst (IsBegun (stage_at sh stage)) (sym same) h.begun) (ap (map opened) same ∙ h.still ∙ sym same)
          (in_cut next place v h.head h.ns given h.cut t);
    }
number_taken sh stage place v bytes given (Some item) (Number next None) s names h g e o = record {
  no_feed = refl;
  some = number_some h;
  same = o.same;
  quiet = o.quiet;
  here = mid sh stage place next v bytes given (given ++ item ∷ []) h e (opens_begun sh stage place next v bytes given item s names h g o)
      (map-append opened given (item ∷ []) ∙ (λ i. h.still i ++ o.still i ∷ [])) (o.in_list h.head (h.ns ++ v ∷ []) (given ++ item ∷ []));
}
number_taken sh stage place v bytes given item (Keyword head matched) s names h g e m = record {
  no_feed = refl;
  some = number_some h;
  same = ap (shape_by sh) m.gives;
  quiet = subst (λ x. IfSome x (λ y. ends_dual y ≡ false)) (sym m.gives) refl;
  here = mark_begins sh stage place v bytes given head matched item h m;
}
number_taken sh stage place v bytes given item Spoiled s names h g e none = record {
  no_feed = refl;
  some = number_some h;
  same = ap (shape_by sh) none;
  quiet = subst (λ x. IfSome x (λ y. ends_dual y ≡ false)) (sym none) tt;
  here = subst (IsBegun (stage_at sh stage)) (sym (ap (λ x. given ++ option_to_list x) none ∙ append-nil given)) h.begun;
}
number_taken sh stage place v bytes given item position s names h g e t = absurd t

-- one digit more
digit_spelled : (value : Option ℕ) (digits : List ℕ) (byte v : ℕ) → 48 ≤ byte → byte ≤ 57 → IsSpelled value digits → with_digit_of value (byte - 48) ≡ Some v → DigitsAre v (digits ++ byte ∷ [])
digit_spelled None digits byte v low high h e =
    let is : byte - 48 ≡ v = same_Some (byte - 48) v e in
    let small : v < 10 = omega arith in
    let byte_is : 48 + v ≡ byte = omega arith in
    record { spelled = ap (λ d. d ++ byte ∷ []) h ∙ ap (λ x. x ∷ []) (sym byte_is) ∙ sym (decimal_digit v small); short = omega arith }
digit_spelled (Some w) digits byte v low high h e =
    let k = cond_some (nat_le 1 w && nat_lt w nearly_longest) (w * 10 + (byte - 48)) v e in
    let tests = and_parts (nat_le 1 w) (nat_lt w nearly_longest) k.0 in
    let some = leb-true 1 w tests.0 in
    let few = ltb-true w nearly_longest tests.1 in
    let is : w * 10 + (byte - 48) ≡ v = k.1 in
    let front : v / 10 ≡ w = omega arith in
    let end : 48 + v % 10 ≡ byte = omega arith in
    record { spelled = ap (λ d. d ++ byte ∷ []) h.spelled ∙ sym (decimal_step_wide v (omega arith) (omega arith) ∙ (λ i. decimal (front i) ++ (end i ∷ []))); short = omega arith }

spelled_moves : (sh : Shape) (stage : Stage) (place : Place) (value : Option ℕ) (byte : ℕ) (bytes : List ℕ) (given : List Item) (next : Option ℕ) → 48 ≤ byte → byte ≤ 57
    → NumberIs sh stage place value bytes given → with_digit_of value (byte - 48) ≡ next → After sh stage byte (bytes ++ byte ∷ []) given (spelled_by place next)
spelled_moves sh stage place value byte bytes given None low high h e =
    is_spoiled sh stage byte (bytes ++ byte ∷ []) given (number_some h) (ne_eqb byte 10 (λ feed. omega arith)) h.begun
spelled_moves sh stage place value byte bytes given (Some v) low high h e =
    let same = append-nil given in
    record {
      no_feed = ne_eqb byte 10 (λ feed. omega arith);
      some = number_some h;
      same = refl;
      quiet = tt;
      here = record {
        head = h.head;
        stage_is = h.stage_is;
        known = h.known;
        ns = h.ns;
        digits = h.digits ++ byte ∷ [];
        text = ap (λ b. b ++ byte ∷ []) h.text ∙ append_assoc (front_text (front_of_head h.head ++ keyword_of h.head) h.ns) h.digits (byte ∷ []);
        spelled = digit_spelled value h.digits byte v low high h.spelled e;
        leads = h.leads;
        begun = subst (IsBegun (stage_at sh stage)) (sym same) h.begun;
        still = ap (map opened) same ∙ h.still ∙ sym same;
        cut = subst (InCut place h.head h.ns) (sym same) h.cut;
      };
    }

behind_number : (sh : Shape) (stage : Stage) (place : Place) (value : Option ℕ) (byte : ℕ) (bytes : List ℕ) (given : List Item) → IsStage (stage_at sh stage)
    → NamesNodes sh stage → NumberIs sh stage place value bytes given → Goes (state sh 0 (Start stage)) bytes given (state sh 0 (Number place value))
    → After sh stage byte (bytes ++ byte ∷ []) given (behind_number_by sh place value byte)
behind_number sh stage place None byte bytes given s names h g = spoils sh stage byte (bytes ++ byte ∷ []) given (number_some h) h.begun
behind_number sh stage place (Some v) byte bytes given s names h g =
    let t = turns sh place v in
    cond_both (nat_eq byte 10) _ _ (After sh stage byte (bytes ++ byte ∷ []) given)
    (λ e. subst (λ b. After sh stage b (bytes ++ b ∷ []) given (taken_by sh place v true)) (sym (eqb-true byte 10 e))
    (line_taken sh stage place v bytes given (taken_by sh place v true).position s names h g refl t.ended))
    (λ plain. cond_both (nat_eq byte 32) _ _ (After sh stage byte (bytes ++ byte ∷ []) given)
    (λ e. subst (λ b. After sh stage b (bytes ++ b ∷ []) given (taken_by sh place v false)) (sym (eqb-true byte 32 e))
    (number_taken sh stage place v bytes given (taken_by sh place v false).item (taken_by sh place v false).position s names h g refl t.goes_on))
    (λ other. is_spoiled sh stage byte (bytes ++ byte ∷ []) given (number_some h) plain h.begun))

number_moves : (sh : Shape) (stage : Stage) (place : Place) (value : Option ℕ) (byte : ℕ) (bytes : List ℕ) (given : List Item) → IsStage (stage_at sh stage)
    → NamesNodes sh stage → NumberIs sh stage place value bytes given → Goes (state sh 0 (Start stage)) bytes given (state sh 0 (Number place value))
    → After sh stage byte (bytes ++ byte ∷ []) given (number_by sh place value byte)
number_moves sh stage place value byte bytes given s names h g =
    cond_both (nat_le 48 byte && nat_le byte 57) _ _ (After sh stage byte (bytes ++ byte ∷ []) given)
    (λ e. (let k = and_parts (nat_le 48 byte) (nat_le byte 57) e in
    spelled_moves sh stage place value byte bytes given (with_digit_of value (byte - 48)) (leb-true 48 byte k.0) (leb-true byte 57 k.1) h refl))
    (λ other. behind_number sh stage place value byte bytes given s names h g)

-- ---- the first byte of a line

head_begins : (sh : Shape) (head : Head) → HasHead sh head → front_of_head head ≡ [] → given_of_head head ≡ []
    → (byte : ℕ) (bytes : List ℕ) (given : List Item) → bytes ≡ [] → given ≡ []
    → After sh (stage_of_head head) byte (bytes ++ byte ∷ []) given (keyword_by sh.version head 0 byte)
head_begins sh head known first nothing byte bytes given text none =
    keyword_moves sh head 0 byte bytes given (record {
      stage_is = refl;
      known = known;
      few = omega arith;
      text = text ∙ ap (λ front. front ++ []) (sym first);
      given_is = none ∙ sym nothing;
    })

count_begins : (sh : Shape) (version : TextVersion) (t : TreeAt) (byte : ℕ) (bytes : List ℕ) (given : List Item) → sh.version ≡ version → bytes ≡ [] → given ≡ []
    → After sh (Tree t) byte (bytes ++ byte ∷ []) given (begun_as version (count_line_of version t) byte)
count_begins sh First t byte bytes given is text none = spoils sh (Tree t) byte (bytes ++ byte ∷ []) given (λ e. cc) (inl none)
count_begins sh Second t byte bytes given is text none =
    subst (λ version. After sh (Tree t) byte (bytes ++ byte ∷ []) given (keyword_by version (CountLine t) 0 byte)) is
    (head_begins sh (CountLine t) (inl (ap version_number is)) refl refl byte bytes given text none)
count_begins sh Third t byte bytes given is text none =
    subst (λ version. After sh (Tree t) byte (bytes ++ byte ∷ []) given (keyword_by version (CountLine t) 0 byte)) is
    (head_begins sh (CountLine t) (inr (ap version_number is)) refl refl byte bytes given text none)

tree_begins : (sh : Shape) (t : TreeAt) (byte : ℕ) (bytes : List ℕ) (given : List Item) → bytes ≡ [] → given ≡ [] → After sh (Tree t) byte (bytes ++ byte ∷ []) given (begun_as sh.version (tree_head_at sh.version t byte) byte)
tree_begins sh t byte bytes given text none =
    let P : Option Head → Type 0 = λ head. After sh (Tree t) byte (bytes ++ byte ∷ []) given (begun_as sh.version head byte) in
    cond_both (nat_eq byte 98) _ _ P (λ e. head_begins sh (BranchLine t) tt refl refl byte bytes given text none)
    (λ a. cond_both (nat_eq byte 108) _ _ P (λ e. head_begins sh (LeafLine t) tt refl refl byte bytes given text none)
    (λ b. cond_both (nat_eq byte 101) _ _ P (λ e. head_begins sh (EmptyLine t) tt refl refl byte bytes given text none)
    (λ c. cond_both (nat_eq byte 99) _ _ P (λ e. count_begins sh sh.version t byte bytes given refl text none)
    (λ d. spoils sh (Tree t) byte (bytes ++ byte ∷ []) given (λ e. cc) (inl none)))))

begin_moves : (sh : Shape) (stage : Stage) (byte : ℕ) (bytes : List ℕ) (given : List Item) → bytes ≡ [] → given ≡ [] → After sh stage byte (bytes ++ byte ∷ []) given (begun_by sh.version stage byte)
begin_moves sh Version byte bytes given t g = head_begins sh VersionLine tt refl refl byte bytes given t g
begin_moves sh Size byte bytes given t g = head_begins sh SizeLine tt refl refl byte bytes given t g
begin_moves sh Cost byte bytes given t g = head_begins sh CostLine tt refl refl byte bytes given t g
begin_moves sh Bound byte bytes given t g = head_begins sh BoundLine tt refl refl byte bytes given t g
begin_moves sh Hubs byte bytes given t g = head_begins sh HubsLine tt refl refl byte bytes given t g
begin_moves sh (Route c) byte bytes given t g = head_begins sh (RouteLine c) tt refl refl byte bytes given t g
begin_moves sh Cuts byte bytes given t g = head_begins sh CutsLine tt refl refl byte bytes given t g
begin_moves sh (Cut all before) byte bytes given t g = head_begins sh (CutLine all before) tt refl refl byte bytes given t g
begin_moves sh (Dual d) byte bytes given t g = head_begins sh (DualLine d) tt refl refl byte bytes given t g
begin_moves sh (ProvedDual d) byte bytes given t g = head_begins sh (ProvedLine d) tt refl refl byte bytes given t g
begin_moves sh (Proof d) byte bytes given t g = head_begins sh (ProofLine d) tt refl refl byte bytes given t g
begin_moves sh Nodes byte bytes given t g = head_begins sh NodesLine tt refl refl byte bytes given t g
begin_moves sh (Tree d) byte bytes given t g = tree_begins sh d byte bytes given t g
begin_moves sh End byte bytes given t g = head_begins sh EndLine tt refl refl byte bytes given t g
begin_moves sh Nothing byte bytes given t g = record { ends = inr refl; none = refl; begun = g }

-- any byte, where no line was bad
pub moves : (sh : Shape) (stage : Stage) (position : Position) (byte : ℕ) (bytes : List ℕ) (given : List Item) → IsStage (stage_at sh stage) → NamesNodes sh stage
    → (position ≡ Failed → ⊥) → (position ≡ Spoiled → stage ≡ Nothing → ⊥) → Here sh stage position bytes given
    → Goes (state sh 0 (Start stage)) bytes given (state sh 0 position) → After sh stage byte (bytes ++ byte ∷ []) given (moved_by sh position byte)
moves sh stage (Start at) byte bytes given s names f p h g =
    subst (λ x. After sh x byte (bytes ++ byte ∷ []) given (begun_by sh.version at byte)) h.0 (begin_moves sh at byte bytes given h.1 h.2)
moves sh stage (Keyword head matched) byte bytes given s names f p h g =
    subst (λ x. After sh x byte (bytes ++ byte ∷ []) given (keyword_by sh.version head matched byte)) h.stage_is
    (keyword_moves sh head matched byte bytes given (record { stage_is = refl; known = h.known; few = h.few; text = h.text; given_is = h.given_is }))
moves sh stage (Number place value) byte bytes given s names f p h g =
    number_moves sh stage place value byte bytes given s names h g
moves sh stage Spoiled byte bytes given s names f p h g = spoils sh stage byte (bytes ++ byte ∷ []) given (p refl) h
moves sh stage Failed byte bytes given s names f p h g = absurd (f refl)
