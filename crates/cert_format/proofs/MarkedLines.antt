-- The texts of the lines of a marked cut, by what is put.
use Rattle.std.proofs.Common.{◌≡◌, ℕ, ◌+◌, ◌<◌, ◌≤◌, codes, List, [], ◌∷◌, ◌++◌, length, drop, map, flat_map, get_or, decimal, arith, refl, sym, ap, ap₂, ◌∙◌, append_assoc, append-nil}
use Rattle.std.specs.List.{join_with_byte}
use Rattle.std.proofs.lemmas.List.{drop_more, drop_all, get_or_default}
use Rattle.std.proofs.lemmas.List.Concat.{flat_map-append}
use Rattle.core_spec.specs.CoreCuts.{Way, CoreProof, Mark}
use Rattle.hub_spec.specs.Problem.{commodity_at}
use Rattle.hub_spec.specs.Cuts.{Prices, Cut}
use Rattle.cert_spec.specs.Lines.{Item, says_marked, says_dual, says_proof, node_numbers, way_numbers, line_text}
use Rattle.cert_spec.specs.Text.{line_bytes, proved_items}
use Rattle.cert_format.specs.DualItems.{no_dual}
use Rattle.cert_format.specs.Spaced.{spaced, words_text, spaced_node, spaced_way}
use Rattle.cert_format.proofs.Written.{words_joined, line_of, more_numbers, node_words}

-- numbers, a word and more numbers behind a first word, and a line feed
word_between : (word : List ℕ) (ns : List ℕ) (between : List ℕ) (ms : List ℕ)
    → words_text word ns ++ ((32 ∷ between) ++ (flat_map spaced ms ++ 10 ∷ []))
    ≡ join_with_byte 32 (word ∷ (map decimal ns ++ between ∷ map decimal ms)) ++ 10 ∷ []
word_between word [] between ms =
    ap (λ bs. bs ++ ((32 ∷ between) ++ (flat_map spaced ms ++ 10 ∷ []))) (append-nil word)
    ∙ ap (λ bs. word ++ 32 ∷ bs) (sym (append_assoc between (flat_map spaced ms) (10 ∷ [])) ∙ ap (λ bs. bs ++ 10 ∷ []) (words_joined between ms))
    ∙ sym (append_assoc word (32 ∷ join_with_byte 32 (between ∷ map decimal ms)) (10 ∷ []))
word_between word (n ∷ ns) between ms =
    let rest = map decimal ns ++ between ∷ map decimal ms in
    append_assoc word (32 ∷ words_text (decimal n) ns) ((32 ∷ between) ++ (flat_map spaced ms ++ 10 ∷ []))
    ∙ ap (λ bs. word ++ 32 ∷ bs) (word_between (decimal n) ns between ms)
    ∙ sym (append_assoc word (32 ∷ join_with_byte 32 (decimal n ∷ rest)) (10 ∷ []))

pub marked_text : (x part : ℕ) (hubs : List ℕ)
    → words_text (codes "cut") (x ∷ part ∷ []) ++ (codes " core" ++ (flat_map spaced_node hubs ++ 10 ∷ [])) ≡ line_bytes (says_marked x part hubs)
unfolding line_text
marked_text x part hubs =
    ap (λ bs. words_text (codes "cut") (x ∷ part ∷ []) ++ (codes " core" ++ (bs ++ 10 ∷ []))) (node_words hubs)
    ∙ word_between (codes "cut") (x ∷ part ∷ []) (codes "core") (node_numbers hubs)

-- ---- the proof of a dual

way_words : (ways : List Way) → flat_map spaced_way ways ≡ flat_map spaced (way_numbers ways)
way_words [] = refl
way_words (w ∷ ways) =
    ap (λ bs. flat_map spaced ((w.0 + 1) ∷ (w.1 + 1) ∷ w.2 ∷ []) ++ bs) (way_words ways)
    ∙ sym (flat_map-append spaced ((w.0 + 1) ∷ (w.1 + 1) ∷ w.2 ∷ []) (way_numbers ways))

pub proof_text : (proof : CoreProof) {turns scale : ℕ} {ways : List Way} → turns ≡ proof.turns → scale ≡ proof.scale → ways ≡ proof.ways
    → words_text (codes "proof") (turns ∷ scale ∷ []) ++ (flat_map spaced_way ways ++ 10 ∷ []) ≡ line_bytes (says_proof proof)
proof_text proof same_turns same_scale same_ways =
    let front : List ℕ = proof.turns ∷ proof.scale ∷ [] in
    (λ i. words_text (codes "proof") (same_turns i ∷ same_scale i ∷ []) ++ (flat_map spaced_way (same_ways i) ++ 10 ∷ []))
    ∙ ap (λ bs. words_text (codes "proof") front ++ (bs ++ 10 ∷ [])) (way_words proof.ways)
    ∙ more_numbers (codes "proof") front (way_numbers proof.ways)
    ∙ line_of (says_proof proof) refl

-- ---- duals with their proofs

-- from the commodity of number t on
abbrev pub proved_from : (n t : ℕ) → List Prices → List CoreProof → List Item
proved_from n t duals proofs = proved_items n t (drop t duals) (drop t proofs)

abbrev pub lines_from : (n t : ℕ) → List Prices → List CoreProof → List ℕ
lines_from n t duals proofs = flat_map line_bytes (proved_from n t duals proofs)

-- the line of the next dual, and that of its proof
pub next_proved_items : (n t : ℕ) (duals : List Prices) (proofs : List CoreProof) (dual : Prices) (proof : CoreProof) → t < length duals
    → length proofs ≡ length duals → dual ≡ get_or duals t no_dual → proof ≡ get_or proofs t proof
    → says_dual (commodity_at n t) 1 dual ∷ says_proof proof ∷ proved_from n (t + 1) duals proofs ≡ proved_from n t duals proofs
next_proved_items n t duals proofs dual proof below each at_dual at_proof =
    let in_proofs : t < length proofs = omega (arith, below, each) in
    let all_duals : drop t duals ≡ dual ∷ drop (t + 1) duals =
    drop_more duals t no_dual below ∙ ap (λ (d : Prices). d ∷ drop (t + 1) duals) (sym at_dual) in
    let all_proofs : drop t proofs ≡ proof ∷ drop (t + 1) proofs =
    drop_more proofs t proof in_proofs ∙ ap (λ (p : CoreProof). p ∷ drop (t + 1) proofs) (sym at_proof) in
    sym (ap₂ (λ (ds : List Prices) (ps : List CoreProof). proved_items n t ds ps) all_duals all_proofs)

pub next_proved : (n t : ℕ) (duals : List Prices) (proofs : List CoreProof) (dual : Prices) (proof : CoreProof) → t < length duals
    → length proofs ≡ length duals → dual ≡ get_or duals t no_dual → proof ≡ get_or proofs t proof
    → line_bytes (says_dual (commodity_at n t) 1 dual) ++ (line_bytes (says_proof proof) ++ lines_from n (t + 1) duals proofs) ≡ lines_from n t duals proofs
next_proved n t duals proofs dual proof below each at_dual at_proof =
    ap (flat_map line_bytes) (next_proved_items n t duals proofs dual proof below each at_dual at_proof)

-- where there is no proof
abbrev pub no_proof : CoreProof
no_proof = record { turns = 0; scale = 0; ways = [] }

-- the same of the dual alone
pub next_dual : (n t : ℕ) (duals : List Prices) (proofs : List CoreProof) (dual : Prices) → t < length duals → length proofs ≡ length duals
    → dual ≡ get_or duals t no_dual
    → line_bytes (says_dual (commodity_at n t) 1 dual) ++ (line_bytes (says_proof (get_or proofs t no_proof)) ++ lines_from n (t + 1) duals proofs)
    ≡ lines_from n t duals proofs
next_dual n t duals proofs dual below each at_dual =
    let proof = get_or proofs t no_proof in
    next_proved n t duals proofs dual proof below each at_dual (get_or_default proofs t no_proof proof (omega (arith, below, each)))

pub none_proved_items : (n t : ℕ) (duals : List Prices) (proofs : List CoreProof) → length duals ≤ t → proved_from n t duals proofs ≡ []
none_proved_items n t duals proofs past = ap (λ (ds : List Prices). proved_items n t ds (drop t proofs)) (drop_all t duals past)

pub none_proved : (n t : ℕ) (duals : List Prices) (proofs : List CoreProof) → length duals ≤ t → [] ≡ lines_from n t duals proofs
none_proved n t duals proofs past = sym (ap (flat_map line_bytes) (none_proved_items n t duals proofs past))

-- ---- the whole cut

pub marked_cut_text : (n x : ℕ) (cut : Cut) (mark : Mark) {part : ℕ} {hubs : List ℕ} {proofs : List CoreProof}
    → part ≡ cut.part → hubs ≡ mark.hubs → proofs ≡ mark.proofs
    → line_bytes (says_marked x part hubs) ++ flat_map line_bytes (proved_items n 0 cut.duals proofs)
    ≡ flat_map line_bytes (says_marked x cut.part mark.hubs ∷ proved_items n 0 cut.duals mark.proofs)
marked_cut_text n x cut mark part hubs proofs =
    λ i. line_bytes (says_marked x (part i) (hubs i)) ++ flat_map line_bytes (proved_items n 0 cut.duals (proofs i))
