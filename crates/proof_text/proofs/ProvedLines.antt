-- The lines of the duals of a marked cut, each with that of its proof: origin by origin they are those of the cut.
use Rattle.std.proofs.Common.{◌≡◌, ℕ, suc, ◌+◌, ◌*◌, ◌<◌, ℤ, List, [], ◌∷◌, ◌++◌, length, map, flat_map, get_or, refl, sym, ap, ap₂, ◌∙◌, append-nil, arith}
use Rattle.std.specs.List.{range_with_len}
use Rattle.std.proofs.lemmas.List.{length-map, get_or-map, get_or_default}
use Rattle.std.proofs.lemmas.Nat.{div-mul-add, mod-mul-add}
use Rattle.hub_spec.specs.Problem.{commodities, commodity_at}
use Rattle.hub_spec.specs.Cuts.{Prices}
use Rattle.hub_spec.proofs.Commodities.{commodity_index, length_commodities, commodity_at as commodity_at_place}
use Rattle.core_spec.specs.CoreCuts.{CoreProof}
use Rattle.cert_spec.specs.Lines.{Item, says_dual, says_proof}
use Rattle.cert_spec.specs.Text.{line_bytes, proved_items}
use Rattle.hub_model.specs.Prices.{natural_values, signed_values}
use Rattle.hub_model.proofs.ListedValues.{listed_again}
use Rattle.cert_format.specs.DualItems.{no_dual}
use Rattle.proof_text.specs.Texts.{no_proof, proved_pair, proved_from}
use Rattle.proof_text.proofs.Ranges.{at_number, same_each, shifted, rows_joined}

-- the line of a dual, for the commodity of number t, with that of its proof
abbrev pair_said : (n t : ℕ) → Prices → CoreProof → List Item
pair_said n t dual proof = says_dual (commodity_at n t) 1 dual ∷ says_proof proof ∷ []

-- ---- as they are put

pub pair_text : (i j : ℕ) (dual : Prices) (proof : CoreProof) {price : ℕ} {values : List (ℕ × ℤ)} → price ≡ dual.a → values ≡ signed_values dual.u
    → line_bytes (says_dual (i, j) 1 (record { a = price; u = natural_values values })) ++ line_bytes (says_proof proof)
    ≡ flat_map line_bytes (says_dual (i, j) 1 dual ∷ says_proof proof ∷ [])
pair_text i j dual proof same listed =
    ap₂ (λ (a : ℕ) (u : List (ℕ × ℕ)). line_bytes (says_dual (i, j) 1 (record { a = a; u = u })) ++ line_bytes (says_proof proof)) same
    (ap natural_values listed ∙ listed_again dual.u)
    ∙ ap (λ bs. line_bytes (says_dual (i, j) 1 dual) ++ bs) (sym (append-nil (line_bytes (says_proof proof))))

-- those of a commodity among those of its origin
pub pair_is : (n size : ℕ) (d : ℕ × ℕ → Prices) (proofs : List CoreProof) (i j : ℕ) (dual : Prices) (proof : CoreProof) → size ≡ n → i < n → j < size
    → length proofs ≡ n * n → dual ≡ d (i, j) → proof ≡ get_or proofs (i * size + j) proof
    → flat_map line_bytes (says_dual (i, j) 1 dual ∷ says_proof proof ∷ [])
    ≡ flat_map line_bytes (proved_pair n d proofs i (get_or (range_with_len 0 n) j 0))
pair_is n size d proofs i j dual proof same row column long is at =
    let less : j < n = omega (arith, column, same) in
    let inside : i * n + j < length proofs = omega (arith, long, commodity_index n i j row less) in
    ap₂ (λ (x : Prices) (y : CoreProof). flat_map line_bytes (says_dual (i, j) 1 x ∷ says_proof y ∷ [])) is
    (at ∙ ap (λ (m : ℕ). get_or proofs (i * m + j) proof) same ∙ get_or_default proofs (i * n + j) proof no_proof inside)
    ∙ at_number (λ m. flat_map line_bytes (proved_pair n d proofs i m)) n j less

-- ---- from a number on

each_pair : (n t : ℕ) (duals : List Prices) (proofs : List CoreProof) (f : ℕ → List Item) → length proofs ≡ length duals
    → ((k : ℕ) → k < length duals → f (t + k) ≡ pair_said n (t + k) (get_or duals k no_dual) (get_or proofs k no_proof))
    → flat_map f (range_with_len t (length duals)) ≡ proved_items n t duals proofs
each_pair n t [] proofs f long each = refl
each_pair n t (dual ∷ duals) [] f long each = absurd (omega (arith, long))
each_pair n t (dual ∷ duals) (proof ∷ proofs) f long each =
    let here : t + 0 ≡ t = omega arith in
    let first : f t ≡ pair_said n t dual proof =
    ap f (sym here) ∙ each 0 (omega arith) ∙ ap (λ (m : ℕ). pair_said n m dual proof) here in
    ap₂ (λ (xs ys : List Item). xs ++ ys) first
    (each_pair n (t + 1) duals proofs f (omega (arith, long)) (λ k below.
    (let next : t + 1 + k ≡ t + suc k = omega arith in
    ap f next ∙ each (suc k) (omega (arith, below))
    ∙ ap (λ (m : ℕ). pair_said n m (get_or duals k no_dual) (get_or proofs k no_proof)) (sym next))))

-- ---- by origins

-- those of the commodity of number t, whose dual a function gives
abbrev pair_at : ℕ → (ℕ × ℕ → Prices) → List CoreProof → ℕ → List Item
pair_at n d proofs t = pair_said n t (d (commodity_at n t)) (get_or proofs t no_proof)

-- those of the commodities from i
origin_pairs : (n : ℕ) (d : ℕ × ℕ → Prices) (proofs : List CoreProof) (i : ℕ)
    → proved_from n d proofs i ≡ flat_map (pair_at n d proofs) (range_with_len (i * n) n)
origin_pairs n d proofs i =
    let pair = pair_at n d proofs in
    let from : i * n + 0 ≡ i * n = omega arith in
    same_each (proved_pair n d proofs i) (λ j. pair (i * n + j)) 0 n (λ j low high.
    (let less : j < n = omega (arith, high) in
    let at : (i, j) ≡ commodity_at n (i * n + j) = sym (ap₂ (λ (a b : ℕ). (a, b)) (div-mul-add i n j less) (mod-mul-add i n j less)) in
    ap (λ (c : ℕ × ℕ). says_dual c 1 (d c) ∷ says_proof (get_or proofs (i * n + j) no_proof) ∷ []) at))
    ∙ sym (shifted pair (i * n) 0 n)
    ∙ ap (λ (a : ℕ). flat_map pair (range_with_len a n)) from

pub all_proved : (n : ℕ) (d : ℕ × ℕ → Prices) (proofs : List CoreProof) → length proofs ≡ n * n
    → flat_map (proved_from n d proofs) (range_with_len 0 n) ≡ proved_items n 0 (map d (commodities n)) proofs
all_proved n d proofs long =
    let pair = pair_at n d proofs in
    let duals = map d (commodities n) in
    let many : length duals ≡ n * n = length-map (commodities n) d ∙ length_commodities n in
    let none : 0 * n ≡ 0 = omega arith in
    same_each (proved_from n d proofs) (λ i. flat_map pair (range_with_len (i * n) n)) 0 n (λ i low high. origin_pairs n d proofs i)
    ∙ rows_joined pair n 0 n
    ∙ ap₂ (λ (a m : ℕ). flat_map pair (range_with_len a m)) none (sym many)
    ∙ each_pair n 0 duals proofs pair (long ∙ sym many) (λ k below.
    (let inside : k < n * n = omega (arith, below, many) in
    let zeroth : 0 + k ≡ k = omega arith in
    let dual : d (commodity_at n (0 + k)) ≡ get_or duals k no_dual =
    ap (λ (m : ℕ). d (commodity_at n m)) zeroth ∙ sym (ap d (commodity_at_place n k (0, 0) inside))
    ∙ sym (get_or-map d (commodities n) k (0, 0) no_dual (omega (arith, inside, length_commodities n))) in
    ap₂ (pair_said n (0 + k)) dual (ap (λ (m : ℕ). get_or proofs m no_proof) zeroth)))
