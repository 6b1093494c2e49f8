-- The texts of lines, by what is put.
use Rattle.std.proofs.Common.{◌≡◌, ℕ, ◌+◌, ℤ, pos, All, codes, List, [], ◌∷◌, ◌++◌, map, flat_map, get_or, decimal, refl, sym, ap, ◌∙◌, subst, append_assoc, append-nil}
use Rattle.std.specs.List.{join_with_byte}
use Rattle.std.proofs.lemmas.List.Concat.{flat_map-append}
use Rattle.std.proofs.lemmas.List.Elements.{All-map}
use Rattle.hub_spec.specs.Cuts.{Prices}
use Rattle.hub_spec.specs.Trees.{leaf_of}
use Rattle.cert_spec.specs.Lines.{Item, says_hubs, says_dual, says_tree, keyword, numbers, words_behind, run_numbers, value_numbers, weight_numbers, line_text}
use Rattle.cert_spec.specs.Text.{line_bytes}
use Rattle.hub_model.specs.Amounts.{natural, IsNatural}
use Rattle.hub_model.specs.Prices.{natural_values, signed_values}
use Rattle.cert_format.proofs.Amounts.{natural_pos}
use Rattle.hub_model.proofs.ListedValues.{listed_again}
use Rattle.cert_format.specs.Spaced.{spaced, words_text, words_line, spaced_node, spaced_value, spaced_entry, spaced_weight, run_text}

pub words_joined : (word ns : List ℕ) → words_text word ns ≡ join_with_byte 32 (word ∷ map decimal ns)
words_joined word [] = append-nil word
words_joined word (n ∷ ns) = ap (λ bs. word ++ 32 ∷ bs) (words_joined (decimal n) ns)

-- the line of an item with no words behind its numbers
pub line_of : (item : Item) → words_behind item ≡ [] → words_line (keyword item) (numbers item) ≡ line_bytes item
unfolding line_text
line_of item none =
    let all = sym (ap (λ ws. map decimal (numbers item) ++ ws) none ∙ append-nil (map decimal (numbers item))) in
    ap (λ bs. bs ++ 10 ∷ []) (words_joined (keyword item) (numbers item) ∙ ap (λ ws. join_with_byte 32 (keyword item ∷ ws)) all)

-- more numbers behind the first ones, and a line feed
pub more_numbers : (word xs ys : List ℕ) → words_text word xs ++ (flat_map spaced ys ++ 10 ∷ []) ≡ words_line word (xs ++ ys)
more_numbers word xs ys = simp (append_assoc, flat_map-append)

pub node_words : (ks : List ℕ) → flat_map spaced_node ks ≡ flat_map spaced (map (λ k. k + 1) ks)
node_words [] = refl
node_words (k ∷ ks) = ap (λ bs. spaced (k + 1) ++ bs) (node_words ks)

pub hubs_text : (hubs : List ℕ) → codes "hubs" ++ (flat_map spaced_node hubs ++ 10 ∷ []) ≡ line_bytes (says_hubs hubs)
hubs_text hubs =
    ap (λ bs. codes "hubs" ++ (bs ++ 10 ∷ [])) (node_words hubs)
    ∙ sym (append_assoc (codes "hubs") (flat_map spaced (map (λ k. k + 1) hubs)) (10 ∷ []))
    ∙ line_of (says_hubs hubs) refl

value_words : (u : List (ℕ × ℤ)) → flat_map spaced_value u ≡ flat_map spaced (value_numbers (natural_values u))
value_words [] = refl
value_words (e ∷ u) =
    ap (λ bs. flat_map spaced ((e.0 + 1) ∷ natural e.1 ∷ []) ++ bs) (value_words u)
    ∙ sym (flat_map-append spaced ((e.0 + 1) ∷ natural e.1 ∷ []) (value_numbers (natural_values u)))

-- the first words of a dual's line, the values behind them, and a line feed
pub dual_text : (i j run price : ℕ) (a : ℤ) (values : List (ℕ × ℤ)) → price ≡ natural a
    → run_text i j run price ++ (flat_map spaced_value values ++ 10 ∷ [])
    ≡ line_bytes (says_dual (i, j) run (record { a = natural a; u = natural_values values }))
dual_text i j run price a values e =
    let dual : Prices = record { a = natural a; u = natural_values values } in
    let word = keyword (says_dual (i, j) run dual) in
    let front : List ℕ = (i + 1) ∷ (j + 1) ∷ (run_numbers run ++ natural a ∷ []) in
    ap (λ p. run_text i j run p ++ (flat_map spaced_value values ++ 10 ∷ [])) e
    ∙ ap (λ bs. words_text word front ++ (bs ++ 10 ∷ [])) (value_words values)
    ∙ more_numbers word front (value_numbers (natural_values values))
    ∙ ap (λ ns. words_line word ((i + 1) ∷ (j + 1) ∷ ns)) (append_assoc (run_numbers run) (natural a ∷ []) (value_numbers (natural_values values)))
    ∙ line_of (says_dual (i, j) run dual) refl

entry_words : (u : List (ℕ × ℕ)) → flat_map spaced_entry u ≡ flat_map spaced_value (signed_values u)
entry_words [] = refl
entry_words (e ∷ u) = ap (λ bs. spaced_entry e ++ bs) (entry_words u)

-- the same of natural numbers
pub stated_text : (i j run price : ℕ) (dual : Prices) → price ≡ dual.a
    → run_text i j run price ++ (flat_map spaced_entry dual.u ++ 10 ∷ []) ≡ line_bytes (says_dual (i, j) run dual)
stated_text i j run price dual e =
    ap (λ bs. run_text i j run price ++ (bs ++ 10 ∷ [])) (entry_words dual.u)
    ∙ dual_text i j run price (pos dual.a) (signed_values dual.u) e
    ∙ ap (λ (u : List (ℕ × ℕ)). line_bytes (says_dual (i, j) run (record { a = dual.a; u = u }))) (listed_again dual.u)

weight_words : (w : List (ℕ × ℕ)) → flat_map spaced_weight w ≡ flat_map spaced (weight_numbers w)
weight_words [] = refl
weight_words (e ∷ w) = ap (λ bs. flat_map spaced (e.0 ∷ e.1 ∷ []) ++ bs) (weight_words w) ∙ sym (flat_map-append spaced (e.0 ∷ e.1 ∷ []) (weight_numbers w))

pub leaf_text : (d denom : ℕ) (w : List (ℕ × ℕ)) → d ≡ denom
    → words_text (codes "leaf") (d ∷ []) ++ (flat_map spaced_weight w ++ 10 ∷ []) ≡ line_bytes (says_tree (leaf_of denom w))
leaf_text d denom w e =
    ap (λ (n : ℕ). words_text (codes "leaf") (n ∷ []) ++ (flat_map spaced_weight w ++ 10 ∷ [])) e
    ∙ ap (λ bs. words_text (codes "leaf") (denom ∷ []) ++ (bs ++ 10 ∷ [])) (weight_words w)
    ∙ more_numbers (codes "leaf") (denom ∷ []) (weight_numbers w)
    ∙ line_of (says_tree (leaf_of denom w)) refl

All-always : {X : Type 0} (P : X → Type 0) (xs : List X) → ((x : X) → P x) → All P xs
All-always P xs h k d l = h (get_or xs k d)

pub values_natural : (u : List (ℕ × ℕ)) (values : List (ℕ × ℤ)) → values ≡ signed_values u → All (λ e. IsNatural e.1) values
values_natural u values e =
    subst (All (λ e. IsNatural e.1)) (sym e)
    (All-map (λ (e : ℕ × ℤ). IsNatural e.1) (λ (e : ℕ × ℕ). (e.0, pos e.1)) u
    (All-always (λ (e : ℕ × ℕ). IsNatural (pos e.1)) u (λ e. natural_pos e.1)))
