-- Codes of the definitions' data, by which proofs tell values apart.
use Rattle.std.specs.Prelude.{◌≡◌, ℕ, Bool, true, false, List, [], ◌∷◌, ◌++◌, ◌⊎◌, Option, refl}
use Rattle.std.proofs.Common.{sym, ap, ◌∙◌, append_assoc, append-nil, inl, inr}
use Rattle.std.specs.Coded.{Coded, code_by, coded×, coded⊎, coded_bool, coded_ℕ, coded_list, coded_option}
use Rattle.hub_spec.specs.Plans.{Plan}
use Rattle.hub_spec.specs.Cuts.{Prices, Cut}
use Rattle.hub_spec.specs.Trees.{Tree, branch, leaf, empty, block, count, TreeLine, branch_on, leaf_of, no_hub, no_route, no_count, preorder}
use Rattle.hub_spec.specs.Certificates.{Proof}
use Rattle.core_spec.specs.CoreCuts.{Way, CoreProof, Mark}
use Rattle.cert_spec.specs.Stated.{Stated}
use Rattle.cert_format.specs.Growing.{planted, grown, first_tree, tree_of}

-- trees grow again from their lines
pub grown-preorder : (t : Tree) (rest : List TreeLine) → grown (preorder t ++ rest) ≡ t ∷ grown rest
grown-preorder (branch k a b) rest =
    ap (λ lines. planted k (grown lines)) (append_assoc (preorder a) (preorder b) rest)
    ∙ ap (planted k) (grown-preorder a (preorder b ++ rest) ∙ ap (λ trees. a ∷ trees) (grown-preorder b rest))
grown-preorder (leaf denom weights) rest = refl
grown-preorder empty rest = refl
grown-preorder (block commodity) rest = refl
grown-preorder count rest = refl

-- and so does one tree
pub tree_of-preorder : (t : Tree) → tree_of (preorder t) ≡ t
tree_of-preorder t = ap (λ lines. tree_of lines) (sym (append-nil (preorder t))) ∙ ap first_tree (grown-preorder t [])

-- pairs of numbers
abbrev pub coded_pairs : Coded (List (ℕ × ℕ))
coded_pairs = coded_list (coded× coded_ℕ coded_ℕ)

-- a tree line as a node, a denominator and weights, a commodity, or nothing more
abbrev pub line_to : TreeLine → ℕ ⊎ ((ℕ × List (ℕ × ℕ)) ⊎ ((ℕ × ℕ) ⊎ Bool))
line_to (branch_on k) = inl k
line_to (leaf_of denom weights) = inr (inl (denom, weights))
line_to (no_route commodity) = inr (inr (inl commodity))
line_to no_hub = inr (inr (inr false))
line_to no_count = inr (inr (inr true))

-- and back
abbrev pub line_from : ℕ ⊎ ((ℕ × List (ℕ × ℕ)) ⊎ ((ℕ × ℕ) ⊎ Bool)) → TreeLine
line_from (inl k) = branch_on k
line_from (inr (inl (denom, weights))) = leaf_of denom weights
line_from (inr (inr (inl commodity))) = no_route commodity
line_from (inr (inr (inr false))) = no_hub
line_from (inr (inr (inr true))) = no_count

-- which gives the tree line again
pub line_back : (l : TreeLine) → line_from (line_to l) ≡ l
line_back (branch_on k) = refl
line_back (leaf_of denom weights) = refl
line_back no_hub = refl
line_back (no_route commodity) = refl
line_back no_count = refl

-- a tree line by that
abbrev pub coded_line : Coded TreeLine
coded_line =
    code_by (ℕ ⊎ ((ℕ × List (ℕ × ℕ)) ⊎ ((ℕ × ℕ) ⊎ Bool)))
    (coded⊎ coded_ℕ (coded⊎ (coded× coded_ℕ coded_pairs) (coded⊎ (coded× coded_ℕ coded_ℕ) coded_bool))) line_to line_from line_back

-- a tree by its lines
abbrev pub coded_tree : Coded Tree
coded_tree = code_by (List TreeLine) (coded_list coded_line) preorder tree_of tree_of-preorder

-- a dual by its price and its values
abbrev pub coded_prices : Coded Prices
coded_prices = code_by (ℕ × List (ℕ × ℕ)) (coded× coded_ℕ coded_pairs) (λ d. (d.a, d.u)) (λ p. record { a = p.0; u = p.1 }) (λ _. refl)

-- a cut by its part and its duals
abbrev pub coded_cut : Coded Cut
coded_cut = code_by (ℕ × List Prices) (coded× coded_ℕ (coded_list coded_prices)) (λ c. (c.part, c.duals)) (λ p. record { part = p.0; duals = p.1 }) (λ _. refl)

-- a plan by its hubs and its routes
abbrev pub coded_plan : Coded Plan
coded_plan = code_by (List ℕ × List (ℕ × ℕ)) (coded× (coded_list coded_ℕ) coded_pairs) (λ p. (p.hubs, p.routes)) (λ p. record { hubs = p.0; routes = p.1 }) (λ _. refl)

-- a proof by its fields
abbrev pub coded_proof : Coded Proof
coded_proof =
    code_by ((ℕ × (ℕ × ℕ)) × ((ℕ × ℕ) × (Plan × (List Cut × Tree))))
    (coded× (coded× coded_ℕ (coded× coded_ℕ coded_ℕ)) (coded× (coded× coded_ℕ coded_ℕ) (coded× coded_plan (coded× (coded_list coded_cut) coded_tree))))
    (λ k. ((k.version, (k.size, k.candidates)), ((k.cost, k.bound), (k.plan, (k.cuts, k.tree)))))
    (λ p. record { version = p.0.0; size = p.0.1.0; candidates = p.0.1.1; cost = p.1.0.0; bound = p.1.0.1; plan = p.1.1.0; cuts = p.1.1.1.0; tree = p.1.1.1.1 })
    (λ _. refl)

-- a way by its two nodes and how often it is taken
abbrev pub coded_way : Coded Way
coded_way = code_by ((ℕ × ℕ) × ℕ) (coded× (coded× coded_ℕ coded_ℕ) coded_ℕ) (λ w. ((w.0, w.1), w.2)) (λ p. (p.0.0, p.0.1, p.1)) (λ _. refl)

-- the proof of a dual by its turns, its scale and its ways
abbrev pub coded_core_proof : Coded CoreProof
coded_core_proof =
    code_by ((ℕ × ℕ) × List Way) (coded× (coded× coded_ℕ coded_ℕ) (coded_list coded_way)) (λ t. ((t.turns, t.scale), t.ways))
    (λ p. record { turns = p.0.0; scale = p.0.1; ways = p.1 })
    (λ _. refl)

-- a mark by its hubs and its proofs
abbrev pub coded_mark : Coded Mark
coded_mark =
    code_by (List ℕ × List CoreProof) (coded× (coded_list coded_ℕ) (coded_list coded_core_proof)) (λ m. (m.hubs, m.proofs))
    (λ p. record { hubs = p.0; proofs = p.1 })
    (λ _. refl)

-- what a certificate states by its proof and its marks
abbrev pub coded_stated : Coded Stated
coded_stated =
    code_by (Proof × List (Option Mark)) (coded× coded_proof (coded_list (coded_option coded_mark))) (λ k. (k.proof, k.marks))
    (λ p. record { proof = p.0; marks = p.1 })
    (λ _. refl)
