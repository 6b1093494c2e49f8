-- What the items of a text have given so far.
use Rattle.std.specs.Prelude.{ℕ, ◌≤◌, Bool, true, false, List, [], ◌∷◌, ◌++◌, replicate, Option, Some, None}
use Rattle.hub_spec.specs.Cuts.{Prices, Cut}
use Rattle.hub_spec.specs.Trees.{TreeLine, branch_on, leaf_of, no_hub, no_route, no_count, preorder}
use Rattle.core_spec.specs.CoreCuts.{CoreProof, Mark}
use Rattle.cert_spec.specs.Stated.{Stated}
use Rattle.hub_spec.specs.Limits.{most_nodes}
use Rattle.hub_spec.specs.Ranges.{IsShort, IsAmount, IsDualInRange, IsLineInRange}
use Rattle.cert_scan.specs.Versions.{version_number}
use Rattle.cert_scan.specs.declared.items.Item.{Item}
use Rattle.cert_scan.specs.declared.items.Item.TheVariants.{Version, Size, Cost, Bound, Hub, Route, Cut as cut_item, CoreHub, Dual, DualPair, Proof, ProofPair, Nodes, Branch, Leaf, LeafPair, Empty, Block, Count}

-- the mark of the last cut, while more of the cut may come
pub data Marking : Type 0 where
  -- no more comes of any cut
  no_cut : Marking
  -- the hubs and the proofs of the mark so far, if the cut is marked
  cut_begun : Option Mark → Marking

-- the parts of a certificate; the last cut may still lack duals, and its mark is then not among the marks
pub record Gathered : Type 0 where
  pub version : ℕ
  pub size : ℕ
  pub candidates : ℕ
  pub cost : ℕ
  pub bound : ℕ
  pub hubs : List ℕ
  pub routes : List (ℕ × ℕ)
  pub cuts : List Cut
  pub marks : List (Option Mark)
  pub marking : Marking
  pub lines : List TreeLine

-- a dual, a proof or a leaf of which more may come
pub data Begun : Type 0 where
  no_line : Begun
  -- how many commodities it is for, and the dual
  dual_begun : (run : ℕ) → Prices → Begun
  proof_begun : CoreProof → Begun
  leaf_begun : (denom : ℕ) → (weights : List (ℕ × ℕ)) → Begun

-- the parts, and what was begun behind them
pub record Standing : Type 0 where
  pub parts : Gathered
  pub begun : Begun

-- nothing was begun behind these parts
abbrev pub whole : Gathered → Standing
whole g = record { parts = g; begun = no_line }

-- no item has given anything
abbrev pub at_start : Standing
at_start = whole (record {
  version = 1;
  size = 0;
  candidates = 0;
  cost = 0;
  bound = 0;
  hubs = [];
  routes = [];
  cuts = [];
  marks = [];
  marking = no_cut;
  lines = [];
})

-- with more duals in the last cut
abbrev pub with_duals : List Cut → List Prices → List Cut
with_duals [] duals = []
with_duals (cut ∷ []) duals = record { part = cut.part; duals = cut.duals ++ duals } ∷ []
with_duals (cut ∷ next ∷ cuts) duals = cut ∷ with_duals (next ∷ cuts) duals

-- ---- marks

-- the mark of a cut whose line ends behind its part, or goes on
abbrev pub mark_begun : Bool → Option Mark
mark_begun true = None
mark_begun false = Some (record { hubs = []; proofs = [] })

-- the mark of the last cut, of which no more comes
abbrev pub marks_begun : Marking → List (Option Mark)
marks_begun no_cut = []
marks_begun (cut_begun mark) = mark ∷ []

-- the last cut is whole, if there is one
abbrev pub with_cut : Gathered → Gathered
with_cut g = record g { marks = g.marks ++ marks_begun g.marking; marking = no_cut }

-- with one more hub of the mark
abbrev pub with_hub : Marking → ℕ → Marking
with_hub (cut_begun (Some mark)) k = cut_begun (Some (record mark { hubs = mark.hubs ++ k ∷ [] }))
with_hub other k = other

-- with the proof of one more dual
abbrev pub with_proof : Marking → CoreProof → Marking
with_proof (cut_begun (Some mark)) proof = cut_begun (Some (record mark { proofs = mark.proofs ++ proof ∷ [] }))
with_proof other proof = other

-- ---- lines

-- with what was begun, of which no more comes
abbrev pub with_begun : Gathered → Begun → Gathered
with_begun g no_line = g
with_begun g (dual_begun run dual) = record g { cuts = with_duals g.cuts (replicate run dual) }
with_begun g (proof_begun proof) = record g { marking = with_proof g.marking proof }
with_begun g (leaf_begun denom weights) = record g { lines = g.lines ++ leaf_of denom weights ∷ [] }

abbrev pub settled : Standing → Gathered
settled s = with_begun s.parts s.begun

-- the dual that was begun, with a node more and its value
abbrev pub with_value : Begun → ℕ → ℕ → Begun
with_value (dual_begun run dual) k u = dual_begun run (record { a = dual.a; u = dual.u ++ (k, u) ∷ [] })
with_value other k u = other

-- the proof that was begun, with a way more
abbrev pub with_way : Begun → ℕ → ℕ → ℕ → Begun
with_way (proof_begun proof) k m y = proof_begun (record proof { ways = proof.ways ++ (k, m, y) ∷ [] })
with_way other k m y = other

-- the leaf that was begun, with a cut more and its weight
abbrev pub with_weight : Begun → ℕ → ℕ → Begun
with_weight (leaf_begun denom weights) c w = leaf_begun denom (weights ++ (c, w) ∷ [])
with_weight other c w = other

-- with an item where nothing was begun
abbrev pub first_taken : Gathered → Item → Standing
first_taken g (Version v) = whole (record g { version = version_number v })
first_taken g (Size n q) = whole (record g { size = n; candidates = q })
first_taken g (Cost cost) = whole (record g { cost = cost })
first_taken g (Bound bound) = whole (record g { bound = bound })
first_taken g (Hub k last) = whole (record g { hubs = g.hubs ++ k ∷ [] })
first_taken g (Route i j k m) = whole (record g { routes = g.routes ++ (k, m) ∷ [] })
first_taken g (cut_item number part last) =
    whole (record (with_cut g) { cuts = g.cuts ++ record { part = part; duals = [] } ∷ []; marking = cut_begun (mark_begun last) })
first_taken g (CoreHub k last) = whole (record g { marking = with_hub g.marking k })
first_taken g (Dual i j run a last) = record { parts = g; begun = dual_begun run (record { a = a; u = [] }) }
first_taken g (Proof t scale last) = record { parts = g; begun = proof_begun (record { turns = t; scale = scale; ways = [] }) }
first_taken g (Nodes all) = whole (with_cut g)
first_taken g (Branch k) = whole (record g { lines = g.lines ++ branch_on k ∷ [] })
first_taken g (Leaf denom last) = record { parts = g; begun = leaf_begun denom [] }
first_taken g Empty = whole (record g { lines = g.lines ++ no_hub ∷ [] })
first_taken g (Block i j) = whole (record g { lines = g.lines ++ no_route (i, j) ∷ [] })
first_taken g Count = whole (record g { lines = g.lines ++ no_count ∷ [] })
first_taken g item = whole g

-- with an item more: it goes on with what was begun, or nothing more of that comes
abbrev pub taken : Standing → Item → Standing
taken s (DualPair k u last) = record { parts = s.parts; begun = with_value s.begun k u }
taken s (ProofPair k m y last) = record { parts = s.parts; begun = with_way s.begun k m y }
taken s (LeafPair c w last) = record { parts = s.parts; begun = with_weight s.begun c w }
taken s item = first_taken (settled s) item

-- with more items
abbrev pub taken_all : Standing → List Item → Standing
taken_all s [] = s
taken_all s (item ∷ items) = taken_all (taken s item) items

-- what was begun is in range as far as it has come
abbrev pub IsFit : Begun → Type 0
IsFit no_line = Unit {0}
IsFit (dual_begun run dual) = (1 ≤ run) × IsDualInRange most_nodes dual
IsFit (proof_begun proof) = Unit {0}
IsFit (leaf_begun denom weights) = IsLineInRange 0 (leaf_of denom weights)

-- the amounts that an item lists are in range
abbrev pub IsShortItem : Item → Type 0
IsShortItem (DualPair k u last) = IsAmount u
IsShortItem (LeafPair c w last) = IsShort c × IsShort w
IsShortItem item = Unit {0}

-- the item may be taken
pub record MayTake (s : Standing) (item : Item) : Type 0 where
  pub fits : IsFit s.begun
  pub short : IsShortItem item

-- what the items of a certificate give
abbrev pub all_gathered : Stated → Gathered
all_gathered k = record {
  version = k.proof.version;
  size = k.proof.size;
  candidates = k.proof.candidates;
  cost = k.proof.cost;
  bound = k.proof.bound;
  hubs = k.proof.plan.hubs;
  routes = k.proof.plan.routes;
  cuts = k.proof.cuts;
  marks = k.marks;
  marking = no_cut;
  lines = preorder k.proof.tree;
}
