-- Whole lines of a certificate, and the items of those that list something.
use Rattle.std.specs.Prelude.{ℕ, zero, suc, ◌+◌, ◌-◌, ◌<◌, ◌≤◌, Bool, List, ◌++◌, length, slice_index_or, flat_map}
use Rattle.hub_spec.specs.Problem.{Problem}
use Rattle.hub_spec.specs.Cuts.{IsDual}
use Rattle.hub_spec.specs.Trees.{leaf_of}
use Rattle.cert_spec.specs.Lines.{Item as Line, says_hubs, says_marked, says_dual, says_proof, says_tree}
use Rattle.cert_spec.specs.Grammar.{Stage, want_version, Leads}
use Rattle.cert_scan.specs.Parts.{parts_of}
use Rattle.cert_scan.specs.declared.items.Item.{Item}
use Rattle.cert_scan.specs.declared.items.Item.TheVariants.{Hub, Cut, CoreHub, Dual, DualPair, Proof, ProofPair, Leaf, LeafPair, End}
use Rattle.cert_conditions.specs.Taken.{HasTaken}
use Rattle.cert_conditions.specs.declared.checks.Checks.{Checks}
use Rattle.cert_conditions.specs.declared.list_lines.ListLine as code

-- what the line says
abbrev pub line_of : code.ListLine → Line
line_of (code.TheVariants.Hubs hubs) = says_hubs hubs.now
line_of (code.TheVariants.Mark x part hubs) = says_marked x part hubs.now
line_of (code.TheVariants.Dual i j run dual) = says_dual (i, j) run dual
line_of (code.TheVariants.Proof proof) = says_proof proof.now
line_of (code.TheVariants.Leaf denom mix) = says_tree (leaf_of denom mix.now.weights)

-- the line lists something, and gives an item
abbrev pub HasItem : Line → Type 0
HasItem (says_hubs hubs) = 1 ≤ length hubs
HasItem (says_marked number part hubs) = 1 ≤ length hubs
HasItem (says_dual commodity run dual) = Unit {0}
HasItem (says_proof proof) = Unit {0}
HasItem (says_tree (leaf_of denom weights)) = Unit {0}
HasItem other = ⊥

-- how many items it gives before its last one
abbrev pub open_items : Line → ℕ
open_items (says_hubs hubs) = length hubs - 1
open_items (says_marked number part hubs) = length hubs
open_items (says_dual commodity run dual) = length dual.u
open_items (says_proof proof) = length proof.ways
open_items (says_tree (leaf_of denom weights)) = length weights
open_items other = 0

-- the item at this place, which is the last one or not
abbrev pub line_item : Line → ℕ → Bool → Item
line_item (says_hubs hubs) at last = Hub (slice_index_or hubs at 0) last
line_item (says_marked number part hubs) zero last = Cut number part last
line_item (says_marked number part hubs) (suc t) last = CoreHub (slice_index_or hubs t 0) last
line_item (says_dual commodity run dual) zero last = Dual commodity.0 commodity.1 run dual.a last
line_item (says_dual commodity run dual) (suc t) last =
    DualPair (slice_index_or dual.u t (0, 0)).0 (slice_index_or dual.u t (0, 0)).1 last
line_item (says_proof proof) zero last = Proof proof.turns proof.scale last
line_item (says_proof proof) (suc t) last =
    let way = slice_index_or proof.ways t (0, 0, 0) in ProofPair way.0 way.1 way.2 last
line_item (says_tree (leaf_of denom weights)) zero last = Leaf denom last
line_item (says_tree (leaf_of denom weights)) (suc t) last =
    LeafPair (slice_index_or weights t (0, 0)).0 (slice_index_or weights t (0, 0)).1 last
line_item other at last = End

-- ---- a check that takes whole lines

-- these lines may stand first in a text
abbrev pub CanLead : List Line → Type 0
CanLead lines = (stage : Stage) × Leads want_version lines stage

-- just these lines have come
abbrev pub HasLines : List Line → Checks → Type 0
HasLines lines c = HasTaken (flat_map parts_of lines) c

-- these lines may come next
abbrev pub MayTakeLines : Checks → List Line → Type 0
MayTakeLines c next = (lines : List Line) × HasLines lines c × CanLead (lines ++ next)

-- and they came
abbrev pub TakesLines : Checks → List Line → Checks → Type 0
TakesLines old next new = (lines : List Line) → HasLines lines old → CanLead (lines ++ next) → HasLines (lines ++ next) new

-- the line is that of a dual which is feasible for each commodity of its run, with this part
abbrev pub IsKnownLine : Problem → Line → ℕ → Type 0
IsKnownLine p (says_dual commodity run dual) part = (s : ℕ) → s < run → IsDual p part (commodity.0, commodity.1 + s) dual
IsKnownLine p other part = ⊥
