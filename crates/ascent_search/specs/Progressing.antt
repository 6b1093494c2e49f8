-- What a search has at each step, and what a step keeps.
use Rattle.std.specs.Prelude.{◌≡◌, ℕ, ◌+◌, ◌-◌, ◌*◌, ◌^◌, ◌≤◌, Bool, true, false, IsTrue, List, [], ◌∷◌, length, All, Contains, Option, IfSome}
use Rattle.hub_spec.specs.Limits.{most_cost, most_cuts, most_tree_lines}
use Rattle.hub_spec.specs.Problem.{Problem, IsProblem}
use Rattle.hub_spec.specs.Plans.{IsHubSet, HasWanted, IsSetCost}
use Rattle.hub_spec.specs.Cuts.{Cut}
use Rattle.hub_spec.specs.Trees.{Branching, root, open_child, closed_child, TreeLine, Tree, preorder, IsSound}
use Rattle.hub_spec.specs.Ranges.{IsFirstLine, IsLineInRange}
use Rattle.search_spec.specs.States.{lesser}
use Rattle.search_spec.specs.Laws.{IsWantedSet}
use Rattle.search_spec.specs.Costs.{IsAtMostOf, first_hubs}
use Rattle.search_spec.specs.Findings.{AreWithin, IsSpent, IsEnough}
use Rattle.search_spec.specs.Walks.{IsSoundLine, Walks}
use Rattle.cut_pool.specs.Kept.{kept_cuts, IsRemade, AreKeptFor}
use Rattle.cut_pool.specs.Findings.{lines_of, IsUnlimited}
use Rattle.cut_pool.specs.declared.found.Found.{Found}
use Rattle.ascent_search.specs.declared.task.SearchTask.{SearchTask}
use Rattle.ascent_search.specs.Gaps.{most_gap, IsWithinGap}
use Rattle.ascent_search.specs.declared.progress.TreeProgress.{TreeProgress}

-- the cuts of a search
abbrev pub cuts_of : Problem → TreeProgress → List Cut
cuts_of p s = kept_cuts p s.cuts.cuts

-- the cutoff at which its leaves fathom
abbrev pub target_of : TreeProgress → ℕ
target_of s = lesser s.cost s.left

-- its lines lead from the first branches to the last, which are still to be filled
abbrev pub WalksTo : Problem → TreeProgress → List Branching → List Branching → Type 0
WalksTo p s first last = Walks p (cuts_of p s) (target_of s) first (lines_of s.lines.items) last

-- its lines prove this cutoff: they lead from the first branches to some others, and each is sound for it
abbrev pub Proves : Problem → TreeProgress → List Branching → ℕ → Type 0
Proves p s first target = (other : List Branching) × Walks p (cuts_of p s) target first (lines_of s.lines.items) other

-- the cutoff is no more than what leaves say, where one says anything
abbrev pub Says : ℕ → Option ℕ → Type 0
Says target left = IfSome left (λ low. target ≤ low)

-- what is proved after was proved before, and is no more than what leaves say, if it was so before
abbrev pub KeepsBest : Problem → List Branching → TreeProgress → TreeProgress → Type 0
KeepsBest p first before after = (target : ℕ) → Proves p after first target
    → Proves p before first target × (Says target before.left → Says target after.left)

-- what a search begins with where it gets no hubs: all candidates, or exactly p of the least
pub record AreFirstHubs (p : Problem) (hubs : List ℕ) : Type 0 where
  pub set : IsWantedSet p hubs
  pub are : hubs ≡ first_hubs p

-- the hub set has these nodes, and is wanted
pub record IsWantedAs (p : Problem) (nodes set : List ℕ) : Type 0 where
  pub same : set ≡ nodes
  pub wanted : IsWantedSet p set

-- the first incumbent of a task: a hub set that is wanted, with its cost, which is at most that of these hubs, and of
-- the task's first nodes, where they are such a set
pub record IsFirst (t : SearchTask) (hubs : List ℕ) (cost : ℕ) : Type 0 where
  pub set : IsWantedSet t.instance.now hubs
  pub is_cost : IsSetCost t.instance.now hubs cost
  pub at_most : IsAtMostOf t.instance.now (first_hubs t.instance.now) cost
  pub given : IsAtMostOf t.instance.now t.first.now cost

-- What holds at each step. The search can compute each of its cuts again. Where neither the number of hubs nor the
-- length of routes is limited, each version of the format can spell the lines. The incumbent has the wanted number of
-- hubs. It costs at most what the hubs cost with which each search begins. It costs at most what the task's first
-- nodes cost, where they are a wanted hub set. No more nodes are made than are allowed. Unless the search stopped,
-- the cutoff at which its leaves fathom is within the gap.
pub record IsGoing (t : SearchTask) (s : TreeProgress) : Type 0 where
  pub problem : IsProblem t.instance.now
  pub kept : AreKeptFor t.instance.now s.cuts
  pub own : All IsRemade s.cuts.cuts
  pub few_cuts : length s.cuts.cuts ≤ most_cuts
  pub few_lines : length s.lines.items ≤ most_tree_lines
  pub in_range : All (IsLineInRange t.instance.now.size) (lines_of s.lines.items)
  pub first_lines : IsUnlimited t.instance.now → All IsFirstLine (lines_of s.lines.items)
  pub hubs : IsHubSet t.instance.now s.hubs
  pub wanted : HasWanted t.instance.now s.hubs
  pub cost : IsSetCost t.instance.now s.hubs s.cost
  pub at_most : IsAtMostOf t.instance.now (first_hubs t.instance.now) s.cost
  pub given : IsAtMostOf t.instance.now t.first.now s.cost
  pub cost_limit : s.cost ≤ most_cost
  pub made : s.made ≤ 2 * length s.lines.items + 1
  pub allowed : AreWithin t.nodes s.made
  pub spent : IsTrue s.stopped → IsSpent t.nodes s.made
  pub gap_limit : t.gap ≤ most_gap
  pub near : s.stopped ≡ false → IsWithinGap t.gap (target_of s) s.cost

-- the search goes on with the same lines and nodes: what its lines led to they still lead to
pub record IsAt (t : SearchTask) (before after : TreeProgress) : Type 0 where
  pub going : IsGoing t after
  pub walks : (first last : List Branching) → WalksTo t.instance.now before first last → WalksTo t.instance.now after first last
  pub best : (first last : List Branching) → WalksTo t.instance.now before first last → KeepsBest t.instance.now first before after
  pub lines : length after.lines.items ≡ length before.lines.items
  pub made : after.made ≡ before.made
  pub stopped : after.stopped ≡ before.stopped

-- a whole tree of the branch is allowed: 2 ^ (free nodes + 1) - 1 nodes, of which the branch itself is made
abbrev pub MayBeWhole : SearchTask → Branching → TreeProgress → Type 0
MayBeWhole t b s = IsEnough (s.made + 2 ^ (length b.free + 1) - 1) t.nodes

-- the branch has been filled, with a line for each node that was made, and one for the branch itself: no more than a
-- whole tree has, and without a stop where a whole tree is allowed
pub record IsDone (t : SearchTask) (b : Branching) (before after : TreeProgress) : Type 0 where
  pub going : IsGoing t after
  pub walks : (first pending : List Branching)
      → WalksTo t.instance.now before first (b ∷ pending) → WalksTo t.instance.now after first pending
  pub best : (first pending : List Branching) → WalksTo t.instance.now before first (b ∷ pending) → KeepsBest t.instance.now first before after
  pub lines : length after.lines.items + before.made ≡ length before.lines.items + after.made + 1
  pub most : after.made + 2 ≤ before.made + 2 ^ (length b.free + 1)
  pub enough : MayBeWhole t b before → before.stopped ≡ false → after.stopped ≡ false

-- the line was added at the branch: whatever cutoff the lines prove with it, it is sound there for that cutoff
abbrev pub IsLastLine : SearchTask → Branching → TreeLine → TreeProgress → TreeProgress → Type 0
IsLastLine t b line before after = (first pending : List Branching) (target : ℕ) → WalksTo t.instance.now before first (b ∷ pending)
    → Proves t.instance.now after first target → IsSoundLine t.instance.now (cuts_of t.instance.now before) target b line

-- in the place of the branch its two children on the free node are to be filled
pub record IsHalved (t : SearchTask) (b : Branching) (k : ℕ) (before after : TreeProgress) : Type 0 where
  pub free : Contains b.free k
  pub going : IsGoing t after
  pub walks : (first pending : List Branching) → WalksTo t.instance.now before first (b ∷ pending)
      → WalksTo t.instance.now after first (open_child b k ∷ closed_child b k ∷ pending)
  pub best : (first pending : List Branching) → WalksTo t.instance.now before first (b ∷ pending) → KeepsBest t.instance.now first before after
  pub lines : length after.lines.items ≡ length before.lines.items + 1
  pub made : after.made ≡ before.made + 2
  pub stopped : after.stopped ≡ before.stopped

-- a heuristic made its proposal: the branch has been filled, or the search goes on, and two nodes more are allowed
abbrev pub IsAdvised : SearchTask → Branching → TreeProgress → TreeProgress → Bool → Type 0
IsAdvised t b before after true = IsDone t b before after
IsAdvised t b before after false = IsAt t before after × AreWithin t.nodes (after.made + 2)

-- the lines lead from the root to the end, one for each node; no more than a whole tree has, and no stop came where
-- as many are allowed
pub record IsOver (t : SearchTask) (s : TreeProgress) : Type 0 where
  pub going : IsGoing t s
  pub walks : WalksTo t.instance.now s (root t.instance.now ∷ []) []
  pub best : (target : ℕ) → Proves t.instance.now s (root t.instance.now ∷ []) target → Says target s.left
  pub lines : length s.lines.items ≡ s.made
  pub most : s.made + 1 ≤ 2 ^ (length t.instance.now.candidates + 1)
  pub enough : IsEnough (2 ^ (length t.instance.now.candidates + 1)) t.nodes → s.stopped ≡ false

-- no greater bound is proved by the cuts and the tree that were found
abbrev pub IsBestBound : Problem → Found → Type 0
IsBestBound p found = (target : ℕ) (tree : Tree) → lines_of found.tree.items ≡ preorder tree
    → IsSound p (kept_cuts p found.cuts.cuts) target (root p) tree → target ≤ found.bound
