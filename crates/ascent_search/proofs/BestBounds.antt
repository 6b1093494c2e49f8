-- What the lines of a search prove: no more than each of its leaves says.
use Rattle.std.proofs.Common.{◌≡◌, ℕ, ◌≤◌, ℤ, List, [], ◌∷◌, ◌++◌, Option, None, Some, Result, Ok, Err, OnOk, refl, sym, subst, append-nil, append_assoc, arith}
use Rattle.hub_spec.specs.Problem.{Problem}
use Rattle.hub_spec.specs.Cuts.{Cut}
use Rattle.hub_spec.specs.Trees.{Branching, open_child, closed_child, leaf_bound, Closes, Tree, branch, leaf, empty, block, count, TreeLine, branch_on, leaf_of, no_hub, no_route, no_count, preorder, IsSound}
use Rattle.search_spec.specs.States.{lesser}
use Rattle.search_spec.proofs.Keeping.{kept_more, leaf_bound-kept}
use Rattle.search_spec.specs.Walks.{IsSoundLine, filled, Walks}
use Rattle.cut_pool.specs.Findings.{lines_of}
use Rattle.ascent_search.specs.declared.progress.TreeProgress.{TreeProgress}
use Rattle.ascent_search.specs.Progressing.{cuts_of, WalksTo, Proves, Says, KeepsBest}

-- ---- walks over the same lines

-- a walk over one line more is one over those before it
pub front : (p : Problem) (cuts : List Cut) (target : ℕ) (first : List Branching) (lines : List TreeLine) (l : TreeLine) (other : List Branching)
    → Walks p cuts target first (lines ++ l ∷ []) other → (middle : List Branching) × Walks p cuts target first lines middle
front p cuts target first [] l other walks = (first, refl)
front p cuts target [] (m ∷ lines) l other walks = absurd walks
front p cuts target (b ∷ pending) (m ∷ lines) l other walks =
    let rest = front p cuts target (filled b m pending) lines l other walks.1 in (rest.0, (walks.0, rest.1))

-- and the line more is sound where they led
pub last_sound : (p : Problem) (cuts : List Cut) (led target : ℕ) (first : List Branching) (lines : List TreeLine) (b : Branching)
    (pending : List Branching) (l : TreeLine) (other : List Branching) → Walks p cuts led first lines (b ∷ pending)
    → Walks p cuts target first (lines ++ l ∷ []) other → IsSoundLine p cuts target b l
last_sound p cuts led target first [] b pending l other to walks =
    let here : Walks p cuts target (b ∷ pending) (l ∷ []) other =
    subst (λ (bs : List Branching). Walks p cuts target bs (l ∷ []) other) to walks in here.0
last_sound p cuts led target [] (m ∷ lines) b pending l other to walks = absurd to
last_sound p cuts led target (c ∷ rest) (m ∷ lines) b pending l other to walks =
    last_sound p cuts led target (filled c m rest) lines b pending l other to.1 walks.1

-- where the lines walk without the last cut, and with it at some cutoff, they walk without it at that cutoff too
line_without : (p : Problem) (cuts : List Cut) (more : Cut) (led target : ℕ) (b : Branching) (l : TreeLine) → IsSoundLine p cuts led b l
    → IsSoundLine p (cuts ++ more ∷ []) target b l → IsSoundLine p cuts target b l
line_without p cuts more led target b (branch_on k) to sound = sound
line_without p cuts more led target b (leaf_of denom weights) to sound =
    let same = leaf_bound-kept p cuts (cuts ++ more ∷ []) denom weights b (kept_more cuts more) to.1 in
    (sound.0, to.1, subst (λ (z : ℤ). Closes denom target z) same sound.2)
line_without p cuts more led target b no_hub to sound = sound
line_without p cuts more led target b (no_route commodity) to sound = sound
line_without p cuts more led target b no_count to sound = sound

pub walks_without : (p : Problem) (cuts : List Cut) (more : Cut) (led target : ℕ) (first : List Branching) (lines : List TreeLine)
    (last other : List Branching) → Walks p cuts led first lines last → Walks p (cuts ++ more ∷ []) target first lines other
    → Walks p cuts target first lines other
walks_without p cuts more led target first [] last other to walks = walks
walks_without p cuts more led target [] (l ∷ lines) last other to walks = absurd walks
walks_without p cuts more led target (b ∷ pending) (l ∷ lines) last other to walks = (
  line_without p cuts more led target b l to.0 walks.0,
  walks_without p cuts more led target (filled b l pending) lines last other to.1 walks.1,
)

-- the lines of a sound tree walk, and then what follows does
pub tree_first : (p : Problem) (cuts : List Cut) (target : ℕ) (b : Branching) (pending : List Branching) (tree : Tree) (lines : List TreeLine)
    (last : List Branching) → IsSound p cuts target b tree → Walks p cuts target pending lines last
    → Walks p cuts target (b ∷ pending) (preorder tree ++ lines) last
tree_first p cuts target b pending (branch k opened closed) lines last sound walks =
    let rest = tree_first p cuts target (closed_child b k) pending closed lines last sound.2 walks in
    let both = tree_first p cuts target (open_child b k) (closed_child b k ∷ pending) opened (preorder closed ++ lines) last sound.1 rest in
    subst (λ (ls : List TreeLine). Walks p cuts target (b ∷ pending) (branch_on k ∷ ls) last)
    (sym (append_assoc (preorder opened) (preorder closed) lines)) (sound.0, both)
tree_first p cuts target b pending (leaf denom weights) lines last sound walks = (sound, walks)
tree_first p cuts target b pending empty lines last sound walks = (sound, walks)
tree_first p cuts target b pending (block commodity) lines last sound walks = (sound, walks)
tree_first p cuts target b pending count lines last sound walks = (sound, walks)

pub tree_walks : (p : Problem) (cuts : List Cut) (target : ℕ) (b : Branching) (tree : Tree) → IsSound p cuts target b tree
    → Walks p cuts target (b ∷ []) (preorder tree) []
tree_walks p cuts target b tree sound =
    subst (λ (ls : List TreeLine). Walks p cuts target (b ∷ []) ls []) (append-nil (preorder tree))
    (tree_first p cuts target b [] tree [] [] sound refl)

-- ---- steps

-- the same walk by other names of its cuts and lines
pub walk_by : (p : Problem) (target : ℕ) (first other : List Branching) (cuts now : List Cut) (lines written : List TreeLine) → cuts ≡ now
    → lines ≡ written → Walks p cuts target first lines other → Walks p now target first written other
walk_by p target first other cuts now lines written same_cuts same_lines walks =
    subst (λ (cs : List Cut). Walks p cs target first written other) same_cuts
    (subst (λ (ls : List TreeLine). Walks p cuts target first ls other) same_lines walks)

pub says_same : (target : ℕ) (before after : Option ℕ) → after ≡ before → Says target before → Says target after
says_same target before after same says = subst (Says target) (sym same) says

-- a leaf that says so much, and what was said before
pub says_both : (target r : ℕ) (left : Option ℕ) → target ≤ r → Says target left → Says target (Some (lesser r left))
says_both target r None less says = omega (arith, less)
says_both target r (Some m) less says = omega (arith, less, says)

pub keeps_twice : (p : Problem) (first : List Branching) (before middle after : TreeProgress) → KeepsBest p first before middle
    → KeepsBest p first middle after → KeepsBest p first before after
keeps_twice p first before middle after one two = λ target proves.
    (let late = two target proves in let early = one target late.0 in (early.0, λ says. late.1 (early.1 says)))

pub keeps_lines : (p : Problem) (first : List Branching) (before after : TreeProgress) → cuts_of p after ≡ cuts_of p before
    → lines_of after.lines.items ≡ lines_of before.lines.items → after.left ≡ before.left → KeepsBest p first before after
keeps_lines p first before after cuts lines left = λ target proves. (
  (
    proves.0,
    walk_by p target first proves.0 (cuts_of p after) (cuts_of p before) (lines_of after.lines.items) (lines_of before.lines.items) cuts lines proves.1,
  ),
  says_same target before.left after.left left,
)

pub keeps_line : (p : Problem) (first : List Branching) (before after : TreeProgress) (l : TreeLine) → cuts_of p after ≡ cuts_of p before
    → lines_of after.lines.items ≡ lines_of before.lines.items ++ l ∷ [] → after.left ≡ before.left → KeepsBest p first before after
keeps_line p first before after l cuts lines left = λ target proves. (
  front p (cuts_of p before) target first (lines_of before.lines.items) l proves.0
      (walk_by p target first proves.0 (cuts_of p after) (cuts_of p before) (lines_of after.lines.items) (lines_of before.lines.items ++ l ∷ [])
      cuts lines proves.1),
  says_same target before.left after.left left,
)

pub keeps_cut : (p : Problem) (first last : List Branching) (before after : TreeProgress) (cut : Cut) → WalksTo p before first last
    → cuts_of p after ≡ cuts_of p before ++ cut ∷ [] → lines_of after.lines.items ≡ lines_of before.lines.items
    → after.left ≡ before.left → KeepsBest p first before after
keeps_cut p first last before after cut walks cuts lines left = λ target proves. (
  (
    proves.0,
    walks_without p (cuts_of p before) cut (lesser before.cost before.left) target first (lines_of before.lines.items) last proves.0 walks
        (walk_by p target first proves.0 (cuts_of p after) (cuts_of p before ++ cut ∷ []) (lines_of after.lines.items)
        (lines_of before.lines.items) cuts lines proves.1),
  ),
  says_same target before.left after.left left,
)

-- both facts of what is done
pub on_ok_both : {T E P Q G : Type 0} (r : Result T E) → (P → Q → G) → OnOk r P → OnOk r Q → OnOk r G
on_ok_both (Ok x) f one two = f one two
on_ok_both (Err e) f one two = tt
