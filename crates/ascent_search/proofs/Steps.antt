-- How the steps of a search follow one another.
use Rattle.std.proofs.Common.{◌≡◌, ℕ, zero, suc, ◌+◌, ◌-◌, ◌^◌, ◌<◌, ◌≤◌, List, [], ◌∷◌, ◌++◌, length, Bool, true, false, IsTrue, Option, None, Some, refl, sym, ap, subst, ◌∙◌, append-nil, pow_pos, arith}
use Rattle.std.proofs.lemmas.List.{length_push, map_push}
use Rattle.std.proofs.lemmas.List.Elements.{All-push}
use Rattle.hub_spec.specs.Limits.{most_cuts, most_tree_lines}
use Rattle.hub_spec.specs.Problem.{Problem}
use Rattle.hub_spec.specs.Plans.{IsHubSet, HasWanted, IsSetCost}
use Rattle.hub_spec.specs.Cuts.{Cut}
use Rattle.hub_spec.specs.Trees.{Branching, root, open_child, closed_child, TreeLine, branch_on}
use Rattle.hub_spec.specs.Ranges.{IsFirstLine, IsLineInRange}
use Rattle.hub_model.specs.declared.tree_lines.TreeLine as model
use Rattle.hub_model.specs.Lines.{tree_line_of}
use Rattle.search_spec.specs.States.{lesser}
use Rattle.search_spec.specs.Findings.{AreWithin, IsSpent, IsEnough}
use Rattle.search_spec.specs.Costs.{first_hubs}
use Rattle.search_spec.proofs.FallingCosts.{least_to}
use Rattle.search_spec.proofs.Invariants.{lesser_less}
use Rattle.search_spec.proofs.Leaves.{double}
use Rattle.search_spec.proofs.Parting.{length-without}
use Rattle.search_spec.specs.Walks.{IsSoundLine, filled, Walks}
use Rattle.search_spec.proofs.Walking.{goes_on, stays}
use Rattle.cut_pool.specs.Kept.{Kept, KeptList, kept_cut, kept_cuts, IsRemade, IsKeptFor, AreKeptFor}
use Rattle.cut_pool.specs.Findings.{lines_of, IsUnlimited}
use Rattle.ascent_search.specs.Ends.{IsEndLine}
use Rattle.ascent_search.specs.declared.task.SearchTask.{SearchTask}
use Rattle.ascent_search.specs.declared.progress.TreeProgress.{TreeProgress}
use Rattle.ascent_search.specs.Gaps.{IsWithinGap}
use Rattle.ascent_search.specs.SingleCuts.{AreLoads}
use Rattle.ascent_search.specs.Progressing.{cuts_of, target_of, WalksTo, KeepsBest, IsGoing, IsAt, MayBeWhole, IsDone, IsLastLine, IsHalved, IsAdvised, IsOver}
use Rattle.ascent_search.proofs.BestBounds.{last_sound, walk_by, says_both, keeps_twice, keeps_lines, keeps_line, keeps_cut}
use Rattle.ascent_search.proofs.Gaps.{fallen_within}
use Rattle.ascent_search.proofs.KeptSums.{kept_more}

-- ---- one line more

-- this line was added, and so many nodes are made
pub record HasLine (before after : TreeProgress) (line : model.TreeLine) (count : ℕ) : Type 0 where
  pub cuts : after.cuts ≡ before.cuts
  pub lines : after.lines.items ≡ before.lines.items ++ line ∷ []
  pub hubs : after.hubs ≡ before.hubs
  pub cost : after.cost ≡ before.cost
  pub made : after.made ≡ count
  pub stopped : after.stopped ≡ before.stopped
  pub left : after.left ≡ before.left

line_more : (before after : TreeProgress) (line : model.TreeLine) (count : ℕ) → HasLine before after line count
    → length after.lines.items ≡ length before.lines.items + 1
line_more before after line count has = ap length has.lines ∙ length_push before.lines.items line

line_walks : (p : Problem) (before after : TreeProgress) (line : model.TreeLine) (count : ℕ) (b : Branching) (first pending : List Branching)
    → HasLine before after line count → IsSoundLine p (cuts_of p before) (target_of before) b (tree_line_of line)
    → WalksTo p before first (b ∷ pending) → WalksTo p after first (filled b (tree_line_of line) pending)
line_walks p before after line count b first pending has sound walks =
    rw (has.cuts, has.cost, has.left, has.lines, map_push tree_line_of before.lines.items line)
    (goes_on p (cuts_of p before) (target_of before) first (lines_of before.lines.items) b pending (tree_line_of line) walks sound)

line_written : (before after : TreeProgress) (line : model.TreeLine) (count : ℕ) → HasLine before after line count
    → lines_of after.lines.items ≡ lines_of before.lines.items ++ tree_line_of line ∷ []
line_written before after line count has = ap lines_of has.lines ∙ map_push tree_line_of before.lines.items line

line_best : (p : Problem) (before after : TreeProgress) (line : model.TreeLine) (count : ℕ) (first : List Branching) → HasLine before after line count
    → KeepsBest p first before after
line_best p before after line count first has =
    keeps_line p first before after (tree_line_of line) (ap (λ (cs : KeptList). kept_cuts p cs.cuts) has.cuts)
    (line_written before after line count has) has.left

pub line_last : (t : SearchTask) (b : Branching) (before after : TreeProgress) (line : model.TreeLine) (count : ℕ) → HasLine before after line count
    → IsLastLine t b (tree_line_of line) before after
line_last t b before after line count has = λ first pending target to proves.
    (let p = t.instance.now in
    last_sound p (cuts_of p before) (target_of before) target first (lines_of before.lines.items) b pending (tree_line_of line) proves.0 to
    (walk_by p target first proves.0 (cuts_of p after) (cuts_of p before) (lines_of after.lines.items)
    (lines_of before.lines.items ++ tree_line_of line ∷ []) (ap (λ (cs : KeptList). kept_cuts p cs.cuts) has.cuts)
    (line_written before after line count has) proves.1))

spent_on : (n : Option ℕ) (made more : ℕ) → made ≤ more → IsSpent n made → IsSpent n more
spent_on None made more less spent = spent
spent_on (Some most) made more less spent = omega (arith, less, spent)

line_going : (t : SearchTask) (before after : TreeProgress) (line : model.TreeLine) (count : ℕ) → IsGoing t before → HasLine before after line count
    → length after.lines.items ≤ most_tree_lines → IsLineInRange t.instance.now.size (tree_line_of line)
    → (IsUnlimited t.instance.now → IsFirstLine (tree_line_of line)) → before.made ≤ count
    → count ≤ before.made + 2 → AreWithin t.nodes count → IsGoing t after
line_going t before after line count going has few in_range first more less within = record {
  problem = going.problem;
  kept = subst (AreKeptFor t.instance.now) (sym has.cuts) going.kept;
  own = rw has.cuts going.own;
  few_cuts = rw has.cuts going.few_cuts;
  few_lines = few;
  in_range = rw (has.lines, map_push tree_line_of before.lines.items line)
      (All-push (IsLineInRange t.instance.now.size) (lines_of before.lines.items) (tree_line_of line) going.in_range in_range);
  first_lines = λ any. rw (has.lines, map_push tree_line_of before.lines.items line)
      (All-push IsFirstLine (lines_of before.lines.items) (tree_line_of line) (going.first_lines any) (first any));
  hubs = rw has.hubs going.hubs;
  wanted = rw has.hubs going.wanted;
  cost = rw (has.hubs, has.cost) going.cost;
  at_most = rw has.cost going.at_most;
  given = rw has.cost going.given;
  cost_limit = rw has.cost going.cost_limit;
  made = omega (arith, has.made, less, going.made, line_more before after line count has);
  allowed = subst (AreWithin t.nodes) (sym has.made) within;
  spent = λ stopped. subst (IsSpent t.nodes) (sym has.made)
      (spent_on t.nodes before.made count more (going.spent (subst (λ (x : Bool). IsTrue x) has.stopped stopped)));
  gap_limit = going.gap_limit;
  near = rw (has.stopped, has.cost, has.left) going.near;
}

pub line_done : (t : SearchTask) (b : Branching) (before after : TreeProgress) (line : model.TreeLine) → IsGoing t before → IsEndLine (tree_line_of line)
    → IsSoundLine t.instance.now (cuts_of t.instance.now before) (target_of before) b (tree_line_of line)
    → IsLineInRange t.instance.now.size (tree_line_of line) → (IsUnlimited t.instance.now → IsFirstLine (tree_line_of line))
    → length after.lines.items ≤ most_tree_lines
    → HasLine before after line before.made → IsDone t b before after
line_done t b before after line going end sound in_range first few has =
    let p = t.instance.now in
    record {
      going = line_going t before after line before.made going has few in_range first (omega arith) (omega arith)
          going.allowed;
      walks = λ first pending walks. subst (WalksTo p after first) (end b pending)
          (line_walks p before after line before.made b first pending has sound walks);
      best = λ first pending walks. line_best p before after line before.made first has;
      lines = omega (arith, line_more before after line before.made has, has.made);
      most = omega (arith, has.made, double (length b.free), pow_pos (length b.free));
      enough = λ room none. has.stopped ∙ none;
    }

pub line_halved : (t : SearchTask) (b : Branching) (k : ℕ) (before after : TreeProgress) (line : model.TreeLine) → IsGoing t before
    → tree_line_of line ≡ branch_on k → IsSoundLine t.instance.now (cuts_of t.instance.now before) (target_of before) b (branch_on k)
    → k < t.instance.now.size → AreWithin t.nodes (before.made + 2) → length after.lines.items ≤ most_tree_lines
    → HasLine before after line (before.made + 2) → IsHalved t b k before after
line_halved t b k before after line going is sound node within few has =
    let p = t.instance.now in
    record {
      free = sound;
      going = line_going t before after line (before.made + 2) going has few
          (subst (IsLineInRange p.size) (sym is) node) (λ any. subst IsFirstLine (sym is) tt)
          (omega arith) (omega arith) within;
      walks = λ first pending walks. subst (λ (l : TreeLine). WalksTo p after first (filled b l pending)) is
          (line_walks p before after line (before.made + 2) b first pending has
          (subst (IsSoundLine p (cuts_of p before) (target_of before) b) (sym is) sound) walks);
      best = λ first pending walks. line_best p before after line (before.made + 2) first has;
      lines = line_more before after line (before.made + 2) has;
      made = has.made;
      stopped = has.stopped;
    }

-- ---- no line more

pub at_same : (t : SearchTask) (s : TreeProgress) → IsGoing t s → IsAt t s s
at_same t s going = record {
  going = going;
  walks = λ first last walks. walks;
  best = λ first last walks. λ target proves. (proves, λ says. says);
  lines = refl;
  made = refl;
  stopped = refl;
}

pub at_twice : (t : SearchTask) (before middle after : TreeProgress) → IsAt t before middle → IsAt t middle after → IsAt t before after
at_twice t before middle after one two = record {
  going = two.going;
  walks = λ first last walks. two.walks first last (one.walks first last walks);
  best = λ first last walks.
      keeps_twice t.instance.now first before middle after (one.best first last walks) (two.best first last (one.walks first last walks));
  lines = two.lines ∙ one.lines;
  made = two.made ∙ one.made;
  stopped = two.stopped ∙ one.stopped;
}

pub at_done : (t : SearchTask) (b : Branching) (before middle after : TreeProgress) → IsAt t before middle → IsDone t b middle after → IsDone t b before after
at_done t b before middle after at done = record {
  going = done.going;
  walks = λ first pending walks. done.walks first pending (at.walks first (b ∷ pending) walks);
  best = λ first pending walks.
      keeps_twice t.instance.now first before middle after (at.best first (b ∷ pending) walks)
      (done.best first pending (at.walks first (b ∷ pending) walks));
  lines = omega (arith, at.lines, at.made, done.lines);
  most = omega (arith, at.made, done.most);
  enough = λ room none. done.enough (subst (λ (made : ℕ). IsEnough (made + 2 ^ (length b.free + 1) - 1) t.nodes) (sym at.made) room)
      (at.stopped ∙ none);
}

-- the result of a heuristic's proposal, seen from an earlier state with the same lines and nodes
pub at_advised : (t : SearchTask) (b : Branching) (before middle after : TreeProgress) (ended : Bool) → IsAt t before middle → IsAdvised t b middle after ended
    → IsAdvised t b before after ended
at_advised t b before middle after true at done = at_done t b before middle after at done
at_advised t b before middle after false at more = (at_twice t before middle after at more.0, more.1)

target_falls : (p : Problem) (before : TreeProgress) (lower : ℕ) → lower ≤ target_of before → (first last : List Branching)
    → WalksTo p before first last → Walks p (cuts_of p before) lower first (lines_of before.lines.items) last
target_falls p before lower less first last walks =
    subst (λ (cs : List Cut). Walks p cs lower first (lines_of before.lines.items) last) (append-nil (cuts_of p before))
    (stays p (cuts_of p before) [] (target_of before) lower first (lines_of before.lines.items) last less walks)

-- the incumbent was replaced by one that costs no more
pub record HasOffer (before after : TreeProgress) : Type 0 where
  pub cuts : after.cuts ≡ before.cuts
  pub lines : after.lines ≡ before.lines
  pub made : after.made ≡ before.made
  pub stopped : after.stopped ≡ before.stopped
  pub left : after.left ≡ before.left
  pub cost : after.cost ≤ before.cost

pub offer_at : (t : SearchTask) (before after : TreeProgress) → IsGoing t before → HasOffer before after → IsHubSet t.instance.now after.hubs
    → HasWanted t.instance.now after.hubs → IsSetCost t.instance.now after.hubs after.cost → IsAt t before after
offer_at t before after going has set wanted is_cost =
    let p = t.instance.now in
    let falls : lesser after.cost before.left ≤ target_of before = lesser_less after.cost before.cost before.left has.cost in
    record {
      going = record {
        problem = going.problem;
        kept = subst (AreKeptFor p) (sym has.cuts) going.kept;
        own = rw has.cuts going.own;
        few_cuts = rw has.cuts going.few_cuts;
        few_lines = rw has.lines going.few_lines;
        in_range = rw has.lines going.in_range;
        first_lines = rw has.lines going.first_lines;
        hubs = set;
        wanted = wanted;
        cost = is_cost;
        at_most = least_to p (first_hubs p) after.cost before.cost has.cost going.at_most;
        given = least_to p t.first.now after.cost before.cost has.cost going.given;
        cost_limit = omega (arith, has.cost, going.cost_limit);
        made = rw (has.lines, has.made) going.made;
        allowed = rw has.made going.allowed;
        spent = rw (has.made, has.stopped) going.spent;
        gap_limit = going.gap_limit;
        near = λ goes. subst (λ (o : Option ℕ). IsWithinGap t.gap (lesser after.cost o) after.cost) (sym has.left)
            (fallen_within t.gap before.cost after.cost before.left going.gap_limit has.cost (going.near (sym has.stopped ∙ goes)));
      };
      walks = λ first last walks. rw (has.cuts, has.left, has.lines) (target_falls p before (lesser after.cost before.left) falls first last walks);
      best = λ first last walks.
          keeps_lines p first before after (ap (λ (cs : KeptList). kept_cuts p cs.cuts) has.cuts) (ap (λ ls. lines_of ls.items) has.lines) has.left;
      lines = ap (λ ls. length ls.items) has.lines;
      made = has.made;
      stopped = has.stopped;
    }

-- the cut was added, and nothing else
pub record HasCut (before after : TreeProgress) (cut : Kept) (sum : ℕ) (loads : List ℕ) : Type 0 where
  pub cuts : after.cuts ≡ record {
    cuts = before.cuts.cuts ++ cut ∷ [];
    totals = before.cuts.totals ++ sum ∷ [];
    loads = before.cuts.loads ++ loads ∷ [];
  }
  pub lines : after.lines ≡ before.lines
  pub hubs : after.hubs ≡ before.hubs
  pub cost : after.cost ≡ before.cost
  pub made : after.made ≡ before.made
  pub stopped : after.stopped ≡ before.stopped
  pub left : after.left ≡ before.left

pub cut_at_step : (t : SearchTask) (before after : TreeProgress) (cut : Kept) (sum : ℕ) (loads : List ℕ) → IsGoing t before → HasCut before after cut sum loads
    → IsRemade cut → IsKeptFor t.instance.now cut → AreLoads t.instance.now (kept_cut t.instance.now cut) sum loads → length before.cuts.cuts < most_cuts
    → IsAt t before after
cut_at_step t before after cut sum loads going has own fits sums few =
    let p = t.instance.now in
    record {
      going = record {
        problem = going.problem;
        kept = kept_more p before.cuts after.cuts cut sum loads going.kept fits sums has.cuts;
        own = rw has.cuts (All-push IsRemade before.cuts.cuts cut going.own own);
        few_cuts = rw has.cuts (omega (arith, length_push before.cuts.cuts cut, few));
        few_lines = rw has.lines going.few_lines;
        in_range = rw has.lines going.in_range;
        first_lines = rw has.lines going.first_lines;
        hubs = rw has.hubs going.hubs;
        wanted = rw has.hubs going.wanted;
        cost = rw (has.hubs, has.cost) going.cost;
        at_most = rw has.cost going.at_most;
        given = rw has.cost going.given;
        cost_limit = rw has.cost going.cost_limit;
        made = rw (has.lines, has.made) going.made;
        allowed = rw has.made going.allowed;
        spent = rw (has.made, has.stopped) going.spent;
        gap_limit = going.gap_limit;
        near = rw (has.stopped, has.cost, has.left) going.near;
      };
      walks = λ first last walks. rw (has.cuts, has.cost, has.left, has.lines, map_push (kept_cut p) before.cuts.cuts cut)
          (stays p (cuts_of p before) (kept_cut p cut ∷ []) (target_of before) (target_of before) first (lines_of before.lines.items) last (omega arith) walks);
      best = λ first last walks.
          keeps_cut p first last before after (kept_cut p cut) walks
          (ap (λ (cs : KeptList). kept_cuts p cs.cuts) has.cuts ∙ map_push (kept_cut p) before.cuts.cuts cut)
          (ap (λ ls. lines_of ls.items) has.lines) has.left;
      lines = ap (λ ls. length ls.items) has.lines;
      made = has.made;
      stopped = has.stopped;
    }

-- ---- what a leaf leaves

-- only what leaves say is another, and there may be a stop
abbrev pub leaving : TreeProgress → Bool → ℕ → TreeProgress
leaving s stopped low = record s { stopped = stopped; left = Some low }

-- where two nodes more are not allowed, or the search did not stop and what its leaves close stays within the gap
pub left_going : (t : SearchTask) (before : TreeProgress) (stopped : Bool) (low : ℕ) → IsGoing t before → (IsTrue stopped → IsSpent t.nodes before.made)
    → (stopped ≡ false → IsWithinGap t.gap (lesser before.cost (Some low)) before.cost) → IsGoing t (leaving before stopped low)
left_going t before stopped low going spent near = record {
  problem = going.problem;
  kept = going.kept;
  own = going.own;
  few_cuts = going.few_cuts;
  few_lines = going.few_lines;
  in_range = going.in_range;
  first_lines = going.first_lines;
  hubs = going.hubs;
  wanted = going.wanted;
  cost = going.cost;
  at_most = going.at_most;
  given = going.given;
  cost_limit = going.cost_limit;
  made = going.made;
  allowed = going.allowed;
  spent = spent;
  gap_limit = going.gap_limit;
  near = near;
}

left_falls : (cost r : ℕ) (o : Option ℕ) → lesser cost (Some (lesser r o)) ≤ lesser cost o
left_falls cost r None = omega arith
left_falls cost r (Some m) = omega arith

pub left_below : (cost r : ℕ) (o : Option ℕ) → lesser cost (Some (lesser r o)) ≤ r
left_below cost r None = omega arith
left_below cost r (Some m) = omega arith

-- the leaf proves no more than this at the branch
abbrev pub LeafSays : SearchTask → Branching → TreeProgress → TreeLine → ℕ → Type 0
LeafSays t b s line r = (target : ℕ) → IsSoundLine t.instance.now (cuts_of t.instance.now s) target b line → target ≤ r

-- the branch was filled with a leaf that says this, whether or not there was a stop
pub left_done : (t : SearchTask) (b : Branching) (before after : TreeProgress) (stopped : Bool) (r : ℕ) (line : TreeLine)
    → (MayBeWhole t b before → before.stopped ≡ false → after.stopped ≡ false) → LeafSays t b before line r
    → IsDone t b (leaving before stopped (lesser r before.left)) after
    → IsLastLine t b line (leaving before stopped (lesser r before.left)) after → IsDone t b before after
left_done t b before after stopped r line enough leaf done last =
    let p = t.instance.now in
    let falls = λ (first pending : List Branching) (walks : WalksTo p before first (b ∷ pending)).
    target_falls p before (lesser before.cost (Some (lesser r before.left))) (left_falls before.cost r before.left) first (b ∷ pending) walks in
    record {
      going = done.going;
      walks = λ first pending walks. done.walks first pending (falls first pending walks);
      best = λ first pending walks. λ target proves.
          (let kept = done.best first pending (falls first pending walks) target proves in
          let less = leaf target (last first pending target (falls first pending walks) proves) in
          (kept.0, λ says. kept.1 (says_both target r before.left less says)));
      lines = done.lines;
      most = done.most;
      enough = enough;
    }

-- ---- a stop

two_free : (f : ℕ) → 1 ≤ f → 4 ≤ 2 ^ (f + 1)
two_free zero some = absurd (omega arith)
two_free (suc f) some = let one : suc f ≡ f + 1 = omega arith in omega (arith, double (suc f), ap (λ (m : ℕ). 2 ^ m) one, double f, pow_pos f)

-- where two nodes more are not allowed, no branch with a free node may have a whole tree
too_few : {G : Type 0} (n : Option ℕ) (made free : ℕ) → IsEnough (made + 2 ^ (free + 1) - 1) n → IsSpent n made → 1 ≤ free → G
too_few None made free room spent some = absurd spent
too_few (Some n) made free room spent some = absurd (omega (arith, room, spent, two_free free some))

pub stop_done : (t : SearchTask) (b : Branching) (before after : TreeProgress) (r : ℕ) (line : TreeLine) → IsSpent t.nodes before.made
    → (before.stopped ≡ false → 1 ≤ length b.free) → LeafSays t b before line r
    → IsDone t b (leaving before true (lesser r before.left)) after
    → IsLastLine t b line (leaving before true (lesser r before.left)) after → IsDone t b before after
stop_done t b before after r line spent due leaf done last =
    left_done t b before after true r line (λ room none. too_few t.nodes before.made (length b.free) room spent (due none)) leaf done last

-- ---- children

enough_less : (n : Option ℕ) (fewer more : ℕ) → fewer ≤ more → IsEnough more n → IsEnough fewer n
enough_less None fewer more less enough = tt
enough_less (Some n) fewer more less enough = omega (arith, less, enough)

pub halved_done : (t : SearchTask) (b : Branching) (k : ℕ) (before begun middle after : TreeProgress) → IsHalved t b k before begun
    → IsDone t (open_child b k) begun middle → IsDone t (closed_child b k) middle after → IsDone t b before after
halved_done t b k before begun middle after halved opened closed =
    let f = length b.free in
    let fewer = length-without k b.free halved.free in
    let power : 2 ^ (length (open_child b k).free + 1) ≡ 2 ^ f = ap (λ (m : ℕ). 2 ^ m) fewer in
    let twice = double f in
    let some : 2 ≤ 2 ^ f = omega (arith, power, double (length (open_child b k).free), pow_pos (length (open_child b k).free)) in
    let p = t.instance.now in
    record {
      going = closed.going;
      walks = λ first pending walks. closed.walks first pending (opened.walks first (closed_child b k ∷ pending) (halved.walks first pending walks));
      best = λ first pending walks.
          (let parted = halved.walks first pending walks in
          let half = opened.walks first (closed_child b k ∷ pending) parted in
          keeps_twice p first before middle after
          (keeps_twice p first before begun middle (halved.best first pending walks) (opened.best first (closed_child b k ∷ pending) parted))
          (closed.best first pending half));
      lines = omega (arith, halved.lines, halved.made, opened.lines, closed.lines);
      most = omega (arith, halved.made, opened.most, closed.most, power, twice);
      enough = λ room none.
          closed.enough
          (enough_less t.nodes (middle.made + 2 ^ (length (closed_child b k).free + 1) - 1) (before.made + 2 ^ (f + 1) - 1)
          (omega (arith, halved.made, opened.most, power, twice)) room)
          (opened.enough
          (enough_less t.nodes (begun.made + 2 ^ (length (open_child b k).free + 1) - 1) (before.made + 2 ^ (f + 1) - 1)
          (omega (arith, halved.made, some, power, twice)) room)
          (halved.stopped ∙ none));
    }

-- ---- the end

pub is_over : (t : SearchTask) (begun after : TreeProgress) → begun.lines.items ≡ [] → begun.made ≡ 1 → begun.stopped ≡ false → begun.left ≡ None
    → IsDone t (root t.instance.now) begun after → IsOver t after
is_over t begun after none one going silent done =
    let p = t.instance.now in
    record {
      going = done.going;
      walks = done.walks (root p ∷ []) [] (rw none refl);
      best = λ target proves. (done.best (root p ∷ []) [] (rw none refl) target proves).1 (rw silent tt);
      lines = omega (arith, done.lines, ap length none, one);
      most = omega (arith, done.most, one);
      enough = λ enough.
          done.enough
          (enough_less t.nodes (begun.made + 2 ^ (length p.candidates + 1) - 1) (2 ^ (length p.candidates + 1)) (omega (arith, one)) enough) going;
    }
