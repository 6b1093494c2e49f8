-- What searchers side by side send each other, and what they may rely on.
use Rattle.std.specs.Prelude.{◌≡◌, ℕ, zero, suc, List, Option}
use Rattle.std.specs.List.{HoldsAt}
use Rattle.hub_spec.specs.Problem.{Problem}
use Rattle.cut_pool.specs.Entries.{Entry}
use Rattle.search_spec.specs.States.{State}
use Rattle.search_spec.specs.Choices.{begun_for}
use Rattle.search_core.specs.declared.tasks.Task.{Task}
use Rattle.search_steps.specs.Advising.{parts_of}
use Rattle.search_steps.specs.declared.progress.Progress.{Progress}
use Rattle.search_steps.specs.Progressing.{state_of, IsGoing}
use Rattle.cut_pool.specs.Findings.{lines_of}
use Rattle.hub_spec.specs.Trees.{preorder}
use Rattle.search_spec.specs.Lasting.{searched_by_rounds}
use Rattle.search_spec.specs.Places as places
use Rattle.search_spec.specs.Turns.{next_round, at_root}
use Rattle.node_rounds.specs.declared.outcomes.Pending.{Pending}
use Rattle.node_rounds.specs.declared.outcomes.Outcome.{Outcome}
use Rattle.node_rounds.specs.declared.left.Left.{Left}
use Rattle.node_rounds.specs.declared.posts.Worked.{Worked}
use Rattle.node_rounds.specs.declared.searchers.Searcher.{Searcher}
use Rattle.node_rounds.specs.declared.turners.Turner.{Turner}
use Rattle.node_rounds.specs.declared.turners.Turner.TheVariants.{ByCrew, BySearcher}
use Rattle.node_rounds.specs.Outcomes.{outcome_of, IsTurnOf, IsOutcomeOf}
use Rattle.node_rounds.specs.Left.{standing_of, IsLeft, turned_of}

-- ---- outcomes

-- the outcome is the node's turn, by what the search has, and may be relied on
pub record IsTurnBy (p : Problem) (s : Progress) (x : Pending) (o : Outcome) : Type 0 where
  pub turn : IsTurnOf p s.pool.entries s.cost x o
  pub sound : IsOutcomeOf p s.pool.entries x o

-- the other outcome says the same, and may be relied on wherever this one may
pub record IsAsGood (o other : Outcome) : Type 0 where
  pub same : outcome_of other ≡ outcome_of o
  pub sound : (p : Problem) (entries : List Entry) (x : Pending) → IsOutcomeOf p entries x o → IsOutcomeOf p entries x other

-- ---- turns of a search

-- the state in which a search of the problem begins
abbrev pub first_state : Problem → State
first_state p = begun_for p (parts_of p) p.wanted

-- what the search has after so many rounds
unfoldable pub after_rounds : Problem → Option ℕ → ℕ → places.Standing
after_rounds p n zero = at_root p (first_state p)
after_rounds p n (suc round) = next_round p (parts_of p) n (after_rounds p n round)

-- the outcome is that of evaluating the node at this position of the round, for each searcher of the task that has come
-- so far
abbrev pub IsTurnIn : Task → ℕ → ℕ → Outcome → Type 0
IsTurnIn t round place o =
    (s : Progress) (left : Left) → IsLeft t s left → standing_of t.instance.now s left ≡ after_rounds t.instance.now t.nodes round
    → HoldsAt (λ x. IsTurnBy t.instance.now s x o) (turned_of left.nodes.items) place

-- what was worked out is a turn of this search
abbrev pub IsWorked : Task → Worked → Type 0
IsWorked t w = IsTurnIn t w.round w.place w.outcome

-- what the search of the task has at its end
pub record IsWholeSearch (t : Task) (s : Progress) : Type 0 where
  pub state : state_of t.instance.now s ≡ (searched_by_rounds t.instance.now (parts_of t.instance.now) t.nodes (first_state t.instance.now)).state
  pub lines : lines_of s.lines.items
      ≡ preorder (searched_by_rounds t.instance.now (parts_of t.instance.now) t.nodes (first_state t.instance.now)).tree
  pub going : IsGoing t s

-- ---- searchers

-- what the searcher tells and hears is of the search of this task, which has this after the rounds that it counted
pub record IsSearcher (s : Searcher) (t : Task) (x : places.Standing) : Type 0 where
  pub partner : s.partner ≡ t
  pub stands : x ≡ after_rounds t.instance.now t.nodes s.round

-- who works out the turns of the round that begins so
abbrev pub IsTurnerAt : Turner → Task → places.Standing → Type 0
IsTurnerAt ByCrew t x = Unit {0}
IsTurnerAt (BySearcher s) t x = IsSearcher s t x
