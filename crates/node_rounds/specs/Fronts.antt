-- What came of the nodes of a round in code, in the words of the definition.
use Rattle.std.specs.Prelude.{◌≡◌, List, ◌++◌, map, All}
use Rattle.hub_spec.specs.Problem.{Problem}
use Rattle.hub_model.specs.Lines.{tree_line_of}
use Rattle.cut_pool.specs.Findings.{lines_of}
use Rattle.cut_pool.specs.Entries.{Entry}
use Rattle.search_core.specs.declared.tasks.Task.{Task}
use Rattle.search_steps.specs.Pools.{HasGrown}
use Rattle.search_steps.specs.Progressing.{state_of, IsGoing}
use Rattle.search_spec.specs.Places as places
use Rattle.node_rounds.specs.declared.fronts.Place.{Place}
use Rattle.node_rounds.specs.declared.fronts.Place.TheVariants.{Line, Open}
use Rattle.node_rounds.specs.declared.fronts.RoundState.{RoundState}
use Rattle.node_rounds.specs.Outcomes.{pending_of, IsPendingOf}

-- the place as the definition has it
abbrev pub place_of : Place → places.Place
place_of (Line l) = places.line (tree_line_of l)
place_of (Open x) = places.open_at (pending_of x)

abbrev pub places_of : List Place → List places.Place
places_of ps = map place_of ps

-- a pending node is of a branch of the problem, with weights on the first of these cuts
abbrev pub IsPlaceOf : Problem → List Entry → Place → Type 0
IsPlaceOf p entries (Line l) = Unit {0}
IsPlaceOf p entries (Open x) = IsPendingOf p entries x

-- the search goes on, and the nodes of the front are the problem's
pub record IsFront (t : Task) (f : RoundState) : Type 0 where
  pub going : IsGoing t f.progress
  pub nodes : All (IsPlaceOf t.instance.now f.progress.pool.entries) f.places.items

-- the search goes on from this state, with all its cuts, and these places were added
pub record IsTaken (t : Task) (before after : RoundState) (x : places.Standing) : Type 0 where
  pub state : state_of t.instance.now after.progress ≡ x.state
  pub places : places_of after.places.items ≡ places_of before.places.items ++ x.places
  pub lines : lines_of after.progress.lines.items ≡ lines_of before.progress.lines.items
  pub kept : HasGrown before.progress.pool.entries after.progress.pool.entries
  pub front : IsFront t after
