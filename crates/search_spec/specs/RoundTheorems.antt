-- What is proved of the search by rounds; each statement is the contract of the public function of its name.
use Rattle.std.specs.Prelude.{◌≡◌, ℕ, ◌+◌, ◌^◌, ◌<◌, ◌≤◌, true, false, length, Option, IsSome, IsNone}
use Rattle.hub_spec.specs.Problem.{Problem, IsProblem}
use Rattle.search_spec.specs.States.{State, Parts, Grown, answer}
use Rattle.search_spec.specs.Laws.{AreSound, IsStart}
use Rattle.search_spec.specs.Findings.{IsProof, IsSpent, IsEnough, IsCounted}
use Rattle.search_spec.specs.Places.{Standing}
use Rattle.search_spec.specs.Outcomes.{outcomes_of, taken_in_order}
use Rattle.search_spec.specs.Turns.{next_round, goes_on, rounds, at_root}
use Rattle.search_spec.specs.Lasting.{turns_left, stood, searched_by_rounds}

-- so it is of what each search by rounds finds: with any sound parts, whatever number of nodes is allowed, from any
-- start
abbrev pub OfEachSearch : (Problem → Option ℕ → Grown → Type 0) → Type 0
OfEachSearch P = (p : Problem) (parts : Parts) (n : Option ℕ) (s : State) → IsProblem p → AreSound p parts
    → IsStart p s → P p n (searched_by_rounds p parts n s)

-- it shows its answer
abbrev pub RoundSearchIsSound : Type 0
RoundSearchIsSound = OfEachSearch (λ p n g. IsProof p g)

-- its tree has a line for each node that was made, and no more than are allowed
abbrev pub RoundSearchIsCounted : Type 0
RoundSearchIsCounted = OfEachSearch (λ p n g. IsCounted p n g)

-- a stop comes only where two nodes more are not allowed; without one the answer is the cost
pub record StopsForNodes (n : Option ℕ) (g : Grown) : Type 0 where
  pub spent : IsSome g.state.stop → IsSpent n g.state.made
  pub whole : IsNone g.state.stop → answer g.state ≡ g.state.cost

-- it was stopped only for want of nodes
abbrev pub RoundStopIsForNodes : Type 0
RoundStopIsForNodes = OfEachSearch (λ p n g. StopsForNodes n g)

-- with as many nodes as a whole tree has it was not stopped
abbrev pub RoundEnoughNodesSuffice : Type 0
RoundEnoughNodesSuffice = OfEachSearch (λ p n g. IsEnough (2 ^ (length p.candidates + 1)) n → IsNone g.state.stop)

-- its cost never rises
abbrev pub RoundCostNeverRises : Type 0
RoundCostNeverRises = (p : Problem) (parts : Parts) (n : Option ℕ) (s : State) → (searched_by_rounds p parts n s).state.cost ≤ s.cost

-- each round leaves fewer node evaluations than there were, so the rounds end
abbrev pub EachRoundFalls : Type 0
EachRoundFalls = (p : Problem) (parts : Parts) (n : Option ℕ) (s : State) (m : ℕ) → IsProblem p → AreSound p parts → IsStart p s
    → goes_on (rounds m p parts n (at_root p s)) ≡ true
    → turns_left parts (next_round p parts n (rounds m p parts n (at_root p s))).state (next_round p parts n (rounds m p parts n (at_root p s))).places
    < turns_left parts (rounds m p parts n (at_root p s)).state (rounds m p parts n (at_root p s)).places

-- after the rounds of a search no other follows
abbrev pub RoundsAreOver : Type 0
RoundsAreOver = (p : Problem) (parts : Parts) (n : Option ℕ) (s : State) → IsProblem p → AreSound p parts → IsStart p s
    → goes_on (stood p parts n s) ≡ false

-- a round is all node evaluations by the state at its start, and then what is taken of their outcomes in order
abbrev pub RoundIsByOutcomes : Type 0
RoundIsByOutcomes = (p : Problem) (parts : Parts) (n : Option ℕ) (t : Standing)
    → next_round p parts n t ≡ taken_in_order p parts n (outcomes_of p parts t.state t.places) t.places t.state
