-- What a text that solves an instance is to a check, that a search has one text, and that files have one fault.
use Rattle.std.specs.Prelude.{◌≡◌, ℕ, ◌≤◌, List, length, Option, ◌⊎◌}
use Rattle.hub_spec.specs.Problem.{Problem, IsProblem}
use Rattle.cert_spec.specs.Verdicts.{Verdict, optimal, bounds, Why, certificate_limit}
use Rattle.hub_io.specs.Outside.{Files}
use Rattle.hub_words.specs.Requests.{How, follow, again, freely, Search}
use Rattle.hub_searches.specs.Methods.{Method}
use Rattle.hub_searches.specs.Searches.{SpellsBy, Solves, Stops, Optimizes, Bounds}
use Rattle.hub_searches.specs.Instances.{SolvesBy}

-- the verdict is the one on the text, and no other
abbrev pub IsOneVerdict : Problem → List ℕ → Verdict → Type 0
IsOneVerdict p text verdict = Why p text verdict × ((other : Verdict) → Why p text other → other ≡ verdict)

-- the verdict on a text that solves the instance, and is not too long, is optimal, with the printed cost, and no other
abbrev pub SolvedIsOptimal : Type 0
SolvedIsOptimal = (p : Problem) (m : Method) (text : List ℕ) (solved : Solves p m (SpellsBy p m text)) → length text ≤ certificate_limit
    → IsOneVerdict p text (optimal solved.certificate.cost)

-- the verdict on a text that stops, and is not too long, is bounds, with the printed bound and cost, and no other
abbrev pub StoppedIsBounds : Type 0
StoppedIsBounds = (p : Problem) (m : Method) (text : List ℕ) (stopped : Stops p m (SpellsBy p m text)) → length text ≤ certificate_limit
    → IsOneVerdict p text (bounds stopped.certificate.bound stopped.certificate.cost)

-- the same of a text of `optimize`
abbrev pub OptimizedIsOptimal : Type 0
OptimizedIsOptimal = (p : Problem) (m : Method) (text : List ℕ) (optimized : Optimizes p m text) → length text ≤ certificate_limit
    → IsOneVerdict p text (optimal optimized.certificate.cost)

abbrev pub BoundedIsBounds : Type 0
BoundedIsBounds = (p : Problem) (m : Method) (gap : ℕ) (text : List ℕ) (bounded : Bounds p m gap text) → length text ≤ certificate_limit
    → IsOneVerdict p text (bounds bounded.certificate.bound bounded.certificate.cost)

-- the text solves the instance by the method, or stops
abbrev pub Ends : Problem → Method → List ℕ → Type 0
Ends p m text = Solves p m (SpellsBy p m text) ⊎ Stops p m (SpellsBy p m text)

-- an instance, a version, a number of nodes and a course have one text, whatever the workers
abbrev pub OneText : Type 0
OneText = (p : Problem) (m : Method) (text other : List ℕ) → Ends p m text → Ends p m other → other ≡ text

-- the cost of a text that solves the instance
abbrev pub solved_cost : (held : Option Files) (p : Problem) (how : How) (q : Search) (text : List ℕ) → SolvesBy held p how q text → ℕ
solved_cost held p (follow rule) q text h = h.certificate.cost
solved_cost held p (again older) q text h = h.is.certificate.cost
solved_cost held p (freely gap from) q text h = h.0.certificate.cost

-- two texts that solve one instance print one cost, whichever of `solve`, `resolve` and `optimize` writes them, and however the
-- searches go
abbrev pub OneCost : Type 0
OneCost = (held other : Option Files) (p : Problem) (how later : How) (q r : Search) (text too : List ℕ) (solved : SolvesBy held p how q text)
    (solved_again : SolvesBy other p later r too) → IsProblem p → solved_cost other p later r too solved_again ≡ solved_cost held p how q text solved
