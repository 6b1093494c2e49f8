-- The outcomes of `solve`, `resolve` and `optimize` for the files that they name.
use Rattle.std.specs.Prelude.{◌≡◌, ℕ, List, Option, Some, None}
use Rattle.hub_io.specs.Outside.{Files}
use Rattle.hub_spec.specs.Problem.{Problem}
use Rattle.hub_spec.specs.Plans.{Plan, IsPlan}
use Rattle.hub_spec.specs.Lacking.{lacking}
use Rattle.cert_spec.specs.Verdicts.{Older}
use Rattle.hub_words.specs.Requests.{Source, Search, How, follow, again, freely, older_named, Solving}
use Rattle.hub_commands.specs.Older.{FromOlder, MayBegin, BegunAt, HoldsOlder, LacksNamed}
use Rattle.hub_commands.specs.Searches.{Optimizes, Solves, SpellsBy, Bounds, Stops}
use Rattle.hub_commands.specs.Methods.{cold, free_method, method_of}
use Rattle.hub_sources.specs.Sources.{HoldsInstance, WhereTold, together}

-- the text solves the instance by this kind of search
abbrev pub SolvesBy : Option Files → Problem → How → Search → List ℕ → Type 0
SolvesBy held p (follow rule) q text = Solves p (method_of q (cold rule)) (SpellsBy p (method_of q (cold rule)) text)
SolvesBy held p (again older) q text = FromOlder held p (again older) q (λ m. Solves p m (SpellsBy p m text))
SolvesBy held p (freely gap from) q text = Optimizes p (free_method q) text × MayBegin held p (freely gap from)

-- the text is of a search of this kind that stopped: its bound is below its cost
abbrev pub StopsBy : Option Files → Problem → How → Search → List ℕ → Type 0
StopsBy held p (follow rule) q text = Stops p (method_of q (cold rule)) (SpellsBy p (method_of q (cold rule)) text)
StopsBy held p (again older) q text = FromOlder held p (again older) q (λ m. Stops p m (SpellsBy p m text))
StopsBy held p (freely gap from) q text =
    (bounds : Bounds p (free_method q) gap text) × BegunAt held p (freely gap from) bounds.certificate.cost

-- the files give an instance, which the text solves
pub record SolvesInstance (held : Option Files) (s : Solving) (text : List ℕ) : Type 0 where
  pub problem : Problem
  pub instance : WhereTold held (λ files. HoldsInstance files s.source problem)
  pub solves : SolvesBy held problem s.how s.search text

-- the files give an instance, and the text is of a search of it that stopped
pub record StopsInstance (held : Option Files) (s : Solving) (text : List ℕ) : Type 0 where
  pub problem : Problem
  pub instance : WhereTold held (λ files. HoldsInstance files s.source problem)
  pub stops : StopsBy held problem s.how s.search text

-- the files give an instance without a plan: this is the first commodity for which all candidates together are
-- infeasible
pub record LacksNetwork (held : Option Files) (s : Source) (commodity : ℕ × ℕ) : Type 0 where
  pub problem : Problem
  pub instance : WhereTold held (λ files. HoldsInstance files s problem)
  pub lacks : lacking problem problem.candidates ≡ Some commodity
  pub no_plan : (plan : Plan) → IsPlan problem plan → ⊥

-- the files give an instance for which all candidates together are feasible, and bytes that do not serve as an older
-- certificate, for this reason
pub record RefusesOlder (held : Option Files) (s : Solving) (said : Older) : Type 0 where
  pub problem : Problem
  pub instance : WhereTold held (λ files. HoldsInstance files s.source problem)
  pub lacks_none : lacking problem problem.candidates ≡ None
  pub older_held : HoldsOlder held problem s.how said

-- the files give an instance for which all candidates together are feasible, but not the named older certificate
pub record LacksOlder (files : Files) (s : Solving) : Type 0 where
  pub problem : Problem
  pub instance : HoldsInstance files s.source problem
  pub lacks_none : lacking problem problem.candidates ≡ None
  pub lacks : LacksNamed (older_named s.how) files
