-- The headline: what a run says that ends with status 0.
use Rattle.std.specs.Prelude.{◌≡◌, ℕ, ◌≤◌, List, length, Option, Some, ◌⊎◌}
use Rattle.std.specs.Io.KnownBytes.{Appends}
use Rattle.hub_io.specs.Outside.{Files}
use Rattle.hub_spec.specs.Problem.{Problem}
use Rattle.cert_spec.specs.Verdicts.{certificate_limit}
use Rattle.hub_commands.specs.declared.status.Status.{Status}
use Rattle.hub_commands.specs.declared.status.Status.TheVariants.{Done, Stopped, Memory}
use Rattle.hub_words.specs.Requests.{Source, Solving, Request, solve, check}
use Rattle.hub_commands.specs.Lines.{optimal_line}
use Rattle.hub_sources.specs.Sources.{HoldsInstance, IsSameInstance}
use Rattle.hub_commands.specs.Instances.{SolvesInstance, StopsInstance}
use Rattle.cert_checker.specs.Shows.{ProvesOptimal}

-- the headline, for what the words ask for, the files held, what out took, whether no fault rose, and the status
pub record Headline (asked : Option Request) (held : Option Files) (old new : Option (List ℕ)) (quiet : Type 0) (status : Status) : Type 0 where
  -- `solve` by any rule, `resolve`, or `optimize` ended with status 0. Then the text it wrote names hubs and routes
  -- that cost exactly the printed cost. No nonempty set of candidate hubs with any routing costs less. This holds for
  -- any gap and any older certificate.
  pub solved : (files : Files) (s : Solving) → held ≡ Some files → asked ≡ Some (solve s) → status ≡ Done
      → (text : List ℕ) × Appends old new text × SolvesInstance (Some files) s text
  -- `check` on the same instance and that text ends with status 0, where no fault rises, memory is not wanting and the
  -- text has at most 2^30 bytes
  pub checked : (before files : Files) (s : Solving) (t : Source) (certificate text : List ℕ) → held ≡ Some files
      → asked ≡ Some (check t certificate) → SolvesInstance (Some before) s text → length text ≤ certificate_limit
      → IsSameInstance before s.source files t → files certificate ≡ Some text → quiet
      → (status ≡ Done) ⊎ (status ≡ Memory)
  -- so it ends with status 1 on a text with which one of these ended with status 1
  pub bounded : (before files : Files) (s : Solving) (t : Source) (certificate text : List ℕ) → held ≡ Some files
      → asked ≡ Some (check t certificate) → StopsInstance (Some before) s text → length text ≤ certificate_limit
      → IsSameInstance before s.source files t → files certificate ≡ Some text → quiet
      → (status ≡ Stopped) ⊎ (status ≡ Memory)
  -- wherever `check` ends with status 0, on any bytes, the named network attains its cost and no plan costs less
  pub certified : (files : Files) (s : Source) (certificate : List ℕ) → held ≡ Some files → asked ≡ Some (check s certificate) → status ≡ Done
      → (p : Problem) × HoldsInstance files s p
      × (bytes : List ℕ) × (files certificate ≡ Some bytes)
      × (cost : ℕ) × ProvesOptimal p bytes cost × Appends old new (optimal_line cost)
