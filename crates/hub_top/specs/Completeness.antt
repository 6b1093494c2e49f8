-- The status of a run in which nothing fails.
use Rattle.std.specs.Prelude.{◌≡◌, ℕ, List, Option, Some, None, ◌⊎◌}
use Rattle.hub_io.specs.Outside.{Files}
use Rattle.hub_spec.specs.Problem.{Problem, IsSameNetwork}
use Rattle.hub_spec.specs.Lacking.{lacking}
use Rattle.cert_spec.specs.Verdicts.{Verdict, Why, Certifies, Older, IsOlder}
use Rattle.file_spec.specs.Faults.{Fault}
use Rattle.hub_make.specs.Contents.{made_problem}
use Rattle.hub_commands.specs.declared.status.Status.{Status}
use Rattle.hub_commands.specs.declared.status.Status.TheVariants.{Done, Stopped, No, Usage, Instance, Memory, Lacking}
use Rattle.hub_words.specs.Requests.{Source, SearchRule, follow, again, older_named, gap_of, Solving, Making, Search, Request, instance, solve, check, report, make, demo}
use Rattle.hub_sources.specs.Sources.{Blame, HasBlame, HoldsInstance}
use Rattle.hub_commands.specs.Methods.{cold, method_of, demo_method}
use Rattle.hub_commands.specs.Searches.{IsEnoughFor}
use Rattle.hub_commands.specs.Older.{IsSaid, MayBegin}
use Rattle.hub_commands.specs.Lines.{older_line}
use Rattle.hub_commands.specs.VerdictStatuses.{verdict_status, report_status}
use Rattle.hub_commands.specs.Statuses.{rule_status, solve_status, older_status}

-- the run ended with a status of which this holds, or for want of memory
abbrev pub EndsAs : (Status → Type 0) → Status → Type 0
EndsAs wanted status = wanted status ⊎ (status ≡ Memory)

-- with this status, or for want of memory
abbrev pub EndsWith : Status → Status → Type 0
EndsWith wanted status = EndsAs (λ x. x ≡ wanted) status

-- how a run ends in which no fault rises: as the words and the files say, or for want of memory
pub record Completeness (asked : Option Request) (held : Option Files) (quiet : Type 0) (status : Status) : Type 0 where
  -- words that are no command
  pub usage : asked ≡ None → quiet → EndsWith Usage status
  -- any command whose instance has a fault
  pub fault : (files : Files) (request : Request) (s : Source) (blame : Blame) (fault : Fault) → held ≡ Some files → asked ≡ Some request
      → instance request ≡ Some s → HasBlame files s blame fault → quiet → EndsWith Instance status
  -- `solve`, `resolve` and `optimize` with an instance: 8 where all candidates together are infeasible for a
  -- commodity, whatever is held of an older certificate
  pub networkless : (files : Files) (s : Solving) (p : Problem) (commodity : ℕ × ℕ) → held ≡ Some files → asked ≡ Some (solve s)
      → HoldsInstance files s.source p → lacking p p.candidates ≡ Some commodity → quiet → EndsWith Lacking status
  -- and where they are feasible, with bytes that do not serve as the older certificate that is named: 2
  pub refused : (files : Files) (s : Solving) (older bytes line : List ℕ) (said : Older) (p : Problem) → held ≡ Some files
      → asked ≡ Some (solve s) → older_named s.how ≡ Some older → HoldsInstance files s.source p → lacking p p.candidates ≡ None
      → files older ≡ Some bytes → IsSaid s.how p bytes said → older_line said ≡ Some line → quiet → EndsWith No status
  -- and with one that serves, or where none is named: the bound is the cost, or it is below
  pub bounded : (files : Files) (s : Solving) (p : Problem) → held ≡ Some files → asked ≡ Some (solve s) → HoldsInstance files s.source p
      → lacking p p.candidates ≡ None → MayBegin (Some files) p s.how → quiet → EndsAs (λ x. (x ≡ Done) ⊎ (x ≡ Stopped)) status
  -- and where no gap is allowed too, and as many nodes as a whole tree has, it is solved
  pub enough : (files : Files) (s : Solving) (p : Problem) → held ≡ Some files → asked ≡ Some (solve s) → HoldsInstance files s.source p
      → lacking p p.candidates ≡ None → MayBegin (Some files) p s.how → gap_of s.how ≡ 0 → IsEnoughFor p s.search.nodes → quiet
      → EndsWith Done status
  -- `solve`: 8 where all candidates together are infeasible for a commodity, else the status of what the requested
  -- rule finds
  pub solved : (files : Files) (s : Solving) (rule : SearchRule) (p : Problem) → held ≡ Some files → asked ≡ Some (solve s)
      → s.how ≡ follow rule → HoldsInstance files s.source p → quiet → EndsWith (solve_status p (method_of s.search (cold rule))) status
  -- `resolve`, where they are feasible: 2 where the older certificate does not serve, else the status of what the
  -- search rule finds from its start
  pub resolved : (files : Files) (s : Solving) (older : List ℕ) (p : Problem) (bytes : List ℕ) (said : Older) → held ≡ Some files
      → asked ≡ Some (solve s) → s.how ≡ again older → HoldsInstance files s.source p → lacking p p.candidates ≡ None
      → files older ≡ Some bytes → IsOlder p bytes said → quiet → EndsWith (older_status p s.search said) status
  -- one that certifies for an instance that differs in fixed costs and numbers of hubs alone serves
  pub served : (files : Files) (s : Solving) (older : List ℕ) (p before : Problem) (bytes : List ℕ) (bound cost : ℕ) → held ≡ Some files
      → asked ≡ Some (solve s) → s.how ≡ again older → HoldsInstance files s.source p → lacking p p.candidates ≡ None
      → files older ≡ Some bytes → IsSameNetwork before p → Certifies before bytes bound cost → quiet
      → EndsAs (λ x. (x ≡ Done) ⊎ (x ≡ Stopped)) status
  -- `check` with an instance and a certificate: the status of the verdict on its bytes
  pub judged : (files : Files) (s : Source) (certificate : List ℕ) (p : Problem) (bytes : List ℕ) (verdict : Verdict)
      → held ≡ Some files → asked ≡ Some (check s certificate) → HoldsInstance files s p → files certificate ≡ Some bytes
      → Why p bytes verdict → quiet → EndsWith (verdict_status verdict) status
  -- `report` with an instance and a certificate: 0 exactly where its bytes certify
  pub reported : (files : Files) (s : Source) (certificate : List ℕ) (p : Problem) (bytes : List ℕ) (verdict : Verdict)
      → held ≡ Some files → asked ≡ Some (report s certificate) → HoldsInstance files s p → files certificate ≡ Some bytes
      → Why p bytes verdict → quiet → EndsWith (report_status verdict) status
  -- `make`
  pub made : (m : Making) → asked ≡ Some (make m) → quiet → EndsWith Done status
  -- `demo`: the status of what the search rule finds for the made instance
  pub shown : (m : Making) (search : Search) → asked ≡ Some (demo m search) → quiet
      → EndsWith (rule_status (made_problem m.seed m.size) (demo_method search)) status
  -- and with as many nodes as a whole tree has it is solved
  pub shown_whole : (m : Making) (search : Search) → asked ≡ Some (demo m search)
      → IsEnoughFor (made_problem m.seed m.size) search.nodes → quiet → EndsWith Done status
