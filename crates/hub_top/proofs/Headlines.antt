-- The headline follows from what each status says, and from how a run ends in which nothing fails.
use Rattle.std.proofs.Common.{◌≡◌, ℕ, ◌≤◌, List, length, Option, Some, ◌⊎◌, sym, subst, ◌∙◌}
use Rattle.std.specs.Io.KnownBytes.{Appends}
use Rattle.hub_io.specs.Outside.{Files}
use Rattle.hub_spec.specs.Problem.{Problem}
use Rattle.cert_spec.specs.Verdicts.{Verdict, optimal, bounds, misread, too_long, certificate_limit}
use Rattle.cert_spec.specs.Verdicts as verdicts
use Rattle.hub_commands.specs.declared.status.Status.{Status}
use Rattle.hub_commands.specs.declared.status.Status.TheVariants.{Done, Stopped, Memory}
use Rattle.hub_words.specs.Requests.{Source, Solving, Request, solve, check}
use Rattle.hub_commands.specs.Lines.{optimal_line, verdict_text}
use Rattle.hub_sources.specs.Sources.{HoldsInstance}
use Rattle.hub_commands.specs.Instances.{SolvesInstance, StopsInstance}
use Rattle.hub_commands.specs.Checks.{JudgesFile}
use Rattle.cert_checker.specs.Shows.{ProvesOptimal}
use Rattle.hub_commands.specs.VerdictStatuses.{verdict_status}
use Rattle.hub_top.specs.Answers.{Answers}
use Rattle.hub_top.specs.Meanings.{Answered, Means}
use Rattle.hub_sources.specs.Sources.{IsSameInstance}
use Rattle.hub_top.specs.Headline.{Headline}
use Rattle.hub_top.specs.Completeness.{Completeness}
use Rattle.hub_sources.proofs.OneReading.{held_again}
use Rattle.hub_top.proofs.OneTexts.{solving_why, stopping_why}

-- the answer to the request
answers_to : (asked : Option Request) (held : Option Files) (old new : Option (List ℕ)) (h : Answered asked held old new Done)
    → (files : Files) (request : Request) → held ≡ Some files → asked ≡ Some request → Answers request Done (Some files) h.text
answers_to asked held old new h files request told is =
    let e : Some request ≡ Some h.request = sym is ∙ h.is_asked in
    let r : h.request ≡ request = cc in
    subst (λ (x : Request). Answers x Done (Some files) h.text) r (subst (λ (x : Option Files). Answers h.request Done x h.text) told h.answers)

solved_of : (asked : Option Request) (held : Option Files) (old new : Option (List ℕ)) → Answered asked held old new Done
    → (files : Files) (s : Solving) → held ≡ Some files → asked ≡ Some (solve s)
    → (text : List ℕ) × Appends old new text × SolvesInstance (Some files) s text
solved_of asked held old new h files s told is = (h.text, h.taken, answers_to asked held old new h files (solve s) told is)

-- what a verdict says whose status is 0
certifies : (files : Files) (s : Source) (certificate text : List ℕ) (old new : Option (List ℕ)) (v : Verdict) → verdict_status v ≡ Done
    → text ≡ verdict_text v → JudgesFile (Some files) s certificate v → Appends old new text
    → (p : Problem) × HoldsInstance files s p
    × (bytes : List ℕ) × (files certificate ≡ Some bytes)
    × (cost : ℕ) × ProvesOptimal p bytes cost × Appends old new (optimal_line cost)
certifies files s certificate text old new (optimal cost) e is h taken =
    let P : List ℕ → Type 0 = λ x. Appends old new x in
    (h.problem, h.instance, h.bytes, h.bytes_held, cost, h.proves, subst P is taken)
certifies files s certificate text old new (bounds bound cost) e is h taken = cc
certifies files s certificate text old new (verdicts.fails kind line) e is h taken = cc
certifies files s certificate text old new (misread fault) e is h taken = cc
certifies files s certificate text old new too_long e is h taken = cc

certified_of : (asked : Option Request) (held : Option Files) (old new : Option (List ℕ)) → Answered asked held old new Done
    → (files : Files) (s : Source) (certificate : List ℕ) → held ≡ Some files → asked ≡ Some (check s certificate)
    → (p : Problem) × HoldsInstance files s p
    × (bytes : List ℕ) × (files certificate ≡ Some bytes)
    × (cost : ℕ) × ProvesOptimal p bytes cost × Appends old new (optimal_line cost)
certified_of asked held old new h files s certificate told is =
    let judges = answers_to asked held old new h files (check s certificate) told is in
    certifies files s certificate h.text old new judges.verdict judges.of_status judges.of_text judges.judges h.taken

-- a check of a text that solves the same instance
checked_of : (asked : Option Request) (held : Option Files) (quiet : Type 0) (status : Status) → Completeness asked held quiet status
    → (before files : Files) (s : Solving) (t : Source) (certificate text : List ℕ) → held ≡ Some files
    → asked ≡ Some (check t certificate) → SolvesInstance (Some before) s text → length text ≤ certificate_limit
    → IsSameInstance before s.source files t → files certificate ≡ Some text → quiet
    → (status ≡ Done) ⊎ (status ≡ Memory)
checked_of asked held quiet status complete before files s t certificate text told asks h short same there calm =
    let why = solving_why (Some before) h.problem s.how s.search text h.solves short in
    complete.judged files t certificate h.problem text (optimal why.0) told asks
    (held_again before files s.source t h.problem h.instance same) there why.1 calm

-- .. or that stops
bounded_of : (asked : Option Request) (held : Option Files) (quiet : Type 0) (status : Status) → Completeness asked held quiet status
    → (before files : Files) (s : Solving) (t : Source) (certificate text : List ℕ) → held ≡ Some files
    → asked ≡ Some (check t certificate) → StopsInstance (Some before) s text → length text ≤ certificate_limit
    → IsSameInstance before s.source files t → files certificate ≡ Some text → quiet
    → (status ≡ Stopped) ⊎ (status ≡ Memory)
bounded_of asked held quiet status complete before files s t certificate text told asks h short same there calm =
    let why = stopping_why (Some before) h.problem s.how s.search text h.stops short in
    complete.judged files t certificate h.problem text (bounds why.0 why.1) told asks
    (held_again before files s.source t h.problem h.instance same) there why.2 calm

pub headline : (asked : Option Request) (held : Option Files) (fails : Request → Type 0) (old new : Option (List ℕ)) (rose quiet : Type 0) (status : Status)
    → Means asked held fails old new rose status → Completeness asked held quiet status
    → Headline asked held old new quiet status
headline asked held fails old new rose quiet status means complete =
    let P : Status → Type 0 = λ x. Means asked held fails old new rose x in
    record {
      solved = λ files s told is done. solved_of asked held old new (subst P done means) files s told is;
      checked = λ before files s t certificate text told is h short same there calm.
          checked_of asked held quiet status complete before files s t certificate text told is h short same there calm;
      bounded = λ before files s t certificate text told is h short same there calm.
          bounded_of asked held quiet status complete before files s t certificate text told is h short same there calm;
      certified = λ files s certificate told is done. certified_of asked held old new (subst P done means) files s certificate told is;
    }
