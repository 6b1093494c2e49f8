-- How a run ends in which nothing fails.
use Rattle.std.proofs.Common.{◌≡◌, ℕ, List, Option, Some, None, ◌⊎◌, inl, inr, refl, sym, subst, ap, ◌∙◌}
use Rattle.hub_io.specs.Outside.{Files, Rose}
use Rattle.hub_spec.specs.Problem.{Problem}
use Rattle.hub_spec.specs.Lacking.{lacking}
use Rattle.cert_spec.proofs.OlderTexts.{certified_serves_lem}
use Rattle.file_spec.specs.Faults.{Fault}
use Rattle.hub_make.specs.Contents.{made_problem}
use Rattle.hub_commands.specs.declared.status.Status.{Status}
use Rattle.hub_commands.specs.declared.status.Status.TheVariants.{Done, Stopped, No, Usage, Instance, Lacking}
use Rattle.hub_words.specs.Requests.{Source, Solving, Request, solve, check, report, make, demo, instance}
use Rattle.hub_sources.specs.Sources.{WhereTold, Blame, HasBlame, HoldsInstance}
use Rattle.hub_commands.specs.Instances.{LacksNetwork}
use Rattle.hub_commands.specs.Methods.{cold, method_of, demo_method}
use Rattle.hub_top.specs.Answers.{Answers}
use Rattle.hub_commands.specs.VerdictStatuses.{verdict_status, report_status}
use Rattle.hub_commands.specs.Statuses.{rule_status, solve_status, older_status}
use Rattle.hub_top.specs.Outcomes.{Outcome, answered, usage, faulty, no_network, memory, read, status_of, to_solve, ShelfFails, Quiet, MayComeTo, Written, whole, out_cut, err_cut}
use Rattle.hub_top.specs.Completeness.{Completeness, EndsAs, EndsWith}
use Rattle.hub_sources.proofs.OneReading.{no_blame}
use Rattle.hub_top.proofs.Answered.{answered_instance, solve_status_is, lacking_status, lacks_none, begun_status, enough_status, refused_status_is, lacking_answers, resolve_status_is, serves_held, check_status, report_status_is, make_status, demo_status, demo_enough}

-- an ending that is written whole has its status, and a sink that fails counts it
written_status : {O E : Type 0} (out_taken : O → Option (List ℕ)) (out_faults : O → ℕ) (err_taken : E → Option (List ℕ)) (err_faults : E → ℕ)
    (out_old out_new : O) (err_old err_new : E) (status : Status) (ending : Outcome)
    → Written out_taken out_faults err_taken err_faults out_old out_new err_old err_new status ending
    → (Rose (out_faults out_old) (out_faults out_new) → ⊥) → (Rose (err_faults err_old) (err_faults err_new) → ⊥) → status ≡ status_of ending
written_status out_taken out_faults err_taken err_faults out_old out_new err_old err_new status ending (whole out err is) no_out no_err = is
written_status out_taken out_faults err_taken err_faults out_old out_new err_old err_new status ending (out_cut failed out same is) no_out no_err =
    absurd (no_out out.failed)
written_status out_taken out_faults err_taken err_faults out_old out_new err_old err_new status ending (err_cut failed out err is) no_out no_err =
    absurd (no_err err.failed)

-- the instances that one request names are one
same_source : (request : Request) (s t : Source) → instance request ≡ Some s → instance request ≡ Some t → s ≡ t
same_source request s t e f = cc

-- an instance that a request asks to solve is the one that it names
instance_to_solve : (request : Request) (s : Source) → to_solve request ≡ Some s → instance request ≡ Some s
instance_to_solve (solve x) s e = e
instance_to_solve (check t file) s e = cc
instance_to_solve (report t file) s e = cc
instance_to_solve (make m) s e = cc
instance_to_solve (demo m search) s e = cc

asked_request : (request other : Request) → Some request ≡ Some other → request ≡ other
asked_request request other e = cc

-- the words are no command
ends_usage : (held : Option Files) (fails : Request → Type 0) (e : Outcome) → MayComeTo None held fails e → EndsWith Usage (status_of e)
ends_usage held fails (answered status text) may = (let is = may.1 in cc)
ends_usage held fails usage may = inl refl
ends_usage held fails (faulty blame fault) may = (let is = may.1 in cc)
ends_usage held fails (no_network commodity) may = (let is = may.2 in cc)
ends_usage held fails memory may = inr refl
ends_usage held fails read may = (let is = may.1 in cc)

-- a file has a fault
ends_faulty : (files : Files) (request : Request) (s : Source) (blame : Blame) (fault : Fault) → instance request ≡ Some s → HasBlame files s blame fault
    → (fails : Request → Type 0) → ((other : Request) → fails other → ⊥)
    → (e : Outcome) → MayComeTo (Some request) (Some files) fails e → EndsWith Instance (status_of e)
ends_faulty files request s blame fault named has fails quiet (answered status text) may =
    let r : may.0 ≡ request = sym (asked_request request may.0 may.1) in
    let there = answered_instance files request s status text named (subst (λ (x : Request). Answers x status (Some files) text) r may.2) in
    absurd (no_blame files s there.problem there.instance blame fault has)
ends_faulty files request s blame fault named has fails quiet usage may = cc
ends_faulty files request s blame fault named has fails quiet (faulty other also) may = inl refl
ends_faulty files request s blame fault named has fails quiet (no_network commodity) may =
    let r : may.0 ≡ request = sym (asked_request request may.0 may.2) in
    let own : may.1 ≡ s = same_source request may.1 s (ap instance (sym r) ∙ instance_to_solve may.0 may.1 may.3) named in
    let h = may.4 in
    absurd (no_blame files s h.problem (subst (λ (x : Source). HoldsInstance files x h.problem) own h.instance) blame fault has)
ends_faulty files request s blame fault named has fails quiet memory may = inr refl
ends_faulty files request s blame fault named has fails quiet read may = absurd (quiet may.0 may.2)

-- no file of the request's instance is blamed
abbrev IsBlameless : Option Files → Request → Type 0
IsBlameless held request = (blame : Blame) (fault : Fault) (s : Source) → instance request ≡ Some s
    → WhereTold held (λ files. HasBlame files s blame fault) → ⊥

-- a request that has an instance, or names none, has no fault
blameless_of : (files : Files) (request : Request) (s : Source) (p : Problem) → instance request ≡ Some s → HoldsInstance files s p
    → IsBlameless (Some files) request
blameless_of files request s p named h blame fault t also has =
    let same : t ≡ s = same_source request t s also named in
    let P : Source → Type 0 = λ x. HasBlame files x blame fault in
    no_blame files s p h blame fault (subst P same has)

blameless_without : (held : Option Files) (request : Request) → instance request ≡ None → IsBlameless held request
blameless_without held request none blame fault t also has = cc

-- a run that reports an infeasible commodity of the instance to solve may end with a wanted status
abbrev MayLack : Option Files → Request → (Status → Type 0) → Type 0
MayLack held request wanted =
    (s : Source) (commodity : ℕ × ℕ) → to_solve request ≡ Some s → LacksNetwork held s commodity → wanted Lacking

-- no run reports this of an instance for which all candidates together are feasible
no_lack : (files : Files) (x : Solving) (p : Problem) (wanted : Status → Type 0) → HoldsInstance files x.source p → lacking p p.candidates ≡ None
    → MayLack (Some files) (solve x) wanted
no_lack files x p wanted h none t commodity same k =
    let own : t ≡ x.source = cc in
    absurd (lacks_none files x.source p commodity h none (subst (λ (y : Source). LacksNetwork (Some files) y commodity) own k))

-- how a request ends without a fault, where its answers have such a status
ends_by : (request : Request) (held : Option Files) (wanted : Status → Type 0) → IsBlameless held request → MayLack held request wanted
    → ((status : Status) (text : List ℕ) → Answers request status held text → wanted status)
    → (fails : Request → Type 0) → ((other : Request) → fails other → ⊥)
    → (e : Outcome) → MayComeTo (Some request) held fails e → EndsAs wanted (status_of e)
ends_by request held wanted blameless lacks answers fails quiet (answered status text) may =
    let r : may.0 ≡ request = sym (asked_request request may.0 may.1) in
    inl (answers status text (subst (λ (x : Request). Answers x status held text) r may.2))
ends_by request held wanted blameless lacks answers fails quiet usage may = cc
ends_by request held wanted blameless lacks answers fails quiet (faulty blame fault) may =
    let r : may.0 ≡ request = sym (asked_request request may.0 may.2) in
    absurd (blameless blame fault may.1 (ap instance (sym r) ∙ may.3) may.4)
ends_by request held wanted blameless lacks answers fails quiet (no_network commodity) may =
    let r : may.0 ≡ request = sym (asked_request request may.0 may.2) in
    inl (lacks may.1 commodity (ap to_solve (sym r) ∙ may.3) may.4)
ends_by request held wanted blameless lacks answers fails quiet memory may = inr refl
ends_by request held wanted blameless lacks answers fails quiet read may = absurd (quiet may.0 may.2)

-- the status that was ended with is that of the ending
status_by : (status : Status) (e : Outcome) (wanted : Status → Type 0) → status ≡ status_of e → EndsAs wanted (status_of e) → EndsAs wanted status
status_by status e wanted is h = subst (λ (x : Status). EndsAs wanted x) (sym is) h

module _ (asked : Option Request) (held : Option Files) (fails : Request → Type 0) (quiet : Type 0) (e : Outcome) (status : Status)
    (may : MayComeTo asked held fails e) (no_fault : quiet → (request : Request) → fails request → ⊥) (written : quiet → status ≡ status_of e) where
  -- what a command whose answers have such a status ends with
  command_ends : (request : Request) (wanted : Status → Type 0) → asked ≡ Some request → IsBlameless held request → MayLack held request wanted
      → ((other : Status) (text : List ℕ) → Answers request other held text → wanted other) → quiet → EndsAs wanted status
  command_ends request wanted is blameless lacks answers calm =
      let P : Option Request → Type 0 = λ x. MayComeTo x held fails e in
      status_by status e wanted (written calm) (ends_by request held wanted blameless lacks answers fails (no_fault calm) e (subst P is may))

  -- and where the files are known, and give the instance
  told_ends : (files : Files) (request : Request) (s : Source) (p : Problem) (wanted : Status → Type 0) → held ≡ Some files → asked ≡ Some request
      → instance request ≡ Some s → HoldsInstance files s p → MayLack (Some files) request wanted
      → ((other : Status) (text : List ℕ) → Answers request other (Some files) text → wanted other) → quiet → EndsAs wanted status
  told_ends files request s p wanted told is named h lacks answers calm =
      let back : Some files ≡ held = sym told in
      command_ends request wanted is (subst (λ (x : Option Files). IsBlameless x request) back (blameless_of files request s p named h))
      (subst (λ (x : Option Files). MayLack x request wanted) back lacks)
      (subst (λ (x : Option Files). (other : Status) (text : List ℕ) → Answers request other x text → wanted other) back answers) calm

  -- the endings of a run in which no read failed
  completeness_of : Completeness asked held quiet status
  completeness_of = record {
    usage = λ none calm. status_by status e (λ (x : Status). x ≡ Usage) (written calm) (ends_usage held fails e (subst (λ (x : Option Request). MayComeTo x held fails e) none may));
    fault = λ files request s blame fault told is named has calm.
        let P : Option Request → Type 0 = λ x. MayComeTo x held fails e in
        let Q : Option Files → Type 0 = λ x. MayComeTo (Some request) x fails e in
        status_by status e (λ (x : Status). x ≡ Instance) (written calm) (ends_faulty files request s blame fault named has fails (no_fault calm) e (subst Q told (subst P is may)));
    networkless = λ files s p commodity told is h lacks. told_ends files (solve s) s.source p (λ (x : Status). x ≡ Lacking) told is refl h
        (λ t other same k. refl)
        (λ other text answers. absurd (lacking_answers files s p commodity other text h lacks answers));
    refused = λ files s older bytes line said p told is named h none there says tells.
        told_ends files (solve s) s.source p (λ (x : Status). x ≡ No) told is refl h
        (no_lack files s p (λ (x : Status). x ≡ No) h none)
        (λ other text answers. refused_status_is files s older bytes line said p other text named h there says tells answers);
    bounded = λ files s p told is h none may. told_ends files (solve s) s.source p (λ (x : Status). (x ≡ Done) ⊎ (x ≡ Stopped)) told is refl h
        (no_lack files s p (λ (x : Status). (x ≡ Done) ⊎ (x ≡ Stopped)) h none)
        (λ other text answers. begun_status files s p other text h may answers);
    enough = λ files s p told is h none may no_gap many. told_ends files (solve s) s.source p (λ (x : Status). x ≡ Done) told is refl h
        (no_lack files s p (λ (x : Status). x ≡ Done) h none)
        (λ other text answers. enough_status files s p other text h may no_gap many answers);
    solved = λ files s rule p told is by h. (let m = method_of s.search (cold rule) in
        told_ends files (solve s) s.source p (λ (x : Status). x ≡ solve_status p m) told is refl h
        (λ t commodity same k. (let own : t ≡ s.source = cc in
        lacking_status files s m p commodity h (subst (λ (x : Source). LacksNetwork (Some files) x commodity) own k)))
        (λ other text answers. solve_status_is files s rule p other text by h answers));
    resolved = λ files s older p bytes said told is by h none there says.
        told_ends files (solve s) s.source p (λ (x : Status). x ≡ older_status p s.search said) told is refl h
        (no_lack files s p (λ (x : Status). x ≡ older_status p s.search said) h none)
        (λ other text answers. resolve_status_is files s older p bytes said other text by h there says answers);
    served = λ files s older p before bytes bound cost told is by h none there same certifies.
        (let serving = certified_serves_lem before p bytes bound cost same certifies in
        let may = serves_held files s older p bytes serving.0 by there serving.1 in
        told_ends files (solve s) s.source p (λ (x : Status). (x ≡ Done) ⊎ (x ≡ Stopped)) told is refl h
        (no_lack files s p (λ (x : Status). (x ≡ Done) ⊎ (x ≡ Stopped)) h none)
        (λ other text answers. begun_status files s p other text h may answers));
    judged = λ files s certificate p bytes verdict told is h there why. told_ends files (check s certificate) s p (λ (x : Status). x ≡ verdict_status verdict) told is refl h
        (λ t commodity same k. cc)
        (λ other text answers. check_status files s certificate p bytes verdict other text h there why answers);
    reported = λ files s certificate p bytes verdict told is h there why. told_ends files (report s certificate) s p (λ (x : Status). x ≡ report_status verdict) told is refl h
        (λ t commodity same k. cc)
        (λ other text answers. report_status_is files s certificate p bytes verdict other text h there why answers);
    made = λ m is. command_ends (make m) (λ (x : Status). x ≡ Done) is (blameless_without held (make m) refl) (λ t commodity same k. cc) (λ other text answers. make_status held m other text answers);
    shown = λ m search is. command_ends (demo m search) (λ (x : Status). x ≡ rule_status (made_problem m.seed m.size) (demo_method search)) is
        (blameless_without held (demo m search) refl) (λ t commodity same k. cc) (λ other text answers. demo_status held m search other text answers);
    shown_whole = λ m search is many. command_ends (demo m search) (λ (x : Status). x ≡ Done) is
        (blameless_without held (demo m search) refl) (λ t commodity same k. cc) (λ other text answers. demo_enough held m search other text many answers);
  }

pub completeness : {S O E : Type 0} (held : S → Option Files) (faults : S → ℕ) (sound : S → Type 0) (old new : S)
    (out_taken : O → Option (List ℕ)) (out_faults : O → ℕ) (err_taken : E → Option (List ℕ)) (err_faults : E → ℕ)
    (out_old out_new : O) (err_old err_new : E) (asked : Option Request) (status : Status) (e : Outcome)
    → MayComeTo asked (held old) (ShelfFails held faults sound old new) e
    → Written out_taken out_faults err_taken err_faults out_old out_new err_old err_new status e
    → Completeness asked (held old) (Quiet faults old new out_faults out_old out_new err_faults err_old err_new) status
completeness held faults sound old new out_taken out_faults err_taken err_faults out_old out_new err_old err_new asked status e may written =
    let Calm = Quiet faults old new out_faults out_old out_new err_faults err_old err_new in
    completeness_of asked (held old) (ShelfFails held faults sound old new) Calm e status may
    (λ calm request failed. calm.0 failed.2.rose)
    (λ calm. written_status out_taken out_faults err_taken err_faults out_old out_new err_old err_new status e written calm.1 calm.2)
