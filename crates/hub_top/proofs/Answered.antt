-- What an answer says of the instance and of its own status.
use Rattle.std.proofs.Common.{◌≡◌, ℕ, ◌<◌, ◌≤◌, List, Option, Some, None, cond, refl, sym, subst, ap, ◌∙◌, ◌⊎◌, inl, inr, ⊎_elim, arith, nat_eq}
use Rattle.std.specs.Prelude.{is_some}
use Rattle.std.proofs.lemmas.Option.{none-some}
use Rattle.std.proofs.lemmas.Bool.{cond-true, cond-false, eq-eqb, ne_eqb, cases_lt}
use Rattle.hub_io.specs.Outside.{Files}
use Rattle.hub_spec.specs.Problem.{Problem}
use Rattle.hub_spec.specs.Plans.{Plan, IsPlan}
use Rattle.hub_spec.specs.Lacking.{lacking}
use Rattle.hub_spec.specs.Certificates.{Proof}
use Rattle.cert_spec.specs.Stated.{Stated}
use Rattle.cert_spec.specs.Verdicts.{Verdict, optimal, bounds, fails, misread, too_long, Why, Older, serves, serves_not, unread, over_limit, IsOlder}
use Rattle.cert_spec.proofs.OlderTexts.{one_older_from}
use Rattle.cert_spec.proofs.OneText.{one_certificate_lem}
use Rattle.cert_spec.proofs.TextOrFault.{each_is_text_or_fault_lem}
use Rattle.search_spec.specs.Again.{start_of}
use Rattle.hub_make.specs.Contents.{made_problem}
use Rattle.ascent_search.specs.Gaps.{IsWithinGap}
use Rattle.ascent_search.proofs.Gaps.{no_gap}
use Rattle.hub_words.specs.Requests.{Source, SearchRule, How, follow, again, freely, older_named, gap_of, Solving, Making, Search, Request, instance}
use Rattle.hub_words.specs.Requests.{solve, check, report, make, demo}
use Rattle.hub_commands.specs.declared.status.Status.{Status}
use Rattle.hub_commands.specs.declared.status.Status.TheVariants.{Done, Stopped, No, Usage, Instance, Memory, Read, Write, Lacking}
use Rattle.hub_sources.specs.Sources.{HoldsInstance}
use Rattle.hub_commands.specs.Methods.{cold, warm, Method, method_of, demo_method}
use Rattle.hub_commands.specs.Searches.{SpellsBy, IsEnoughFor, Solves, Stops}
use Rattle.hub_commands.specs.Instances.{SolvesBy, StopsBy, SolvesInstance, StopsInstance, LacksNetwork}
use Rattle.hub_commands.specs.Older.{FromOlder, IsSaid, HoldsOlder, MayBegin}
use Rattle.hub_commands.specs.Checks.{JudgesFile, ReportsFile}
use Rattle.hub_top.specs.Answers.{Answers, TellsOlder}
use Rattle.hub_commands.specs.Statuses.{Demonstrates, found_status, rule_status, solve_status, older_status}
use Rattle.hub_commands.specs.VerdictStatuses.{verdict_status, report_status}
use Rattle.hub_commands.specs.Lines.{older_line}
use Rattle.hub_sources.proofs.OneReading.{same_bytes, one_instance}
use Rattle.hub_top.proofs.OneTexts.{only_verdict}
use Rattle.hub_commands.proofs.OlderCertificates.{no_line_where_begun, begun_may}
use Rattle.hub_commands.proofs.Networks.{plan_serves}

-- ---- what solves

-- a command that solves has an answer with three statuses
pub solve_cases : (held : Option Files) (x : Solving) (text : List ℕ) (P : Status → Type 0) → (SolvesInstance held x text → P Done)
    → (StopsInstance held x text → P Stopped) → (TellsOlder held x text → P No) → (status : Status) → Answers (solve x) status held text → P status
solve_cases held x text P done stopped refuses Done h = done h
solve_cases held x text P done stopped refuses Stopped h = stopped h
solve_cases held x text P done stopped refuses No h = refuses h
solve_cases held x text P done stopped refuses Usage h = absurd h
solve_cases held x text P done stopped refuses Instance h = absurd h
solve_cases held x text P done stopped refuses Memory h = absurd h
solve_cases held x text P done stopped refuses Read h = absurd h
solve_cases held x text P done stopped refuses Write h = absurd h
solve_cases held x text P done stopped refuses Lacking h = absurd h

-- ---- the instance

-- the files give the instance that the request names
pub record HasInstance (files : Files) (s : Source) : Type 0 where
  pub problem : Problem
  pub instance : HoldsInstance files s problem

solve_instance : (files : Files) (x : Solving) (status : Status) (text : List ℕ) → Answers (solve x) status (Some files) text
    → HasInstance files x.source
solve_instance files x status text h =
    solve_cases (Some files) x text (λ _. HasInstance files x.source) (λ k. record { problem = k.problem; instance = k.instance })
    (λ k. record { problem = k.problem; instance = k.instance })
    (λ k. record { problem = k.refuses.problem; instance = k.refuses.instance }) status h

report_instance : (files : Files) (s : Source) (file : List ℕ) (status : Status) (text : List ℕ) → Answers (report s file) status (Some files) text
    → HasInstance files s
report_instance files s file Done text h = record { problem = h.problem; instance = h.instance }
report_instance files s file No text h = record { problem = h.judges.problem; instance = h.judges.instance }
report_instance files s file Stopped text h = absurd h
report_instance files s file Usage text h = absurd h
report_instance files s file Instance text h = absurd h
report_instance files s file Memory text h = absurd h
report_instance files s file Read text h = absurd h
report_instance files s file Write text h = absurd h
report_instance files s file Lacking text h = absurd h

pub answered_instance : (files : Files) (request : Request) (s : Source) (status : Status) (text : List ℕ) → instance request ≡ Some s
    → Answers request status (Some files) text → HasInstance files s
answered_instance files (solve x) s status text named h =
    let e : x.source ≡ s = cc in subst (HasInstance files) e (solve_instance files x status text h)
answered_instance files (check t file) s status text named h =
    let e : t ≡ s = cc in subst (HasInstance files) e (record { problem = h.judges.problem; instance = h.judges.instance })
answered_instance files (report t file) s status text named h =
    let e : t ≡ s = cc in subst (HasInstance files) e (report_instance files t file status text h)
answered_instance files (make m) s status text named h = cc
answered_instance files (demo m search) s status text named h = cc

-- ---- the status of a search

done_status : (k : Proof) → k.bound ≡ k.cost → found_status k ≡ Done
done_status k e = cond-true (nat_eq k.bound k.cost) Done Stopped (eq-eqb k.bound k.cost e)

stopped_status : (k : Proof) → k.bound < k.cost → found_status k ≡ Stopped
stopped_status k gap = cond-false (nat_eq k.bound k.cost) Done Stopped (ne_eqb k.bound k.cost (λ e. absurd (omega (arith, gap, e))))

pub solves_status : (p : Problem) (m : Method) (tells : Proof → Type 0) → Solves p m tells → Done ≡ rule_status p m
unfolding rule_status
solves_status p m tells h = sym (ap found_status (sym h.by_rule) ∙ done_status h.certificate h.no_gap)

pub stops_status : (p : Problem) (m : Method) (tells : Proof → Type 0) → Stops p m tells → Stopped ≡ rule_status p m
unfolding rule_status
stops_status p m tells h = sym (ap found_status (sym h.by_rule) ∙ stopped_status h.certificate h.gap)

-- where there is a plan, `solve` has it
served_status : (p : Problem) (m : Method) (plan : Plan) → IsPlan p plan → rule_status p m ≡ solve_status p m
unfolding solve_status
served_status p m plan is =
    sym (ap (λ (o : Option (ℕ × ℕ)). cond (is_some o) Lacking (rule_status p m)) (plan_serves p plan is))

-- who follows a rule reads no older certificate
names_none : (x : Solving) (rule : SearchRule) (older : List ℕ) → x.how ≡ follow rule → older_named x.how ≡ Some older → ⊥
names_none x rule older e named = none-some older (subst (λ (w : How). older_named w ≡ Some older) e named)

pub solve_status_is : (files : Files) (x : Solving) (rule : SearchRule) (p : Problem) (status : Status) (text : List ℕ) → x.how ≡ follow rule
    → HoldsInstance files x.source p → Answers (solve x) status (Some files) text → status ≡ solve_status p (method_of x.search (cold rule))
solve_status_is files x rule p status text e instance h =
    let m = method_of x.search (cold rule) in
    solve_cases (Some files) x text (λ (y : Status). y ≡ solve_status p m)
    (λ k. (let solves : Solves k.problem m (SpellsBy k.problem m text) =
    subst (λ (w : How). SolvesBy (Some files) k.problem w x.search text) e k.solves in
    solves_status k.problem m (SpellsBy k.problem m text) solves ∙ served_status k.problem m solves.certificate.plan solves.finds.holds.plan
    ∙ ap (λ q. solve_status q m) (one_instance files x.source k.problem p k.instance instance)))
    (λ k. (let stops : Stops k.problem m (SpellsBy k.problem m text) =
    subst (λ (w : How). StopsBy (Some files) k.problem w x.search text) e k.stops in
    stops_status k.problem m (SpellsBy k.problem m text) stops ∙ served_status k.problem m stops.certificate.plan stops.finds.holds.plan
    ∙ ap (λ q. solve_status q m) (one_instance files x.source k.problem p k.instance instance)))
    (λ k. absurd (names_none x rule k.refuses.older_held.older e k.refuses.older_held.named)) status h

-- and so it is where all candidates together are infeasible for a commodity
pub lacking_status : (files : Files) (x : Solving) (m : Method) (p : Problem) (commodity : ℕ × ℕ) → HoldsInstance files x.source p
    → LacksNetwork (Some files) x.source commodity → Lacking ≡ solve_status p m
unfolding solve_status
lacking_status files x m p commodity instance h =
    sym (ap (λ (o : Option (ℕ × ℕ)). cond (is_some o) Lacking (rule_status h.problem m)) h.lacks)
    ∙ ap (λ q. solve_status q m) (one_instance files x.source h.problem p h.instance instance)

-- an instance for which all candidates together are feasible is not reported as infeasible
pub lacks_none : (files : Files) (s : Source) (p : Problem) (commodity : ℕ × ℕ) → HoldsInstance files s p
    → lacking p p.candidates ≡ None → LacksNetwork (Some files) s commodity → ⊥
lacks_none files s p commodity instance none h =
    let same : h.problem ≡ p = one_instance files s h.problem p h.instance instance in
    none-some commodity (sym none ∙ subst (λ (q : Problem). lacking q q.candidates ≡ Some commodity) same h.lacks)

-- ---- where a search may begin

-- where it solves or stops it began
begun_solved : (held : Option Files) (p : Problem) (how : How) (q : Search) (text : List ℕ) → SolvesBy held p how q text → MayBegin held p how
begun_solved held p (follow rule) q text h = inl refl
begun_solved held p (again older) q text h = inr (h.older, h.older_held)
begun_solved held p (freely gap from) q text h = h.1

begun_stopped : (held : Option Files) (p : Problem) (how : How) (q : Search) (text : List ℕ) → StopsBy held p how q text → MayBegin held p how
begun_stopped held p (follow rule) q text h = inl refl
begun_stopped held p (again older) q text h = inr (h.older, h.older_held)
begun_stopped held p (freely gap from) q text h = begun_may held p (freely gap from) h.0.certificate.cost h.1

-- and no line tells why the older certificate does not serve
refused_begun : (files : Files) (x : Solving) (p : Problem) (text : List ℕ) → HoldsInstance files x.source p → MayBegin (Some files) p x.how
    → TellsOlder (Some files) x text → ⊥
refused_begun files x p text instance may h =
    let k = h.refuses in
    let same : k.problem ≡ p = one_instance files x.source k.problem p k.instance instance in
    no_line_where_begun files p x.how h.said text may (subst (λ (r : Problem). HoldsOlder (Some files) r x.how h.said) same k.older_held) h.of_text

-- where the search may begin so, it has one of two statuses
pub begun_status : (files : Files) (x : Solving) (p : Problem) (status : Status) (text : List ℕ) → HoldsInstance files x.source p
    → MayBegin (Some files) p x.how → Answers (solve x) status (Some files) text → (status ≡ Done) ⊎ (status ≡ Stopped)
begun_status files x p status text instance may h =
    solve_cases (Some files) x text (λ (y : Status). (y ≡ Done) ⊎ (y ≡ Stopped)) (λ k. inl refl) (λ k. inr refl)
    (λ k. absurd (refused_begun files x p text instance may k)) status h

-- no bound below the cost is within no gap
closed : (k : Proof) → IsWithinGap 0 k.bound k.cost → k.bound < k.cost → ⊥
closed k near below = absurd (omega (arith, below, no_gap k.bound k.cost near (omega (arith, below))))

-- where no gap is allowed, and as many nodes as a whole tree has, none stops
never_stops : (held : Option Files) (p : Problem) (how : How) (q : Search) (text : List ℕ) → gap_of how ≡ 0 → IsEnoughFor p q.nodes
    → StopsBy held p how q text → ⊥
never_stops held p (follow rule) q text none enough h = h.not_enough enough
never_stops held p (again older) q text none enough h = h.is.not_enough enough
never_stops held p (freely gap from) q text none enough h =
    let k = h.0.certificate in
    ⊎_elim (λ spent. spent.1 enough) (λ near. closed k (subst (λ (g : ℕ). IsWithinGap g k.bound k.cost) none near) h.0.gap) h.0.reason

-- and it has one alone
pub enough_status : (files : Files) (x : Solving) (p : Problem) (status : Status) (text : List ℕ) → HoldsInstance files x.source p
    → MayBegin (Some files) p x.how → gap_of x.how ≡ 0 → IsEnoughFor p x.search.nodes → Answers (solve x) status (Some files) text
    → status ≡ Done
enough_status files x p status text instance may none enough h =
    solve_cases (Some files) x text (λ (y : Status). y ≡ Done) (λ k. refl)
    (λ k. (let same : p ≡ k.problem = one_instance files x.source p k.problem instance k.instance in
    absurd (never_stops (Some files) k.problem x.how x.search text none (subst (λ (r : Problem). IsEnoughFor r x.search.nodes) same enough) k.stops)))
    (λ k. absurd (refused_begun files x p text instance may k)) status h

-- where the bytes that are named do not serve, it has one alone too
pub refused_status_is : (files : Files) (x : Solving) (older bytes line : List ℕ) (said : Older) (p : Problem) (status : Status) (text : List ℕ)
    → older_named x.how ≡ Some older → HoldsInstance files x.source p → files older ≡ Some bytes → IsSaid x.how p bytes said
    → older_line said ≡ Some line → Answers (solve x) status (Some files) text → status ≡ No
refused_status_is files x older bytes line said p status text named instance held is tells h =
    let there : HoldsOlder (Some files) p x.how said = record { older = older; named = named; bytes = bytes; bytes_held = held; is = is } in
    solve_cases (Some files) x text (λ (y : Status). y ≡ No)
    (λ k. (let same : k.problem ≡ p = one_instance files x.source k.problem p k.instance instance in
    let may = subst (λ (r : Problem). MayBegin (Some files) r x.how) same (begun_solved (Some files) k.problem x.how x.search text k.solves) in
    absurd (no_line_where_begun files p x.how said line may there tells)))
    (λ k. (let same : k.problem ≡ p = one_instance files x.source k.problem p k.instance instance in
    let may = subst (λ (r : Problem). MayBegin (Some files) r x.how) same (begun_stopped (Some files) k.problem x.how x.search text k.stops) in
    absurd (no_line_where_begun files p x.how said line may there tells)))
    (λ k. refl) status h

-- ---- where all candidates together are infeasible for a commodity

solved_serves : (held : Option Files) (p : Problem) (how : How) (q : Search) (text : List ℕ) → SolvesBy held p how q text
    → lacking p p.candidates ≡ None
solved_serves held p (follow rule) q text h = plan_serves p h.certificate.plan h.finds.holds.plan
solved_serves held p (again older) q text h = plan_serves p h.is.certificate.plan h.is.finds.holds.plan
solved_serves held p (freely gap from) q text h = plan_serves p h.0.certificate.plan h.0.finds.holds.plan

stopped_serves : (held : Option Files) (p : Problem) (how : How) (q : Search) (text : List ℕ) → StopsBy held p how q text
    → lacking p p.candidates ≡ None
stopped_serves held p (follow rule) q text h = plan_serves p h.certificate.plan h.finds.holds.plan
stopped_serves held p (again older) q text h = plan_serves p h.is.certificate.plan h.is.finds.holds.plan
stopped_serves held p (freely gap from) q text h = plan_serves p h.0.certificate.plan h.0.finds.holds.plan

-- all candidates of one instance are not both infeasible for a commodity and feasible
not_both_lack : (files : Files) (x : Solving) (p q : Problem) (commodity : ℕ × ℕ) → HoldsInstance files x.source p → HoldsInstance files x.source q
    → lacking p p.candidates ≡ Some commodity → lacking q q.candidates ≡ None → ⊥
not_both_lack files x p q commodity instance other lacks none =
    let same : q ≡ p = one_instance files x.source q p other instance in
    none-some commodity (sym (subst (λ (r : Problem). lacking r r.candidates ≡ None) same none) ∙ lacks)

-- so there is no answer
pub lacking_answers : (files : Files) (x : Solving) (p : Problem) (commodity : ℕ × ℕ) (status : Status) (text : List ℕ)
    → HoldsInstance files x.source p → lacking p p.candidates ≡ Some commodity → Answers (solve x) status (Some files) text → ⊥
lacking_answers files x p commodity status text instance lacks h =
    solve_cases (Some files) x text (λ _. ⊥)
    (λ k. not_both_lack files x p k.problem commodity instance k.instance lacks (solved_serves (Some files) k.problem x.how x.search text k.solves))
    (λ k. not_both_lack files x p k.problem commodity instance k.instance lacks (stopped_serves (Some files) k.problem x.how x.search text k.stops))
    (λ k. not_both_lack files x p k.refuses.problem commodity instance k.refuses.instance lacks k.refuses.lacks_none) status h

-- ---- `resolve`

-- the older certificate of the answer is the one that is said of the bytes
older_is : (files : Files) (older : List ℕ) (p q : Problem) (bytes : List ℕ) (said other : Older) → q ≡ p → files older ≡ Some bytes
    → IsOlder p bytes said → HoldsOlder (Some files) q (again older) other → other ≡ said
older_is files older p q bytes said other same held is k =
    let named : Some older ≡ Some k.older = k.named in
    let name : k.older ≡ older = cc in
    let there : k.bytes ≡ bytes =
    same_bytes files older k.bytes bytes (subst (λ (f : List ℕ). files f ≡ Some k.bytes) name k.bytes_held) held in
    let one = one_older_from one_certificate_lem each_is_text_or_fault_lem p bytes in
    let moved : IsOlder p bytes other = subst (λ (b : List ℕ). IsOlder p b other) there (subst (λ (r : Problem). IsOlder r k.bytes other) same k.is) in
    one.2 other moved ∙ sym (one.2 said is)

-- the status of one that does not serve
refused_older : (p : Problem) (search : Search) (said : Older) (text : List ℕ) → older_line said ≡ Some text → No ≡ older_status p search said
unfolding older_status
refused_older p search (serves older) text e = absurd (none-some text e)
refused_older p search (serves_not kind line) text e = refl
refused_older p search (unread fault) text e = refl
refused_older p search over_limit text e = refl

served_older : (p : Problem) (search : Search) (older : Stated) (said : Older) (status : Status) → serves older ≡ said
    → status ≡ rule_status p (method_of search (warm (start_of older.proof))) → status ≡ older_status p search said
unfolding older_status
served_older p search older said status same is = subst (λ (o : Older). status ≡ older_status p search o) same is

pub resolve_status_is : (files : Files) (x : Solving) (older : List ℕ) (p : Problem) (bytes : List ℕ) (said : Older) (status : Status) (text : List ℕ)
    → x.how ≡ again older → HoldsInstance files x.source p → files older ≡ Some bytes → IsOlder p bytes said
    → Answers (solve x) status (Some files) text → status ≡ older_status p x.search said
resolve_status_is files x older p bytes said status text e instance held is h =
    solve_cases (Some files) x text (λ (y : Status). y ≡ older_status p x.search said)
    (λ k. (let same : k.problem ≡ p = one_instance files x.source k.problem p k.instance instance in
    let from_older : FromOlder (Some files) k.problem (again older) x.search (λ m. Solves k.problem m (SpellsBy k.problem m text)) =
    subst (λ (w : How). SolvesBy (Some files) k.problem w x.search text) e k.solves in
    let m = method_of x.search (warm (start_of from_older.older.proof)) in
    served_older p x.search from_older.older said Done
    (older_is files older p k.problem bytes said (serves from_older.older) same held is from_older.older_held)
    (subst (λ (q : Problem). Done ≡ rule_status q m) same (solves_status k.problem m (SpellsBy k.problem m text) from_older.is))))
    (λ k. (let same : k.problem ≡ p = one_instance files x.source k.problem p k.instance instance in
    let from_older : FromOlder (Some files) k.problem (again older) x.search (λ m. Stops k.problem m (SpellsBy k.problem m text)) =
    subst (λ (w : How). StopsBy (Some files) k.problem w x.search text) e k.stops in
    let m = method_of x.search (warm (start_of from_older.older.proof)) in
    served_older p x.search from_older.older said Stopped
    (older_is files older p k.problem bytes said (serves from_older.older) same held is from_older.older_held)
    (subst (λ (q : Problem). Stopped ≡ rule_status q m) same (stops_status k.problem m (SpellsBy k.problem m text) from_older.is))))
    (λ k. (let w = k.refuses in
    let same : w.problem ≡ p = one_instance files x.source w.problem p w.instance instance in
    let there = subst (λ (y : How). HoldsOlder (Some files) w.problem y k.said) e w.older_held in
    let one = older_is files older p w.problem bytes said k.said same held is there in
    refused_older p x.search said text (subst (λ (o : Older). older_line o ≡ Some text) one k.of_text))) status h

-- one that serves is held under the name that is given
pub serves_held : (files : Files) (x : Solving) (older : List ℕ) (p : Problem) (bytes : List ℕ) (k : Stated) → x.how ≡ again older
    → files older ≡ Some bytes → IsOlder p bytes (serves k) → MayBegin (Some files) p x.how
serves_held files x older p bytes k e held is =
    let there : HoldsOlder (Some files) p (again older) (serves k) =
    record { older = older; named = refl; bytes = bytes; bytes_held = held; is = is } in
    subst (λ (w : How). MayBegin (Some files) p w) (sym e) (inr (k, there))

-- ---- `demo` and `make`

pub demo_status : (held : Option Files) (m : Making) (search : Search) (status : Status) (text : List ℕ)
    → Answers (demo m search) status held text → status ≡ rule_status (made_problem m.seed m.size) (demo_method search)
demo_status held m search Done text h = solves_status (made_problem m.seed m.size) (demo_method search) (Demonstrates text) h
demo_status held m search Stopped text h = stops_status (made_problem m.seed m.size) (demo_method search) (Demonstrates text) h
demo_status held m search No text h = absurd h
demo_status held m search Usage text h = absurd h
demo_status held m search Instance text h = absurd h
demo_status held m search Memory text h = absurd h
demo_status held m search Read text h = absurd h
demo_status held m search Write text h = absurd h
demo_status held m search Lacking text h = absurd h

pub demo_enough : (held : Option Files) (m : Making) (search : Search) (status : Status) (text : List ℕ)
    → IsEnoughFor (made_problem m.seed m.size) search.nodes → Answers (demo m search) status held text → status ≡ Done
demo_enough held m search Done text enough h = refl
demo_enough held m search Stopped text enough h = absurd (h.not_enough enough)
demo_enough held m search No text enough h = absurd h
demo_enough held m search Usage text enough h = absurd h
demo_enough held m search Instance text enough h = absurd h
demo_enough held m search Memory text enough h = absurd h
demo_enough held m search Read text enough h = absurd h
demo_enough held m search Write text enough h = absurd h
demo_enough held m search Lacking text enough h = absurd h

pub make_status : (held : Option Files) (m : Making) (status : Status) (text : List ℕ) → Answers (make m) status held text → status ≡ Done
make_status held m Done text h = refl
make_status held m Stopped text h = absurd h
make_status held m No text h = absurd h
make_status held m Usage text h = absurd h
make_status held m Instance text h = absurd h
make_status held m Memory text h = absurd h
make_status held m Read text h = absurd h
make_status held m Write text h = absurd h
make_status held m Lacking text h = absurd h

-- ---- the status of a verdict

-- the verdict on the file of a certificate
pub file_verdict : (files : Files) (s : Source) (file : List ℕ) (p : Problem) (bytes : List ℕ) (v : Verdict) → HoldsInstance files s p
    → files file ≡ Some bytes → Why p bytes v → (other : Verdict) → JudgesFile (Some files) s file other → other ≡ v
file_verdict files s file p bytes v h held why other k =
    let problem : k.problem ≡ p = one_instance files s k.problem p k.instance h in
    let there : k.bytes ≡ bytes = same_bytes files file k.bytes bytes k.bytes_held held in
    let P : Problem → Type 0 = λ x. Why x k.bytes other in
    let Q : List ℕ → Type 0 = λ x. Why p x other in
    only_verdict p bytes v other why (subst Q there (subst P problem k.why))

pub check_status : (files : Files) (s : Source) (file : List ℕ) (p : Problem) (bytes : List ℕ) (v : Verdict) (status : Status) (text : List ℕ)
    → HoldsInstance files s p → files file ≡ Some bytes → Why p bytes v → Answers (check s file) status (Some files) text → status ≡ verdict_status v
check_status files s file p bytes v status text h held why k =
    sym k.of_status ∙ ap verdict_status (file_verdict files s file p bytes v h held why k.verdict k.judges)

-- the status of a report, where a check says no
refused_status : (v : Verdict) → verdict_status v ≡ No → No ≡ report_status v
refused_status (optimal cost) e = cc
refused_status (bounds bound cost) e = cc
refused_status (fails kind line) e = refl
refused_status (misread fault) e = refl
refused_status too_long e = refl

below_or_same : (a b : ℕ) → a ≤ b → (a < b) ⊎ (a ≡ b)
below_or_same a b h = ⊎_elim (λ less. inl less) (λ not. inr (omega (arith, h, not))) (cases_lt a b)

-- the verdict on bytes that certify
pub certified_verdict : (files : Files) (s : Source) (file text : List ℕ) (h : ReportsFile (Some files) s file text)
    → (v : Verdict) × Why h.problem h.bytes v × (report_status v ≡ Done)
certified_verdict files s file text h =
    let k = h.stated.proof in
    ⊎_elim
    (λ (gap : k.bound < k.cost). (
      bounds k.bound k.cost,
      (gap, record { not_too_long = h.not_too_long; certificate = (h.stated, h.spelled, h.holds, refl, refl) }),
      refl,
    ))
    (λ (e : k.bound ≡ k.cost). (optimal k.cost, record { not_too_long = h.not_too_long; certificate = (h.stated, h.spelled, h.holds, e, refl) }, refl))
    (below_or_same k.bound k.cost h.holds.holds.bound)

pub report_status_is : (files : Files) (s : Source) (file : List ℕ) (p : Problem) (bytes : List ℕ) (v : Verdict) (status : Status) (text : List ℕ)
    → HoldsInstance files s p → files file ≡ Some bytes → Why p bytes v → Answers (report s file) status (Some files) text → status ≡ report_status v
report_status_is files s file p bytes v Done text h held why k =
    let w = certified_verdict files s file text k in
    let problem : p ≡ k.problem = one_instance files s p k.problem h k.instance in
    let there : bytes ≡ k.bytes = same_bytes files file bytes k.bytes held k.bytes_held in
    let P : Problem → Type 0 = λ x. Why x bytes v in
    let Q : List ℕ → Type 0 = λ x. Why k.problem x v in
    sym w.2 ∙ sym (ap report_status (only_verdict k.problem k.bytes w.0 v w.1 (subst Q there (subst P problem why))))
report_status_is files s file p bytes v No text h held why k =
    refused_status k.verdict k.of_status ∙ ap report_status (file_verdict files s file p bytes v h held why k.verdict k.judges)
report_status_is files s file p bytes v Stopped text h held why k = absurd k
report_status_is files s file p bytes v Usage text h held why k = absurd k
report_status_is files s file p bytes v Instance text h held why k = absurd k
report_status_is files s file p bytes v Memory text h held why k = absurd k
report_status_is files s file p bytes v Read text h held why k = absurd k
report_status_is files s file p bytes v Write text h held why k = absurd k
report_status_is files s file p bytes v Lacking text h held why k = absurd k
