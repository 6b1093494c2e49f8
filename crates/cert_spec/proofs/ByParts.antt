-- What the lines of each part of a certificate try: routes, duals, cuts, and the tree.
use Rattle.std.proofs.Common.{◌≡◌, ℕ, ◌+◌, ◌-◌, ◌*◌, ◌≤◌, List, replicate, sum_by, not, ◌&&◌, [], ◌∷◌, ◌++◌, length, map, nat_eq, zip, Bool, true, false, if◌then◌else◌, Option, Some, None, Contains, append_assoc, append-nil, refl, sym, ap, ap₂, ◌∙◌, mul-pos, arith, eq-eqb, ne_eqb}
use Rattle.std.specs.Prelude.{is_none, slice_index_or}
use Rattle.std.specs.List.{AllZip}
use Rattle.std.proofs.lemmas.List.{map-append, length-append, length-replicate, get_or_push}
use Rattle.std.proofs.lemmas.List.Sums.{sum_by-cons}
use Rattle.hub_spec.specs.Problem.{Problem, is_allowed, commodity_at}
use Rattle.hub_spec.specs.Plans.{plan_cost}
use Rattle.hub_spec.specs.Cuts.{Prices, Cut, IsWithinSums}
use Rattle.hub_spec.specs.Trees.{Branching, open_child, closed_child, Tree, branch, leaf, empty, block, count, preorder, line_count}
use Rattle.core_spec.specs.CoreCuts.{CoreProof, Mark, IsCoreDual}
use Rattle.cert_spec.specs.Lines.{part_of, Item, says_dual, says_proof, says_tree}
use Rattle.cert_spec.specs.Text.{route_items, is_first, same_prices, singles, dual_runs, run_items, part_said, proved_items, cut_items, cuts_items}
use Rattle.cert_spec.proofs.PartConditions.{cut_lines, route_claims, dual_claims, proved_claims, one_cut_claims, cut_claims, tree_claims}
use Rattle.cert_spec.specs.Conditions.{Claim, claim, IsDualOfRun, MayMark, Route, Length, Cost, Dual, Sum, Core, Branch, if_time, cost_conditions, sum_conditions, line_conditions, conditions_from}
use Rattle.cert_spec.specs.Progress.{Progress, is_whole, with_duals, after_line, after_lines}
use Rattle.cert_spec.specs.Runs.{ends_row, joined, runs, spread}
use Rattle.cert_spec.proofs.Leads.{length-spread}
use Rattle.cert_spec.proofs.Claims.{spread_dual_runs}
use Rattle.hub_spec.proofs.SumLemmas.{by_test}

pub conditions-append : (p : Problem) (s : Progress) (first rest : List Item)
    → conditions_from p s (first ++ rest) ≡ conditions_from p s first ++ conditions_from p (after_lines p s first) rest
conditions-append p s [] rest = refl
conditions-append p s (item ∷ items) rest =
    let after = after_line p s item in
    ap (λ cs. line_conditions p s item ++ cs) (conditions-append p after items rest)
    ∙ sym (append_assoc (line_conditions p s item) (conditions_from p after items) (conditions_from p (after_lines p after items) rest))

-- ---- routes

-- where the last route stands at the line before this one
abbrev after_routes : Problem → Progress → List Item → ℕ → List (ℕ × ℕ) → List Claim
after_routes p s rest line routes =
    claim Cost (line - 1) (s.cost ≡ plan_cost p (record { hubs = s.hubs; routes = routes }))
    ∷ conditions_from p (record s { line = line; routes = routes }) rest

length-one-more : {X : Type 0} (xs : List X) (x : X) → length (xs ++ x ∷ []) ≡ length xs + 1
length-one-more xs x = length-append xs (x ∷ [])

if_time-now : (b : Bool) (c : Claim) → b ≡ true → if_time b c ≡ c ∷ []
if_time-now b c e = ap (λ t. if_time t c) e

if_time-later : (b : Bool) (c : Claim) → b ≡ false → if_time b c ≡ []
if_time-later b c e = ap (λ t. if_time t c) e

cost_now : (p : Problem) (s : Progress) (routes : List (ℕ × ℕ)) → length routes ≡ s.size * s.size
    → cost_conditions p s routes ≡ claim Cost s.line (s.cost ≡ plan_cost p (record { hubs = s.hubs; routes = routes })) ∷ []
cost_now p s routes e = if_time-now (nat_eq (length routes) (s.size * s.size)) _ (eq-eqb (length routes) (s.size * s.size) e)

cost_later : (p : Problem) (s : Progress) (routes : List (ℕ × ℕ)) → (length routes ≡ s.size * s.size → ⊥) → cost_conditions p s routes ≡ []
cost_later p s routes e = if_time-later (nat_eq (length routes) (s.size * s.size)) _ (ne_eqb (length routes) (s.size * s.size) e)

pub routes_by_lines : (p : Problem) (s : Progress) (cs rs : List (ℕ × ℕ)) (rest : List Item) → length rs ≡ length cs → 1 ≤ length rs
    → length s.routes + length rs ≡ s.size * s.size
    → conditions_from p s (route_items (zip cs rs) ++ rest)
    ≡ route_claims p s.hubs s.line cs rs ++ after_routes p s rest (s.line + length rs) (s.routes ++ rs)
routes_by_lines p s cs [] rest e some all = absurd (omega (arith, some))
routes_by_lines p s [] (r ∷ rs) rest e some all = absurd (omega (arith, e))
routes_by_lines p s (c ∷ []) (r ∷ []) rest e some all =
    let routes = s.routes ++ r ∷ [] in
    let next = conditions_from p (record s { line = s.line + 1; routes = routes }) rest in
    let here = claim Route s.line (Contains s.hubs r.0 × Contains s.hubs r.1) in
    let allowed = claim Length s.line (is_allowed p c r.0 r.1 ≡ true) in
    ap (λ cs. here ∷ (allowed ∷ (cs ++ next))) (cost_now p s routes (length-one-more s.routes r ∙ all))
    ∙ ap (λ line.
    here ∷ allowed ∷ claim Cost line (s.cost ≡ plan_cost p (record { hubs = s.hubs; routes = routes })) ∷ next)
    (let e : s.line ≡ s.line + 1 - 1 = omega arith in e)
routes_by_lines p s (c ∷ d ∷ cs) (r ∷ []) rest e some all = absurd (omega (arith, e))
routes_by_lines p s (c ∷ []) (r ∷ t ∷ rs) rest e some all = absurd (omega (arith, e))
routes_by_lines p s (c ∷ d ∷ cs) (r ∷ t ∷ rs) rest e some all =
    let routes = s.routes ++ r ∷ [] in
    let after = record s { line = s.line + 1; routes = routes } in
    let here = claim Route s.line (Contains s.hubs r.0 × Contains s.hubs r.1) in
    let allowed = claim Length s.line (is_allowed p c r.0 r.1 ≡ true) in
    let long = length-one-more s.routes r in
    ap (λ ks. here ∷ (allowed ∷ (ks ++ conditions_from p after (route_items (zip (d ∷ cs) (t ∷ rs)) ++ rest))))
    (cost_later p s routes (λ f. omega (arith, f, long, all)))
    ∙ ap (λ cs. here ∷ (allowed ∷ cs)) (
    routes_by_lines p after (d ∷ cs) (t ∷ rs) rest (omega (arith, e)) (omega arith) (omega (arith, long, all))
    ∙ ap₂ (λ line ms. route_claims p s.hubs (s.line + 1) (d ∷ cs) (t ∷ rs) ++ after_routes p s rest line ms)
    (let m : s.line + 1 + length (t ∷ rs) ≡ s.line + length (r ∷ t ∷ rs) = omega arith in m)
    (append_assoc s.routes (r ∷ []) (t ∷ rs)))

-- ---- duals

-- the cut of this part and these duals
abbrev cut_of : ℕ → List Prices → Cut
cut_of part duals = record { part = part; duals = duals }

-- these cuts, and nothing of a cut behind them, at this line
abbrev with_cuts : Progress → ℕ → List Cut → Progress
with_cuts s line cuts = record s { line = line; cuts = cuts; part = 1; mark = None; duals = [] }

-- where the last dual of a cut with no mark stands at the line before this one
abbrev after_duals : Problem → Progress → List Item → ℕ → List Prices → List Claim
after_duals p s rest line duals =
    claim Sum (line - 1) (IsWithinSums p (cut_of s.part duals)) ∷ conditions_from p (with_cuts s line (s.cuts ++ cut_of s.part duals ∷ [])) rest

abbrev dual_here : Problem → Progress → ℕ → ℕ × Prices → Claim
dual_here p s t r = claim Dual s.line (IsDualOfRun p s.part t r)

-- what a dual leaves behind where the cut has no mark, by whether it is whole
unmarked_after : (s : Progress) (duals : List Prices) (whole : Bool) → s.mark ≡ None → is_whole s duals ≡ whole
    → with_duals s duals ≡ (if whole then with_cuts s (s.line + 1) (s.cuts ++ cut_of s.part duals ∷ []) else record s { line = s.line + 1; duals = duals })
unmarked_after s duals whole none e =
    ap₂ (λ mark all. if is_none mark && all then with_cuts s (s.line + 1) (s.cuts ++ cut_of s.part duals ∷ []) else record s { line = s.line + 1; duals = duals })
    none e

last_dual : (p : Problem) (s : Progress) (duals : List Prices) (rest : List Item) → s.mark ≡ None → length duals ≡ s.size * s.size
    → sum_conditions p s duals ++ conditions_from p (with_duals s duals) rest ≡ after_duals p s rest (s.line + 1) duals
last_dual p s duals rest none e =
    let all = eq-eqb (length duals) (s.size * s.size) e in
    let sum = claim Sum s.line (IsWithinSums p (cut_of s.part duals)) in
    let whole = with_cuts s (s.line + 1) (s.cuts ++ cut_of s.part duals ∷ []) in
    ap₂ (λ cs after. cs ++ conditions_from p after rest) (if_time-now (is_whole s duals) sum all) (unmarked_after s duals true none all)
    ∙ ap (λ line. claim Sum line (IsWithinSums p (cut_of s.part duals)) ∷ conditions_from p whole rest)
    (let e : s.line ≡ s.line + 1 - 1 = omega arith in e)

earlier_dual : (p : Problem) (s : Progress) (duals : List Prices) (rest : List Item) → s.mark ≡ None → (length duals ≡ s.size * s.size → ⊥)
    → sum_conditions p s duals ++ conditions_from p (with_duals s duals) rest
    ≡ conditions_from p (record s { line = s.line + 1; duals = duals }) rest
earlier_dual p s duals rest none e =
    let more = ne_eqb (length duals) (s.size * s.size) e in
    let sum = claim Sum s.line (IsWithinSums p (cut_of s.part duals)) in
    ap₂ (λ cs after. cs ++ conditions_from p after rest) (if_time-later (is_whole s duals) sum more) (unmarked_after s duals false none more)

-- each run has a dual
abbrev AreSome : List (ℕ × Prices) → Type 0
AreSome [] = Unit {0}
AreSome (r ∷ rest) = (1 ≤ r.0) × AreSome rest

duals_by_lines : (p : Problem) (s : Progress) (n t : ℕ) (rs : List (ℕ × Prices)) (rest : List Item) → s.mark ≡ None → AreSome rs → 1 ≤ length rs
    → length s.duals ≡ t → t + length (spread rs) ≡ s.size * s.size
    → conditions_from p s (run_items n t rs ++ rest)
    ≡ dual_claims p s.part s.line t rs ++ after_duals p s rest (s.line + length rs) (s.duals ++ spread rs)
duals_by_lines p s n t [] rest none some any e all = absurd (omega (arith, any))
duals_by_lines p s n t (r ∷ []) rest none some any e all =
    let duals = s.duals ++ replicate r.0 r.1 in
    let long : length duals ≡ t + r.0 =
    length-append s.duals (replicate r.0 r.1) ∙ ap₂ (λ (x y : ℕ). x + y) e (length-replicate r.0 r.1) in
    let run = length-spread r.0 r.1 [] in
    ap (λ m. dual_here p s m r ∷ (sum_conditions p s duals ++ conditions_from p (with_duals s duals) rest)) e
    ∙ ap (λ cs. dual_here p s t r ∷ cs) (
    last_dual p s duals rest none (omega (arith, long, all, run))
    ∙ ap (λ ds. after_duals p s rest (s.line + 1) (s.duals ++ ds)) (sym (append-nil (replicate r.0 r.1))))
duals_by_lines p s n t (r ∷ q ∷ rs) rest none some any e all =
    let duals = s.duals ++ replicate r.0 r.1 in
    let after = record s { line = s.line + 1; duals = duals } in
    let long : length duals ≡ t + r.0 =
    length-append s.duals (replicate r.0 r.1) ∙ ap₂ (λ (x y : ℕ). x + y) e (length-replicate r.0 r.1) in
    let run = length-spread r.0 r.1 (q ∷ rs) in
    let next = length-spread q.0 q.1 rs in
    ap (λ m. dual_here p s m r ∷ (sum_conditions p s duals ++ conditions_from p (with_duals s duals) (run_items n (t + r.0) (q ∷ rs) ++ rest))) e
    ∙ ap (λ cs. dual_here p s t r ∷ cs) (
    earlier_dual p s duals (run_items n (t + r.0) (q ∷ rs) ++ rest) none (λ f. omega (arith, f, long, all, run, next, some.1.0))
    ∙ duals_by_lines p after n (t + r.0) (q ∷ rs) rest none some.1 (omega arith) long (omega (arith, all, run))
    ∙ ap₂ (λ line ms. dual_claims p s.part (s.line + 1) (t + r.0) (q ∷ rs) ++ after_duals p s rest line ms)
    (let m : s.line + 1 + length (q ∷ rs) ≡ s.line + length (r ∷ q ∷ rs) = omega arith in m)
    (append_assoc s.duals (replicate r.0 r.1) (spread (q ∷ rs))))

singles_some : (duals : List Prices) → AreSome (singles duals)
singles_some [] = tt
singles_some (d ∷ duals) = (omega arith, singles_some duals)

joined_some : (same : Prices → Prices → Bool) (last : Bool) (x : Prices) (rs : List (ℕ × Prices)) → AreSome rs → AreSome (joined same last x rs)
joined_some same last x [] some = (omega arith, tt)
joined_some same last x (r ∷ rest) some =
    by_test (not last && same x r.1) (λ e. rw e (omega arith, some.1)) (λ e. rw e (omega arith, some))

runs_some : (same : Prices → Prices → Bool) (n t : ℕ) (duals : List Prices) → AreSome (runs same n t duals)
runs_some same n t [] = tt
runs_some same n t (d ∷ duals) = joined_some same (ends_row n t) d (runs same n (t + 1) duals) (runs_some same n (t + 1) duals)

dual_runs_some : (v n : ℕ) (duals : List Prices) → AreSome (dual_runs v n duals)
dual_runs_some v n duals = by_test (is_first v) (λ e. rw e (singles_some duals)) (λ e. rw e (runs_some same_prices n 0 duals))

some_run : (rs : List (ℕ × Prices)) → 1 ≤ length (spread rs) → 1 ≤ length rs
some_run [] some = some
some_run (r ∷ rest) some = omega arith

-- ---- duals of a marked cut

-- in a cut of this part with these hubs in its mark, with these duals so far, at this line
abbrev in_marked : Progress → ℕ → ℕ → List ℕ → List Prices → Progress
in_marked s line part hubs duals = record s { line = line; part = part; mark = Some hubs; duals = duals }

-- after a dual and its proof
abbrev after_proved : Progress → Bool → ℕ → ℕ → List ℕ → List Prices → Progress
after_proved s whole line part hubs duals =
    if whole then with_cuts s line (s.cuts ++ cut_of part duals ∷ []) else in_marked s line part hubs duals

-- what the lines of a dual and its proof try
dual_and_proof : (p : Problem) (s : Progress) (line part t : ℕ) (hubs : List ℕ) (before : List Prices) (dual : Prices) (proof : CoreProof) (rest : List Item)
    → length before ≡ t
    → conditions_from p (in_marked s line part hubs before) (says_dual (commodity_at p.size t) 1 dual ∷ says_proof proof ∷ rest)
    ≡ claim Dual line (IsDualOfRun p part t (1, dual))
    ∷ (if_time (nat_eq (length (before ++ dual ∷ [])) (s.size * s.size)) (claim Sum line (IsWithinSums p (cut_of part (before ++ dual ∷ []))))
    ++ (claim Core (line + 1) (IsCoreDual p hubs part (commodity_at p.size t) dual proof)
    ∷ conditions_from p (after_proved s (nat_eq (length (before ++ dual ∷ [])) (s.size * s.size)) (line + 2) part hubs (before ++ dual ∷ [])) rest))
dual_and_proof p s line part t hubs before dual proof rest e =
    let duals = before ++ dual ∷ [] in
    let whole = nat_eq (length duals) (s.size * s.size) in
    let none : Prices = record { a = 0; u = [] } in
    let sum = if_time whole (claim Sum line (IsWithinSums p (cut_of part duals))) in
    let long : length duals - 1 ≡ t = omega (arith, length-one-more before dual, e) in
    let core : ℕ → Prices → Claim = λ m d. claim Core (line + 1) (IsCoreDual p hubs part (commodity_at p.size m) d proof) in
    let two : line + 1 + 1 ≡ line + 2 = omega arith in
    ap (λ m. claim Dual line (IsDualOfRun p part m (1, dual)) ∷ (sum ++ (core (length duals - 1) (slice_index_or duals (length duals - 1) none)
    ∷ conditions_from p (after_proved s whole (line + 1 + 1) part hubs duals) rest))) e
    ∙ ap (λ m. claim Dual line (IsDualOfRun p part t (1, dual)) ∷ (sum ++ (core m (slice_index_or duals m none)
    ∷ conditions_from p (after_proved s whole (line + 1 + 1) part hubs duals) rest))) long
    ∙ ap₂ (λ d next. claim Dual line (IsDualOfRun p part t (1, dual)) ∷ (sum ++ (core t d
    ∷ conditions_from p (after_proved s whole next part hubs duals) rest))) (get_or_push before dual none t e) two

proved_by_lines : (p : Problem) (s : Progress) (cut : Cut) (line t : ℕ) (hubs : List ℕ) (before duals : List Prices) (proofs : List CoreProof)
    (rest : List Item) → s.size ≡ p.size → length before ≡ t → cut.duals ≡ before ++ duals → length cut.duals ≡ p.size * p.size → 1 ≤ length duals
    → length proofs ≡ length duals
    → conditions_from p (in_marked s line cut.part hubs before) (proved_items p.size t duals proofs ++ rest)
    ≡ proved_claims p true cut hubs line t duals proofs ++ conditions_from p (with_cuts s (line + 2 * length duals) (s.cuts ++ cut ∷ [])) rest
proved_by_lines p s cut line t hubs before [] proofs rest size e of all some long = absurd (omega (arith, some))
proved_by_lines p s cut line t hubs before (dual ∷ duals) [] rest size e of all some long = absurd (omega (arith, long))
proved_by_lines p s cut line t hubs before (dual ∷ []) (proof ∷ []) rest size e of all some long =
    let first = claim Dual line (IsDualOfRun p cut.part t (1, dual)) in
    let core = claim Core (line + 1) (IsCoreDual p hubs cut.part (commodity_at p.size t) dual proof) in
    let square : s.size * s.size ≡ p.size * p.size = ap (λ m. m * m) size in
    let whole : length (before ++ dual ∷ []) ≡ t + 1 = length-one-more before dual ∙ ap (λ m. m + 1) e in
    let last : t + 1 ≡ p.size * p.size = sym whole ∙ ap (λ ds. length ds) (sym of) ∙ all in
    let now = eq-eqb (length (before ++ dual ∷ [])) (s.size * s.size) (whole ∙ last ∙ sym square) in
    let sum = claim Sum line (IsWithinSums p cut) in
    let end : ℕ → List Claim = λ next. conditions_from p (with_cuts s next (s.cuts ++ cut ∷ [])) rest in
    dual_and_proof p s line cut.part t hubs before dual proof rest e
    ∙ ap (λ b. first ∷ (if_time b (claim Sum line (IsWithinSums p (cut_of cut.part (before ++ dual ∷ []))))
    ++ (core ∷ conditions_from p (after_proved s b (line + 2) cut.part hubs (before ++ dual ∷ [])) rest))) now
    ∙ ap (λ ds. first ∷ claim Sum line (IsWithinSums p (cut_of cut.part ds)) ∷ core
    ∷ conditions_from p (with_cuts s (line + 2) (s.cuts ++ cut_of cut.part ds ∷ [])) rest) (sym of)
    ∙ ap₂ (λ b next. first ∷ (if_time b sum ++ (core ∷ end next))) (sym (eq-eqb (t + 1) (p.size * p.size) last))
    (let m : line + 2 ≡ line + 2 * length (dual ∷ []) = omega arith in m)
    ∙ ap (λ cs. first ∷ cs)
    (sym (append_assoc (if_time (nat_eq (t + 1) (p.size * p.size)) sum) (core ∷ []) (end (line + 2 * length (dual ∷ [])))))
proved_by_lines p s cut line t hubs before (dual ∷ []) (proof ∷ another ∷ proofs) rest size e of all some long = absurd (omega (arith, long))
proved_by_lines p s cut line t hubs before (dual ∷ next ∷ duals) (proof ∷ []) rest size e of all some long = absurd (omega (arith, long))
proved_by_lines p s cut line t hubs before (dual ∷ next ∷ duals) (proof ∷ another ∷ proofs) rest size e of all some long =
    let first = claim Dual line (IsDualOfRun p cut.part t (1, dual)) in
    let core = claim Core (line + 1) (IsCoreDual p hubs cut.part (commodity_at p.size t) dual proof) in
    let square : s.size * s.size ≡ p.size * p.size = ap (λ m. m * m) size in
    let so_far : length (before ++ dual ∷ []) ≡ t + 1 = length-one-more before dual ∙ ap (λ m. m + 1) e in
    let in_all : length cut.duals ≡ length before + length (dual ∷ next ∷ duals) =
    ap (λ ds. length ds) of ∙ length-append before (dual ∷ next ∷ duals) in
    let more : t + 1 ≡ p.size * p.size → ⊥ = λ f. omega (arith, f, in_all, all, e) in
    let later = ne_eqb (length (before ++ dual ∷ [])) (s.size * s.size) (λ f. more (sym so_far ∙ f ∙ square)) in
    let sum = claim Sum line (IsWithinSums p cut) in
    let items = proved_items p.size (t + 1) (next ∷ duals) (another ∷ proofs) ++ rest in
    let claims = proved_claims p true cut hubs (line + 2) (t + 1) (next ∷ duals) (another ∷ proofs) in
    let end : ℕ → List Claim = λ last. conditions_from p (with_cuts s last (s.cuts ++ cut ∷ [])) rest in
    let last = line + 2 * length (dual ∷ next ∷ duals) in
    dual_and_proof p s line cut.part t hubs before dual proof items e
    ∙ ap (λ b. first ∷ (if_time b (claim Sum line (IsWithinSums p (cut_of cut.part (before ++ dual ∷ []))))
    ++ (core ∷ conditions_from p (after_proved s b (line + 2) cut.part hubs (before ++ dual ∷ [])) items))) later
    ∙ ap (λ cs. first ∷ core ∷ cs)
    (proved_by_lines p s cut (line + 2) (t + 1) hubs (before ++ dual ∷ []) (next ∷ duals) (another ∷ proofs) rest size so_far
    (of ∙ sym (append_assoc before (dual ∷ []) (next ∷ duals))) all (omega arith) (omega (arith, long)))
    ∙ ap₂ (λ b to. first ∷ (if_time b sum ++ (core ∷ (claims ++ end to)))) (sym (ne_eqb (t + 1) (p.size * p.size) more))
    (let m : line + 2 + 2 * length (next ∷ duals) ≡ last = omega arith in m)
    ∙ ap (λ cs. first ∷ cs)
    (sym (append_assoc (if_time (nat_eq (t + 1) (p.size * p.size)) sum) (core ∷ claims) (end last)))

-- ---- cuts

-- with no mark, the lines of this version say the part; with one, there is a proof for each dual
abbrev pub IsSaidAs : ℕ → Cut → Option Mark → Type 0
IsSaidAs v cut None = part_of (part_said v cut.part) ≡ cut.part
IsSaidAs v cut (Some mark) = length mark.proofs ≡ length cut.duals

-- the lines of this version say the cut with its mark
pub record IsSaidCut (n v : ℕ) (cut : Cut) (mark : Option Mark) : Type 0 where
  pub long : length cut.duals ≡ n * n
  pub is_said : IsSaidAs v cut mark

cut_by_lines : (p : Problem) (s : Progress) (v number : ℕ) (cut : Cut) (mark : Option Mark) (rest : List Item) → s.size ≡ p.size → s.mark ≡ None
    → s.duals ≡ [] → 1 ≤ p.size → IsSaidCut p.size v cut mark
    → conditions_from p s (cut_items v p.size (number, (cut, mark)) ++ rest)
    ≡ one_cut_claims p true v s.line (cut, mark) ++ conditions_from p (with_cuts s (s.line + cut_lines v p.size (cut, mark)) (s.cuts ++ cut ∷ [])) rest
cut_by_lines p s v number cut None rest size plain none some said =
    let n = p.size in
    let rs = dual_runs v n cut.duals in
    let after = record s { line = s.line + 1; part = cut.part } in
    let square : s.size * s.size ≡ n * n = ap (λ m. m * m) size in
    let pos : 1 ≤ n * n = mul-pos some some in
    let done : length s.duals ≡ 0 = ap (λ ds. length ds) none in
    let of : spread rs ≡ cut.duals = spread_dual_runs v n cut.duals in
    let long : length (spread rs) ≡ n * n = ap (λ ds. length ds) of ∙ said.long in
    let duals = dual_claims p cut.part (s.line + 1) 0 rs in
    ap (λ part. conditions_from p (record s { line = s.line + 1; part = part }) (run_items n 0 rs ++ rest)) said.is_said
    ∙ duals_by_lines p after n 0 rs rest plain (dual_runs_some v n cut.duals) (some_run rs (omega (arith, long, pos))) done (omega (arith, long, square))
    ∙ ap (λ ds. duals ++ after_duals p after rest (s.line + 1 + length rs) ds) (ap₂ (λ (xs ys : List Prices). xs ++ ys) none of)
    ∙ ap₂ (λ last next. duals ++ (claim Sum last (IsWithinSums p cut) ∷ conditions_from p (with_cuts s next (s.cuts ++ cut ∷ [])) rest))
    (let e : s.line + 1 + length rs - 1 ≡ s.line + length rs = omega arith in e)
    (let e : s.line + 1 + length rs ≡ s.line + (length rs + 1) = omega arith in e)
    ∙ sym (append_assoc duals (claim Sum (s.line + length rs) (IsWithinSums p cut) ∷ [])
    (conditions_from p (with_cuts s (s.line + (length rs + 1)) (s.cuts ++ cut ∷ [])) rest))
cut_by_lines p s v number cut (Some mark) rest size plain none some said =
    let n = p.size in
    let may = claim Core s.line (MayMark p mark.hubs) in
    let items = proved_items n 0 cut.duals mark.proofs ++ rest in
    let claims = proved_claims p true cut mark.hubs (s.line + 1) 0 cut.duals mark.proofs in
    ap (λ ds. may ∷ conditions_from p (in_marked s (s.line + 1) cut.part mark.hubs ds) items) none
    ∙ ap (λ cs. may ∷ cs)
    (proved_by_lines p s cut (s.line + 1) 0 mark.hubs [] cut.duals mark.proofs rest size refl refl said.long
    (omega (arith, said.long, mul-pos some some)) said.is_said
    ∙ ap (λ line. claims ++ conditions_from p (with_cuts s line (s.cuts ++ cut ∷ [])) rest)
    (let e : s.line + 1 + 2 * length cut.duals ≡ s.line + (2 * length cut.duals + 1) = omega arith in e))

pub cuts_by_lines : (p : Problem) (s : Progress) (v first : ℕ) (cuts : List Cut) (marks : List (Option Mark)) (rest : List Item) → s.size ≡ p.size
    → s.part ≡ 1 → s.mark ≡ None → s.duals ≡ [] → 1 ≤ p.size → AllZip (IsSaidCut p.size v) cuts marks
    → conditions_from p s (cuts_items v p.size first (zip cuts marks) ++ rest)
    ≡ cut_claims p true v s.line (zip cuts marks)
    ++ conditions_from p (with_cuts s (s.line + sum_by (cut_lines v p.size) (zip cuts marks)) (s.cuts ++ cuts)) rest
cuts_by_lines p s v first [] (mark ∷ marks) rest size whole plain none some said = absurd said
cuts_by_lines p s v first (cut ∷ cuts) [] rest size whole plain none some said = absurd said
cuts_by_lines p s v first [] [] rest size whole plain none some said =
    ap₂ (λ part ds. conditions_from p (record s { part = part; duals = ds }) rest) whole none
    ∙ ap (λ mark. conditions_from p (record s { part = 1; mark = mark; duals = [] }) rest) plain
    ∙ ap₂ (λ line cuts. conditions_from p (with_cuts s line cuts) rest)
    (let e : s.line ≡ s.line + 0 = omega arith in e) (sym (append-nil s.cuts))
cuts_by_lines p s v first (cut ∷ cuts) (mark ∷ marks) rest size whole plain none some said =
    let here = one_cut_claims p true v s.line (cut, mark) in
    let lines = cut_lines v p.size (cut, mark) in
    let others = sum_by (cut_lines v p.size) (zip cuts marks) in
    let after = with_cuts s (s.line + lines) (s.cuts ++ cut ∷ []) in
    let later = cut_claims p true v (s.line + lines) (zip cuts marks) in
    let all = sum_by (cut_lines v p.size) ((cut, mark) ∷ zip cuts marks) in
    let place : s.line + lines + others ≡ s.line + all = omega (arith, sum_by-cons (cut_lines v p.size) (cut, mark) (zip cuts marks)) in
    let end = conditions_from p (with_cuts s (s.line + all) (s.cuts ++ cut ∷ cuts)) rest in
    let items = cuts_items v p.size (first + 1) (zip cuts marks) in
    ap (λ items. conditions_from p s items) (append_assoc (cut_items v p.size (first, (cut, mark))) items rest)
    ∙ cut_by_lines p s v first cut mark (items ++ rest) size plain none some said.0
    ∙ ap (λ cs. here ++ cs) (
    cuts_by_lines p after v (first + 1) cuts marks rest size refl refl refl some said.1
    ∙ ap₂ (λ line all. later ++ conditions_from p (with_cuts s line all) rest)
    place (append_assoc s.cuts (cut ∷ []) cuts))
    ∙ sym (append_assoc here later end)

-- ---- the tree

-- these branches still to be filled, at this line
abbrev with_pending : Progress → ℕ → List Branching → Progress
with_pending s line pending = record s { line = line; pending = pending }

pub tree_by_lines : (p : Problem) (s : Progress) (b : Branching) (pending : List Branching) (t : Tree) (rest : List Item)
    → conditions_from p (with_pending s s.line (b ∷ pending)) (map says_tree (preorder t) ++ rest)
    ≡ tree_claims p s.cuts s.bound s.line b t ++ conditions_from p (with_pending s (s.line + line_count t) pending) rest
tree_by_lines p s b pending (branch k opened closed) rest =
    let first = claim Branch s.line (Contains b.free k) in
    let down = open_child b k in
    let away = closed_child b k in
    let turn = with_pending s (s.line + 1) (away ∷ pending) in
    let back = with_pending s (s.line + 1 + line_count opened) pending in
    let here = tree_claims p s.cuts s.bound (s.line + 1) down opened in
    let there = tree_claims p s.cuts s.bound (s.line + 1 + line_count opened) away closed in
    let after = conditions_from p (with_pending s (s.line + (1 + line_count opened + line_count closed)) pending) rest in
    ap (λ items. first ∷ conditions_from p (with_pending s (s.line + 1) (down ∷ away ∷ pending)) (items ++ rest))
    (map-append says_tree (preorder opened) (preorder closed))
    ∙ ap (λ items. first ∷ conditions_from p (with_pending s (s.line + 1) (down ∷ away ∷ pending)) items)
    (append_assoc (map says_tree (preorder opened)) (map says_tree (preorder closed)) rest)
    ∙ ap (λ cs. first ∷ cs) (
    tree_by_lines p turn down (away ∷ pending) opened (map says_tree (preorder closed) ++ rest)
    ∙ ap (λ cs. here ++ cs) (
    tree_by_lines p back away pending closed rest
    ∙ ap (λ m. there ++ conditions_from p (with_pending s m pending) rest)
    (let e : s.line + 1 + line_count opened + line_count closed ≡ s.line + (1 + line_count opened + line_count closed) = omega arith in e))
    ∙ sym (append_assoc here there after))
tree_by_lines p s b pending (leaf denom weights) rest = refl
tree_by_lines p s b pending empty rest = refl
tree_by_lines p s b pending (block commodity) rest = refl
tree_by_lines p s b pending count rest = refl
