-- The stages of the grammar that the stages of a scan stand for.
use Rattle.std.proofs.Common.{◌≡◌, ℕ, ◌+◌, ◌-◌, ◌*◌, ◌/◌, ◌%◌, ◌<◌, ◌≤◌, refl, sym, ap, ◌∙◌, subst, arith, Option, Some, None, nat_lt, nat_eq, inl, inr, mul-le-mul_left}
use Rattle.std.proofs.lemmas.Bool.{cond_both, cond-true, cond-false, cases_eq, ltb-true, ltb-false, eq-eqb, ne_eqb}
use Rattle.std.proofs.lemmas.Nat.{div-mul-add, mod-mul-add}
use Rattle.hub_spec.specs.Problem.{commodity_at}
use Rattle.hub_spec.specs.Cuts.{Prices}
use Rattle.cert_spec.specs.Grammar as grammar
use Rattle.cert_spec.specs.Grammar.{shape, want_dual, want_proved, want_proof}
use Rattle.cert_spec.specs.Lines.{says_dual}
use Rattle.cert_spec.proofs.Leads.{after_route-all, after_route-more, after_cut-all, after_cut-more, after_dual-all, after_dual-more, after_proof-all, after_proof-more, after_tree-all, after_tree-more}
use Rattle.cert_scan.specs.Versions.{version_number}
use Rattle.cert_scan.specs.Moves.{commodity_by, next_commodity_of, route_or_cuts, stage_after_route, stage_after_cuts, stage_after_cut, dual_or_cut, stage_after_dual, alone, subject_run, stage_after_subject, first_proved_of, proved_or_cut, stage_after_proof, stage_after_tree}
use Rattle.cert_scan.specs.declared.stages.DualAt.{DualAt}
use Rattle.cert_scan.specs.declared.stages.LineRun.{LineRun}
use Rattle.cert_scan.specs.declared.stages.Subject.{Subject}
use Rattle.cert_scan.specs.declared.stages.Subject.TheVariants.{Plain, Proved}
use Rattle.cert_scan.specs.declared.stages.Shape.{Shape}
use Rattle.cert_scan.specs.declared.stages.Commodity.{Commodity}
use Rattle.cert_scan.specs.declared.stages.Stage.{Stage}
use Rattle.cert_scan.specs.declared.stages.Stage.TheVariants.{Version, Size, Cost, Bound, Hubs, Route, Cuts, Cut, Dual, ProvedDual, Proof, Nodes, Tree, End, Nothing}

-- the number of a commodity between n nodes
abbrev pub number_of : ℕ → Commodity → ℕ
number_of n c = c.from * n + c.to

-- the shape in the words of the grammar
abbrev pub text_shape : Shape → grammar.Shape
text_shape sh = shape (version_number sh.version) sh.n

-- the stage of the grammar, in a text of this shape; any dual may come, also one that repeats the one before it
abbrev pub stage_at : Shape → Stage → grammar.Stage
stage_at sh Version = grammar.want_version
stage_at sh Size = grammar.want_size (version_number sh.version)
stage_at sh Cost = grammar.want_cost (text_shape sh)
stage_at sh Bound = grammar.want_bound (text_shape sh)
stage_at sh Hubs = grammar.want_hubs (text_shape sh)
stage_at sh (Route c) = grammar.want_route (text_shape sh) (number_of sh.n c)
stage_at sh Cuts = grammar.want_cuts (text_shape sh)
stage_at sh (Cut all before) = grammar.want_cut (text_shape sh) all before
stage_at sh (Dual at) = want_dual (text_shape sh) at.all at.before (number_of sh.n at.commodity) None
stage_at sh (ProvedDual at) = want_proved (text_shape sh) at.all at.before (number_of sh.n at.commodity)
stage_at sh (Proof at) = want_proof (text_shape sh) at.all at.before (number_of sh.n at.commodity)
stage_at sh Nodes = grammar.want_nodes (text_shape sh)
stage_at sh (Tree at) = grammar.want_tree (text_shape sh) at.places at.left
stage_at sh End = grammar.want_end
stage_at sh Nothing = grammar.want_nothing

-- the stage at which any dual may come
abbrev pub loose : grammar.Stage → grammar.Stage
loose (want_dual s all x t before) = want_dual s all x t None
loose stage = stage

-- the commodity is one between n nodes
pub record IsCommodity (n : ℕ) (c : Commodity) : Type 0 where
  pub from : c.from < n
  pub to : c.to < n

-- the stage names nodes
abbrev pub NamesNodes : Shape → Stage → Type 0
NamesNodes sh (Route c) = IsCommodity sh.n c
NamesNodes sh (Dual at) = IsCommodity sh.n at.commodity
NamesNodes sh (ProvedDual at) = IsCommodity sh.n at.commodity
NamesNodes sh (Proof at) = IsCommodity sh.n at.commodity
NamesNodes sh stage = Unit {0}

-- the commodity of a number
pub commodity_named : (n : ℕ) (c : Commodity) → IsCommodity n c → commodity_at n (number_of n c) ≡ (c.from, c.to)
commodity_named n c h =
    let first : number_of n c / n ≡ c.from = div-mul-add c.from n c.to h.to in
    let last : number_of n c % n ≡ c.to = mod-mul-add c.from n c.to h.to in
    λ i. (first i, last i)

-- the run is of commodities of one origin, and of one alone in the first version
pub record IsRunOf (sh : Shape) (run : LineRun) : Type 0 where
  pub some : 1 ≤ run.length
  pub within : run.first.commodity.to + run.length ≤ sh.n
  pub first : version_number sh.version ≡ 1 → run.length ≡ 1

-- in the words of the grammar
pub run_of : (sh : Shape) (run : LineRun) → IsCommodity sh.n run.first.commodity → IsRunOf sh run
    → grammar.IsRun (text_shape sh) (number_of sh.n run.first.commodity) run.length
run_of sh run c h =
    let column : number_of sh.n run.first.commodity % sh.n ≡ run.first.commodity.to = mod-mul-add run.first.commodity.from sh.n run.first.commodity.to c.to in
    (h.some, omega (arith, column, h.within), h.first)

-- ---- the stages after a line

-- the commodity behind so many, or the last of them was the last
abbrev NextIs : ℕ → ℕ → Commodity → Option Commodity → Type 0
NextIs n length c (Some next) = (number_of n next ≡ number_of n c + length) × IsCommodity n next × (number_of n c + length < n * n)
NextIs n length c None = number_of n c + length ≡ n * n

next_is : (n length : ℕ) (c : Commodity) → IsCommodity n c → 1 ≤ length → c.to + length ≤ n → NextIs n length c (next_commodity_of n length c)
next_is n length c h some fits =
    let row : n * (c.from + 1) ≤ n * n = mul-le-mul_left n (omega (arith, h.from)) in
    cond_both (nat_lt (c.to + length) n) _ _ (NextIs n length c)
    (λ e. (let low : c.to + length < n = ltb-true (c.to + length) n e in (omega arith, record { from = h.from; to = omega arith }, omega (arith, row))))
    (λ e. (let end : n ≤ c.to + length = ltb-false (c.to + length) n e in
    cond_both (nat_lt c.from (n - 1)) _ _ (NextIs n length c)
    (λ f. (let low : c.from < n - 1 = ltb-true c.from (n - 1) f in
    let next : n * (c.from + 2) ≤ n * n = mul-le-mul_left n (omega arith) in
    (omega arith, record { from = omega arith; to = omega arith }, omega (arith, next))))
    (λ f. (let last : n - 1 ≤ c.from = ltb-false c.from (n - 1) f in
    let from = h.from in
    let is : c.from + 1 ≡ n = omega arith in
    let square : n * (c.from + 1) ≡ n * n = ap (λ x. n * x) is in
    omega (arith, square)))))

-- the stage of a scan is that of the grammar, where any dual may come, and names nodes
pub record IsAt (sh : Shape) (stage : Stage) (wanted : grammar.Stage) : Type 0 where
  pub is : stage_at sh stage ≡ loose wanted
  pub names : NamesNodes sh stage

route_next : (sh : Shape) (c : Commodity) (next : Option Commodity) → NextIs sh.n 1 c next
    → IsAt sh (route_or_cuts next) (grammar.after_route (text_shape sh) (number_of sh.n c + 1))
route_next sh c (Some next) h = record {
  is = ap (grammar.want_route (text_shape sh)) h.0 ∙ ap loose (sym (after_route-more (text_shape sh) (number_of sh.n c + 1) (λ e. omega (arith, h.2, e))));
  names = h.1;
}
route_next sh c None h = record { is = ap loose (sym (after_route-all (text_shape sh) (number_of sh.n c + 1) h)); names = tt }

pub route_at : (sh : Shape) (c : Commodity) → IsCommodity sh.n c
    → IsAt sh (stage_after_route sh.n c) (grammar.after_route (text_shape sh) (number_of sh.n c + 1))
route_at sh c h = let to = h.to in route_next sh c (next_commodity_of sh.n 1 c) (next_is sh.n 1 c h (omega arith) (omega arith))

pub first_commodity : (n : ℕ) → 1 ≤ n → IsCommodity n (commodity_by 0 0)
first_commodity n some = record { from = some; to = some }

pub cuts_at : (sh : Shape) (all : ℕ) → IsAt sh (stage_after_cuts all) (grammar.after_cut (text_shape sh) all 0)
cuts_at sh all =
    cond_both (nat_lt 0 all) (Cut all 0) Nodes (λ stage. IsAt sh stage (grammar.after_cut (text_shape sh) all 0))
    (λ e. (let some : 0 < all = ltb-true 0 all e in
    record { is = ap loose (sym (after_cut-more (text_shape sh) all 0 (λ none. omega arith))); names = tt }))
    (λ e. (let none : all ≤ 0 = ltb-false 0 all e in record { is = ap loose (sym (after_cut-all (text_shape sh) all 0 (omega arith))); names = tt }))

cut_at : (sh : Shape) (all before : ℕ) → before < all → IsAt sh (stage_after_cut all before) (grammar.after_cut (text_shape sh) all (before + 1))
cut_at sh all before low =
    cond_both (nat_lt before (all - 1)) (Cut all (before + 1)) Nodes (λ stage. IsAt sh stage (grammar.after_cut (text_shape sh) all (before + 1)))
    (λ e. (let some : before < all - 1 = ltb-true before (all - 1) e in
    record { is = ap loose (sym (after_cut-more (text_shape sh) all (before + 1) (λ none. omega arith))); names = tt }))
    (λ e. (let none : all - 1 ≤ before = ltb-false before (all - 1) e in
    record { is = ap loose (sym (after_cut-all (text_shape sh) all (before + 1) (omega arith))); names = tt }))

dual_next : (sh : Shape) (d : DualAt) (length : ℕ) (next : Option Commodity) (dual : Option Prices) → d.before < d.all → NextIs sh.n length d.commodity next
    → IsAt sh (dual_or_cut d next) (grammar.after_dual (text_shape sh) d.all d.before (number_of sh.n d.commodity + length) dual)
dual_next sh d length (Some next) dual low h = record {
  is = ap (λ t. want_dual (text_shape sh) d.all d.before t None) h.0
      ∙ ap loose (sym (after_dual-more (text_shape sh) d.all d.before (number_of sh.n d.commodity + length) dual (λ e. omega (arith, h.2, e))));
  names = h.1;
}
dual_next sh d length None dual low h =
    let cut = cut_at sh d.all d.before low in
    record { is = cut.is ∙ ap loose (sym (after_dual-all (text_shape sh) d.all d.before (number_of sh.n d.commodity + length) dual h)); names = cut.names }

pub dual_at : (sh : Shape) (run : LineRun) (dual : Option Prices) → run.first.before < run.first.all → IsCommodity sh.n run.first.commodity → IsRunOf sh run
    → IsAt sh (stage_after_dual sh.n run)
    (grammar.after_dual (text_shape sh) run.first.all run.first.before (number_of sh.n run.first.commodity + run.length) dual)
dual_at sh run dual low c h =
    dual_next sh run.first run.length (next_commodity_of sh.n run.length run.first.commodity) dual low
    (next_is sh.n run.length run.first.commodity c h.some h.within)

-- the stage of a dual's line
abbrev pub stage_of_subject : Subject → Stage
stage_of_subject (Plain run) = Dual run.first
stage_of_subject (Proved at) = ProvedDual at

-- the dual of one commodity is of a run
pub alone_run : (sh : Shape) (d : DualAt) → IsCommodity sh.n d.commodity → IsRunOf sh (alone d)
alone_run sh d c = let to = c.to in record { some = omega arith; within = omega arith; first = λ e. refl }

pub subject_at : (sh : Shape) (subject : Subject) (c : ℕ × ℕ) (dual : Prices) → (subject_run subject).first.before < (subject_run subject).first.all
    → IsCommodity sh.n (subject_run subject).first.commodity → IsRunOf sh (subject_run subject)
    → IsAt sh (stage_after_subject sh.n subject) (grammar.after (stage_at sh (stage_of_subject subject)) (says_dual c (subject_run subject).length dual))
subject_at sh (Plain run) c dual low nodes h =
    dual_at sh run (grammar.kept_dual (text_shape sh) (number_of sh.n run.first.commodity + run.length) dual) low nodes h
subject_at sh (Proved at) c dual low nodes h = record { is = refl; names = nodes }

pub first_proved_at : (sh : Shape) (all before : ℕ) → 1 ≤ sh.n → IsAt sh (first_proved_of all before) (want_proved (text_shape sh) all before 0)
first_proved_at sh all before some = record { is = ap (want_proved (text_shape sh) all before) (omega arith); names = first_commodity sh.n some }

proved_next : (sh : Shape) (d : DualAt) (next : Option Commodity) → d.before < d.all → NextIs sh.n 1 d.commodity next
    → IsAt sh (proved_or_cut d next) (grammar.after_proof (text_shape sh) d.all d.before (number_of sh.n d.commodity + 1))
proved_next sh d (Some next) low h = record {
  is = ap (want_proved (text_shape sh) d.all d.before) h.0
      ∙ ap loose (sym (after_proof-more (text_shape sh) d.all d.before (number_of sh.n d.commodity + 1) (λ e. omega (arith, h.2, e))));
  names = h.1;
}
proved_next sh d None low h =
    let cut = cut_at sh d.all d.before low in
    record { is = cut.is ∙ ap loose (sym (after_proof-all (text_shape sh) d.all d.before (number_of sh.n d.commodity + 1) h)); names = cut.names }

pub proof_at : (sh : Shape) (d : DualAt) → d.before < d.all → IsCommodity sh.n d.commodity
    → IsAt sh (stage_after_proof sh.n d) (grammar.after_proof (text_shape sh) d.all d.before (number_of sh.n d.commodity + 1))
proof_at sh d low c = let to = c.to in proved_next sh d (next_commodity_of sh.n 1 d.commodity) low (next_is sh.n 1 d.commodity c (omega arith) (omega arith))

pub tree_at : (sh : Shape) (places left : ℕ) → IsAt sh (stage_after_tree places left) (grammar.after_tree (text_shape sh) places left)
tree_at sh places left = elim (cases_eq left 0) [
  | inl none ↦ (let test = eq-eqb left 0 none in
      subst (λ stage. IsAt sh stage (grammar.after_tree (text_shape sh) places left)) (sym (cond-true (nat_eq left 0) End (Tree (record { places = places; left = left })) test))
      (record { is = ap loose (sym (after_tree-all (text_shape sh) places left none)); names = tt }))
  | inr some ↦ (let test = ne_eqb left 0 some in
      subst (λ stage. IsAt sh stage (grammar.after_tree (text_shape sh) places left)) (sym (cond-false (nat_eq left 0) End (Tree (record { places = places; left = left })) test))
      (record { is = ap loose (sym (after_tree-more (text_shape sh) places left (omega arith))); names = tt }))
]
