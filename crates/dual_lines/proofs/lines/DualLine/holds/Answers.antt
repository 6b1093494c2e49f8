use Rattle.std.proofs.Common.{◌≡◌, ℕ, ◌+◌, ◌<◌, Fits, Bool, IsTrue, ◌↔◌, false, refl, ap, sym, subst, ◌∙◌, ⊎_elim, rules, arith}
use mir.Syntax.{w32}
use Rattle.std.proofs.lemmas.Bool.{cases_lt}
use Rattle.hub_spec.specs.Cuts.{IsDual}
use Rattle.dual_lines.specs.Lines.{CommodityDual, ListedDual, IsRun, run_from}
use Rattle.dual_lines.proofs.lines.DualLine.holds.Goals as goal

fits : (n : ℕ) → n < 201 → Fits w32 n
fits n low = search (rules, arith)

-- the dual is feasible of the commodity of the run with this number
abbrev IsDualAt : ListedDual → ℕ → Type 0
IsDualAt d s = IsDual d.problem d.part (d.commodity.0, d.commodity.1 + s) d.dual

-- where the line was turned to that commodity, its test decides this
turned_tells : (before turned : CommodityDual) (d : ListedDual) (first run s : ℕ) (holds : Bool) → run_from first run before ≡ d
    → turned ≡ record { problem = before.problem; commodity = (before.commodity.0, first + s); part = before.part; dual = before.dual }
    → (IsTrue holds ↔ IsDual turned.problem turned.part turned.commodity turned.dual) → (IsTrue holds ↔ IsDualAt d s)
turned_tells before turned d first run s holds same is says =
    subst (λ (e : ListedDual). IsTrue holds ↔ IsDualAt e s) same
    (subst (λ (e : CommodityDual). IsTrue holds ↔ IsDual e.problem e.part e.commodity e.dual) is says)

-- one commodity more
one_more : (d : ListedDual) (upto : ℕ) → ((s : ℕ) → s < upto → IsDualAt d s) → IsDualAt d upto → (s : ℕ) → s < upto + 1 → IsDualAt d s
one_more d upto so_far here s below =
    ⊎_elim (λ early. so_far s early) (λ late. let same : upto ≡ s = omega (arith, below, late) in subst (IsDualAt d) same here) (cases_lt s upto)

pub overflow_add-self-inside : goal.overflow_add-self-inside
overflow_add-self-inside c =
    let run = c.loop-s.invariant.is_run in
    fits (c.loop-s.self-inside.first + c.loop-s.s) (omega (arith, c.loop-s-test.true, c.loop-s.invariant.end, run.nodes, run.size_limit))

pub returns-then-not-holds-clause-holds : goal.returns-then-not-holds-clause-holds
returns-then-not-holds-clause-holds c =
    let d = c.args.self.now in
    let s = c.loop-s.s in
    let here = turned_tells c.loop-s.self-inside.line c.turn_to.new.self d c.loop-s.self-inside.first c.loop-s.self-inside.run s c.holds.result
    c.loop-s.invariant.same c.turn_to.ensures c.holds.ensures in
    let within : s < d.run = omega (arith, c.loop-s-test.true, c.loop-s.invariant.end, ap (λ (e : ListedDual). e.run) c.loop-s.invariant.same) in (
      λ yes. absurd (let e : IsTrue false = yes in cc),
      λ all. sym c.if-not-holds.true ∙ here.1 (all s within),
    )

pub loop-s-preserved : goal.loop-s-preserved
loop-s-preserved c =
    let d = c.args.self.now in
    let s = c.loop-s.s in
    let first = c.loop-s.self-inside.first in
    let run = c.loop-s.self-inside.run in
    let here = turned_tells c.loop-s.self-inside.line c.turn_to.new.self d first run s c.holds.result c.loop-s.invariant.same c.turn_to.ensures
    c.holds.ensures in
    record {
      same = ap (λ (e : CommodityDual). run_from first run e) c.turn_to.ensures ∙ c.loop-s.invariant.same;
      is_run = subst (λ (e : CommodityDual). IsRun e.problem first run) (sym c.turn_to.ensures) c.loop-s.invariant.is_run;
      end = c.loop-s.invariant.end;
      hold = one_more d s c.loop-s.invariant.hold (here.0 c.if-not-holds.false);
    }

pub returns-clause-holds : goal.returns-clause-holds
returns-clause-holds c =
    let d = c.args.self.now in (
      λ _ s below. c.loop-s.invariant.hold s
          (omega (arith, below, c.loop-s-test.false, c.loop-s.invariant.end, ap (λ (e : ListedDual). e.run) c.loop-s.invariant.same)),
      λ _. refl,
    )
