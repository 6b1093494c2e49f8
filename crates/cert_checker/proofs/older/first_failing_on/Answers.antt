use Rattle.std.proofs.Common.{◌≡◌, ◌/◌, ◌%◌, ◌∙◌, slice_index_or, ap, arith}
use Rattle.dual_lines.specs.Lines.{ListedDual}
use Rattle.cert_checker.specs.Runs.{no_dual}
use Rattle.cert_checker.proofs.LineDuals.{line_holds, line_fails, one_more}
use Rattle.cert_checker.proofs.older.first_failing_on.Goals as goal
use Rattle.cert_checker.proofs.older.first_failing_on.Goals.{After-holds}

-- the line has the dual of the commodity
listed : (c : After-holds) → c.list_dual.new.line ≡ record {
  problem = c.args.duals.now.problem;
  commodity = (c.loop-t.t / c.args.n, c.loop-t.t % c.args.n);
  part = c.args.cut.now.part;
  run = 1;
  dual = slice_index_or c.args.cut.now.duals c.loop-t.t no_dual;
}
listed c = c.list_dual.ensures ∙ (λ i. record {
  problem = c.loop-t.invariant.same i;
  commodity = (c.loop-t.t / c.args.n, c.loop-t.t % c.args.n);
  part = c.part.ensures i;
  run = 1;
  dual = c.dual.ensures i;
})

pub returns-then-not-holds-clause-same : goal.returns-then-not-holds-clause-same
returns-then-not-holds-clause-same c =
    ap (λ (l : ListedDual). l.problem) (c.holds.ensures.same ∙ listed (goal.at.returns-then-not-holds-clause-same c).After-holds)

pub returns-then-not-holds-clause-first : goal.returns-then-not-holds-clause-first
returns-then-not-holds-clause-first c =
    let t = c.loop-t.t in
    let cut = c.args.cut.now in
    record {
      within = omega (arith, c.requires.cut.one_for_each);
      before = c.loop-t.invariant.before;
      here = line_fails c.args.duals.now.problem cut.part c.args.n t (slice_index_or cut.duals t no_dual) c.holds.result c.list_dual.new.line c.requires.size
          (listed (goal.at.returns-then-not-holds-clause-first c).After-holds) c.holds.ensures.holds c.if-not-holds.true;
    }

pub loop-t-preserved : goal.loop-t-preserved
loop-t-preserved c =
    let p = c.args.duals.now.problem in
    let cut = c.args.cut.now in
    let t = c.loop-t.t in
    let is = listed (goal.at.loop-t-preserved c).After-holds in
    record {
      same = ap (λ (l : ListedDual). l.problem) (c.holds.ensures.same ∙ is);
      before = one_more p cut.part cut.duals t c.loop-t.invariant.before
          (line_holds p cut.part c.args.n t (slice_index_or cut.duals t no_dual) c.holds.result c.list_dual.new.line c.requires.size is
          c.holds.ensures.holds c.if-not-holds.false);
    }

pub returns-clause-first : goal.returns-clause-first
returns-clause-first c = λ s within. c.loop-t.invariant.before s (omega (arith, within, c.loop-t-test.false, c.requires.cut.one_for_each))
