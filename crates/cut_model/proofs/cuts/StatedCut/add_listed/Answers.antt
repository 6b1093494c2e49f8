use Rattle.std.proofs.Common.{◌≡◌, List, ◌++◌, length, replicate, All, sym, ap, subst, ◌∙◌, arith}
use Rattle.std.proofs.lemmas.List.Elements.{All-push}
use Rattle.hub_spec.specs.Cuts.{Prices, Cut}
use Rattle.cut_model.specs.Runs.{run_duals, IsRunOf, HaveEnds}
use Rattle.cut_model.specs.declared.runs.Run.{Run}
use Rattle.cut_model.proofs.RunLists.{runs_kept, ends_more, last_is_run, duals_more}
use Rattle.cut_model.proofs.cuts.StatedCut.add_listed.Goals as goal
use Rattle.cut_model.proofs.cuts.StatedCut.add_listed.Goals.{After-self-1}

pub push_listed-requires : goal.push_listed-requires
push_listed-requires c = c.requires.dual.each

pub invariant_of-self : goal.invariant_of-self
invariant_of-self c = record {
  runs = runs_kept c.self.inside.values.items c.push_listed.new.values.items c.self.inside.runs.items c.push_listed.ensures.kept c.self.invariant.runs;
  ends = c.self.invariant.ends;
}

pub invariant_of-self-in_err-from : goal.invariant_of-self-in_err-from
invariant_of-self-in_err-from c = record {
  runs = runs_kept c.self.inside.values.items c.push_listed.new.values.items c.self.inside.runs.items c.push_listed.ensures.kept c.self.invariant.runs;
  ends = c.self.invariant.ends;
}

pub invariant_of-self-in_err-to : goal.invariant_of-self-in_err-to
invariant_of-self-in_err-to c = record {
  runs = runs_kept c.self.inside.values.items c.push_listed.new.values.items c.self.inside.runs.items c.push_listed.ensures.kept c.self.invariant.runs;
  ends = c.self.invariant.ends;
}

pub invariant_of-self-in_err-push : goal.invariant_of-self-in_err-push
invariant_of-self-in_err-push c =
    let more = c.push_listed.new.values.items in
    let same = sym c.in_err-push.ensures.items in
    record {
      runs = subst (All (IsRunOf more)) same
          (runs_kept c.self.inside.values.items more c.self.inside.runs.items c.push_listed.ensures.kept c.self.invariant.runs);
      ends = subst (λ (rs : List Run). HaveEnds rs c.self.inside.count) same c.self.invariant.ends;
    }

-- the run that is pushed
abbrev pushed_run : After-self-1 → Run
pushed_run c = record { price = c.args.price; many = c.args.many; end = c.in_ok-end.end; from = c.in_ok-from.from; to = c.in_ok-to.to }

begins : (c : After-self-1) → c.in_ok-from.from ≡ length c.self.inside.values.items
begins c = omega arith

ends_at : (c : After-self-1) → c.in_ok-to.to ≡ length c.push_listed.new.values.items
ends_at c = omega arith

pub invariant_of-self-2 : goal.invariant_of-self-2
invariant_of-self-2 c =
    let values = c.self.inside.values.items in
    let more = c.push_listed.new.values.items in
    let runs = c.self.inside.runs.items in
    let r = pushed_run c in
    let pushed = sym c.in_ok-push.ensures.items in
    let last = last_is_run values more c.args.values.now r c.push_listed.ensures.kept c.in_ok-push_listed.ensures.pushed (begins c) (ends_at c)
    c.requires.some c.requires.dual in
    record {
      runs = subst (All (IsRunOf more)) pushed
          (All-push (IsRunOf more) runs r (runs_kept values more runs c.push_listed.ensures.kept c.self.invariant.runs) last);
      ends = subst (λ (rs : List Run). HaveEnds rs c.in_ok-end.end) pushed
          (ends_more runs c.self.inside.count r c.self.invariant.ends c.requires.some (omega (arith, c.in_ok-end.ensures)));
    }

pub returns : goal.returns
returns c =
    let values = c.self.inside.values.items in
    let more = c.push_listed.new.values.items in
    let runs = c.self.inside.runs.items in
    let many = c.args.many in
    ap (λ (rs : List Run). record { part = c.self.inside.part; duals = run_duals more rs }) c.in_ok-push.ensures.items
    ∙ ap (λ (ds : List Prices). record { part = c.self.inside.part; duals = ds })
    (duals_more values more runs c.args.values.now (pushed_run c) c.push_listed.ensures.kept c.self.invariant.runs
    c.in_ok-push_listed.ensures.pushed (begins c) (ends_at c))
    ∙ ap (λ (cut : Cut). record { part = cut.part; duals = cut.duals ++ replicate many (record { a = c.args.price; u = c.args.values.now }) }) c.self.view_is
