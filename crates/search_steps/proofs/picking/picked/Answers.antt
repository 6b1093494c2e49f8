use Rattle.std.proofs.Common.{ℕ, ℤ, pos, int_lt, List, get_or, Vec, Global, ap, ap₂, sym, subst, ◌∙◌, vec_len, eqb-true, arith}
use Rattle.std.proofs.lemmas.Bool.{eqb-false}
use Rattle.hub_spec.specs.Plans.{IsCandidateSet}
use Rattle.search_spec.specs.Choices.{first_best}
use Rattle.frac_master.specs.Advice.{advice_of_code}
use Rattle.search_steps.specs.Advising.{told_by}
use Rattle.search_steps.proofs.Points.{picked_greatest, picked_rounded, picked_is_set}
use Rattle.search_steps.proofs.picking.picked.Goals as goal
use Rattle.search_steps.proofs.picking.picked.Goals.{then-is_empty+in_ok-push, else-is_empty}

pub returns-clause-picked : goal.returns-clause-picked
returns-clause-picked c =
    let a = told_by (advice_of_code c.args.advice.now) in
    let items = λ (v : Vec ℕ Global). v.items in
    let best = λ (point : List ℤ) (ks : List ℕ). first_best (λ (k m : ℕ). int_lt (get_or point m (pos 0)) (get_or point k (pos 0))) ks in
    elim c.if-is_empty.branch [
      | then-is_empty+in_ok-push w ↦ ap items w.set-is ∙ w.in_ok-push.ensures.items
          ∙ picked_greatest c.args.instance.now a c.args.branch.now c.in_ok-set.set.items w.first_greatest.result c.in_ok-set.ensures.is
          (omega (arith, c.in_ok-set.set.ok.0, eqb-true (vec_len c.in_ok-set.set) 0 (sym c.is_empty.ensures ∙ w.if-is_empty.true)))
          (w.first_greatest.ensures ∙ ap₂ best w.deref.ensures.value w.free.ensures.value)
      | else-is_empty w ↦ ap items w.set-is
          ∙ picked_rounded c.args.instance.now a c.args.branch.now c.in_ok-set.set.items c.in_ok-set.ensures.is
          (λ none. omega (arith, none, c.in_ok-set.set.ok.0, eqb-false (vec_len c.in_ok-set.set) 0 (sym c.is_empty.ensures ∙ w.if-is_empty.false)))
    ]

pub returns-clause-set : goal.returns-clause-set
returns-clause-set c =
    λ some. subst (IsCandidateSet c.args.instance.now) (sym (returns-clause-picked c))
    (picked_is_set c.args.instance.now (told_by (advice_of_code c.args.advice.now)) c.args.branch.now c.in_ok-set.ensures.problem c.requires some)
