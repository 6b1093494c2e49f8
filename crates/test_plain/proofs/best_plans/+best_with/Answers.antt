use Rattle.std.proofs.Common.{◌≡◌, ℕ, ◌+◌, ◌<◌, List, [], ◌∷◌, ◌++◌, subst, length, get_or, ap, ◌∙◌, rules, arith}
use Rattle.test_plain.specs.AllSets.{NoneCheaper}
use Rattle.test_plain.proofs.AllSets.{none_cheaper_next}
use Rattle.test_plain.proofs.SetSearch.{opened_first, closed_first}
use Rattle.test_plain.proofs.best_plans.+best_with.Goals as goal

pub best_with-requires : goal.best_with-requires
best_with-requires t c =
    let p = c.args.instance.now in
    let within : c.args.at < length p.candidates = omega (arith, ap length c.requires.candidates) in (
      search (rules, arith),
      (
        c.requires.problem,
        (
          c.requires.candidates,
          (
            omega arith,
            (
              opened_first p c.args.at c.args.inside.now c.deref.result.now _ c.requires.problem within c.requires.inside
                  (ap (λ cs. get_or cs c.args.at 0) c.requires.candidates) (c.deref.ensures.value ∙ c.in_ok-opened.ensures),
              c.requires.best,
            ),
          ),
        ),
      ),
    )

pub best_with-requires-2 : goal.best_with-requires-2
best_with-requires-2 t c =
    let p = c.args.instance.now in
    let within : c.args.at < length p.candidates = omega (arith, ap length c.requires.candidates) in (
      search (rules, arith),
      (
        c.requires.problem,
        (
          c.requires.candidates,
          (
            omega arith,
            (
              closed_first p c.args.at c.args.inside.now c.requires.problem within c.requires.inside,
              c.in_ok-best_opened.ensures.plan,
            ),
          ),
        ),
      ),
    )

pub returns-clause-least : goal.returns-clause-least
returns-clause-least t c =
    let p = c.args.instance.now in
    let within : c.args.at < length p.candidates = omega (arith, ap length c.requires.candidates) in
    let opened : c.deref.result.now ≡ c.args.inside.now ++ get_or p.candidates c.args.at 0 ∷ [] =
    c.deref.ensures.value ∙ c.in_ok-opened.ensures ∙ ap (λ cs. c.args.inside.now ++ get_or cs c.args.at 0 ∷ []) c.requires.candidates in
    none_cheaper_next p c.args.at c.args.inside.now c.in_ok-best_opened.best_opened c.in_ok-best_closed.best_closed within
    (subst (λ (hs : List ℕ). NoneCheaper p (c.args.at + 1) hs c.in_ok-best_opened.best_opened) opened c.in_ok-best_opened.ensures.least)
    c.in_ok-best_closed.ensures.least c.in_ok-best_closed.ensures.not_dearer
