use Rattle.std.proofs.Common.{List, ℤ, ◌≡◌, ◌+◌, ◌*◌, length, flat_map, ◌++◌, IfOk, refl, ap, ◌∙◌, subst, arith}
use Rattle.std.proofs.lemmas.List.{take_all}
use Rattle.frac_rows.specs.Starts.{start}
use Rattle.frac_rows.specs.Stored.{columns_of}
use Rattle.core_cuts.specs.Bodies.{way_row, objective_row}
use Rattle.core_cuts.proofs.LaidRows.{laid, laid_long, laid_narrow, columns_laid}
use Rattle.core_cuts.proofs.tables.core_rows.Goals as goal
use Rattle.core_cuts.proofs.tables.core_rows.Goals.{In_ok-add_objective}

rows_are : (c : In_ok-add_objective) → c.add_objective.new.numbers.items ≡ laid c.args.candidates.now c.args.hubs.now c.args.edges.now
rows_are c =
    c.in_ok-add_objective.ensures
    ∙ ap (λ (xs : List ℤ). xs ++ objective_row c.args.candidates.now c.args.hubs.now)
    (c.loop-k.invariant ∙ ap (flat_map (way_row c.args.candidates.now)) (take_all c.loop-k.k-index c.args.edges.now c.loop-k-test.false))

pub start-requires-clause-long : goal.start-requires-clause-long
start-requires-clause-long c =
    omega (arith, ap length (c.deref.ensures.value ∙ rows_are (goal.at.start-requires-clause-long c).In_ok-add_objective), laid_long c.args.candidates.now c.args.hubs.now c.args.edges.now, ap (λ n. (n + 1) * (length c.args.candidates.now + 1)) c.requires.one_each)

pub start-requires-clause-given_limit : goal.start-requires-clause-given_limit
start-requires-clause-given_limit c =
    rw (c.deref.ensures.value, rows_are (goal.at.start-requires-clause-given_limit c).In_ok-add_objective)
    (laid_narrow c.args.candidates.now c.args.hubs.now c.args.edges.now c.requires.few)

pub returns : goal.returns
returns c =
    subst (λ (columns : List (List ℤ)). IfOk c.start.result (λ t. t ≡ start columns c.args.rights.now))
    (ap (λ (xs : List ℤ). columns_of (length c.args.rights.now + 1) (length c.args.candidates.now + 1) xs)
    (c.deref.ensures.value ∙ rows_are (goal.at.returns c).In_ok-add_objective)
    ∙ columns_laid c.args.candidates.now c.args.hubs.now c.args.edges.now (length c.args.rights.now + 1) (length c.args.candidates.now + 1)
    (ap (λ n. n + 1) c.requires.one_each) refl)
    c.start.ensures
