use Rattle.std.proofs.Common.{◌≡◌, ℕ, ℤ, List, ◌≤◌, length, All, IfOk, unsigned_abs, sym, subst, ap, ◌∙◌, arith}
use Rattle.frac_rows.specs.Rows.{Table}
use Rattle.frac_rows.specs.Starts.{start}
use Rattle.core_cuts.specs.CoreTables.{core_edges, core_table}
use Rattle.core_cuts.specs.Bodies.{most_unit}
use Rattle.core_cuts.proofs.LaidRows.{laid_columns}
use Rattle.core_cuts.proofs.ProblemLimits.{edges_few, rights_few, rights_limit}
use Rattle.core_cuts.proofs.problems.first_table.Goals as goal

pub core_rows-requires-clause-ways : goal.core_rows-requires-clause-ways
core_rows-requires-clause-ways c =
    let few : length c.args.instance.now.candidates ≤ 200 = omega (arith, c.requires.may.few_candidates) in
    omega (arith, ap length c.requires.edges, edges_few c.args.instance.now (c.args.i, c.args.j) few)

pub core_rows-requires-clause-one_each : goal.core_rows-requires-clause-one_each
core_rows-requires-clause-one_each c =
    ap length c.requires.rights ∙ rights_few c.args.instance.now (c.args.i, c.args.j) ∙ sym (ap length c.requires.edges)

pub core_rows-requires-clause-limit : goal.core_rows-requires-clause-limit
core_rows-requires-clause-limit c =
    subst (λ (xs : List ℤ). All (λ x. unsigned_abs x ≤ most_unit) xs) (sym c.requires.rights)
    (rights_limit c.args.instance.now (c.args.i, c.args.j) c.candidates-candidates.ensures.problem c.requires.may.any_length c.requires.from c.requires.to)

pub returns : goal.returns
unfolding core_table
returns c =
    let p = c.args.instance.now in
    let IsStart : List ℕ → List (ℕ × ℕ) → List ℤ → Type 0 =
    λ cs es rs. IfOk c.core_rows.result (λ (t : Table). t ≡ start (laid_columns cs c.args.hubs.now es) rs) in
    subst (IsStart p.candidates (core_edges p (c.args.i, c.args.j))) c.requires.rights
    (subst (λ (es : List (ℕ × ℕ)). IsStart p.candidates es c.args.rights.now) c.requires.edges
    (subst (λ (cs : List ℕ). IsStart cs c.args.edges.now c.args.rights.now) c.candidates-candidates.ensures.value c.core_rows.ensures))
