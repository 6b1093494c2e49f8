use Rattle.std.proofs.Common.{ℕ, ◌↔◌, ◌<◌, ◌≤◌, true, false, List, get_or, IsTrue, All, sym, subst, arith}
use Rattle.std.specs.Prelude.{slice_index}
use Rattle.std.proofs.lemmas.List.Elements.{All-get_or}
use Rattle.hub_spec.proofs.AllLoops.{all_ended, all_broken, all_goes_on}
use Rattle.cert_checker.proofs.older.are_loads_within.Goals as goal

pub is_load_within-requires : goal.is_load_within-requires
is_load_within-requires c =
    let n = c.args.instance.now.size in
    let nodes = subst (λ (cs : List ℕ). All (λ (k : ℕ). k < n) cs) (sym c.candidates-candidates.ensures.value) c.candidates-candidates.ensures.problem.candidates_are_nodes in
    let less : get_or c.candidates-candidates.result.now c.loop-k.k-index 0 < n =
    All-get_or (λ (k : ℕ). k < n) c.candidates-candidates.result.now c.loop-k.k-index 0 c.loop-k-test.true nodes in
    omega (arith, less, c.requires)

pub returns-then-not-is_load_within : goal.returns-then-not-is_load_within
returns-then-not-is_load_within c =
    let P : ℕ → Type 0 = λ k. slice_index c.args.loads.now k ≤ c.args.limit in
    subst (λ (cs : List ℕ). IsTrue false ↔ All P cs) c.candidates-candidates.ensures.value
    (all_broken P c.candidates-candidates.result.now c.loop-k.k-index 0 c.is_load_within.result c.loop-k-test.true c.is_load_within.ensures
    c.if-not-is_load_within.true)

pub loop-k-preserved : goal.loop-k-preserved
loop-k-preserved c =
    all_goes_on (λ k. slice_index c.args.loads.now k ≤ c.args.limit) c.candidates-candidates.result.now c.loop-k.k-index 0 c.is_load_within.result
    c.loop-k-test.true c.is_load_within.ensures c.if-not-is_load_within.false c.loop-k.invariant

pub returns : goal.returns
returns c =
    let P : ℕ → Type 0 = λ k. slice_index c.args.loads.now k ≤ c.args.limit in
    subst (λ (cs : List ℕ). IsTrue true ↔ All P cs) c.candidates-candidates.ensures.value
    (all_ended P c.candidates-candidates.result.now c.loop-k.k-index c.loop-k-test.false c.loop-k.invariant)
