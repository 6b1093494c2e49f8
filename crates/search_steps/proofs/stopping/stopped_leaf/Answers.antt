use Rattle.std.proofs.Common.{ℕ, [], ◌∷◌, Result, Ok, Err, OnOk, ap, sym, refl, ◌∙◌, FitsSigned, rules}
use Rattle.std.specs.Int.{w128}
use Rattle.std.proofs.lemmas.Int.{to_z-of_z}
use Rattle.std.proofs.lemmas.Result.{IfOk-weaker}
use Rattle.hub_spec.specs.Trees.{TreeLine, preorder}
use Rattle.search_spec.specs.States.{Grown, lesser, rounded_up}
use Rattle.search_steps.specs.Weights.{pairs_of}
use Rattle.search_steps.proofs.GivenPools.{grown_same}
use Rattle.search_steps.proofs.LeafPairs.{weights_fit}
use Rattle.search_steps.specs.Progressing.{state_of}
use Rattle.search_steps.proofs.Stops.{stopped_is}
use Rattle.search_steps.proofs.stopping.stopped_leaf.Goals as goal

on_each : {X Y P : Type 0} (r : Result X Y) → P → OnOk r P
on_each (Ok x) told = told
on_each (Err e) told = tt

pub leaf_line-requires : goal.leaf_line-requires
leaf_line-requires g c = weights_fit c.args.weights.now c.requires.weights.each

pub returns : goal.returns
returns g c =
    let p = c.args.task.now.instance.now in
    let before = c.args.progress.now in
    let going = c.requires.going in
    let s = state_of p before in
    let w = pairs_of c.args.weights.now in
    let fits : FitsSigned w128 c.bound-bound.result = search rules in
    let is = stopped_is p c.args.branch.now w s c.bound-bound.result c.lesser.result
    (c.bound-bound.ensures.value before.hubs before.cost before.made before.stop)
    (c.lesser.ensures ∙ ap (λ (x : ℕ). lesser x before.stop) (c.rounded_up.ensures ∙ ap rounded_up (to_z-of_z w128 c.bound-bound.result fits))) in
    record {
      at = on_each c.leaf_line.result (record {
        state = ap (λ (x : Grown). x.state) is;
        lines = refl;
        going = record {
          problem = going.problem;
          pool = going.pool;
          few_cuts = going.few_cuts;
          few_lines = going.few_lines;
          hubs = going.hubs;
          cost = going.cost;
          made = going.made;
        };
        kept = grown_same before.pool.entries;
      });
      line = IfOk-weaker c.leaf_line.result _ _
          (λ line told. ap (λ (x : Grown). preorder x.tree) (sym is) ∙ ap (λ (l : TreeLine). l ∷ []) (sym told)) c.leaf_line.ensures;
    }
