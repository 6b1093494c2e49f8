use Rattle.std.proofs.Common.{List, ℕ, Some, ◌+◌, ◌≤◌, length, sym, subst, ap, ◌∙◌, arith}
use Rattle.std.proofs.lemmas.Grind.{common_steps}
use Rattle.hub_words.proofs.ListedNodes.{IsRead, nodes_legal, read_last, read_more, read_refused}
use Rattle.hub_words.proofs.candidates.nodes_listed.Goals as goal

pub returns-in_default-count : goal.returns-in_default-count
returns-in_default-count c =
    read_refused c.args.word.now _ _ _ _ _ c.loop-part.invariant.read c.in-Some.ensures.parts c.in_default-count.ensures.value

pub loop-part-preserved : goal.loop-part-preserved
loop-part-preserved c = record {
  read = subst (λ (nodes : List ℕ). IsRead c.args.word.now nodes (c.in-Some-count.number + 1) c.in-Some.later.now) (sym c.in_ok-push.ensures.items)
      (read_more c.args.word.now _ _ _ _ c.in-Some.later.now c.in-Some-count.number c.loop-part.invariant.read c.in-Some.ensures.parts
      c.in-Some-count.ensures.value);
  text = c.in-Some.ensures.text;
}

pub returns-in_default-count-2 : goal.returns-in_default-count-2
returns-in_default-count-2 c =
    read_refused c.args.word.now _ _ _ _ _ c.loop-part.invariant.read c.in_default.ensures.parts c.in_default-count-2.ensures.value

pub from_vec-requires : goal.from_vec-requires
from_vec-requires c =
    let some : 1 ≤ length c.push-2.new.self.items = grind (arith, common_steps) in
    nodes_legal c.args.word.now c.push-2.new.self.items some
    (ap (λ (nodes : List ℕ). Some nodes) c.in_ok-push-2.ensures.items
    ∙ read_last c.args.word.now _ _ _ _ c.loop-part.invariant.read c.in_default.ensures.parts c.in-Some-count-2.ensures.value)

pub returns : goal.returns
returns c =
    ap (λ (nodes : List ℕ). Some nodes) (c.from_vec.ensures ∙ c.in_ok-push-2.ensures.items)
    ∙ read_last c.args.word.now _ _ _ _ c.loop-part.invariant.read c.in_default.ensures.parts c.in-Some-count-2.ensures.value
