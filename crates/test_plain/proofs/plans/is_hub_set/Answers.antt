use Rattle.std.proofs.Common.{sym, ◌∙◌}
use Rattle.std.proofs.lemmas.Bool.{OnTrue_at}
use Rattle.hub_spec.proofs.Lacking.{tells}
use Rattle.hub_model.proofs.ServedCommodities.{none_when, when_none}
use Rattle.test_plain.proofs.plans.is_hub_set.Goals as goal

pub lacking-requires : goal.lacking-requires
lacking-requires c = OnTrue_at c.if-is_candidate_set.true c.is_candidate_set.ensures.nodes

pub returns-then-is_candidate_set : goal.returns-then-is_candidate_set
returns-then-is_candidate_set c =
    let set = c.is_candidate_set.ensures.tells.0 c.if-is_candidate_set.true in
    let none = (tells c.args.instance.now c.args.hubs.now).none in (
      λ h. record {
        set = set;
        lacks_none = none.0 (sym c.lacking.ensures ∙ none_when c.lacking.result c.is_none.result c.is_none.ensures h);
      },
      λ is. when_none c.lacking.result c.is_none.result c.is_none.ensures (c.lacking.ensures ∙ none.1 is.lacks_none),
    )
