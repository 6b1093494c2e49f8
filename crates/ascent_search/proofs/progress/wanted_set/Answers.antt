use Rattle.std.proofs.Common.{ℕ, List, All, sym, subst, ◌∙◌, true≢false}
use Rattle.std.proofs.lemmas.Option.{none-some}
use Rattle.hub_spec.specs.Problem.{commodities}
use Rattle.hub_spec.specs.Plans.{IsCandidateSet, HasRoute, HasWanted}
use Rattle.hub_spec.proofs.Lacking.{tells}
use Rattle.ascent_search.proofs.progress.wanted_set.Goals as goal

pub returns-then-not-is_candidate_set-clause-none : goal.returns-then-not-is_candidate_set-clause-none
returns-then-not-is_candidate_set-clause-none c =
    λ same wanted. true≢false (sym (c.is_candidate_set.ensures.tells.1 wanted.is_set.set) ∙ c.if-not-is_candidate_set.true)

pub returns-then-not-has_wanted-clause-none : goal.returns-then-not-has_wanted-clause-none
returns-then-not-has_wanted-clause-none c = λ same wanted. true≢false (sym (c.has_wanted.ensures.1 wanted.wanted) ∙ c.if-not-has_wanted.true)

pub lacking-requires : goal.lacking-requires
lacking-requires c =
    subst (IsCandidateSet c.args.instance.now) (sym c.in_ok-set.ensures) (c.is_candidate_set.ensures.tells.0 c.if-not-is_candidate_set.false)

pub returns-in-Some-clause-none : goal.returns-in-Some-clause-none
returns-in-Some-clause-none c =
    let p = c.args.instance.now in
    λ same wanted. none-some _ (sym ((tells p c.in_ok-set.set).none.1
    (subst (λ (hubs : List ℕ). All (HasRoute p hubs) (commodities p.size)) (sym c.in_ok-set.ensures) wanted.is_set.lacks_none))
    ∙ sym c.lacking.ensures ∙ c.in-Some.is)

pub returns-in-None-clause-set : goal.returns-in-None-clause-set
returns-in-None-clause-set c =
    let p = c.args.instance.now in
    record {
      same = c.in_ok-set.ensures;
      wanted = record {
        is_set = record {
          set = subst (IsCandidateSet p) (sym c.in_ok-set.ensures) (c.is_candidate_set.ensures.tells.0 c.if-not-is_candidate_set.false);
          lacks_none = (tells p c.in_ok-set.set).none.0 (sym c.lacking.ensures ∙ c.in-None.is);
        };
        wanted = subst (HasWanted p) (sym c.in_ok-set.ensures) (c.has_wanted.ensures.0 c.if-not-has_wanted.false);
      };
    }
