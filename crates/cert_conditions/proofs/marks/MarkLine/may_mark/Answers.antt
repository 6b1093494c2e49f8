use Rattle.std.proofs.Common.{◌≡◌, All, Contains, ap, sym, subst, ◌∙◌}
use Rattle.cert_conditions.specs.Marks.{MarkTally}
use Rattle.cert_conditions.proofs.marks.MarkLine.may_mark.Goals as goal

pub returns-then-may_be_marked : goal.returns-then-may_be_marked
returns-then-may_be_marked c =
    let P = All (Contains c.args.instance.now.candidates) in
    let hubs : c.deref.result.now ≡ c.args.self.now.hubs = c.deref.ensures.value ∙ ap (λ (m : MarkTally). m.hubs) c.self.view_is in (
      λ yes. (c.may_be_marked.ensures.0 c.if-may_be_marked.true, subst P hubs (c.are_candidates.ensures.0 yes)),
      λ h. c.are_candidates.ensures.1 (subst P (sym hubs) h.1),
    )
