use Rattle.std.proofs.Common.{◌+◌, List, [], ◌∷◌, get_or, refl, sym, ap, subst, ◌∙◌, arith}
use Rattle.std.proofs.lemmas.List.{get_or_default}
use Rattle.hub_spec.specs.Problem.{commodity_at}
use Rattle.core_spec.specs.CoreCuts.{CoreProof}
use Rattle.cert_spec.specs.Lines.{says_marked, says_dual, says_proof}
use Rattle.cert_spec.specs.Text.{proved_items}
use Rattle.cert_format.proofs.MarkedLines.{no_proof, proved_from, next_proved_items, none_proved_items}
use Rattle.cert_conditions.specs.ListLines.{MayTakeLines, TakesLines}
use Rattle.cert_checker.proofs.Walking.{may_first, front_start, front_more, front_may, front_end}
use Rattle.cert_checker.proofs.Holding.{dual_known}
use Rattle.cert_checker.proofs.walks.take_marked.Goals as goal

pub take_line-requires-clause-may : goal.take_line-requires-clause-may
take_line-requires-clause-may c =
    let cut = c.args.cut.now in
    let mark = c.args.mark.now in
    subst (λ part. MayTakeLines c.args.checks.now (says_marked c.args.x part c.hubs-hubs.result.now ∷ [])) (sym c.part-part.ensures)
    (subst (λ hubs. MayTakeLines c.args.checks.now (says_marked c.args.x cut.part hubs ∷ [])) (sym c.hubs-hubs.ensures)
    (may_first (says_marked c.args.x cut.part mark.hubs ∷ []) (proved_items c.args.n 0 cut.duals mark.proofs) c.requires.may))

pub loop-t-init : goal.loop-t-init
loop-t-init c =
    let cut = c.args.cut.now in
    let mark = c.args.mark.now in
    let line = says_marked c.args.x cut.part mark.hubs in
    let rest = proved_items c.args.n 0 cut.duals mark.proofs in
    record {
      front = front_more (line ∷ []) rest (front_start c.args.checks.now (line ∷ rest)) refl
          (subst (λ hubs. TakesLines c.args.checks.now (says_marked c.args.x cut.part hubs ∷ []) c.take_line.new.self) c.hubs-hubs.ensures
          (subst (λ part. TakesLines c.args.checks.now (says_marked c.args.x part c.hubs-hubs.result.now ∷ []) c.take_line.new.self) c.part-part.ensures
          c.in_ok-take_line.ensures.taken));
      instance = c.in_ok-take_line.ensures.instance;
    }

pub take_line-requires-in-loop-t-clause-may : goal.take_line-requires-in-loop-t-clause-may
take_line-requires-in-loop-t-clause-may c =
    let n = c.args.n in
    let t = c.loop-t.t in
    let duals = c.args.cut.now.duals in
    let proofs = c.args.mark.now.proofs in
    let proof = get_or proofs t no_proof in
    front_may (says_dual (commodity_at n t) 1 c.dual-dual.result ∷ []) (says_proof proof ∷ proved_from n (t + 1) duals proofs) c.requires.may
    c.loop-t.invariant.front
    (sym (next_proved_items n t duals proofs c.dual-dual.result proof (omega arith) c.requires.proved c.dual-dual.ensures
    (get_or_default proofs t no_proof proof (omega (arith, c.requires.proved)))))

pub take_line-requires-in-loop-t-clause-known : goal.take_line-requires-in-loop-t-clause-known
take_line-requires-in-loop-t-clause-known c =
    dual_known c.args.n c.loop-t.t c.args.cut.now c.dual-dual.result c.args.known (ap (λ i. i.now) c.loop-t.invariant.instance) (omega arith)
    c.dual-dual.ensures c.requires.known

pub take_line-requires-in-loop-t-2-clause-may : goal.take_line-requires-in-loop-t-2-clause-may
take_line-requires-in-loop-t-2-clause-may c =
    let n = c.args.n in
    let t = c.loop-t.t in
    let duals = c.args.cut.now.duals in
    let proofs = c.args.mark.now.proofs in
    let dual = c.dual-dual.result in
    let proof = c.index-proofs-t.result in
    let later = proved_from n (t + 1) duals proofs in
    let at = c.index-proofs-t.is ∙ ap (λ (ps : List CoreProof). get_or ps t proof) c.proofs-proofs.ensures in
    front_may (says_proof proof ∷ []) later c.requires.may
    (front_more (says_dual (commodity_at n t) 1 dual ∷ []) (says_proof proof ∷ later) c.loop-t.invariant.front
    (sym (next_proved_items n t duals proofs dual proof (omega arith) c.requires.proved c.dual-dual.ensures at)) c.in_ok-take_line-2.ensures.taken)
    refl

pub loop-t-preserved : goal.loop-t-preserved
loop-t-preserved c =
    let n = c.args.n in
    let t = c.loop-t.t in
    let duals = c.args.cut.now.duals in
    let proofs = c.args.mark.now.proofs in
    let dual = c.dual-dual.result in
    let proof = c.index-proofs-t.result in
    let later = proved_from n (t + 1) duals proofs in
    let at = c.index-proofs-t.is ∙ ap (λ (ps : List CoreProof). get_or ps t proof) c.proofs-proofs.ensures in
    record {
      front = front_more (says_proof proof ∷ []) later
          (front_more (says_dual (commodity_at n t) 1 dual ∷ []) (says_proof proof ∷ later) c.loop-t.invariant.front
          (sym (next_proved_items n t duals proofs dual proof (omega arith) c.requires.proved c.dual-dual.ensures at)) c.in_ok-take_line-2.ensures.taken)
          refl c.in_ok-take_line-3.ensures.taken;
      instance = c.in_ok-take_line-3.ensures.instance ∙ c.in_ok-take_line-2.ensures.instance ∙ c.loop-t.invariant.instance;
    }

pub returns-clause-taken : goal.returns-clause-taken
returns-clause-taken c =
    front_end c.loop-t.invariant.front (none_proved_items c.args.n c.loop-t.t c.args.cut.now.duals c.args.mark.now.proofs (omega arith))
