use Rattle.std.proofs.Common.{◌≡◌, ℕ, ◌<◌, [], ◌∷◌, ◌++◌, true, false, refl, sym, ap, subst, ◌∙◌, arith}
use Rattle.std.specs.Prelude.{IfSome}
use Rattle.std.proofs.lemmas.Result.{IfOk-weaker}
use Rattle.hub_spec.specs.Problem.{Problem}
use Rattle.cert_scan.specs.declared.items.Item.{Item}
use Rattle.cert_conditions.specs.Steps.{Steps, MayTake, IsKnown}
use Rattle.cert_conditions.specs.Taken.{HasTaken}
use Rattle.cert_conditions.specs.ListLines.{line_of, open_items, line_item, TakesLines, IsKnownLine}
use Rattle.cert_conditions.proofs.Whole.{may_take_parted, has_taken}
use Rattle.cert_conditions.proofs.ListLines.{given_at, may_follow, has_item, at_first, given_more, given_last, parted_more, parted_whole, is_known}
use Rattle.cert_conditions.proofs.checks.Checks.take_line.Goals as goal

pub before_last-count-requires : goal.before_last-count-requires
before_last-count-requires c =
    let f = may_follow c.requires.may.0 (line_of c.args.line.now) c.requires.may.2 in has_item f.stage c.args.line.now f.wants

pub loop-at-init : goal.loop-at-init
loop-at-init c =
    let l = line_of c.args.line.now in
    record {
      within = omega arith;
      taken = λ lines has can. (let f = may_follow lines l can in at_first lines l c.args.self.now (has_item f.stage c.args.line.now f.wants) has);
      instance = refl;
    }

pub item-item-requires-clause-some : goal.item-item-requires-clause-some
item-item-requires-clause-some c =
    let f = may_follow c.requires.may.0 (line_of c.args.line.now) c.requires.may.2 in has_item f.stage c.args.line.now f.wants

pub item-item-requires-clause-place : goal.item-item-requires-clause-place
item-item-requires-clause-place c = c.loop-at.invariant.within

pub take_item-requires-clause-may : goal.take_item-requires-clause-may
take_item-requires-clause-may c =
    let l = line_of c.args.line.now in
    let at = c.loop-at.at in
    let m = c.requires.may in
    let f = may_follow m.0 l m.2 in
    let some = has_item f.stage c.args.line.now f.wants in
    let less : at < open_items l = omega (arith, c.loop-at-test.true, c.before_last-count.ensures) in
    subst (λ (i : Item). MayTake c.loop-at.self i) (sym c.item-item.ensures)
    (may_take_parted (given_at m.0 l at) (line_item l at false) c.loop-at.self (c.loop-at.invariant.taken m.0 m.1 m.2) (parted_more m.0 l at f some less))

pub loop-at-preserved : goal.loop-at-preserved
loop-at-preserved c =
    let l = line_of c.args.line.now in
    let at = c.loop-at.at in
    let now = c.loop-at.self in
    let new = c.take_item.new.self in
    let less : at < open_items l = omega (arith, c.loop-at-test.true, c.before_last-count.ensures) in
    let steps = subst (λ (i : Item). Steps now i new) c.item-item.ensures c.in_ok-take_item.ensures.steps in
    record {
      within = omega (arith, less);
      taken = λ lines has can.
          subst (λ given. HasTaken given new) (given_more lines l at less)
          (has_taken (given_at lines l at) (line_item l at false) now new (c.loop-at.invariant.taken lines has can) steps);
      instance = c.in_ok-take_item.ensures.instance ∙ c.loop-at.invariant.instance;
    }

pub item-item-requires-2-clause-some : goal.item-item-requires-2-clause-some
item-item-requires-2-clause-some c =
    let f = may_follow c.requires.may.0 (line_of c.args.line.now) c.requires.may.2 in has_item f.stage c.args.line.now f.wants

pub take_item-requires-2-clause-may : goal.take_item-requires-2-clause-may
take_item-requires-2-clause-may c =
    let l = line_of c.args.line.now in
    let last = open_items l in
    let at : c.loop-at.at ≡ last = omega (arith, c.loop-at-test.false, c.loop-at.invariant.within, c.before_last-count.ensures) in
    let m = c.requires.may in
    let f = may_follow m.0 l m.2 in
    let some = has_item f.stage c.args.line.now f.wants in
    let item = c.item-item-2.ensures ∙ ap (λ (n : ℕ). line_item l n true) c.before_last-count.ensures in
    let taken = subst (λ (n : ℕ). HasTaken (given_at m.0 l n) c.loop-at.self) at (c.loop-at.invariant.taken m.0 m.1 m.2) in
    subst (λ (i : Item). MayTake c.loop-at.self i) (sym item)
    (may_take_parted (given_at m.0 l last) (line_item l last true) c.loop-at.self taken
    (parted_whole (m.0 ++ l ∷ []) m.2.0 (given_at m.0 l last ++ line_item l last true ∷ []) m.2.1 (given_last m.0 l some)))

pub take_item-requires-2-clause-known : goal.take_item-requires-2-clause-known
take_item-requires-2-clause-known c =
    let l = line_of c.args.line.now in
    let last = open_items l in
    let at : c.loop-at.at ≡ last = omega (arith, c.loop-at-test.false, c.loop-at.invariant.within, c.before_last-count.ensures) in
    let m = c.requires.may in
    let f = may_follow m.0 l m.2 in
    let item = c.item-item-2.ensures ∙ ap (λ (n : ℕ). line_item l n true) c.before_last-count.ensures in
    let taken = subst (λ (n : ℕ). HasTaken (given_at m.0 l n) c.loop-at.self) at (c.loop-at.invariant.taken m.0 m.1 m.2) in
    let known = subst (λ (p : Problem). IfSome c.args.known (IsKnownLine p l)) (sym (ap (λ i. i.now) c.loop-at.invariant.instance)) c.requires.known in
    subst (λ (i : Item). IsKnown c.loop-at.self i c.args.known) (sym item)
    (is_known c.loop-at.self m.0 l c.args.known f (has_item f.stage c.args.line.now f.wants) taken known)

pub returns-clause-taken : goal.returns-clause-taken
returns-clause-taken c =
    let l = line_of c.args.line.now in
    let last = open_items l in
    let now = c.loop-at.self in
    let new = c.take_item-2.new.self in
    let at : c.loop-at.at ≡ last = omega (arith, c.loop-at-test.false, c.loop-at.invariant.within, c.before_last-count.ensures) in
    let item = c.item-item-2.ensures ∙ ap (λ (n : ℕ). line_item l n true) c.before_last-count.ensures in
    IfOk-weaker c.take_item-2.result (λ _. Steps now c.item-item-2.result new) (λ _. TakesLines c.args.self.now (l ∷ []) new)
    (λ _ h lines has can. (let f = may_follow lines l can in
    let taken = subst (λ (n : ℕ). HasTaken (given_at lines l n) now) at (c.loop-at.invariant.taken lines has can) in
    subst (λ given. HasTaken given new) (given_last lines l (has_item f.stage c.args.line.now f.wants))
    (has_taken (given_at lines l last) (line_item l last true) now new taken (subst (λ (i : Item). Steps now i new) item h))))
    c.take_item-2.ensures.steps
