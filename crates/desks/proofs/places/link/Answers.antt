use Rattle.std.proofs.Common.{List, [], ◌∷◌, ◌++◌, All, ap, ap₂, sym, subst, ◌∙◌}
use Rattle.std.proofs.lemmas.List.Elements.{All-push}
use Rattle.desks.specs.declared.posts.Post.{Post}
use Rattle.desks.specs.declared.posts.Post.TheVariants.{Key}
use Rattle.desks.specs.Posts.{IsToldUnder, IsHeardUnder}
use Rattle.desks.proofs.Begun.{known_first}
use Rattle.desks.proofs.places.link.Goals as goal

pub returns-in_err-push-2-clause-to : goal.returns-in_err-push-2-clause-to
returns-in_err-push-2-clause-to g c =
    let posted = c.slots_beside.ensures.producer.1 ∙ c.push_reserved.ensures.sent.0
    ∙ ap (λ (ps : List (Post _ _)). ps ++ Key c.args.key ∷ []) c.in_ok-teller.ensures.producer.0 in
    subst (All (IsToldUnder c.args.key)) (sym c.in_ok-push.ensures.items)
    (All-push (IsToldUnder c.args.key) c.args.to.now.items c.slots_beside.new.producer c.requires.to (record { later = []; is = posted }))

pub returns-clause-to : goal.returns-clause-to
returns-clause-to g c =
    let posted = c.slots_beside.ensures.producer.1 ∙ c.push_reserved.ensures.sent.0
    ∙ ap (λ (ps : List (Post _ _)). ps ++ Key c.args.key ∷ []) c.in_ok-teller.ensures.producer.0 in
    subst (All (IsToldUnder c.args.key)) (sym c.in_ok-push.ensures.items)
    (All-push (IsToldUnder c.args.key) c.args.to.now.items c.slots_beside.new.producer c.requires.to (record { later = []; is = posted }))

pub returns-clause-from : goal.returns-clause-from
returns-clause-from g c =
    let posted = c.slots_beside.ensures.producer.1 ∙ c.push_reserved.ensures.sent.0
    ∙ ap (λ (ps : List (Post _ _)). ps ++ Key c.args.key ∷ []) c.in_ok-teller.ensures.producer.0 in
    let none = c.slots_beside.ensures.looked.1 ∙ c.in_ok-teller.ensures.consumer.0 in
    let key = known_first c.args.key _ _ _ _ c.pop_known.result none c.pop_known.ensures.received.1 c.slots_beside.ensures.fifo posted in
    subst (All (IsHeardUnder c.args.key)) (sym c.in_ok-push-2.ensures.items)
    (All-push (IsHeardUnder c.args.key) c.args.from.now.items c.pop_known.new.self c.requires.from
    (record {
      later = [];
      is = c.pop_known.ensures.received.0 ∙ ap₂ (λ (ps : List (Post _ _)) (x : Post _ _). ps ++ x ∷ []) none key;
    }))
