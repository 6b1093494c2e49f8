use Rattle.std.proofs.Common.{◌≡◌, Option, Some, subst, sym, ap, ◌∙◌, refl}
use Rattle.hub_words.specs.Requests.{Request}
use Rattle.hub_words.specs.Words as spec
use Rattle.hub_words.specs.Views.{request_of, requested, texts}
use Rattle.hub_top.specs.Outcomes.{MayComeTo, ShelfFails}
use Rattle.hub_top.specs.Views.{came_to, halted}
use Rattle.hub_io.proofs.Names.{begins_none}
use Rattle.hub_io.specs.Outside.{BeginsOnly}
use Rattle.hub_top.specs.Named.{AreNaming, NameNone}
use Rattle.hub_top.proofs.top.settle.Goals as goal

pub returns-in-Ok-clause-may : goal.returns-in-Ok-clause-may
returns-in-Ok-clause-may g c =
    let asks : Some (request_of c.in-Ok-Some.command) ≡ spec.asked (texts c.args.words.now) =
    ap requested (sym c.in-Ok-Some.field-0-is) ∙ c.in-Ok-Some.ensures.command in
    let fails = ShelfFails g.S.Shelf.held g.S.Shelf.faults g.S.Shelf.sound c.args.shelf.now c.answer.new.shelf in
    subst (λ (x : Option Request). MayComeTo x (g.S.Shelf.held c.args.shelf.now) fails (came_to c.in-Ok.settled))
    asks c.in-Ok.ensures.may

pub returns-clause-may : goal.returns-clause-may
returns-clause-may g c =
    let asks : Some (request_of c.in-Ok-Some.command) ≡ spec.asked (texts c.args.words.now) =
    ap requested (sym c.in-Ok-Some.field-0-is) ∙ c.in-Ok-Some.ensures.command in
    let fails = ShelfFails g.S.Shelf.held g.S.Shelf.faults g.S.Shelf.sound c.args.shelf.now c.answer.new.shelf in
    subst (λ (x : Option Request). MayComeTo x (g.S.Shelf.held c.args.shelf.now) fails (halted c.in-Err-answer.halt))
    asks c.in-Err-answer.ensures.may

pub returns-in-Err-clause-begins : goal.returns-in-Err-clause-begins
returns-in-Err-clause-begins g c = begins_none refl

pub returns-in-Ok-None-clause-begins : goal.returns-in-Ok-None-clause-begins
returns-in-Ok-None-clause-begins g c = begins_none refl

pub returns-in-Ok-clause-begins : goal.returns-in-Ok-clause-begins
returns-in-Ok-clause-begins g c =
    let asks : Some (request_of c.in-Ok-Some.command) ≡ spec.asked (texts c.args.words.now) =
    ap requested (sym c.in-Ok-Some.field-0-is) ∙ c.in-Ok-Some.ensures.command in
    subst (λ (x : Option Request). BeginsOnly (AreNaming x) (g.S.Shelf.names c.args.shelf.now) (g.S.Shelf.names c.answer.new.shelf)) asks
    c.in-Ok.ensures.begins

pub returns-clause-begins : goal.returns-clause-begins
returns-clause-begins g c =
    let asks : Some (request_of c.in-Ok-Some.command) ≡ spec.asked (texts c.args.words.now) =
    ap requested (sym c.in-Ok-Some.field-0-is) ∙ c.in-Ok-Some.ensures.command in
    subst (λ (x : Option Request). BeginsOnly (AreNaming x) (g.S.Shelf.names c.args.shelf.now) (g.S.Shelf.names c.answer.new.shelf)) asks
    c.in-Err-answer.ensures.begins

pub returns-in-Ok-clause-untouched : goal.returns-in-Ok-clause-untouched
returns-in-Ok-clause-untouched g c = λ none.
    let asks : Some (request_of c.in-Ok-Some.command) ≡ spec.asked (texts c.args.words.now) =
    ap requested (sym c.in-Ok-Some.field-0-is) ∙ c.in-Ok-Some.ensures.command in
    c.in-Ok.ensures.untouched (subst (λ (x : Option Request). NameNone x) (sym asks) none)

pub returns-clause-untouched : goal.returns-clause-untouched
returns-clause-untouched g c = λ none.
    let asks : Some (request_of c.in-Ok-Some.command) ≡ spec.asked (texts c.args.words.now) =
    ap requested (sym c.in-Ok-Some.field-0-is) ∙ c.in-Ok-Some.ensures.command in
    c.in-Err-answer.ensures.untouched (subst (λ (x : Option Request). NameNone x) (sym asks) none)
