use Rattle.std.proofs.Common.{◌≡◌, ℕ, List, None, Some, refl, sym, ap, subst}
use Rattle.cert_checker.specs.declared.tested.Tested.TheVariants.{Cuts, Size}
use Rattle.hub_words.specs.Requests.{How, freely}
use Rattle.hub_words.specs.Views.{how_seen}
use Rattle.search_core.specs.Starts.{start_seen}
use Rattle.hub_commands.specs.Judging.{IsReadFrom}
use Rattle.hub_commands.proofs.OlderCertificates.{begun_again, again_refused, may_begin, freely_refused}
use Rattle.hub_io.proofs.Names.{begins_none, begins_more}
use Rattle.hub_commands.proofs.preparing.prepare.Goals as goal

pub returns-in-Ok-clause-prepared : goal.returns-in-Ok-clause-prepared
returns-in-Ok-clause-prepared g c =
    let held = g.S.Shelf.held c.args.shelf.now in
    let p = c.args.instance.now in
    let name = c.in-Again.name.now in
    begun_again held p (how_seen c.args.how) name c.in-Ok.older (start_seen c.start_of.result) (rw c.in-Again.is refl)
    (subst (IsReadFrom p Cuts held name) c.in-Ok.is c.in_ok-older-in-Again.ensures.read) c.start_of.ensures.start (c.start_of.ensures.is_start p)

pub returns-in-Err-clause-prepared : goal.returns-in-Err-clause-prepared
returns-in-Err-clause-prepared g c =
    let held = g.S.Shelf.held c.args.shelf.now in
    let p = c.args.instance.now in
    let name = c.in-Again.name.now in
    again_refused held p (how_seen c.args.how) name c.in-Err.ending (rw c.in-Again.is refl)
    (subst (IsReadFrom p Cuts held name) c.in-Err.is c.in_ok-older-in-Again.ensures.read)

pub returns-in_default-clause-prepared : goal.returns-in_default-clause-prepared
returns-in_default-clause-prepared g c = (None, rw (c.in-Freely.is, c.in_default.is) refl, rw (c.in-Freely.is, c.in_default.is) refl)

pub returns-in-Ok-2-clause-prepared : goal.returns-in-Ok-2-clause-prepared
returns-in-Ok-2-clause-prepared g c =
    let held = g.S.Shelf.held c.args.shelf.now in
    let p = c.args.instance.now in
    let name = c.in-Some.name.now in
    let is : how_seen c.args.how ≡ freely c.in-Freely.gap (Some name) = rw (c.in-Freely.is, c.in-Some.is) refl in (
      Some name,
      is,
      may_begin held p (how_seen c.args.how) c.in-Freely.gap name c.in-Ok-2.older is
          (subst (IsReadFrom p Size held name) c.in-Ok-2.is c.in_ok-older-in-Freely.ensures.read),
    )

pub returns-in-Err-2-clause-prepared : goal.returns-in-Err-2-clause-prepared
returns-in-Err-2-clause-prepared g c =
    let held = g.S.Shelf.held c.args.shelf.now in
    let p = c.args.instance.now in
    let name = c.in-Some.name.now in
    freely_refused held p (how_seen c.args.how) c.in-Freely.gap name c.in-Err-2.ending (rw (c.in-Freely.is, c.in-Some.is) refl)
    (subst (IsReadFrom p Size held name) c.in-Err-2.is c.in_ok-older-in-Freely.ensures.read)

pub returns-in-Follow-clause-begins : goal.returns-in-Follow-clause-begins
returns-in-Follow-clause-begins g c = begins_none refl

pub returns-in_default-clause-begins : goal.returns-in_default-clause-begins
returns-in_default-clause-begins g c = begins_none refl

pub returns-in_err-older-in-Again-clause-begins : goal.returns-in_err-older-in-Again-clause-begins
returns-in_err-older-in-Again-clause-begins g c = begins_more (λ other is. rw c.in-Again.is (ap (λ (x : List ℕ). Some x) (sym is))) c.in_err-older-in-Again.ensures.begins

pub returns-in-Ok-clause-begins : goal.returns-in-Ok-clause-begins
returns-in-Ok-clause-begins g c = begins_more (λ other is. rw c.in-Again.is (ap (λ (x : List ℕ). Some x) (sym is))) c.in_ok-older-in-Again.ensures.begins

pub returns-in-Err-clause-begins : goal.returns-in-Err-clause-begins
returns-in-Err-clause-begins g c = begins_more (λ other is. rw c.in-Again.is (ap (λ (x : List ℕ). Some x) (sym is))) c.in_ok-older-in-Again.ensures.begins

pub returns-in_err-older-in-Freely-clause-begins : goal.returns-in_err-older-in-Freely-clause-begins
returns-in_err-older-in-Freely-clause-begins g c = begins_more (λ other is. rw (c.in-Freely.is, c.in-Some.is) (ap (λ (x : List ℕ). Some x) (sym is))) c.in_err-older-in-Freely.ensures.begins

pub returns-in-Ok-2-clause-begins : goal.returns-in-Ok-2-clause-begins
returns-in-Ok-2-clause-begins g c = begins_more (λ other is. rw (c.in-Freely.is, c.in-Some.is) (ap (λ (x : List ℕ). Some x) (sym is))) c.in_ok-older-in-Freely.ensures.begins

pub returns-in-Err-2-clause-begins : goal.returns-in-Err-2-clause-begins
returns-in-Err-2-clause-begins g c = begins_more (λ other is. rw (c.in-Freely.is, c.in-Some.is) (ap (λ (x : List ℕ). Some x) (sym is))) c.in_ok-older-in-Freely.ensures.begins
