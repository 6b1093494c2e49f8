use Rattle.std.proofs.Common.{◌≡◌, ◌+◌, ◌≤◌, ◌∙◌, length, map, unsigned_abs, IfOk, ap, subst, arith}
use Rattle.std.proofs.lemmas.List.Elements.{All-map}
use Rattle.frac_rows.specs.Rows.{widest, right_side}
use Rattle.frac_rows.specs.Starts.{start}
use Rattle.frac_rows.specs.Stored.{columns_of}
use Rattle.frac_rows.proofs.Divided.{narrow_at}
use Rattle.plain_rows.proofs.GivenRows.{numbers_of, length_of, length_rights_of, given_is, given_narrow}
use Rattle.plain_rows.proofs.plain_rows.PlainRows.new.Goals as goal

pub start-requires-clause-given_limit : goal.start-requires-clause-given_limit
start-requires-clause-given_limit c =
    rw c.deref.ensures.value
    (given_narrow (numbers_of c.args.constraints.now) c.args.objective.now (length c.args.constraints.now + 1) c.in_ok-given.given.items
    c.in_ok-given.ensures.long c.in_ok-given.ensures.rows)

pub start-requires-clause-rights_limit : goal.start-requires-clause-rights_limit
start-requires-clause-rights_limit c =
    rw (c.deref-2.ensures.value, c.in_ok-rights.ensures)
    (All-map (λ x. unsigned_abs x ≤ widest) right_side (numbers_of c.args.constraints.now) (λ k d l. narrow_at _ _ (c.requires.each k d l).narrow))

pub returns : goal.returns
returns c =
    let cs = numbers_of c.args.constraints.now in
    let given = c.in_ok-given.given.items in
    let rights = c.deref-2.result.now in
    let of_rights : rights ≡ map right_side cs = c.deref-2.ensures.value ∙ c.in_ok-rights.ensures in
    let count : length rights ≡ length c.args.constraints.now = ap length of_rights ∙ length_rights_of c.args.constraints.now in
    let is =
    ap (λ n. start (columns_of (n + 1) (length c.args.objective.now) c.deref.result.now) rights) count
    ∙ ap (λ g. start (columns_of (length c.args.constraints.now + 1) (length c.args.objective.now) g) rights) c.deref.ensures.value
    ∙ given_is cs c.args.objective.now (length c.args.constraints.now + 1) given rights (omega (arith, length_of c.args.constraints.now))
    c.in_ok-given.ensures.rows of_rights in
    subst (λ z. IfOk c.start.result (λ t. t ≡ z)) is c.start.ensures
