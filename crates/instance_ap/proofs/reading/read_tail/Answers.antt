use Rattle.std.proofs.Common.{◌≡◌, Ok, ap, sym, subst, rules}
use Rattle.file_spec.specs.Options.{Tail}
use Rattle.file_spec.specs.Places.{a_cost}
use Rattle.hub_model.specs.Asked.{tail_of}
use Rattle.token_reader.specs.Unread.{later, AreLegal}
use Rattle.instance_ap.specs.Fronts.{IsLegalTail}
use Rattle.instance_ap.proofs.Tails.{ignored_legal, costs_legal}
use Rattle.instance_ap.proofs.reading.read_tail.Goals as goal

pub returns-in-Ignore-clause-legal : goal.returns-in-Ignore-clause-legal
returns-in-Ignore-clause-legal c =
    let P : Tail → Type 0 = λ tail. IsLegalTail tail c.args.n c.args.reader.now in
    subst P (sym (ap tail_of c.in-Ignore.is)) (ignored_legal c.args.n c.args.reader.now)

pub returns-in_ok-map_err-in-Fixed-clause-legal : goal.returns-in_ok-map_err-in-Fixed-clause-legal
returns-in_ok-map_err-in-Fixed-clause-legal c =
    let legal : AreLegal a_cost c.args.n c.args.reader.now = search rules in
    let at : c.quantities.new.self ≡ later c.args.n c.args.reader.now = search rules in
    let ended : c.end.result ≡ Ok tt = search rules in
    let P : Tail → Type 0 = λ tail. IsLegalTail tail c.args.n c.args.reader.now in
    subst P (sym (ap tail_of c.in-Fixed.is)) (costs_legal c.args.n c.args.reader.now _ c.end.result legal at ended c.end.ensures)
