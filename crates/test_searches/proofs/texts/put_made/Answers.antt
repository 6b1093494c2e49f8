use Rattle.std.proofs.Common.{inl, refl}
use Rattle.proof_text.proofs.StatedFindings.{proved_stated, proved_version}
use Rattle.test_searches.proofs.texts.put_made.Goals as goal

pub certificate_of-requires-clause-version : goal.certificate_of-requires-clause-version
certificate_of-requires-clause-version c =
    proved_version 1 c.args.instance.now c.in_ok-found.found c.in_ok-found.ensures.proved
    (inl (refl, c.if-not-is_unlimited.ensures refl, c.in_ok-found.ensures.remade))

pub certificate_of-requires-clause-found : goal.certificate_of-requires-clause-found
certificate_of-requires-clause-found c = proved_stated c.args.instance.now c.in_ok-found.found c.in_ok-found.ensures.proved
