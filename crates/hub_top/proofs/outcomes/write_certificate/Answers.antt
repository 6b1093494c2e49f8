use Rattle.proof_text.proofs.StatedFindings.{proved_stated}
use Rattle.hub_top.proofs.outcomes.write_certificate.Goals as goal

pub write_found-requires-clause-found : goal.write_found-requires-clause-found
write_found-requires-clause-found g c κs within = proved_stated c.args.instance.now c.args.found.now c.requires.proved
