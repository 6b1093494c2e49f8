use Rattle.proof_text.proofs.StatedFindings.{proved_stated}
use Rattle.test_searches.proofs.texts.put_found.Goals as goal

pub write_found-requires-clause-found : goal.write_found-requires-clause-found
write_found-requires-clause-found g c κs within =
    proved_stated c.args.finding.now.instance.now c.args.finding.now.found.now c.requires.proved
