use Rattle.hub_io.proofs.Files.{copied}
use Rattle.hub_io.proofs.mem_shelf.copy_from.Goals as goal

pub returns-clause-bytes : goal.returns-clause-bytes
returns-clause-bytes c =
    copied c.args.bytes.now c.args.into.now c.copy_from_slice.new.self c.args.byte c.min-start.result c.min-count.result c.min-start.ensures c.min-count.ensures c.copy_from_slice.ensures.after
