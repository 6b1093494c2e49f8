use Rattle.std.proofs.Common.{rules, tests}
use Rattle.std.proofs.lemmas.Iterator.{YieldsList-from_slice}
use Rattle.std.proofs.lemmas.Iterator.Search.{position_from_yields_List}
use Rattle.hub_io.specs.MemShelf.{has_name}
use Rattle.hub_io.proofs.Files.{first_named}
use Rattle.hub_io.proofs.mem_shelf.file_named.Goals as goal

pub returns : goal.returns
returns c =
    let name = c.args.name.now in
    let files = c.args.files.now in
    first_named files name c.position.result
    (position_from_yields_List (has_name name) _ _ c.position.result c.position.ensures.ran (YieldsList-from_slice files cc) (λ x b q k. search (rules, tests)))
