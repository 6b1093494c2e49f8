use Rattle.std.proofs.Common.{◌≡◌, rules}
use Rattle.hub_io.proofs.mem_shelf.MemShelf.call_fails.Goals as goal

pub returns-in-Some-clause-listed : goal.returns-in-Some-clause-listed
returns-in-Some-clause-listed c =
    let same : c.deref.result.now ≡ c.args.self.now.failing.items = c.deref.ensures.value in
    let found = rw same at c.contains.ensures.cases in
    λ _. search (rules, found)
