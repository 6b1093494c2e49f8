use Rattle.std.proofs.Common.{◌≤◌, subst, arith}
use Rattle.cert_conditions.specs.ListLines.{line_of, HasItem, open_items}
use Rattle.cert_conditions.specs.declared.list_lines.ListLine as code
use Rattle.cert_conditions.proofs.list_lines.ListLine.item.Goals as goal

pub hub_item-requires : goal.hub_item-requires
hub_item-requires c =
    let some = subst (λ (line : code.ListLine). HasItem (line_of line)) c.in-Hubs.is c.requires.some in
    let place = subst (λ (line : code.ListLine). c.args.at ≤ open_items (line_of line)) c.in-Hubs.is c.requires.place in
    omega (arith, some, place)
