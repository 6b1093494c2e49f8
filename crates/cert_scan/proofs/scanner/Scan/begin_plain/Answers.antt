use Rattle.cert_scan.proofs.AtOnce.{plain_gives}
use Rattle.cert_scan.proofs.scanner.Scan.begin_plain.Goals as goal

pub returns : goal.returns
returns c =
    plain_gives c.args.self.now c.list_price-item.new.self c.args.at c.args.bytes.now c.in-Some.front c.list_price-item.result c.requires c.in-Some.ensures
    c.list_price-item.ensures.given c.list_price-item.ensures.after
