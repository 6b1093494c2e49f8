use Rattle.cert_scan.proofs.AtOnce.{proved_gives}
use Rattle.cert_scan.proofs.scanner.Scan.begin_proved.Goals as goal

pub returns : goal.returns
returns c =
    proved_gives c.args.self.now c.list_price-item.new.self c.args.at c.args.bytes.now c.in-Some.front c.list_price-item.result c.requires c.in-Some.ensures
    c.list_price-item.ensures.given c.list_price-item.ensures.after
