use Rattle.std.proofs.Common.{refl}
use Rattle.hub_spec.specs.Problem.{commodity_at}
use Rattle.cert_spec.specs.Lines.{says_route}
use Rattle.cert_format.proofs.Written.{line_of}
use Rattle.cert_format.proofs.Following.{as_text}
use Rattle.cert_format.proofs.lines.put_route.Goals as goal

pub returns : goal.returns
returns g c = as_text (line_of (says_route (commodity_at c.args.n c.args.t) c.args.route) refl) c.put_line.ensures
