use Rattle.std.proofs.Common.{◌≡◌, nat_abs, rules}
use Rattle.fixed_distance.proofs.Roots.{divided_is_planar}
use Rattle.fixed_distance.proofs.planes.distance.Goals as goal

pub returns : goal.returns
returns c =
    let x : c.unsigned_abs-x.result ≡ nat_abs c.args.dx = search rules in
    let y : c.unsigned_abs-y.result ≡ nat_abs c.args.dy = search rules in
    record {
      value = divided_is_planar c.args.divide _ _ c.unsigned_abs-x.result c.unsigned_abs-y.result c.root.result x y
          c.requires.divide_least c.root.ensures.not_above c.root.ensures.next_above;
    }
