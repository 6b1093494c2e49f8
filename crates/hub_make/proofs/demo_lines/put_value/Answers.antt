use Rattle.std.proofs.Common.{subst}
use Rattle.hub_io.specs.Outside.{PutsThrough}
use Rattle.dec_text.specs.Lines.{piece_text}
use Rattle.hub_make.proofs.DemoJoining.{two_words}
use Rattle.hub_make.proofs.demo_lines.put_value.Goals as goal

pub returns : goal.returns
returns g c =
    let s = g.K.Sink in
    subst (PutsThrough s.taken s.faults _ _ _ _ _) (two_words c.args.keyword.now (piece_text c.args.value.now)) c.put_pieces.ensures
