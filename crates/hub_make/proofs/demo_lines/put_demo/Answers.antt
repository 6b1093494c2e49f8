use Rattle.std.proofs.Common.{ap, is_ok}
use Rattle.hub_io.proofs.Through.{through_finish}
use Rattle.hub_make.proofs.demo_lines.put_demo.Goals as goal

pub returns : goal.returns
returns g c =
    through_finish _ _ _ _ _ _ _ _ _ (ap is_ok c.in_ok-put_lines.was) c.new-buffer.ensures c.finish.ensures.none_waits c.put_lines.ensures
    c.finish.ensures.through
