use Rattle.ascent_search.proofs.Steps.{is_over}
use Rattle.ascent_search.proofs.optimizing.optimize_within.Goals as goal

pub finish-requires : goal.finish-requires
finish-requires g c =
    is_over _ c.in_ok-begun.begun c.in_ok-progress.progress c.in_ok-begun.ensures.no_line c.in_ok-begun.ensures.one_node
    c.in_ok-begun.ensures.no_stop c.in_ok-begun.ensures.no_left c.in_ok-progress.ensures
