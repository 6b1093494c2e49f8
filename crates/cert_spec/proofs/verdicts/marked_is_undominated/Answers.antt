use Rattle.core_spec.proofs.Undominated.{core_is_undominated}
use Rattle.cert_spec.proofs.OneText.{one_certificate_lem}
use Rattle.cert_spec.proofs.MarkedCuts.{undominated_from}
use Rattle.cert_spec.proofs.verdicts.marked_is_undominated.Goals as goal

pub returns : goal.returns
returns c = undominated_from one_certificate_lem core_is_undominated
