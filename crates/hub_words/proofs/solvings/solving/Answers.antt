use Rattle.std.proofs.Common.{sym, subst}
use Rattle.cert_scan.specs.Versions.{version_number}
use Rattle.cert_scan.specs.declared.items.Version.{Version}
use Rattle.hub_words.specs.Requests.{IsAllowed, SaysLimits}
use Rattle.hub_words.specs.Views.{how_seen}
use Rattle.hub_words.proofs.solvings.solving.Goals as goal

pub returns-clause-lawful : goal.returns-clause-lawful
returns-clause-lawful c =
    let how = how_seen c.args.how in
    let terms = c.in-Some.source.terms in
    let same = sym c.in-Some-read_search.ensures.version in
    record {
      allowed = subst (λ (v : Version). IsAllowed how terms (version_number v)) same c.in-Some-version_by.ensures.allowed;
      sayable = subst (λ (v : Version). SaysLimits terms (version_number v)) same c.in-Some-version_by.ensures.sayable;
      gap = c.requires;
    }
