use Rattle.std.proofs.Common.{sym, ap, ◌*◌, ◌∙◌, arith}
use Rattle.hub_spec.specs.Trees.{empty}
use Rattle.cert_scan.specs.Versions.{version_number}
use Rattle.cert_format.proofs.Following.{as_text}
use Rattle.proof_text.proofs.FoundLines.{top_text}
use Rattle.proof_text.proofs.written.put_found_top.Goals as goal

pub put_top-requires-clause-some : goal.put_top-requires-clause-some
put_top-requires-clause-some g c =
    let is = c.heading_of-heading.ensures.heading empty in
    omega (arith, is.size, c.requires.in_range.some_node)

pub put_top-requires-clause-few : goal.put_top-requires-clause-few
put_top-requires-clause-few g c =
    let is = c.heading_of-heading.ensures.heading empty in
    omega (arith, is.size, c.requires.in_range.size)

pub put_top-requires-clause-whole : goal.put_top-requires-clause-whole
put_top-requires-clause-whole g c =
    c.requires.in_range.one_route_each
    ∙ sym (ap (λ n. n * n) (c.heading_of-heading.ensures.heading empty).size)

pub returns : goal.returns
returns g c =
    as_text (top_text (version_number c.args.finding.now.version) c.args.finding.now.instance.now c.args.finding.now.found.now c.heading_of-heading.result
    (c.heading_of-heading.ensures.heading empty) (λ _. c.args.finding.now.found.now.plan) c.len-cuts.ensures)
    c.put_top.ensures
