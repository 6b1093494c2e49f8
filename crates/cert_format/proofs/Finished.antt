-- A gathering that has all that a certificate's items give is the certificate.
use Rattle.std.proofs.Common.{◌≡◌, sym, ap, ◌∙◌, subst}
use Rattle.std.specs.List.Sorted.{IsStrictlyIncreasing}
use Rattle.hub_spec.specs.Plans.{Plan}
use Rattle.hub_spec.specs.Trees.{preorder}
use Rattle.cert_spec.specs.Stated.{Stated, IsStatedInRange}
use Rattle.cert_format.specs.Growing.{tree_of}
use Rattle.cert_format.specs.Parts.{stated_of, AreCertificateParts}
use Rattle.cert_format.specs.Gathered.{all_gathered}
use Rattle.cert_format.specs.Gatherings.{gathered_of}
use Rattle.cert_format.specs.declared.headings.Heading.{Heading}
use Rattle.cert_format.specs.declared.gathering.Gathering.{Gathering}
use Rattle.cert_format.specs.Codes.{tree_of-preorder}

pub hubs_ascend : (d : Gathering) (k : Stated) → IsStatedInRange k → gathered_of d ≡ all_gathered k → IsStrictlyIncreasing d.hubs.items
hubs_ascend d k h e = subst IsStrictlyIncreasing (sym (ap (λ g. g.hubs) e)) h.proof.hubs_ascend

-- the first lines
abbrev pub heading_of : Gathering → Heading
heading_of d = record { version = d.version; size = d.size; candidates = d.candidates; cost = d.cost; bound = d.bound }

pub finished_is : (d : Gathering) {plan : Plan} (k : Stated) → gathered_of d ≡ all_gathered k → plan ≡ record { hubs = d.hubs.items; routes = d.routes.items }
    → stated_of (heading_of d) plan d.cuts.items d.marks.items d.lines.items ≡ k
finished_is d {plan = plan} k e plan_is =
    let plans : plan ≡ k.proof.plan = plan_is ∙ (λ i. record { hubs = (e i).hubs; routes = (e i).routes }) in
    let tree = ap tree_of (ap (λ g. g.lines) e) ∙ tree_of-preorder k.proof.tree in
    λ i. record {
      proof = record {
        version = (e i).version;
        size = (e i).size;
        candidates = (e i).candidates;
        cost = (e i).cost;
        bound = (e i).bound;
        plan = plans i;
        cuts = (e i).cuts;
        tree = tree i;
      };
      marks = (e i).marks;
    }

pub finished_parts : (d : Gathering) {plan : Plan} (k : Stated) → IsStatedInRange k → gathered_of d ≡ all_gathered k
    → plan ≡ record { hubs = d.hubs.items; routes = d.routes.items } → AreCertificateParts (heading_of d) plan d.cuts.items d.marks.items d.lines.items
finished_parts d k h e plan_is = record {
  in_range = subst IsStatedInRange (sym (finished_is d k e plan_is)) h;
  one_tree = ap preorder (ap tree_of (ap (λ g. g.lines) e) ∙ tree_of-preorder k.proof.tree) ∙ sym (ap (λ g. g.lines) e);
}
