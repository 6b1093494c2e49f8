use Rattle.std.proofs.Common.{◌≡◌, ℕ, ◌*◌, length, ap₂, arith}
use Rattle.std.proofs.lemmas.List.{with_items_is}
use Rattle.leg_duals.specs.CandidateLegs.{collection_length, trunk_length, delivery_length}
use Rattle.leg_duals.proofs.CandidateTables.{leg_table}
use Rattle.leg_duals.proofs.candidate_legs.CandidateLegs.new.Goals as goal

pub invariant_of-result : goal.invariant_of-result
invariant_of-result c =
    let p = c.args.instance.now in
    let q = c.places_of-places.result in
    let n = c.size-nodes.result in
    let nodes_places : n * q ≡ p.size * length p.candidates = ap₂ (λ (a b : ℕ). a * b) c.size-nodes.ensures.value c.places_of-places.ensures.value in
    let places_places : q * q ≡ length p.candidates * length p.candidates =
    ap₂ (λ (a b : ℕ). a * b) c.places_of-places.ensures.value c.places_of-places.ensures.value in
    let collect_long : length c.set_collect.new.table ≡ p.size * length p.candidates =
    omega (arith, c.set_collect.auto.table, c.deref_mut.ensures.len, c.in_ok-collect.ensures.len, nodes_places) in
    let trunk_long : length c.set_between.new.table ≡ length p.candidates * length p.candidates =
    omega (arith, c.set_between.auto.table, c.deref_mut-2.ensures.len, c.in_ok-trunk.ensures.len, places_places) in
    let deliver_long : length c.set_deliver.new.table ≡ p.size * length p.candidates =
    omega (arith, c.set_deliver.auto.table, c.deref_mut-3.ensures.len, c.in_ok-deliver.ensures.len, nodes_places) in
    record {
      problem = c.size-nodes.ensures.problem;
      places = c.places_of-places.ensures.value;
      farthest = c.farthest_of-farthest.ensures.value;
      ceiling = c.ceiling_of.ensures.value;
      collect = leg_table p.size (length p.candidates) (collection_length p) c.set_collect.new.table _ q c.places_of-places.ensures.value
          (with_items_is c.in_ok-collect.collect c.set_collect.new.table (omega (arith, c.set_collect.auto.table, c.deref_mut.ensures.len))) collect_long c.set_collect.ensures;
      trunk = leg_table (length p.candidates) (length p.candidates) (trunk_length p) c.set_between.new.table _ q c.places_of-places.ensures.value
          (with_items_is c.in_ok-trunk.trunk c.set_between.new.table (omega (arith, c.set_between.auto.table, c.deref_mut-2.ensures.len))) trunk_long c.set_between.ensures;
      deliver = leg_table p.size (length p.candidates) (delivery_length p) c.set_deliver.new.table _ q c.places_of-places.ensures.value
          (with_items_is c.in_ok-deliver.deliver c.set_deliver.new.table (omega (arith, c.set_deliver.auto.table, c.deref_mut-3.ensures.len))) deliver_long c.set_deliver.ensures;
    }
