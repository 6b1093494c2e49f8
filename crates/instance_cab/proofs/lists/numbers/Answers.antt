use Rattle.std.proofs.Common.{◌≡◌, ◌≤◌, map, All, pos, ap, ◌∙◌, rules}
use Rattle.hub_model.specs.Amounts.{natural}
use Rattle.token_reader.specs.Unread.{values_here}
use Rattle.instance_cab.specs.Matrices.{divided_list}
use Rattle.instance_cab.proofs.Fronts.{kept_as_read, divided_kept, distances_count, distances_within}
use Rattle.instance_cab.proofs.lists.numbers.Goals as goal

pub divided_list-requires-clause-count : goal.divided_list-requires-clause-count
divided_list-requires-clause-count c =
    let values : c.in_ok-read.read ≡ values_here c.places.result c.args.count c.args.reader.now = search rules in
    distances_count c.places.result c.args.n c.args.count c.args.reader.now _ (c.as_slice.ensures ∙ ap (map (λ v. pos v)) values) c.requires.count

pub divided_list-requires-clause-amounts : goal.divided_list-requires-clause-amounts
divided_list-requires-clause-amounts c =
    let within : All (λ v. v ≤ c.limit.result) c.in_ok-read.read = search rules in
    distances_within c.args.kind.now c.in-Distance.divide c.limit.result c.in_ok-read.read _ c.in-Distance.is c.limit.ensures within c.as_slice.ensures

pub returns-in-Flow-clause-kept : goal.returns-in-Flow-clause-kept
returns-in-Flow-clause-kept c =
    let values : c.in_ok-read.read ≡ values_here c.places.result c.args.count c.args.reader.now = search rules in
    values ∙ (ap (λ places. values_here places c.args.count c.args.reader.now) c.places.ensures.value
    ∙ kept_as_read c.args.kind.now c.args.n c.args.count c.args.reader.now c.in-Flow.is)

pub returns-in_ok-divided_list-in-Distance-clause-kept : goal.returns-in_ok-divided_list-in-Distance-clause-kept
returns-in_ok-divided_list-in-Distance-clause-kept c =
    let values : c.in_ok-read.read ≡ values_here c.places.result c.args.count c.args.reader.now = search rules in
    let kinds = values ∙ ap (λ places. values_here places c.args.count c.args.reader.now) c.places.ensures.value in
    let divided : c.in_ok-divided_list-in-Distance.field-0 ≡ divided_list c.in-Distance.divide c.args.n (map natural c.as_slice.result.now) = search rules in
    divided ∙ divided_kept c.args.kind.now c.in-Distance.divide c.args.n c.args.count c.args.reader.now _ c.in-Distance.is
    (c.as_slice.ensures ∙ ap (map (λ v. pos v)) kinds)
