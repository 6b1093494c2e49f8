use Rattle.std.proofs.Common.{◌≡◌, map, All}
use Rattle.file_spec.specs.Places.{a_quantity}
use Rattle.hub_model.specs.Amounts.{natural, IsListedNumber}
use Rattle.token_reader.specs.Unread.{later, values_here, AreLegal}
use Rattle.token_reader.proofs.reading.Reader.quantities.Given as goal

abbrev pub invariant-loop-place : goal.invariant-loop-place
invariant-loop-place l = record {
  moved : l.self ≡ later l._place l.initial.self;
  legal : AreLegal (a_quantity l.places l.limit) l._place l.initial.self;
  values : map natural l.items.items ≡ values_here l.places l._place l.initial.self;
  limits : All IsListedNumber l.items.items;
}
