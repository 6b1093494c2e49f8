use Rattle.std.proofs.Common.{◌≡◌, ◌≤◌, ℤ, pos, to_z, of_z, Ok, ap, sym, ◌∙◌, arith, rules}
use Rattle.std.specs.Int.{w128}
use Rattle.std.proofs.lemmas.Int.{to_z-of_z}
use Rattle.hub_spec.specs.Limits.{most_factor}
use Rattle.file_spec.specs.Places.{a_factor}
use Rattle.hub_model.specs.Amounts.{natural}
use Rattle.token_reader.specs.Unread.{later, value_here}
use Rattle.token_reader.proofs.Ahead.{later-none}
use Rattle.token_reader.proofs.Stretches.{legal_none}
use Rattle.token_reader.proofs.Steps.{moved_token, legal_token, fault_token}
use Rattle.instance_ap.proofs.reading.read_factors.Goals as goal

pub returns-in_err-collect-clause-fault : goal.returns-in_err-collect-clause-fault
returns-in_err-collect-clause-fault c =
    let r = c.args.reader.now in
    let refused = fault_token a_factor 0 3 r _ c.quantity.result (omega arith) (sym (later-none r)) c.quantity.ensures.fault (legal_none a_factor r) in
    search rules

pub returns-in_err-trunk-clause-fault : goal.returns-in_err-trunk-clause-fault
returns-in_err-trunk-clause-fault c =
    let r = c.args.reader.now in
    let read : c.quantity.result ≡ Ok c.in_ok-collect.collect = search rules in
    let past : c.quantity.new.self ≡ later 1 r = search rules in
    let one = legal_token a_factor 0 r _ c.quantity.result c.in_ok-collect.collect (sym (later-none r)) read c.quantity.ensures.fault (legal_none a_factor r) in
    let refused = fault_token a_factor 1 3 r _ c.quantity-2.result (omega arith) past c.quantity-2.ensures.fault one in
    search rules

pub returns-in_err-deliver-clause-fault : goal.returns-in_err-deliver-clause-fault
returns-in_err-deliver-clause-fault c =
    let r = c.args.reader.now in
    let read : c.quantity.result ≡ Ok c.in_ok-collect.collect = search rules in
    let past : c.quantity.new.self ≡ later 1 r = search rules in
    let one = legal_token a_factor 0 r _ c.quantity.result c.in_ok-collect.collect (sym (later-none r)) read c.quantity.ensures.fault (legal_none a_factor r) in
    let second : c.quantity-2.result ≡ Ok c.in_ok-trunk.trunk = search rules in
    let further : c.quantity-2.new.self ≡ later 1 c.quantity.new.self = search rules in
    let two = legal_token a_factor 1 r _ c.quantity-2.result c.in_ok-trunk.trunk past second c.quantity-2.ensures.fault one in
    let refused = fault_token a_factor 2 3 r _ c.quantity-3.result (omega arith) (moved_token 1 r _ _ past further) c.quantity-3.ensures.fault two in
    search rules

pub returns-clause-legal : goal.returns-clause-legal
returns-clause-legal c =
    let r = c.args.reader.now in
    let read : c.quantity.result ≡ Ok c.in_ok-collect.collect = search rules in
    let past : c.quantity.new.self ≡ later 1 r = search rules in
    let one = legal_token a_factor 0 r _ c.quantity.result c.in_ok-collect.collect (sym (later-none r)) read c.quantity.ensures.fault (legal_none a_factor r) in
    let second : c.quantity-2.result ≡ Ok c.in_ok-trunk.trunk = search rules in
    let further : c.quantity-2.new.self ≡ later 1 c.quantity.new.self = search rules in
    let two = legal_token a_factor 1 r _ c.quantity-2.result c.in_ok-trunk.trunk past second c.quantity-2.ensures.fault one in
    let third : c.quantity-3.result ≡ Ok c.in_ok-deliver.deliver = search rules in
    legal_token a_factor 2 r _ c.quantity-3.result c.in_ok-deliver.deliver (moved_token 1 r _ _ past further) third c.quantity-3.ensures.fault two

pub returns-clause-deliver : goal.returns-clause-deliver
returns-clause-deliver c =
    let r = c.args.reader.now in
    let past : c.quantity.new.self ≡ later 1 r = search rules in
    let further : c.quantity-2.new.self ≡ later 1 c.quantity.new.self = search rules in
    let two = moved_token 1 r _ _ past further in
    let value : c.in_ok-deliver.deliver ≡ value_here 3 c.quantity-2.new.self = search rules in
    let small : c.in_ok-deliver.deliver ≤ most_factor = search rules in
    ap (λ (z : ℤ). natural (to_z w128 (of_z w128 z))) c.from-3.ensures
    ∙ (ap natural (to_z-of_z w128 (pos c.in_ok-deliver.deliver) (record { sfits = omega arith })) ∙ (value ∙ ap (value_here 3) two))

pub returns-clause-moved : goal.returns-clause-moved
returns-clause-moved c =
    let r = c.args.reader.now in
    let past : c.quantity.new.self ≡ later 1 r = search rules in
    let further : c.quantity-2.new.self ≡ later 1 c.quantity.new.self = search rules in
    let last : c.quantity-3.new.self ≡ later 1 c.quantity-2.new.self = search rules in
    moved_token 2 r _ _ (moved_token 1 r _ _ past further) last
