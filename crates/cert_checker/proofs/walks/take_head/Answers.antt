use Rattle.std.proofs.Common.{[], ◌∷◌, refl, ap}
use Rattle.cert_spec.specs.Lines.{says_version, says_size, says_cost, says_bound}
use Rattle.cert_scan.specs.Versions.{version_number}
use Rattle.cert_scan.specs.declared.items.Item.TheVariants.{Version}
use Rattle.cert_checker.proofs.Walking.{may_first, may_then, then_takes}
use Rattle.cert_checker.proofs.Holding.{version_back}
use Rattle.cert_checker.proofs.walks.take_head.Goals as goal

pub take_alone-requires : goal.take_alone-requires
take_alone-requires c =
    let h = c.args.heading.now in
    let v = says_version (version_number h.version) in
    let rest = says_size h.size h.candidates ∷ says_cost h.cost ∷ says_bound h.bound ∷ [] in
    (v, ap (λ x. Version x ∷ []) (version_back h.version), may_first (v ∷ []) rest c.requires)

pub take_alone-requires-2 : goal.take_alone-requires-2
take_alone-requires-2 c =
    let h = c.args.heading.now in
    let v = says_version (version_number h.version) in
    let s = says_size h.size h.candidates in
    let rest = says_cost h.cost ∷ says_bound h.bound ∷ [] in
    let may = may_then (v ∷ []) (s ∷ rest) c.requires (c.in_ok-take_alone.ensures.taken v (ap (λ x. Version x ∷ []) (version_back h.version))) in
    (s, refl, may_first (s ∷ []) rest may)

pub take_alone-requires-3 : goal.take_alone-requires-3
take_alone-requires-3 c =
    let h = c.args.heading.now in
    let v = says_version (version_number h.version) in
    let s = says_size h.size h.candidates in
    let k = says_cost h.cost in
    let rest = says_bound h.bound ∷ [] in
    let may = may_then (v ∷ []) (s ∷ k ∷ rest) c.requires (c.in_ok-take_alone.ensures.taken v (ap (λ x. Version x ∷ []) (version_back h.version))) in
    let then = may_then (s ∷ []) (k ∷ rest) may (c.in_ok-take_alone-2.ensures.taken s refl) in
    (k, refl, may_first (k ∷ []) rest then)

pub take_alone-requires-4 : goal.take_alone-requires-4
take_alone-requires-4 c =
    let h = c.args.heading.now in
    let v = says_version (version_number h.version) in
    let s = says_size h.size h.candidates in
    let k = says_cost h.cost in
    let b = says_bound h.bound in
    let may = may_then (v ∷ []) (s ∷ k ∷ b ∷ []) c.requires (c.in_ok-take_alone.ensures.taken v (ap (λ x. Version x ∷ []) (version_back h.version))) in
    let then = may_then (s ∷ []) (k ∷ b ∷ []) may (c.in_ok-take_alone-2.ensures.taken s refl) in
    (b, refl, may_then (k ∷ []) (b ∷ []) then (c.in_ok-take_alone-3.ensures.taken k refl))

pub returns-clause-taken : goal.returns-clause-taken
returns-clause-taken c =
    let h = c.args.heading.now in
    let v = says_version (version_number h.version) in
    let s = says_size h.size h.candidates in
    let k = says_cost h.cost in
    let b = says_bound h.bound in
    then_takes (v ∷ []) (s ∷ k ∷ b ∷ []) (c.in_ok-take_alone.ensures.taken v (ap (λ x. Version x ∷ []) (version_back h.version)))
    (then_takes (s ∷ []) (k ∷ b ∷ []) (c.in_ok-take_alone-2.ensures.taken s refl)
    (then_takes (k ∷ []) (b ∷ []) (c.in_ok-take_alone-3.ensures.taken k refl) (c.in_ok-take_alone-4.ensures.taken b refl)))
