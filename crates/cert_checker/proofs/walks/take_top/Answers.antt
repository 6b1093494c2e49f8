use Rattle.std.proofs.Common.{ℕ, List, [], ◌∷◌, ◌++◌, zip, refl, sym, subst}
use Rattle.hub_spec.specs.Problem.{commodities}
use Rattle.cert_spec.specs.Lines.{Item, says_hubs, says_cuts}
use Rattle.cert_spec.specs.Text.{route_items}
use Rattle.cert_scan.specs.Versions.{version_number}
use Rattle.cert_format.specs.declared.headings.Heading.{Heading}
use Rattle.cert_conditions.specs.ListLines.{MayTakeLines, TakesLines}
use Rattle.cert_checker.specs.Walks.{head_items}
use Rattle.cert_checker.proofs.Walking.{may_first, may_then, then_takes}
use Rattle.cert_checker.proofs.walks.take_top.Goals as goal

-- the lines behind the first ones, by the hubs and the routes
abbrev later : Heading → ℕ → List ℕ → List (ℕ × ℕ) → List Item
later h cuts hubs routes = says_hubs hubs ∷ (route_items (zip (commodities h.size) routes) ++ says_cuts cuts ∷ [])

-- the first ones
abbrev first : Heading → List Item
first h = head_items (version_number h.version) h.size h.candidates h.cost h.bound

pub take_head-requires : goal.take_head-requires
take_head-requires c =
    may_first (first c.args.heading.now) (later c.args.heading.now c.args.cuts c.args.plan.now.hubs c.args.plan.now.routes) c.requires.may

pub take_line-requires-clause-may : goal.take_line-requires-clause-may
take_line-requires-clause-may c =
    let h = c.args.heading.now in
    let hubs = c.args.plan.now.hubs in
    let rest = route_items (zip (commodities h.size) c.args.plan.now.routes) ++ says_cuts c.args.cuts ∷ [] in
    let may = may_then (first h) (says_hubs hubs ∷ rest) c.requires.may c.in_ok-take_head.ensures.taken in
    subst (λ hs. MayTakeLines c.take_head.new.checks (says_hubs hs ∷ [])) (sym c.hubs-hubs.ensures.hubs) (may_first (says_hubs hubs ∷ []) rest may)

pub take_routes-requires-clause-may : goal.take_routes-requires-clause-may
take_routes-requires-clause-may c =
    let h = c.args.heading.now in
    let hubs = c.args.plan.now.hubs in
    let routes = c.args.plan.now.routes in
    let cuts = says_cuts c.args.cuts ∷ [] in
    let rest = route_items (zip (commodities h.size) routes) ++ cuts in
    let may = may_then (first h) (says_hubs hubs ∷ rest) c.requires.may c.in_ok-take_head.ensures.taken in
    let then = may_then (says_hubs hubs ∷ []) rest may
    (subst (λ hs. TakesLines c.take_head.new.checks (says_hubs hs ∷ []) c.take_line.new.self) c.hubs-hubs.ensures.hubs c.in_ok-take_line.ensures.taken) in
    subst (λ rs. MayTakeLines c.take_line.new.self (route_items (zip (commodities h.size) rs))) (sym c.routes-routes.ensures)
    (may_first (route_items (zip (commodities h.size) routes)) cuts then)

pub take_alone-requires : goal.take_alone-requires
take_alone-requires c =
    let h = c.args.heading.now in
    let hubs = c.args.plan.now.hubs in
    let routes = c.args.plan.now.routes in
    let cuts = says_cuts c.args.cuts ∷ [] in
    let rest = route_items (zip (commodities h.size) routes) ++ cuts in
    let may = may_then (first h) (says_hubs hubs ∷ rest) c.requires.may c.in_ok-take_head.ensures.taken in
    let then = may_then (says_hubs hubs ∷ []) rest may
    (subst (λ hs. TakesLines c.take_head.new.checks (says_hubs hs ∷ []) c.take_line.new.self) c.hubs-hubs.ensures.hubs c.in_ok-take_line.ensures.taken) in
    let last = may_then (route_items (zip (commodities h.size) routes)) cuts then
    (subst (λ rs. TakesLines c.take_line.new.self (route_items (zip (commodities h.size) rs)) c.take_routes.new.checks) c.routes-routes.ensures
    c.in_ok-take_routes.ensures.taken) in
    (says_cuts c.args.cuts, refl, last)

pub returns-clause-taken : goal.returns-clause-taken
returns-clause-taken c =
    let h = c.args.heading.now in
    let hubs = c.args.plan.now.hubs in
    let routes = c.args.plan.now.routes in
    let cuts = says_cuts c.args.cuts ∷ [] in
    let rest = route_items (zip (commodities h.size) routes) ++ cuts in
    then_takes (first h) (says_hubs hubs ∷ rest) c.in_ok-take_head.ensures.taken
    (then_takes (says_hubs hubs ∷ []) rest
    (subst (λ hs. TakesLines c.take_head.new.checks (says_hubs hs ∷ []) c.take_line.new.self) c.hubs-hubs.ensures.hubs c.in_ok-take_line.ensures.taken)
    (then_takes (route_items (zip (commodities h.size) routes)) cuts
    (subst (λ rs. TakesLines c.take_line.new.self (route_items (zip (commodities h.size) rs)) c.take_routes.new.checks) c.routes-routes.ensures
    c.in_ok-take_routes.ensures.taken)
    (c.in_ok-take_alone.ensures.taken (says_cuts c.args.cuts) refl)))
