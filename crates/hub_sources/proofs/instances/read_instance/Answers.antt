use Rattle.std.proofs.Common.{List, ℕ, Option, sym, subst, length, ◌≤◌, inl, inr}
use Rattle.std.proofs.lemmas.Result.{err_from_is_err_and, IfOk-weaker, IfErr-weaker}
use Rattle.hub_io.specs.Outside.{Files, Holds}
use Rattle.hub_spec.specs.Problem.{Problem}
use Rattle.file_spec.specs.Limits.{file_limit}
use Rattle.file_spec.proofs.ListedHubs.{has_asked}
use Rattle.hub_model.specs.Building.{costs_of}
use Rattle.hub_words.specs.Views.{source_of}
use Rattle.hub_sources.specs.declared.halts.Halt.{Halt}
use Rattle.hub_sources.specs.Sources.{WhereTold, HoldsInstance, HoldsCosts, LacksSource}
use Rattle.hub_sources.specs.Shelves.{FailsFor}
use Rattle.hub_sources.specs.Building.{IsBuilt, KeepsLimits}
use Rattle.hub_sources.specs.Halts.{Halts, IsOfCosts, IsOfWhole, IsOfSource, LacksCosts}
use Rattle.hub_sources.proofs.Sources.{one_source}
use Rattle.hub_sources.proofs.Halting.{read_halts, token_halts, costs_halts, halts_after, whole_halts, has_read, built_instance, built_limits}
use Rattle.hub_io.proofs.Names.{begins_then, begins_more}
use Rattle.hub_sources.proofs.instances.read_instance.Goals as goal

pub returns-in_err-bytes-clause-halted : goal.returns-in_err-bytes-clause-halted
returns-in_err-bytes-clause-halted g c =
    let e = err_from_is_err_and c.from_residual.result c.from_residual.ensures.1 in
    rw (e.1, e.2) (read_halts g.S.Shelf.held g.S.Shelf.faults g.S.Shelf.sound c.args.shelf.now c.read_file.new.shelf
    (source_of c.args.source.now) _ c.in_err-bytes.ensures.halted)

pub returns-in_err-parts-clause-halted : goal.returns-in_err-parts-clause-halted
returns-in_err-parts-clause-halted g c =
    let s = source_of c.args.source.now in
    let held = g.S.Shelf.held c.args.shelf.now in
    let same = sym c.deref.ensures.value in
    let short = subst (λ (x : List ℕ). length x ≤ file_limit) same c.in_ok-bytes.ensures.within in
    let is = subst (λ (x : List ℕ). Holds held s.file x) same c.in_ok-bytes.ensures.whole in
    let e = err_from_is_err_and c.from_residual-in_err-parts.result c.from_residual-in_err-parts.ensures.1 in
    rw (e.1, e.2) (token_halts held s _ _ _ short is c.in_err-parts.ensures.halted)

pub returns-in_err-costs-clause-halted : goal.returns-in_err-costs-clause-halted
returns-in_err-costs-clause-halted g c =
    let s = source_of c.args.source.now in
    let n = c.in_ok-parts.parts.size in
    let read = has_read (g.S.Shelf.held c.args.shelf.now) s _ _ _ c.deref.ensures.value c.in_ok-bytes.ensures.within c.in_ok-bytes.ensures.whole
    c.in_ok-parts.ensures.contents in
    let later = halts_after g.S.Shelf.held g.S.Shelf.faults g.S.Shelf.sound c.args.shelf.now c.read_file.new.shelf c.costs_of_file.new.shelf
    (LacksCosts s.costs) (λ (x : Option Files). IsOfCosts x s.costs n) _ c.in_ok-bytes.ensures.stays c.in_err-costs.ensures.halted in
    let e = err_from_is_err_and c.from_residual-in_err-costs.result c.from_residual-in_err-costs.ensures.1 in
    rw (e.1, e.2) (costs_halts g.S.Shelf.held g.S.Shelf.faults g.S.Shelf.sound c.args.shelf.now c.costs_of_file.new.shelf s _ _ _ read later)

pub build-requires : goal.build-requires
build-requires g c =
    let s = source_of c.args.source.now in
    record {
      given = c.in_ok-costs.ensures.legal;
      one_source = one_source s c.deref.result.now c.in_ok-parts.parts (costs_of c.in_ok-costs.costs) c.requires.sources c.in_ok-parts.ensures.contents
          c.in_ok-costs.ensures.named;
      listed = has_asked s.layout s.options c.deref.result.now c.in_ok-parts.parts c.requires.listed c.in_ok-parts.ensures.contents;
    }

pub returns-clause-limits : goal.returns-clause-limits
returns-clause-limits g c =
    let s = source_of c.args.source.now in
    let costs = costs_of c.in_ok-costs.costs in
    IfOk-weaker c.build.result (IsBuilt s.options c.in_ok-parts.parts costs) (KeepsLimits s.options)
    (λ p is. built_limits s.options c.in_ok-parts.parts costs p is) c.build.ensures.built

pub returns-clause-given : goal.returns-clause-given
returns-clause-given g c =
    let s = source_of c.args.source.now in
    let held = g.S.Shelf.held c.args.shelf.now in
    let costs = costs_of c.in_ok-costs.costs in
    let contents = c.in_ok-parts.parts in
    let read = has_read held s _ _ _ c.deref.ensures.value c.in_ok-bytes.ensures.within c.in_ok-bytes.ensures.whole c.in_ok-parts.ensures.contents in
    let given = subst (λ (x : Option Files). WhereTold x (λ files. HoldsCosts files s.costs contents.size costs)) c.in_ok-bytes.ensures.stays.same
    c.in_ok-costs.ensures.held in
    IfOk-weaker c.build.result (IsBuilt s.options contents costs) (λ (p : Problem). WhereTold held (λ files. HoldsInstance files s p))
    (λ p is. built_instance held s _ contents costs p read given is) c.build.ensures.built

pub returns-clause-halted : goal.returns-clause-halted
returns-clause-halted g c =
    let s = source_of c.args.source.now in
    let held = g.S.Shelf.held c.args.shelf.now in
    let costs = costs_of c.in_ok-costs.costs in
    let contents = c.in_ok-parts.parts in
    let unread = FailsFor g.S.Shelf.held g.S.Shelf.faults g.S.Shelf.sound c.args.shelf.now c.costs_of_file.new.shelf (λ files. LacksSource files s) in
    let read = has_read held s _ _ _ c.deref.ensures.value c.in_ok-bytes.ensures.within c.in_ok-bytes.ensures.whole c.in_ok-parts.ensures.contents in
    let given = subst (λ (x : Option Files). WhereTold x (λ files. HoldsCosts files s.costs contents.size costs)) c.in_ok-bytes.ensures.stays.same
    c.in_ok-costs.ensures.held in
    IfErr-weaker c.build.result (λ (h : Halt). Halts (IsOfWhole s.options contents costs) ⊥ h) (λ (h : Halt). Halts (IsOfSource held s) unread h)
    (λ h k. whole_halts held s unread _ contents costs h read given k) c.build.ensures.halted

-- ---- the files that are begun

pub returns-in_err-bytes-clause-begins : goal.returns-in_err-bytes-clause-begins
returns-in_err-bytes-clause-begins g c = begins_more (λ name is. inl is) c.in_err-bytes.ensures.begins

pub returns-in_err-parts-clause-begins : goal.returns-in_err-parts-clause-begins
returns-in_err-parts-clause-begins g c = begins_more (λ name is. inl is) c.in_ok-bytes.ensures.begins

pub returns-in_err-costs-clause-begins : goal.returns-in_err-costs-clause-begins
returns-in_err-costs-clause-begins g c =
    begins_then (begins_more (λ name is. inl is) c.in_ok-bytes.ensures.begins) (begins_more (λ name is. inr is) c.in_err-costs.ensures.begins)

pub returns-clause-begins : goal.returns-clause-begins
returns-clause-begins g c =
    begins_then (begins_more (λ name is. inl is) c.in_ok-bytes.ensures.begins) (begins_more (λ name is. inr is) c.in_ok-costs.ensures.begins)
