use Rattle.std.proofs.Common.{List, length, All, inr, refl, sym, ap, ◌∙◌, subst}
use Rattle.std.specs.Int.{◌∣◌}
use Rattle.hub_spec.specs.Problem.{commodities}
use Rattle.core_cuts.specs.Brought.{IsSoundFound}
use Rattle.core_cuts.specs.FoundCuts.{brought_cut, proofs_of, IsFitCut}
use Rattle.core_cuts.specs.Readings.{FoundDual}
use Rattle.core_cuts.proofs.CommonParts.{each_divides}
use Rattle.core_cuts.proofs.FoundSounds.{all_asked, all_sound, founds_long}
use Rattle.core_cuts.proofs.found_cuts.cut_with.Goals as goal

pub fit_cut-requires-clause-one_each : goal.fit_cut-requires-clause-one_each
fit_cut-requires-clause-one_each c =
    ap (λ (fs : List FoundDual). length fs) c.deref.ensures.value ∙ founds_long c.args.instance.now c.args.set.now c.args.founds.items c.requires.founds

pub fit_cut-requires-clause-divide : goal.fit_cut-requires-clause-divide
fit_cut-requires-clause-divide c =
    subst (λ (fs : List FoundDual). All (λ f. f.part ∣ c.args.part) fs) (sym c.deref.ensures.value)
    (each_divides c.args.founds.items c.args.part c.requires.part.common)

pub fit_cut-requires-clause-sound : goal.fit_cut-requires-clause-sound
fit_cut-requires-clause-sound c =
    let p = c.args.instance.now in
    let hubs = c.args.set.now in
    subst (All (IsSoundFound p)) (sym c.deref.ensures.value)
    (all_sound p hubs (commodities p.size) c.args.founds.items (all_asked p hubs c.requires.problem c.requires.may c.requires.set) c.requires.founds)

pub returns-in-None-clause-plain : goal.returns-in-None-clause-plain
returns-in-None-clause-plain c _ =
    let p = c.args.instance.now in
    let e = c.args.part in
    let founds = c.args.founds.items in
    inr (inr (
      brought_cut e founds,
      record { hubs = c.args.set.now; proofs = proofs_of founds },
      record { founds = founds; each = c.requires.founds; part = c.requires.part; duals = refl; of_hubs = refl; proofs = refl },
      λ fit. c.in_ok-cut.ensures.none c.in-None.is (subst (λ (fs : List FoundDual). IsFitCut p (brought_cut e fs)) (sym c.deref.ensures.value) fit),
    ))
