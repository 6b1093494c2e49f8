use Rattle.std.proofs.Common.{◌≤◌, ℕ, List, All, inr, refl, sym, subst, arith}
use Rattle.std.proofs.lemmas.List.Elements.{All-map, All-weaker}
use Rattle.hub_spec.specs.Problem.{commodities}
use Rattle.core_cuts.specs.Brought.{IsSoundFound}
use Rattle.core_cuts.specs.FoundCuts.{parts_of, brought_cut, proofs_of, IsCommonPart}
use Rattle.core_cuts.specs.Readings.{FoundDual}
use Rattle.core_cuts.proofs.CommonParts.{has_least_common}
use Rattle.core_cuts.proofs.FoundSounds.{all_asked, all_sound}
use Rattle.core_cuts.proofs.found_cuts.cut_by.Goals as goal
use Rattle.core_cuts.proofs.found_cuts.cut_by.Goals.{After-deref}

some_parts : (c : After-deref) → All (λ (f : FoundDual). 1 ≤ f.part) c.args.founds.items
some_parts c =
    let p = c.args.instance.now in
    let hubs = c.args.set.now in
    All-weaker (IsSoundFound p) (λ (f : FoundDual). 1 ≤ f.part) (λ f sound. sound.some_part) c.args.founds.items
    (all_sound p hubs (commodities p.size) c.args.founds.items (all_asked p hubs c.requires.problem c.requires.may c.requires.set) c.requires.founds)

pub common_part-requires : goal.common_part-requires
common_part-requires c =
    subst (λ (fs : List FoundDual). All (λ f. 1 ≤ f.part) fs) (sym c.deref.ensures.value) (some_parts (goal.at.common_part-requires c).After-deref)

pub returns-in-None-clause-plain : goal.returns-in-None-clause-plain
returns-in-None-clause-plain c _ =
    let founds = c.args.founds.items in
    let some = All-map (λ (x : ℕ). 1 ≤ x) (λ (f : FoundDual). f.part) founds (some_parts (goal.at.returns-in-None-clause-plain c).After-deref) in
    let least = has_least_common (parts_of founds) some in
    let e = least.0 in
    let high = c.in-None.ensures.none refl e
    (subst (λ (fs : List FoundDual). IsCommonPart (parts_of fs) e) (sym c.deref.ensures.value) least.1.common) in
    inr (inr (
      brought_cut e founds,
      record { hubs = c.args.set.now; proofs = proofs_of founds },
      record { founds = founds; each = c.requires.founds; part = least.1; duals = refl; of_hubs = refl; proofs = refl },
      λ fit. absurd (omega (arith, fit.part_most, high)),
    ))
