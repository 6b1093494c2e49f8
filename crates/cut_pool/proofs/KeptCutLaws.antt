-- A stored cut is a cut, and a certificate may list it. Its part is known, and its mark, if it has one.
use Rattle.std.proofs.Common.{◌≡◌, refl}
use Rattle.std.specs.Prelude.{IfSome}
use Rattle.hub_spec.specs.Problem.{Problem, IsProblem}
use Rattle.hub_spec.specs.Cuts.{IsCut}
use Rattle.hub_spec.specs.Ranges.{IsCutInRange, IsFirstCut}
use Rattle.hub_spec.specs.Separation.{set_cut}
use Rattle.search_spec.proofs.SetCosts.{set_cut_serves}
use Rattle.cut_model.proofs.ValueCuts.{cut_is, cut_in_range, cut_is_first}
use Rattle.cut_model.specs.ValueRows.{value_cut}
use Rattle.cut_pool.specs.Kept.{Kept, by_values, by_set, cored, given, kept_cut, kept_part, kept_mark, IsRemade, IsKeptFor}
use Rattle.cut_pool.specs.Theorems.{IsMarkedBy}
use Rattle.cut_pool.proofs.FirstCuts.{whole_is_first}

pub kept_is_cut : (p : Problem) (kept : Kept) → IsProblem p → IsKeptFor p kept → IsCut p (kept_cut p kept)
kept_is_cut p (by_values rows) ok fits = cut_is p rows ok
kept_is_cut p (by_set hubs order) ok fits = (set_cut_serves p hubs order ok fits.0 fits.1).is_cut
kept_is_cut p (cored x) ok fits = fits.0.is_cut
kept_is_cut p (given cut) ok fits = fits.0

pub kept_in_range : (p : Problem) (kept : Kept) → IsProblem p → IsKeptFor p kept → IsCutInRange p.size (kept_cut p kept)
kept_in_range p (by_values rows) ok fits = cut_in_range p rows ok
kept_in_range p (by_set hubs order) ok fits = (set_cut_serves p hubs order ok fits.0 fits.1).in_range
kept_in_range p (cored x) ok fits = fits.1
kept_in_range p (given cut) ok fits = fits.1

pub kept_part_is : (p : Problem) (kept : Kept) → (kept_cut p kept).part ≡ kept_part kept
unfolding value_cut set_cut
kept_part_is p (by_values rows) = refl
kept_part_is p (by_set hubs order) = refl
kept_part_is p (cored x) = refl
kept_part_is p (given cut) = refl

pub kept_is_first : (p : Problem) (kept : Kept) → IsProblem p → IsKeptFor p kept → IsRemade kept → IsFirstCut (kept_cut p kept)
kept_is_first p (by_values rows) ok fits own = cut_is_first p rows ok
kept_is_first p (by_set hubs order) ok fits own =
    let serves = set_cut_serves p hubs order ok fits.0 fits.1 in
    whole_is_first p (set_cut p hubs order) serves.is_cut serves.in_range (kept_part_is p (by_set hubs order))
kept_is_first p (cored x) ok fits own = absurd own
kept_is_first p (given cut) ok fits own = absurd own

pub kept_mark_is : (p : Problem) (kept : Kept) → IsKeptFor p kept → IfSome (kept_mark kept) (IsMarkedBy p kept)
kept_mark_is p (by_values rows) fits = tt
kept_mark_is p (by_set hubs order) fits = tt
kept_mark_is p (cored x) fits = record { core = fits.0; in_range = fits.2 }
kept_mark_is p (given cut) fits = tt
