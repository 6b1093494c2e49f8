-- The cut of each kind from a hub set is in range and tight at it. The stored cut is of that set and has its mark.
use Rattle.std.proofs.Common.{◌≡◌, ℕ, List, Option, Some, None, refl, ap, sym, arith}
use Rattle.std.specs.Prelude.{option_map}
use Rattle.std.proofs.lemmas.List.FromFn.{get_or-map-range_with_len, length-map-range_with_len}
use Rattle.hub_spec.specs.Problem.{Problem, IsProblem}
use Rattle.hub_spec.specs.Plans.{IsHubSet}
use Rattle.hub_spec.specs.Cuts.{Cut, load}
use Rattle.hub_spec.specs.Separation.{IsOrder}
use Rattle.hub_spec.specs.Trees.{Branching}
use Rattle.cut_model.specs.MarkedCuts.{MarkedCut}
use Rattle.core_cuts.specs.Finding.{core_marked}
use Rattle.core_cuts.specs.Theorems.{IsServing}
use Rattle.core_cuts.proofs.CoredFunctions.{cored_function}
use Rattle.core_cuts.proofs.ServingCuts.{cored_serves}
use Rattle.search_spec.specs.Laws.{Serves, GoesOn}
use Rattle.search_spec.specs.Choices.{rule_parts}
use Rattle.cut_pool.specs.Kept.{by_set, kept_set, kept_cut, kept_mark}
use Rattle.cut_pool.specs.Entries.{core_entry}
use Rattle.search_steps.specs.Advising.{parts_of}
use Rattle.search_steps.specs.Pools.{IsSumsOf}
use Rattle.search_steps.proofs.RuleChoices.{parts_sound}
use Rattle.search_steps.specs.Kinds.{CutKind, minimal, core, core_or, cored_or, cut_by, parts_for}
use Rattle.search_steps.specs.Entered.{IsEntryOf}
use Rattle.search_steps.specs.KindTheorems.{PartsAreSound, KeptIsOfSet}

-- ---- Pareto-optimal cuts

core_is : (p : Problem) (set : List ℕ) (x : MarkedCut) → IsProblem p → IsHubSet p set → core_marked p set ≡ Some x → IsServing p set x
core_is p set x ok is_set found =
    cored_serves p set x (record { problem = ok; set = is_set })
    (((cored_function p set (record { problem = ok; set = is_set })).0 x).1 found)

core_serves : (p : Problem) (set : List ℕ) (other : Cut) (o : Option MarkedCut) → IsProblem p → IsHubSet p set → core_marked p set ≡ o
    → Serves p set other → Serves p set (core_or o other)
core_serves p set other None ok is_set found serves = serves
core_serves p set other (Some x) ok is_set found serves =
    let is = core_is p set x ok is_set found in
    record { is_cut = is.core.is_cut; in_range = is.cut_in_range; tight = is.tight; whole = is.whole }

-- the entry of a Pareto-optimal cut has its sums
core_sums : (p : Problem) (set : List ℕ) (x : MarkedCut) → IsServing p set x → IsSumsOf p (core_entry p.size x)
core_sums p set x is = record {
  pooled = tt;
  fits = (is.core, is.cut_in_range, is.mark_in_range);
  is_total = refl;
  one_load_each = length-map-range_with_len (load x.cut) 0 p.size;
  are_loads = λ k node. get_or-map-range_with_len (load x.cut) 0 p.size k k 0 node (omega arith);
}

-- the Pareto-optimal cut that is found is entered as one
pub core_entered : (p : Problem) (set order : List ℕ) (x : MarkedCut) → IsProblem p → IsHubSet p set → core_marked p set ≡ Some x
    → IsEntryOf core p set order (core_entry p.size x)
core_entered p set order x ok is_set found = record {
  kept = ap (λ (o : Option MarkedCut). cored_or o (by_set set order)) (sym found);
  sums = core_sums p set x (core_is p set x ok is_set found);
}

-- ---- each kind

cut_serves : (kind : CutKind) (p : Problem) (set order : List ℕ) → IsProblem p → IsHubSet p set → IsOrder p set order
    → Serves p set (cut_by kind p set order)
cut_serves minimal p set order ok is_set is_order = (parts_sound p ok).cut set order is_set is_order
cut_serves core p set order ok is_set is_order =
    core_serves p set ((parts_of p).cut set order) (core_marked p set) ok is_set refl ((parts_sound p ok).cut set order is_set is_order)

-- a branch goes on whichever cuts are separated
pub goes_on_by : (kind : CutKind) (p : Problem) (b : Branching) → GoesOn (parts_for kind p) b → GoesOn (parts_of p) b
goes_on_by kind p b on = record { barren = on.barren; blocked = on.blocked; only = on.only }

pub goes_on_for : (kind : CutKind) (p : Problem) (b : Branching) → GoesOn (parts_of p) b → GoesOn (parts_for kind p) b
goes_on_for kind p b on = record { barren = on.barren; blocked = on.blocked; only = on.only }

pub kind_is_sound : PartsAreSound
kind_is_sound kind p ok =
    let is = parts_sound p ok in
    record {
      cut = λ set order is_set is_order. cut_serves kind p set order ok is_set is_order;
      cost = is.cost;
      ascending = is.ascending;
      falling = is.falling;
      advice = λ s b state branch room on. is.advice s b state branch room (goes_on_by kind p b on);
      pick = λ advice b branch room on. is.pick advice b branch room (goes_on_by kind p b on);
      some_free = is.some_free;
      rooms = is.rooms;
      nearest = is.nearest;
      barren = is.barren;
      blocked = is.blocked;
      only = is.only;
      closes = is.closes;
    }

core_set : (p : Problem) (set order : List ℕ) (o : Option MarkedCut) → IsProblem p → IsHubSet p set → core_marked p set ≡ o
    → kept_set (cored_or o (by_set set order)) ≡ Some set
core_set p set order None ok is_set found = refl
core_set p set order (Some x) ok is_set found = ap (λ (hubs : List ℕ). Some hubs) (core_is p set x ok is_set found).hubs

core_cut : (p : Problem) (set order : List ℕ) (o : Option MarkedCut)
    → kept_cut p (cored_or o (by_set set order)) ≡ core_or o ((parts_of p).cut set order)
unfolding rule_parts
core_cut p set order None = refl
core_cut p set order (Some x) = refl

core_mark : (set order : List ℕ) (o : Option MarkedCut) → kept_mark (cored_or o (by_set set order)) ≡ option_map (λ x. x.mark) o
core_mark set order None = refl
core_mark set order (Some x) = refl

pub kept_of_set : KeptIsOfSet
unfolding rule_parts
kept_of_set minimal p set order ok is_set = record { of_set = refl; cut = refl; mark = refl }
kept_of_set core p set order ok is_set = record {
  of_set = core_set p set order (core_marked p set) ok is_set refl;
  cut = core_cut p set order (core_marked p set);
  mark = core_mark set order (core_marked p set);
}
