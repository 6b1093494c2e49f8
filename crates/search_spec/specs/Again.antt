-- A search that begins again: with imported cuts, beside its own, and with hubs that are tried first.
use Rattle.std.specs.Prelude.{ℕ, ◌≤◌, List, ◌++◌, length, map, All, Bool, true, not, ◌&&◌, if◌then◌else◌, nat_eq, Option, Some, None, is_some}
use Rattle.std.specs.List.{list_all}
use Rattle.std.specs.List.Sorted.{IsStrictlyIncreasing}
use Rattle.hub_spec.specs.Problem.{Problem}
use Rattle.hub_spec.specs.Lacking.{lacking}
use Rattle.hub_spec.specs.Cuts.{Cut, IsCut}
use Rattle.hub_spec.specs.Certificates.{Proof}
use Rattle.hub_spec.specs.Ranges.{IsCutInRange}
use Rattle.search_spec.specs.States.{State, Parts, Grown, number_in_pool}
use Rattle.search_spec.specs.Steps.{separated, searched}
use Rattle.search_spec.specs.Choices.{has_node, Advising, rule_parts, begun_for}

-- ---- the start

-- what a search begins again with: cuts, and hubs that are tried
pub record Start : Type 0 where
  pub cuts : List Cut
  pub hubs : List ℕ

-- that of an older certificate: its cuts in order, and its hubs
abbrev pub start_of : Proof → Start
start_of k = record { cuts = k.cuts; hubs = k.plan.hubs }

-- a search of the problem may begin with it: the cuts are cuts of the problem within their ranges, and the hubs ascend
pub record IsStartOf (p : Problem) (start : Start) : Type 0 where
  pub cuts : All (IsCut p) start.cuts
  pub in_range : All (IsCutInRange p.size) start.cuts
  pub some_hub : 1 ≤ length start.hubs
  pub ascend : IsStrictlyIncreasing start.hubs

-- the state with these cuts after its own, as the next numbers; they are of no set, and not marked
unfoldable pub with_given : List Cut → State → State
with_given cuts s = record s {
  sets = s.sets ++ map (λ cut. None) cuts;
  cuts = s.cuts ++ cuts;
  marks = s.marks ++ map (λ cut. None) cuts;
}

-- the hubs have the wanted number, if a number is wanted
abbrev pub has_wanted : Option ℕ → List ℕ → Bool
has_wanted None hubs = true
has_wanted (Some n) hubs = nat_eq (length hubs) n

-- the hubs are to be separated: they are candidates, feasible for each commodity, of the wanted number,
-- and not in the pool
unfoldable pub is_tried : Problem → State → List ℕ → Bool
is_tried p s hubs = list_all (has_node p.candidates) hubs
    && (not (is_some (lacking p hubs)) && (has_wanted p.wanted hubs && not (is_some (number_in_pool s hubs))))

-- they are, over the ascending order, and are the incumbent where they cost less
unfoldable pub tried : Problem → Parts → List ℕ → State → State
tried p parts hubs s = if is_tried p s hubs then separated parts hubs (parts.ascending hubs) s else s

-- the state with which a search begins again: as its rule begins, then the imported cuts, then the hubs
unfoldable pub begun_again : Problem → Parts → Start → State
begun_again p parts start = tried p parts start.hubs (with_given start.cuts (begun_for p parts p.wanted))

-- the rule, from a start
unfoldable pub rule_again : Problem → Advising → Option ℕ → Start → Grown
rule_again p advising n start = searched p (rule_parts p advising) n (begun_again p (rule_parts p advising) start)
