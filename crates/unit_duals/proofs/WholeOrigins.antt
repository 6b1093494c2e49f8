-- The values of one origin once all places had their turn.
use Rattle.std.proofs.Common.{◌≡◌, ℕ, ◌*◌, ◌<◌, List, length, slice_index, ⊎_elim, arith}
use Rattle.unit_duals.specs.Cells.{cell}
use Rattle.unit_duals.specs.Lengths.{UnitLegs}
use Rattle.unit_duals.specs.LeastValues.{IsAsked, nothing, by_itself, to_hub, from_hub, to_earlier, from_earlier, IsLeastValue, AreLeastValues}
use Rattle.unit_duals.specs.Values.{origin_of, reach_leg, IsTight, at_nothing, at_back, at_reach, at_forth, at_home, IsValue, AreFinal}
use Rattle.unit_duals.proofs.HubLengths.{back_le_last, back_le_by, back_is, reach_le_by, reach_is}

tight_is_asked : (l : UnitLegs) (prices first reach : List ℕ) (values : ℕ → ℕ → ℕ) (t j v : ℕ) → slice_index reach t ≡ reach_leg l first t
    → IsTight (origin_of l prices first reach) values t j t v → IsAsked l first (slice_index prices j) (λ m. values m j) t j v
tight_is_asked l prices first reach values t j v is_reach (at_nothing h) = nothing h
tight_is_asked l prices first reach values t j v is_reach (at_back h) = ⊎_elim
    (λ e. by_itself (omega (arith, h, e)))
    (λ p. to_hub p.0 p.1 (omega (arith, h, p.2)))
    (back_is l t j)
tight_is_asked l prices first reach values t j v is_reach (at_reach h) = ⊎_elim
    (λ e. by_itself (omega (arith, h, is_reach, e)))
    (λ p. from_hub p.0 p.1 (omega (arith, h, is_reach, p.2)))
    (reach_is l first t)
tight_is_asked l prices first reach values t j v is_reach (at_forth m before h) = to_earlier m before h
tight_is_asked l prices first reach values t j v is_reach (at_home m before h) = from_earlier m before h

value_is_least : (l : UnitLegs) (prices first reach : List ℕ) (values : ℕ → ℕ → ℕ) (t j v : ℕ) → slice_index reach t ≡ reach_leg l first t
    → IsValue (origin_of l prices first reach) values t j t v → IsLeastValue l first (slice_index prices j) (λ m. values m j) t j v
value_is_least l prices first reach values t j v is_reach value = record {
  itself = omega (arith, value.by_last, back_le_last l t j);
  to_hubs = λ m hub. omega (arith, value.by_last, back_le_by l t j m hub);
  from_hubs = λ m hub. omega (arith, value.by_first, is_reach, reach_le_by l first t m hub);
  to_places = λ m before. value.forth m before;
  from_places = λ m before. value.home m before;
  is = tight_is_asked l prices first reach values t j v is_reach value.tight;
}

pub values_are_least : (l : UnitLegs) (prices first reach values : List ℕ) → length values ≡ l.count * l.size
    → ((t : ℕ) → t < l.count → slice_index reach t ≡ reach_leg l first t)
    → AreFinal (origin_of l prices first reach) l.size l.count values → AreLeastValues l first prices values
values_are_least l prices first reach values long is_reach final = record {
  long = long;
  each = λ t j place column. value_is_least l prices first reach (cell l.size values) t j (cell l.size values t j)
      (is_reach t place) (final.each t j place column);
}
