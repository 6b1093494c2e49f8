-- The turn of a place: what is done stays, and each earlier place asks in its turn.
use Rattle.std.proofs.Common.{◌≡◌, ℕ, ◌+◌, ◌-◌, ◌<◌, ◌≤◌, ◌⊎◌, max, List, slice_index, inl, inr, refl, sym, subst, ap, ◌∙◌, ⊎_elim, arith}
use Rattle.std.proofs.lemmas.Bool.{cases_lt}
use Rattle.unit_duals.specs.Cells.{cell}
use Rattle.unit_duals.specs.Lengths.{UnitLegs, trunk_leg, last_leg}
use Rattle.unit_duals.specs.Values.{Origin, origin_of, back_leg, IsValue, AreFinal, AreSlackRows, IsTurnAt}
use Rattle.unit_duals.specs.Raised.{asked_by_hubs, asked_forth, asked_home, IsSparedForth, IsSparedHome, IsRowRaised, IsRowSet}
use Rattle.unit_duals.proofs.LaterValues.{value_kept, first_value, later_value, IsRaisedBy}

final_kept : (o : Origin) (n t : ℕ) (old new : List ℕ) → ((s j : ℕ) → s < t → j < n → cell n new s j ≡ cell n old s j)
    → AreFinal o n t old → AreFinal o n t new
final_kept o n t old new same final = record {
  each = λ s j row column. subst (IsValue o (cell n new) s j s) (sym (same s j row column))
      (value_kept o (cell n old) (cell n new) s j s (cell n old s j) (λ m below. same m j (omega (arith, below, row)) column) (final.each s j row column));
}

slacks_kept : (o : Origin) (n t : ℕ) (old new slack rest : List ℕ) → ((s j : ℕ) → s < t → j < n → cell n new s j ≡ cell n old s j)
    → AreSlackRows o n t old slack rest → AreSlackRows o n t new slack rest
slacks_kept o n t old new slack rest same slacks = record {
  after_last = λ e j row column. slacks.after_last e j row column ∙ ap (λ v. o.price j - (o.last e j + v)) (sym (same e j row column));
  after_value = λ e j row column. slacks.after_value e j row column ∙ ap (λ v. o.price j - v) (sym (same e j row column));
}

-- the turn begins with what the ways by hubs ask
pub turn_start : (l : UnitLegs) (prices first reach slack rest : List ℕ) (t : ℕ) (old new : List ℕ)
    → IsRowSet l.size t l.size (asked_by_hubs l prices first reach t) old new
    → AreSlackRows (origin_of l prices first reach) l.size t old slack rest → AreFinal (origin_of l prices first reach) l.size t old
    → IsTurnAt (origin_of l prices first reach) l.size t 0 new slack rest
turn_start l prices first reach slack rest t old new row slacks final = record {
  slacks = slacks_kept o l.size t old new slack rest same slacks;
  final = final_kept o l.size t old new same final;
  row = record {
    each = λ j column. (let h = row.here j column in first_value o (cell l.size new) t j (cell l.size new t j)
        (slice_index prices j - (slice_index first t + back_leg l t j)) (slice_index prices j - (slice_index reach t + last_leg l t j)) refl refl
        (omega (arith, h), omega (arith, h)) (one (slice_index prices j - (slice_index first t + back_leg l t j))
        (slice_index prices j - (slice_index reach t + last_leg l t j)) (cell l.size new t j) h));
  };
}
  where
    o : Origin
    o = origin_of l prices first reach

    same : (s j : ℕ) → s < t → j < l.size → cell l.size new s j ≡ cell l.size old s j
    same s j before column = row.others s j (λ e. omega (arith, before, e)) column

    one : (a b v : ℕ) → v ≡ max a b → (v ≡ a) ⊎ (v ≡ b)
    one a b v is = ⊎_elim (λ (less : a < b). inr (omega (arith, less, is))) (λ (more : b ≤ a). inl (omega (arith, more, is))) (cases_lt a b)

-- one more earlier place has asked, first by the way forth, then by the way home
pub turn_more : (l : UnitLegs) (prices first reach slack rest : List ℕ) (t e : ℕ) (slack_row rest_row old mid new : List ℕ) → e < t
    → ((j : ℕ) → j < l.size → slice_index slack_row j ≡ cell l.size slack e j)
    → ((j : ℕ) → j < l.size → slice_index rest_row j ≡ cell l.size rest e j)
    → IsRowRaised l.size t (asked_forth l first slack_row t e) (IsSparedForth l first reach t e) old mid
    → IsRowRaised l.size t (asked_home l first rest_row t e) (IsSparedHome l first reach t e) mid new
    → IsTurnAt (origin_of l prices first reach) l.size t e old slack rest
    → IsTurnAt (origin_of l prices first reach) l.size t (e + 1) new slack rest
turn_more l prices first reach slack rest t e slack_row rest_row old mid new earlier slack_is rest_is forth home turn = record {
  slacks = slacks_kept o l.size t old new slack rest same turn.slacks;
  final = final_kept o l.size t old new same turn.final;
  row = record {
    each = λ j column. value_kept o (cell l.size old) (cell l.size new) t j (e + 1) (cell l.size new t j)
        (λ m below. same m j (omega (arith, below, earlier)) column)
        (later_value o (cell l.size old) t j e (cell l.size old t j) (cell l.size mid t j) (cell l.size new t j)
        (asked_forth l first slack_row t e j) (asked_home l first rest_row t e j) (turn.final.each e j earlier column) (turn.row.each j column)
        (raised j column));
  };
}
  where
    o : Origin
    o = origin_of l prices first reach

    same : (s j : ℕ) → s < t → j < l.size → cell l.size new s j ≡ cell l.size old s j
    same s j before column =
        home.others s j (λ x. omega (arith, before, x)) column ∙ forth.others s j (λ x. omega (arith, before, x)) column

    raised : (j : ℕ) → j < l.size → IsRaisedBy o (cell l.size old) t j e (cell l.size old t j) (cell l.size mid t j) (cell l.size new t j)
        (asked_forth l first slack_row t e j) (asked_home l first rest_row t e j)
    raised j column = record {
      forth_is = ap (λ v. v - (slice_index first t + trunk_leg l t e)) (slack_is j column ∙ turn.slacks.after_last e j earlier column);
      home_is = ap (λ v. v - (slice_index first e + trunk_leg l e t + last_leg l t j)) (rest_is j column ∙ turn.slacks.after_value e j earlier column);
      first_grown = forth.grown j column;
      then_grown = home.grown j column;
      first_met = forth.met j column;
      then_met = home.met j column;
      first_tight = forth.tight j column;
      then_tight = home.tight j column;
    }

-- after all earlier places the row is done
pub turn_end : (o : Origin) (n t : ℕ) (values slack rest : List ℕ) → IsTurnAt o n t t values slack rest → AreFinal o n (t + 1) values
turn_end o n t values slack rest turn = record {
  each = λ s j row column. ⊎_elim (λ (before : s < t). turn.final.each s j before column)
      (λ (here : t ≤ s). let is : t ≡ s = omega (arith, row, here) in
      subst (λ (x : ℕ). IsValue o (cell n values) x j x (cell n values x j)) is (turn.row.each j column))
      (cases_lt s t);
}

-- and what the prices leave beside it is noted
pub slacks_more : (o : Origin) (n t : ℕ) (values old_slack old_rest slack rest : List ℕ)
    → IsRowSet n t n (λ j. o.price j - cell n values t j - o.last t j) old_slack slack
    → IsRowSet n t n (λ j. o.price j - cell n values t j) old_rest rest
    → AreSlackRows o n t values old_slack old_rest → AreSlackRows o n (t + 1) values slack rest
slacks_more o n t values old_slack old_rest slack rest slack_set rest_set slacks = record {
  after_last = λ e j row column. ⊎_elim
      (λ (before : e < t). slack_set.others e j (λ x. omega (arith, before, x)) column ∙ slacks.after_last e j before column)
      (λ (here : t ≤ e). let is : t ≡ e = omega (arith, row, here) in
      subst (λ (x : ℕ). cell n slack x j ≡ o.price j - (o.last x j + cell n values x j)) is (let h = slack_set.here j column in omega (arith, h)))
      (cases_lt e t);
  after_value = λ e j row column. ⊎_elim
      (λ (before : e < t). rest_set.others e j (λ x. omega (arith, before, x)) column ∙ slacks.after_value e j before column)
      (λ (here : t ≤ e). let is : t ≡ e = omega (arith, row, here) in
      subst (λ (x : ℕ). cell n rest x j ≡ o.price j - cell n values x j) is (rest_set.here j column))
      (cases_lt e t);
}
