-- A node evaluation: its outcome is sound for the state as the round begins.
use Rattle.std.proofs.Common.{◌≡◌, ℕ, true, not, ◌&&◌, nat_lt, List, Option, Some, None, is_some, if◌then◌else◌, refl}
use Rattle.std.proofs.lemmas.Bool.{cond_both}
use Rattle.hub_spec.specs.Problem.{Problem}
use Rattle.hub_spec.specs.Separation.{IsOrder}
use Rattle.hub_spec.specs.Trees.{Branching, HasRoom, Tree, leaf, line_count, IsSound}
use Rattle.search_spec.specs.States.{denominator, State, Parts, number_in_pool, answer}
use Rattle.search_spec.specs.Steps.{closes_at, better, Side, fixings}
use Rattle.search_spec.specs.Laws.{IsWantedSet, AreListed, IsEnd, GoesOn, IsAdvised, AreSound}
use Rattle.search_spec.proofs.Keeping.{closes_less}
use Rattle.search_spec.proofs.Bounds.{bound_on, closes_when}
use Rattle.search_spec.proofs.Fixings.{AreFixings, fixings_are}
use Rattle.search_spec.proofs.Invariants.{IsReady, within_cost}
use Rattle.search_spec.proofs.Separated.{number_reached}
use Rattle.search_spec.proofs.Leaves.{whole_on_listed, full_sound}
use Rattle.search_spec.proofs.Rounds.{better_ready}
use Rattle.search_spec.specs.Places.{Pending, Outcome, ends, asks, splits}
use Rattle.search_spec.specs.Turns.{on_some, most_waits, turn_alone, turn_advised, turn}

-- ---- cases

pub on_some_both : {A X : Type 0} (o : Option A) (f : A → X) (rest : X) (P : X → Type 0) → ((a : A) → o ≡ Some a → P (f a)) → (o ≡ None → P rest)
    → P (on_some o f rest)
on_some_both None f rest P some none = none refl
on_some_both (Some a) f rest P some none = some a refl

-- ---- what is known of an outcome

-- a tree of one line that is sound for the answer
pub record IsSoundEnd (p : Problem) (s : State) (b : Branching) (t : Tree) : Type 0 where
  pub one_line : line_count t ≡ 1
  pub listed : AreListed t
  pub sound : IsSound p s.cuts (answer s) b t

-- a wanted hub set with an order, and weights with which the node may be searched
pub record IsSoundAsk (p : Problem) (s : State) (b : Branching) (set order : List ℕ) (w : List (ℕ × ℕ)) : Type 0 where
  pub is_set : IsWantedSet p set
  pub is_order : IsOrder p set order
  pub ready : IsReady p b w s

-- fixings of the node, and weights with which it may be searched
pub record IsSoundSplit (p : Problem) (s : State) (b : Branching) (w : List (ℕ × ℕ)) (fs : List (ℕ × Side)) : Type 0 where
  pub ready : IsReady p b w s
  pub are : AreFixings p s.cuts s.cost w b fs

abbrev pub IsFor : Problem → State → Branching → Outcome → Type 0
IsFor p s b (ends t) = IsSoundEnd p s b t
IsFor p s b (asks set order w more) = IsSoundAsk p s b set order w
IsFor p s b (splits w fs advice) = IsSoundSplit p s b w fs

-- ---- the evaluation

end_is : (p : Problem) (s : State) (b : Branching) (t : Tree) → IsEnd p b t → IsSoundEnd p s b t
end_is p s b t end = record { one_line = end.one_line; listed = end.listed; sound = end.sound s.cuts (answer s) }

alone_is : (p : Problem) (parts : Parts) (s : State) (x : Pending) (set : List ℕ) (o : Option ℕ) → AreSound p parts → IsReady p x.branch x.weights s
    → IsWantedSet p set → parts.only x.branch ≡ Some set → number_in_pool s set ≡ o → IsFor p s x.branch (turn_alone parts x set o)
unfolding turn_alone
alone_is p parts s x set (Some c) sound ready is_set only is = record {
  one_line = refl;
  listed = whole_on_listed c;
  sound = full_sound p parts x.branch set s c sound ready.is_branch ready.has_room only (number_reached p set s c ready.state is_set.wanted is);
}
alone_is p parts s x set None sound ready is_set only is = record { is_set = is_set; is_order = sound.ascending set is_set.is_set; ready = ready }

closed_is : (p : Problem) (s : State) (b : Branching) (w : List (ℕ × ℕ)) → HasRoom p.wanted b → IsAdvised s w → closes_at p s b w ≡ true
    → IsSoundEnd p s b (leaf denominator w)
closed_is p s b w has_room advised closes = record {
  one_line = refl;
  listed = advised.listed;
  sound = (has_room, advised.mix, closes_less denominator s.cost (answer s) (bound_on p s.cuts w b) (within_cost s) (closes_when p s b w closes));
}

advised_is : (p : Problem) (parts : Parts) (s : State) (x : Pending) → AreSound p parts → IsReady p x.branch x.weights s → GoesOn parts x.branch
    → IsFor p s x.branch (turn_advised p parts s x)
unfolding turn_advised
advised_is p parts s x sound ready through =
    let b = x.branch in
    let advice = parts.advice s b in
    let best = better p s b x.weights advice.weights in
    let set = parts.pick advice b in
    let is_set = sound.pick advice b ready.is_branch ready.has_room through in
    let better_is = better_ready p b x.weights advice.weights s ready (sound.advice s b ready.state ready.is_branch ready.has_room through) in
    let ask = asks set (parts.falling advice set) best true in
    let split = splits best (fixings p s b best) advice in
    let new = not (is_some (number_in_pool s set)) && nat_lt x.waits most_waits in
    cond_both (closes_at p s b best) (ends (leaf denominator best)) (if new then ask else split) (IsFor p s b)
    (λ e. closed_is p s b best ready.has_room better_is.advised e)
    (λ e. cond_both new ask split (IsFor p s b)
    (λ f. record { is_set = is_set; is_order = sound.falling advice set is_set.is_set; ready = better_is })
    (λ f. record { ready = better_is; are = fixings_are p s b best ready.is_branch.free_ascends }))

pub turn_is : (p : Problem) (parts : Parts) (s : State) (x : Pending) → AreSound p parts → IsReady p x.branch x.weights s
    → IsFor p s x.branch (turn p parts s x)
unfolding turn
turn_is p parts s x sound ready =
    let b = x.branch in
    let alone = λ (set : List ℕ). turn_alone parts x set (number_in_pool s set) in
    let advised = turn_advised p parts s x in
    on_some_both (parts.barren b) ends (on_some (parts.blocked b) ends (on_some (parts.only b) alone advised)) (IsFor p s b)
    (λ t e. end_is p s b t (sound.barren b t ready.is_branch e))
    (λ not_barren. on_some_both (parts.blocked b) ends (on_some (parts.only b) alone advised) (IsFor p s b)
    (λ t e. end_is p s b t (sound.blocked b t ready.is_branch e))
    (λ not_blocked. on_some_both (parts.only b) alone advised (IsFor p s b)
    (λ set e. alone_is p parts s x set (number_in_pool s set) sound ready (sound.only b set ready.is_branch ready.has_room not_barren not_blocked e) e refl)
    (λ none. advised_is p parts s x sound ready (record { barren = not_barren; blocked = not_blocked; only = none }))))
