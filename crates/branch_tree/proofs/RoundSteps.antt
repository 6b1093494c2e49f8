-- A round of the code is a round of the rule.
use Rattle.std.proofs.Common.{◌≡◌, ℕ, Bool, true, false, ◌||◌, List, is_some, ◌⊎◌, inl, inr, refl, ap, ap₂, sym, subst, ◌∙◌}
use Rattle.hub_spec.specs.Problem.{Problem}
use Rattle.hub_spec.specs.Trees.{Branching}
use Rattle.search_spec.specs.States.{State, Advice, number_in_pool}
use Rattle.search_spec.specs.Steps.{better, closes_at, separated, round, rounds}
use Rattle.search_spec.specs.Choices.{rule_parts, order_by_point, by_falling, others}
use Rattle.search_spec.proofs.StepCases.{round_over, round_new}
use Rattle.search_steps.specs.Advising.{master_advising, parts_of}
use Rattle.search_steps.specs.Kinds.{CutKind, parts_for}
use Rattle.search_core.specs.declared.tasks.Task.{Task}
use Rattle.search_steps.specs.declared.progress.Progress.{Progress}
use Rattle.branch_tree.specs.declared.rounds.RoundEnd.{RoundEnd}
use Rattle.branch_tree.specs.Rounding.{round_as, IsRound}

or_second : (x y : Bool) → y ≡ true → (x || y) ≡ true
or_second true y is = refl
or_second false y is = is

or_neither : (x y : Bool) → x ≡ false → y ≡ false → (x || y) ≡ false
or_neither x y first second = ap (λ (b : Bool). b || y) first ∙ second

-- what the code's round uses: the master's weights and point, the better weights, and the set that is picked
pub record IsTaken (p : Problem) (b : Branching) (w : List (ℕ × ℕ)) (s : State) (advised : Advice) (best : List (ℕ × ℕ)) : Type 0 where
  pub advice : advised ≡ master_advising p s b
  pub weights : best ≡ better p s b w advised.weights

advice_is : (p : Problem) (s : State) (b : Branching) → (parts_of p).advice s b ≡ master_advising p s b
unfolding rule_parts
advice_is p s b = refl

pub falling_is : (p : Problem) (a : Advice) (set : List ℕ) → (parts_of p).falling a set ≡ by_falling a.point (others p set)
unfolding rule_parts order_by_point
falling_is p a set = refl

-- the weights close, or the set is known
pub round_ends : (kind : CutKind) (p : Problem) (b : Branching) (w : List (ℕ × ℕ)) (s : State) (a : Advice) (best : List (ℕ × ℕ)) → IsTaken p b w s a best
    → (closes_at p s b best ≡ true) ⊎ (is_some (number_in_pool s ((parts_of p).pick a b)) ≡ true)
    → record { state = s; weights = best; advice = a; again = false } ≡ round p (parts_for kind p) b w s
round_ends kind p b w s a best taken over =
    let advice : a ≡ (parts_of p).advice s b = taken.advice ∙ sym (advice_is p s b) in
    let weights : best ≡ better p s b w ((parts_of p).advice s b).weights = taken.weights ∙ ap (λ (x : Advice). better p s b w x.weights) advice in
    let set : (parts_of p).pick a b ≡ (parts_of p).pick ((parts_of p).advice s b) b = ap (λ (x : Advice). (parts_of p).pick x b) advice in
    let both : record { state = s; weights = best; advice = a; again = false }
    ≡ record { state = s; weights = better p s b w ((parts_of p).advice s b).weights; advice = (parts_of p).advice s b; again = false }
    = λ i. record { state = s; weights = weights i; advice = advice i; again = false } in
    both ∙ sym (round_over p (parts_for kind p) b w s (ends over weights set))
  where
    ends : (closes_at p s b best ≡ true) ⊎ (is_some (number_in_pool s ((parts_of p).pick a b)) ≡ true)
        → best ≡ better p s b w ((parts_of p).advice s b).weights → (parts_of p).pick a b ≡ (parts_of p).pick ((parts_of p).advice s b) b
        → (closes_at p s b (better p s b w ((parts_of p).advice s b).weights)
        || is_some (number_in_pool s ((parts_of p).pick ((parts_of p).advice s b) b))) ≡ true
    ends (inl closed) weights set =
        ap (λ (c : Bool). c || is_some (number_in_pool s ((parts_of p).pick ((parts_of p).advice s b) b)))
        (sym (ap (closes_at p s b) weights) ∙ closed)
    ends (inr known) weights set =
        or_second (closes_at p s b (better p s b w ((parts_of p).advice s b).weights))
        (is_some (number_in_pool s ((parts_of p).pick ((parts_of p).advice s b) b)))
        (sym (ap (λ (x : List ℕ). is_some (number_in_pool s x)) set) ∙ known)

-- the set is separated
pub round_goes : (kind : CutKind) (p : Problem) (b : Branching) (w : List (ℕ × ℕ)) (s : State) (a : Advice) (best : List (ℕ × ℕ)) (set order : List ℕ) (next : State)
    → IsTaken p b w s a best → closes_at p s b best ≡ false → set ≡ (parts_of p).pick a b → is_some (number_in_pool s set) ≡ false
    → order ≡ by_falling a.point (others p set) → next ≡ separated (parts_for kind p) set order s
    → record { state = next; weights = best; advice = a; again = true } ≡ round p (parts_for kind p) b w s
round_goes kind p b w s a best set order next taken open_still picks unknown falls after =
    let parts = parts_for kind p in
    let advice : a ≡ parts.advice s b = taken.advice ∙ sym (advice_is p s b) in
    let weights : best ≡ better p s b w (parts.advice s b).weights = taken.weights ∙ ap (λ (x : Advice). better p s b w x.weights) advice in
    let is_set : set ≡ parts.pick (parts.advice s b) b = picks ∙ ap (λ (x : Advice). (parts_of p).pick x b) advice in
    let is_order : order ≡ parts.falling (parts.advice s b) (parts.pick (parts.advice s b) b) =
    falls ∙ sym (falling_is p a set) ∙ ap₂ (λ (x : Advice) (y : List ℕ). parts.falling x y) advice is_set in
    let states : next ≡ separated parts (parts.pick (parts.advice s b) b) (parts.falling (parts.advice s b) (parts.pick (parts.advice s b) b)) s =
    after ∙ ap₂ (λ (x y : List ℕ). separated parts x y s) is_set is_order in
    let both : record { state = next; weights = best; advice = a; again = true }
    ≡ record {
      state = separated parts (parts.pick (parts.advice s b) b) (parts.falling (parts.advice s b) (parts.pick (parts.advice s b) b)) s;
      weights = better p s b w (parts.advice s b).weights;
      advice = parts.advice s b;
      again = true;
    }
    = λ i. record { state = states i; weights = weights i; advice = advice i; again = true } in
    let test : (closes_at p s b (better p s b w (parts.advice s b).weights) || is_some (number_in_pool s (parts.pick (parts.advice s b) b))) ≡ false =
    or_neither (closes_at p s b (better p s b w (parts.advice s b).weights)) (is_some (number_in_pool s (parts.pick (parts.advice s b) b)))
    (sym (ap (closes_at p s b) weights) ∙ open_still) (sym (ap (λ (x : List ℕ). is_some (number_in_pool s x)) is_set) ∙ unknown) in
    both ∙ sym (round_new p parts b w s test)

-- a round after another, by what the task is then
pub next_by : (kind : CutKind) (t u : Task) (before after : Progress) (b : Branching) (last r : RoundEnd) → u ≡ t
    → IsRound u before after r (rounds 1 u.instance.now (parts_for kind u.instance.now) b (round_as u.instance.now before last))
    → IsRound t before after r (rounds 1 t.instance.now (parts_for kind t.instance.now) b (round_as t.instance.now before last))
next_by kind t u before after b last r same is =
    subst (λ (x : Task). IsRound x before after r (rounds 1 x.instance.now (parts_for kind x.instance.now) b (round_as x.instance.now before last))) same is
