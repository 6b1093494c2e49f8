use Rattle.std.proofs.Common.{◌≡◌, ℕ, ◌+◌, ◌<◌, ◌≤◌, Bool, true, false, ◌||◌, nat_lt, List, length, Option, ap, ap₂, sym, ◌∙◌, lt-ltb, le-ltb, arith}
use Rattle.std.specs.Prelude.{option_map}
use Rattle.hub_spec.specs.Trees.{preorder}
use Rattle.search_spec.specs.Choices.{barren_end}
use Rattle.p_hub.proofs.NumberChoices.{empty_ends, open_goes_on, count_ends, count_goes_on}
use Rattle.p_hub.proofs.choices.end_by_number.Goals as goal
use Rattle.p_hub.proofs.choices.end_by_number.Goals.{then-inside-hubs-via-then-inside-hubs, then-inside-hubs-via-else-inside-hubs+then-open-hubs}

too_many : (n x y : ℕ) → n < x → (nat_lt n x || nat_lt y n) ≡ true
too_many n x y more = ap (λ (t : Bool). t || nat_lt y n) (lt-ltb n x more)

too_few : (n x y : ℕ) → x ≤ n → y < n → (nat_lt n x || nat_lt y n) ≡ true
too_few n x y low fewer = ap₂ (λ (s t : Bool). s || t) (le-ltb n x low) (lt-ltb y n fewer)

neither : (n x y : ℕ) → x ≤ n → n ≤ y → (nat_lt n x || nat_lt y n) ≡ false
neither n x y low enough = ap₂ (λ (s t : Bool). s || t) (le-ltb n x low) (le-ltb y n enough)

pub returns-then-open-eq0 : goal.returns-then-open-eq0
returns-then-open-eq0 c =
    let b = c.args.branch.now in
    let inside = ap (λ (ks : List ℕ). length ks) c.inside-inside.ensures.value in
    let free = ap (λ (ks : List ℕ). length ks) c.free.ensures.value in
    sym (ap (option_map preorder) (ap (λ (o : Option ℕ). barren_end o b) c.in-None.is
    ∙ empty_ends b (omega (arith, inside, free, c.if-open-eq0.true))))

pub returns-else-open-eq0 : goal.returns-else-open-eq0
returns-else-open-eq0 c =
    let b = c.args.branch.now in
    let inside = ap (λ (ks : List ℕ). length ks) c.inside-inside.ensures.value in
    let free = ap (λ (ks : List ℕ). length ks) c.free.ensures.value in
    sym (ap (option_map preorder) (ap (λ (o : Option ℕ). barren_end o b) c.in-None.is
    ∙ open_goes_on b (λ z. c.if-open-eq0.false (omega (arith, inside, free, z)))))

pub returns-then-inside-hubs : goal.returns-then-inside-hubs
returns-then-inside-hubs c =
    let n = c.in-Some.hubs in
    let b = c.args.branch.now in
    let inside = ap (λ (ks : List ℕ). length ks) c.inside-inside.ensures.value in
    let free = ap (λ (ks : List ℕ). length ks) c.free.ensures.value in
    let test : (nat_lt n (length b.inside) || nat_lt (length b.inside + length b.free) n) ≡ true = elim c.then-inside-hubs.branch [
      | then-inside-hubs-via-then-inside-hubs w ↦
          too_many n (length b.inside) (length b.inside + length b.free) (omega (arith, inside, w.if-inside-hubs.true))
      | then-inside-hubs-via-else-inside-hubs+then-open-hubs w ↦
          too_few n (length b.inside) (length b.inside + length b.free) (omega (arith, inside, w.if-inside-hubs.false))
          (omega (arith, inside, free, w.if-open-hubs.true))
    ] in
    sym (ap (option_map preorder) (ap (λ (o : Option ℕ). barren_end o b) c.in-Some.is ∙ count_ends n b test))

pub returns-else-open-hubs : goal.returns-else-open-hubs
returns-else-open-hubs c =
    let n = c.in-Some.hubs in
    let b = c.args.branch.now in
    let inside = ap (λ (ks : List ℕ). length ks) c.inside-inside.ensures.value in
    let free = ap (λ (ks : List ℕ). length ks) c.free.ensures.value in
    sym (ap (option_map preorder) (ap (λ (o : Option ℕ). barren_end o b) c.in-Some.is
    ∙ count_goes_on n b (neither n (length b.inside) (length b.inside + length b.free) (omega (arith, inside, c.if-inside-hubs.false))
    (omega (arith, inside, free, c.if-open-hubs.false)))))
