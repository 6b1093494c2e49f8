use Rattle.std.proofs.Common.{◌≡◌, ℕ, ◌+◌, nat_eq, List, length, Option, Some, ap, sym, ◌∙◌, eq-eqb, ne_eqb, rules, arith}
use Rattle.search_spec.specs.Choices.{only_set}
use Rattle.p_hub.proofs.NumberChoices.{decided_only, free_left, full_only, open_only, some_missing}
use Rattle.p_hub.proofs.choices.only_set.Goals as goal

pub returns-then-is_empty-clause-only : goal.returns-then-is_empty-clause-only
returns-then-is_empty-clause-only c =
    let b = c.args.branch.now in
    let taken : c.in_ok-to_vec-in-None.field-0.items ≡ c.inside-inside.result.now = search rules in
    ap (λ (ks : List ℕ). Some ks) (taken ∙ c.inside-inside.ensures.value)
    ∙ sym (ap (λ (o : Option ℕ). only_set o b) (sym c.wanted.ensures.value ∙ c.in-None.is)
    ∙ decided_only b (ap (λ (ks : List ℕ). nat_eq (length ks) 0) (sym c.free-free.ensures.value) ∙ sym c.is_empty.ensures ∙ c.if-is_empty.true))

pub returns-else-is_empty-clause-only : goal.returns-else-is_empty-clause-only
returns-else-is_empty-clause-only c =
    let b = c.args.branch.now in
    sym (ap (λ (o : Option ℕ). only_set o b) (sym c.wanted.ensures.value ∙ c.in-None.is)
    ∙ free_left b (ap (λ (ks : List ℕ). nat_eq (length ks) 0) (sym c.free-free.ensures.value) ∙ sym c.is_empty.ensures ∙ c.if-is_empty.false))

pub returns-then-inside-hubs-clause-only : goal.returns-then-inside-hubs-clause-only
returns-then-inside-hubs-clause-only c =
    let n = c.in-Some.hubs in
    let b = c.args.branch.now in
    let taken : c.in_ok-to_vec-in-Some.field-0.items ≡ c.inside-inside.result.now = search rules in
    let inside = ap (λ (ks : List ℕ). length ks) c.inside-inside.ensures.value in
    ap (λ (ks : List ℕ). Some ks) (taken ∙ c.inside-inside.ensures.value)
    ∙ sym (ap (λ (o : Option ℕ). only_set o b) (sym c.wanted.ensures.value ∙ c.in-Some.is)
    ∙ full_only n b (eq-eqb (length b.inside) n (omega (arith, inside, c.if-inside-hubs.true))))

pub returns-then-inside-free-clause-only : goal.returns-then-inside-free-clause-only
returns-then-inside-free-clause-only c =
    let n = c.in-Some.hubs in
    let b = c.args.branch.now in
    let inside = ap (λ (ks : List ℕ). length ks) c.inside-inside.ensures.value in
    let free = ap (λ (ks : List ℕ). length ks) c.free-free.ensures.value in
    ap (λ (ks : List ℕ). Some ks) c.in_ok-all_open-in-Some.ensures
    ∙ sym (ap (λ (o : Option ℕ). only_set o b) (sym c.wanted.ensures.value ∙ c.in-Some.is)
    ∙ open_only n b (ne_eqb (length b.inside) n (λ e. c.if-inside-hubs.false (omega (arith, e, inside))))
    (eq-eqb (length b.inside + length b.free) n (omega (arith, inside, free, c.if-inside-free.true))))

pub returns-else-inside-free-clause-only : goal.returns-else-inside-free-clause-only
returns-else-inside-free-clause-only c =
    let n = c.in-Some.hubs in
    let b = c.args.branch.now in
    let inside = ap (λ (ks : List ℕ). length ks) c.inside-inside.ensures.value in
    let free = ap (λ (ks : List ℕ). length ks) c.free-free.ensures.value in
    sym (ap (λ (o : Option ℕ). only_set o b) (sym c.wanted.ensures.value ∙ c.in-Some.is)
    ∙ some_missing n b (ne_eqb (length b.inside) n (λ e. c.if-inside-hubs.false (omega (arith, e, inside))))
    (ne_eqb (length b.inside + length b.free) n (λ e. c.if-inside-free.false (omega (arith, e, inside, free)))))
