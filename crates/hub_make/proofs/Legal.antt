-- No token of a made-up text has a fault.
use Rattle.std.proofs.Common.{◌≡◌, ℕ, ◌+◌, ◌-◌, ◌*◌, ◌/◌, ◌%◌, ◌^◌, ◌<◌, ◌≤◌, ◌&&◌, List, codes, decimal, Option, Some, None, option_map, unwrap_or, nat_le, nat_lt, pos, inl, inr, refl, sym, ap, subst, ◌∙◌, arith}
use Rattle.std.proofs.lemmas.Bool.{cases_lt, cond-true, cond-false, and_from, le-leb, le-ltb, lt-ltb}
use Rattle.text_spec.specs.Tokens.{Token}
use Rattle.text_spec.specs.Numbers.{decimal_value}
use Rattle.file_spec.specs.Options.{tail_costs}
use Rattle.file_spec.specs.Places.{Wanted, a_size, a_quantity, a_coordinate, a_flow, a_count, a_factor, a_cost, nothing, post_wanted, tail_wanted, token_fault, token_at, token_value, token_coordinate, quantity, quantity_fault, size_fault, coordinate_fault}
use Rattle.file_spec.proofs.PostLimits.{coordinate_wanted, post_flow_wanted, count_wanted, factor_wanted, post_tail_wanted}
use Rattle.file_spec.proofs.Ends.{post_end}
use Rattle.hub_make.specs.Numbers.{made_x, made_y, made_flow, made_cost}
use Rattle.hub_make.proofs.Decimals.{decimal_read, trunk_read}
use Rattle.hub_make.proofs.Tokens.{SaysMade, x_small, y_small, flow_small, cost_small}

-- ---- what a token that says a word is worth

same_word : (token : Token) (word : List ℕ) → Some token.1 ≡ Some word → token.1 ≡ word
same_word token word e = ap (λ o. unwrap_or o word) e

pub value_of : (places v : ℕ) (word : List ℕ) (token : Option Token) → option_map (λ (k : Token). k.1) token ≡ Some word
    → decimal_value places word ≡ Some (pos v) → token_value places token ≡ v
value_of places v word None e is = cc
value_of places v word (Some token) e is =
    ap (λ w. quantity (decimal_value places w)) (same_word token word e) ∙ ap quantity is

pub coordinate_of : (v : ℕ) (word : List ℕ) (token : Option Token) → option_map (λ (k : Token). k.1) token ≡ Some word
    → decimal_value 6 word ≡ Some (pos v) → token_coordinate token ≡ pos v
coordinate_of v word None e is = cc
coordinate_of v word (Some token) e is =
    ap (λ w. unwrap_or (decimal_value 6 w) (pos 0)) (same_word token word e) ∙ ap (λ o. unwrap_or o (pos 0)) is

-- ---- and that it has no fault

quantity_legal : (places limit v t : ℕ) (word : List ℕ) (token : Option Token) → option_map (λ (k : Token). k.1) token ≡ Some word
    → decimal_value places word ≡ Some (pos v) → v ≤ limit → token_fault (a_quantity places limit) t token ≡ None
quantity_legal places limit v t word None e is h = cc
quantity_legal places limit v t word (Some token) e is h =
    ap (λ w. quantity_fault token.0 limit (decimal_value places w)) (same_word token word e)
    ∙ ap (quantity_fault token.0 limit) is
    ∙ cond-false (nat_lt limit v) _ _ (le-ltb limit v h)

coordinate_legal : (v t : ℕ) (word : List ℕ) (token : Option Token) → option_map (λ (k : Token). k.1) token ≡ Some word
    → decimal_value 6 word ≡ Some (pos v) → v ≤ 10 ^ 12 → token_fault a_coordinate t token ≡ None
coordinate_legal v t word None e is h = cc
coordinate_legal v t word (Some token) e is h =
    ap (λ w. coordinate_fault token.0 (decimal_value 6 w)) (same_word token word e)
    ∙ ap (coordinate_fault token.0) is
    ∙ cond-false (nat_lt (10 ^ 12) v) _ _ (le-ltb (10 ^ 12) v h)

size_legal : (v t : ℕ) (word : List ℕ) (token : Option Token) → option_map (λ (k : Token). k.1) token ≡ Some word
    → decimal_value 0 word ≡ Some (pos v) → 1 ≤ v → v ≤ 200 → token_fault a_size t token ≡ None
size_legal v t word None e is one few = cc
size_legal v t word (Some token) e is one few =
    ap (λ w. size_fault token.0 (decimal_value 0 w)) (same_word token word e)
    ∙ ap (size_fault token.0) is
    ∙ cond-true (nat_le 1 v && nat_le v 200) _ _ (and_from (nat_le 1 v) (nat_le v 200) (le-leb 1 v one) (le-leb v 200 few))

-- ---- the numbers that the words write

pub millionths : (n : ℕ) → n ≤ 10 ^ 6 → decimal_value 6 (decimal n) ≡ Some (pos (n * 10 ^ 6))
millionths n h = decimal_read 6 n (omega arith) (omega arith)

pub size_read : (n : ℕ) → n ≤ 200 → decimal_value 0 (decimal n) ≡ Some (pos n)
size_read n h = let same : n * 10 ^ 0 ≡ n = omega arith in decimal_read 0 n (omega arith) (omega arith) ∙ ap (λ v. Some (pos v)) same

pub hubs_read : decimal_value 0 (codes "1") ≡ Some (pos 1)
unfolding decimal_value
hubs_read = refl

pub collect_read : decimal_value 3 (codes "3") ≡ Some (pos 3000)
unfolding decimal_value
collect_read = refl

pub deliver_read : decimal_value 3 (codes "2") ≡ Some (pos 2000)
unfolding decimal_value
deliver_read = refl

-- ---- each token

-- no fault of token t, in a file with n nodes
abbrev pub IsLegal : ℕ → List Token → ℕ → Type 0
IsLegal n tokens t = token_fault (post_wanted tail_costs n t) t (token_at tokens t) ≡ None

legal_as : (n : ℕ) (tokens : List Token) (w : Wanted) (t : ℕ) → post_wanted tail_costs n t ≡ w → token_fault w t (token_at tokens t) ≡ None → IsLegal n tokens t
legal_as n tokens w t e h = ap (λ w. token_fault w t (token_at tokens t)) e ∙ h

size_wanted : (n : ℕ) → post_wanted tail_costs n 1 ≡ a_size
size_wanted n = refl

cost_wanted : (n k : ℕ) → k < n → post_wanted tail_costs n (6 + 2 * n + n * n + k) ≡ a_cost
cost_wanted n k h =
    let is : tail_wanted tail_costs n k ≡ a_cost = rw (lt-ltb k n h) refl in
    post_tail_wanted tail_costs n k (6 + 2 * n + n * n + k) refl ∙ is

past_legal : (n : ℕ) (tokens : List Token) (t : ℕ) → 6 + 3 * n + n * n ≤ t → token_at tokens t ≡ None → IsLegal n tokens t
past_legal n tokens t h none = legal_as n tokens nothing t (post_end n t h) (ap (token_fault nothing t) none)

module _ (seed n : ℕ) (tokens : List Token) (one : 1 ≤ n) (few : n ≤ 200) (says : SaysMade seed n tokens) where
  point_legal : (t : ℕ) → 2 ≤ t → t ≤ 1 + 2 * n → IsLegal n tokens t
  point_legal t low high =
      let i = (t - 2) / 2 in
      let wanted = coordinate_wanted tail_costs n t low high in
      elim (cases_lt 0 ((t - 2) % 2)) [
        | inl odd ↦
            (let at : t ≡ 3 + 2 * i = omega arith in
            let v = made_y seed (i + 1) in
            legal_as n tokens a_coordinate t wanted
            (coordinate_legal (v * 10 ^ 6) t (decimal v) (token_at tokens t) (subst (λ u. option_map (λ (k : Token). k.1) (token_at tokens u) ≡ Some (decimal v)) (sym at) (says.y i (omega arith)))
            (millionths v (omega (arith, y_small seed (i + 1)))) (omega (arith, y_small seed (i + 1)))))
        | inr even ↦
            (let at : t ≡ 2 + 2 * i = omega arith in
            let v = made_x seed (i + 1) in
            legal_as n tokens a_coordinate t wanted
            (coordinate_legal (v * 10 ^ 6) t (decimal v) (token_at tokens t) (subst (λ u. option_map (λ (k : Token). k.1) (token_at tokens u) ≡ Some (decimal v)) (sym at) (says.x i (omega arith)))
            (millionths v (omega (arith, x_small seed (i + 1)))) (omega (arith, x_small seed (i + 1)))))
      ]

  flow_legal : (s : ℕ) → s < n * n → IsLegal n tokens (2 + 2 * n + s)
  flow_legal s h =
      let v = made_flow seed (s / n + 1) (s % n + 1) in
      let small = flow_small seed (s / n + 1) (s % n + 1) in
      legal_as n tokens a_flow (2 + 2 * n + s) (post_flow_wanted tail_costs n s h)
      (quantity_legal 6 (10 ^ 13) (v * 10 ^ 6) (2 + 2 * n + s) (decimal v) (token_at tokens (2 + 2 * n + s)) (says.flow s h)
      (millionths v (omega (arith, small))) (omega (arith, small)))

  cost_legal : (k : ℕ) → k < n → IsLegal n tokens (6 + 2 * n + n * n + k)
  cost_legal k h =
      let t = 6 + 2 * n + n * n + k in
      let v = made_cost seed n (k + 1) in
      let small = cost_small seed n (k + 1) few in
      legal_as n tokens a_cost t (cost_wanted n k h)
      (quantity_legal 6 (10 ^ 18) (v * 10 ^ 6) t (decimal v) (token_at tokens t) (says.cost k h) (millionths v (omega (arith, small))) (omega (arith, small)))

  hubs_legal : IsLegal n tokens (2 + 2 * n + n * n)
  hubs_legal =
      let t = 2 + 2 * n + n * n in
      legal_as n tokens a_count t (count_wanted tail_costs n) (quantity_legal 0 1000 1 t (codes "1") (token_at tokens t) says.hubs hubs_read (omega arith))

  factor_legal : (t v : ℕ) (word : List ℕ) → 3 + 2 * n + n * n ≤ t → t ≤ 5 + 2 * n + n * n → option_map (λ (k : Token). k.1) (token_at tokens t) ≡ Some word
      → decimal_value 3 word ≡ Some (pos v) → v ≤ 10 ^ 6 → IsLegal n tokens t
  factor_legal t v word low high e is h =
      legal_as n tokens a_factor t (factor_wanted tail_costs n t low high) (quantity_legal 3 (10 ^ 6) v t word (token_at tokens t) e is h)

  -- of the tokens behind the flows
  late_legal : (t : ℕ) → 2 + 2 * n + n * n ≤ t → IsLegal n tokens t
  late_legal t low = elim (cases_lt t (6 + 2 * n + n * n)) [
    | inl front ↦ elim (cases_lt t (4 + 2 * n + n * n)) [
      | inl first ↦ elim (cases_lt t (3 + 2 * n + n * n)) [
        | inl hubs ↦ (let at : t ≡ 2 + 2 * n + n * n = omega arith in subst (IsLegal n tokens) (sym at) hubs_legal)
        | inr collect ↦
            (let at : t ≡ 3 + 2 * n + n * n = omega arith in
            subst (IsLegal n tokens) (sym at) (factor_legal (3 + 2 * n + n * n) 3000 (codes "3") (omega arith) (omega arith) says.collect collect_read (omega arith)))
      ]
      | inr second ↦ elim (cases_lt t (5 + 2 * n + n * n)) [
        | inl trunk ↦
            (let at : t ≡ 4 + 2 * n + n * n = omega arith in
            subst (IsLegal n tokens) (sym at) (factor_legal (4 + 2 * n + n * n) 750 (codes "0.75") (omega arith) (omega arith) says.trunk trunk_read (omega arith)))
        | inr deliver ↦
            (let at : t ≡ 5 + 2 * n + n * n = omega arith in
            subst (IsLegal n tokens) (sym at) (factor_legal (5 + 2 * n + n * n) 2000 (codes "2") (omega arith) (omega arith) says.deliver deliver_read (omega arith)))
      ]
    ]
    | inr behind ↦ elim (cases_lt t (6 + 3 * n + n * n)) [
      | inl within ↦
          (let k = t - (6 + 2 * n + n * n) in
          let at : t ≡ 6 + 2 * n + n * n + k = omega arith in
          subst (IsLegal n tokens) (sym at) (cost_legal k (omega arith)))
      | inr past ↦ past_legal n tokens t past (says.past t past)
    ]
  ]

  pub each_legal : (t : ℕ) → 1 ≤ t → IsLegal n tokens t
  each_legal t low = elim (cases_lt t 2) [
    | inl first ↦
        (let at : t ≡ 1 = omega arith in
        subst (IsLegal n tokens) (sym at)
        (legal_as n tokens a_size 1 (size_wanted n) (size_legal n 1 (decimal n) (token_at tokens 1) says.size (size_read n few) one few)))
    | inr later ↦ elim (cases_lt t (2 + 2 * n)) [
      | inl point ↦ point_legal t later (omega arith)
      | inr behind ↦ elim (cases_lt t (2 + 2 * n + n * n)) [
        | inl flow ↦
            (let s = t - (2 + 2 * n) in
            let at : t ≡ 2 + 2 * n + s = omega arith in
            subst (IsLegal n tokens) (sym at) (flow_legal s (omega arith)))
        | inr late ↦ late_legal t late
      ]
    ]
  ]
