-- A made-up text is read as the instance of its numbers.
use Rattle.std.proofs.Common.{◌≡◌, ℕ, zero, suc, ◌+◌, ◌*◌, ◌/◌, ◌%◌, ◌^◌, ◌<◌, ◌≤◌, List, [], ◌∷◌, map, length, max, fold, sum, find, All, inl, decimal, codes, Some, None, nat_le, nat_lt, refl, sym, ap, ◌∙◌, mul-le-mul, arith}
use Rattle.std.specs.List.{range_with_len}
use Rattle.std.proofs.lemmas.Bool.{cond-false, lt-leb, le-ltb}
use Rattle.std.proofs.lemmas.List.Elements.{All-head, All-tail, All-weaker, All-get_or}
use Rattle.std.proofs.lemmas.List.Sums.{sum_by-le}
use Rattle.std.proofs.lemmas.List.FromFn.{length-map-range_with_len, length-range_with_len}
use Rattle.std.proofs.lemmas.Nat.{div_below, mod_below}
use Rattle.text_spec.specs.Tokens.{Token, tokens_of}
use Rattle.hub_spec.specs.Limits.{most_cost}
use Rattle.hub_spec.specs.Problem.{Problem, fixed_cost, opening_cost, greatest, cost_ceiling, IsWithinLimits}
use Rattle.file_spec.specs.Options.{australia_post, tail_costs, IsOptions}
use Rattle.file_spec.specs.Contents.{Contents}
use Rattle.file_spec.specs.Places.{post_wanted, token_fault, token_at, value_at, coordinate_at}
use Rattle.file_spec.specs.Distances.{planar_distance, gap}
use Rattle.file_spec.specs.Files.{HasContents, file_size, fault_at, post_distance, tail_of, file_contents}
use Rattle.file_spec.specs.Instances.{made, build_fault, candidate_fault, sum_fault, chosen, GivesInstance}
use Rattle.file_spec.proofs.TokenLimits.{formula_within}
use Rattle.file_spec.proofs.ContentLimits.{contents_within}
use Rattle.file_spec.proofs.MadeLimits.{made_limits}
use Rattle.hub_make.specs.Numbers.{made_x, made_y, made_flow, made_cost}
use Rattle.hub_make.specs.Texts.{made_text}
use Rattle.hub_make.specs.Contents.{tail_alone, in_millionths, made_distance, made_contents, made_problem}
use Rattle.hub_make.specs.Theorems.{MadeIsRead}
use Rattle.file_spec.proofs.OneInstance.{instance_or_fault}
use Rattle.hub_make.proofs.Decimals.{trunk_read}
use Rattle.hub_make.proofs.Tokens.{SaysMade, says_made, text_length, x_small, y_small, flow_small, cost_small}
use Rattle.hub_make.proofs.Legal.{value_of, coordinate_of, millionths, size_read, hubs_read, collect_read, deliver_read, each_legal}

-- formulas that agree on the numbers of a stretch
same_formulas : (f g : ℕ → ℕ) (a m : ℕ) → ((k : ℕ) → a ≤ k → k < a + m → f k ≡ g k) → map f (range_with_len a m) ≡ map g (range_with_len a m)
same_formulas f g a zero same = refl
same_formulas f g a (suc m) same =
    λ i. same a (omega arith) (omega arith) i ∷ same_formulas f g (a + 1) m (λ k low high. same k (omega arith) (omega arith)) i

module _ (seed n : ℕ) (tokens : List Token) (one : 1 ≤ n) (few : n ≤ 200) (says : SaysMade seed n tokens) where
  size_said : file_size tokens ≡ n
  size_said = value_of 0 n (decimal n) (token_at tokens 1) says.size (size_read n few)

  flow_said : (s : ℕ) → s < n * n → value_at tokens 6 (2 + 2 * n + s) ≡ made_flow seed (s / n + 1) (s % n + 1) * 10 ^ 6
  flow_said s h =
      let v = made_flow seed (s / n + 1) (s % n + 1) in
      value_of 6 (v * 10 ^ 6) (decimal v) (token_at tokens (2 + 2 * n + s)) (says.flow s h) (millionths v (omega (arith, flow_small seed (s / n + 1) (s % n + 1))))

  cost_said : (k : ℕ) → k < n → value_at tokens 6 (6 + 2 * n + n * n + k) ≡ made_cost seed n (k + 1) * 10 ^ 6
  cost_said k h =
      let v = made_cost seed n (k + 1) in
      value_of 6 (v * 10 ^ 6) (decimal v) (token_at tokens (6 + 2 * n + n * n + k)) (says.cost k h) (millionths v (omega (arith, cost_small seed n (k + 1) few)))

  x_said : (i : ℕ) → i < n → coordinate_at tokens (2 + 2 * i) ≡ in_millionths (made_x seed (i + 1))
  x_said i h =
      let v = made_x seed (i + 1) in
      coordinate_of (v * 10 ^ 6) (decimal v) (token_at tokens (2 + 2 * i)) (says.x i h) (millionths v (omega (arith, x_small seed (i + 1))))

  y_said : (i : ℕ) → i < n → coordinate_at tokens (3 + 2 * i) ≡ in_millionths (made_y seed (i + 1))
  y_said i h =
      let v = made_y seed (i + 1) in
      coordinate_of (v * 10 ^ 6) (decimal v) (token_at tokens (3 + 2 * i)) (says.y i h) (millionths v (omega (arith, y_small seed (i + 1))))

  distance_said : (s : ℕ) → s < n * n → post_distance 1 n tokens s ≡ made_distance seed (s / n + 1) (s % n + 1)
  distance_said s h =
      let row : s / n < n = div_below s n n one h in
      let column : s % n < n = mod_below s n one in
      λ i. planar_distance 1 (gap (x_said (s / n) row i) (x_said (s % n) column i)) (gap (y_said (s / n) row i) (y_said (s % n) column i))

  -- what the file gives, where it has n nodes
  abbrev given : ℕ → Contents
  given m = record {
    size = m;
    flows = map (λ s. value_at tokens 6 (2 + 2 * m + s)) (range_with_len 0 (m * m));
    distances = map (λ s. post_distance 1 m tokens s) (range_with_len 0 (m * m));
    collect = value_at tokens 3 (3 + 2 * m + m * m);
    trunk = value_at tokens 3 (4 + 2 * m + m * m);
    deliver = value_at tokens 3 (5 + 2 * m + m * m);
    listed_p = Some (value_at tokens 0 (2 + 2 * m + m * m));
    costs = tail_of tail_costs m tokens (6 + 2 * m + m * m);
  }

  given_is : file_contents australia_post tail_alone tokens ≡ given n
  unfolding file_contents
  given_is = ap given size_said

  said : given n ≡ made_contents seed n
  unfolding made_contents
  said =
      let flows = same_formulas (λ s. value_at tokens 6 (2 + 2 * n + s)) (λ s. made_flow seed (s / n + 1) (s % n + 1) * 10 ^ 6) 0 (n * n) (λ s low high. flow_said s (omega arith)) in
      let distances = same_formulas (λ s. post_distance 1 n tokens s) (λ s. made_distance seed (s / n + 1) (s % n + 1)) 0 (n * n) (λ s low high. distance_said s (omega arith)) in
      let costs = same_formulas (λ k. value_at tokens 6 (6 + 2 * n + n * n + k)) (λ k. made_cost seed n (k + 1) * 10 ^ 6) 0 n (λ k low high. cost_said k (omega arith)) in
      let collect = value_of 3 3000 (codes "3") (token_at tokens (3 + 2 * n + n * n)) says.collect collect_read in
      let trunk = value_of 3 750 (codes "0.75") (token_at tokens (4 + 2 * n + n * n)) says.trunk trunk_read in
      let deliver = value_of 3 2000 (codes "2") (token_at tokens (5 + 2 * n + n * n)) says.deliver deliver_read in
      let hubs = value_of 0 1 (codes "1") (token_at tokens (2 + 2 * n + n * n)) says.hubs hubs_read in
      λ i. record {
        size = n;
        flows = flows i;
        distances = distances i;
        collect = collect i;
        trunk = trunk i;
        deliver = deliver i;
        listed_p = Some (hubs i);
        costs = Some (costs i);
      }

  pub contents_said : made_contents seed n ≡ file_contents australia_post tail_alone tokens
  contents_said = sym (given_is ∙ said)

  pub none_illegal : (t : ℕ) → 1 ≤ t → fault_at australia_post tail_alone tokens t ≡ None
  none_illegal t h =
      ap (λ m. token_fault (post_wanted tail_costs m t) t (token_at tokens t)) size_said ∙ each_legal seed n tokens one few says t h

-- ---- the whole

pub has_made : (seed n : ℕ) → 1 ≤ n → n ≤ 200 → HasContents australia_post tail_alone (made_text seed n) (made_contents seed n)
has_made seed n one few =
    let tokens = tokens_of (made_text seed n) in
    let says = says_made seed n one few in
    record { legal = none_illegal seed n tokens one few says; is = contents_said seed n tokens one few says }

options_right : IsOptions tail_alone
options_right = record {
  divide_least = omega arith;
  divide_most = omega arith;
  collect_limit = tt;
  trunk_limit = tt;
  deliver_limit = tt;
  fixed_limit = tt;
  candidates_limit = tt;
  longest_limit = tt;
  hubs_limit = tt;
  not_both = inl refl;
}

no_stray_in : (n a m : ℕ) → a + m ≤ n → find (λ k. nat_le n k) (range_with_len a m) ≡ None
no_stray_in n a zero h = refl
no_stray_in n a (suc m) h = cond-false (nat_le n a) _ _ (lt-leb n a (omega arith)) ∙ no_stray_in n (a + 1) m (omega arith)

none_strays : (seed n : ℕ) → find (λ k. nat_le (made_contents seed n).size k) (chosen (made_contents seed n).size None) ≡ None
unfolding made_contents
none_strays seed n = no_stray_in n 0 n (omega arith)

greatest_within : (most a : ℕ) (ds : List ℕ) → a ≤ most → All (λ d. d ≤ most) ds → fold max a ds ≤ most
greatest_within most a [] h each = h
greatest_within most a (d ∷ ds) h each =
    let first = All-head (λ d. d ≤ most) d ds each in
    greatest_within most (max a d) ds (omega (arith, first, h)) (All-tail (λ d. d ≤ most) d ds each)

-- what every plan stays within, by the most of each part
ceiling_within : (flows factors far opening : ℕ) → flows ≤ 36 * 10 ^ 10 → factors ≤ 5750 → far ≤ 10 ^ 10 → opening ≤ 200 * 10 ^ 24
    → flows * factors * far + opening ≤ 10 ^ 29
ceiling_within flows factors far opening a b c d =
    let weighed : flows * factors ≤ 36 * 10 ^ 10 * 5750 = mul-le-mul a b in
    let routed : flows * factors * far ≤ 36 * 10 ^ 10 * 5750 * 10 ^ 10 = mul-le-mul weighed c in
    omega (arith, routed)

flows_within : (seed n : ℕ) → n ≤ 200 → sum (made_problem seed n).flows ≤ 36 * 10 ^ 10
unfolding made made_contents
flows_within seed n few =
    let f : ℕ → ℕ = λ t. made_flow seed (t / n + 1) (t % n + 1) * 10 ^ 6 in
    let each = formula_within f (n * n) (9 * 10 ^ 6) (λ s h. omega (arith, flow_small seed (s / n + 1) (s % n + 1))) in
    let whole = sum_by-le (λ (w : ℕ). w) (9 * 10 ^ 6) (map f (range_with_len 0 (n * n))) each in
    let square : n * n ≤ 200 * 200 = mul-le-mul few few in
    omega (arith, whole, square, length-map-range_with_len f 0 (n * n))

opening_within : (p : Problem) → IsWithinLimits p → length p.candidates ≤ 200 → opening_cost p p.candidates ≤ 200 * 10 ^ 24
unfolding fixed_cost
opening_within p ok few =
    let each : All (λ k. fixed_cost p k ≤ 10 ^ 24) p.candidates =
    All-weaker (λ k. k < p.size) (λ k. fixed_cost p k ≤ 10 ^ 24)
    (λ k h. All-get_or (λ f. f ≤ 10 ^ 24) p.fixed_costs k 0 (omega (arith, h, ok.cost_for_each_node)) ok.cost_limit) p.candidates ok.candidates_are_nodes in
    let whole = sum_by-le (fixed_cost p) (10 ^ 24) p.candidates each in
    omega (arith, whole)

candidates_few : (seed n : ℕ) → n ≤ 200 → length (made_problem seed n).candidates ≤ 200
unfolding made made_contents
candidates_few seed n few = omega (arith, length-range_with_len 0 n)

factors_are : (seed n : ℕ) → (made_problem seed n).collect + (made_problem seed n).trunk + (made_problem seed n).deliver ≡ 5750
unfolding made made_contents
factors_are seed n = refl

within_limits : (seed n : ℕ) → 1 ≤ n → n ≤ 200 → IsWithinLimits (made_problem seed n)
within_limits seed n one few =
    made_limits tail_alone (made_contents seed n) None options_right
    (contents_within australia_post tail_alone (made_text seed n) (made_contents seed n) options_right (has_made seed n one few))
    tt (none_strays seed n) tt

sum_within : (seed n : ℕ) → 1 ≤ n → n ≤ 200 → cost_ceiling (made_problem seed n) ≤ 10 ^ 29
unfolding greatest
sum_within seed n one few =
    let p = made_problem seed n in
    let ok = within_limits seed n one few in
    ceiling_within (sum p.flows) (p.collect + p.trunk + p.deliver) (greatest p.distances) (opening_cost p p.candidates)
    (flows_within seed n few) (omega (arith, factors_are seed n)) (greatest_within (10 ^ 10) 0 p.distances (omega arith) ok.distance_limit)
    (opening_within p ok (candidates_few seed n few))

none_wrong : (seed n : ℕ) → 1 ≤ n → n ≤ 200 → build_fault tail_alone (made_contents seed n) None ≡ None
unfolding build_fault
none_wrong seed n one few =
    let sum = cost_ceiling (made_problem seed n) in
    ap (λ k. candidate_fault k (sum_fault sum None)) (none_strays seed n)
    ∙ cond-false (nat_lt most_cost sum) _ _ (le-ltb most_cost sum (sum_within seed n one few))

gives_made : (seed n : ℕ) → 1 ≤ n → n ≤ 200 → GivesInstance australia_post tail_alone (made_text seed n) None (made_problem seed n)
gives_made seed n one few = record {
  not_too_long = text_length seed n one few;
  contents = made_contents seed n;
  has = has_made seed n one few;
  legal = none_wrong seed n one few;
  is = refl;
}

pub all_read : MadeIsRead
all_read seed n one few =
    let gives = gives_made seed n one few in
    record {
      contents = has_made seed n one few;
      gives = gives;
      problem = record { limits = within_limits seed n one few; sum_rule = sum_within seed n one few };
      no_fault = λ fault wrong. (instance_or_fault australia_post tail_alone (made_text seed n) None).not_both (made_problem seed n) fault gives wrong;
    }
