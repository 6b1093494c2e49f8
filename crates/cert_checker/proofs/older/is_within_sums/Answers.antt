use Rattle.std.proofs.Common.{◌≡◌, ℕ, ◌*◌, ◌≤◌, List, ap, ◌∙◌, arith}
use Rattle.std.specs.Prelude.{slice_index}
use Rattle.std.proofs.lemmas.List.Elements.{All-weaker}
use Rattle.hub_spec.specs.Limits.{most_cost}
use Rattle.hub_spec.specs.Cuts.{total, load}
use Rattle.hub_spec.proofs.AllLoops.{last_decides}
use Rattle.cert_checker.proofs.older.is_within_sums.Goals as goal

pub returns : goal.returns
returns c =
    let cut = c.args.cut.now in
    let cs = c.args.instance.now.candidates in
    let loads = c.deref.result.now in
    let limit = c.part.result * most_cost in
    let is : limit ≡ cut.part * most_cost = ap (λ (part : ℕ). part * most_cost) c.part.ensures in
    let at : (k : ℕ) → slice_index loads k ≡ load cut k = λ k. ap (λ (xs : List ℕ). slice_index xs k) c.deref.ensures.value ∙ c.in_ok-loads.ensures.are k in
    let to : (k : ℕ) → slice_index loads k ≤ limit → load cut k ≤ cut.part * most_cost = λ k h. omega (arith, h, is, at k) in
    let from : (k : ℕ) → load cut k ≤ cut.part * most_cost → slice_index loads k ≤ limit = λ k h. omega (arith, h, is, at k) in
    last_decides c.are_loads_within.result c.are_loads_within.ensures
    (λ h. record {
      total_limit = omega (arith, is, c.total.ensures);
      load_limit = All-weaker (λ (k : ℕ). slice_index loads k ≤ limit) (λ (k : ℕ). load cut k ≤ cut.part * most_cost) to cs h;
    })
    (λ h. All-weaker (λ (k : ℕ). load cut k ≤ cut.part * most_cost) (λ (k : ℕ). slice_index loads k ≤ limit) from cs h.load_limit)
