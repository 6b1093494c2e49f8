-- The text of `optimize` states what its search found.
use Rattle.std.proofs.Common.{◌≡◌, ℕ, ◌+◌, ◌^◌, ◌<◌, ◌≤◌, List, length, Option, None, Some, Ok, Err, ◌⊎◌, inl, inr, ⊎_elim, refl, sym, subst, ap, ◌∙◌, arith, nat_eq}
use Rattle.std.proofs.lemmas.List.{length-map}
use Rattle.std.proofs.lemmas.Bool.{cases_lt, cond_both, eqb-true, eqb-false}
use Rattle.std.specs.Prelude.{Result, IfOk}
use Rattle.std.specs.List.{AllZip}
use Rattle.hub_spec.specs.Problem.{Problem, IsProblem, commodities}
use Rattle.hub_spec.specs.Plans.{NoPlanBelow, IsLeastRoute}
use Rattle.hub_spec.specs.Trees.{Tree, line_count, preorder}
use Rattle.hub_spec.proofs.Preorders.{length-preorder}
use Rattle.hub_spec.proofs.WeakDuality.{no_plan_below_bound}
use Rattle.hub_model.specs.Lines.{tree_line_of}
use Rattle.search_spec.specs.Costs.{IsAtMostOf, first_hubs}
use Rattle.search_spec.specs.Findings.{AreWithin, IsSpent, IsEnough}
use Rattle.cert_spec.specs.Text.{SpellsUnmarked}
use Rattle.cut_pool.specs.declared.found.Found.{Found}
use Rattle.cut_pool.specs.Findings.{AreRemade, IsProved, IsVersionFor, proof_of, lines_of}
use Rattle.proof_text.specs.Texts.{found_text}
use Rattle.ascent_search.specs.Gaps.{IsWithinGap}
use Rattle.ascent_search.specs.Progressing.{IsBestBound}
use Rattle.hub_words.specs.Requests.{Search}
use Rattle.hub_commands.specs.declared.status.Status.{Status}
use Rattle.hub_commands.specs.declared.status.Status.TheVariants.{Done, Stopped}
use Rattle.hub_commands.specs.Methods.{Method, free_method}
use Rattle.hub_commands.specs.Searches.{IsEnoughFor, Finds, Optimizes, Bounds}
use Rattle.hub_commands.specs.Statuses.{finding_status}
use Rattle.hub_commands.specs.Solving.{IsClosed}
use Rattle.hub_commands.proofs.Spelled.{spells_unmarked}

-- what the search found is such a network, if it found one
pub closed_by : {E : Type 0} (p : Problem) (nodes : Option ℕ) (gap : ℕ) (r : Result Found E) → IsProblem p → IfOk r (IsProved p)
    → IfOk r AreRemade → IfOk r (λ found. AllZip (IsLeastRoute p found.plan.hubs) (commodities p.size) found.plan.routes)
    → IfOk r (λ found. IsAtMostOf p (first_hubs p) found.cost) → IfOk r (IsBestBound p)
    → IfOk r (λ found. found.bound ≤ found.cost) → IfOk r (λ found. length found.tree.items + 1 ≤ 2 ^ (length p.candidates + 1))
    → IfOk r (λ found. AreWithin nodes (length found.tree.items))
    → IfOk r (λ found. found.bound < found.cost → IsSpent nodes (length found.tree.items) ⊎ IsWithinGap gap found.bound found.cost)
    → (IsEnough (2 ^ (length p.candidates + 1)) nodes → IfOk r (λ found. IsWithinGap gap found.bound found.cost))
    → IfOk r (IsClosed p nodes gap)
closed_by p nodes gap (Err e) problem proved own routes at_most best within most allowed spent enough = tt
closed_by p nodes gap (Ok found) problem proved own routes at_most best within most allowed spent enough = record {
  problem = problem;
  proved = proved;
  own = own;
  routes = routes;
  at_most = at_most;
  best = best;
  within = within;
  most = most;
  allowed = allowed;
  spent = spent;
  enough = enough;
}

-- a line of what was found for each of its tree
lines_long : (found : Found) (tree : Tree) → lines_of found.tree.items ≡ preorder tree → length found.tree.items ≡ line_count tree
lines_long found tree lines =
    sym (length-map found.tree.items tree_line_of) ∙ ap length lines ∙ length-preorder tree

optimum_finds : (m : Method) (gap : ℕ) (p : Problem) (found : Found) (h : IsClosed p m.nodes gap found) → IsVersionFor p found.cuts.cuts m.version
    → Finds p m (SpellsUnmarked (found_text m.version p found)) (proof_of m.version p found h.proved.tree)
optimum_finds m gap p found h version =
    let proved = h.proved in
    let k = proof_of m.version p found proved.tree in
    let holds = proved.holds m.version in
    record {
      told = spells_unmarked m.version p found proved.tree proved proved.lines version;
      version = refl;
      holds = holds;
      paid = sym holds.cost;
      routes = h.routes;
      below = no_plan_below_bound p k h.problem holds;
      allowed = subst (AreWithin m.nodes) (lines_long found proved.tree proved.lines) h.allowed;
      most = subst (λ (made : ℕ). made + 1 ≤ 2 ^ (length p.candidates + 1)) (lines_long found proved.tree proved.lines) h.most;
    }

closes : (m : Method) (gap : ℕ) (p : Problem) (found : Found) → IsClosed p m.nodes gap found → IsVersionFor p found.cuts.cuts m.version
    → found.bound ≡ found.cost → Optimizes p m (found_text m.version p found)
closes m gap p found h version closed =
    let finds = optimum_finds m gap p found h version in
    let holds = h.proved.holds m.version in
    record {
      certificate = proof_of m.version p found h.proved.tree;
      finds = finds;
      no_gap = closed;
      optimal = record { is_plan = holds.plan; wanted = holds.wanted; least = subst (NoPlanBelow p) (closed ∙ holds.cost) finds.below };
    }

-- where two nodes more are not allowed, either fewer are than a whole tree has, or the bound is within the gap
why_left : (p : Problem) (nodes : Option ℕ) (Spent Near : Type 0) → Spent → (IsEnoughFor p nodes → Near) → (Spent × (IsEnoughFor p nodes → ⊥)) ⊎ Near
why_left p None Spent Near spent near = inr (near tt)
why_left p (Some n) Spent Near spent near =
    ⊎_elim (λ fewer. inl (spent, λ enough. absurd (omega (arith, fewer, enough)))) (λ enough. inr (near enough))
    (cases_lt (n + 1) (2 ^ (length p.candidates + 1)))

-- .. at the cost that was found
abbrev pub BoundsAt : ℕ → Problem → Method → ℕ → List ℕ → Type 0
BoundsAt cost p m gap text = (bounds : Bounds p m gap text) × (bounds.certificate.cost ≡ cost)

leaves : (m : Method) (gap : ℕ) (p : Problem) (found : Found) → IsClosed p m.nodes gap found → IsVersionFor p found.cuts.cuts m.version
    → found.bound < found.cost → BoundsAt found.cost p m gap (found_text m.version p found)
leaves m gap p found h version below = (
  record {
    certificate = proof_of m.version p found h.proved.tree;
    finds = optimum_finds m gap p found h version;
    gap = below;
    reason = ⊎_elim
        (λ spent. why_left p m.nodes (IsSpent m.nodes (line_count h.proved.tree)) (IsWithinGap gap found.bound found.cost)
        (subst (IsSpent m.nodes) (lines_long found h.proved.tree h.proved.lines) spent) h.enough)
        (λ near. inr near) (h.spent below);
    best = λ more holds. h.best more h.proved.tree h.proved.lines holds.tree;
    at_most = h.at_most;
  },
  refl,
)

-- so its text optimizes the instance, or bounds it
pub free_status : (p : Problem) (q : Search) (gap : ℕ) (found : Found) (P : Status → Type 0) → IsVersionFor p found.cuts.cuts q.version
    → IsClosed p q.nodes gap found → (Optimizes p (free_method q) (found_text q.version p found) → P Done)
    → (BoundsAt found.cost p (free_method q) gap (found_text q.version p found) → P Stopped) → P (finding_status found)
free_status p q gap found P version h done stopped =
    let m = free_method q in
    cond_both (nat_eq found.bound found.cost) Done Stopped P
    (λ e. done (closes m gap p found h version (eqb-true found.bound found.cost e)))
    (λ e. stopped (leaves m gap p found h version
    (let apart = eqb-false found.bound found.cost e in let within = h.within in omega (arith, within, apart))))
