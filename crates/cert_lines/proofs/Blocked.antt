-- A commodity without a route in a branch, hub by hub.
use Rattle.std.proofs.Common.{◌≡◌, ℕ, ◌<◌, List, length, get_or, Contains, All, inl, IsTrue, ◌↔◌, Bool, subst}
use Rattle.std.proofs.lemmas.List.Elements.{All-contains, Contains-get_or}
use Rattle.hub_spec.specs.Problem.{Problem}
use Rattle.hub_spec.specs.Trees.{Branching, IsBlocked}
use Rattle.hub_spec.proofs.Sets.{All-from_contains}
use Rattle.cert_lines.specs.Blocks.{IsBlockedBy, IsBlockedFrom}

-- with a closed first hub the commodity is blocked, whatever the last hub is
pub blocked_by_first : (p : Problem) (b : Branching) (c : ℕ × ℕ) (k : ℕ) → Contains b.outside k → IsBlockedFrom p b c k
blocked_by_first p b c k out = All-from_contains (IsBlockedBy p b c k) p.candidates (λ m here allowed. inl out)

-- all first hubs with all last ones
all_blocked : (p : Problem) (b : Branching) (c : ℕ × ℕ) → c.0 < p.size → c.1 < p.size → All (IsBlockedFrom p b c) p.candidates → IsBlocked p b c
all_blocked p b c from to all = record {
  from = from;
  to = to;
  closed = λ k m first last allowed.
      All-contains (IsBlockedBy p b c k) p.candidates m (All-contains (IsBlockedFrom p b c) p.candidates k all first) last allowed;
}

blocked_all : (p : Problem) (b : Branching) (c : ℕ × ℕ) → IsBlocked p b c → All (IsBlockedFrom p b c) p.candidates
blocked_all p b c blocked =
    All-from_contains (IsBlockedFrom p b c) p.candidates (λ k first.
    All-from_contains (IsBlockedBy p b c k) p.candidates (λ m last allowed. blocked.closed k m first last allowed))

-- the candidate that a loop visits
pub visited : (p : Problem) (candidates : List ℕ) (at : ℕ) → candidates ≡ p.candidates → at < length candidates
    → Contains p.candidates (get_or candidates at 0)
visited p candidates at same more = subst (λ (ks : List ℕ). Contains ks (get_or candidates at 0)) same (Contains-get_or candidates at 0 more)

-- the test of all first hubs tells whether the commodity is blocked
pub blocked_anew : (p : Problem) (b : Branching) (c : ℕ × ℕ) (says : Bool) → c.0 < p.size → c.1 < p.size
    → (IsTrue says ↔ All (IsBlockedFrom p b c) p.candidates) → (IsTrue says ↔ IsBlocked p b c)
blocked_anew p b c says from to is = (λ h. all_blocked p b c from to (is.0 h), λ blocked. is.1 (blocked_all p b c blocked))
