use Rattle.std.proofs.Common.{◌≡◌, ℕ, Bool, ◌&&◌, nat_eq, Decides, ap, ap₂}
use Rattle.std.proofs.lemmas.Bool.{and_parts, and_from}
use Rattle.std.proofs.lemmas.Bool.Decides.{Decides-eqb}
use Rattle.std.proofs.lemmas.Slice.Eq.{slice_eq-Decides}
use Rattle.core_cuts.proofs.ways.are_same_edges.Goals as goal

abbrev same_edge : ℕ × ℕ → ℕ × ℕ → Bool
same_edge x y = nat_eq x.0 y.0 && nat_eq x.1 y.1

edges_told : (x y : ℕ × ℕ) → Decides (same_edge x y) (x ≡ y)
edges_told x y =
    let first = Decides-eqb x.0 y.0 in
    let last = Decides-eqb x.1 y.1 in (
      λ e. (let both = and_parts (nat_eq x.0 y.0) (nat_eq x.1 y.1) e in ap₂ (λ (k m : ℕ). (k, m)) (first.0 both.0) (last.0 both.1)),
      λ e. and_from (nat_eq x.0 y.0) (nat_eq x.1 y.1) (first.1 (ap (λ (p : ℕ × ℕ). p.0) e)) (last.1 (ap (λ (p : ℕ × ℕ). p.1) e)),
    )

pub returns : goal.returns
returns c = slice_eq-Decides edges_told c.args.edges.now c.args.others.now c.eq.result c.eq.ensures
