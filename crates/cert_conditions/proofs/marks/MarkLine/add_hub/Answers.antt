use Rattle.std.proofs.Common.{ℕ, ◌<◌, List, All, sym, subst, arith}
use Rattle.std.specs.Prelude.{vec_capacity}
use Rattle.cert_conditions.specs.Marks.{MarkTally, IsHeld}
use Rattle.cert_conditions.proofs.MarkHubs.{held_more, has_room}
use Rattle.cert_conditions.proofs.marks.MarkLine.add_hub.Goals as goal

pub push_reserved-requires : goal.push_reserved-requires
push_reserved-requires c =
    let s = c.self.inside in
    let mark : MarkTally = record { part = s.part; hubs = s.hubs.items; proof = s.proof } in
    let node = subst (λ (m : MarkTally). c.args.k < m.proof.problem.size) (sym c.self.view_is) c.requires.node in
    let above = subst (λ (m : MarkTally). All (λ (x : ℕ). x < c.args.k) m.hubs) (sym c.self.view_is) c.requires.above in
    omega (arith, has_room (vec_capacity s.hubs) c.args.k s.values.items mark c.self.invariant node above, s.hubs.ok.0)

pub invariant_of-self : goal.invariant_of-self
invariant_of-self c =
    let s = c.self.inside in
    let mark : MarkTally = record { part = s.part; hubs = s.hubs.items; proof = s.proof } in
    let node = subst (λ (m : MarkTally). c.args.k < m.proof.problem.size) (sym c.self.view_is) c.requires.node in
    let above = subst (λ (m : MarkTally). All (λ (x : ℕ). x < c.args.k) m.hubs) (sym c.self.view_is) c.requires.above in
    let held = held_more (vec_capacity s.hubs) c.args.k s.values.items mark c.self.invariant node above in
    let Held : ℕ → List ℕ → Type 0 = λ room hubs. IsHeld room s.values.items (record { part = s.part; hubs = hubs; proof = s.proof }) in
    subst (λ (room : ℕ). Held room c.push_reserved.new.self.items) (sym c.push_reserved.ensures.capacity)
    (subst (Held (vec_capacity s.hubs)) (sym c.push_reserved.ensures.items) held)
