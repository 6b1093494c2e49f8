use Rattle.std.proofs.Common.{◌≡◌, ℕ, ◌-◌, ◌≤◌, List, length, take, drop, sym, ap, subst, ◌∙◌, arith, Bor}
use Rattle.std.proofs.lemmas.List.{take_all, length-drop}
use Rattle.hub_io.specs.Outside.{AppendsBut}
use Rattle.machine_io.proofs.Streams.{still_but, more_but}
use Rattle.machine_io.proofs.sink.write_whole.Goals as goal
use Rattle.machine_io.proofs.sink.write_whole.Goals.{in-Ok, in-Err}

pub loop-preserved : goal.loop-preserved
loop-preserved g c =
    let old = g.W.Write.contents c.args.stream.now in
    let mid = g.W.Write.contents c.loop.stream in
    let new = g.W.Write.contents c.write.new.self in
    let P : List ℕ → Type 0 = λ xs. AppendsBut old new c.args.piece.now xs in
    elim c.match-write.branch [
      | in-Ok w ↦
          (let n = w.in-Ok.count in
          let left = drop n c.loop.rest.now in
          let cut : c.match-write.rest.now ≡ take (length c.loop.rest.now - n) left = ap (λ (r : Bor (List ℕ)). r.now) w.rest-is in
          let long : length left ≤ length c.loop.rest.now - n = omega (arith, length-drop n c.loop.rest.now) in
          subst P (sym (cut ∙ take_all (length c.loop.rest.now - n) left long)) (more_but old mid new c.args.piece.now c.loop.rest.now n c.loop.invariant w.in-Ok.ensures.bytes))
      | in-Err w ↦
          (let rest : c.match-write.rest.now ≡ c.loop.rest.now = ap (λ (r : Bor (List ℕ)). r.now) w.rest-is in
          subst P (sym rest) (still_but old mid new c.args.piece.now c.loop.rest.now c.loop.invariant w.in-Err.ensures.bytes))
    ]
