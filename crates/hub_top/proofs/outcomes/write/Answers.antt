use Rattle.std.proofs.Common.{◌≡◌, ℕ, inl, inr, refl}
use Rattle.std.proofs.lemmas.Result.{IfOk-at_ok, IfErr-at_err}
use Rattle.hub_top.specs.Outcomes.{IsTold, answered, usage, no_network, memory}
use Rattle.hub_top.specs.Views.{answer_status, answer_text, halted}
use Rattle.hub_commands.specs.Statuses.{finding_status}
use Rattle.cert_scan.specs.Versions.{version_number}
use Rattle.proof_text.specs.Texts.{found_text}
use Rattle.hub_top.proofs.Writing.{written_out, written_err, halt_puts_nothing}
use Rattle.hub_top.proofs.outcomes.write.Goals as goal

pub returns-in-Answered : goal.returns-in-Answered
returns-in-Answered g c =
    let a = c.in-Answered.answer in
    rw c.in-Answered.is (inl (written_out _ _ _ _ _ _ _ _ (answered (answer_status a) (answer_text a)) refl c.write_answer.ensures))

pub returns-in-Ok : goal.returns-in-Ok
returns-in-Ok g c =
    let p = c.in-Found.instance in
    let found = c.in-Found.found in
    let text = found_text (version_number c.in-Found.search.version) p found in
    rw c.in-Found.is (inl (written_out _ _ _ _ _ _ _ _ (answered (finding_status found) text) refl
    (IfOk-at_ok (λ status. IsTold g.O.Sink.taken g.O.Sink.faults c.args.out.now c.write_certificate.new.out status (finding_status found) text) c.in-Ok.is c.write_certificate.ensures.text)))

pub returns-in-Err : goal.returns-in-Err
returns-in-Err g c =
    rw (IfErr-at_err (λ _. c.write_certificate.new.out ≡ c.args.out.now) c.in-Err.is c.write_certificate.ensures.nothing)
    (inr (written_err _ _ _ _ _ _ _ _ memory refl c.write_halt.ensures))

pub returns-in-NoNetwork : goal.returns-in-NoNetwork
returns-in-NoNetwork g c =
    let commodity : ℕ × ℕ = (c.in-NoNetwork.i, c.in-NoNetwork.j) in
    rw c.in-NoNetwork.is (inl (written_err _ _ _ _ _ _ _ _ (no_network commodity) refl c.write_no_network.ensures))

pub returns-in-Usage : goal.returns-in-Usage
returns-in-Usage g c = rw c.in-Usage.is (inl (written_err _ _ _ _ _ _ _ _ usage refl c.write_usage.ensures))

pub returns-in-Halted : goal.returns-in-Halted
returns-in-Halted g c =
    let halt = c.in-Halted.halt in
    rw c.in-Halted.is (inl (written_err _ _ _ _ _ _ _ _ (halted halt) (halt_puts_nothing halt) c.write_halt-in-Halted.ensures))
