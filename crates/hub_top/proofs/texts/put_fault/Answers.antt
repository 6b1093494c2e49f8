use Rattle.std.proofs.Common.{sym, subst}
use Rattle.hub_io.specs.Outside.{Puts}
use Rattle.hub_model.specs.Faults.{fault_of}
use Rattle.hub_model.specs.declared.faults.InstanceFault.{InstanceFault}
use Rattle.hub_top.specs.Texts.{fault_text}
use Rattle.hub_sources.specs.Blames.{blame_of}
use Rattle.hub_top.proofs.texts.put_fault.Goals as goal

pub returns-in-BadNumber : goal.returns-in-BadNumber
returns-in-BadNumber g c =
    let P : InstanceFault → Type 0 = λ f. Puts g.K.Sink.taken g.K.Sink.faults c.args.sink.now c.put_at.new.sink c.put_at.result (fault_text (blame_of c.args.file) (fault_of f)) in
    subst P (sym c.in-BadNumber.is) c.put_at.ensures

pub returns-in-TooBig : goal.returns-in-TooBig
returns-in-TooBig g c =
    let P : InstanceFault → Type 0 = λ f. Puts g.K.Sink.taken g.K.Sink.faults c.args.sink.now c.put_at-in-TooBig.new.sink c.put_at-in-TooBig.result (fault_text (blame_of c.args.file) (fault_of f)) in
    subst P (sym c.in-TooBig.is) c.put_at-in-TooBig.ensures

pub returns-in-BadIndex : goal.returns-in-BadIndex
returns-in-BadIndex g c =
    let P : InstanceFault → Type 0 = λ f. Puts g.K.Sink.taken g.K.Sink.faults c.args.sink.now c.put_at-in-BadIndex.new.sink c.put_at-in-BadIndex.result (fault_text (blame_of c.args.file) (fault_of f)) in
    subst P (sym c.in-BadIndex.is) c.put_at-in-BadIndex.ensures

pub returns-in-NoCandidate : goal.returns-in-NoCandidate
returns-in-NoCandidate g c =
    let P : InstanceFault → Type 0 = λ f. Puts g.K.Sink.taken g.K.Sink.faults c.args.sink.now c.put_at-in-NoCandidate.new.sink c.put_at-in-NoCandidate.result (fault_text (blame_of c.args.file) (fault_of f)) in
    subst P (sym c.in-NoCandidate.is) c.put_at-in-NoCandidate.ensures

pub returns-in-Hubs : goal.returns-in-Hubs
returns-in-Hubs g c =
    let P : InstanceFault → Type 0 = λ f. Puts g.K.Sink.taken g.K.Sink.faults c.args.sink.now c.put_at-in-Hubs.new.sink c.put_at-in-Hubs.result (fault_text (blame_of c.args.file) (fault_of f)) in
    subst P (sym c.in-Hubs.is) c.put_at-in-Hubs.ensures
