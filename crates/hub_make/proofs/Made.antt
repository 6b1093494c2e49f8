-- What is read of a made-up text.
use Rattle.std.proofs.Common.{◌≡◌, ℕ, ◌≤◌, List, length, None, sym, subst}
use Rattle.file_spec.specs.Limits.{file_limit}
use Rattle.file_spec.specs.Options.{australia_post, Options}
use Rattle.file_spec.specs.Contents.{Contents}
use Rattle.file_spec.specs.Files.{HasContents}
use Rattle.file_spec.specs.Instances.{build_fault, GivesInstance, GivesFault, of_whole}
use Rattle.file_spec.proofs.OneInstance.{instance_or_fault}
use Rattle.hub_spec.specs.Problem.{Problem}
use Rattle.hub_model.specs.Building.{IsRefusedFor}
use Rattle.hub_model.specs.Faults.{fault_of}
use Rattle.hub_model.specs.declared.faults.InstanceFault.{InstanceFault}
use Rattle.hub_model.specs.declared.faults.Refusal.{Refusal}
use Rattle.hub_model.specs.declared.faults.Refusal.TheVariants.{Fault as of_fault, OutOfMemory}
use Rattle.hub_make.specs.Texts.{made_text}
use Rattle.hub_make.specs.Contents.{tail_alone, made_problem}
use Rattle.hub_make.proofs.Reading.{all_read}
use Rattle.hub_make.specs.Refusals.{IsRefusedAlone}

-- where contents and options have a fault together, the file has it
pub refused_whole : (o : Options) (bytes : List ℕ) (contents : Contents) (refusal : Refusal) → length bytes ≤ file_limit
    → HasContents australia_post o bytes contents → IsRefusedFor (build_fault o contents None) refusal → IsRefusedAlone o bytes refusal
refused_whole o bytes contents (of_fault f) short has is = of_whole contents short has is
refused_whole o bytes contents OutOfMemory short has is = tt

module _ (seed size : ℕ) (one : 1 ≤ size) (few : size ≤ 200) where
  pub made_short : (bytes : List ℕ) → bytes ≡ made_text seed size → length bytes ≤ file_limit
  made_short bytes e = subst (λ (text : List ℕ). length text ≤ file_limit) (sym e) (all_read seed size one few).gives.not_too_long

  -- no other instance is read
  pub one_made : (o : Options) (bytes : List ℕ) (p : Problem) → o ≡ tail_alone → bytes ≡ made_text seed size
      → GivesInstance australia_post o bytes None p → p ≡ made_problem seed size
  one_made o bytes p same e given =
      (instance_or_fault australia_post tail_alone (made_text seed size) None).one_instance p (made_problem seed size)
      (subst (λ (text : List ℕ). GivesInstance australia_post tail_alone text None p) e
      (subst (λ (options : Options). GivesInstance australia_post options bytes None p) same given))
      (all_read seed size one few).gives

  -- and no fault is found
  pub never_refused : (o : Options) (bytes : List ℕ) (refusal : Refusal) (f : InstanceFault) → o ≡ tail_alone → bytes ≡ made_text seed size
      → refusal ≡ of_fault f → IsRefusedAlone o bytes refusal → ⊥
  never_refused o bytes refusal f same e is refused =
      (all_read seed size one few).no_fault (fault_of f)
      (subst (λ (text : List ℕ). GivesFault australia_post tail_alone text None (fault_of f)) e
      (subst (λ (options : Options). GivesFault australia_post options bytes None (fault_of f)) same
      (subst (IsRefusedAlone o bytes) is refused)))
