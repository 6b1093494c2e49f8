-- The files of a command give one instance or one fault, and not both; and the same files give the same.
use Rattle.std.proofs.Common.{◌≡◌, ℕ, List, Option, Some, None, refl, sym, subst, ap, ◌∙◌}
use Rattle.hub_io.specs.Outside.{Files}
use Rattle.hub_spec.specs.Problem.{Problem}
use Rattle.file_spec.specs.Options.{Layout, Options}
use Rattle.file_spec.specs.Faults.{Fault}
use Rattle.file_spec.specs.Contents.{Contents}
use Rattle.file_spec.specs.Files.{HasContents}
use Rattle.file_spec.specs.Instances.{made, build_fault, GivesInstance, GivesFileFault, of_file, of_whole, GivesCosts, GivesCostFault}
use Rattle.file_spec.proofs.FirstFaults.{contents_or_fault}
use Rattle.file_spec.proofs.OneInstance.{one_file_fault, instance_or_fault}
use Rattle.file_spec.proofs.CostsFiles.{costs_or_fault}
use Rattle.hub_words.specs.Requests.{Source}
use Rattle.hub_sources.specs.Sources.{HoldsCosts, HoldsInstance, HoldsContents, Blame, on_instance, on_costs, HoldsFault, alone, together, HoldsCostFault, HasBlame}
use Rattle.hub_sources.specs.Sources.{SameCosts, IsSameInstance}

pub same_bytes : (files : Files) (file a b : List ℕ) → files file ≡ Some a → files file ≡ Some b → a ≡ b
same_bytes files file a b h k = cc

-- the costs of a costs file are one list
same_costs : (files : Files) (name : Option (List ℕ)) (n : ℕ) (a b : Option (List ℕ)) → HoldsCosts files name n a → HoldsCosts files name n b → a ≡ b
same_costs files None n a b h k = h ∙ sym k
same_costs files (Some name) n None b h k = absurd h
same_costs files (Some name) n (Some a) None h k = absurd k
same_costs files (Some name) n (Some a) (Some b) h k =
    let bytes : h.0 ≡ k.0 = same_bytes files name h.0 k.0 h.1 k.1 in
    let P : List ℕ → Type 0 = λ x. GivesCosts n x a in
    ap (λ (x : List ℕ). Some x) ((costs_or_fault n k.0).one_costs a b (subst P bytes h.2) k.2)

-- the contents that an instance is made of have its size
sized : (layout : Layout) (o : Options) (bytes : List ℕ) (costs : Option (List ℕ)) (p : Problem) (h : GivesInstance layout o bytes costs p)
    → h.contents.size ≡ p.size
unfolding made
sized layout o bytes costs p h = sym (ap (λ (q : Problem). q.size) h.is)

-- the contents of the instance file are one
pub one_contents : (files : Files) (s : Source) (c d : Contents) → HoldsContents files s c → HoldsContents files s d → c ≡ d
one_contents files s c d h k =
    let there : h.bytes ≡ k.bytes = same_bytes files s.file h.bytes k.bytes h.held k.held in
    let P : List ℕ → Type 0 = λ x. HasContents s.layout s.options x c in
    (contents_or_fault s.layout s.options k.bytes).one_contents c d (subst P there h.has) k.has

-- an instance is made of the file's contents
instance_contents : (files : Files) (s : Source) (p : Problem) (h : HoldsInstance files s p) → HoldsContents files s h.gives.contents
instance_contents files s p h = record { bytes = h.bytes; held = h.held; not_too_long = h.gives.not_too_long; has = h.gives.has }

same_size : (files : Files) (s : Source) (p : Problem) (h : HoldsInstance files s p) (contents : Contents) → HoldsContents files s contents
    → contents.size ≡ p.size
same_size files s p h contents k =
    ap (λ (c : Contents). c.size) (one_contents files s contents h.gives.contents k (instance_contents files s p h))
    ∙ sized s.layout s.options h.bytes h.costs p h.gives

-- the instance is given by these bytes and costs
given_by : (files : Files) (s : Source) (p : Problem) (h : HoldsInstance files s p) (bytes : List ℕ) (costs : Option (List ℕ))
    → files s.file ≡ Some bytes → HoldsCosts files s.costs p.size costs → GivesInstance s.layout s.options bytes costs p
given_by files s p h bytes costs held costs_held =
    let there : h.bytes ≡ bytes = same_bytes files s.file h.bytes bytes h.held held in
    let own : h.costs ≡ costs = same_costs files s.costs p.size h.costs costs h.costs_held costs_held in
    let P : List ℕ → Type 0 = λ x. GivesInstance s.layout s.options x h.costs p in
    let Q : Option (List ℕ) → Type 0 = λ x. GivesInstance s.layout s.options bytes x p in
    subst Q own (subst P there h.gives)

pub one_instance : (files : Files) (s : Source) (p q : Problem) → HoldsInstance files s p → HoldsInstance files s q → p ≡ q
one_instance files s p q h k =
    let size : q.size ≡ p.size = sym (sized s.layout s.options k.bytes k.costs q k.gives) ∙ same_size files s p h k.gives.contents (instance_contents files s q k) in
    let P : ℕ → Type 0 = λ n. HoldsCosts files s.costs n k.costs in
    (instance_or_fault s.layout s.options k.bytes k.costs).one_instance p q
    (given_by files s p h k.bytes k.costs k.held (subst P size k.costs_held)) k.gives

no_fault : (files : Files) (s : Source) (p : Problem) (h : HoldsInstance files s p) (fault : Fault) → HoldsFault files s fault → ⊥
no_fault files s p h fault (alone bytes held gives) =
    (instance_or_fault s.layout s.options bytes h.costs).not_both p fault (given_by files s p h bytes h.costs held h.costs_held) (of_file gives)
no_fault files s p h fault (together contents k costs costs_held is) =
    let P : ℕ → Type 0 = λ n. HoldsCosts files s.costs n costs in
    let own : HoldsCosts files s.costs p.size costs = subst P (same_size files s p h contents k) costs_held in
    (instance_or_fault s.layout s.options k.bytes costs).not_both p fault (given_by files s p h k.bytes costs k.held own)
    (of_whole contents k.not_too_long k.has is)

-- where a costs file is named, its costs are held
named_costs : (files : Files) (named : Option (List ℕ)) (name : List ℕ) (n : ℕ) (costs : Option (List ℕ)) → named ≡ Some name
    → HoldsCosts files named n costs → (bytes : List ℕ) → files name ≡ Some bytes → (list : List ℕ) × GivesCosts n bytes list
named_costs files None name n costs is h bytes held = cc
named_costs files (Some other) name n None is h bytes held = absurd h
named_costs files (Some other) name n (Some list) is h bytes held =
    let P : List ℕ → Type 0 = λ x. GivesCosts n x list in
    let there : h.0 ≡ bytes = (let own = h.1 in cc) in
    (list, subst P there h.2)

-- no costs are given where the costs file has a fault
no_costs : (files : Files) (s : Source) (contents : Contents) (costs : Option (List ℕ)) (fault : Fault) (k : HoldsCostFault files s fault)
    → k.contents ≡ contents → HoldsCosts files s.costs contents.size costs → ⊥
no_costs files s contents costs fault k same given =
    let own = named_costs files s.costs k.name contents.size costs k.named given k.bytes k.held in
    let P : Contents → Type 0 = λ c. GivesCostFault c.size k.bytes fault in
    (costs_or_fault contents.size k.bytes).not_both own.0 fault own.1 (subst P same k.gives)

no_cost_fault : (files : Files) (s : Source) (p : Problem) (h : HoldsInstance files s p) (fault : Fault) → HoldsCostFault files s fault → ⊥
no_cost_fault files s p h fault k =
    let P : ℕ → Type 0 = λ n. HoldsCosts files s.costs n h.costs in
    no_costs files s k.contents h.costs fault k refl (subst P (sym (same_size files s p h k.contents k.instance)) h.costs_held)

pub no_blame : (files : Files) (s : Source) (p : Problem) (h : HoldsInstance files s p) (blame : Blame) (fault : Fault) → HasBlame files s blame fault → ⊥
no_blame files s p h on_instance fault k = no_fault files s p h fault k
no_blame files s p h on_costs fault k = no_cost_fault files s p h fault k

same_costs_again : (before now : Files) (old new : Option (List ℕ)) (n : ℕ) (costs : Option (List ℕ)) → SameCosts before old now new
    → HoldsCosts before old n costs → HoldsCosts now new n costs
same_costs_again before now None None n costs same h = h
same_costs_again before now None (Some new) n costs same h = absurd same
same_costs_again before now (Some old) None n costs same h = absurd same
same_costs_again before now (Some old) (Some new) n None same h = absurd h
same_costs_again before now (Some old) (Some new) n (Some costs) same h = (h.0, same ∙ h.1, h.2)

-- the same instance is held where it is named again
pub held_again : (before now : Files) (s t : Source) (p : Problem) → HoldsInstance before s p → IsSameInstance before s now t → HoldsInstance now t p
held_again before now s t p h same =
    let P : Layout → Type 0 = λ x. GivesInstance x s.options h.bytes h.costs p in
    let Q : Options → Type 0 = λ x. GivesInstance t.layout x h.bytes h.costs p in
    record {
      bytes = h.bytes;
      held = same.file ∙ h.held;
      costs = h.costs;
      costs_held = same_costs_again before now s.costs t.costs p.size h.costs same.costs h.costs_held;
      gives = subst Q (sym same.options) (subst P (sym same.layout) h.gives);
    }

-- ---- one fault, attributed to one file

-- what the instance file has by itself and what it gives exclude each other
alone_or_contents : (files : Files) (s : Source) (bytes : List ℕ) (fault : Fault) (contents : Contents) → files s.file ≡ Some bytes
    → GivesFileFault s.layout s.options bytes fault → HoldsContents files s contents → ⊥
alone_or_contents files s bytes fault contents held gives k =
    let there : bytes ≡ k.bytes = same_bytes files s.file bytes k.bytes held k.held in
    let P : List ℕ → Type 0 = λ x. GivesFileFault s.layout s.options x fault in
    (one_file_fault s.layout s.options k.bytes).no_contents contents fault k.not_too_long k.has (subst P there gives)

one_instance_fault : (files : Files) (s : Source) (f g : Fault) → HoldsFault files s f → HoldsFault files s g → g ≡ f
one_instance_fault files s f g (alone a held gives) (alone b also given) =
    let there : b ≡ a = same_bytes files s.file b a also held in
    let P : List ℕ → Type 0 = λ x. GivesFileFault s.layout s.options x g in
    (one_file_fault s.layout s.options a).one_fault g f (subst P there given) gives
one_instance_fault files s f g (alone a held gives) (together c k costs given is) = absurd (alone_or_contents files s a f c held gives k)
one_instance_fault files s f g (together c k costs given is) (alone b also gives) = absurd (alone_or_contents files s b g c also gives k)
one_instance_fault files s f g (together c h costs given is) (together d k others also are) =
    let same : d ≡ c = one_contents files s d c k h in
    let P : Contents → Type 0 = λ x. HoldsCosts files s.costs x.size others in
    let own : others ≡ costs = same_costs files s.costs c.size others costs (subst P same also) given in
    let there : build_fault s.options c costs ≡ Some g = ap (λ x. build_fault s.options x costs) (sym same) ∙ ap (build_fault s.options d) (sym own) ∙ are in cc

one_cost_fault : (files : Files) (s : Source) (f g : Fault) → HoldsCostFault files s f → HoldsCostFault files s g → g ≡ f
one_cost_fault files s f g h k =
    let size : k.contents.size ≡ h.contents.size = ap (λ (c : Contents). c.size) (one_contents files s k.contents h.contents k.instance h.instance) in
    let name : k.name ≡ h.name = (let a = h.named in let b = k.named in cc) in
    let there : k.bytes ≡ h.bytes = (let a = h.held in let b = ap files (sym name) ∙ k.held in cc) in
    let P : ℕ → Type 0 = λ n. GivesCostFault n k.bytes g in
    let Q : List ℕ → Type 0 = λ x. GivesCostFault h.contents.size x g in
    (costs_or_fault h.contents.size h.bytes).one_fault g f (subst Q there (subst P size k.gives)) h.gives

-- a fault of the instance file and one of the costs file exclude each other
one_file : (files : Files) (s : Source) (f g : Fault) → HoldsFault files s f → HoldsCostFault files s g → ⊥
one_file files s f g (alone bytes held gives) k = alone_or_contents files s bytes f k.contents held gives k.instance
one_file files s f g (together c h costs given is) k = no_costs files s c costs g k (one_contents files s k.contents c k.instance h) given

pub one_blame_of : (files : Files) (s : Source) (blame other : Blame) (fault second : Fault)
    → HasBlame files s blame fault → HasBlame files s other second → (other ≡ blame) × (second ≡ fault)
one_blame_of files s on_instance on_instance f g h k = (refl, one_instance_fault files s f g h k)
one_blame_of files s on_instance on_costs f g h k = absurd (one_file files s f g h k)
one_blame_of files s on_costs on_instance f g h k = absurd (one_file files s g f k h)
one_blame_of files s on_costs on_costs f g h k = (refl, one_cost_fault files s f g h k)
