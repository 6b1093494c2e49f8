-- Lines that lead on from the cuts: the cuts that they are of, each with its mark.
use Rattle.std.proofs.Common.{◌≡◌, ℕ, ◌+◌, ◌*◌, ◌≤◌, List, [], ◌∷◌, ◌++◌, length, replicate, Option, Some, None, true, false, inl, inr, eq-eqb, refl, sym, ap, ap₂, ◌∙◌, subst, arith, zero, suc, mul-pos, append_assoc}
use Rattle.std.specs.List.{AllByRecursion}
use Rattle.std.proofs.lemmas.List.Elements.{All-from_recursion}
use Rattle.hub_spec.specs.Limits.{most_part}
use Rattle.hub_spec.specs.Problem.{commodity_at}
use Rattle.hub_spec.specs.Cuts.{Prices, Cut}
use Rattle.cert_spec.specs.Lines.{part_of, Item, says_cut, says_marked, says_dual, says_proof}
use Rattle.cert_spec.specs.Text.{is_first, same_prices, singles, dual_runs, run_items, part_said, dual_items, proved_items, cut_items, cuts_items}
use Rattle.hub_spec.specs.Ranges.{IsDualInRange}
use Rattle.cert_spec.specs.Grammar.{want_nodes, want_cut, want_dual, want_proved, want_proof, Shape, after_cut, after_dual, after_proof, kept_dual, IsPart, IsVersion, after}
use Rattle.cert_spec.specs.Runs.{spread, before_at, AreRuns}
use Rattle.cert_spec.proofs.RunLaws.{runs_spread}
use Rattle.cert_spec.proofs.SamePrices.{prices_told}
use Rattle.cert_spec.proofs.Stages.{run_within}
use Rattle.std.proofs.lemmas.Bool.{cases_eq}
use Rattle.cert_spec.proofs.Leads.{after_cut-all, after_cut-more, after_dual-all, after_dual-more, after_proof-all, after_proof-more, IsDualOf, AreSaid, IsCutOf, IsMarkedCutOf, length-spread}
use Rattle.core_spec.specs.CoreCuts.{CoreProof, Mark}
use Rattle.core_spec.specs.MarkRanges.{IsProofInRange}
use Rattle.cert_spec.proofs.FirstLines.{Ends, First, first_line, IsPlainLine, IsMarkedLine, cut_wanted, proved_wanted, proof_wanted, IsRunLine, dual_wanted}
use Rattle.cert_spec.proofs.Versions.{later_not_first, first_is_no_later, third_is_later}

-- the runs that are still to come, and the lines after them
record ReadRuns (s : Shape) (all x t : ℕ) (before : Option Prices) (items : List Item) : Type 0 where
  runs : List (ℕ × Prices)
  rest : List Item
  are : items ≡ run_items s.size t runs ++ rest
  long : t + length (spread runs) ≡ s.size * s.size
  said : AreSaid s t before runs
  ends : Ends (after_cut s all (x + 1)) rest

no_runs : (s : Shape) (all x t : ℕ) (before : Option Prices) (items : List Item) → t ≡ s.size * s.size → Ends (after_dual s all x t before) items
    → ReadRuns s all x t before items
no_runs s all x t before items whole h = record {
  runs = [];
  rest = items;
  are = refl;
  long = omega (arith, whole);
  said = tt;
  ends = subst (λ stage. Ends stage items) (after_dual-all s all x t before whole) h;
}

with_run : (s : Shape) (all x t : ℕ) (before : Option Prices) (items : List Item) (line : First (want_dual s all x t before) items)
    (h : IsRunLine s t before line.item) → ReadRuns s all x (t + h.run) (kept_dual s (t + h.run) h.dual) line.rest → ReadRuns s all x t before items
with_run s all x t before items line h more = record {
  runs = (h.run, h.dual) ∷ more.runs;
  rest = more.rest;
  are = line.are ∙ ap (λ i. i ∷ line.rest) h.is ∙ ap (λ l. says_dual (commodity_at s.size t) h.run h.dual ∷ l) more.are;
  long = omega (arith, more.long, length-spread h.run h.dual more.runs);
  said = (h.is_run, h.of, h.other, more.said);
  ends = more.ends;
}

-- what is wanted after a run
after_run : (s : Shape) (all x t : ℕ) (before : Option Prices) (item : Item) (rest : List Item) (is : IsRunLine s t before item)
    → Ends (after (want_dual s all x t before) item) rest → Ends (after_dual s all x (t + is.run) (kept_dual s (t + is.run) is.dual)) rest
after_run s all x t before item rest is ends = subst (λ i. Ends (after (want_dual s all x t before) i) rest) is.is ends

read_runs : (s : Shape) (all x fuel t : ℕ) (before : Option Prices) (items : List Item) → t ≤ s.size * s.size → s.size * s.size ≤ t + fuel
    → Ends (after_dual s all x t before) items → ReadRuns s all x t before items
read_runs s all x zero t before items within left h = no_runs s all x t before items (omega (arith, within, left)) h
read_runs s all x (suc fuel) t before items within left h = elim (cases_eq t (s.size * s.size)) [
  | inl whole ↦ no_runs s all x t before items whole h
  | inr more ↦
      (let line = first_line (want_dual s all x t before) items (λ e. cc) (subst (λ stage. Ends stage items) (after_dual-more s all x t before more) h) in
      let is = dual_wanted s all x t before line.item line.wanted in
      let ends = after_run s all x t before line.item line.rest is line.ends in
      with_run s all x t before items line is
      (read_runs s all x fuel (t + is.run) (kept_dual s (t + is.run) is.dual) line.rest
      (run_within s.size t is.run (omega (arith, within, more)) is.is_run.1) (omega (arith, left, is.is_run.0)) ends))
]

-- the duals of a marked cut that are still to come, each with its proof, and the lines after them
record ReadProved (s : Shape) (all x t m : ℕ) (items : List Item) : Type 0 where
  duals : List Prices
  proofs : List CoreProof
  rest : List Item
  are : items ≡ proved_items s.size t duals proofs ++ rest
  long : length duals ≡ m
  as_long : length proofs ≡ m
  each : AllByRecursion (IsDualInRange s.size) duals
  each_proof : AllByRecursion (IsProofInRange s.size) proofs
  ends : Ends (after_cut s all (x + 1)) rest

-- one of them
record OneProved (s : Shape) (all x t : ℕ) (items : List Item) : Type 0 where
  dual : Prices
  proof : CoreProof
  rest : List Item
  are : items ≡ says_dual (commodity_at s.size t) 1 dual ∷ says_proof proof ∷ rest
  of : IsDualInRange s.size dual
  of_proof : IsProofInRange s.size proof
  ends : Ends (after_proof s all x (t + 1)) rest

one_proved : (s : Shape) (all x t : ℕ) (items : List Item) (line : First (want_proved s all x t) items) → First (want_proof s all x t) line.rest
    → OneProved s all x t items
one_proved s all x t items line next =
    let dual = proved_wanted s all x t line.item line.wanted in
    let proof = proof_wanted s all x t next.item next.wanted in
    record {
      dual = dual.0;
      proof = proof.0;
      rest = next.rest;
      are = line.are ∙ ap₂ (λ (i : Item) l. i ∷ l) dual.1 (next.are ∙ ap (λ i. i ∷ next.rest) proof.1);
      of = dual.2;
      of_proof = proof.2;
      ends = next.ends;
    }

first_proved : (s : Shape) (all x t : ℕ) (items : List Item) → (t ≡ s.size * s.size → ⊥) → Ends (after_proof s all x t) items → OneProved s all x t items
first_proved s all x t items left h =
    let line = first_line (want_proved s all x t) items (λ e. cc) (subst (λ stage. Ends stage items) (after_proof-more s all x t left) h) in
    one_proved s all x t items line (first_line (want_proof s all x t) line.rest (λ e. cc) line.ends)

with_proved : (s : Shape) (all x t m : ℕ) (items : List Item) (one : OneProved s all x t items) → ReadProved s all x (t + 1) m one.rest
    → ReadProved s all x t (suc m) items
with_proved s all x t m items one more = record {
  duals = one.dual ∷ more.duals;
  proofs = one.proof ∷ more.proofs;
  rest = more.rest;
  are = one.are ∙ ap (λ l. says_dual (commodity_at s.size t) 1 one.dual ∷ says_proof one.proof ∷ l) more.are;
  long = ap suc more.long;
  as_long = ap suc more.as_long;
  each = (one.of, more.each);
  each_proof = (one.of_proof, more.each_proof);
  ends = more.ends;
}

read_proved : (s : Shape) (all x t m : ℕ) (items : List Item) → t + m ≡ s.size * s.size → Ends (after_proof s all x t) items
    → ReadProved s all x t m items
read_proved s all x t zero items whole h = record {
  duals = [];
  proofs = [];
  rest = items;
  are = refl;
  long = refl;
  as_long = refl;
  each = tt;
  each_proof = tt;
  ends = subst (λ stage. Ends stage items) (after_proof-all s all x t (omega arith)) h;
}
read_proved s all x t (suc m) items whole h =
    let one = first_proved s all x t items (λ e. omega arith) h in
    with_proved s all x t m items one (read_proved s all x (t + 1) m one.rest (omega arith) one.ends)

-- ---- the cut whose runs these are

spread_of : (s : Shape) (t : ℕ) (before : Option Prices) (rs : List (ℕ × Prices)) → AreSaid s t before rs → AllByRecursion (IsDualOf s) (spread rs)
spread_of s t before [] said = tt
spread_of s t before (r ∷ rest) said = repeated r.0 (spread_of s (t + r.0) (kept_dual s (t + r.0) r.1) rest said.3)
  where
    repeated : (m : ℕ) → AllByRecursion (IsDualOf s) (spread rest) → AllByRecursion (IsDualOf s) (replicate m r.1 ++ spread rest)
    repeated zero h = h
    repeated (suc m) h = (said.1, repeated m h)

singles_of : (s : Shape) (t : ℕ) (before : Option Prices) (rs : List (ℕ × Prices)) → s.version ≡ 1 → AreSaid s t before rs → singles (spread rs) ≡ rs
singles_of s t before [] first said = refl
singles_of s t before ((zero, d) ∷ rest) first said = absurd (omega (arith, said.0.0))
singles_of s t before ((suc zero, d) ∷ rest) first said =
    ap (λ rs. (1, d) ∷ rs) (singles_of s (t + 1) (kept_dual s (t + 1) d) rest first said.3)
singles_of s t before ((suc (suc q), d) ∷ rest) first said = absurd (omega (arith, said.0.2 first))

are_runs : (s : Shape) (t : ℕ) (before : Option Prices) (rs : List (ℕ × Prices)) → is_first s.version ≡ false → AreSaid s t before rs
    → AreRuns s.size t before rs
are_runs s t before [] later said = tt
are_runs s t before (r ∷ rest) later said =
    let kept : kept_dual s (t + r.0) r.1 ≡ before_at s.size (t + r.0) r.1 = rw later refl in (
      said.0.0,
      said.0.1,
      said.2,
      are_runs s (t + r.0) (before_at s.size (t + r.0) r.1) rest later (subst (λ (o : Option Prices). AreSaid s (t + r.0) o rest) kept said.3),
    )

runs_of : (s : Shape) (rs : List (ℕ × Prices)) → IsVersion s.version → 1 ≤ s.size → AreSaid s 0 None rs → dual_runs s.version s.size (spread rs) ≡ rs
runs_of s rs (inl first) some said =
    let test : is_first s.version ≡ true = eq-eqb s.version 1 first in rw test (singles_of s 0 None rs first said)
runs_of s rs (inr later) some said =
    let test : is_first s.version ≡ false = first_is_no_later s.version later in
    rw test (runs_spread same_prices s.size 0 None rs prices_told some (are_runs s 0 None rs test said))

-- the part that a line says
record IsPartOf (s : Shape) (part : Option ℕ) : Type 0 where
  least : 1 ≤ part_of part
  most : part_of part ≤ most_part
  said : part_said s.version (part_of part) ≡ part
  whole : s.version ≡ 1 → part_of part ≡ 1

is_part_of : (s : Shape) (part : Option ℕ) → IsPart s.version part → IsPartOf s part
is_part_of s None one = record {
  least = omega arith;
  most = omega arith;
  said = (let test : is_first s.version ≡ true = eq-eqb s.version 1 one in rw test refl);
  whole = λ e. refl;
}
is_part_of s (Some e) h = record {
  least = h.1;
  most = h.2;
  said = (let test : is_first s.version ≡ false = first_is_no_later s.version h.0 in rw test refl);
  whole = λ one. absurd (later_not_first s.version h.0 one);
}

cut_of : Option ℕ → List (ℕ × Prices) → Cut
cut_of part rs = record { part = part_of part; duals = spread rs }

of_cut : (s : Shape) (part : Option ℕ) (rs : List (ℕ × Prices)) → IsPart s.version part → length (spread rs) ≡ s.size * s.size → AreSaid s 0 None rs
    → IsCutOf s (cut_of part rs)
unfolding cut_of
of_cut s part rs is_part long said =
    let p = is_part_of s part is_part in
    let duals = All-from_recursion (IsDualOf s) (spread rs) (spread_of s 0 None rs said) in
    record {
      in_range = record { part_least = p.least; part_most = p.most; one_for_each = long; each = λ i d l. (duals i d l).in_range };
      first = λ e. record { whole = p.whole e; each = λ i d l. (duals i d l).first e };
    }

-- the cuts that are still to come, each with its mark, and the lines after them
pub record ReadCuts (s : Shape) (x m : ℕ) (items : List Item) : Type 0 where
  pub cuts : List (Cut × Option Mark)
  pub rest : List Item
  pub are : items ≡ cuts_items s.version s.size (x + 1) cuts ++ rest
  pub long : length cuts ≡ m
  pub each : AllByRecursion (IsMarkedCutOf s) cuts
  pub ends : Ends (want_nodes s) rest

no_cuts : (s : Shape) (x : ℕ) (items : List Item) → Ends (want_nodes s) items → ReadCuts s x 0 items
no_cuts s x items h = record { cuts = []; rest = items; are = refl; long = refl; each = tt; ends = h }

-- the cut whose lines stand in front of the rest, with its mark
record OneCut (s : Shape) (x : ℕ) (items rest : List Item) : Type 0 where
  cut : Cut × Option Mark
  are : items ≡ cut_items s.version s.size (x + 1, cut) ++ rest
  each : IsMarkedCutOf s cut

plain_cut : (s : Shape) (all x : ℕ) (items : List Item) (line : First (want_cut s all x) items) (said : IsPlainLine s x line.item) → IsVersion s.version
    → 1 ≤ s.size → (duals : ReadRuns s all x 0 None line.rest) → OneCut s x items duals.rest
unfolding cut_of
plain_cut s all x items line said version some duals =
    let part = is_part_of s said.part said.is_part in
    let cut = cut_of said.part duals.runs in
    let head : items ≡ says_cut (x + 1) (part_said s.version cut.part) ∷ line.rest =
    line.are ∙ ap (λ i. i ∷ line.rest) said.is ∙ ap (λ o. says_cut (x + 1) o ∷ line.rest) (sym part.said) in
    let runs = runs_of s duals.runs version some duals.said in
    let here : line.rest ≡ dual_items s.version s.size cut.duals ++ duals.rest =
    duals.are ∙ ap (λ rs. run_items s.size 0 rs ++ duals.rest) (sym runs) in
    record {
      cut = (cut, None);
      are = head ∙ ap (λ l. says_cut (x + 1) (part_said s.version cut.part) ∷ l) here;
      each = record { cut = of_cut s said.part duals.runs said.is_part (omega (arith, duals.long)) duals.said; mark = tt };
    }

marked_cut : (s : Shape) (all x : ℕ) (items : List Item) (line : First (want_cut s all x) items) (said : IsMarkedLine s x line.item)
    → (duals : ReadProved s all x 0 (s.size * s.size) line.rest) → OneCut s x items duals.rest
marked_cut s all x items line said duals =
    let cut : Cut = record { part = said.part; duals = duals.duals } in
    let mark : Mark = record { hubs = said.hubs; proofs = duals.proofs } in
    let range = All-from_recursion (IsDualInRange s.size) duals.duals duals.each in
    let third = said.marking.0 in
    let not_first : s.version ≡ 1 → ⊥ = later_not_first s.version (third_is_later s.version third) in
    record {
      cut = (cut, Some mark);
      are = line.are ∙ ap (λ i. i ∷ line.rest) said.is ∙ ap (λ l. says_marked (x + 1) said.part said.hubs ∷ l) duals.are;
      each = record {
        cut = record {
          in_range = record { part_least = said.marking.1; part_most = said.marking.2; one_for_each = duals.long; each = range };
          first = λ e. absurd (not_first e);
        };
        mark = (
          third,
          record {
            hubs = said.marking.3;
            one_for_each = duals.as_long;
            each = All-from_recursion (IsProofInRange s.size) duals.proofs duals.each_proof;
          },
        );
      };
    }

with_cut : (s : Shape) (x m : ℕ) (items rest : List Item) → OneCut s x items rest → ReadCuts s (x + 1) m rest → ReadCuts s x (suc m) items
with_cut s x m items rest one more =
    let here : List Item = cut_items s.version s.size (x + 1, one.cut) in
    let later : List Item = cuts_items s.version s.size (x + 1 + 1) more.cuts in
    record {
      cuts = one.cut ∷ more.cuts;
      rest = more.rest;
      are = one.are ∙ ap (λ l. here ++ l) more.are ∙ sym (append_assoc here later more.rest);
      long = ap suc more.long;
      each = (one.each, more.each);
      ends = more.ends;
    }

first_cut : (s : Shape) (all x : ℕ) (items : List Item) → (x ≡ all → ⊥) → Ends (after_cut s all x) items → First (want_cut s all x) items
first_cut s all x items left h = first_line (want_cut s all x) items (λ e. cc) (subst (λ stage. Ends stage items) (after_cut-more s all x left) h)

cut_duals : (s : Shape) (all x : ℕ) (items : List Item) → 1 ≤ s.size → Ends (want_dual s all x 0 None) items → ReadRuns s all x 0 None items
cut_duals s all x items some h =
    let some_commodity : 1 ≤ s.size * s.size = mul-pos some some in
    read_runs s all x (s.size * s.size) 0 None items (omega arith) (omega arith)
    (subst (λ stage. Ends stage items) (sym (after_dual-more s all x 0 None (λ e. omega (arith, e, some_commodity)))) h)

cut_proofs : (s : Shape) (all x : ℕ) (items : List Item) → 1 ≤ s.size → Ends (want_proved s all x 0) items → ReadProved s all x 0 (s.size * s.size) items
cut_proofs s all x items some h =
    let some_commodity : 1 ≤ s.size * s.size = mul-pos some some in
    read_proved s all x 0 (s.size * s.size) items (omega arith)
    (subst (λ stage. Ends stage items) (sym (after_proof-more s all x 0 (λ e. omega (arith, e, some_commodity)))) h)

-- a cut, with the lines that lead on
record CutStep (s : Shape) (all x : ℕ) (items : List Item) : Type 0 where
  rest : List Item
  one : OneCut s x items rest
  ends : Ends (after_cut s all (x + 1)) rest

cut_step : (s : Shape) (all x : ℕ) (items : List Item) → IsVersion s.version → 1 ≤ s.size → First (want_cut s all x) items → CutStep s all x items
cut_step s all x items version some line = elim (cut_wanted s all x line.item line.wanted) [
  | inl plain ↦
      (let duals = cut_duals s all x line.rest some (subst (λ i. Ends (after (want_cut s all x) i) line.rest) plain.is line.ends) in
      record { rest = duals.rest; one = plain_cut s all x items line plain version some duals; ends = duals.ends })
  | inr marked ↦
      (let duals = cut_proofs s all x line.rest some (subst (λ i. Ends (after (want_cut s all x) i) line.rest) marked.is line.ends) in
      record { rest = duals.rest; one = marked_cut s all x items line marked duals; ends = duals.ends })
]

pub read_cuts : (s : Shape) (all x m : ℕ) (items : List Item) → IsVersion s.version → 1 ≤ s.size → x + m ≡ all → Ends (after_cut s all x) items
    → ReadCuts s x m items
read_cuts s all x zero items version some whole h = no_cuts s x items (subst (λ stage. Ends stage items) (after_cut-all s all x (omega arith)) h)
read_cuts s all x (suc m) items version some whole h =
    let step = cut_step s all x items version some (first_cut s all x items (λ e. omega arith) h) in
    with_cut s x m items step.rest step.one (read_cuts s all (x + 1) m step.rest version some (omega arith) step.ends)
