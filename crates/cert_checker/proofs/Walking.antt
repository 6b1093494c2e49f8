-- Lines that a check takes one behind the other.
use Rattle.std.proofs.Common.{◌≡◌, ℕ, ◌+◌, ◌<◌, List, [], ◌∷◌, ◌++◌, length, drop, get_or, flat_map, refl, sym, ap, subst, ◌∙◌, append_assoc, append-nil}
use Rattle.std.proofs.lemmas.List.{drop_more, at_drop_more}
use Rattle.cert_spec.specs.Lines.{Item as Line}
use Rattle.cert_spec.specs.Grammar.{Stage, Leads, after}
use Rattle.cert_conditions.specs.ListLines.{CanLead, HasLines, MayTakeLines, TakesLines}
use Rattle.cert_conditions.specs.declared.checks.Checks.{Checks}

leads_front : (first : Stage) (a b : List Line) (last : Stage) → Leads first (a ++ b) last → (mid : Stage) × Leads first a mid
leads_front first [] b last h = (first, refl)
leads_front first (l ∷ a) b last h = let r = leads_front (after first l) a b last h.1 in (r.0, (h.0, r.1))

can_front : (a b : List Line) → CanLead (a ++ b) → CanLead a
can_front a b h = leads_front _ a b h.0 h.1

-- ---- lines, and then others

pub may_first : {a : Checks} (xs ys : List Line) → MayTakeLines a (xs ++ ys) → MayTakeLines a xs
may_first xs ys may = (may.0, may.1, can_front (may.0 ++ xs) ys (subst CanLead (sym (append_assoc may.0 xs ys)) may.2))

pub may_then : {a b : Checks} (xs ys : List Line) → MayTakeLines a (xs ++ ys) → TakesLines a xs b → MayTakeLines b ys
may_then xs ys may t =
    let all : CanLead ((may.0 ++ xs) ++ ys) = subst CanLead (sym (append_assoc may.0 xs ys)) may.2 in
    (may.0 ++ xs, t may.0 may.1 (can_front (may.0 ++ xs) ys all), all)

pub then_takes : {a b c : Checks} (xs ys : List Line) → TakesLines a xs b → TakesLines b ys c → TakesLines a (xs ++ ys) c
then_takes {c = c} xs ys t u lines has can =
    let all : CanLead ((lines ++ xs) ++ ys) = subst CanLead (sym (append_assoc lines xs ys)) can in
    subst (λ ls. HasLines ls c) (append_assoc lines xs ys) (u (lines ++ xs) (t lines has (can_front (lines ++ xs) ys all)) all)

-- ---- lines by what is left of them

-- some of these lines were taken, and these are left
pub record HasFront (first now : Checks) (left whole : List Line) : Type 0 where
  pub done : List Line
  pub split : whole ≡ done ++ left
  pub taken : TakesLines first done now

pub front_start : (at : Checks) (whole : List Line) → HasFront at at whole whole
front_start at whole = record {
  done = [];
  split = refl;
  taken = λ lines has can. subst (λ ls. HasLines ls at) (sym (append-nil lines)) has;
}

pub front_more : {first now next : Checks} {left whole : List Line} (xs later : List Line) → HasFront first now left whole → left ≡ xs ++ later
    → TakesLines now xs next → HasFront first next later whole
front_more {first} {now} {next} {left} {whole} xs later h e t = record {
  done = h.done ++ xs;
  split = h.split ∙ ap (λ ls. h.done ++ ls) e ∙ sym (append_assoc h.done xs later);
  taken = λ lines has can.
      let all : CanLead ((lines ++ h.done) ++ xs) = subst CanLead (sym (append_assoc lines h.done xs)) can in
      let so_far = h.taken lines has (can_front (lines ++ h.done) xs all) in
      subst (λ ls. HasLines ls next) (append_assoc lines h.done xs) (t (lines ++ h.done) so_far all);
}

pub front_may : {first now : Checks} {left whole : List Line} (xs later : List Line) → MayTakeLines first whole → HasFront first now left whole
    → left ≡ xs ++ later → MayTakeLines now xs
front_may {first} {now} {left} {whole} xs later may h e =
    let lines = may.0 in
    let all : CanLead (((lines ++ h.done) ++ xs) ++ later) =
    subst CanLead
    (ap (λ ls. lines ++ ls) (h.split ∙ ap (λ ls. h.done ++ ls) e) ∙ sym (append_assoc lines h.done (xs ++ later)) ∙ sym (append_assoc (lines ++ h.done) xs later))
    may.2 in
    let next = can_front ((lines ++ h.done) ++ xs) later all in
    (lines ++ h.done, h.taken lines may.1 (can_front (lines ++ h.done) xs next), next)

pub front_end : {first now : Checks} {left whole : List Line} → HasFront first now left whole → left ≡ [] → TakesLines first whole now
front_end {first} {now} {left} {whole} h e =
    subst (λ ls. TakesLines first ls now) (sym (h.split ∙ ap (λ ls. h.done ++ ls) e ∙ append-nil h.done)) h.taken

-- ---- the next of a list

-- of lines themselves
pub next_of : (lines : List Line) (i : ℕ) (l d : Line) → i < length lines → l ≡ get_or lines i d → drop i lines ≡ (l ∷ []) ++ drop (i + 1) lines
next_of lines i l d less e = drop_more lines i d less ∙ ap (λ x. x ∷ drop (i + 1) lines) (sym e)

-- of what makes lines
pub next_by : {X : Type 0} (f : X → List Line) (xs : List X) (i : ℕ) (d : X) (lines : List Line) → i < length xs → lines ≡ f (get_or xs i d)
    → flat_map f (drop i xs) ≡ lines ++ flat_map f (drop (i + 1) xs)
next_by f xs i d lines less e = at_drop_more (flat_map f) xs i d less ∙ ap (λ ls. ls ++ flat_map f (drop (i + 1) xs)) (sym e)
