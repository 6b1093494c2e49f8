-- What is said of the bytes of the older certificate that is named.
use Rattle.std.proofs.Common.{◌≡◌, List, ℕ, Option, Some, None, Ok, Err, inl, inr, ⊎_elim, refl, sym, subst, ap, ◌∙◌}
use Rattle.std.specs.Prelude.{IfSome}
use Rattle.std.proofs.lemmas.Option.{none-some}
use Rattle.hub_io.specs.Outside.{Files}
use Rattle.hub_spec.specs.Problem.{Problem}
use Rattle.hub_spec.specs.Certificates.{HasCutsOf}
use Rattle.search_spec.specs.Again.{Start, start_of, IsStartOf}
use Rattle.search_spec.specs.Costs.{IsAtMostOf}
use Rattle.cert_spec.specs.Stated.{Stated}
use Rattle.cert_spec.specs.Grammar.{bad_line, ended}
use Rattle.cert_spec.specs.Verdicts.{Older, serves, serves_not, unread, over_limit, IsOlder}
use Rattle.cert_spec.proofs.OlderTexts.{one_older_from}
use Rattle.cert_spec.proofs.OneText.{one_certificate_lem}
use Rattle.cert_spec.proofs.TextOrFault.{each_is_text_or_fault_lem}
use Rattle.cert_conditions.specs.Kinds.{kind_of}
use Rattle.cert_checker.specs.Readings.{IsSized, IsReadAs}
use Rattle.cert_checker.specs.declared.tested.Tested.TheVariants.{Cuts, Size}
use Rattle.cert_checker.specs.declared.verdicts.Ending.{Ending}
use Rattle.cert_checker.specs.declared.verdicts.Ending.TheVariants.{Optimal, Bounds, No, BadLine, Ended, TooLong}
use Rattle.cert_checker.proofs.Sizes.{IsServing, still_serving}
use Rattle.hub_words.specs.Requests.{How, follow, again, freely, older_named}
use Rattle.hub_commands.specs.Methods.{warm}
use Rattle.hub_commands.specs.Older.{IsSaid, HoldsOlder, MayBegin, BegunAt}
use Rattle.hub_commands.specs.Judging.{IsReadFrom}
use Rattle.hub_commands.specs.Solving.{TellsWhy, GoesBy, IsBegun}
use Rattle.hub_commands.specs.Lines.{older_line}
use Rattle.hub_sources.proofs.OneReading.{same_bytes}

-- what is said of bytes that an ending refuses
abbrev said_by : Ending → Older
said_by (No kind line) = serves_not (kind_of kind) line
said_by (BadLine line) = unread (bad_line line)
said_by (Ended line) = unread (ended line)
said_by other = over_limit

cuts_refused : (p : Problem) (bytes : List ℕ) (e : Ending) → IsReadAs p Cuts bytes (Err e) → IsOlder p bytes (said_by e) × TellsWhy (said_by e) e
cuts_refused p bytes (Optimal cost) h = absurd h
cuts_refused p bytes (Bounds bound cost) h = absurd h
cuts_refused p bytes (No kind line) h = (h, (refl, refl))
cuts_refused p bytes (BadLine line) h = (h, (refl, refl))
cuts_refused p bytes (Ended line) h = (h, (refl, refl))
cuts_refused p bytes TooLong h = (h, (refl, refl))

size_refused : (p : Problem) (bytes : List ℕ) (e : Ending) → IsReadAs p Size bytes (Err e) → IsSized p bytes (said_by e) × TellsWhy (said_by e) e
size_refused p bytes (Optimal cost) h = absurd h
size_refused p bytes (Bounds bound cost) h = absurd h
size_refused p bytes (No kind line) h = (h, (refl, refl))
size_refused p bytes (BadLine line) h = (h, (refl, refl))
size_refused p bytes (Ended line) h = (h, (refl, refl))
size_refused p bytes TooLong h = (h, (refl, refl))

-- where bytes serve nothing else is said of them
still_said : (p : Problem) (how : How) (bytes : List ℕ) (k : Stated) (said : Older) → IsSaid how p bytes (serves k) → IsSaid how p bytes said
    → IsServing said
still_said p (follow rule) bytes k said h g = still_serving p bytes k said h g
still_said p (again older) bytes k said h g =
    let one = one_older_from one_certificate_lem each_is_text_or_fault_lem p bytes in
    subst IsServing (one.2 (serves k) h ∙ sym (one.2 said g)) tt
still_said p (freely gap from) bytes k said h g = still_serving p bytes k said h g

-- no line tells of one that serves
no_line : (said : Older) (line : List ℕ) → IsServing said → older_line said ≡ Some line → ⊥
no_line (serves older) line serving e = none-some line e
no_line (serves_not kind place) line serving e = serving
no_line (unread fault) line serving e = serving
no_line over_limit line serving e = serving

-- where a search may begin no line tells of what is said
pub no_line_where_begun : (files : Files) (p : Problem) (how : How) (said : Older) (line : List ℕ) → MayBegin (Some files) p how
    → HoldsOlder (Some files) p how said → older_line said ≡ Some line → ⊥
no_line_where_begun files p how said line may g tells =
    ⊎_elim (λ (none : older_named how ≡ None). none-some g.older (sym none ∙ g.named))
    (λ (serving : (k : Stated) × HoldsOlder (Some files) p how (serves k)).
    (let h = serving.1 in
    let same : Some g.older ≡ Some h.older = sym g.named ∙ h.named in
    let name : g.older ≡ h.older = cc in
    let there : g.bytes ≡ h.bytes =
    same_bytes files h.older g.bytes h.bytes (subst (λ (f : List ℕ). files f ≡ Some g.bytes) name g.bytes_held) h.bytes_held in
    no_line said line (still_said p how h.bytes serving.0 said h.is (subst (λ (b : List ℕ). IsSaid how p b said) there g.is)) tells))
    may

-- a search begins again with the start of one that serves
pub begun_again : (held : Option Files) (p : Problem) (how : How) (name : List ℕ) (k : Stated) (start : Start) → how ≡ again name
    → IsReadFrom p Cuts held name (Ok k) → start ≡ start_of k.proof → (HasCutsOf p k.proof → IsStartOf p start) → GoesBy held p how (warm start)
begun_again held p how name k start is read same starts =
    let older : HoldsOlder held p (again name) (serves k) =
    record { older = name; named = refl; bytes = read.bytes; bytes_held = read.bytes_held; is = read.is } in
    subst (λ (x : How). GoesBy held p x (warm start)) (sym is) (k, older, ap (λ s. warm s) same, starts read.is.2)

pub again_refused : (held : Option Files) (p : Problem) (how : How) (name : List ℕ) (e : Ending) → how ≡ again name
    → IsReadFrom p Cuts held name (Err e) → (said : Older) × TellsWhy said e × HoldsOlder held p how said
again_refused held p how name e is read =
    let refused = cuts_refused p read.bytes e read.is in
    let older : HoldsOlder held p (again name) (said_by e) =
    record { older = name; named = refl; bytes = read.bytes; bytes_held = read.bytes_held; is = refused.0 } in
    (said_by e, refused.1, subst (λ (x : How). HoldsOlder held p x (said_by e)) (sym is) older)

-- and one that follows no rule may begin with it
pub may_begin : (held : Option Files) (p : Problem) (how : How) (gap : ℕ) (name : List ℕ) (k : Stated) → how ≡ freely gap (Some name)
    → IsReadFrom p Size held name (Ok k) → HoldsOlder held p how (serves k)
may_begin held p how gap name k is read =
    let older : HoldsOlder held p (freely gap (Some name)) (serves k) =
    record { older = name; named = refl; bytes = read.bytes; bytes_held = read.bytes_held; is = read.is } in
    subst (λ (x : How). HoldsOlder held p x (serves k)) (sym is) older

pub freely_refused : (held : Option Files) (p : Problem) (how : How) (gap : ℕ) (name : List ℕ) (e : Ending) → how ≡ freely gap (Some name)
    → IsReadFrom p Size held name (Err e) → (said : Older) × TellsWhy said e × HoldsOlder held p how said
freely_refused held p how gap name e is read =
    let refused = size_refused p read.bytes e read.is in
    let older : HoldsOlder held p (freely gap (Some name)) (said_by e) =
    record { older = name; named = refl; bytes = read.bytes; bytes_held = read.bytes_held; is = refused.0 } in
    (said_by e, refused.1, subst (λ (x : How). HoldsOlder held p x (said_by e)) (sym is) older)

pub begun_may : (held : Option Files) (p : Problem) (how : How) (cost : ℕ) → BegunAt held p how cost → MayBegin held p how
begun_may held p how cost begun = ⊎_elim (λ none. inl none) (λ older. inr (older.0, older.1)) begun

-- where it began with this, and the hubs of the older certificate cost at least so much
pub begun_at : (held : Option Files) (p : Problem) (how : How) (older : Option Stated) (cost : ℕ) → IsBegun held p how older
    → IfSome older (λ k. IsAtMostOf p k.proof.plan.hubs cost) → BegunAt held p how cost
begun_at held p how None cost begun at_most = inl begun
begun_at held p how (Some older) cost begun at_most = inr (older, begun, at_most)
