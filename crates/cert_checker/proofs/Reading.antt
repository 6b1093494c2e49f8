-- What was read of a file, and the verdict on what is held.
use Rattle.std.proofs.Common.{◌≡◌, ℕ, ◌+◌, ◌<◌, List, ◌++◌, length, take, drop, ◌≤◌, Result, Ok, Err, IfOk, Option, Some, None, IsSome, inl, inr, sym, ap, subst, ◌∙◌, append-nil, arith}
use Rattle.std.specs.Io.KnownBytes.{Consumes, IsAtEnd}
use Rattle.std.proofs.Math.Seq.{drop-append_seam}
use Rattle.std.proofs.lemmas.List.{length-append, length-take-le}
use Rattle.hub_io.specs.Outside.{Files, Starts, Holds, HoldsMore, LeavesRest, TellsOf}
use Rattle.hub_spec.specs.Problem.{Problem, IsProblem}
use Rattle.cert_spec.specs.Verdicts.{Verdict, Why, too_long, certificate_limit}
use Rattle.cert_checker.specs.Shows.{verdict_of}
use Rattle.cert_checker.specs.declared.verdicts.Ending.{Ending}
use Rattle.cert_checker.specs.declared.endings.NoEnding.{NoEnding}
use Rattle.cert_checker.specs.Held.{IsVerdictOnHeld, EndsFor, EndsOver}
use Rattle.cert_checker.proofs.Ends.{marks_shown}
use Rattle.cert_checker.proofs.Judged.{shown}
use Rattle.cert_checker.proofs.TooLong.{too_long_held}

-- where a shelf knows a file that it begins, it is known what is left of the file
pub told_first : (held : Option Files) (name : List ℕ) (first : Option (List ℕ)) → Starts held name first → TellsOf held name → IsSome first
told_first None name first starts tells = absurd tells
told_first (Some files) name first starts tells = starts.0

-- and stays so
pub told_on : (first last : Option (List ℕ)) (bytes : List ℕ) → Consumes first last bytes → IsSome first → IsSome last
told_on None last bytes h some = absurd cc
told_on (Some xs) None bytes h some = absurd h
told_on (Some xs) (Some ys) bytes h some = cc

-- at the end all bytes were read
all_read : (held : Option Files) (name : List ℕ) (first last : Option (List ℕ)) (bytes : List ℕ)
    → Starts held name first → Consumes first last bytes → IsAtEnd last → Holds held name bytes
all_read None name first last bytes starts h end = tt
all_read (Some files) name None last bytes starts h end = absurd cc
all_read (Some files) name (Some xs) None bytes starts h end = absurd h
all_read (Some files) name (Some xs) (Some ys) bytes starts h end =
    starts.1 ∙ ap (λ l. Some l) (h ∙ ap (λ l. bytes ++ l) end ∙ append-nil bytes)

verdict_at_end : (p : Problem) (held : Option Files) (name : List ℕ) (first last : Option (List ℕ)) (bytes : List ℕ) (verdict : Verdict)
    → IsProblem p → Starts held name first → Consumes first last bytes → IsAtEnd last → Why p bytes verdict
    → IsVerdictOnHeld p held name verdict
verdict_at_end p held name first last bytes verdict ok starts read end why = record {
  bytes = bytes;
  are_held = all_read held name first last bytes starts read end;
  why = why;
  proves = shown p bytes verdict ok why;
  marks = marks_shown p bytes verdict ok why;
}

-- where one byte more than the limit was read, the rest is left
rest_left : (held : Option Files) (name : List ℕ) (first last : Option (List ℕ)) (bytes : List ℕ) (limit : ℕ)
    → Starts held name first → Consumes first last bytes → length bytes ≡ limit + 1 → LeavesRest held last name limit
rest_left None name first last bytes limit starts h count = tt
rest_left (Some files) name None last bytes limit starts h count = absurd cc
rest_left (Some files) name (Some xs) None bytes limit starts h count = absurd h
rest_left (Some files) name (Some xs) (Some ys) bytes limit starts h count = (
  xs,
  starts.1,
  (let e = ap length h ∙ length-append bytes ys in omega (arith, e, count)),
  ap (λ l. Some l) (sym (drop-append_seam bytes ys) ∙ ap (λ n. drop n (bytes ++ ys)) count ∙ ap (λ l. drop (limit + 1) l) (sym h)),
)

-- so more is held than the limit
more_held : (held : Option Files) (name : List ℕ) (last : Option (List ℕ)) (limit : ℕ) → LeavesRest held last name limit → HoldsMore held name limit
more_held None name last limit rest = tt
more_held (Some files) name last limit rest = (rest.0, rest.1, rest.2)

-- the verdict that ends the check of what was left of a file is the one on all of it
verdict_for : (p : Problem) (held : Option Files) (name : List ℕ) (first last : Option (List ℕ)) (bytes : List ℕ) (verdict : Verdict)
    → IsProblem p → Starts held name first → Consumes first last bytes → EndsFor p last bytes verdict → IsVerdictOnHeld p held name verdict
verdict_for p held name first last bytes verdict ok starts read (inl ends) = verdict_at_end p held name first last bytes verdict ok starts read ends.1 ends.2
verdict_for p held name first last bytes verdict ok starts read (inr over) =
    subst (λ (v : Verdict). IsVerdictOnHeld p held name v) (sym over.1)
    (too_long_held p held name (more_held held name last certificate_limit (rest_left held name first last bytes certificate_limit starts read over.0)))

pub verdict_over : (p : Problem) (held : Option Files) (name : List ℕ) (first last : Option (List ℕ)) (verdict : Verdict)
    → IsProblem p → Starts held name first → EndsOver p first last verdict → IsVerdictOnHeld p held name verdict
verdict_over p held name first last verdict ok starts e = verdict_for p held name first last e.bytes verdict ok starts e.read e.ends

-- where that is that there are too many, the rest is left
rest_for : (p : Problem) (held : Option Files) (name : List ℕ) (first last : Option (List ℕ)) (bytes : List ℕ)
    → Starts held name first → Consumes first last bytes → EndsFor p last bytes too_long → LeavesRest held last name certificate_limit
rest_for p held name first last bytes starts read (inl ends) =
    absurd (let over : certificate_limit < length bytes = ends.2 in omega (arith, over, ends.0))
rest_for p held name first last bytes starts read (inr over) = rest_left held name first last bytes certificate_limit starts read over.0

pub rest_over : (p : Problem) (held : Option Files) (name : List ℕ) (first last : Option (List ℕ))
    → Starts held name first → EndsOver p first last too_long → LeavesRest held last name certificate_limit
rest_over p held name first last starts e = rest_for p held name first last e.bytes starts e.read e.ends

-- of any answer that ends so
pub judged_over : (p q : Problem) (held : Option Files) (name : List ℕ) (first last : Option (List ℕ)) (r : Result Ending NoEnding)
    → IsProblem p → q ≡ p → Starts held name first → IfOk r (λ e. EndsOver q first last (verdict_of e))
    → IfOk r (λ e. IsVerdictOnHeld p held name (verdict_of e))
judged_over p q held name first last (Ok e) ok same starts ends =
    verdict_over p held name first last (verdict_of e) ok starts (subst (λ (x : Problem). EndsOver x first last (verdict_of e)) same ends)
judged_over p q held name first last (Err e) ok same starts ends = tt

-- a prefix of a piece behind what was read
pub read_more : (bytes piece : List ℕ) (n : ℕ) → n ≤ length piece → length (bytes ++ take n piece) ≡ length bytes + n
read_more bytes piece n within = length-append bytes (take n piece) ∙ ap (λ m. length bytes + m) (length-take-le n piece within)
