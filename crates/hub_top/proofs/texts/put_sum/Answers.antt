use Rattle.std.proofs.Common.{◌≡◌, ℕ, List, ◌++◌, codes, decimal, SFits, to_z-of_z, subst, ap, ◌∙◌, rules}
use Rattle.std.specs.Int.{w128}
use Rattle.hub_io.specs.Outside.{Puts}
use Rattle.hub_model.specs.Amounts.{natural}
use Rattle.hub_top.specs.Texts.{blame_words, fault_line}
use Rattle.hub_sources.specs.Blames.{blame_of}
use Rattle.hub_top.proofs.texts.put_sum.Goals as goal

pub returns : goal.returns
unfolding fault_line
returns g c =
    let fits : SFits w128 c.args.sum = search rules in
    let count : c.natural_of.result ≡ natural c.args.sum = c.natural_of.ensures ∙ ap natural (to_z-of_z fits) in
    let P : List ℕ → ℕ → Type 0 = λ words n. Puts g.K.Sink.taken g.K.Sink.faults c.args.sink.now c.put_line.new.sink c.put_line.result
    (words ++ (codes "11 TooCostly " ++ (decimal n ++ codes "\n"))) in
    subst (λ n. P (blame_words (blame_of c.args.file)) n) count
    (subst (λ words. P words c.natural_of.result) c.words_of.ensures c.put_line.ensures)
