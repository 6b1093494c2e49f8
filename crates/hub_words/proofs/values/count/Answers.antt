use Rattle.std.proofs.Common.{◌≤◌, ℕ, sym, subst, Option}
use Rattle.std.specs.Prelude.{IfSome}
use Rattle.hub_words.proofs.Counts.{count_limits}
use Rattle.hub_words.proofs.values.count.Goals as goal

pub returns-clause-limits : goal.returns-clause-limits
returns-clause-limits c =
    let P : Option ℕ → Type 0 = λ o. IfSome o (λ n. (c.args.least ≤ n) × (n ≤ c.args.most)) in
    subst P (sym c.read_count.ensures) (count_limits c.args.least c.args.most c.args.word.now)
