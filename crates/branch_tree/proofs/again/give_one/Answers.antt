use Rattle.std.proofs.Common.{◌≡◌, ◌<◌, ℕ, [], ◌∷◌, ◌++◌, length, refl, subst, arith, rules}
use Rattle.hub_spec.specs.Limits.{most_cuts}
use Rattle.cut_pool.specs.Entries.{given_entry}
use Rattle.cut_pool.proofs.Grown.{on_ok_at}
use Rattle.branch_tree.proofs.Beginning.{given_at}
use Rattle.branch_tree.proofs.again.give_one.Goals as goal

pub returns : goal.returns
returns c =
    let before = c.args.progress.now in
    let few : length before.pool.entries < most_cuts = omega (arith, c.len.ensures, c.if-len.false) in
    let size : c.size-size.result ≡ c.args.task.now.instance.now.size = c.size-size.ensures.value in
    let added = subst (λ (n : ℕ). c.add_given.new.self.entries ≡ before.pool.entries ++ given_entry n c.args.cut ∷ []) size
    (on_ok_at c.add_given.result (search rules) c.add_given.ensures.added) in
    record {
      at = given_at c.args.task.now before _ c.args.cut c.requires.going few c.requires.cut c.requires.in_range added
          refl refl refl refl refl;
    }
