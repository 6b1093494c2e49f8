use Rattle.std.proofs.Common.{◌≡◌, ℕ, Option, None, ap, ◌∙◌}
use Rattle.std.specs.Prelude.{option_map}
use Rattle.std.proofs.lemmas.Result.{IfOk-weaker}
use Rattle.hub_spec.specs.Trees.{preorder}
use Rattle.search_spec.specs.Choices.{barren_end}
use Rattle.ascent_search.proofs.BranchEnds.{lines_told, none_told, number_barren, block_barren, is_open}
use Rattle.ascent_search.proofs.ends.barren_line.Goals as goal
use Rattle.ascent_search.proofs.ends.barren_line.Goals.{After-end_by_number}

-- the line that ends the branch by its numbers, if there is one
told : (c : After-end_by_number)
    → lines_told c.end_by_number.result ≡ option_map preorder (barren_end c.args.instance.now.wanted c.args.branch.now)
told c =
    c.end_by_number.ensures ∙ ap (λ (o : Option ℕ). option_map preorder (barren_end o c.args.branch.now)) c.wanted.ensures.value

no_end : (c : After-end_by_number) → c.end_by_number.result ≡ None → barren_end c.args.instance.now.wanted c.args.branch.now ≡ None
no_end c none = none_told (barren_end c.args.instance.now.wanted c.args.branch.now) c.end_by_number.result (told c) none

pub returns-in-Some-clause-barren : goal.returns-in-Some-clause-barren
returns-in-Some-clause-barren c =
    number_barren c.args.instance.now c.args.branch.now c.end_by_number.result c.in-Some.line c.wanted.ensures.problem c.requires
    (told (goal.at.returns-in-Some-clause-barren c).After-end_by_number) c.in-Some.is

pub blocked_line-requires-clause-no_end : goal.blocked_line-requires-clause-no_end
blocked_line-requires-clause-no_end c = no_end (goal.at.blocked_line-requires-clause-no_end c).After-end_by_number c.in_default.is

pub returns-clause-barren : goal.returns-clause-barren
returns-clause-barren c =
    let goes = no_end (goal.at.returns-clause-barren c).After-end_by_number c.in_default.is in
    IfOk-weaker c.blocked_line.result _ _
    (λ line is. block_barren c.args.instance.now c.args.branch.now line c.wanted.ensures.problem c.requires goes is) c.blocked_line.ensures

pub returns-clause-open : goal.returns-clause-open
returns-clause-open c =
    let goes = no_end (goal.at.returns-clause-open c).After-end_by_number c.in_default.is in
    IfOk-weaker c.blocked_line.result _ _ (λ line is none. is_open c.args.instance.now c.args.branch.now line goes is none) c.blocked_line.ensures
