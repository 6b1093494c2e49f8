use Rattle.std.proofs.Common.{◌+◌, [], ◌∷◌, length, drop, map, refl, sym, ap, subst, ◌∙◌, arith}
use Rattle.std.proofs.lemmas.List.{drop_all, length-map, get_or-map}
use Rattle.std.proofs.lemmas.List.Elements.{All-get_or}
use Rattle.cert_spec.specs.Lines.{says_nodes, says_tree, says_end}
use Rattle.cert_scan.specs.declared.items.Item.TheVariants.{Nodes}
use Rattle.hub_model.specs.Lines.{tree_line_of}
use Rattle.cert_checker.specs.Walks.{HasSmallDenominator}
use Rattle.cert_checker.proofs.Walking.{may_first, front_start, front_more, front_may, front_end}
use Rattle.cert_checker.proofs.Holding.{tree_left, next_tree_line}
use Rattle.cert_checker.proofs.walks.take_tree.Goals as goal

pub take_alone-requires : goal.take_alone-requires
take_alone-requires c =
    let lines = c.args.lines.now in
    let line = says_nodes (length (map tree_line_of lines)) in
    (line, ap (λ n. Nodes n ∷ []) (length-map lines tree_line_of), may_first (line ∷ []) (tree_left lines) c.requires.may)

pub loop-line-init : goal.loop-line-init
loop-line-init c =
    let lines = c.args.lines.now in
    let line = says_nodes (length (map tree_line_of lines)) in
    record {
      front = front_more (line ∷ []) (tree_left lines) (front_start c.args.checks.now (line ∷ tree_left lines)) refl
          (c.in_ok-take_alone.ensures.taken line (ap (λ n. Nodes n ∷ []) (length-map lines tree_line_of)));
      instance = c.in_ok-take_alone.ensures.instance;
    }

pub take_tree_line-requires-clause-line : goal.take_tree_line-requires-clause-line
take_tree_line-requires-clause-line c =
    let lines = c.args.lines.now in
    let t = c.loop-line.line-index in
    let line = c.line-item.result in
    let here = All-get_or HasSmallDenominator (map tree_line_of lines) t (tree_line_of line) (omega (arith, length-map lines tree_line_of)) c.requires.lines in
    subst HasSmallDenominator (get_or-map tree_line_of lines t line (tree_line_of line) (omega arith) ∙ ap tree_line_of (sym c.line-item.is)) here

pub take_tree_line-requires-clause-may : goal.take_tree_line-requires-clause-may
take_tree_line-requires-clause-may c =
    let lines = c.args.lines.now in
    let t = c.loop-line.line-index in
    front_may (says_tree (tree_line_of c.line-item.result) ∷ []) (tree_left (drop (t + 1) lines)) c.requires.may c.loop-line.invariant.front
    (next_tree_line lines t c.line-item.result (omega arith) c.line-item.is)

pub loop-line-preserved : goal.loop-line-preserved
loop-line-preserved c =
    let lines = c.args.lines.now in
    let t = c.loop-line.line-index in
    record {
      front = front_more (says_tree (tree_line_of c.line-item.result) ∷ []) (tree_left (drop (t + 1) lines)) c.loop-line.invariant.front
          (next_tree_line lines t c.line-item.result (omega arith) c.line-item.is) c.in_ok-take_tree_line.ensures.taken;
      instance = c.in_ok-take_tree_line.ensures.instance ∙ c.loop-line.invariant.instance;
    }

pub take_alone-requires-2 : goal.take_alone-requires-2
take_alone-requires-2 c =
    let left = ap tree_left (drop_all c.loop-line.line-index c.args.lines.now (omega arith)) in
    (says_end, refl, front_may (says_end ∷ []) [] c.requires.may c.loop-line.invariant.front left)

pub returns-clause-taken : goal.returns-clause-taken
returns-clause-taken c =
    let left = ap tree_left (drop_all c.loop-line.line-index c.args.lines.now (omega arith)) in
    front_end (front_more (says_end ∷ []) [] c.loop-line.invariant.front left (c.in_ok-take_alone-2.ensures.taken says_end refl)) refl
