use Rattle.std.proofs.Common.{rules}
use Rattle.claim_board.proofs.Closings.{closed_run, each_once, all_counted, all_taken}
use Rattle.claim_board.specs.Places.{hand_of, seats_of}
use Rattle.claim_board.proofs.boards.Board.close.Goals as goal

pub returns-clause-ran : goal.returns-clause-ran
returns-clause-ran c =
    closed_run c.args.self.table.shared.key c.args.self.blocks _ _ _ _ c.word-next.result c.min.result
    c.args.self.counts c.close_with-closed.ensures.values.2 c.word-next.ensures (search rules)

pub returns-clause-each : goal.returns-clause-each
returns-clause-each c = each_once c.args.self.blocks (seats_of c.args.self) (hand_of c.args.seat) c.min.result (returns-clause-ran c) c.requires.1

pub returns-clause-count : goal.returns-clause-count
returns-clause-count c = all_counted c.args.self.blocks (seats_of c.args.self) (hand_of c.args.seat) c.min.result (returns-clause-ran c) c.requires.1

pub returns-clause-whole : goal.returns-clause-whole
returns-clause-whole c = all_taken c.args.self.blocks (seats_of c.args.self) (hand_of c.args.seat) c.min.result (returns-clause-ran c) c.requires.1
