use Rattle.std.proofs.Common.{length, take}
use Rattle.cert_scan.proofs.Stepping.{digits_after, digits_nothing, spoiled_after, spoiled_nothing, failed_after, failed_nothing}
use Rattle.std.proofs.lemmas.List.{length-take-le}
use Rattle.cert_scan.proofs.LineRuns.{letters_after, letters_nothing}
use Rattle.cert_scan.proofs.scanner.Scan.take_quietly.Goals as goal

pub returns-in-Number-clause-after : goal.returns-in-Number-clause-after
returns-in-Number-clause-after c = digits_after c.args.self.now c.in-Number.place c.in-Number.value c.more_digits-count.result.1
    (take c.more_digits-count.result.0 c.args.bytes.now) c.in-Number.is c.more_digits-count.ensures.spelled

pub returns-in-Number-clause-nothing : goal.returns-in-Number-clause-nothing
returns-in-Number-clause-nothing c = digits_nothing c.args.self.now c.in-Number.place c.in-Number.value c.more_digits-count.result.1
    (take c.more_digits-count.result.0 c.args.bytes.now) c.in-Number.is c.more_digits-count.ensures.spelled

pub returns-in-Spoiled-clause-after : goal.returns-in-Spoiled-clause-after
returns-in-Spoiled-clause-after c = spoiled_after c.args.self.now (take c.line_rest.result c.args.bytes.now) c.in-Spoiled.is c.line_rest.ensures.none

pub returns-in-Spoiled-clause-nothing : goal.returns-in-Spoiled-clause-nothing
returns-in-Spoiled-clause-nothing c = spoiled_nothing c.args.self.now (take c.line_rest.result c.args.bytes.now) c.in-Spoiled.is c.line_rest.ensures.none

pub returns-in-Failed-clause-after : goal.returns-in-Failed-clause-after
returns-in-Failed-clause-after c = failed_after c.args.self.now (take (length c.args.bytes.now) c.args.bytes.now) c.in-Failed.is

pub returns-in-Failed-clause-nothing : goal.returns-in-Failed-clause-nothing
returns-in-Failed-clause-nothing c = failed_nothing c.args.self.now (take (length c.args.bytes.now) c.args.bytes.now) c.in-Failed.is

pub returns-in-Keyword-clause-after : goal.returns-in-Keyword-clause-after
returns-in-Keyword-clause-after c = letters_after c.args.self.now c.in-Keyword.head c.in-Keyword.matched c.letters_ahead-count.result
    (take c.letters_ahead-count.result c.args.bytes.now) c.in-Keyword.is c.letters_ahead-count.ensures.letters
    (length-take-le c.letters_ahead-count.result c.args.bytes.now c.letters_ahead-count.ensures.within)

pub returns-in-Keyword-clause-nothing : goal.returns-in-Keyword-clause-nothing
returns-in-Keyword-clause-nothing c = letters_nothing c.args.self.now c.in-Keyword.head c.in-Keyword.matched
    (take c.letters_ahead-count.result c.args.bytes.now) c.in-Keyword.is c.letters_ahead-count.ensures.letters
