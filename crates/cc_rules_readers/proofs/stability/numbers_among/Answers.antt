use Rattle.std.proofs.Common.{◌++◌, ℕ, List, Option, ap, ◌∙◌}
use Rattle.cc_rules_readers.specs.Points.{numbers_concerned}
use Rattle.cc_rules_readers.specs.View.{named_view}
use Rattle.cc_rules_readers.proofs.Unstable.{put_among, all_among, number_of_cell}
use Rattle.cc_rules_readers.proofs.stability.numbers_among.Goals as goal
use Rattle.cc_rules_asked.specs.CcStateKeys.Tracked.{tracked}

pub loop-cell-init : goal.loop-cell-init
loop-cell-init c =
    let here : List (Option ℕ) → List (Option ℕ) = λ ks. ks ++ numbers_concerned c.args.rules.now.program.now (named_view c.args.keys) c.all-objects.result.now in
    ap here c.new-numbers.ensures.items ∙ ap (numbers_concerned c.args.rules.now.program.now (named_view c.args.keys)) (c.all-objects.ensures ∙ c.requires.tracked)

pub loop-cell-preserved : goal.loop-cell-preserved
loop-cell-preserved c =
    put_among c.args.rules.now.program.now (named_view c.args.keys) c.all-objects.result.now c.loop-cell.cell c.loop-cell.numbers.items c.put_number.new.numbers.items (numbers_concerned c.args.rules.now.program.now (named_view c.args.keys) (tracked c.args.rules.now.program.now)) c.concerns-is_among.result c.key_at-number.result
    c.loop-cell-test.true c.concerns-is_among.ensures
    (number_of_cell c.args.rules.now.program.now c.args.rules.now c.all-objects.result.now c.all-key_numbers.result.now c.loop-cell.cell c.key_at-number.result c.requires c.all-objects.ensures c.all-key_numbers.ensures c.loop-cell-test.true c.key_at-number.ensures)
    c.in_ok-put_number.ensures c.loop-cell.invariant

pub returns : goal.returns
returns c =
    all_among c.args.rules.now.program.now (named_view c.args.keys) c.all-objects.result.now c.loop-cell.cell c.loop-cell.numbers.items (numbers_concerned c.args.rules.now.program.now (named_view c.args.keys) (tracked c.args.rules.now.program.now)) c.loop-cell-test.false c.loop-cell.invariant
