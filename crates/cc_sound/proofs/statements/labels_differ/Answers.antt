use Rattle.std.proofs.Common.{arith, rules, ◌≡◌, ◌∙◌, ◌+◌, ◌-◌, true, false, length, length-drop, take, take_all, drop, sym}
use Rattle.cc_program.specs.declared.stmt.Case.{out-Case}
use Rattle.cc_typed.specs.CcSyntax.Statements.{labels_of}
use Rattle.cc_typed.proofs.CcSyntax.Shapes.{read_at}
use Rattle.cc_sound.specs.Cases.{apart_from}
use Rattle.cc_sound.proofs.LabelLemmas.{first_fails, first_differs, none_left}
use Rattle.cc_sound.proofs.statements.labels_differ.Goals as goal

pub returns-then-not-differ_from : goal.returns-then-not-differ_from
returns-then-not-differ_from c =
    let cases = c.args.cases.now in
    let i = c.loop-i.i in
    let case = c.index-cases-i.result in
    let g = read_at cases i case c.index-cases-i.is c.loop-i-test.true in
    let t : take (length cases - (i + 1)) (drop (i + 1) cases) ≡ drop (i + 1) cases = take_all (length cases - (i + 1)) (drop (i + 1) cases) (omega (arith, length-drop (i + 1) cases)) in
    let k : apart_from (out-Case case).labels (labels_of (drop (i + 1) cases)) ≡ false = search (rules, t) in
    sym (first_fails cases i case g k) ∙ c.loop-i.invariant

pub loop-i-preserved : goal.loop-i-preserved
loop-i-preserved c =
    let cases = c.args.cases.now in
    let i = c.loop-i.i in
    let case = c.index-cases-i.result in
    let g = read_at cases i case c.index-cases-i.is c.loop-i-test.true in
    let t : take (length cases - (i + 1)) (drop (i + 1) cases) ≡ drop (i + 1) cases = take_all (length cases - (i + 1)) (drop (i + 1) cases) (omega (arith, length-drop (i + 1) cases)) in
    let k : apart_from (out-Case case).labels (labels_of (drop (i + 1) cases)) ≡ true = search (rules, t) in
    sym (first_differs cases i case g k) ∙ c.loop-i.invariant

pub returns : goal.returns
returns c = sym (none_left c.args.cases.now c.loop-i.i c.loop-i-test.false) ∙ c.loop-i.invariant
