-- A line that gives an input is one more; the first that gives none is told.
use Rattle.std.proofs.Common.{◌+◌, ◌-◌, ◌^◌, min, ℤ, [], ◌∷◌, ◌++◌, get_or, drop, map, None, ap, ◌∙◌, rules, FitsSigned, to_z-of_z}
use Rattle.std.specs.Int.{w128}
use Rattle.cc_run.specs.declared.inputs.InputLine.{InputLine}
use Rattle.cc_run.specs.Inputs.{input_of}
use Rattle.cc_run.proofs.Coming.{came-more, came-bad, picked-at}
use Rattle.cc_run.proofs.inputs.inputs_in.Goals as goal

-- what an index past the end would give
none : InputLine
none = record { input = None }

pub loop-line-preserved : goal.loop-line-preserved
unfolding none
loop-line-preserved c =
    let ls = c.args.lines.now in
    let i = c.loop-line.line-index in
    let f : FitsSigned w128 c.in-Some.input = search rules in
    came-more (map input_of ls) c.loop-line.inputs.items _ c.in-Some.input (input_of (get_or ls i none)) (map input_of (drop i ls)) (map input_of (drop (i + 1) ls))
    c.loop-line.invariant
    (picked-at input_of ls i none c.loop-line-test.true)
    c.in-Some.is
    (c.in_ok-push-in-Some.ensures.items ∙ ap (λ (v : ℤ). c.loop-line.inputs.items ++ v ∷ []) (to_z-of_z f))

pub returns-in-None-clause-fault : goal.returns-in-None-clause-fault
unfolding none
returns-in-None-clause-fault c =
    let ls = c.args.lines.now in
    let i = c.loop-line.line-index in
    came-bad (map input_of ls) c.loop-line.inputs.items (input_of (get_or ls i none)) (map input_of (drop i ls)) (map input_of (drop (i + 1) ls)) c.row_behind.result
    c.loop-line.invariant
    (picked-at input_of ls i none c.loop-line-test.true)
    c.in-None.is
    (c.row_behind.ensures ∙ ap (λ n. min (n + 1) (2 ^ 32 - 1)) (c.len.ensures ∙ c.loop-line.inputs.ok.0))
