use Rattle.std.proofs.Common.{rules, ◌≡◌, ◌∙◌, true, false, ap, map}
use Rattle.std.specs.List.{list_all}
use Rattle.cc_typed.specs.CcSyntax.Programs.{is_sound_stmt}
use Rattle.cc_typed.proofs.ListLemmas.{all_tests-stop}
use Rattle.cc_sound.specs.Cases.{switches}
use Rattle.cc_sound.proofs.StatementLemmas.{switch_true, switch_false}
use Rattle.cc_sound.proofs.statements.Function.+sound.Goals as goal

pub are_sound-returns-then-not-is_sound : goal.are_sound-returns-then-not-is_sound
are_sound-returns-then-not-is_sound t c =
    let p = c.args.self.program.now in
    let f = c.args.self.func.now in
    let k : is_sound_stmt p f c.s-item.result c.args.breaks c.args.continues ≡ false = search rules in
    all_tests-stop (is_sound_stmt p f) c.args.breaks c.args.continues c.all-s-items.result.now c.loop-s.s-index c.s-item.result c.loop-s-test.true c.s-item.is k
    ∙ ap (λ l. list_all (λ g. g c.args.breaks c.args.continues) (map (is_sound_stmt p f) l)) c.all-s-items.ensures

pub is_sound-returns-then-switches : goal.is_sound-returns-then-switches
is_sound-returns-then-switches t c =
    let p = c.args.self.program.now in
    let f = c.args.self.func.now in
    let h : switches p f c.in-Switch.e c.in-Switch.cases ≡ true = search rules in
    switch_true p f c.args.s.now c.in-Switch.e c.in-Switch.cases c.args.breaks c.args.continues c.are_sound_cases.result c.in-Switch.is h c.are_sound_cases.ensures

pub is_sound-returns-else-switches : goal.is_sound-returns-else-switches
is_sound-returns-else-switches t c =
    let p = c.args.self.program.now in
    let f = c.args.self.func.now in
    let h : switches p f c.in-Switch.e c.in-Switch.cases ≡ false = search rules in
    switch_false p f c.args.s.now c.in-Switch.e c.in-Switch.cases c.args.breaks c.args.continues c.switches.result c.in-Switch.is h c.if-switches.false
