use Rattle.std.proofs.Common.{rules, ◌≡◌, true}
use Rattle.cc_sound.specs.Functions.{is_checked}
use Rattle.cc_sound.proofs.Decisions.{sound_decided, unsound_by}
use Rattle.cc_sound.proofs.program.is_sound.Goals as goal

pub returns-then-is_checked : goal.returns-then-is_checked
returns-then-is_checked c =
    let h : is_checked c.args.p.now ≡ true = search rules in
    sound_decided c.args.p.now c.are_initial.result h c.are_initial.ensures

pub returns-else-is_checked : goal.returns-else-is_checked
returns-else-is_checked c = unsound_by c.args.p.now c.is_checked.result c.is_checked.ensures.value c.if-is_checked.false
