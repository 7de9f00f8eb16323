use Rattle.std.proofs.Common.{◌≡◌, refl}
use Rattle.cc_states.specs.CcSteps.View.{state_of as state_of_run}
use Rattle.cc_meaning.specs.View.{state_of}
use Rattle.cc_meaning.proofs.Kept.{is_kept}
use Rattle.cc_meaning.proofs.machine.Machine.step.Goals as goal

pub invariant_of-self : goal.invariant_of-self
invariant_of-self c =
    let same : state_of_run (record { program = c.args.self.now.program; flag = c.args.self.now.flag; statics = c.replace.result; stack = c.replace-2.result; inputs = c.replace-3.result; trace = c.replace-4.result; opened = c.args.self.now.opened; end = c.args.self.now.end }) ≡ state_of c.args.self.now =
    rw (c.replace.ensures.value, c.replace-2.ensures.value, c.replace-3.ensures.value, c.replace-4.ensures.value) refl in
    record { is_state = is_kept c.args.self.now.program.now (state_of c.args.self.now) _ (state_of_run c.step-took.new.self) c.args.arrival c.step-took.result c.requires.sound c.args.self.now.is_state same c.step-took.ensures.turn c.step-took.ensures.err }
