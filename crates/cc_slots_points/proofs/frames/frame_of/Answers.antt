use Rattle.std.proofs.Common.{◌∙◌, sym, subst, List, Bool}
use Rattle.cc_state_points.specs.CcRegisters.Kept.{AreKept}
use Rattle.cc_slots_points.proofs.frames.frame_of.Goals as goal

pub returns : goal.returns
returns c = record {
  kept = subst (λ (l : List Bool). AreKept c.args.f.now l) (sym c.of.ensures) c.in_ok-kept.ensures.kept;
  registers = c.of-2.ensures ∙ c.in_ok-registers.ensures;
}
