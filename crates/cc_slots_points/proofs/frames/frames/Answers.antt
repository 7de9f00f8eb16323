use Rattle.std.proofs.Common.{ap, sym, ◌∙◌, Some}
use Rattle.std.proofs.lemmas.Option.{slice_get-get_or}
use Rattle.cc_slots_points.proofs.FrameLemmas.{all_frames, none_first, one_first}
use Rattle.cc_slots_points.proofs.frames.frames.Goals as goal

pub frame_of-requires : goal.frame_of-requires
frame_of-requires c =
    c.requires c.loop-f.f-index c.f-item.result (slice_get-get_or c.args.funcs.now c.loop-f.f-index c.f-item.result c.loop-f-test.true ∙ ap Some (sym c.f-item.is))

pub loop-f-init : goal.loop-f-init
loop-f-init c = none_first c.args.funcs.now c.new-frames.result.items c.new-frames.ensures.items

pub loop-f-preserved : goal.loop-f-preserved
loop-f-preserved c =
    one_first c.args.funcs.now c.loop-f.frames.items c.push.new.self.items c.loop-f.f-index c.f-item.result c.in_ok-frame.frame c.loop-f.invariant
    (slice_get-get_or c.args.funcs.now c.loop-f.f-index c.f-item.result c.loop-f-test.true ∙ ap Some (sym c.f-item.is)) c.in_ok-frame.ensures c.in_ok-push.ensures.items

pub returns : goal.returns
returns c = all_frames c.args.funcs.now c.loop-f.frames.items c.loop-f.f-index c.loop-f-test.false c.loop-f.invariant
