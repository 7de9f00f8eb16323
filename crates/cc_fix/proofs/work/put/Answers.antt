use Rattle.std.proofs.Common.{refl}
use Rattle.std.proofs.lemmas.Result.{on_ok_weaker}
use Rattle.cc_fix.proofs.Steps.{put_pushed}
use Rattle.cc_fix.proofs.work.put.Goals as goal

pub returns : goal.returns
returns g c = on_ok_weaker c.push.result (λ h. put_pushed c.args.index c.args.work.now _ c.push.new.work h c.requires refl refl) c.push.ensures
