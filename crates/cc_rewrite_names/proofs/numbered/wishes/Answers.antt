use Rattle.std.proofs.Common.{◌∙◌, ap, refl}
use Rattle.cc_names.proofs.Wishes.{wishes-none}
use Rattle.cc_names.specs.View.{wishes_of}
use Rattle.cc_names.specs.declared.wish.Wish.TheVariants as wish
use Rattle.cc_rewrite_names.proofs.Wishing.{wished_more}
use Rattle.cc_rewrite_names.proofs.numbered.wishes.Goals as goal

pub loop-wish-init : goal.loop-wish-init
loop-wish-init c = ap wishes_of c.new-wishes.ensures.items ∙ wishes-none

pub loop-wish-preserved : goal.loop-wish-preserved
loop-wish-preserved c = wished_more c.loop-wish.wishes.items c.push.new.self.items (wish.Numbered c.args.base) c.args.base.now c.loop-wish._wish c.in_ok-push.ensures.items refl c.loop-wish.invariant
