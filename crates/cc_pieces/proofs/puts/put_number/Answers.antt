use Rattle.std.proofs.Common.{arith, ◌%◌, ◌∷◌, [], ◌∙◌, refl, sym}
use Rattle.std.proofs.lemmas.List.{append-nil}
use Rattle.cc_pieces.proofs.PieceLemmas.{front-push, number-more, number-done}
use Rattle.cc_pieces.proofs.puts.put_number.Goals as goal

pub loop-left-init : goal.loop-left-init
loop-left-init c = ([], sym (append-nil _), refl)

pub loop-left-preserved : goal.loop-left-preserved
loop-left-preserved c = (
  c.loop-left.left % 256 ∷ c.loop-left.invariant.0,
  front-push _ c.loop-left.out.items _ (c.loop-left.left % 256) c.loop-left.invariant.0 c.loop-left.invariant.1 c.in_ok-push-2.ensures.items,
  number-more c.loop-left.left c.loop-left.invariant.0 ∙ c.loop-left.invariant.2,
)

pub returns : goal.returns
returns c =
    number-done c.args.out.now.items _ c.loop-left.out.items c.args.suffix c.args.number c.loop-left.left c.loop-left.invariant.0 c.in_ok-push.ensures.items (omega arith) c.loop-left.invariant.1 c.loop-left.invariant.2
