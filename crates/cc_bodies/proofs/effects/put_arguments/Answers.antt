use Rattle.std.proofs.Common.{arith, ap, ◌∙◌, ◌∷◌, ◌-◌}
use Rattle.cc_lex.specs.declared.token.Mark.TheVariants as m
use Rattle.cc_pieces.specs.Pieces.{Pieces, punct, space}
use Rattle.cc_bodies.proofs.ListLemmas.{arguments_more}
use Rattle.cc_bodies.proofs.effects.put_arguments.Goals as goal

-- src/effects.rt:74:5
pub loop-left-preserved : goal.loop-left-preserved
loop-left-preserved c = (
  omega arith,
  omega arith,
  arguments_more c.args.c.program.now c.args.c.func.now c.args.params.now c.args.args.now (c.loop-left.left - 1) c.loop-left.left _ _ _ _ _ (omega arith) (omega arith)
      c.index-args-left.is c.at.ensures c.loop-left.invariant.2
      (c.in_ok-mark.ensures ∙ ap (λ (ps : Pieces). punct m.Comma ∷ ps) (c.in_ok-put.ensures ∙ ap (λ (ps : Pieces). space ∷ ps) c.in_ok-put_expr.ensures)),
)
