use Rattle.cc_operand_types.proofs.Bodies.{body_reduced, stmt_reduced}
use Rattle.cc_operand_types.proofs.Typed.{reduced_place, reduced_typed}
use Rattle.cc_operand_types.proofs.reduced_law.reduced_laws.Goals as goal

pub returns : goal.returns
returns c = record {
  expressions = λ v locals declared r e t h. reduced_typed v locals declared r e t h;
  places = λ v locals declared r a t h. reduced_place v locals declared r a t h;
  statements = λ v locals declared r result s b c h. stmt_reduced v locals declared r result s b c h;
  bodies = λ v locals declared r result body h. body_reduced v locals declared r result body h;
}
