use Rattle.std.proofs.Common.{arith, ap, map, ◌∙◌}
use Rattle.cc_pieces.specs.Declarators.{declarator, parameters}
use Rattle.cc_pieces.specs.View.{pieces_of}
use Rattle.cc_pieces.proofs.ListLemmas.{parameters_of}
use Rattle.cc_pieces.proofs.types.+declarators.Goals as goal

-- src/types.rt:231:1
pub put_parameter_list-returns : goal.put_parameter_list-returns
put_parameter_list-returns t c =
    let some = c.loop-left.invariant.0 in
    let few = c.loop-left.invariant.1 in
    parameters_of (declarator c.args.structures.now) _ c.loop-left.left _ _ _ _ (omega arith) (omega arith) c.index-params-0.is c.loop-left.invariant.2 c.in_ok-put_type_name-2.ensures
    ∙ ap (λ ts. parameters (map (declarator c.args.structures.now) ts) (pieces_of c.args.out.now.items)) c.all-params.ensures
