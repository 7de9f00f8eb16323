use Rattle.std.proofs.Common.{◌∙◌, ap}
use Rattle.std.proofs.lemmas.Result.{IfOk-weaker}
use Rattle.cc_structures.specs.Refined.{by_source}
use Rattle.cc_structures.specs.View.{units_of}
use Rattle.cc_structures.proofs.structures.numbers_in.Goals as goal

pub returns : goal.returns
returns c = IfOk-weaker c.by_source.result _ _ (λ r h. h ∙ ap (by_source (units_of c.args.texts.now)) (c.as_slice.ensures.value ∙ c.in_ok-positions.ensures)) c.by_source.ensures
