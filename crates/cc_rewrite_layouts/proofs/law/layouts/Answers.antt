-- By the lemmas on layouts.
use Rattle.cc_rewrite_layouts.proofs.LayoutLemmas.{are-homes, field-alone, element-alone}
use Rattle.cc_rewrite_layouts.proofs.law.layouts.Goals as goal

pub returns : goal.returns
returns g = record {
  homes = λ layout are. are-homes layout are;
  field_alone = λ layout are i f at alone m n other. field-alone layout are i f at alone m n other;
  element_alone = λ layout are i object bits at k m n other. element-alone layout are i object bits at k m n other;
}
