use Rattle.cc_relocated_units.proofs.Typed.{kind_numbered, numbered_place, numbered_typed}
use Rattle.cc_relocated_units.proofs.type_law.renumbered_laws.Goals as goal

pub returns : goal.returns
returns c = record {
  kinds = λ v w ids among r t k h. kind_numbered v w ids among r t k h;
  expressions = λ v w ids among r before after l e m t h. numbered_typed v w ids among r before after l e m t h;
  places = λ v w ids among r before after l a m t h. numbered_place v w ids among r before after l a m t h;
}
