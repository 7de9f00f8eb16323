use Rattle.cc_named_units.proofs.Bodies.{body_lines_add}
use Rattle.cc_named_units.proofs.declaration_law.body_laws.Goals as goal

pub returns : goal.returns
returns c = record { bodies = λ target defined result most ls q l j s r h. body_lines_add target defined result most ls q l j s r h }
