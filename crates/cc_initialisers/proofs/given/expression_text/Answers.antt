use Rattle.std.proofs.Common.{ap, sym}
use Rattle.cc_initialisers.specs.Initialisers.{expression_text}
use Rattle.cc_initialisers.proofs.Layers.{initialiser-Many}
use Rattle.cc_initialisers.proofs.given.expression_text.Goals as goal

pub returns-in-Many : goal.returns-in-Many
returns-in-Many c = sym (ap expression_text (initialiser-Many c.args.g.now c.in-Many.field-0 c.in-Many.is))
