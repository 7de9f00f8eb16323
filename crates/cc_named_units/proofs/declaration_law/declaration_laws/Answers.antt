use Rattle.cc_named_units.proofs.Declarations.{declaration_adds}
use Rattle.cc_named_units.proofs.declaration_law.declaration_laws.Goals as goal

pub returns : goal.returns
returns c = record { declarations = λ target defined most d q l place s r h. declaration_adds target defined most d q l place s r h }
