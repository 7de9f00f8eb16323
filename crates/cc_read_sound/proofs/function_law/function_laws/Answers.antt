use Rattle.cc_read_sound.proofs.FunctionBodies.{function_body}
use Rattle.cc_read_sound.proofs.function_law.function_laws.Goals as goal

pub returns : goal.returns
returns c = record { bodies = λ v roles defined result ps scope s ordered is ls q r h. function_body v roles defined result ps scope s ordered is ls q r h }
