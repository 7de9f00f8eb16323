-- Statements that are found in the body of a function with so many parameters are sound (C99 6.8, 6.9.1).
use Rattle.std.specs.Prelude.{◌≡◌, ℕ, true, List, Some}
use Rattle.cc_operand_types.specs.Typed.{stands}
use Rattle.cc_program.specs.declared.stmt.Stmt.{Stmt}
use Rattle.cc_program.specs.declared.types.CType.{CType}
use Rattle.cc_read_sound.specs.Sound.{AreSound}
use Rattle.cc_sound_declarations.specs.Declaring.{lowered}
use Rattle.cc_type.specs.CcSyntax.Expressions.{type_of}
use Rattle.cc_type.specs.CcSyntax.Types.{Named}
use Rattle.cc_type.specs.CcSyntax.Values.{ValueType, scalar_value}
use Rattle.cc_type.specs.CcSyntax.Views.{View}
use Rattle.cc_type.specs.CcTypedStatements.declared.jumps.Jumps.{Jumps}

-- over the locals of the function, when it declares these objects
abbrev pub StatementsSound : View → ℕ → CType → Jumps → List Named → List Stmt → Type 0
StatementsSound v parameters result j L ss = AreSound v.target (type_of v (lowered parameters L)) result j ss

-- a result that is a value has a type that may stand
abbrev pub ResultStands : View → CType → Type 0
ResultStands v result = (to : ValueType) → scalar_value result ≡ Some to → stands v to ≡ true
