-- Where an expression is printed, and which parentheses it has there.
use Rattle.std.specs.Prelude.{Bool, true, false, Option, Some, None}
use Rattle.cc_program.specs.declared.types.CType.{CType}

pub data Spot : Type 0 where
  -- a whole right side, argument or returned value, with the type of what takes it where it has one
  Whole : Option CType → Spot
  -- an operand of an operation, a subscript, a condition
  Operand : Spot
  -- the operand of a conversion
  Converted : Spot
  -- right behind the `*` of an indirection
  Pointed : Spot

abbrev pub wraps_operation : Spot → Bool
wraps_operation (Whole to) = false
wraps_operation Operand = true
wraps_operation Converted = true
wraps_operation Pointed = true

abbrev pub wraps_conversion : Spot → Bool
wraps_conversion (Whole to) = false
wraps_conversion Operand = false
wraps_conversion Converted = true
wraps_conversion Pointed = false

-- a constant of a narrow type, and a null, are written as conversions there
abbrev pub converts_constant : Spot → Bool
converts_constant (Whole to) = false
converts_constant Operand = true
converts_constant Converted = true
converts_constant Pointed = true
