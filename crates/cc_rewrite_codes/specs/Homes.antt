-- Where the scalars of a slot stand that is coded, and how their values are told there.
use Rattle.std.specs.Prelude.{ℕ, Bool, List}
use Rattle.cc_code.specs.declared.kinds.Coding.{Coding}
use Rattle.cc_program.specs.declared.value.Value.{Value}
use Rattle.cc_slots_types.specs.declared.slot.Slot.{Slot}
use Rattle.cc_operands.specs.CcSyntax.Values.{ValueType}

pub record Code : Type 0 where
  -- the type of a scalar's value
  pub type : ValueType
  pub coding : Coding
  -- the values, in the order of their codes where these are positions, and then the static object of the table that has them
  pub values : List Value
  pub table : ℕ
  -- the slots that stand in the same word, itself among them
  pub sharing : List Slot

pub data Home : Type 0 where
  -- nowhere: there is one value
  Fixed : ValueType → Value → Home
  -- in so many bits of a word of one byte or two, from a bit up. The word is a static object, or a member of the same structure; it may have
  -- no other slots
  InWord : (word : ℕ) (bytes shift bits : ℕ) (alone : Bool) → Code → Home
  -- elements of an array, in so many bits of the elements of another static object: 1, 2 or 4 of a byte, or 8 or 16, and then one in each
  InArray : (object : ℕ) (bits : ℕ) → Code → Home
