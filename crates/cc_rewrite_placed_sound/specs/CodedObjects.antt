-- The static objects of a coded program that hold those that a plan codes.
use Rattle.std.specs.Prelude.{◌≡◌, ◌⊎◌, ◌==◌, ℕ, List, Some, length, slice_get, if◌then◌else◌}
use Rattle.cc_bins.specs.declared.types.Word.{Word}
use Rattle.cc_operands.specs.Qualified.{plain}
use Rattle.cc_plan_legal.specs.declared.kinds.Plan.{Plan}
use Rattle.cc_program.specs.CcNum.declared.int_type.IntType.TheVariants.{UChar, UShort}
use Rattle.cc_program.specs.declared.object.Object.{Object}
use Rattle.cc_program.specs.declared.program.Program.{Program}
use Rattle.cc_program.specs.declared.types.Shape.{Int, Array}
use Rattle.cc_rewrite_codes.specs.FirstValues.{each_in, row_count}
use Rattle.cc_rewrite_codes.specs.Programs.{array_codes, first_of, packed_object, word_object}
use Rattle.cc_slots_types.specs.declared.slot.Slot.{Slot}
use Rattle.cc_state_points.specs.CcStateFacts.declared.facts.Key.TheVariants as key

module _ (slots : List Slot) (plan : Plan) (p q : Program) where
  -- a word of the plan, of one byte or two, that is this object of the coded program
  pub record IsWord (word bytes : ℕ) : Type 0 where
    pub number : ℕ
    pub its : Word
    pub object : Object
    pub made : object ≡ word_object slots plan p (number, its)
    pub there : slice_get q.objects word ≡ Some object
    pub type : ((bytes ≡ 1) × (object.ctype ≡ plain (Int UChar))) ⊎ ((bytes ≡ 2) × (object.ctype ≡ plain (Int UShort)))

  -- the elements of an object, in so many bits each, are this one: an array with room for them, of words of two bytes for 16 bits and else of bytes
  pub record IsArrayOf (i number bits : ℕ) : Type 0 where
    pub slot : ℕ
    pub its : Slot
    pub of_object : its.key ≡ key.Object i
    pub object : Object
    pub made : object ≡ packed_object slots plan p its.name bits (length (first_of slots plan p its.key)) (array_codes slots plan p slot its)
    pub there : slice_get q.objects number ≡ Some object
    pub type : object.ctype ≡ plain (Array (plain (Int (if bits == 16 then UShort else UChar))) (row_count (each_in bits) (length (first_of slots plan p (key.Object i)))))
