-- The code of a value, and the value of a code.
use Rattle.std.specs.Prelude.{◌≡◌, ◌≤◌, ◌^◌, ℕ, ℤ, pos, ◌+ℤ◌, ◌≤ℤ◌, ◌<ℤ◌, Bool, true, false, List, Option, Some, slice_get}
use Rattle.cc_code.specs.declared.code.Decoded.{Decoded}
use Rattle.cc_code.specs.declared.code.Decoded.TheVariants as told
use Rattle.cc_code.specs.declared.kinds.Coding.{Coding}
use Rattle.cc_code.specs.declared.kinds.Coding.TheVariants.{Const, Direct, Biased, Table}
use Rattle.cc_code.specs.Codings.{IsCodingOf}
use Rattle.cc_code.specs.Members.{members_of, Has}
use Rattle.cc_places.specs.declared.abs.Abs.{Abs}
use Rattle.cc_program.specs.declared.value.Value.{Value}
use Rattle.cc_program.specs.declared.value.Value.TheVariants as value
use Rattle.cc_sets.specs.declared.vals.Vals.{Vals}

-- the code of a member: of a constant 0; else the number, or how far it is above the least one; or its position
abbrev pub IsCode : Abs Vals → Coding → Value → ℕ → Type 0
IsCode values Const v code = code ≡ 0
IsCode values Direct v code = v ≡ value.Int (pos code)
IsCode values (Biased low) v code = v ≡ value.Int (low +ℤ pos code)
IsCode values Table v code = slice_get (members_of values) code ≡ Some v

-- the value of a code; of a constant and of a table among some values
abbrev pub decoded : List Value → Coding → ℕ → Option Value
decoded values Const code = slice_get values 0
decoded values Direct code = Some (value.Int (pos code))
decoded values (Biased low) code = Some (value.Int (low +ℤ pos code))
decoded values Table code = slice_get values code

-- whether the value of a code stands in a list
abbrev pub is_listed : Coding → Bool
is_listed Const = true
is_listed Direct = false
is_listed (Biased low) = false
is_listed Table = true

-- an integer from `low` on, less than 2^16 above it
abbrev pub IsAbove : ℤ → Value → Type 0
IsAbove low (value.Int n) = (low ≤ℤ n) × (n <ℤ (low +ℤ pos (2 ^ 16)))
IsAbove low (value.Place a) = ⊥

-- the coding of the values, with at most 16 bits
pub record IsShortCodingOf (values : Abs Vals) (coding : Coding) : Type 0 where
  pub least : ℕ
  pub bits : ℕ
  pub short : bits ≤ 16
  pub coded : IsCodingOf values least (coding, bits)

-- the code of a member of some set that has this coding, and whose members are the values where they are listed
pub record IsSomeCode (values : List Value) (coding : Coding) (code : ℕ) : Type 0 where
  pub set : Abs Vals
  pub least : ℕ
  pub bits : ℕ
  pub coded : IsCodingOf set least (coding, bits)
  pub member : Value
  pub has : Has set member
  pub is : IsCode set coding member code
  pub listed : is_listed coding ≡ true → values ≡ members_of set

-- the value that was told
abbrev pub value_of : Decoded → Value
value_of (told.Int n) = value.Int n
value_of (told.Place a) = value.Place a.now
