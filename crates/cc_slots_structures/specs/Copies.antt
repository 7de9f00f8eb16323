-- How often a structure stands in types, and in the objects of a program that take RAM.
use Rattle.std.specs.Prelude.{ℕ, ◌*◌, ◌-◌, ◌^◌, min, nat_eq, List, [], ◌∷◌, ◌++◌, fold, length, sum_by, unwrap_or, slice_get, if◌then◌else◌}
use Rattle.cc_program.specs.Qualifiers.{is_const}
use Rattle.cc_program.specs.declared.object.Object.{Object}
use Rattle.cc_program.specs.declared.program.Program.{Program}
use Rattle.cc_program.specs.declared.types.CType.{CType, fold-CType}
use Rattle.cc_program.specs.declared.types.Shape.TheOpen as shape
use Rattle.cc_program.specs.declared.types.Structure.{Structure}
use Rattle.cc_syntax.specs.Types.{Named}

-- what is counted is counted up to the end of the counts' type
abbrev pub capped : ℕ → ℕ
capped n = min n (2 ^ 32 - 1)

abbrev pub copies_at : List ℕ → ℕ → ℕ
copies_at structures s = unwrap_or (slice_get structures s) 0

-- in a type, by how often it stands in the structures of which that is made: in an array as often as in its elements together
abbrev pub copies_step : List ℕ → shape.Shape-F ℕ ℕ (Unit {0}) → ℕ
copies_step structures shape.Void = 0
copies_step structures (shape.Int i) = 0
copies_step structures (shape.Pointer to) = 0
copies_step structures (shape.Array of n) = of * n
copies_step structures (shape.Struct s) = copies_at structures s
copies_step structures (shape.Func sig) = 0

unfoldable pub copies_in : List ℕ → CType → ℕ
copies_in structures t = fold-CType ℕ ℕ (Unit {0}) (copies_step structures) (λ t. t.shape) (λ sig. tt) t

abbrev pub copies_in_members : List ℕ → List Named → ℕ
copies_in_members structures members = sum_by (λ (m : Named). copies_in structures m.1) members

-- it stands once in itself, and in another structure as often as in the members of that
abbrev pub next_copies : ℕ → List ℕ → Structure → ℕ
next_copies s before structure = if nat_eq (length before) s then 1 else copies_in_members before structure.members

-- in each structure: each has only those before it as members
unfoldable pub copies : ℕ → List Structure → List ℕ
copies s structures = fold (λ (before : List ℕ) (structure : Structure). before ++ next_copies s before structure ∷ []) [] structures

-- const objects take no RAM
abbrev pub copies_of : List ℕ → Object → ℕ
copies_of structures o = if is_const o.ctype then 0 else copies_in structures o.ctype

abbrev pub copies_in_ram : Program → ℕ → ℕ
copies_in_ram p s = sum_by (copies_of (copies s p.structures)) p.objects
