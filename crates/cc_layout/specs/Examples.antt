-- Programs whose seats are known.
use Rattle.std.specs.Prelude.{ℕ, Bool, true, false, refl, List, [], ◌∷◌, codes}
use Rattle.cc_program.specs.CcNum.declared.int_type.IntType.TheVariants as int
use Rattle.cc_program.specs.CcWords.Names.{is_name}
use Rattle.cc_program.specs.CcWords.Words.{word_of}
use Rattle.cc_program.specs.declared.object.Object.{Object}
use Rattle.cc_program.specs.declared.program.Program.{Program}
use Rattle.cc_program.specs.declared.program.Roles.{Roles}
use Rattle.cc_program.specs.declared.types.CType.{CType}
use Rattle.cc_program.specs.declared.types.Shape.{Shape, Int, Pointer, Array}
use Rattle.cc_syntax.specs.Examples.{wide}
use Rattle.cc_layout.specs.declared.seats.Seat.{Seat}

-- no handlers, and the default names of the intrinsics
pub roles : Roles
unfolding is_name word_of
roles = record {
  handlers = [];
  off = codes "irq_off";
  on = codes "irq_on";
  save = codes "irq_save";
  restore = codes "irq_restore";
  levels = [];
  named = refl;
  apart = refl;
  levelled = refl;
  levels_apart = refl;
}

abbrev pub with_objects : List Object → Program
with_objects objects = record { target = wide; roles = roles; structures = []; devices = []; objects = objects; funcs = []; main = 0 }

abbrev pub object : List ℕ → CType → Object
object name t = record { name = name; ctype = t; init = [] }

abbrev pub qualified : Bool → Bool → Shape → CType
qualified constant volatile shape = record { constant = constant; volatile = volatile; shape = shape }

-- volatile char a; volatile int b; volatile char c;
abbrev pub three : Program
three = with_objects
    (object (codes "a") (qualified false true (Int int.Char)) ∷ object (codes "b") (qualified false true (Int int.Int)) ∷ object (codes "c") (qualified false true (Int int.Char)) ∷ [])

-- char a; const int b; char c;
abbrev pub const_between : Program
const_between = with_objects
    (object (codes "a") (qualified false false (Int int.Char)) ∷ object (codes "b") (qualified true false (Int int.Int)) ∷ object (codes "c") (qualified false false (Int int.Char)) ∷ [])

abbrev pub constant_char : CType
constant_char = qualified true false (Int int.Char)

-- const char a[3]; const char *b; const char *const c; volatile char d[2];
abbrev pub qualified_parts : Program
qualified_parts = with_objects
    (object (codes "a") (qualified false false (Array constant_char 3)) ∷ object (codes "b") (qualified false false (Pointer constant_char))
    ∷ object (codes "c") (qualified true false (Pointer constant_char)) ∷ object (codes "d") (qualified false false (Array (qualified false true (Int int.Char)) 2)) ∷ [])

abbrev pub seat : ℕ → ℕ → ℕ → Seat
seat object at size = record { object = object; at = at; size = size }
