-- Which functions may be interrupt handlers, and which are by their attributes.
use Rattle.std.specs.Prelude.{ℕ, Bool, false, not, ◌&&◌, ◌||◌, nat_eq, List, fold, length, Option, Some, None}
use Rattle.std.specs.List.{list_all}
use Rattle.std.specs.Str.{bytes_eq}
use Rattle.cc_program.specs.declared.func.Entry.{Entry}
use Rattle.cc_program.specs.declared.types.CType.{CType}
use Rattle.cc_program.specs.declared.types.Shape.{Shape, out-Shape}
use Rattle.cc_program.specs.declared.types.Shape.TheOpen as shape
use Rattle.cc_program.specs.declared.types.Sig.{Sig, out-Sig}
use Rattle.cc_typed.specs.CcSyntax.Sound.{is_plain_void, main_name}
use Rattle.cc_things.specs.Things.{Thing, is_defined, is_external, is_func, is_used, own_name}
use Rattle.cc_unit.specs.Entries.{both_entries}
use Rattle.cc_unit.specs.declared.unit.UnitKind.{UnitKind}
use Rattle.cc_unit.specs.declared.unit.UnitKind.TheVariants as kind

abbrev pub entry_in : UnitKind → Option Entry
entry_in (kind.Func e f) = e
entry_in (kind.Object init) = None
entry_in (kind.Device d) = None

-- by its attributes in all declarations
abbrev pub entry_given : Thing → Option Entry
entry_given t = fold (λ e m. both_entries e (entry_in m.name.kind)) None t.mentions

-- `void f(void)`
abbrev pub takes_and_gives_nothing : shape.Shape-F Shape CType Sig → Bool
takes_and_gives_nothing (shape.Func sig) = nat_eq (length (out-Sig sig).params) 0 && is_plain_void (out-Sig sig).result
takes_and_gives_nothing shape.Void = false
takes_and_gives_nothing (shape.Int t) = false
takes_and_gives_nothing (shape.Pointer to) = false
takes_and_gives_nothing (shape.Array of n) = false
takes_and_gives_nothing (shape.Struct s) = false

abbrev pub has_handler_type : Thing → Bool
has_handler_type t = list_all (λ m. takes_and_gives_nothing (out-Shape m.name.ctype.shape)) t.mentions

abbrev pub has_name : List ℕ → Option (List ℕ) → Bool
has_name x None = false
has_name x (Some y) = bytes_eq x y

-- the function that runs first has an external name (C99 5.1.2.2.1)
abbrev pub is_named_main : Thing → Bool
is_named_main t = is_external t && is_func t && has_name main_name (own_name t)

-- a handler is a defined `void f(void)` other than main, which nothing calls and whose address nothing takes
abbrev pub may_be_handler : Thing → Bool
may_be_handler t = is_defined t && has_handler_type t && not (is_named_main t || is_used t)
