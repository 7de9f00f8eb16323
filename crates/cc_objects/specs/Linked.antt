-- What declarations leave known of objects, their initialisers aside (C99 6.2.4, 6.7, 6.9.2).
use Rattle.std.specs.Prelude.{ℕ, Bool, true, false, not, ◌&&◌, List, [], ◌∷◌, ◌++◌, length, Some, if◌then◌else◌}
use Rattle.std.specs.List.{list_any}
use Rattle.std.specs.Str.{bytes_eq}
use Rattle.cc_linkage.specs.Linkage.{declared}
use Rattle.cc_linkage.specs.declared.linkage.DeclaredAs.{DeclaredAs}
use Rattle.cc_linkage.specs.declared.linkage.DeclaredAs.TheVariants.{AsStatic, AsObject, AsExtern}
use Rattle.cc_typed_terms.specs.CcOperands.Qualified.{without_const}
use Rattle.cc_program.specs.declared.types.CType.{CType}
use Rattle.cc_program.specs.declared.types.Shape.{Shape, out-Shape}
use Rattle.cc_program.specs.declared.types.Shape.TheOpen as shape
use Rattle.cc_program.specs.declared.types.Sig.{Sig}
use Rattle.cc_typed_terms.specs.CcScopes.State.{State, Name, bind, with_declared, with_locals}
use Rattle.cc_typed_terms.specs.CcScopes.declared.designated.Designated.TheVariants as means
use Rattle.cc_typed_terms.specs.CcScopes.declared.unit.Declared.{Declared}
use Rattle.cc_typed_terms.specs.CcUnit.declared.unit.Linkage.TheVariants as linkage
use Rattle.cc_typed_terms.specs.CcUnit.declared.unit.UnitKind.{UnitKind}
use Rattle.cc_typed_terms.specs.CcUnit.declared.unit.UnitKind.TheVariants as kind

-- ---- objects with linkage; the names are those of the objects that the unit defines

-- an extern volatile integer that the unit doesn't define is a device
abbrev pub device_by : Name → CType → Bool → shape.Shape-F Shape CType Sig → UnitKind
device_by x t good (shape.Int i) =
    if good && t.volatile then kind.Device (record { name = Some x; number = 0; int = i; constant = t.constant }) else kind.Object []
device_by x t good _ = kind.Object []

abbrev pub is_extern : DeclaredAs → Bool
is_extern AsExtern = true
is_extern AsStatic = false
is_extern AsObject = false

abbrev pub object_kind : List Name → DeclaredAs → Name → CType → UnitKind
object_kind defined asked x t = device_by x t (is_extern asked && not (list_any (bytes_eq x) defined)) (out-Shape t.shape)

abbrev pub object_declared : List Name → DeclaredAs → Name → CType → State → ℕ × State
object_declared defined asked x t s = declared x asked t (object_kind defined asked x t) s

-- ---- static objects of a block (6.2.4, 3)

abbrev pub static_object : ℕ → Name → CType → Declared
static_object at x t = record { name = Some x; linkage = linkage.Local; ctype = t; first = Some at; tentative = false; definitions = 1; kind = kind.Object [] }

abbrev pub with_static : ℕ → Name → CType → State → State
with_static at x t s = bind x (means.Linked (length s.names)) (with_declared (static_object at x t) s)

-- ---- automatic objects (6.2.4, 4)

abbrev pub with_automatic : Name → CType → State → State
with_automatic x t s = bind x (means.Automatic (length s.locals) t) (with_locals (s.locals ++ (x, without_const t) ∷ []) s)
