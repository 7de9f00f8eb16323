-- Linkage (C99 6.2.2): which declarations of a name speak of one object or function.
use Rattle.std.specs.Prelude.{ℕ, zero, Bool, true, false, not, ◌&&◌, ◌||◌, nat_eq, List, [], ◌∷◌, length, Option, Some, None, slice_get}
use Rattle.std.specs.Str.{bytes_eq}
use Rattle.cc_program.specs.declared.types.CType.{CType}
use Rattle.cc_program.specs.declared.types.Shape.{Shape, out-Shape}
use Rattle.cc_program.specs.declared.types.Shape.TheOpen as shape
use Rattle.cc_program.specs.declared.types.Sig.{Sig, out-Sig}
use Rattle.cc_syntax.specs.SameTypes.{same_type}
use Rattle.cc_syntax.specs.Sound.{is_plain_int, is_plain_void, main_name}
use Rattle.cc_scopes.specs.Linked.{linked_name}
use Rattle.cc_scopes.specs.State.{State, Name, designated, named_here, bind, with_declared}
use Rattle.cc_scopes.specs.declared.designated.Designated.{Designated}
use Rattle.cc_scopes.specs.declared.designated.Designated.TheVariants.{Linked}
use Rattle.cc_scopes.specs.declared.unit.Declared.{Declared}
use Rattle.cc_scopes.specs.CcUnit.declared.unit.Linkage.{Linkage}
use Rattle.cc_scopes.specs.CcUnit.declared.unit.Linkage.TheVariants as linkage
use Rattle.cc_scopes.specs.CcUnit.declared.unit.UnitKind.{UnitKind}
use Rattle.cc_linkage.specs.declared.linkage.DeclaredAs.{DeclaredAs}
use Rattle.cc_linkage.specs.declared.linkage.DeclaredAs.TheVariants.{AsStatic, AsObject, AsExtern}

abbrev pub is_number : ℕ → Option Designated → Bool
is_number i (Some (Linked j)) = nat_eq i j
is_number i _ = false

-- whether that declaration is visible here (6.2.2, 4)
abbrev pub is_visible : ℕ → Name → State → Bool
is_visible i x s = is_number i (designated x s.scopes)

-- ---- the linkage that a declaration asks for

abbrev pub linkage_of : DeclaredAs → Linkage
linkage_of AsStatic = linkage.Internal
linkage_of AsObject = linkage.External
linkage_of AsExtern = linkage.External

-- it agrees with that of the name: `extern` takes the linkage that is visible (6.2.2, 4, 5 and 7)
abbrev pub agrees : DeclaredAs → Bool → Linkage → Bool
agrees AsStatic visible linkage.Internal = true
agrees AsStatic visible _ = false
agrees AsObject visible linkage.External = true
agrees AsObject visible _ = false
agrees AsExtern visible linkage.External = true
agrees AsExtern visible linkage.Internal = visible
agrees AsExtern visible linkage.Local = false

-- an array whose bound its initialiser will give stands for any of its elements' type
abbrev pub same_element : CType → shape.Shape-F Shape CType Sig → Bool
same_element of (shape.Array t n) = same_type of t
same_element of _ = false

abbrev pub may_be_by : CType → CType → shape.Shape-F Shape CType Sig → Bool
may_be_by t u (shape.Array of zero) = same_element of (out-Shape u.shape)
may_be_by t u _ = same_type t u

abbrev pub may_be : CType → CType → Bool
may_be t u = may_be_by t u (out-Shape t.shape)

abbrev pub agrees_with : DeclaredAs → Bool → CType → Option Declared → Bool
agrees_with asked visible t None = false
agrees_with asked visible t (Some d) = agrees asked visible d.linkage && may_be t d.ctype

abbrev pub repeats : DeclaredAs → Name → CType → State → Option ℕ → Bool
repeats asked x t s None = true
repeats asked x t s (Some i) = agrees_with asked (is_visible i x s) t (slice_get s.names i)

-- in its scope it is declared as nothing else
abbrev pub is_free_for : Option ℕ → Option Designated → Bool
is_free_for known None = true
is_free_for None (Some d) = false
is_free_for (Some i) (Some d) = is_number i (Some d)

abbrev pub may_be_declared : DeclaredAs → Name → CType → State → Bool
may_be_declared asked x t s = is_free_for (linked_name x s) (named_here x s) && repeats asked x t s (linked_name x s)

-- ---- main is `int main(void)` or `void main(void)` (5.1.2.2.1)

abbrev pub is_main_result : CType → Bool
is_main_result t = is_plain_int t || is_plain_void t

abbrev pub no_types : List CType → Bool
no_types [] = true
no_types (t ∷ ts) = false

abbrev pub is_main_shape : shape.Shape-F Shape CType Sig → Bool
is_main_shape (shape.Func sig) = no_types (out-Sig sig).params && is_main_result (out-Sig sig).result
is_main_shape _ = false

abbrev pub may_be_main : Name → CType → Bool
may_be_main x t = not (bytes_eq x main_name) || is_main_shape (out-Shape t.shape)

-- ---- a name with linkage is declared: it is known already, or new

abbrev pub new_declared : Name → DeclaredAs → CType → UnitKind → Declared
new_declared x asked t k = record { name = Some x; linkage = linkage_of asked; ctype = t; first = None; tentative = false; definitions = 0; kind = k }

abbrev pub declared_as : Name → ℕ → State → ℕ × State
declared_as x i s = (i, bind x (Linked i) s)

abbrev pub declared_by : Name → DeclaredAs → CType → UnitKind → State → Option ℕ → ℕ × State
declared_by x asked t k s (Some i) = declared_as x i s
declared_by x asked t k s None = declared_as x (length s.names) (with_declared (new_declared x asked t k) s)

abbrev pub declared : Name → DeclaredAs → CType → UnitKind → State → ℕ × State
declared x asked t k s = declared_by x asked t k s (linked_name x s)
