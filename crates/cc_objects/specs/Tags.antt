-- Structures that a declaration declares or defines beside its declarators (C99 6.7, 2; 6.7.2.3).
use Rattle.std.specs.Prelude.{Bool, true, false, ◌&&◌, is_some, List, [], ◌∷◌, Option, Some, None, if◌then◌else◌}
use Rattle.std.specs.List.{list_any, list_all}
use Rattle.cc_program.specs.declared.types.Shape.{Shape, out-Shape}
use Rattle.cc_program.specs.declared.types.Shape.TheOpen as shape
use Rattle.cc_program.specs.declared.types.CType.{CType}
use Rattle.cc_program.specs.declared.types.Sig.{Sig}
use Rattle.cc_typed_terms.specs.CcScopes.Standings.{with_alias, is_none}
use Rattle.cc_typed_terms.specs.CcScopes.State.{State, Name, change_at, with_structures}
use Rattle.cc_typed_terms.specs.CcScopes.Structures.{declared_tag}
use Rattle.cc_typed_terms.specs.CcSpecifiers.declared.specifier.Specified.{Specified}
use Rattle.cc_tree.specs.Scopes.{name_of}
use Rattle.cc_tree.specs.declared.at.At.{At}
use Rattle.cc_tree.specs.declared.tree.Declr.{Declr}
use Rattle.cc_tree.specs.declared.tree.Declr.TheOpen as one
use Rattle.cc_tree.specs.declared.tree.Enumr.{Enumr}
use Rattle.cc_tree.specs.declared.tree.MemberDecl.{MemberDecl}
use Rattle.cc_tree.specs.declared.tree.Param.{Param}
use Rattle.cc_tree.specs.declared.tree.Params.{Params}
use Rattle.cc_tree.specs.declared.tree.Spec.{Spec, out-Spec}
use Rattle.cc_tree.specs.declared.tree.Tree.{Tree}
use Rattle.cc_tree.specs.declared.tree.TypeName.{TypeName}
use Rattle.cc_tree.specs.declared.unit.Decl.{Decl}
use Rattle.cc_tree.specs.declared.unit.Init.{Init}
use Rattle.cc_program.specs.CcWords.declared.word.Word.{Word}
use Rattle.cc_program.specs.CcWords.declared.word.Word.TheVariants as w

-- ---- a structure without a tag takes a name from the typedef that defines it

abbrev pub is_untagged_at : one.Spec-F Declr Params Spec Tree Enumr MemberDecl Param TypeName → Bool
is_untagged_at (one.Struct None members front behind) = is_some members
is_untagged_at _ = false

abbrev pub defines_untagged : List (At Spec) → Bool
defines_untagged specs = list_any (λ x. is_untagged_at (out-Spec x.node)) specs

abbrev pub aliased_at : Option Name → State → shape.Shape-F Shape CType Sig → State
aliased_at x s (shape.Struct i) = with_structures (change_at i (with_alias x) s.structures) s
aliased_at x s _ = s

abbrev pub first_name : List (At Init) → Option Name
first_name [] = None
first_name (i ∷ is) = name_of i.node.declr.node

abbrev pub is_typedef_word : Option Word → Bool
is_typedef_word (Some w.Typedef) = true
is_typedef_word _ = false

abbrev pub aliased : Decl → Specified → State → State
aliased d base s =
    if is_typedef_word base.specs.storage && defines_untagged d.specs then aliased_at (first_name d.inits) s (out-Shape base.ctype.shape) else s

-- ---- `struct x;` and nothing else but `__extension__` declares x in this scope (6.7.2.3, 7)

abbrev pub sole_tag : one.Spec-F Declr Params Spec Tree Enumr MemberDecl Param TypeName → Option Name
sole_tag (one.Struct tag None front behind) = tag
sole_tag _ = None

abbrev pub tag_declared : Option Name → State → State
tag_declared None s = s
tag_declared (Some x) s = declared_tag x s

abbrev pub is_extension_at : one.Spec-F Declr Params Spec Tree Enumr MemberDecl Param TypeName → Bool
is_extension_at (one.Word w.Extension) = true
is_extension_at _ = false

-- the one specifier that is none of these
abbrev pub sole_spec : List (At Spec) → Option Spec
sole_spec [] = None
sole_spec (x ∷ xs) =
    if is_extension_at (out-Spec x.node) then sole_spec xs
    else (if list_all (λ x. is_extension_at (out-Spec x.node)) xs then Some x.node else None)

abbrev pub sole_declared : Option Spec → State → State
sole_declared None s = s
sole_declared (Some x) s = tag_declared (sole_tag (out-Spec x)) s

abbrev pub in_front : Decl → State → State
in_front d s = if is_none d.inits then sole_declared (sole_spec d.specs) s else s
