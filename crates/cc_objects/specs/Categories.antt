-- What declarators declare, by where they stand and by their storage class (C99 6.2.2, 6.2.4, 6.7.1).
use Rattle.std.specs.Prelude.{Bool, false, is_some, List, [], ◌∷◌, map, Option, Some, None, if◌then◌else◌}
use Rattle.std.specs.List.{list_any}
use Rattle.cc_linkage.specs.declared.linkage.DeclaredAs.TheVariants.{AsStatic, AsObject, AsExtern}
use Rattle.cc_typed_terms.specs.CcOperands.Qualified.{is_function_type}
use Rattle.cc_typed_terms.specs.CcScopes.State.{State, designated, or_else}
use Rattle.cc_typed_terms.specs.CcScopes.declared.designated.Designated.{Designated}
use Rattle.cc_typed_terms.specs.CcScopes.declared.designated.Designated.TheVariants as means
use Rattle.cc_typed_terms.specs.CcSpecifiers.Declarators.{declares_function}
use Rattle.cc_typed_terms.specs.CcSpecifiers.declared.attribute.Entity.{Entity}
use Rattle.cc_typed_terms.specs.CcSpecifiers.declared.attribute.Entity.TheVariants as entity
use Rattle.cc_typed_terms.specs.CcSpecifiers.declared.storage.Setting.{Setting}
use Rattle.cc_typed_terms.specs.CcSpecifiers.declared.storage.Where.{Where}
use Rattle.cc_typed_terms.specs.CcSpecifiers.declared.storage.Where.TheVariants as stands
use Rattle.cc_tree.specs.declared.at.At.{At}
use Rattle.cc_tree.specs.declared.tree.Declr.{Declr}
use Rattle.cc_tree.specs.declared.tree.Declr.TheOpen as one
use Rattle.cc_tree.specs.declared.tree.Enumr.{Enumr}
use Rattle.cc_tree.specs.declared.tree.MemberDecl.{MemberDecl}
use Rattle.cc_tree.specs.declared.tree.Param.{Param}
use Rattle.cc_tree.specs.declared.tree.Params.{Params}
use Rattle.cc_tree.specs.declared.tree.Spec.{Spec, out-Spec}
use Rattle.cc_tree.specs.declared.tree.Tree.{Tree}
use Rattle.cc_tree.specs.declared.tree.TypeName.{TypeName}
use Rattle.cc_tree.specs.declared.unit.Decl.{Decl}
use Rattle.cc_tree.specs.declared.unit.Init.{Init}
use Rattle.cc_objects.specs.declared.category.Category.{Category}
use Rattle.cc_objects.specs.declared.category.Category.TheVariants as declares
use Rattle.cc_program.specs.CcWords.declared.word.Word.{Word}
use Rattle.cc_program.specs.CcWords.declared.word.Word.TheVariants as w

abbrev pub function_category : Option Word → Category
function_category (Some w.Typedef) = declares.Typedef
function_category (Some w.Static) = declares.Function AsStatic
function_category _ = declares.Function AsExtern

abbrev pub file_category : Option Word → Category
file_category (Some w.Typedef) = declares.Typedef
file_category (Some w.Static) = declares.Linked AsStatic
file_category (Some w.Extern) = declares.Linked AsExtern
file_category _ = declares.Linked AsObject

abbrev pub block_category : Option Word → Category
block_category (Some w.Typedef) = declares.Typedef
block_category (Some w.Static) = declares.StaticLocal
block_category (Some w.Extern) = declares.Linked AsExtern
block_category _ = declares.Automatic

abbrev pub object_category : Where → Option Word → Category
object_category stands.AtFile x = file_category x
object_category _ x = block_category x

abbrev pub category_by : Where → Option Word → Bool → Category
category_by place x function = if function then function_category x else object_category place x

-- the flag says that the specifiers name a function's type
abbrev pub category_of : Where → Option Word → Bool → Declr → Category
category_of place storage function d = category_by place storage (declares_function function d)

abbrev pub entity_of : Category → Entity
entity_of declares.Typedef = entity.Typedef
entity_of (declares.Function asked) = entity.Function
entity_of (declares.Linked asked) = entity.Static
entity_of declares.StaticLocal = entity.Static
entity_of declares.Automatic = entity.Local

abbrev pub entities_of : Where → Option Word → Bool → List (At Init) → List Entity
entities_of place storage function [] = entity.Nothing ∷ []
entities_of place storage function (i ∷ is) = map (λ i. entity_of (category_of place storage function i.node.declr.node)) (i ∷ is)

-- ---- what is declared is told in front of the specifiers: their storage class is a word, and a function's type is
-- named by a typedef alone

abbrev pub storage_class : Word → Option Word
storage_class w.Typedef = Some w.Typedef
storage_class w.Extern = Some w.Extern
storage_class w.Static = Some w.Static
storage_class w.Auto = Some w.Auto
storage_class w.Register = Some w.Register
storage_class _ = None

abbrev pub storage_at : one.Spec-F Declr Params Spec Tree Enumr MemberDecl Param TypeName → Option Word
storage_at (one.Word x) = storage_class x
storage_at _ = None

abbrev pub storage_in : List (At Spec) → Option Word
storage_in [] = None
storage_in (x ∷ xs) = or_else (storage_at (out-Spec x.node)) (storage_in xs)

abbrev pub is_function_name : Option Designated → Bool
is_function_name (Some (means.TypeNamed t)) = is_function_type t
is_function_name _ = false

abbrev pub names_function : State → one.Spec-F Declr Params Spec Tree Enumr MemberDecl Param TypeName → Bool
names_function s (one.Spec::Named x) = is_function_name (designated x s.scopes)
names_function s _ = false

abbrev pub name_function : List (At Spec) → State → Bool
name_function specs s = list_any (λ x. names_function s (out-Spec x.node)) specs

abbrev pub is_given : At Init → Bool
is_given i = is_some i.node.value

abbrev pub setting_of : Where → Decl → State → Setting
setting_of place d s = record {
  place = place;
  entities = entities_of place (storage_in d.specs) (name_function d.specs s) d.inits;
  given = list_any is_given d.inits;
}
