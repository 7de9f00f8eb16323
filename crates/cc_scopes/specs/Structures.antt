-- Structures and enumerations by their tags (C99 6.7.2.1 to 6.7.2.3).
use Rattle.std.specs.Prelude.{ℕ, ℤ, Bool, true, false, is_some, List, [], ◌∷◌, ◌++◌, map, length, Option, Some, None, slice_get, Ok, Err, if◌then◌else◌}
use Rattle.std.specs.List.{list_any}
use Rattle.std.specs.Str.{bytes_eq}
use Rattle.cc_program.specs.CcNum.declared.int_type.IntType.TheVariants as int
use Rattle.cc_program.specs.CcNum.declared.target.Target.{Target}
use Rattle.cc_program.specs.CcNum.Integers.{is_value_of}
use Rattle.cc_program.specs.declared.types.CType.{CType}
use Rattle.cc_program.specs.declared.types.Shape.{Int, Struct}
use Rattle.cc_operands.specs.CcSyntax.Folding.{Constant, NoConstant, Value, Traps}
use Rattle.cc_operands.specs.CcSyntax.Layout.{structure, type_layout}
use Rattle.cc_operands.specs.CcSyntax.Types.{Named}
use Rattle.cc_operands.specs.Qualified.{plain}
use Rattle.cc_operands.specs.Verdicts.{Judged, must}
use Rattle.cc_operands.specs.declared.rule.Rule.TheVariants as rule
use Rattle.cc_scopes.specs.State.{State, Name, KnownStructure, only_named, tagged_here, bind_tag, change_at, with_structures, layouts_of}
use Rattle.cc_scopes.specs.Verdicts.{Found, whole}
use Rattle.cc_scopes.specs.declared.designated.Tagged.{Tagged}
use Rattle.cc_scopes.specs.declared.designated.Tagged.TheVariants.{StructureTag, EnumerationTag, UnfinishedEnumeration}

abbrev pub structure_type : ℕ → CType
structure_type i = plain (Struct i)

abbrev pub enumeration_type : CType
enumeration_type = plain (Int int.Int)

-- ---- a new structure type, with its number

abbrev pub with_structure : Option Name → State → ℕ × State
with_structure tag s = (length s.structures, with_structures (s.structures ++ only_named tag ∷ []) s)

abbrev pub tagged_structure : Name → ℕ × State → ℕ × State
tagged_structure x new = (new.0, bind_tag x (StructureTag new.0) new.1)

abbrev pub new_structure : Option Name → State → ℕ × State
new_structure None s = with_structure None s
new_structure (Some x) s = tagged_structure x (with_structure (Some x) s)

-- ---- `struct x`: the one in scope, or a new one (6.7.2.3, 8)

abbrev pub as_type : ℕ × State → CType × State
as_type new = (structure_type new.0, new.1)

abbrev pub structure_named : ℕ → Name → State → Option Tagged → Found CType
structure_named at x s None = Ok (as_type (new_structure (Some x) s))
structure_named at x s (Some (StructureTag i)) = Ok (structure_type i, s)
structure_named at x s (Some _) = whole at s (Err rule.DeclaredTwice)

-- ---- `struct x { .. }`: one that is declared in this scope is completed, else there is a new one (6.7.2.3, 4 to 6)

abbrev pub opened_by : Option Name → State → Option Tagged → ℕ × State
opened_by tag s (Some (StructureTag i)) = (i, s)
opened_by tag s None = new_structure tag s
opened_by tag s (Some _) = with_structure tag s

abbrev pub tagged_option : Option Name → State → Option Tagged
tagged_option None s = None
tagged_option (Some x) s = tagged_here x s

abbrev pub opened : Option Name → State → ℕ × State
opened tag s = opened_by tag s (tagged_option tag s)

abbrev pub is_enumeration : Option Tagged → Bool
is_enumeration None = false
is_enumeration (Some (StructureTag i)) = false
is_enumeration (Some _) = true

abbrev pub has_content : Option KnownStructure → Bool
has_content None = false
has_content (Some k) = is_some k.members

-- its members and its layout
module _ (target : Target) where
  abbrev pub with_members : List Named → State → KnownStructure → KnownStructure
  with_members ms s k = record {
    tag = k.tag;
    alias = k.alias;
    members = Some ms;
    layout = structure (map (λ m. type_layout target (layouts_of s) m.1) ms);
  }

  abbrev pub completed : ℕ → List Named → State → State
  completed i ms s = record {
    scopes = s.scopes;
    structures = change_at i (with_members ms s) s.structures;
    completed = s.completed ++ i ∷ [];
    names = s.names;
    locals = s.locals;
    unfinished = s.unfinished;
  }

  abbrev pub closed : ℕ → Bool → ℕ → List Named → State → Found CType
  closed at clash i ms s =
      if clash then whole at s (Err rule.DeclaredTwice)
      else (if has_content (slice_get s.structures i) then whole at s (Err rule.NoObjectType)
      else Ok (structure_type i, completed i ms s))

-- `struct x;` alone declares x in this scope (6.7.2.3, 7)
abbrev pub tag_by : Name → State → Option Tagged → State
tag_by x s None = (new_structure (Some x) s).1
tag_by x s (Some t) = s

abbrev pub declared_tag : Name → State → State
declared_tag x s = tag_by x s (tagged_here x s)

-- ---- members (6.7.2.1): no two have one name

abbrev pub is_member_name : Name → List Named → Bool
is_member_name x ms = list_any (λ m. bytes_eq x m.0) ms

-- ---- enumerations (6.7.2.2)

abbrev pub enumeration_constant : Target → Constant → Judged ℤ
enumeration_constant target NoConstant = Err rule.EnumerationConstant
enumeration_constant target (Value n) = must (is_value_of int.Int target n) rule.EnumerationConstant (Ok n)
enumeration_constant target Traps = Err rule.ConstantTraps

-- its tag is in scope behind the tag itself, but names a type only behind the list (6.2.1, 7; 6.7.2.3, 2)
abbrev pub enumeration_tagged : Tagged → Option Name → State → State
enumeration_tagged t None s = s
enumeration_tagged t (Some x) s = bind_tag x t s

abbrev pub enumeration_closed : ℕ → Bool → Option Name → State → Found CType
enumeration_closed at clash tag s = if clash then whole at s (Err rule.DeclaredTwice) else Ok (enumeration_type, enumeration_tagged EnumerationTag tag s)

-- a tag that is declared in this scope already stays as it is
abbrev pub in_list : Option Name → State → State
in_list tag s = if is_some (tagged_option tag s) then s else enumeration_tagged UnfinishedEnumeration tag s

-- `enum x`: x is declared in scope (6.7.2.3, 2)
abbrev pub enumeration_named : ℕ → State → Option Tagged → Found CType
enumeration_named at s None = whole at s (Err rule.Undeclared)
enumeration_named at s (Some UnfinishedEnumeration) = whole at s (Err rule.Undeclared)
enumeration_named at s (Some (StructureTag i)) = whole at s (Err rule.DeclaredTwice)
enumeration_named at s (Some EnumerationTag) = Ok (enumeration_type, s)
