-- Which types objects, members and elements may have: complete object types, and not too large (C99 6.2.5, 6.7, 7;
-- 6.7.2.1, 2; 6.7.5.2, 1).
use Rattle.std.specs.Prelude.{ℕ, ◌*◌, Bool, ◌&&◌, nat_lt, List, Option, Some, None, if◌then◌else◌}
use Rattle.cc_program.specs.CcNum.declared.target.Target.{Target}
use Rattle.cc_program.specs.declared.types.CType.{CType}
use Rattle.cc_program.specs.declared.types.Structure.{Structure}
use Rattle.cc_syntax.specs.Kinds.{is_small}
use Rattle.cc_syntax.specs.Layout.{type_layout}
use Rattle.cc_syntax.specs.Types.{is_complete}
use Rattle.cc_syntax.specs.declared.sizes.Layout.{Layout}

-- so many bytes, where an object may have them
abbrev pub small : ℕ → Option ℕ
small n = if is_small n then Some n else None

-- of so many elements
abbrev pub array_size : ℕ → Option ℕ → Option ℕ
array_size n None = None
array_size n (Some size) = if nat_lt 0 n then small (n * size) else None

-- over structures whose layouts are known
module _ (target : Target) (structures : List Structure) (layouts : List Layout) where
  abbrev pub size_of : CType → ℕ
  size_of t = (type_layout target layouts t).size

  abbrev pub is_object : CType → Bool
  is_object t = is_complete structures t && is_small (size_of t)

  abbrev pub object_size : CType → Option ℕ
  object_size t = if is_object t then Some (size_of t) else None
