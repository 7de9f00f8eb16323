-- The names that linking gives: first to structures, then to things, then to locals (C99 6.2.3).
use Rattle.std.specs.Prelude.{ℕ, nat_eq, List, [], ◌∷◌, ◌++◌, map, flat_map, position, slice_get, slice_index_or, Option, Some, None, codes, option_and_then}
use Rattle.cc_definitions.specs.Definitions.{thing_at, named, functions, function_of}
use Rattle.cc_linked_names.specs.declared.given.Given.{Given as GivenOf}
use Rattle.cc_names.specs.Names.{Wish, Own, Numbered, names_for}
use Rattle.cc_program.specs.declared.func.Func.{Func}
use Rattle.cc_program.specs.declared.program.Roles.{Roles}
use Rattle.cc_structures.specs.Structures.{Known, tag_of}
use Rattle.cc_typed.specs.CcSyntax.Names.{intrinsic_names}
use Rattle.cc_things.specs.Things.{Thing, own_name}
use Rattle.cc_things.specs.declared.text.Text.{Text}

-- ---- what is wished for

abbrev pub wish_or : List ℕ → Option (List ℕ) → Wish
wish_or base (Some x) = Own x
wish_or base None = Numbered base

-- a structure without a tag, and a string, have numbered names
abbrev pub tag_wish : Known → Wish
tag_wish s = wish_or (codes "anon") (tag_of s)

abbrev pub thing_wish : Thing → Wish
thing_wish t = wish_or (codes "text") (own_name t)

abbrev pub local_wishes_in : Option Func → List Wish
local_wishes_in None = []
local_wishes_in (Some f) = map (λ l. Own l.0) f.locals

abbrev pub local_wishes : Thing → List Wish
local_wishes t = local_wishes_in (function_of t)

-- each function of a list with the names of its locals: each has a space of its own inside an outer one, and no new
-- name is one that was given before
module _ (ts : List Thing) (reserved outer : List (List ℕ)) where
  unfoldable pub locals_for : List (List ℕ) → List ℕ → List (ℕ × List (List ℕ))
  locals_for given [] = []
  locals_for given (k ∷ ks) =
      let xs = names_for reserved given outer (local_wishes (thing_at ts k)) in (k, xs) ∷ locals_for (given ++ xs) ks

-- no new name is an identifier of a source or the name of an intrinsic
abbrev pub reserved_names : List Text → Roles → List (List ℕ)
reserved_names texts roles = flat_map (λ x. x.identifiers) texts ++ intrinsic_names roles

-- ---- what is given

module _ (ts : List Thing) (reserved : List (List ℕ)) (roles : Roles) (firsts : List Known) where
  -- tags have a space of their own (C99 6.2.3, 1)
  abbrev pub tags : List (List ℕ)
  tags = names_for reserved [] [] (map tag_wish firsts)

  -- functions, objects, devices and the intrinsics share one
  abbrev pub file_names : List (List ℕ)
  file_names = names_for reserved tags (intrinsic_names roles) (map (λ k. thing_wish (thing_at ts k)) (named ts))

  -- the name of a thing in the program, where it has one
  abbrev pub name_at : ℕ → Option (List ℕ)
  name_at k = option_and_then (slice_get file_names) (position (nat_eq k) (named ts))

  -- the functions with the names of their locals
  abbrev pub local_names : List (ℕ × List (List ℕ))
  local_names = locals_for ts reserved (intrinsic_names roles ++ file_names) (tags ++ file_names) (functions ts)

-- ---- what the code keeps of it

-- the name of a thing, by the position that is kept for it
abbrev pub given_name : GivenOf → ℕ → Option (List ℕ)
given_name given k = option_and_then (slice_get given.file.names.items) (slice_index_or given.file.positions.items k None)
