-- Whether a structure stands in an object: as the object itself, in an element of it, or in a member.
use Rattle.std.specs.Prelude.{ℕ, Bool, true, false, not, ◌&&◌, ◌||◌, nat_eq, List, [], ◌∷◌, ◌++◌, fold, length, unwrap_or, slice_get}
use Rattle.std.specs.List.{list_any}
use Rattle.cc_program.specs.declared.func.Func.{Func}
use Rattle.cc_program.specs.declared.object.Object.{Object}
use Rattle.cc_program.specs.declared.program.Program.{Program}
use Rattle.cc_program.specs.declared.types.CType.{CType, fold-CType}
use Rattle.cc_program.specs.declared.types.Shape.TheOpen as shape
use Rattle.cc_program.specs.declared.types.Structure.{Structure}
use Rattle.cc_syntax.specs.Types.{Named}

abbrev pub stands_at : List Bool → ℕ → Bool
stands_at structures s = unwrap_or (slice_get structures s) false

abbrev pub stands_step : List Bool → shape.Shape-F Bool Bool (Unit {0}) → Bool
stands_step structures shape.Void = false
stands_step structures (shape.Int i) = false
stands_step structures (shape.Pointer to) = false
stands_step structures (shape.Array of n) = of
stands_step structures (shape.Struct s) = stands_at structures s
stands_step structures (shape.Func sig) = false

-- whether const parts count: what stands in a const object, element or member is const there (C99 6.5.2.3, 3)
module _ (in_const : Bool) where
  -- in a type, by whether it stands in the structures of which that is made
  unfoldable pub stands_in : List Bool → CType → Bool
  stands_in structures t = fold-CType Bool Bool (Unit {0}) (stands_step structures) (λ t. (in_const || not t.constant) && t.shape) (λ sig. tt) t

  -- it stands in itself, and in another structure where it stands in a member of that
  abbrev pub next_stands : ℕ → List Bool → Structure → Bool
  next_stands s before structure = nat_eq (length before) s || list_any (λ (m : Named). stands_in before m.1) structure.members

  -- in each structure: each has only those before it as members
  unfoldable pub stands : ℕ → List Structure → List Bool
  stands s structures = fold (λ (before : List Bool) (structure : Structure). before ++ next_stands s before structure ∷ []) [] structures

abbrev pub stands_in_objects : Bool → List Bool → List Object → Bool
stands_in_objects in_const structures objects = list_any (λ (o : Object). stands_in in_const structures o.ctype) objects

abbrev pub stands_in_locals : Bool → List Bool → List Func → Bool
stands_in_locals in_const structures funcs = list_any (λ (f : Func). list_any (λ (l : Named). stands_in in_const structures l.1) f.locals) funcs

-- whether a structure stands in a static object or a local where it is not const, and whether it stands in a local
abbrev pub is_open : Program → ℕ → Bool
is_open p s = let structures = stands false s p.structures in stands_in_objects false structures p.objects || stands_in_locals false structures p.funcs

abbrev pub is_automatic : Program → ℕ → Bool
is_automatic p s = stands_in_locals true (stands true s p.structures) p.funcs
