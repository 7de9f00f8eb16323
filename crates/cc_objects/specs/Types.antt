-- The types of objects, where an initialiser may give an array its bound (C99 6.2.7, 6.7.8).
use Rattle.std.specs.Prelude.{ℕ, Bool, false, not, ◌&&◌, ◌||◌, Option, Some, None, slice_get, Ok, if◌then◌else◌}
use Rattle.cc_initialisers.specs.Contents.{Contents, contents}
use Rattle.cc_initialisers.specs.Initialisers.{bound_given}
use Rattle.cc_linkage.specs.Linkage.{is_visible}
use Rattle.cc_program.specs.CcNum.declared.target.Target.{Target}
use Rattle.cc_typed_terms.specs.CcOperands.Qualified.{plain}
use Rattle.cc_typed_terms.specs.CcOperands.Verdicts.{Judged, must, judge_then}
use Rattle.cc_typed_terms.specs.CcOperands.declared.rule.Rule.TheVariants as rule
use Rattle.cc_program.specs.declared.expr.Place.{Place}
use Rattle.cc_program.specs.declared.types.CType.{CType}
use Rattle.cc_program.specs.declared.types.Shape.{Shape, Array, out-Shape}
use Rattle.cc_program.specs.declared.types.Shape.TheOpen as shape
use Rattle.cc_program.specs.declared.types.Sig.{Sig}
use Rattle.cc_typed_terms.specs.CcScopes.Linked.{linked_name}
use Rattle.cc_typed_terms.specs.CcScopes.State.{State, Name, structures_of, layouts_of, with_unfinished}
use Rattle.cc_typed_terms.specs.CcScopes.declared.unit.Declared.{Declared}
use Rattle.cc_typed_terms.specs.CcSpecifiers.Bounds.{is_bound}
use Rattle.cc_typed_terms.specs.CcSpecifiers.Declarators.{is_unbounded, bound_or_none}
use Rattle.cc_typed_terms.specs.CcSpecifiers.Objects.{is_object}
use Rattle.cc_syntax.specs.Initial.{bound_shape}
use Rattle.cc_syntax.specs.SameTypes.{same_type}
use Rattle.cc_tree.specs.declared.at.At.{At}
use Rattle.cc_tree.specs.declared.unit.Given.{Given}

abbrev pub element_or : CType → shape.Shape-F Shape CType Sig → CType
element_or t (shape.Array of n) = of
element_or t _ = t

abbrev pub element_type : CType → CType
element_type t = element_or t (out-Shape t.shape)

abbrev pub with_bound : CType → ℕ → CType
with_bound t n = plain (Array (element_type t) n)

-- of an object of the type, which is no part of another
abbrev pub contents_in : CType → State → Contents
contents_in t s = contents (structures_of s) t false

-- the type of an object: an array without a bound has that which its initialiser gives
abbrev pub type_given : CType → Option (At Given) → State → CType
type_given t None s = t
type_given t (Some g) s = if is_unbounded t then with_bound t (bound_given (contents_in (element_type t) s) g.node) else t

-- such an array is incomplete to the end of its initialiser (6.7.8, 22), and then an object as any other
abbrev pub given_incomplete : CType → Place → State → State
given_incomplete t a s = if is_unbounded t then with_unfinished (Some a) s else s

abbrev pub bound_fits : CType → CType → Judged CType
bound_fits t u = must (not (is_unbounded t) || is_bound (bound_or_none (bound_shape (out-Shape u.shape)))) rule.ArrayBound (Ok u)

module _ (target : Target) where
  abbrev pub is_object_in : State → CType → Bool
  is_object_in s t = is_object target (structures_of s) (layouts_of s) t

  abbrev pub is_complete_or_unbounded : State → CType → Bool
  is_complete_or_unbounded s t = is_unbounded t || is_object_in s t

  -- t is its type as declared, and u its type
  abbrev pub completed_type : CType → CType → State → Judged CType
  completed_type t u s = judge_then (bound_fits t u) (λ u. must (is_object_in s u) rule.NoObjectType (Ok u))

-- a bound that comes with an initialiser is that of the other declarations
abbrev pub type_agrees : CType → Option Declared → Judged CType
type_agrees u None = Ok u
type_agrees u (Some d) = must (same_type u d.ctype) rule.DeclaredTwice (Ok u)

-- behind a declaration that is visible the type of a name is the composite type (6.2.7, 4)
abbrev pub composite_of : CType → Bool → Option Declared → CType
composite_of t visible None = t
composite_of t visible (Some d) = if visible && is_unbounded t then d.ctype else t

abbrev pub composite_by : Name → CType → State → Option ℕ → CType
composite_by x t s None = t
composite_by x t s (Some n) = composite_of t (is_visible n x s) (slice_get s.names n)

abbrev pub composite : Name → CType → State → CType
composite x t s = composite_by x t s (linked_name x s)
