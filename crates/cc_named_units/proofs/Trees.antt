-- What expressions add, where their parts add so much (C99 6.5): construct by construct, over the meanings of the parts.
use Rattle.std.proofs.Common.{◌≡◌, ◌+◌, ℕ, suc, ℤ, Bool, true, false, List, [], ◌∷◌, ◌++◌, length, Option, Some, None, Ok, Err, arith}
use Rattle.std.specs.Prelude.{take, if◌then◌else◌}
use Rattle.cc_type.specs.CcDesignators.Assignments.{stepped_before}
use Rattle.cc_type.specs.CcDesignators.Casts.{fits_pointer, no_device}
use Rattle.cc_type.specs.CcDesignators.Designators.{TypedExpr, IsValue}
use Rattle.cc_type.specs.CcDesignators.Postfix.{is_array_place, address, indirection}
use Rattle.cc_type.specs.CcLex.declared.token.Mark.{Mark}
use Rattle.cc_program.specs.CcNum.declared.target.Target.{Target}
use Rattle.cc_type.specs.CcOperands.Operands.{Operand}
use Rattle.cc_type.specs.CcOperands.Operators.{unary_operator_of}
use Rattle.cc_type.specs.CcOperands.Verdicts.{Judged}
use Rattle.cc_type.specs.CcOperands.declared.rule.Rule.TheVariants as rule
use Rattle.cc_type.specs.CcTypedTerms.Devices.{device_of, declared_device, number_of, device_place, with_device, device_found, register_found, address_found, cast_constant, starred_by}
use Rattle.cc_type.specs.CcTypedTerms.Operators.{prefix_of, intrinsic_in, unary_by}
use Rattle.cc_type.specs.CcTypedTerms.Primary.{string_object, string_place, string_found}
use Rattle.cc_type.specs.CcTypedTerms.Sizes.{sizeof_judged, size_of_type}
use Rattle.cc_type.specs.CcTypedTerms.Values.{gives, valued, value_found, value, designating, designator}
use Rattle.cc_type.specs.CcTypedTerms.declared.prefix.Prefix.{Prefix}
use Rattle.cc_type.specs.CcTypedTerms.declared.prefix.Prefix.TheVariants as prefix
use Rattle.cc_program.specs.declared.expr.Intr.{Intr}
use Rattle.cc_program.specs.declared.object.Device.{Device}
use Rattle.cc_program.specs.declared.types.CType.{CType}
use Rattle.cc_program.specs.declared.types.Shape.{Shape, out-Shape}
use Rattle.cc_program.specs.declared.types.Shape.TheOpen as shape
use Rattle.cc_program.specs.declared.types.Sig.{Sig}
use Rattle.cc_type.specs.CcScopes.State.{State, structures_of, with_names, with_declared}
use Rattle.cc_type.specs.CcScopes.Verdicts.{whole, and_then, part}
use Rattle.cc_sound_terms.proofs.Founds.{answer}
use Rattle.cc_sound_terms.proofs.Meant.{valued_stays}
use Rattle.cc_type.specs.CcSpecifiers.Bounds.{is_bound}
use Rattle.cc_type.specs.CcTerms.Expressions.{argument_found, arguments_found}
use Rattle.cc_type.specs.CcTerms.Meanings.{TreeMeaning, TypeNameMeaning}
use Rattle.cc_type.specs.CcTerms.Operations.{as_value, subscript_base, subscript_judged, callee_by, callee, call_judged, prefixed_by, prefixed, forgotten, sizeof_found, sizeof_type_found}
use Rattle.cc_tree.specs.declared.at.At.{At}
use Rattle.cc_named_units.specs.Named.{Limits, Adds}
use Rattle.cc_named_units.proofs.Adding.{AreCounted, unmoved, chained, behind, before, answered, done, judged, in_turn_adds, string_more, device_more, names_forgotten}
use Rattle.cc_named_units.proofs.TermSteps.{TreeAdds, designating_stays, given, value_adds, value_then, designator_then, part_then, sole_value, sole_designator}

module _ (target : Target) (most : Limits) where
  -- a type name that adds no more than so many
  abbrev pub TypeNameAdds : ℕ → TypeNameMeaning → Type 0
  TypeNameAdds c m = (cast : Bool) (s : State) (r : CType × State) → m cast s ≡ Ok r → Adds most c s r.1

  -- ---- strings and devices

  string_by : (b : Bool) (at : ℕ) (bytes : List ℕ) (s : State) (r : TypedExpr × State) →
      (if b then answer (string_place s bytes) (with_declared (string_object target at bytes) s) else whole at s (Err rule.ArrayBound)) ≡ Ok r → Adds most 1 s r.1
  string_by true at bytes s r h = answered most 1 (string_place s bytes) s (with_declared (string_object target at bytes) s) r (string_more most target at bytes s) h
  string_by false at bytes s r h = absurd (cc)

  pub string_adds : (bytes : List ℕ) → TreeAdds most 1 (λ at s. string_found target at bytes s)
  string_adds bytes at s r h = string_by (is_bound (length bytes + 1)) at bytes s r h

  with_device_adds : (d : Device) (s : State) (o : Option ℕ) (r : TypedExpr × State) → answer (with_device d s o).0 (with_device d s o).1 ≡ Ok r → Adds most 1 s r.1
  with_device_adds d s (Some i) r h = done most 1 (device_place i d) s r h
  with_device_adds d s None r h = answered most 1 (device_place (length s.names) d) s (with_declared (declared_device d) s) r (device_more most d s) h

  device_by : (b : Bool) (at : ℕ) (d : Device) (s : State) (r : TypedExpr × State) → (if b then Ok (with_device d s (number_of d s.names)) else whole at s (Err rule.Device)) ≡ Ok r → Adds most 1 s r.1
  device_by true at d s r h = with_device_adds d s (number_of d s.names) r h
  device_by false at d s r h = absurd (cc)

  volatile_by : (b : Bool) (at : ℕ) (m : ℤ) (t : CType) (d : Device) (s : State) (r : TypedExpr × State) → (if b then device_found target at m d s else whole at s (no_device m t)) ≡ Ok r → Adds most 1 s r.1
  volatile_by true at m t d s r h = device_by (fits_pointer target m) at d s r h
  volatile_by false at m t d s r h = judged most 1 at s (no_device m t) r h

  register_adds : (at : ℕ) (m : ℤ) (t to : CType) (s : State) (y : shape.Shape-F Shape CType Sig) (r : TypedExpr × State) → register_found target at m t s to y ≡ Ok r → Adds most 1 s r.1
  register_adds at m t to s (shape.Int i) r h = volatile_by to.volatile at m t (device_of m to.constant i) s r h
  register_adds at m t to s shape.Void r h = judged most 1 at s (no_device m t) r h
  register_adds at m t to s (shape.Pointer u) r h = judged most 1 at s (no_device m t) r h
  register_adds at m t to s (shape.Array u k) r h = judged most 1 at s (no_device m t) r h
  register_adds at m t to s (shape.Struct j) r h = judged most 1 at s (no_device m t) r h
  register_adds at m t to s (shape.Func sig) r h = judged most 1 at s (no_device m t) r h

  address_adds : (at : ℕ) (m : ℤ) (t : CType) (s : State) (y : shape.Shape-F Shape CType Sig) (r : TypedExpr × State) → address_found target at m t s y ≡ Ok r → Adds most 1 s r.1
  address_adds at m t s (shape.Pointer to) r h = register_adds at m t to s (out-Shape to.shape) r h
  address_adds at m t s shape.Void r h = absurd (cc)
  address_adds at m t s (shape.Int i) r h = absurd (cc)
  address_adds at m t s (shape.Array u k) r h = absurd (cc)
  address_adds at m t s (shape.Struct j) r h = absurd (cc)
  address_adds at m t s (shape.Func sig) r h = absurd (cc)

  -- ---- prefixes

  starred_is : (at inner : ℕ) (x : TypedExpr) (s : State) (o : Option (ℤ × CType)) (r : TypedExpr × State) → starred_by target at inner x s o ≡ Ok r → Adds most 1 s r.1
  starred_is at inner x s (Some a) r h = address_adds at a.0 a.1 s (out-Shape a.1.shape) r h
  starred_is at inner x s None r h =
      behind most 1 (valued inner x s) (λ p s. whole at s (indirection p)) s r (λ y f. unmoved most 0 s y.1 (valued_stays inner x s y f)) (λ y f. judged most 1 at y.1 (indirection y.0) r f) h

  prefixed_is : (o : Mark) (at inner : ℕ) (x : TypedExpr) (s : State) (k : Prefix) (r : TypedExpr × State) → prefixed_by target o at inner x s k ≡ Ok r → Adds most 1 s r.1
  prefixed_is o at inner x s prefix.Star r h = starred_is at inner x s (cast_constant x) r h
  prefixed_is o at inner x s prefix.Amp r h =
      behind most 1 (designating x s) (λ x s. gives at s (address x)) s r (λ y f. unmoved most 0 s y.1 (designating_stays x s y f)) (λ y f. given most 1 at y.1 (address y.0) r f) h
  prefixed_is o at inner x s (prefix.Step down) r h =
      behind most 1 (designating x s) (λ x s. gives at s (stepped_before target (structures_of s) down x)) s r (λ y f. unmoved most 0 s y.1 (designating_stays x s y f))
      (λ y f. given most 1 at y.1 (stepped_before target (structures_of y.1) down y.0) r f) h
  prefixed_is o at inner x s prefix.OnValue r h =
      behind most 1 (valued inner x s) (λ x s. gives at s (unary_by target (unary_operator_of o) x)) s r (λ y f. unmoved most 0 s y.1 (valued_stays inner x s y f))
      (λ y f. given most 1 at y.1 (unary_by target (unary_operator_of o) y.0) r f) h

  pub prefixed_adds : (c : ℕ) (o : Mark) (e : At TreeMeaning) → TreeAdds most c e.node → TreeAdds most (suc c) (λ at s. part e s (prefixed target o at e.at))
  prefixed_adds c o e he at s r h = chained most c 1 (suc c) (e.node e.at s) (prefixed target o at e.at) s r (omega arith) (λ x f. he e.at s x f) (λ x f. prefixed_is o at e.at x.0 x.1 (prefix_of o) r f) h

  -- ---- sizeof

  forgotten_adds : (count : ℕ) (x : TypedExpr) (s : State) (r : TypedExpr × State) → forgotten count x s ≡ Ok r → Adds most 0 s r.1
  forgotten_adds count x s r h = answered most 0 x s (with_names (take count s.names) s) r (names_forgotten most count s) h

  pub sizeof_adds : (c : ℕ) (e : At TreeMeaning) → TreeAdds most c e.node → TreeAdds most c (λ at s. designator e s (sizeof_found target at (length s.names)))
  sizeof_adds c e he at s r h =
      sole_designator most c e he (sizeof_found target at (length s.names)) s r
      (λ x f. behind most 0 (gives at x.1 (sizeof_judged target x.1 x.0)) (forgotten (length s.names)) x.1 r (λ y g. given most 0 at x.1 (sizeof_judged target x.1 x.0) y g) (λ y g. forgotten_adds (length s.names) y.0 y.1 r g) f) h

  pub sizeof_type_adds : (c : ℕ) (t : TypeNameMeaning) → TypeNameAdds c t → TreeAdds most c (λ at s. and_then (t false s) (sizeof_type_found target at (length s.names)))
  sizeof_type_adds c t ht at s r h =
      before most c (t false s) (sizeof_type_found target at (length s.names)) s r (λ x f. ht false s x f)
      (λ x f. behind most 0 (gives at x.1 (size_of_type target x.1 x.0)) (forgotten (length s.names)) x.1 r (λ y g. given most 0 at x.1 (size_of_type target x.1 x.0) y g) (λ y g. forgotten_adds (length s.names) y.0 y.1 r g) f) h

  -- ---- calls and subscripts

  as_value_adds : (at : ℕ) (x : TypedExpr) (s : State) (r : TypedExpr × State) → as_value at x s ≡ Ok r → Adds most 0 s r.1
  as_value_adds at x s r h = behind most 0 (valued at x s) (λ y s. answer (IsValue y) s) s r (λ y f. unmoved most 0 s y.1 (valued_stays at x s y f)) (λ y f. done most 0 (IsValue y.0) y.1 r f) h

  base_by : (b : Bool) (at : ℕ) (x : TypedExpr) (s : State) (r : TypedExpr × State) → (if b then answer x s else as_value at x s) ≡ Ok r → Adds most 0 s r.1
  base_by true at x s r h = done most 0 x s r h
  base_by false at x s r h = as_value_adds at x s r h

  pub subscript_adds : (m k : ℕ) (a i : At TreeMeaning) → TreeAdds most m a.node → TreeAdds most k i.node →
      TreeAdds most (m + k) (λ at s. part a s (λ x s. and_then (subscript_base a.at x s) (λ x s. value i s (λ y s. whole at s (subscript_judged (structures_of s) x y)))))
  subscript_adds m k a i ha hi at s r h =
      part_then most m k a ha (λ x s. and_then (subscript_base a.at x s) (λ x s. value i s (λ y s. whole at s (subscript_judged (structures_of s) x y)))) s r
      (λ x f. behind most k (subscript_base a.at x.0 x.1) (λ x s. value i s (λ y s. whole at s (subscript_judged (structures_of s) x y))) x.1 r (λ y g. base_by (is_array_place x.0) a.at x.0 x.1 y g)
      (λ y g. sole_value most k i hi (λ z s. whole at s (subscript_judged (structures_of s) y.0 z)) y.1 r (λ z e. judged most 0 at z.1 (subscript_judged (structures_of z.1) y.0 z.0) r e) g) f) h

  callee_is : (at : ℕ) (x : TypedExpr) (s : State) (o : Option Intr) (r : TypedExpr × State) → callee_by at x s o ≡ Ok r → Adds most 0 s r.1
  callee_is at x s (Some i) r h = done most 0 x s r h
  callee_is at x s None r h = as_value_adds at x s r h

  argument_adds : (m : ℕ) (e : At TreeMeaning) → TreeAdds most m e.node → (front : List Operand) (s : State) (r : List Operand × State) → argument_found e front s ≡ Ok r → Adds most m s r.1
  argument_adds m e he front s r h = before most m (value_found e s) (λ x s. answer (front ++ x ∷ []) s) s r (λ x g. value_adds most m e he s x g) (λ x g. done most 0 (front ++ x.0 ∷ []) x.1 r g) h

  pub call_adds : (m k : ℕ) (f : At TreeMeaning) (args : List (At TreeMeaning)) → TreeAdds most m f.node → AreCounted (TreeAdds most) args k →
      TreeAdds most (m + k) (λ at s. part f s (λ x s. and_then (callee f.at x s) (λ x s. and_then (arguments_found args s) (λ xs s. gives at s (call_judged target x xs)))))
  call_adds m k f args hf ha at s r h =
      part_then most m k f hf (λ x s. and_then (callee f.at x s) (λ x s. and_then (arguments_found args s) (λ xs s. gives at s (call_judged target x xs)))) s r
      (λ x e. behind most k (callee f.at x.0 x.1) (λ x s. and_then (arguments_found args s) (λ xs s. gives at s (call_judged target x xs))) x.1 r (λ y g. callee_is f.at x.0 x.1 (intrinsic_in x.0) y g)
      (λ y g. before most k (arguments_found args y.1) (λ xs s. gives at s (call_judged target y.0 xs)) y.1 r
      (λ z i. in_turn_adds most argument_found (TreeAdds most) (λ m e he front s r j. argument_adds m e he front s r j) args k ha [] y.1 z i) (λ z i. given most 0 at z.1 (call_judged target y.0 z.0) r i) g) e) h

  -- ---- operators on values and places

  pub one_value : (c : ℕ) (e : At TreeMeaning) → TreeAdds most c e.node → (j : Operand → State → Judged TypedExpr) → TreeAdds most c (λ at s. value e s (λ x s. whole at s (j x s)))
  one_value c e he j at s r h = sole_value most c e he (λ x s. whole at s (j x s)) s r (λ x f. judged most 0 at x.1 (j x.0 x.1) r f) h

  pub one_place : (c : ℕ) (e : At TreeMeaning) → TreeAdds most c e.node → (j : TypedExpr → State → Judged TypedExpr) → TreeAdds most c (λ at s. designator e s (λ x s. whole at s (j x s)))
  one_place c e he j at s r h = sole_designator most c e he (λ x s. whole at s (j x s)) s r (λ x f. judged most 0 at x.1 (j x.0 x.1) r f) h

  pub place_given : (c : ℕ) (e : At TreeMeaning) → TreeAdds most c e.node → (j : TypedExpr → State → Judged Operand) → TreeAdds most c (λ at s. designator e s (λ x s. gives at s (j x s)))
  place_given c e he j at s r h = sole_designator most c e he (λ x s. gives at s (j x s)) s r (λ x f. given most 0 at x.1 (j x.0 x.1) r f) h

  pub two_values : (m k : ℕ) (a b : At TreeMeaning) → TreeAdds most m a.node → TreeAdds most k b.node → (j : Operand → Operand → State → Judged Operand) →
      TreeAdds most (m + k) (λ at s. value a s (λ x s. value b s (λ y s. gives at s (j x y s))))
  two_values m k a b ha hb j at s r h =
      value_then most m k a ha (λ x s. value b s (λ y s. gives at s (j x y s))) s r (λ x f. sole_value most k b hb (λ y s. gives at s (j x.0 y s)) x.1 r (λ y g. given most 0 at y.1 (j x.0 y.0 y.1) r g) f) h

  pub place_and_value : (m k : ℕ) (a b : At TreeMeaning) → TreeAdds most m a.node → TreeAdds most k b.node → (j : TypedExpr → Operand → State → Judged Operand) →
      TreeAdds most (m + k) (λ at s. designator a s (λ x s. value b s (λ y s. gives at s (j x y s))))
  place_and_value m k a b ha hb j at s r h =
      designator_then most m k a ha (λ x s. value b s (λ y s. gives at s (j x y s))) s r (λ x f. sole_value most k b hb (λ y s. gives at s (j x.0 y s)) x.1 r (λ y g. given most 0 at y.1 (j x.0 y.0 y.1) r g) f) h

  pub three_values : (l m k : ℕ) (c a b : At TreeMeaning) → TreeAdds most l c.node → TreeAdds most m a.node → TreeAdds most k b.node → (j : Operand → Operand → Operand → Judged Operand) →
      TreeAdds most (l + (m + k)) (λ at s. value c s (λ c s. value a s (λ x s. value b s (λ y s. gives at s (j c x y)))))
  three_values l m k c a b hc ha hb j at s r h =
      value_then most l (m + k) c hc (λ c s. value a s (λ x s. value b s (λ y s. gives at s (j c x y)))) s r
      (λ q e. value_then most m k a ha (λ x s. value b s (λ y s. gives at s (j q.0 x y))) q.1 r (λ x f. sole_value most k b hb (λ y s. gives at s (j q.0 x.0 y)) x.1 r (λ y g. given most 0 at y.1 (j q.0 x.0 y.0) r g) f) e) h

  pub cast_adds : (m k : ℕ) (t : TypeNameMeaning) (e : At TreeMeaning) → TypeNameAdds m t → TreeAdds most k e.node → (j : ℕ → CType → Operand → Judged TypedExpr) →
      TreeAdds most (m + k) (λ at s. and_then (t true s) (λ t s. value e s (λ x s. whole at s (j at t x))))
  cast_adds m k t e ht he j at s r h =
      chained most m k (m + k) (t true s) (λ t s. value e s (λ x s. whole at s (j at t x))) s r (omega arith) (λ x f. ht true s x f)
      (λ x f. sole_value most k e he (λ y s. whole at s (j at x.0 y)) x.1 r (λ y g. judged most 0 at y.1 (j at x.0 y.0) r g) f) h
