-- The law of expressions, whose parts have it.
use Rattle.std.proofs.Common.{◌≡◌, ◌∙◌, ◌+◌, ℕ, ℤ, Bool, true, false, List, [], ◌∷◌, ◌++◌, length, map, Option, Some, None, is_some, if◌then◌else◌, Ok, Err, refl, sym, subst}
use Rattle.cc_typed_bodies.specs.CcDesignators.Assignments.{assign_of, stepped_before, stepped_after}
use Rattle.cc_typed_bodies.specs.CcDesignators.Casts.{cast_of, fits_pointer, no_device}
use Rattle.cc_typed_bodies.specs.CcDesignators.Designators.{TypedExpr}
use Rattle.cc_typed_bodies.specs.CcDesignators.Postfix.{dot, arrow, address, indirection}
use Rattle.cc_typed_bodies.specs.CcLex.declared.token.Mark.{Mark}
use Rattle.cc_program.specs.CcNum.declared.target.Target.{Target}
use Rattle.cc_typed_bodies.specs.CcOperands.Choices.{choose_of, comma_of}
use Rattle.cc_typed_bodies.specs.CcOperands.Operands.{Operand}
use Rattle.cc_typed_bodies.specs.CcOperands.Operators.{operator_of, unary_operator_of}
use Rattle.cc_typed_bodies.specs.CcOperands.Verdicts.{Judged}
use Rattle.cc_typed_bodies.specs.CcOperands.declared.rule.Rule.TheVariants as rule
use Rattle.cc_typed_bodies.specs.CcTypedTerms.Devices.{address_found, register_found, device_found, device_of, with_device, number_of, cast_constant, starred_by}
use Rattle.cc_typed_bodies.specs.CcTypedTerms.Operators.{binary_by, is_minus, prefix_of, unary_by}
use Rattle.cc_typed_bodies.specs.CcTypedTerms.Primary.{named, string_place, string_object}
use Rattle.cc_typed_bodies.specs.CcTypedTerms.Sizes.{sizeof_judged, size_of_type}
use Rattle.cc_typed_bodies.specs.CcTypedTerms.Values.{gives, valued, designating, found_value, value_found, designated_found}
use Rattle.cc_typed_bodies.specs.CcTypedTerms.declared.prefix.Prefix.{Prefix}
use Rattle.cc_typed_bodies.specs.CcTypedTerms.declared.prefix.Prefix.TheVariants as prefix
use Rattle.cc_program.specs.declared.object.Device.{Device}
use Rattle.cc_program.specs.declared.program.Roles.{Roles}
use Rattle.cc_program.specs.declared.types.CType.{CType}
use Rattle.cc_program.specs.declared.types.Shape.{Shape, out-Shape}
use Rattle.cc_program.specs.declared.types.Shape.TheOpen as shape
use Rattle.cc_program.specs.declared.types.Sig.{Sig}
use Rattle.cc_typed_bodies.specs.CcScopes.State.{State, Name, with_declared, structures_of}
use Rattle.cc_typed_bodies.specs.CcScopes.Verdicts.{Found, whole, and_then}
use Rattle.cc_typed_bodies.specs.CcSpecifiers.Bounds.{is_bound}
use Rattle.cc_typed_bodies.proofs.CcTerms.Arms.{tree_in, tree-out}
use Rattle.cc_typed_bodies.specs.CcTerms.Expressions.{argument_found}
use Rattle.cc_typed_bodies.specs.CcTerms.InTurn.{in_turn, one_more}
use Rattle.cc_typed_bodies.specs.CcTerms.Operations.{subscript_base, subscript_judged, callee, call_judged, prefixed_by, forgotten}
use Rattle.cc_typed_bodies.specs.CcTerms.Terms.{tree_of, type_name_of, here}
use Rattle.cc_tree.specs.declared.at.At.{At}
use Rattle.cc_tree.specs.declared.tree.Declr.{Declr}
use Rattle.cc_tree.specs.declared.tree.Declr.TheOpen as one
use Rattle.cc_tree.specs.declared.tree.Enumr.{Enumr}
use Rattle.cc_tree.specs.declared.tree.MemberDecl.{MemberDecl}
use Rattle.cc_tree.specs.declared.tree.Param.{Param}
use Rattle.cc_tree.specs.declared.tree.Params.{Params}
use Rattle.cc_tree.specs.declared.tree.Spec.{Spec}
use Rattle.cc_tree.specs.declared.tree.Tree.{Tree, out-Tree, roll-Tree, out-roll-Tree}
use Rattle.cc_tree.specs.declared.tree.TypeName.{TypeName}
use Rattle.cc_first_faults.specs.Constructs.{Construct, Expression, ValueOf, DesignatedBy, Valued, Designated, TypeNamed}
use Rattle.cc_first_faults.specs.FirstFaults.{forget}
use Rattle.cc_first_faults.specs.Parts.{value_part, expression_part, value_parts, prefixed_parts, subscripted_parts, called_parts, expression_parts}
use Rattle.cc_first_faults.proofs.Induction.{plain, OfTree, SomeDeclr, SomeParams, SomeSpec, SomeTree, SomeEnumr, SomeMembers, SomeParam, SomeTypeName, bare_tree}
use Rattle.cc_first_faults.proofs.Lawful.{Own, own-whole, own-then}
use Rattle.cc_first_faults.proofs.Laws.{Law, Told, first, single, followed, last}
use Rattle.cc_first_faults.proofs.Typed.{valued-told, designated-told, subscripted-told, called-told}

-- ---- what is found of a device, of a string, of sizeof, is judged as a whole

own-gives : (at : ℕ) (s : State) (j : Judged Operand) → Own at (forget (gives at s j))
own-gives at s j = own-whole at s (found_value j)

own-device : (b : Bool) (at : ℕ) (s : State) (found : TypedExpr × State) → Own at (forget {A = TypedExpr} (if b then Ok found else whole at s (Err rule.Device)))
own-device true at s found = tt
own-device false at s found = refl

own-volatile : (b : Bool) (target : Target) (at : ℕ) (n : ℤ) (d : Device) (s : State) (t : CType) → Own at (forget (if b then device_found target at n d s else whole at s (no_device n t)))
own-volatile true target at n d s t = own-device (fits_pointer target n) at s (with_device d s (number_of d s.names))
own-volatile false target at n d s t = own-whole at s (no_device n t)

own-register : (target : Target) (at : ℕ) (n : ℤ) (t to : CType) (s : State) (x : shape.Shape-F Shape CType Sig) → Own at (forget (register_found target at n t s to x))
own-register target at n t to s (shape.Int i) = own-volatile to.volatile target at n (device_of n to.constant i) s t
own-register target at n t to s shape.Void = own-whole at s (no_device n t)
own-register target at n t to s (shape.Pointer of) = own-whole at s (no_device n t)
own-register target at n t to s (shape.Array of m) = own-whole at s (no_device n t)
own-register target at n t to s (shape.Struct i) = own-whole at s (no_device n t)
own-register target at n t to s (shape.Func sig) = own-whole at s (no_device n t)

own-address : (target : Target) (at : ℕ) (n : ℤ) (t : CType) (s : State) (x : shape.Shape-F Shape CType Sig) → Own at (forget (address_found target at n t s x))
own-address target at n t s (shape.Pointer to) = own-register target at n t to s (out-Shape to.shape)
own-address target at n t s (shape.Int i) = refl
own-address target at n t s shape.Void = refl
own-address target at n t s (shape.Array of m) = refl
own-address target at n t s (shape.Struct i) = refl
own-address target at n t s (shape.Func sig) = refl

own-string : (b : Bool) (at : ℕ) (s : State) (found : TypedExpr × State) → Own at (forget {A = TypedExpr} (if b then Ok found else whole at s (Err rule.ArrayBound)))
own-string true at s found = tt
own-string false at s found = refl

own-forgotten : (at count : ℕ) (s : State) (j : Judged Operand) → Own at (forget (and_then (gives at s j) (forgotten count)))
own-forgotten at count s j = own-then at (gives at s j) (forgotten count) (own-gives at s j) (λ x t. tt)

-- an argument is found behind those before it, whose values are kept
value-first-of : {A B : Type 0} (m : Found A) (before : List A) (more : List A → State → Found (List A)) (next : List A → State → Found B) →
    and_then m (λ x s. and_then (more (before ++ x ∷ []) s) next) ≡ and_then (and_then (one_more before m) more) next
value-first-of (Ok found) before more next = refl
value-first-of (Err fault) before more next = refl

module _ (target : Target) (roles : Roles) (defined : List Name) where
  abbrev ATree : Type 0
  ATree = SomeTree target roles defined

  -- ---- an expression in others, as such, as a value, and as what it designates

  pub tree-told : (at : ℕ) (e : At ATree) (s : State) → Told target roles defined at ((Expression (plain e), s) ∷ []) (tree_of target roles e.node.0 e.at s)
  tree-told at e s = single target roles defined at (Expression (plain e)) s (tree_of target roles e.node.0 e.at s) refl (first target roles defined (Expression (plain e)) s (e.node.1 e.at s))

  pub value-law : (e : At ATree) (s : State) → Law target roles defined (ValueOf (plain e)) s
  value-law e s = followed target roles defined e.at ((Expression (plain e), s) ∷ []) (tree_of target roles e.node.0 e.at s) (valued e.at) (λ x t. (Valued e.at x, t) ∷ []) (tree-told e.at e s) (λ x t. valued-told target roles defined e.at e.at x t)

  pub designator-law : (e : At ATree) (s : State) → Law target roles defined (DesignatedBy (plain e)) s
  designator-law e s = followed target roles defined e.at ((Expression (plain e), s) ∷ []) (tree_of target roles e.node.0 e.at s) designating (λ x t. (Designated x, t) ∷ []) (tree-told e.at e s) (λ x t. designated-told target roles defined e.at x t)

  pub value-told : (at : ℕ) (e : At ATree) (s : State) → Told target roles defined at ((ValueOf (plain e), s) ∷ []) (value_found (here target roles (plain e)) s)
  value-told at e s = single target roles defined at (ValueOf (plain e)) s (value_found (here target roles (plain e)) s) refl (first target roles defined (ValueOf (plain e)) s (value-law e s))

  designator-told : (at : ℕ) (e : At ATree) (s : State) → Told target roles defined at ((DesignatedBy (plain e), s) ∷ []) (designated_found (here target roles (plain e)) s)
  designator-told at e s = single target roles defined at (DesignatedBy (plain e)) s (designated_found (here target roles (plain e)) s) refl (first target roles defined (DesignatedBy (plain e)) s (designator-law e s))

  type-told : (at : ℕ) (cast : Bool) (t : SomeTypeName target roles defined) (s : State) → Told target roles defined at ((TypeNamed cast t.0, s) ∷ []) (type_name_of target roles t.0 cast s)
  type-told at cast t s = single target roles defined at (TypeNamed cast t.0) s (type_name_of target roles t.0 cast s) refl (first target roles defined (TypeNamed cast t.0) s (t.1 cast s))

  -- ---- such a part, and what stands behind it; or the last

  abbrev Rest : Type 0 → Type 0
  Rest A = A → State → List (Construct × State)

  value-then : {B : Type 0} (at : ℕ) (e : At ATree) (s : State) (next : Operand → State → Found B) (rest : Rest Operand) → ((x : Operand) (t : State) → Told target roles defined at (rest x t) (next x t)) →
      Told target roles defined at (value_part target roles (plain e) s rest) (and_then (value_found (here target roles (plain e)) s) next)
  value-then at e s next rest h = followed target roles defined at ((ValueOf (plain e), s) ∷ []) (value_found (here target roles (plain e)) s) next rest (value-told at e s) h

  pub value-last : {B : Type 0} (at : ℕ) (e : At ATree) (s : State) (next : Operand → State → Found B) → ((x : Operand) (t : State) → Own at (forget (next x t))) →
      Told target roles defined at ((ValueOf (plain e), s) ∷ []) (and_then (value_found (here target roles (plain e)) s) next)
  value-last at e s next h = last target roles defined at ((ValueOf (plain e), s) ∷ []) (value_found (here target roles (plain e)) s) next (value-told at e s) h

  designator-last : {B : Type 0} (at : ℕ) (e : At ATree) (s : State) (next : TypedExpr → State → Found B) → ((x : TypedExpr) (t : State) → Own at (forget (next x t))) →
      Told target roles defined at ((DesignatedBy (plain e), s) ∷ []) (and_then (designated_found (here target roles (plain e)) s) next)
  designator-last at e s next h = last target roles defined at ((DesignatedBy (plain e), s) ∷ []) (designated_found (here target roles (plain e)) s) next (designator-told at e s) h

  tree-then : {B : Type 0} (at : ℕ) (e : At ATree) (s : State) (next : TypedExpr → State → Found B) (rest : Rest TypedExpr) → ((x : TypedExpr) (t : State) → Told target roles defined at (rest x t) (next x t)) →
      Told target roles defined at (expression_part target roles (plain e) s rest) (and_then (tree_of target roles e.node.0 e.at s) next)
  tree-then at e s next rest h = followed target roles defined at ((Expression (plain e), s) ∷ []) (tree_of target roles e.node.0 e.at s) next rest (tree-told at e s) h

  two-told : {B : Type 0} (at : ℕ) (a b : At ATree) (s : State) (next : Operand → Operand → State → Found B) → ((x y : Operand) (t : State) → Own at (forget (next x y t))) →
      Told target roles defined at (value_parts target roles (plain a ∷ plain b ∷ []) s) (and_then (value_found (here target roles (plain a)) s) (λ x s. and_then (value_found (here target roles (plain b)) s) (next x)))
  two-told at a b s next h = value-then at a s _ _ (λ x s. value-then at b s (next x) _ (λ y s. h x y s))

  three-told : {B : Type 0} (at : ℕ) (a b c : At ATree) (s : State) (next : Operand → Operand → Operand → State → Found B) → ((x y z : Operand) (t : State) → Own at (forget (next x y z t))) →
      Told target roles defined at (value_parts target roles (plain a ∷ plain b ∷ plain c ∷ []) s)
      (and_then (value_found (here target roles (plain a)) s) (λ x s. and_then (value_found (here target roles (plain b)) s) (λ y s. and_then (value_found (here target roles (plain c)) s) (next x y))))
  three-told at a b c s next h = value-then at a s _ _ (λ x s. two-told at b c s (next x) (h x))

  -- ---- prefixes

  starred-told : (at inner : ℕ) (x : TypedExpr) (s : State) (a : Option (ℤ × CType)) → Told target roles defined at (if is_some a then [] else (Valued inner x, s) ∷ []) (starred_by target at inner x s a)
  starred-told at inner x s (Some a) = own-address target at a.0 a.1 s (out-Shape a.1.shape)
  starred-told at inner x s None =
      last target roles defined at ((Valued inner x, s) ∷ []) (valued inner x s) (λ p s. whole at s (indirection p)) (valued-told target roles defined at inner x s) (λ p t. own-whole at t (indirection p))

  prefix-told : (o : Mark) (at inner : ℕ) (x : TypedExpr) (s : State) (p : Prefix) → Told target roles defined at (prefixed_parts inner x s p) (prefixed_by target o at inner x s p)
  prefix-told o at inner x s prefix.Star = starred-told at inner x s (cast_constant x)
  prefix-told o at inner x s prefix.Amp =
      last target roles defined at ((Designated x, s) ∷ []) (designating x s) (λ x s. gives at s (address x)) (designated-told target roles defined at x s) (λ x t. own-gives at t (address x))
  prefix-told o at inner x s (prefix.Step down) =
      last target roles defined at ((Designated x, s) ∷ []) (designating x s) (λ x s. gives at s (stepped_before target (structures_of s) down x)) (designated-told target roles defined at x s)
      (λ x t. own-gives at t (stepped_before target (structures_of t) down x))
  prefix-told o at inner x s prefix.OnValue =
      last target roles defined at ((Valued inner x, s) ∷ []) (valued inner x s) (λ x s. gives at s (unary_by target (unary_operator_of o) x)) (valued-told target roles defined at inner x s)
      (λ x t. own-gives at t (unary_by target (unary_operator_of o) x))

  -- ---- arguments

  argument-told : (at : ℕ) (e : At ATree) (before : List Operand) (s : State) → Told target roles defined at ((ValueOf (plain e), s) ∷ []) (argument_found (here target roles (plain e)) before s)
  argument-told at e before s = value-last at e s (λ x s. Ok (before ++ x ∷ [], s)) (λ x s. tt)

  -- the values of arguments are found behind those before them, but their parts stand alone
  arguments-told : {B : Type 0} (at : ℕ) (es : List (At ATree)) (before : List Operand) (s : State) (next : List Operand → State → Found B) → ((xs : List Operand) (t : State) → Own at (forget (next xs t))) →
      Told target roles defined at (value_parts target roles (map plain es) s) (and_then (in_turn argument_found (map (here target roles) (map plain es)) before s) next)
  arguments-told at [] before s next h = h before s
  arguments-told {B = B} at (e ∷ es) before s next h =
      subst (λ (m : Found B). Told target roles defined at (value_parts target roles (plain e ∷ map plain es) s) m)
      (value-first-of (value_found (here target roles (plain e)) s) before (in_turn argument_found (map (here target roles) (map plain es))) next)
      (value-then at e s (λ x s. and_then (in_turn argument_found (map (here target roles) (map plain es)) (before ++ x ∷ []) s) next) (λ x s. value_parts target roles (map plain es) s)
      (λ x s. arguments-told at es (before ++ x ∷ []) s next h))

  -- ---- an expression, by its layer

  abbrev Layer : Type 0
  Layer = one.Tree-F (SomeDeclr target roles defined) (SomeParams target roles defined) (SomeSpec target roles defined) ATree (SomeEnumr target roles defined) (SomeMembers target roles defined) (SomeParam target roles defined) (SomeTypeName target roles defined)

  by-layer : (y : Layer) (at : ℕ) (s : State) → Told target roles defined at (expression_parts target roles (bare_tree target roles defined y) s) (tree_in target roles (bare_tree target roles defined y) at s)
  by-layer (one.Tree::Named x) at s = own-whole at s (named roles at x s)
  by-layer (one.Number n suffix) at s = tt
  by-layer (one.Character byte) at s = tt
  by-layer (one.Text bytes) at s = own-string (is_bound (length bytes + 1)) at s (string_place s bytes, with_declared (string_object target at bytes) s)
  by-layer (one.Tree::Paren e) at s = tree-told at e s
  by-layer (one.Extension e) at s = tree-told at e s
  by-layer (one.Comma a b) at s = two-told at a b s (λ x y s. gives at s (comma_of x y)) (λ x y s. own-gives at s (comma_of x y))
  by-layer (one.Assign o a b) at s =
      followed target roles defined at ((DesignatedBy (plain a), s) ∷ []) (designated_found (here target roles (plain a)) s) _ _ (designator-told at a s)
      (λ x s. value-last at b s _ (λ y s. own-gives at s (assign_of target (structures_of s) o x y)))
  by-layer (one.Choose c a b) at s = three-told at c a b s (λ c x y s. gives at s (choose_of target c x y)) (λ c x y s. own-gives at s (choose_of target c x y))
  by-layer (one.Binary o a b) at s =
      two-told at a b s (λ x y s. gives at s (binary_by target (structures_of s) (operator_of o) x y)) (λ x y s. own-gives at s (binary_by target (structures_of s) (operator_of o) x y))
  by-layer (one.Prefix o e) at s = tree-then at e s _ _ (λ x s. prefix-told o at e.at x s (prefix_of o))
  by-layer (one.Postfix e o) at s = designator-last at e s _ (λ x s. own-gives at s (stepped_after (structures_of s) (is_minus o) x))
  by-layer (one.SizeOf e) at s = designator-last at e s _ (λ x t. own-forgotten at (length s.names) t (sizeof_judged target t x))
  by-layer (one.SizeOfType t) at s = last target roles defined at ((TypeNamed false t.0, s) ∷ []) (type_name_of target roles t.0 false s) _ (type-told at false t s) (λ u r. own-forgotten at (length s.names) r (size_of_type target r u))
  by-layer (one.Cast t e) at s =
      followed target roles defined at ((TypeNamed true t.0, s) ∷ []) (type_name_of target roles t.0 true s) _ _ (type-told at true t s)
      (λ u s. value-last at e s _ (λ x s. own-whole at s (cast_of target at u x)))
  by-layer (one.Subscript a i) at s =
      tree-then at a s _ _ (λ x s.
      followed target roles defined at (subscripted_parts a.at x s) (subscript_base a.at x s) _ _ (subscripted-told target roles defined at a.at x s)
      (λ x s. value-last at i s _ (λ y s. own-whole at s (subscript_judged (structures_of s) x y))))
  by-layer (one.Call f args) at s =
      tree-then at f s _ _ (λ x s.
      followed target roles defined at (called_parts f.at x s) (callee f.at x s) _ _ (called-told target roles defined at f.at x s)
      (λ x s. arguments-told at args [] s _ (λ xs s. own-gives at s (call_judged target x xs))))
  by-layer (one.Member e x) at s = designator-last at e s _ (λ y s. own-whole at s (dot (structures_of s) x y))
  by-layer (one.Arrow e x) at s = value-last at e s _ (λ y s. own-whole at s (arrow (structures_of s) x y))

  pub of-tree : (x : one.Tree-F Declr Params Spec Tree Enumr MemberDecl Param TypeName) (y : Layer) → bare_tree target roles defined y ≡ x → OfTree target roles defined (roll-Tree x)
  of-tree x y h at s =
      subst (λ m. Told target roles defined at (expression_parts target roles (out-Tree (roll-Tree x)) s) (m at s)) (sym (tree-out target roles (roll-Tree x)))
      (subst (λ o. Told target roles defined at (expression_parts target roles o s) (tree_in target roles o at s)) (h ∙ sym (out-roll-Tree x)) (by-layer y at s))
