-- Address constants are typed to pointers that are assigned as they are, and give the leaves that they show.
use Rattle.std.proofs.Common.{◌≡◌, ℕ, pos, Bool, true, false, not, ◌&&◌, ◌||◌, List, Option, Some, None, Ok, refl, ap, sym, ◌∙◌, subst, slice_get, nat_le, nat_eq, arith}
use Rattle.cc_type.specs.CcDesignators.Designators.{TypedExpr, IsPlace, IsValue, IsFunction}
use Rattle.cc_type.specs.CcDesignators.Postfix.{address_at}
use Rattle.cc_expression_trees.specs.Constants.{IsZero}
use Rattle.cc_type.specs.CcInitial.Addresses.{Spot, Located, ConstantExpression, AtNull, AtSpot, located, place_located, spot_address, address_leaf, moved_to, moved_address, leaf_of, path_into}
use Rattle.cc_type.specs.CcLex.declared.token.Mark.TheVariants as m
use Rattle.cc_program.specs.CcNum.declared.int_type.IntType.{IntType}
use Rattle.cc_program.specs.CcNum.declared.int_type.IntType.TheVariants as int
use Rattle.cc_type.specs.CcObjects.Values.{objects_in, leaf_given}
use Rattle.cc_type.specs.CcOperands.Operands.{Operand, operand, integer, number_type, is_pointer, is_zero_constant, is_null_at, constant_at, null_of, is_null_constant}
use Rattle.cc_type.specs.CcOperands.Qualified.{type_of_value}
use Rattle.cc_type.specs.CcOperands.Operators.{operator_of}
use Rattle.cc_type.specs.CcOperands.Assignments.{assigned}
use Rattle.cc_type.specs.CcOperands.Verdicts.{Judged, judge_then}
use Rattle.cc_type.specs.CcOperands.declared.operator.Operator.TheVariants as operator
use Rattle.cc_shown_expressions.proofs.Rules.{move-rule}
use Rattle.cc_type.specs.CcTypedTerms.Operators.{binary_by}
use Rattle.cc_type.specs.CcTypedTerms.Values.{gives, valued, value_found}
use Rattle.cc_program.specs.declared.expr.Expr.{Expr, Const, FuncAddr, AddrOf, Move, out-Expr}
use Rattle.cc_program.specs.declared.expr.Expr.TheOpen as one
use Rattle.cc_program.specs.declared.expr.Expr.TheVariants as expr_rolls
use Rattle.cc_program.specs.declared.expr.Place.{Place, Element}
use Rattle.cc_program.specs.declared.func.Func.{Func}
use Rattle.cc_program.specs.declared.object.Object.{Object}
use Rattle.cc_program.specs.declared.program.Program.{Program}
use Rattle.cc_program.specs.declared.types.CType.{CType}
use Rattle.cc_program.specs.declared.types.Shape.{Shape, out-Shape}
use Rattle.cc_program.specs.declared.types.Shape.TheOpen as shape
use Rattle.cc_program.specs.declared.types.Sig.{Sig}
use Rattle.cc_program.specs.declared.value.Address.{Address}
use Rattle.cc_program.specs.declared.value.Address.TheVariants as address
use Rattle.cc_program.specs.declared.value.Leaf.{Leaf}
use Rattle.cc_program.specs.declared.value.Leaf.TheVariants as leaf
use Rattle.cc_program.specs.declared.value.Part.{Part}
use Rattle.cc_program.specs.declared.value.Root.TheVariants as root
use Rattle.cc_type.specs.CcScopes.State.{State, structures_of}
use Rattle.cc_type.specs.CcScopes.Verdicts.{Found, whole, and_then}
use Rattle.cc_type.specs.CcSyntax.Expressions.{of_one}
use Rattle.cc_type.specs.CcSyntax.Folding.{NoConstant}
use Rattle.cc_type.specs.CcSyntax.Initial.{bound_of, leads_to_element, place_at, names_element, names_whole, names}
use Rattle.cc_type.specs.CcSyntax.Lists.{is_count}
use Rattle.cc_type.specs.CcSyntax.Operators.{is_handler, function_type, points_to_object}
use Rattle.cc_type.specs.CcSyntax.Programs.{is_address, static_place}
use Rattle.cc_type.specs.CcSyntax.Sizes.{AreSized}
use Rattle.cc_type.specs.CcSyntax.Types.{is_complete}
use Rattle.cc_type.specs.CcSyntax.Values.{ValueType, NoValue, Integer, ToObject, ToFunction, PlaceType, DevicePlace, ObjectPlace, FunctionPlace, is_scalar, is_assignable, is_assignable_some, pointer_shape, pointer_to, address_of, element_of}
use Rattle.cc_type.proofs.CcSyntax.Prefixes.{both_true}
use Rattle.cc_type.specs.CcTerms.Operations.{prefixed}
use Rattle.cc_type.specs.CcTerms.Terms.{tree_of, here}
use Rattle.cc_tree.specs.declared.at.At.{At}
use Rattle.cc_tree.specs.declared.tree.Declr.TheOpen as trees
use Rattle.cc_tree.specs.declared.tree.Tree as tree
use Rattle.cc_tree.specs.declared.tree.Tree.{Tree}
use Rattle.cc_tree.specs.declared.tree.Tree.TheVariants as tree_rolls
use Rattle.cc_expression_trees.specs.Types.{plain_suffix}
use Rattle.cc_unit_trees.specs.Values.{IsIndex, ShowsAtIndex, ElementInParens, AtIndex, ShowsAddress, AddressInParens, ShowsNull, ShowsFunction, ShowsElementAddress, ShowsWholeAddress, ShowsPast}
use Rattle.cc_shown_expressions.proofs.Constants.{paren-tree, zero-found}
use Rattle.cc_shown_expressions.specs.KnownNames.{TypesStand}
use Rattle.cc_shown_expressions.specs.OperationNumbers.{Numbers}
use Rattle.cc_shown_expressions.proofs.Levels.{one-is, when-is}
use Rattle.cc_shown_expressions.proofs.Trees.{tree-at, name-tree}
use Rattle.cc_shown_expressions.specs.Numbers.{type_numbered, sig_numbered, value_numbered, place_type_numbered}
use Rattle.cc_shown_expressions.proofs.Complete.{points-numbered}
use Rattle.cc_shown_expressions.proofs.Kept.{pointer-numbered, assignable-numbered, address-at}
use Rattle.cc_shown_declarations.specs.Known.{KnowsStatics}
use Rattle.cc_shown_declarations.specs.Numbers.{address_numbered}
use Rattle.cc_shown_declarations.proofs.Located.{expression-at, located-at, leaf-pointer, assigned-address, assigned-null, no-null}
use Rattle.cc_shown_declarations.proofs.Parts.{IsCompletePlace, element-complete, index-value, subscript-tree, PartShown, element-located, part-shown}

pointer-by : (t : CType) (x : shape.Shape-F Shape CType Sig) → is_pointer (pointer_shape t x) ≡ true
pointer-by t shape.Void = refl
pointer-by t (shape.Int i) = refl
pointer-by t (shape.Pointer to) = refl
pointer-by t (shape.Array of n) = refl
pointer-by t (shape.Struct i) = refl
pointer-by t (shape.Func g) = refl

pub pointer-is-one : (t : CType) → is_pointer (pointer_to t) ≡ true
pointer-is-one t = pointer-by t (out-Shape t.shape)

assignable-some : (w : ValueType) (o : Option ValueType) → is_assignable_some (Some w) o ≡ true → (v : ValueType) × (o ≡ Some v) × (is_assignable w v ≡ true)
assignable-some w None h = absurd (cc)
assignable-some w (Some v) h = (v, refl, h)

assigned-pointer : (w v : ValueType) → is_pointer w ≡ true → is_assignable w v ≡ true → is_scalar v ≡ true
assigned-pointer NoValue NoValue h a = absurd (cc)
assigned-pointer (Integer t) NoValue h a = absurd (cc)
assigned-pointer (ToObject c v t) NoValue h a = absurd (cc)
assigned-pointer (ToFunction g) NoValue h a = absurd (cc)
assigned-pointer w (Integer t) h a = refl
assigned-pointer w (ToObject c v t) h a = refl
assigned-pointer w (ToFunction g) h a = refl

zero-null : is_null_constant (integer (pos 0) int.Int) ≡ true
zero-null = ap (λ (y : one.Expr-F Expr Place). is_zero_constant (constant_at y) || (false && is_null_at y)) (expr_rolls.outs-Const (pos 0) int.Int)

-- ---- the index of an address is its array's count at most

or-cases : (a b : Bool) (C : Type 0) → (a || b) ≡ true → (a ≡ true → C) → (b ≡ true → C) → C
or-cases true b C h f g = f refl
or-cases false b C h f g = g h

whole-index : (index count : ℕ) → nat_eq count 1 ≡ true → nat_le index 1 ≡ true → nat_le index count ≡ true
whole-index index count h k = grind arith

pub index-at-most : (w : ValueType) (path : List Part) (index count : ℕ) (o : Option PlaceType) → names w path index count o ≡ true → nat_le index count ≡ true
index-at-most w path index count None h = absurd (cc)
index-at-most w path index count (Some a) h =
    or-cases (names_element w index count a) (names_whole w path index count a) (nat_le index count ≡ true) h
    (λ e. (both_true (nat_le index count) _ (both_true (is_count count (bound_of a)) _ e).1).0)
    (λ e. let k = both_true (nat_eq count 1) _ (both_true (not (leads_to_element path)) _ e).1 in whole-index index count k.0 (both_true (nat_le index 1) _ k.1).0)

module _ (p : Program) (f : Func) (n : Numbers) (s : State) (sized : AreSized p.structures p.target) (known : KnowsStatics p n s) (stand : TypesStand p f)
    (complete : (i : ℕ) (o : Object) → slice_get p.objects i ≡ Some o → is_complete p.structures o.ctype ≡ true) where
  abbrev value : ValueType → ValueType
  value v = value_numbered n.structure v

  abbrev place : PlaceType → PlaceType
  place a = place_type_numbered n.structure a

  abbrev lies : Expr → Located
  lies e = located (structures_of s) (objects_in s) e

  -- a tree whose value gives a scalar of such a type its first value
  pub record LeafShown (w : ValueType) (x : Tree) (at : ℕ) (l : Leaf) : Type 0 where
    pub found : TypedExpr
    pub is : tree_of p.target p.roles x at s ≡ Ok (found, s)
    pub taken : Operand
    pub value : (i : ℕ) → valued i found s ≡ Ok (taken, s)
    pub leaf : (constant : Bool) → leaf_given p.target constant w taken s ≡ Ok l

  -- the type of a pointer to a type of the program
  abbrev taker : CType → ValueType
  taker to = pointer_to (type_numbered n.structure to)

  leaf-by : (w : ValueType) (x : Operand) (e : Expr) (l : Leaf) → is_pointer w ≡ true → assigned p.target w x ≡ Ok (operand e w) → address_leaf (lies e) ≡ Ok l → (constant : Bool) → leaf_given p.target constant w x s ≡ Ok l
  leaf-by w x e l h a k constant = ap (λ (j : Judged Operand). judge_then j (λ y. leaf_of (structures_of s) (objects_in s) y)) a ∙ leaf-pointer (structures_of s) (objects_in s) e w h ∙ k

  -- ---- pointers to objects

  abbrev spot_of : ℕ → List Part → Bool → ℕ → ℕ → PlaceType → Spot
  spot_of object path element index count a = record { object = n.object object; path = path; element = element; index = index; count = count; type = place a }

  record SpotShown (to : CType) (object : ℕ) (path : List Part) (index count : ℕ) (x : Tree) (at : ℕ) : Type 0 where
    expr : Expr
    type : ValueType
    is : tree_of p.target p.roles x at s ≡ Ok (IsValue (operand expr (value type)), s)
    element : Bool
    own : PlaceType
    lies_at : lies expr ≡ AtSpot (spot_of object path element index count own)
    constant : constant_at (out-Expr expr) ≡ NoConstant
    null : is_null_at (out-Expr expr) ≡ false
    assignable : is_assignable (pointer_to to) type ≡ true
    points : points_to_object p.structures type ≡ true

  address-points : (a : PlaceType) (v : ValueType) → IsCompletePlace p sized a → address_of a ≡ Some v → points_to_object p.structures v ≡ true
  address-points (DevicePlace c t) v h k = absurd (cc)
  address-points (ObjectPlace c w t) v h k = let e : ToObject c w t ≡ v = cc in subst (λ (u : ValueType). points_to_object p.structures u ≡ true) e h
  address-points (FunctionPlace g) v h k = elim h [ ]

  -- the address of a place
  address-by : (x : At Tree) (at : ℕ) (q : Place) (a : PlaceType) (v : ValueType) → tree_of p.target p.roles x.node x.at s ≡ Ok (IsPlace q (place a), s) → address_of a ≡ Some v →
      tree_of p.target p.roles (tree.Prefix m.Amp x) at s ≡ Ok (IsValue (operand (AddrOf q) (value v)), s)
  address-by x at q a v h k =
      tree-at p n s (tree.Prefix m.Amp x) (trees.Prefix m.Amp x) (tree_rolls.outs-Prefix m.Amp x) at
      ∙ ap (λ (r : Found TypedExpr). and_then r (prefixed p.target m.Amp at x.at)) h
      ∙ ap (λ (o : Option ValueType). gives at s (address_at q o)) (address-at n.structure a v k)

  address-lies : (q : Place) → lies (AddrOf q) ≡ place_located (structures_of s) (objects_in s) q
  address-lies q = located-at (structures_of s) (objects_in s) (AddrOf q) (one.AddrOf q) (expr_rolls.outs-AddrOf q)

  -- an element, or the end of its array
  record EndShown (to : CType) (object : ℕ) (path : List Part) (index count : ℕ) (x : Tree) (at : ℕ) : Type 0 where
    spot : Place
    own : PlaceType
    type : ValueType
    is : tree_of p.target p.roles x at s ≡ Ok (IsPlace spot (place own), s)
    lies_at : place_located (structures_of s) (objects_in s) spot ≡ AtSpot (spot_of object path true index count own)
    address : address_of own ≡ Some type
    assignable : is_assignable (pointer_to to) type ≡ true
    whole : IsCompletePlace p sized own

  end-shown : (to : CType) (object : ℕ) (path : List Part) (index count : ℕ) (x : Tree) → ShowsAtIndex p to object path index count x → nat_le index count ≡ true → (at : ℕ) → EndShown to object path index count x at
  end-shown to object path index count _ (ElementInParens x h) k at =
      let q = end-shown to object path index count x.node h k x.at in
      record { spot = q.spot; own = q.own; type = q.type; is = paren-tree p.target p.roles s x at ∙ q.is; lies_at = q.lies_at; address = q.address; assignable = q.assignable; whole = q.whole }
  end-shown to object path index count _ (AtIndex a x y h e g j) k at =
      let q = part-shown p f n s sized known stand complete object path a x.node h x.at in
      let v = assignable-some (pointer_to to) (of_one (element_of a) address_of) g in
      let b = one-is (element_of a) address_of v.0 v.1 in
      record {
        spot = Element q.spot (Const (pos index) (number_type p.target index (plain_suffix index)));
        own = b.0;
        type = v.0;
        is = subscript-tree p f n s sized known stand complete x y at q.spot a b.0 index q.is j b.1;
        lies_at = element-located p f n s sized known stand complete object path a b.0 x q index count (number_type p.target index (plain_suffix index)) e k b.1;
        address = b.2;
        assignable = v.2;
        whole = element-complete p sized a b.0 q.whole b.1;
      }

  element-shown : (to : CType) (object : ℕ) (path : List Part) (index count : ℕ) (x : At Tree) (at : ℕ) → EndShown to object path index count x.node x.at → SpotShown to object path index count (tree.Prefix m.Amp x) at
  element-shown to object path index count x at q = record {
    expr = AddrOf q.spot;
    type = q.type;
    is = address-by x at q.spot q.own q.type q.is q.address;
    element = true;
    own = q.own;
    lies_at = address-lies q.spot ∙ q.lies_at;
    constant = ap constant_at (expr_rolls.outs-AddrOf q.spot);
    null = ap is_null_at (expr_rolls.outs-AddrOf q.spot);
    assignable = q.assignable;
    points = address-points q.own q.type q.whole q.address;
  }

  -- an object as a whole
  front-is : (object : ℕ) (path : List Part) (a : PlaceType) (x : Tree) (at : ℕ) (q : PartShown p f n s sized known stand complete object path a x at) → q.element ≡ false → q.front ≡ path
  front-is object path a x at q h = sym (ap (λ (b : Bool). path_into (spot_of object q.front b q.index q.count a)) h) ∙ q.path_is

  whole-shown : (to : CType) (object : ℕ) (path : List Part) (a : PlaceType) (x : At Tree) (at : ℕ) → leads_to_element path ≡ false → is_assignable_some (Some (pointer_to to)) (address_of a) ≡ true →
      PartShown p f n s sized known stand complete object path a x.node x.at → SpotShown to object path 0 1 (tree.Prefix m.Amp x) at
  whole-shown to object path a x at l g q =
      let v = assignable-some (pointer_to to) (address_of a) g in
      let e : q.element ≡ false = sym q.leads ∙ l in
      let one = q.single e in
      record {
        expr = AddrOf q.spot;
        type = v.0;
        is = address-by x at q.spot a v.0 q.is v.1;
        element = q.element;
        own = a;
        lies_at = address-lies q.spot ∙ q.located
            ∙ ap (λ (path : List Part). AtSpot (spot_of object path q.element q.index q.count a)) (front-is object path a x.node x.at q e)
            ∙ ap (λ i. AtSpot (spot_of object path q.element i q.count a)) one.0
            ∙ ap (λ k. AtSpot (spot_of object path q.element 0 k a)) one.1;
        constant = ap constant_at (expr_rolls.outs-AddrOf q.spot);
        null = ap is_null_at (expr_rolls.outs-AddrOf q.spot);
        assignable = v.2;
        points = address-points a v.0 q.whole v.1;
      }

  -- one past it
  past-located : (object : ℕ) (path : List Part) (e : Expr) (b : Bool) (a : PlaceType) (t : IntType) → lies e ≡ AtSpot (spot_of object path b 0 1 a) → lies (Move e (Const (pos 1) t) false) ≡ AtSpot (spot_of object path b 1 1 a)
  past-located object path e b a t h =
      located-at (structures_of s) (objects_in s) (Move e (Const (pos 1) t) false) (one.Move e (Const (pos 1) t) false) (expr_rolls.outs-Move e (Const (pos 1) t) false)
      ∙ ap (λ (c : ConstantExpression). moved_address false c.number (lies e)) (expression-at (structures_of s) (objects_in s) (Const (pos 1) t) (one.Const (pos 1) t) (expr_rolls.outs-Const (pos 1) t))
      ∙ ap (moved_to false (pos 1)) h

  past-shown : (to : CType) (object : ℕ) (path : List Part) (x y : At Tree) (at : ℕ) → IsIndex 1 y.node → SpotShown to object path 0 1 x.node x.at → SpotShown to object path 1 1 (tree.Binary m.Plus x y) at
  past-shown to object path x y at i q =
      let t = number_type p.target 1 (plain_suffix 1) in
      let a = operand q.expr (value q.type) in
      let moved = Move q.expr (Const (pos 1) t) false in
      record {
        expr = moved;
        type = q.type;
        is = tree-at p n s (tree.Binary m.Plus x y) (trees.Binary m.Plus x y) (tree_rolls.outs-Binary m.Plus x y) at
            ∙ ap (λ (r : Found TypedExpr). and_then (and_then r (valued x.at)) (λ x s. and_then (value_found (here p.target p.roles y) s) (λ y s. gives at s (binary_by p.target (structures_of s) (operator_of m.Plus) x y)))) q.is
            ∙ ap (λ (r : Found Operand). and_then r (λ y s. gives at s (binary_by p.target (structures_of s) (operator_of m.Plus) a y))) (index-value p f n s sized known stand complete 1 y i)
            ∙ ap (gives at s) (move-rule p.target (structures_of s) false operator.Sum a (integer (pos 1) t) t refl (points-numbered p n.structure s known.structures q.type q.points) refl);
        element = q.element;
        own = q.own;
        lies_at = past-located object path q.expr q.element q.own t q.lies_at;
        constant = ap constant_at (expr_rolls.outs-Move q.expr (Const (pos 1) t) false);
        null = ap is_null_at (expr_rolls.outs-Move q.expr (Const (pos 1) t) false);
        assignable = q.assignable;
        points = q.points;
      }

  abbrev SpotClaim : CType → Address → Tree → ℕ → Type 0
  SpotClaim to (address.At (root.Static object) path index count) x at = nat_le index count ≡ true → SpotShown to object path index count x at
  SpotClaim to (address.At (root.Auto activation func local) path index count) x at = Unit {0}
  SpotClaim to address.Null x at = Unit {0}
  SpotClaim to (address.Func i) x at = Unit {0}

  spot-in-parens : (to : CType) (a : Address) (x : At Tree) (at : ℕ) → SpotClaim to a x.node x.at → SpotClaim to a (tree.Paren x) at
  spot-in-parens to (address.At (root.Static object) path index count) x at c = λ h.
      let q = c h in
      record { expr = q.expr; type = q.type; is = paren-tree p.target p.roles s x at ∙ q.is; element = q.element; own = q.own; lies_at = q.lies_at; constant = q.constant; null = q.null; assignable = q.assignable; points = q.points }
  spot-in-parens to (address.At (root.Auto activation func local) path index count) x at c = tt
  spot-in-parens to address.Null x at c = tt
  spot-in-parens to (address.Func i) x at c = tt

  spot-shown : (to : CType) (a : Address) (x : Tree) → ShowsAddress p to a x → (at : ℕ) → SpotClaim to a x at
  spot-shown to _ _ (AddressInParens a x h) at = spot-in-parens to a x at (spot-shown to a x.node h x.at)
  spot-shown to _ _ (ShowsNull x h) at = tt
  spot-shown to _ _ (ShowsFunction i g there) at = tt
  spot-shown to _ _ (ShowsElementAddress object path index count x h) at = λ k. element-shown to object path index count x at (end-shown to object path index count x.node h k x.at)
  spot-shown to _ _ (ShowsWholeAddress object path a x l g h) at = λ k. whole-shown to object path a x at l g (part-shown p f n s sized known stand complete object path a x.node h x.at)
  spot-shown to _ _ (ShowsPast object path x y h i) at = λ k. past-shown to object path x y at i (spot-shown to (address.At (root.Static object) path 0 1) x.node h x.at refl)

  -- ---- addresses

  spot-leaf : (to : CType) (object : ℕ) (path : List Part) (index count : ℕ) (x : Tree) (at : ℕ) → SpotShown to object path index count x at → LeafShown (taker to) x at (leaf.Place (address_numbered n (address.At (root.Static object) path index count)))
  spot-leaf to object path index count x at q =
      let w = taker to in
      let same : w ≡ value (pointer_to to) = pointer-numbered n.structure to in
      let assignable : is_assignable w (value q.type) ≡ true = ap (λ (u : ValueType). is_assignable u (value q.type)) same ∙ assignable-numbered n.structure (pointer_to to) q.type q.assignable in
      let points = pointer-is-one (type_numbered n.structure to) in
      record {
        found = IsValue (operand q.expr (value q.type));
        is = q.is;
        taken = operand q.expr (value q.type);
        value = λ i. refl;
        leaf = leaf-by w (operand q.expr (value q.type)) q.expr (leaf.Place (spot_address (spot_of object path q.element index count q.own))) points
            (assigned-address p.target q.expr (value q.type) w points (assigned-pointer w (value q.type) points assignable) (no-null q.expr (value q.type) q.constant q.null) assignable)
            (ap address_leaf q.lies_at);
      }

  null-lies : (w : ValueType) → lies (null_of w) ≡ AtNull
  null-lies w = located-at (structures_of s) (objects_in s) (null_of w) (one.Null (type_of_value w)) (expr_rolls.outs-Null (type_of_value w))

  null-leaf : (to : CType) (x : Tree) (at : ℕ) → IsZero x → LeafShown (taker to) x at (leaf.Place address.Null)
  null-leaf to x at z =
      let w = taker to in
      let zero = integer (pos 0) int.Int in
      let points = pointer-is-one (type_numbered n.structure to) in
      record {
        found = IsValue zero;
        is = zero-found p.target p.roles s x z at;
        taken = zero;
        value = λ i. refl;
        leaf = leaf-by w zero (null_of w) (leaf.Place address.Null) points (assigned-null p.target zero w points refl refl zero-null) (ap address_leaf (null-lies w));
      }

  function-leaf : (to : CType) (i : ℕ) (g : Func) (at : ℕ) → slice_get p.funcs i ≡ Some g → is_address p (pointer_to to) (address.Func i) ≡ true → LeafShown (taker to) (tree.Named g.name) at (leaf.Place (address.Func (n.func i)))
  function-leaf to i g at there h =
      let w = taker to in
      let v = ToFunction (sig_numbered n.structure g.sig) in
      let same : w ≡ value (pointer_to to) = pointer-numbered n.structure to in
      let o = assignable-some (pointer_to to) (function_type (slice_get p.funcs i)) h in
      let is = when-is (not (is_handler g)) (ToFunction g.sig) o.0 (sym (ap function_type there) ∙ o.1) in
      let fits : is_assignable (pointer_to to) (ToFunction g.sig) ≡ true = ap (is_assignable (pointer_to to)) (sym is.1) ∙ o.2 in
      let assignable : is_assignable w v ≡ true = ap (λ (u : ValueType). is_assignable u v) same ∙ assignable-numbered n.structure (pointer_to to) (ToFunction g.sig) fits in
      let points = pointer-is-one (type_numbered n.structure to) in
      let e = FuncAddr (n.func i) in
      record {
        found = IsFunction (n.func i) (sig_numbered n.structure g.sig);
        is = name-tree p n s g.name at ∙ ap (whole at s) (known.funcs i g there at);
        taken = operand e v;
        value = λ i. refl;
        leaf = leaf-by w (operand e v) e (leaf.Place (address.Func (n.func i))) points
            (assigned-address p.target e v w points refl (no-null e v (ap constant_at (expr_rolls.outs-FuncAddr (n.func i))) (ap is_null_at (expr_rolls.outs-FuncAddr (n.func i)))) assignable)
            (ap address_leaf (located-at (structures_of s) (objects_in s) e (one.FuncAddr (n.func i)) (expr_rolls.outs-FuncAddr (n.func i))));
      }

  pub address-shown : (to : CType) (a : Address) (x : Tree) → ShowsAddress p to a x → is_address p (pointer_to to) a ≡ true → (at : ℕ) → LeafShown (taker to) x at (leaf.Place (address_numbered n a))
  address-shown to _ _ (AddressInParens a x h) k at =
      let q = address-shown to a x.node h k x.at in
      record { found = q.found; is = paren-tree p.target p.roles s x at ∙ q.is; taken = q.taken; value = q.value; leaf = q.leaf }
  address-shown to _ _ (ShowsNull x h) k at = null-leaf to x at h
  address-shown to _ _ (ShowsFunction i g there) k at = function-leaf to i g at there k
  address-shown to _ _ (ShowsElementAddress object path index count x h) k at =
      let l = index-at-most (pointer_to to) path index count (of_one (static_place p (root.Static object)) (place_at p.structures path)) k in
      spot-leaf to object path index count (tree.Prefix m.Amp x) at (element-shown to object path index count x at (end-shown to object path index count x.node h l x.at))
  address-shown to _ _ (ShowsWholeAddress object path a x l g h) k at =
      spot-leaf to object path 0 1 (tree.Prefix m.Amp x) at (whole-shown to object path a x at l g (part-shown p f n s sized known stand complete object path a x.node h x.at))
  address-shown to _ _ (ShowsPast object path x y h i) k at =
      spot-leaf to object path 1 1 (tree.Binary m.Plus x y) at (past-shown to object path x y at i (spot-shown to (address.At (root.Static object) path 0 1) x.node h x.at refl))
