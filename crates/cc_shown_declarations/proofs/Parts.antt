-- What a path leads to in a static object is typed to a place, and lies where the path leads.
use Rattle.std.proofs.Common.{◌≡◌, ℕ, ℤ, pos, Bool, true, false, List, [], ◌∷◌, ◌++◌, Option, Some, None, Ok, refl, ap, sym, ◌∙◌, subst, slice_get, nat_lt, nat_le, arith}
use Rattle.std.specs.Prelude.{is_some, if◌then◌else◌, take}
use Rattle.cc_bodies.specs.Names.{member_name}
use Rattle.cc_type.specs.CcDesignators.Designators.{TypedExpr, IsPlace, IsValue}
use Rattle.cc_type.specs.CcDesignators.Postfix.{element, element_by, dot}
use Rattle.cc_type.specs.CcInitial.Addresses.{Spot, Located, ConstantExpression, Trapping, AtSpot, constant_expression, place_located, into, path_into, element_found, element_spot, element_in, element_by as element_located, element_at as located_element, member_spot, whole_object}
use Rattle.cc_program.specs.CcNum.declared.int_type.IntType.{IntType}
use Rattle.cc_type.specs.CcObjects.Values.{objects_in}
use Rattle.cc_type.specs.CcOperands.Operands.{Operand, integer, number_type}
use Rattle.cc_shown_expressions.proofs.Rules.{with-scalar}
use Rattle.cc_type.specs.CcTypedTerms.Values.{valued, value_found, designating}
use Rattle.cc_program.specs.declared.expr.Expr.{Const}
use Rattle.cc_program.specs.declared.expr.Expr.TheOpen as one
use Rattle.cc_program.specs.declared.expr.Expr.TheVariants as expr_rolls
use Rattle.cc_program.specs.declared.expr.Place.{Place, Static, Element, Member}
use Rattle.cc_program.specs.declared.expr.Place.TheVariants as place_rolls
use Rattle.cc_program.specs.declared.func.Func.{Func}
use Rattle.cc_program.specs.declared.object.Object.{Object}
use Rattle.cc_program.specs.declared.program.Program.{Program}
use Rattle.cc_program.specs.declared.types.CType.{CType}
use Rattle.cc_program.specs.declared.types.Shape.{Shape, out-Shape}
use Rattle.cc_program.specs.declared.types.Shape.TheOpen as shape
use Rattle.cc_program.specs.declared.types.Sig.{Sig}
use Rattle.cc_program.specs.declared.types.Structure.{Structure}
use Rattle.cc_program.specs.declared.value.Part.{Part}
use Rattle.cc_program.specs.declared.value.Part.TheVariants as part
use Rattle.cc_type.specs.CcScopes.State.{State, structures_of}
use Rattle.cc_type.specs.CcScopes.Verdicts.{Found, whole, and_then}
use Rattle.cc_type.specs.CcSyntax.Initial.{bound_shape, bound_of, is_below, step_into, leads_to_element}
use Rattle.cc_type.specs.CcSyntax.Sizes.{AreSized}
use Rattle.cc_type.specs.CcSyntax.Types.{Named, complete_shape, is_complete}
use Rattle.cc_type.specs.CcSyntax.Values.{PlaceType, DevicePlace, ObjectPlace, FunctionPlace, object_place, element_shape, element_of, member_shape, member_in, member_at, member_of}
use Rattle.cc_type.proofs.CcSyntax.Parts.{all_at}
use Rattle.cc_type.proofs.CcSyntax.Prefixes.{both_true, complete-taken}
use Rattle.cc_type.proofs.CcSyntax.TypeLayouts.{parts_complete, complete-opens}
use Rattle.cc_type.specs.CcTerms.Operations.{subscript_base, subscript_judged, as_value}
use Rattle.cc_type.specs.CcTerms.Terms.{tree_of, here}
use Rattle.cc_tree.specs.declared.at.At.{At}
use Rattle.cc_tree.specs.declared.tree.Tree as tree
use Rattle.cc_tree.specs.declared.tree.Tree.{Tree}
use Rattle.cc_tree.specs.declared.tree.Declr.TheOpen as trees
use Rattle.cc_tree.specs.declared.tree.Tree.TheVariants as tree_rolls
use Rattle.cc_tree.specs.Tokens.{Name}
use Rattle.cc_expression_trees.specs.Types.{plain_suffix}
use Rattle.cc_unit_trees.specs.Values.{IsIndex, Index, IndexInParens, ShowsPart, PartInParens, ShowsObject, ShowsMember, ShowsElement}
use Rattle.cc_shown_expressions.proofs.Constants.{paren-tree, number-tree}
use Rattle.cc_shown_expressions.specs.KnownNames.{TypesStand}
use Rattle.cc_shown_expressions.specs.OperationNumbers.{Numbers}
use Rattle.cc_shown_expressions.proofs.Members.{member-is, dot-is}
use Rattle.cc_shown_expressions.proofs.Trees.{tree-at, name-tree}
use Rattle.cc_shown_expressions.specs.Numbers.{place_type_numbered}
use Rattle.cc_shown_expressions.proofs.Kept.{object-numbered, element-at}
use Rattle.cc_shown_expressions.proofs.Numbering.{level, level-at}
use Rattle.cc_shown_declarations.specs.Known.{KnowsStatics}
use Rattle.cc_shown_declarations.proofs.Located.{expression-at, place-located-at}

-- ---- paths

member-last : (path : List Part) (m : ℕ) → leads_to_element (path ++ part.Member m ∷ []) ≡ false
member-last [] m = refl
member-last (part.Member k ∷ []) m = refl
member-last (part.Index k ∷ []) m = refl
member-last (x ∷ y ∷ path) m = member-last (y ∷ path) m

element-last : (path : List Part) (i : ℕ) → leads_to_element (path ++ part.Index i ∷ []) ≡ true
element-last [] i = refl
element-last (part.Member k ∷ []) i = refl
element-last (part.Index k ∷ []) i = refl
element-last (x ∷ y ∷ path) i = element-last (y ∷ path) i

step-element : (i : ℕ) (a b : PlaceType) (t : Bool) → (if t then element_of a else None) ≡ Some b → (t ≡ true) × (element_of a ≡ Some b)
step-element i a b true h = (refl, h)
step-element i a b false h = absurd (cc)

below-bound : (i : ℕ) (o : Option ℕ) → is_below i o ≡ true → (k : ℕ) × (o ≡ Some k) × (nat_lt i k ≡ true)
below-bound i None h = absurd (cc)
below-bound i (Some k) h = (k, refl, h)

pub below-at-most : (i k : ℕ) → nat_lt i k ≡ true → nat_le i k ≡ true
below-at-most i k h = grind arith

bound-level : (number : ℕ → ℕ) (x : shape.Shape-F Shape CType Sig) → bound_shape (level number x) ≡ bound_shape x
bound-level number shape.Void = refl
bound-level number (shape.Int t) = refl
bound-level number (shape.Pointer to) = refl
bound-level number (shape.Array of n) = refl
bound-level number (shape.Struct i) = refl
bound-level number (shape.Func g) = refl

pub bound-numbered : (number : ℕ → ℕ) (a : PlaceType) → bound_of (place_type_numbered number a) ≡ bound_of a
bound-numbered number (DevicePlace c t) = refl
bound-numbered number (ObjectPlace c v t) = ap bound_shape (level-at number t (out-Shape t.shape) refl) ∙ bound-level number (out-Shape t.shape)
bound-numbered number (FunctionPlace g) = refl

-- ---- what a path leads to is complete

module _ (p : Program) (sized : AreSized p.structures p.target) where
  abbrev pub IsCompletePlace : PlaceType → Type 0
  IsCompletePlace (DevicePlace c t) = ⊥
  IsCompletePlace (ObjectPlace c v t) = is_complete p.structures t ≡ true
  IsCompletePlace (FunctionPlace g) = ⊥

  complete-as : (t : CType) (x : shape.Shape-F Shape CType Sig) → out-Shape t.shape ≡ x → is_complete p.structures t ≡ true → complete_shape p.structures (parts_complete p.structures x) ≡ true
  complete-as t x e h = sym (complete-opens p.structures t ∙ ap (λ y. complete_shape p.structures (parts_complete p.structures y)) e) ∙ h

  element-level : (c v : Bool) (t : CType) (x : shape.Shape-F Shape CType Sig) (b : PlaceType) → out-Shape t.shape ≡ x → is_complete p.structures t ≡ true → element_shape c v x ≡ Some b → IsCompletePlace b
  element-level c v t (shape.Array of n) b e h k =
      let same : ObjectPlace c v of ≡ b = cc in
      subst IsCompletePlace same (both_true (nat_lt 0 n) (is_complete p.structures of) (complete-as t (shape.Array of n) e h)).1
  element-level c v t shape.Void b e h k = absurd (cc)
  element-level c v t (shape.Int i) b e h k = absurd (cc)
  element-level c v t (shape.Pointer to) b e h k = absurd (cc)
  element-level c v t (shape.Struct i) b e h k = absurd (cc)
  element-level c v t (shape.Func g) b e h k = absurd (cc)

  pub element-complete : (a b : PlaceType) → IsCompletePlace a → element_of a ≡ Some b → IsCompletePlace b
  element-complete (DevicePlace c t) b h k = absurd (cc)
  element-complete (ObjectPlace c v t) b h k = element-level c v t (out-Shape t.shape) b refl h k
  element-complete (FunctionPlace g) b h k = absurd (cc)

  member-here : (c v : Bool) (i m : ℕ) (r : Structure) (o : Option Named) (b : PlaceType) → slice_get p.structures i ≡ Some r → slice_get r.members m ≡ o → member_at c v o ≡ Some b → IsCompletePlace b
  member-here c v i m r None b e f h = absurd (cc)
  member-here c v i m r (Some l) b e f h =
      let same : member_at c v (Some l) ≡ Some b = h in
      member-same c v l b same (complete-taken p.structures i l.1 (all_at (λ (l : Named). is_complete (take i p.structures) l.1 ≡ true) r.members m l f (sized.in_order i r e)))
    where
      member-same : (c v : Bool) (l : Named) (b : PlaceType) → member_at c v (Some l) ≡ Some b → is_complete p.structures l.1 ≡ true → IsCompletePlace b
      member-same c v l (DevicePlace d t) h k = absurd (cc)
      member-same c v l (ObjectPlace d w t) h k = let same : l.1 ≡ t = cc in subst (λ (u : CType). is_complete p.structures u ≡ true) same k
      member-same c v l (FunctionPlace g) h k = absurd (cc)

  member-there : (c v : Bool) (i m : ℕ) (o : Option Structure) (b : PlaceType) → slice_get p.structures i ≡ o → member_in c v m o ≡ Some b → IsCompletePlace b
  member-there c v i m None b e h = absurd (cc)
  member-there c v i m (Some r) b e h = member-here c v i m r (slice_get r.members m) b e refl h

  member-level : (c v : Bool) (m : ℕ) (x : shape.Shape-F Shape CType Sig) (b : PlaceType) → member_shape p.structures c v m x ≡ Some b → IsCompletePlace b
  member-level c v m (shape.Struct i) b h = member-there c v i m (slice_get p.structures i) b refl h
  member-level c v m shape.Void b h = absurd (cc)
  member-level c v m (shape.Int i) b h = absurd (cc)
  member-level c v m (shape.Pointer to) b h = absurd (cc)
  member-level c v m (shape.Array of n) b h = absurd (cc)
  member-level c v m (shape.Func g) b h = absurd (cc)

  pub member-complete : (m : ℕ) (a b : PlaceType) → member_of p.structures m a ≡ Some b → IsCompletePlace b
  member-complete m (DevicePlace c t) b h = absurd (cc)
  member-complete m (ObjectPlace c v t) b h = member-level c v m (out-Shape t.shape) b h
  member-complete m (FunctionPlace g) b h = absurd (cc)

module _ (p : Program) (f : Func) (n : Numbers) (s : State) (sized : AreSized p.structures p.target) (known : KnowsStatics p n s) (stand : TypesStand p f)
    (complete : (i : ℕ) (o : Object) → slice_get p.objects i ≡ Some o → is_complete p.structures o.ctype ≡ true) where
  abbrev place : PlaceType → PlaceType
  place a = place_type_numbered n.structure a

  abbrev lies : Place → Located
  lies a = place_located (structures_of s) (objects_in s) a

  abbrev pub subscript_type : ℕ → IntType
  subscript_type i = number_type p.target i (plain_suffix i)

  -- ---- subscripts

  pub index-tree : (i : ℕ) (x : Tree) → IsIndex i x → (at : ℕ) → tree_of p.target p.roles x at s ≡ Ok (IsValue (integer (pos i) (subscript_type i)), s)
  index-tree _ _ (Index i) at = number-tree p.target p.roles s i (plain_suffix i) at
  index-tree _ _ (IndexInParens i x h) at = paren-tree p.target p.roles s x at ∙ index-tree i x.node h x.at

  pub index-value : (i : ℕ) (y : At Tree) → IsIndex i y.node → value_found (here p.target p.roles y) s ≡ Ok (integer (pos i) (subscript_type i), s)
  index-value i y h = ap (λ (m : Found TypedExpr). and_then m (valued y.at)) (index-tree i y.node h y.at)

  element-rule : (q : Place) (a b : PlaceType) (i : ℕ) (t : IntType) → element_of (place a) ≡ Some (place b) → element q (place a) (integer (pos i) t) ≡ Ok (IsPlace (Element q (Const (pos i) t)) (place b))
  element-rule q a b i t h = with-scalar (integer (pos i) t) _ refl ∙ ap (element_by q (Const (pos i) t)) h

  pub subscript-tree : (x y : At Tree) (at : ℕ) (q : Place) (a b : PlaceType) (i : ℕ) → tree_of p.target p.roles x.node x.at s ≡ Ok (IsPlace q (place a), s) → IsIndex i y.node → element_of a ≡ Some b →
      tree_of p.target p.roles (tree.Subscript x y) at s ≡ Ok (IsPlace (Element q (Const (pos i) (subscript_type i))) (place b), s)
  subscript-tree x y at q a b i h j k =
      let base = IsPlace q (place a) in
      let o = element-at n.structure a b k in
      let next = λ (x : TypedExpr) (s : State). and_then (value_found (here p.target p.roles y) s) (λ y s. whole at s (subscript_judged (structures_of s) x y)) in
      tree-at p n s (tree.Subscript x y) (trees.Subscript x y) (tree_rolls.outs-Subscript x y) at
      ∙ ap (λ (m : Found TypedExpr). and_then m (λ z s. and_then (subscript_base x.at z s) next)) h
      ∙ ap (λ (c : Bool). and_then (if c then Ok (base, s) else as_value x.at base s) next) (ap is_some o)
      ∙ ap (λ (m : Found Operand). and_then m (λ y s. whole at s (subscript_judged (structures_of s) base y))) (index-value i y j)
      ∙ ap (whole at s) (element-rule q a b i (subscript_type i) o)

  number-is : (i : ℕ) (t : IntType) → (constant_expression (structures_of s) (objects_in s) (Const (pos i) t)).number ≡ Some (pos i)
  number-is i t = ap (λ (c : ConstantExpression). c.number) (expression-at (structures_of s) (objects_in s) (Const (pos i) t) (one.Const (pos i) t) (expr_rolls.outs-Const (pos i) t))

  -- ---- parts

  abbrev spot_of : ℕ → List Part → Bool → ℕ → ℕ → PlaceType → Spot
  spot_of object path element index count a = record { object = n.object object; path = path; element = element; index = index; count = count; type = place a }

  pub record PartShown (object : ℕ) (path : List Part) (a : PlaceType) (x : Tree) (at : ℕ) : Type 0 where
    pub spot : Place
    pub is : tree_of p.target p.roles x at s ≡ Ok (IsPlace spot (place a), s)
    -- the path up to an element, and which it is
    pub front : List Part
    pub element : Bool
    pub index : ℕ
    pub count : ℕ
    pub located : lies spot ≡ AtSpot (spot_of object front element index count a)
    pub path_is : path_into (spot_of object front element index count a) ≡ path
    pub within : nat_lt index count ≡ true
    pub leads : leads_to_element path ≡ element
    pub single : element ≡ false → (index ≡ 0) × (count ≡ 1)
    pub whole : IsCompletePlace p sized a

  -- an element, or the end, of an array to which a path leads
  pub element-located : (object : ℕ) (path : List Part) (a b : PlaceType) (x : At Tree) (q : PartShown object path a x.node x.at) (i k : ℕ) (t : IntType) → bound_of a ≡ Some k → nat_le i k ≡ true → element_of a ≡ Some b →
      lies (Element q.spot (Const (pos i) t)) ≡ AtSpot (spot_of object path true i k b)
  element-located object path a b x q i k t e h g =
      let sp = spot_of object q.front q.element q.index q.count a in
      place-located-at (structures_of s) (objects_in s) (Element q.spot (Const (pos i) t)) (one.Element q.spot (Const (pos i) t)) (place_rolls.outs-Element q.spot (Const (pos i) t))
      ∙ ap (λ (o : Option ℤ). located_element o (lies q.spot)) (number-is i t)
      ∙ ap (λ (l : Located). into (element_located (pos i)) l) q.located
      ∙ ap (λ (c : Bool). if c then element_located (pos i) sp else Trapping) q.within
      ∙ ap (element_in sp i) (bound-numbered n.structure a ∙ e)
      ∙ ap (element_spot sp i k) (element-at n.structure a b g)
      ∙ ap (λ (c : Bool). if c then AtSpot (element_found sp i k (place b)) else Trapping) h
      ∙ ap (λ (path : List Part). AtSpot (spot_of object path true i k b)) q.path_is

  object-part : (object : ℕ) (o : Object) (at : ℕ) → slice_get p.objects object ≡ Some o → PartShown object [] (object_place o.ctype) (tree.Named o.name) at
  object-part object o at there = record {
    spot = Static (n.object object);
    is = name-tree p n s o.name at ∙ ap (whole at s) (known.objects object o there at) ∙ ap (λ (t : PlaceType). Ok (IsPlace (Static (n.object object)) t, s)) (object-numbered n.structure o.ctype);
    front = [];
    element = false;
    index = 0;
    count = 1;
    located = place-located-at (structures_of s) (objects_in s) (Static (n.object object)) (one.Static (n.object object)) (place_rolls.outs-Static (n.object object))
        ∙ ap (whole_object (n.object object)) (known.types object o there)
        ∙ ap (λ (t : PlaceType). AtSpot (record { object = n.object object; path = []; element = false; index = 0; count = 1; type = t })) (object-numbered n.structure o.ctype);
    path_is = refl;
    within = refl;
    leads = refl;
    single = λ h. (refl, refl);
    whole = complete object o there;
  }

  member-part : (object : ℕ) (path : List Part) (a b : PlaceType) (i : ℕ) (name : Name) (x : At Tree) (at : ℕ) → PartShown object path a x.node x.at → member_of p.structures i a ≡ Some b → member_name p.structures i (Some a) ≡ Some name →
      PartShown object (path ++ part.Member i ∷ []) b (tree.Member x name) at
  member-part object path a b i name x at q h k =
      let sp = spot_of object q.front q.element q.index q.count a in
      let m = member-is p f n.structure s known.structures stand i a b name h k in
      record {
        spot = Member q.spot i;
        is = tree-at p n s (tree.Member x name) (trees.Member x name) (tree_rolls.outs-Member x name) at
            ∙ ap (λ (m : Found TypedExpr). and_then (and_then m designating) (λ y s. whole at s (dot (structures_of s) name y))) q.is
            ∙ ap (whole at s) (dot-is p f n.structure s known.structures stand q.spot i a b name h k);
        front = path ++ part.Member i ∷ [];
        element = false;
        index = 0;
        count = 1;
        located = place-located-at (structures_of s) (objects_in s) (Member q.spot i) (one.Member q.spot i) (place_rolls.outs-Member q.spot i)
            ∙ ap (λ (l : Located). into (λ spot. member_spot spot i (member_of (structures_of s) i spot.type)) l) q.located
            ∙ ap (λ (c : Bool). if c then member_spot sp i (member_of (structures_of s) i (place a)) else Trapping) q.within
            ∙ ap (member_spot sp i) m.type
            ∙ ap (λ (path : List Part). AtSpot (spot_of object (path ++ part.Member i ∷ []) false 0 1 b)) q.path_is;
        path_is = refl;
        within = refl;
        leads = member-last path i;
        single = λ h. (refl, refl);
        whole = member-complete p sized i a b h;
      }

  element-part : (object : ℕ) (path : List Part) (a b : PlaceType) (i : ℕ) (x y : At Tree) (at : ℕ) → PartShown object path a x.node x.at → step_into p.structures (part.Index i) a ≡ Some b → IsIndex i y.node →
      PartShown object (path ++ part.Index i ∷ []) b (tree.Subscript x y) at
  element-part object path a b i x y at q h j =
      let e = step-element i a b (is_below i (bound_of a)) h in
      let k = below-bound i (bound_of a) e.0 in
      record {
        spot = Element q.spot (Const (pos i) (subscript_type i));
        is = subscript-tree x y at q.spot a b i q.is j e.1;
        front = path;
        element = true;
        index = i;
        count = k.0;
        located = element-located object path a b x q i k.0 (subscript_type i) k.1 (below-at-most i k.0 k.2) e.1;
        path_is = refl;
        within = k.2;
        leads = element-last path i;
        single = λ h. absurd (cc);
        whole = element-complete p sized a b q.whole e.1;
      }

  in-parens : (object : ℕ) (path : List Part) (a : PlaceType) (x : At Tree) (at : ℕ) → PartShown object path a x.node x.at → PartShown object path a (tree.Paren x) at
  in-parens object path a x at q = record {
    spot = q.spot;
    is = paren-tree p.target p.roles s x at ∙ q.is;
    front = q.front;
    element = q.element;
    index = q.index;
    count = q.count;
    located = q.located;
    path_is = q.path_is;
    within = q.within;
    leads = q.leads;
    single = q.single;
    whole = q.whole;
  }

  pub part-shown : (object : ℕ) (path : List Part) (a : PlaceType) (x : Tree) → ShowsPart p object path a x → (at : ℕ) → PartShown object path a x at
  part-shown object _ _ _ (PartInParens path a x h) at = in-parens object path a x at (part-shown object path a x.node h x.at)
  part-shown object _ _ _ (ShowsObject o there) at = object-part object o at there
  part-shown object _ _ _ (ShowsMember path a b i name x h m k) at = member-part object path a b i name x at (part-shown object path a x.node h x.at) m k
  part-shown object _ _ _ (ShowsElement path a b i x y h m k) at = element-part object path a b i x y at (part-shown object path a x.node h x.at) m k
