-- An automatic object with an initialiser: its scalars are assigned what they are given, and each assignment is typed.
use Rattle.std.proofs.Common.{arith, ◌≡◌, ◌≤◌, ℕ, Bool, true, false, List, [], ◌∷◌, ◌++◌, length, Option, Some, None, Ok, refl, ap, sym, ◌∙◌, subst}
use Rattle.std.specs.Prelude.{option_map, slice_get}
use Rattle.cc_sound_declarations.specs.Scalars.{OneScalar, scalars_of}
use Rattle.cc_sound_declarations.proofs.Values.{values_are}
use Rattle.cc_sound_declarations.specs.Values.{AreGiven, MayStand}
use Rattle.cc_typed_bodies.specs.CcInitialisers.Contents.{Contents, contents}
use Rattle.cc_typed_bodies.specs.CcInitialisers.Initialisers.{here as given_here, initialised}
use Rattle.cc_typed_bodies.specs.CcInitialisers.Scalars.{scalars_from}
use Rattle.cc_typed_bodies.specs.CcObjects.Linked.{with_automatic}
use Rattle.cc_typed_bodies.specs.CcObjects.Types.{contents_in, element_type, given_incomplete, completed_type, is_complete_or_unbounded, type_given}
use Rattle.cc_typed_bodies.specs.CcObjects.Values.{assignments, expr_given, no_expr}
use Rattle.cc_operand_types.proofs.Agreement.{complete_alike}
use Rattle.cc_operand_types.proofs.Rolls.{place-roll}
use Rattle.cc_typed_bodies.specs.CcOperands.Qualified.{without_const}
use Rattle.cc_program.proofs.Each.{Each}
use Rattle.cc_program.specs.Qualifiers.{is_const, is_volatile}
use Rattle.cc_program.specs.declared.expr.Expr.{Expr}
use Rattle.cc_program.specs.declared.expr.Place.{Place, Local}
use Rattle.cc_program.specs.declared.expr.Place.TheVariants.{rolls-Local}
use Rattle.cc_program.specs.declared.expr.Expr.TheOpen as one
use Rattle.cc_program.specs.declared.program.Roles.{Roles}
use Rattle.cc_program.specs.declared.types.CType.{CType}
use Rattle.cc_program.specs.declared.types.Shape.{Shape, out-Shape}
use Rattle.cc_program.specs.declared.types.Shape.TheOpen as shape
use Rattle.cc_program.specs.declared.types.Sig.{Sig}
use Rattle.cc_sound_declarations.proofs.Places.{scalars_placed}
use Rattle.cc_sound_declarations.specs.Places.{IsScalarPlace, ArePlaces}
use Rattle.cc_typed_bodies.specs.CcScopes.State.{State, Name, structures_of, with_unfinished}
use Rattle.cc_typed_bodies.specs.CcScopes.Verdicts.{whole, and_then}
use Rattle.cc_sound_declarations.specs.Assigns.{AssignsTyped, HasObjects}
use Rattle.cc_sound_declarations.proofs.Complete.{given_complete}
use Rattle.cc_sound_declarations.proofs.Gives.{Gives, Typed}
use Rattle.cc_sound_declarations.proofs.Unconst.{lowered_reduced, object_stays}
use Rattle.cc_sound_declarations.proofs.Left.{IsInitialised, begun, initialised_goes, initialised_stands}
use Rattle.cc_sound_declarations.proofs.Types.{completed_is, object_pointed}
use Rattle.cc_sound_declarations.specs.Ranges.{given_in_range}
use Rattle.cc_sound_declarations.proofs.Braces.{behind_object}
use Rattle.cc_sound_declarations.proofs.Declaring.{declares_through, given_less, known_before, known_behind, lowered_at, lowered_length, of_extends, wider}
use Rattle.cc_sound_declarations.proofs.Steps.{automatic, unfinished}
use Rattle.cc_sound_declarations.specs.Declaring.{AreDeclared, DeclaresGiven, lowered, unconst}
use Rattle.cc_sound_terms.proofs.Founds.{answer_is, then_found, whole_found}
use Rattle.cc_sound_terms.proofs.Growth.{get_front, get_last}
use Rattle.cc_sound_terms.proofs.Known.{within_known}
use Rattle.cc_sound_terms.specs.Knowing.{KnowsStructures}
use Rattle.cc_sound_terms.specs.Ordered.{IsOrdered}
use Rattle.cc_sound_terms.specs.Standing.{IsDerived}
use Rattle.cc_sound_terms.proofs.Closings.{closings_alike}
use Rattle.cc_sound_terms.specs.Closings.{Closings}
use Rattle.cc_sound_terms.specs.Typing.{Knows, KnowsTypes}
use Rattle.cc_operand_types.proofs.WithoutConst.{reduced_const}
use Rattle.cc_typed_bodies.specs.CcSpecifiers.Declarators.{is_unbounded}
use Rattle.cc_sound_declarations.proofs.Contents.{contents_same}
use Rattle.cc_typed_bodies.specs.CcSyntax.Expressions.{place_type}
use Rattle.cc_typed_bodies.specs.CcSyntax.Kinds.{is_object_type}
use Rattle.cc_typed_bodies.specs.CcSyntax.Types.{Named, is_complete}
use Rattle.cc_typed_bodies.specs.CcSyntax.Values.{ValueType, ObjectPlace, is_scalar, object_place, pointer_shape, scalar_shape, scalar_value}
use Rattle.cc_typed_bodies.specs.CcSyntax.Views.{View, kind_in}
use Rattle.cc_tree.specs.declared.at.At.{At}
use Rattle.cc_tree.specs.declared.unit.Given.{Given}
use Rattle.cc_sound_declarations.proofs.Assignments.{all_typed}
use Rattle.cc_typed_bodies.specs.Objects.{automatic_left, exprs_found}
use Rattle.cc_typed_bodies.specs.Plans.{steps_done}

-- ---- scalars have scalar types

same_some : {A : Type 0} (a b : A) → Some a ≡ Some b → a ≡ b
same_some a b h = cc

pointer_scalar : (t : CType) (x : shape.Shape-F Shape CType Sig) → is_scalar (pointer_shape t x) ≡ true
pointer_scalar t shape.Void = refl
pointer_scalar t (shape.Int i) = refl
pointer_scalar t (shape.Pointer to) = refl
pointer_scalar t (shape.Array of n) = refl
pointer_scalar t (shape.Struct i) = refl
pointer_scalar t (shape.Func s) = refl

shape_scalar : (x : shape.Shape-F Shape CType Sig) (r : ValueType) → scalar_shape x ≡ Some r → is_scalar r ≡ true
shape_scalar (shape.Int i) r h = ap is_scalar (sym (same_some _ r h))
shape_scalar (shape.Pointer to) r h = ap is_scalar (sym (same_some _ r h)) ∙ pointer_scalar to (out-Shape to.shape)
shape_scalar shape.Void r h = absurd (cc)
shape_scalar (shape.Array of n) r h = absurd (cc)
shape_scalar (shape.Struct i) r h = absurd (cc)
shape_scalar (shape.Func s) r h = absurd (cc)

module _ (v : View) (F : List Named) where
  may_stand : (ss : List OneScalar) (xs : List Place) → ArePlaces v F ss xs → Each (MayStand v) ss
  may_stand [] [] h = tt
  may_stand (s ∷ ss) (x ∷ xs) h = ((shape_scalar (out-Shape h.0.ctype.shape) s.1 h.0.value, h.0.standing), may_stand ss xs h.1)
  may_stand [] (x ∷ xs) h = elim h [ ]
  may_stand (s ∷ ss) [] h = elim h [ ]

-- ---- the object is behind those that were declared

object_there : (D more : List Named) (l : Named) (n : ℕ) → n ≡ length D → slice_get ((D ++ l ∷ []) ++ more) n ≡ Some l
object_there D more l n e = get_front (D ++ l ∷ []) more n l (ap (slice_get (D ++ l ∷ [])) e ∙ get_last D l)

objects_count : (k : ℕ) (D : List Named) (s : State) → AreDeclared k D s → length s.locals ≡ length D
objects_count k D s d = ap length d.locals ∙ lowered_length k D

no_parameter : (k n m : ℕ) → k ≤ m → n ≡ m → k ≤ n
no_parameter k n m h e = omega (arith, h, e)

module _ (v : View) (roles : Roles) (defined : List Name) (k : ℕ) where
  module _ (P : Type 0) (at : ℕ) (x : Name) (t : CType) (g : At Given) (D : List Named) (s : State) (r : List Expr × State) (has : HasObjects k D s) (f : given_in_range g.node ≡ true)
      (derived : P → IsDerived v false true t) (element : P → is_unbounded t ≡ true → is_complete (structures_of s) (element_type t) ≡ true) (whole_or : is_complete_or_unbounded v.target s t ≡ true) where
    abbrev u : CType
    u = type_given t (Some g) s

    abbrev n : ℕ
    n = length s.locals

    abbrev start : State
    start = with_automatic x u s

    abbrev E : List Named
    E = D ++ (x, u) ∷ []

    abbrev own : CType
    own = without_const u

    abbrev from : State
    from = given_incomplete t (Local n) start

    -- the steps of its initialiser, and what is judged behind them
    record IsRead (a : List Expr × State) : Type 0 where
      values : List Expr × State
      steps : steps_done v.target roles Expr (expr_given v.target) no_expr (initialised (contents_in own start) (given_here g)) from ≡ Ok values
      type : CType
      completed : completed_type v.target t u values.1 ≡ Ok type
      given : a.0 ≡ values.0
      last : a.1 ≡ with_unfinished None values.1

    read_is : (a : List Expr × State) → exprs_found v.target roles at n t u g start ≡ Ok a → IsRead a
    read_is a h =
        let b = then_found (steps_done v.target roles Expr (expr_given v.target) no_expr (initialised (contents_in own start) (given_here g)) from)
        (λ xs s. and_then (whole at s (completed_type v.target t u s)) (λ u s. Ok (xs, with_unfinished None s))) a h in
        let c = then_found (whole at b.0.1 (completed_type v.target t u b.0.1)) (λ u s. Ok (b.0.0, with_unfinished None s)) a b.2 in
        let d = whole_found at b.0.1 (completed_type v.target t u b.0.1) c.0 c.1 in
        let e = answer_is b.0.0 (with_unfinished None c.0.1) a c.2 in
        record { values = b.0; steps = b.1; type = c.0.0; completed = d.0; given = e.0; last = e.1 ∙ ap (with_unfinished None) d.1 }

    module _ (a : List Expr × State) (read : IsRead a) where
      abbrev middle : State
      middle = read.values.1

      abbrev Q : Type 0
      Q = is_object_type (kind_in v u) ≡ true

      as_initialised : IsInitialised v roles defined (List Expr) t u (Local n) start a
      as_initialised = record { middle = middle; grown = (values_are v roles [] (contents_in own start) g f from read.values read.steps).grown; type = read.type; completed = read.completed; last = read.last }

      declares : DeclaresGiven v defined Q s D start E
      declares = automatic v defined Q x u s D k has.declared (λ p w. p)

      begins : DeclaresGiven v defined Q start E from E
      begins = begun v roles defined Q (is_unbounded t) (Local n) start E

      goes_on : DeclaresGiven v defined Q from E middle E
      goes_on = of_extends v defined Q from middle E (values_are v roles [] (contents_in own start) g f from read.values read.steps).grown

      ends : DeclaresGiven v defined Q middle E (with_unfinished None middle) E
      ends = unfinished v defined Q None middle E

      -- what is known of closing braces behind the object, whatever is given
      closes : Closings v P s a.1
      closes = behind_object v defined P x u s a.1 E E (initialised_goes v roles defined P (List Expr) t u (Local n) start a E as_initialised)

      fills : DeclaresGiven v defined Q start E a.1 E
      fills = initialised_goes v roles defined Q (List Expr) t u (Local n) start a E as_initialised

      stands_by : P → KnowsStructures v a.1.structures → Q
      stands_by p w = initialised_stands v roles defined (List Expr) t g (Local n) start s a as_initialised (derived p) w

      -- what is known where the steps are done
      known_there : Q → Knows v D s a.1 → Knows v E from middle
      known_there q w =
          let first = known_behind v defined Q s from (with_unfinished None middle) D E E (declares_through v defined Q s start from D E E declares begins)
          (declares_through v defined Q from middle (with_unfinished None middle) E E E goes_on ends) (q, subst (λ (z : State). Knows v D s z) read.last w) in
          (known_before v defined Q from middle (with_unfinished None middle) E E E goes_on ends first).1

      same_contents : P → contents (structures_of start) own false ≡ contents (structures_of a.1) own false
      same_contents p =
          contents_same start a.1 fills.structures (declares.ordered has.ordered) own
          (complete_alike (structures_of start) own u (reduced_const u).one
          ∙ given_complete v.target t g s (element p) whole_or (completed_is v t u read.type middle read.completed).0)

      module _ (L more : List Named) (e : L ≡ E ++ more) (q : Q) (w : Knows v D s a.1) where
        abbrev F : List Named
        F = lowered k L

        local_there : slice_get F n ≡ Some (x, own)
        local_there =
            let c = objects_count k D s has.declared in
            lowered_at k L n (x, u) (no_parameter k n (length D) has.declared.enough c) (ap (λ (ls : List Named). slice_get ls n) e ∙ object_there D more (x, u) n c)

        placed : place_type v F (Local n) ≡ Some (object_place own)
        placed = place-roll v F (Local n) (one.Local n) (rolls-Local n) ∙ ap (option_map (λ (l : Named). object_place l.1)) local_there

        places : ArePlaces v F (scalars_of (contents (structures_of a.1) own false)) (scalars_from v.target (contents (structures_of a.1) own false) 0 (Local n))
        places =
            scalars_placed v F w.members (structures_of a.1) (within_known v a.1 w.types.structures) own (Local n) (is_const own) (is_volatile own) (object_pointed (kind_in v own) (object_stays v u q)) placed refl

        all_assigned : P → AssignsTyped v k L (assignments (scalars_from v.target (contents (structures_of a.1) own false) 0 (Local n)) a.0)
        all_assigned p =
            let c = contents (structures_of a.1) own false in
            let same = same_contents p in
            let may = subst (λ (d : Contents). Each (MayStand v) (scalars_of d)) (sym same) (may_stand v F (scalars_of c) (scalars_from v.target c 0 (Local n)) places) in
            let given = (values_are v roles L (contents_in own start) g f from read.values read.steps).holds (wider v E more L from middle e (known_there q w)) may in
            subst (λ (es : List Expr). AssignsTyped v k L (assignments (scalars_from v.target c 0 (Local n)) es)) (sym read.given)
            (all_typed v F L (lowered_reduced k L) (scalars_of c) (scalars_from v.target c 0 (Local n)) read.values.0 places
            (subst (λ (d : Contents). AreGiven v L (scalars_of d) read.values.0) same given))

    pub automatic_given : automatic_left v.target roles at x t (Some g) s ≡ Ok r → Gives v defined k (Typed v defined k) P D s r
    automatic_given h =
        let a = then_found (exprs_found v.target roles at n t u g start) (λ values s. Ok (assignments (scalars_from v.target (contents_in own s) 0 (Local n)) values, s)) r h in
        let read = read_is a.0 a.1 in
        let z = answer_is (assignments (scalars_from v.target (contents_in own a.0.1) 0 (Local n)) a.0.0) a.0.1 r a.2 in
        let stands = λ (p : P) (w : KnowsTypes v s r.1). stands_by a.0 read p (subst (λ (y : State). KnowsStructures v y.structures) z.1 w.structures) in
        record {
          objects = E;
          goes = given_less v defined P (Q a.0 read) s r.1 D E stands
              (closings_alike v P s a.0.1 r.1 (ap (λ (y : State). y.structures) z.1) (ap (λ (y : State). y.completed) z.1) (closes a.0 read))
              (subst (λ (y : State). DeclaresGiven v defined (Q a.0 read) s D y E) (sym z.1) (declares_through v defined (Q a.0 read) s start a.0.1 D E E (declares a.0 read) (fills a.0 read)));
          typed = λ L more e p w. subst (AssignsTyped v k L) (sym z.0) (all_assigned a.0 read L more e (stands p w.types) (subst (λ (y : State). Knows v D s y) z.1 w) p);
        }
