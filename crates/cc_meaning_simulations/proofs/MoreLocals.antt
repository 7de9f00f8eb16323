-- More locals, which are scalars, behind those of a function: expressions that name none of them do the same, whatever values they meet. For
-- an address that named such a local would find no elements there, as it finds nothing where there is none.
use Rattle.std.proofs.Common.{◌≡◌, ◌∙◌, ◌∷◌, ◌++◌, ◌+◌, ◌<◌, ◌&&◌, if◌then◌else◌, arith, ℕ, zero, suc, ℤ, Bool, true, false, not, List, [], length, map, Option, Some, None, option_map, option_and_then, slice_get, refl, ap, sym}
use Rattle.std.proofs.lemmas.Option.{slice_get-map}
use Rattle.std.proofs.lemmas.Bool.{ltb-true}
use Rattle.std.proofs.lemmas.List.{append-nil}
use Rattle.std.specs.Prelude.{nat_lt, pos}
use Rattle.cc_program.specs.declared.expr.Expr.{Expr, roll-Expr, map-Expr, fold-roll-Expr}
use Rattle.cc_program.specs.declared.expr.Expr.TheOpen as one
use Rattle.cc_program.specs.declared.expr.Place.{Place, roll-Place, map-Place, fold-roll-Place}
use Rattle.cc_program.specs.declared.func.Func.{Func}
use Rattle.cc_program.specs.declared.program.Program.{Program}
use Rattle.cc_program.specs.declared.stmt.Stmt.{Stmt}
use Rattle.cc_program.specs.declared.value.Address.{Address}
use Rattle.cc_program.specs.declared.value.Address.TheVariants as address
use Rattle.cc_program.specs.declared.value.Part.{Part}
use Rattle.cc_program.specs.declared.value.Part.TheVariants as part
use Rattle.cc_program.specs.declared.value.Root.{Root}
use Rattle.cc_program.specs.declared.value.Root.TheVariants as root
use Rattle.cc_program.specs.declared.value.Value.{Value}
use Rattle.cc_program.specs.declared.value.Value.TheVariants as value
use Rattle.cc_program.proofs.Each.{Each}
use Rattle.cc_program.proofs.ExprInduction.{Parts, PlaceParts, by_expr}
use Rattle.cc_steps.proofs.CcEval.Links.{level, place_level}
use Rattle.cc_steps.specs.CcEval.declared.action.Action.TheVariants.{Read, Write}
use Rattle.cc_steps.specs.CcEval.declared.spots.Spot.{Spot}
use Rattle.cc_steps.specs.CcEval.declared.spots.Spot.TheVariants as spot
use Rattle.cc_steps.specs.CcEval.Context.{Context, local_type, object_type, are_alike, has_elements, path_to, named_by, designated, cell_of, cell_at, reached, element_in, element, member, is_seen}
use Rattle.cc_steps.specs.CcEval.Eval.{Meaning, Designation, manner, place_and_value, changed, sum_or_difference, one_more_type, value_type, fetched, stored, next_step, expr_effects, expr_meaning, leads_to, place_meaning, meaning, designation}
use Rattle.cc_steps.specs.CcEval.Progress.{known, ask, bind, needs, given}
use Rattle.cc_steps.specs.CcCells.Scalars.{before, position}
use Rattle.cc_steps.specs.declared.event.Event.TheVariants as event
use Rattle.cc_steps.specs.Rows.{Enters, row_of}
use Rattle.cc_steps.specs.State.{local_with, locals_with}
use Rattle.cc_steps.specs.Step.{gives_nothing, cell_position}
use Rattle.cc_steps.specs.Turn.{level_in, level_of}
use Rattle.cc_program.specs.declared.types.Structure.{Structure}
use Rattle.cc_steps.specs.CcSyntax.Effects.{Registers, Effects, plain}
use Rattle.cc_steps.specs.CcSyntax.Expressions as typing
use Rattle.cc_steps.specs.CcSyntax.Expressions.{of_one, of_two}
use Rattle.cc_steps.specs.CcSyntax.Initial.{place_at, bound_of}
use Rattle.cc_steps.specs.CcSyntax.Operators.{function_type}
use Rattle.cc_steps.specs.CcSyntax.Types.{Named}
use Rattle.cc_steps.specs.CcSyntax.Registers.{may_be_register, is_register, is_addressed}
use Rattle.cc_steps.specs.CcSyntax.Values.{ValueType, PlaceType, object_place, element_of}
use Rattle.cc_steps.specs.CcSyntax.Views.{of_program}
use Rattle.cc_steps.specs.CcValues.Values.{integer}
use Rattle.cc_meaning_simulations.specs.Bodies.{AddsScalars, all_extended, extended}
use Rattle.cc_meaning_simulations.specs.NamedLocals.{all_in, names_below, names_step, place_names_below, place_names_step}
use Rattle.cc_steps.proofs.ScalarPlaces.{IsFlat, scalar_flat}

module _ (n : ℕ) where
  pub names-roll : (x : one.Expr-F Expr Place) → names_below n (roll-Expr x) ≡ names_step n (map-Expr Expr Place Bool Bool (names_below n) (place_names_below n) x)
  unfolding names_below place_names_below
  names-roll x = fold-roll-Expr Bool Bool (names_step n) (place_names_step n) x

  pub place_names-roll : (x : one.Place-F Expr Place) → place_names_below n (roll-Place x) ≡ place_names_step n (map-Place Expr Place Bool Bool (names_below n) (place_names_below n) x)
  unfolding names_below place_names_below
  place_names-roll x = fold-roll-Place Bool Bool (names_step n) (place_names_step n) x

both_left : (a b : Bool) → (a && b) ≡ true → a ≡ true
both_left true b h = refl
both_left false b h = absurd (cc)

both_right : (a b : Bool) → (a && b) ≡ true → b ≡ true
both_right true b h = h
both_right false b h = absurd (cc)

pub get_before : {A : Type 0} → (xs ys : List A) (k : ℕ) → nat_lt k (length xs) ≡ true → slice_get (xs ++ ys) k ≡ slice_get xs k
get_before xs ys k h = below xs ys k (ltb-true k (length xs) h)
  where
    below : {A : Type 0} → (xs ys : List A) (k : ℕ) → k < length xs → slice_get (xs ++ ys) k ≡ slice_get xs k
    below [] ys k h = absurd (omega (arith, h))
    below (x ∷ xs) ys zero h = refl
    below (x ∷ xs) ys (suc k) h = below xs ys k (omega (arith, h))

module _ (more : Func → List Named) (new : Func → List Stmt) (P : Program) where
  abbrev pub Q : Program
  Q = all_extended more new P

  by_func : {A : Type 0} → (g : Option Func → A) → (f : Option Func) → ((x : Func) → g (Some (extended more new x)) ≡ g (Some x)) → g (option_map (extended more new) f) ≡ g f
  by_func g None h = refl
  by_func g (Some f) h = h f

  pub funcs_same : (id : ℕ) → slice_get Q.funcs id ≡ option_map (extended more new) (slice_get P.funcs id)
  funcs_same id = slice_get-map (extended more new) P.funcs id

  by_id : {A : Type 0} → (g : Option Func → A) → ((x : Func) → g (Some (extended more new x)) ≡ g (Some x)) → (id : ℕ) → g (slice_get Q.funcs id) ≡ g (slice_get P.funcs id)
  by_id g h id = ap g (funcs_same id) ∙ by_func g (slice_get P.funcs id) h

  pub gives_same : (id : ℕ) → gives_nothing (slice_get Q.funcs id) ≡ gives_nothing (slice_get P.funcs id)
  gives_same = by_id gives_nothing (λ f. refl)

  pub levels_same : (id : ℕ) → level_of Q id ≡ level_of P id
  levels_same = by_id (level_in P) (λ f. refl)

  pub enter_same : (h : ℕ) → row_of Q (event.Enter h) ≡ row_of P (event.Enter h)
  enter_same h = ap Enters (by_id (λ f. option_map (λ f. f.name) f) (λ f. refl) h)

  -- the locals of an activation begin with those that were there
  pub locals_begin : (p q : Program) → q.structures ≡ p.structures → (args : List Value) (xs ys : List Named) (k : ℕ) → nat_lt k (length xs) ≡ true → slice_get (locals_with q args (xs ++ ys)) k ≡ slice_get (locals_with p args xs) k
  locals_begin p q e args xs ys k h = below args xs k (ltb-true k (length xs) h)
    where
      below : (args : List Value) (xs : List Named) (k : ℕ) → k < length xs → slice_get (locals_with q args (xs ++ ys)) k ≡ slice_get (locals_with p args xs) k
      below args [] k h = absurd (omega (arith, h))
      below [] (x ∷ xs) zero h = ap (λ (s : List Structure). Some (local_with s None x.1)) e
      below (v ∷ args) (x ∷ xs) zero h = ap (λ (s : List Structure). Some (local_with s (Some v) x.1)) e
      below [] (x ∷ xs) (suc k) h = below [] xs k (omega (arith, h))
      below (v ∷ args) (x ∷ xs) (suc k) h = below args xs k (omega (arith, h))

  -- and are those where none is added
  pub locals_alike : (p q : Program) → q.structures ≡ p.structures → (args : List Value) (xs ys : List Named) → ys ≡ [] → locals_with q args (xs ++ ys) ≡ locals_with p args xs
  locals_alike p q e args xs ys n = ap (locals_with q args) (ap (λ (l : List Named). xs ++ l) n ∙ append-nil xs) ∙ same args xs
    where
      same : (args : List Value) (xs : List Named) → locals_with q args xs ≡ locals_with p args xs
      same args [] = refl
      same [] (x ∷ xs) = λ i. local_with (e i) None x.1 ∷ same [] xs i
      same (v ∷ args) (x ∷ xs) = λ i. local_with (e i) (Some v) x.1 ∷ same args xs i

  view_same : of_program Q ≡ of_program P
  view_same = λ i. record {
    target = P.target;
    structures = P.structures;
    extents = (of_program P).extents;
    statics = (of_program P).statics;
    devices = (of_program P).devices;
    functions = λ id. (ap function_type (slice_get-map (extended more new) P.funcs id) ∙ by_func function_type (slice_get P.funcs id) (λ f. refl)) i;
  }

  module _ (scalars : AddsScalars more) where
    flat : (f : Func) (k : ℕ) (l : Named) → slice_get (more f) k ≡ Some l → IsFlat P.structures (object_place l.1)
    flat f k l h = scalar_flat P.structures l.1 (scalars f k l h)

    -- what is found of the elements at a path
    abbrev found : List Part → Option PlaceType → Option PlaceType
    found path t = option_and_then element_of (option_and_then (place_at P.structures path) t)

    flat_found : (path : List Part) (t : PlaceType) → IsFlat P.structures t → found path (Some t) ≡ None
    flat_found [] t h = h.elements
    flat_found (s ∷ path) t h = ap (λ (x : Option PlaceType). option_and_then element_of (of_one x (place_at P.structures path))) (h.parts s)

    -- of a list with more behind it
    found_in : (path : List Part) (f : Func) (xs ys : List Named) (k : ℕ) → ((k : ℕ) (l : Named) → slice_get ys k ≡ Some l → IsFlat P.structures (object_place l.1)) →
        found path (option_map (λ l. object_place l.1) (slice_get (xs ++ ys) k)) ≡ found path (option_map (λ l. object_place l.1) (slice_get xs k))
    found_in path f [] ys k h = at (slice_get ys k) refl
      where
        at : (x : Option Named) → slice_get ys k ≡ x → found path (option_map (λ l. object_place l.1) (slice_get ys k)) ≡ None
        at None e = ap (λ (x : Option Named). found path (option_map (λ l. object_place l.1) x)) e
        at (Some l) e = ap (λ (x : Option Named). found path (option_map (λ l. object_place l.1) x)) e ∙ flat_found path (object_place l.1) (h k l e)
    found_in path f (x ∷ xs) ys zero h = refl
    found_in path f (x ∷ xs) ys (suc k) h = found_in path f xs ys k h

    found_at : (path : List Part) (local : ℕ) (f : Option Func) → found path (local_type local (option_map (extended more new) f)) ≡ found path (local_type local f)
    found_at path local None = refl
    found_at path local (Some f) = found_in path f f.locals (more f) local (flat f)

    found_object : (path : List Part) (r : Root) → found path (object_type Q r) ≡ found path (object_type P r)
    found_object path (root.Static i) = refl
    found_object path (root.Auto number func local) = ap (λ (f : Option Func). found path (local_type local f)) (slice_get-map (extended more new) P.funcs func) ∙ found_at path local (slice_get P.funcs func)

    -- of a scalar alone the position is 0
    flat_position : (path : List Part) (t : PlaceType) → IsFlat P.structures t → position P.structures path (Some t) ≡ position P.structures path None
    flat_position [] t h = refl
    flat_position (s ∷ path) t h =
        ap (λ (x : Option PlaceType). before P.structures s t + position P.structures path x) (h.parts s) ∙ ap (λ (n : ℕ). n + position P.structures path None) (h.first s) ∙ none path
      where
        none : (path : List Part) → 0 + position P.structures path None ≡ 0
        none [] = refl
        none (s ∷ path) = refl

    position_in : (path : List Part) (f : Func) (xs ys : List Named) (k : ℕ) → ((k : ℕ) (l : Named) → slice_get ys k ≡ Some l → IsFlat P.structures (object_place l.1)) →
        position P.structures path (option_map (λ l. object_place l.1) (slice_get (xs ++ ys) k)) ≡ position P.structures path (option_map (λ l. object_place l.1) (slice_get xs k))
    position_in path f [] ys k h = at (slice_get ys k) refl
      where
        at : (x : Option Named) → slice_get ys k ≡ x → position P.structures path (option_map (λ l. object_place l.1) (slice_get ys k)) ≡ position P.structures path None
        at None e = ap (λ (x : Option Named). position P.structures path (option_map (λ l. object_place l.1) x)) e
        at (Some l) e = ap (λ (x : Option Named). position P.structures path (option_map (λ l. object_place l.1) x)) e ∙ flat_position path (object_place l.1) (h k l e)
    position_in path f (x ∷ xs) ys zero h = refl
    position_in path f (x ∷ xs) ys (suc k) h = position_in path f xs ys k h

    position_at : (path : List Part) (local : ℕ) (f : Option Func) → position P.structures path (local_type local (option_map (extended more new) f)) ≡ position P.structures path (local_type local f)
    position_at path local None = refl
    position_at path local (Some f) = position_in path f f.locals (more f) local (flat f)

    pub position_same : (r : Root) (path : List Part) → cell_position Q r path ≡ cell_position P r path
    position_same (root.Static i) path = refl
    position_same (root.Auto number func local) path =
        ap (λ (f : Option Func). position P.structures path (local_type local f)) (slice_get-map (extended more new) P.funcs func) ∙ position_at path local (slice_get P.funcs func)

    elements_same : (t : PlaceType) (object : Root) (path : List Part) → has_elements Q t object path ≡ has_elements P t object path
    elements_same t object path = ap (λ (o : Option PlaceType). are_alike o t) (found_object path object)

    named_same : (t : PlaceType) (a : Address) → named_by Q t a ≡ named_by P t a
    named_same t address.Null = refl
    named_same t (address.Func f) = refl
    named_same t (address.At object path index count) = ap (λ (b : Bool). if nat_lt index count then Some (object, path_to b path index) else None) (elements_same t object path)

    designated_same : (t : PlaceType) (s : Spot) → designated Q t s ≡ designated P t s
    designated_same t (spot.Device d) = refl
    designated_same t (spot.Object object path) = refl
    designated_same t (spot.Address a) = named_same t a

    cell_same : (t : PlaceType) (s : Spot) → cell_at Q t s ≡ cell_at P t s
    cell_same t (spot.Device d) = refl
    cell_same t (spot.Object object path) = refl
    cell_same t (spot.Address a) = ap (option_map cell_of) (named_same t a)

    reached_same : (t : Option PlaceType) (s : Option Spot) → reached Q t s ≡ reached P t s
    reached_same t s = λ i. of_two t s (λ t s. cell_same t s i)

    element_same : (n : ℤ) (t : PlaceType) (s : Spot) → element Q n t s ≡ element P n t s
    element_same n t s = ap (option_and_then (element_in (bound_of t) n)) (designated_same t s)

    member_same : (m : ℕ) (t : PlaceType) (s : Spot) → member Q m t s ≡ member P m t s
    member_same m t s = λ i. option_map (λ o. spot.Object o.0 (o.1 ++ part.Member m ∷ [])) (designated_same t s i)

    module _ (taken : (f : Func) (r : ℕ) → is_addressed (extended more new f) r ≡ is_addressed f r) (number id : ℕ) (f : Func) where
      abbrev there : Context
      there = record { program = Q; number = number; id = id; func = extended more new f }

      abbrev here : Context
      here = record { program = P; number = number; id = id; func = f }

      fetched_same : (a : Designation) (later : Registers) (s : Option Spot) → fetched there a later s ≡ fetched here a later s
      fetched_same a later s = λ i. needs (reached_same a.ctype s i) (λ cell. ask (Read cell (manner a later)) given)

      stored_same : (a : Designation) (s : Option Spot) (v answer : Option Value) → stored there a s v answer ≡ stored here a s v answer
      stored_same a s v answer = λ i. needs (reached_same a.ctype s i) (λ cell. needs v (λ w. ask (Write cell (is_seen a.ctype) w) (λ m. answer)))

      next_same : (whole : Effects) (x : one.Expr-F Meaning Designation) → next_step there whole x ≡ next_step here whole x
      next_same whole (one.Const n t) = refl
      next_same whole (one.Null t) = refl
      next_same whole (one.FuncAddr g) = refl
      next_same whole (one.Load a) = λ i later. bind (a.leads later) (λ s. fetched_same a later s i)
      next_same whole (one.AddrOf a) = refl
      next_same whole (one.Un o t a) = refl
      next_same whole (one.Bin o t a b) = refl
      next_same whole (one.Conv t a) = refl
      next_same whole (one.Qualify t a) = refl
      next_same whole (one.Move a b back) = refl
      next_same whole (one.Gap a b) = refl
      next_same whole (one.Compare o a b) = refl
      next_same whole (one.Both a b) = refl
      next_same whole (one.Either a b) = refl
      next_same whole (one.Choose d a b) = refl
      next_same whole (one.Assign a e) = λ i later. bind (place_and_value a e later) (λ p. stored_same a p.0 p.1 p.1 i)
      next_same whole (one.Change a o t e) = λ i later.
          bind (place_and_value a e later) (λ p. bind (fetched_same a later p.0 i) (λ v. let new = changed P.target o t (value_type here a) v p.1 in stored_same a p.0 new new i))
      next_same whole (one.After a down) = λ i later.
          bind (a.leads later) (λ s. bind (fetched_same a later s i)
          (λ v. stored_same a s (changed P.target (sum_or_difference down) (one_more_type P.target (value_type here a)) (value_type here a) v (Some (value.Int (pos 1)))) v i))
      next_same whole (one.Call g args) = refl
      next_same whole (one.Intr i a) = refl
      next_same whole (one.Seq a b) = refl

      expr_same : (x : one.Expr-F Meaning Designation) → expr_meaning there x ≡ expr_meaning here x
      expr_same x = λ i. record {
        ctype = typing.expr_step (view_same i) f.locals (map-Expr Meaning Designation (Option ValueType) (Option PlaceType) (λ a. a.ctype) (λ a. a.ctype) x);
        effects = expr_effects here x;
        next = next_same (expr_effects here x) x i;
      }

      -- a place that names none of the new locals at its top
      abbrev Known : one.Place-F Meaning Designation → Type 0
      Known (one.Local r) = nat_lt r (length f.locals) ≡ true
      Known (one.Static i) = Unit {0}
      Known (one.Device d) = Unit {0}
      Known (one.Element a i) = Unit {0}
      Known (one.Member a m) = Unit {0}
      Known (one.Deref e) = Unit {0}

      register_same : (r : ℕ) → nat_lt r (length f.locals) ≡ true → is_register (extended more new f) r ≡ is_register f r
      unfolding is_register
      register_same r h = λ i. may_be_register (get_before f.locals (more f) r h i) && not (taken f r i)

      place_same : (x : one.Place-F Meaning Designation) → Known x → place_meaning there x ≡ place_meaning here x
      place_same (one.Local r) h = λ i. record {
        ctype = option_map (λ l. object_place l.1) (get_before f.locals (more f) r h i);
        effects = plain (if register_same r h i then Some r else None);
        leads = leads_to here (one.Local r);
      }
      place_same (one.Static n) h = refl
      place_same (one.Device d) h = refl
      place_same (one.Element a e) h = λ i. record {
        ctype = (place_meaning here (one.Element a e)).ctype;
        effects = (place_meaning here (one.Element a e)).effects;
        leads = λ later. bind (place_and_value a e later) (λ p. known (of_two a.ctype p.0 (λ t s. option_and_then (λ n. element_same n t s i) (integer p.1))));
      }
      place_same (one.Member a m) h = λ i. record {
        ctype = (place_meaning here (one.Member a m)).ctype;
        effects = (place_meaning here (one.Member a m)).effects;
        leads = λ later. bind (a.leads later) (λ s. known (of_two a.ctype s (λ t u. member_same m t u i)));
      }
      place_same (one.Deref e) h = refl

      -- ---- by induction

      abbrev n : ℕ
      n = length f.locals

      abbrev At : Expr → Type 0
      At e = names_below n e ≡ true → meaning there e ≡ meaning here e

      abbrev PlaceAt : Place → Type 0
      PlaceAt a = place_names_below n a ≡ true → designation there a ≡ designation here a

      args_same : (args : List Expr) → Each At args → all_in (map (names_below n) args) ≡ true → map (meaning there) args ≡ map (meaning here) args
      args_same [] h k = refl
      args_same (a ∷ args) h k = λ i. h.0 (both_left (names_below n a) _ k) i ∷ args_same args h.1 (both_right (names_below n a) _ k) i

      abbrev opened : Context → one.Expr-F Expr Place → one.Expr-F Meaning Designation
      opened c x = map-Expr Expr Place Meaning Designation (meaning c) (designation c) x

      parts_same : (x : one.Expr-F Expr Place) → Parts At PlaceAt x → names_step n (map-Expr Expr Place Bool Bool (names_below n) (place_names_below n) x) ≡ true → opened there x ≡ opened here x
      parts_same (one.Const k t) h r = refl
      parts_same (one.Null t) h r = refl
      parts_same (one.FuncAddr g) h r = refl
      parts_same (one.Load a) h r = λ i. one.Load (h r i)
      parts_same (one.AddrOf a) h r = λ i. one.AddrOf (h r i)
      parts_same (one.Un o t a) h r = λ i. one.Un o t (h r i)
      parts_same (one.Bin o t a b) h r = λ i. one.Bin o t (h.0 (both_left (names_below n a) _ r) i) (h.1 (both_right (names_below n a) _ r) i)
      parts_same (one.Conv t a) h r = λ i. one.Conv t (h r i)
      parts_same (one.Qualify t a) h r = λ i. one.Qualify t (h r i)
      parts_same (one.Move a b back) h r = λ i. one.Move (h.0 (both_left (names_below n a) _ r) i) (h.1 (both_right (names_below n a) _ r) i) back
      parts_same (one.Gap a b) h r = λ i. one.Gap (h.0 (both_left (names_below n a) _ r) i) (h.1 (both_right (names_below n a) _ r) i)
      parts_same (one.Compare o a b) h r = λ i. one.Compare o (h.0 (both_left (names_below n a) _ r) i) (h.1 (both_right (names_below n a) _ r) i)
      parts_same (one.Both a b) h r = λ i. one.Both (h.0 (both_left (names_below n a) _ r) i) (h.1 (both_right (names_below n a) _ r) i)
      parts_same (one.Either a b) h r = λ i. one.Either (h.0 (both_left (names_below n a) _ r) i) (h.1 (both_right (names_below n a) _ r) i)
      parts_same (one.Choose d a b) h r =
          let ab = both_right (names_below n d) _ r in λ i. one.Choose (h.0 (both_left (names_below n d) _ r) i) (h.1 (both_left (names_below n a) _ ab) i) (h.2 (both_right (names_below n a) _ ab) i)
      parts_same (one.Assign a e) h r = λ i. one.Assign (h.0 (both_left (place_names_below n a) _ r) i) (h.1 (both_right (place_names_below n a) _ r) i)
      parts_same (one.Change a o t e) h r = λ i. one.Change (h.0 (both_left (place_names_below n a) _ r) i) o t (h.1 (both_right (place_names_below n a) _ r) i)
      parts_same (one.After a down) h r = λ i. one.After (h r i) down
      parts_same (one.Call g args) h r = λ i. one.Call (h.0 (both_left (names_below n g) _ r) i) (args_same args h.1 (both_right (names_below n g) _ r) i)
      parts_same (one.Intr k None) h r = refl
      parts_same (one.Intr k (Some a)) h r = λ i. one.Intr k (Some (h r i))
      parts_same (one.Seq a b) h r = λ i. one.Seq (h.0 (both_left (names_below n a) _ r) i) (h.1 (both_right (names_below n a) _ r) i)

      made : (x : one.Expr-F Expr Place) → Parts At PlaceAt x → At (roll-Expr x)
      made x h r = level there x ∙ ap (expr_meaning there) (parts_same x h (sym (names-roll n x) ∙ r)) ∙ expr_same (opened here x) ∙ sym (level here x)

      abbrev place_opened : Context → one.Place-F Expr Place → one.Place-F Meaning Designation
      place_opened c x = map-Place Expr Place Meaning Designation (meaning c) (designation c) x

      place_parts_same : (x : one.Place-F Expr Place) → PlaceParts At PlaceAt x → place_names_step n (map-Place Expr Place Bool Bool (names_below n) (place_names_below n) x) ≡ true → (place_opened there x ≡ place_opened here x) × Known (place_opened here x)
      place_parts_same (one.Local k) h r = (refl, r)
      place_parts_same (one.Static k) h r = (refl, tt)
      place_parts_same (one.Device d) h r = (refl, tt)
      place_parts_same (one.Element a e) h r = ((λ i. one.Element (h.0 (both_left (place_names_below n a) _ r) i) (h.1 (both_right (place_names_below n a) _ r) i)), tt)
      place_parts_same (one.Member a m) h r = ((λ i. one.Member (h r i) m), tt)
      place_parts_same (one.Deref e) h r = ((λ i. one.Deref (h r i)), tt)

      place_made : (x : one.Place-F Expr Place) → PlaceParts At PlaceAt x → PlaceAt (roll-Place x)
      place_made x h r =
          let y = place_parts_same x h (sym (place_names-roll n x) ∙ r) in
          place_level there x ∙ ap (place_meaning there) y.0 ∙ place_same (place_opened here x) y.1 ∙ sym (place_level here x)

      -- an expression that names none of the new locals does what it did
      pub meaning_extended : (e : Expr) → names_below n e ≡ true → meaning there e ≡ meaning here e
      meaning_extended = by_expr At PlaceAt made place_made
