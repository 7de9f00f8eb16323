-- No pointer leads to a tracked object, since its address is taken nowhere: so a place leads to one by its name alone.
use Rattle.std.proofs.Common.{◌≡◌, ◌+ℤ◌, ℕ, ℤ, pos, Bool, true, false, ◌&&◌, List, [], ◌∷◌, ◌++◌, Contains, Option, Some, None, refl, ap, sym, ◌∙◌, subst}
use Rattle.std.specs.Prelude.{nat_lt, option_map, option_and_then, if◌then◌else◌}
use Rattle.std.proofs.lemmas.List.Elements.{Contains-append_left, Contains-append_right}
use Rattle.std.proofs.lemmas.Option.{same_Some}
use Rattle.cc_state_values_sound.proofs.CcEval.Links.{level, place_level}
use Rattle.cc_state_values_sound.proofs.CcEval.Opened.{designation_at}
use Rattle.cc_state_values_sound.proofs.CcEval.Works.{works_known, works_ask, works_bind, works_needs, works_choice}
use Rattle.cc_state_values_sound.specs.CcEval.Context.{Context, object_type, has_elements, path_to, named_by, designated, reached, element_in, element, member}
use Rattle.cc_state_values_sound.specs.CcEval.declared.action.Action.{Action}
use Rattle.cc_state_values_sound.specs.CcEval.declared.action.Action.TheVariants.{Read}
use Rattle.cc_state_values_sound.specs.CcEval.declared.mark.Mark.{Mark}
use Rattle.cc_state_values_sound.specs.CcEval.declared.spots.Spot.{Spot}
use Rattle.cc_state_values_sound.specs.CcEval.declared.spots.Spot.TheVariants as spot
use Rattle.cc_state_values_sound.specs.CcEval.Eval.{Meaning, Designation, meaning, designation, opened, place_opened, manner, fetched, place_and_value, both_values, from_one, from_two, choice, as_condition, address_of as address_of_spot, element_at}
use Rattle.cc_state_values_sound.specs.CcEval.Marks.{Works}
use Rattle.cc_state_values_sound.specs.CcEval.Progress.{Get, known, ask, bind, given}
use Rattle.cc_program.specs.CcNum.declared.op.BinOp.{BinOp}
use Rattle.cc_program.specs.CcNum.declared.op.BinOp.TheVariants as op
use Rattle.cc_program.specs.CcNum.declared.int_type.IntType.{IntType}
use Rattle.cc_program.specs.CcNum.declared.op.UnOp.{UnOp}
use Rattle.cc_program.specs.CcNum.declared.target.Target.{Target}
use Rattle.cc_program.specs.CcNum.Results.{one_if}
use Rattle.cc_state_values_sound.specs.CcPlaces.declared.abs.Abs.{Abs}
use Rattle.cc_program.proofs.ExprInduction.{Parts, PlaceParts, by_place}
use Rattle.cc_program.specs.declared.expr.Expr.{Expr, out-Expr, roll-Expr, roll-out-Expr, map-Expr, fold-roll-Expr}
use Rattle.cc_program.specs.declared.expr.Expr.TheOpen as one
use Rattle.cc_program.specs.declared.expr.Place.{Place as PlaceOf, out-Place, roll-Place, roll-out-Place, out-roll-Place, map-Place, fold-roll-Place}
use Rattle.cc_program.specs.declared.func.Func.{Func}
use Rattle.cc_program.specs.declared.object.Object.{Object}
use Rattle.cc_program.specs.declared.program.Program.{Program}
use Rattle.cc_program.specs.declared.value.Address.{Address}
use Rattle.cc_program.specs.declared.value.Address.TheVariants as address
use Rattle.cc_program.specs.declared.value.Cell.{Cell}
use Rattle.cc_program.specs.declared.value.Cell.TheVariants as cell
use Rattle.cc_program.specs.declared.value.Part.{Part}
use Rattle.cc_program.specs.declared.value.Part.TheVariants as part
use Rattle.cc_program.specs.declared.value.Root.{Root}
use Rattle.cc_program.specs.declared.value.Root.TheVariants as root
use Rattle.cc_program.specs.declared.value.Value.{Value}
use Rattle.cc_program.specs.declared.value.Value.TheVariants.{Int, Place}
use Rattle.cc_proof_covers.proofs.Pure.{named_cell, register_leads}
use Rattle.cc_proof_rules.proofs.Classes.{anything}
use Rattle.cc_proof_rules.proofs.Lists.{in_first}
use Rattle.cc_proof_rules.proofs.Numbered.{tracked_scalar}
use Rattle.cc_proof_rules.proofs.TakenKeys.{untaken}
use Rattle.cc_proof_rules.specs.Operands.{root_static, address_static, spot_static}
use Rattle.cc_rules.specs.CcStateFacts.declared.facts.Key.{Key}
use Rattle.cc_rules.specs.CcStateFacts.declared.facts.Key.TheVariants as key
use Rattle.cc_rules.specs.CcStateKeys.Addressed.{InExpr, InPlace, taken_step, place_taken_step, own_step, expr_in, place_in as place_in_step, in_expr, in_place, taken_in, IsAddressed}
use Rattle.cc_rules.specs.CcStateKeys.Lists.{only}
use Rattle.cc_rules.specs.CcStateKeys.Tracked.{tracked_number}
use Rattle.cc_state_values_sound.specs.CcStateOperators.Domains.{Domain}
use Rattle.cc_state_values_sound.proofs.Choices.{GivesAll}
use Rattle.cc_state_values_sound.specs.Steps.{MayGive}
use Rattle.cc_state_values_sound.specs.Typed.{IsTypedAnswer}
use Rattle.cc_state_values_sound.proofs.CcStates.Options.{with_one, with_two}
use Rattle.cc_state_values_sound.specs.CcStates.Answers.{IsActivation}
use Rattle.cc_state_values_sound.proofs.CcSteps.ScalarPlaces.{scalar_flat}
use Rattle.cc_state_values_sound.proofs.CcSyntax.Prefixes.{both_true}
use Rattle.cc_state_values_sound.specs.CcSyntax.Effects.{Registers, also, is_soft}
use Rattle.cc_state_values_sound.specs.CcSyntax.Expressions.{of_two}
use Rattle.cc_state_values_sound.specs.CcSyntax.Initial.{bound_of, step_into}
use Rattle.cc_state_values_sound.specs.CcSyntax.Operators as rule
use Rattle.cc_state_values_sound.specs.CcSyntax.Programs.{qualified_type}
use Rattle.cc_state_values_sound.specs.CcSyntax.Registers.{is_register}
use Rattle.cc_state_values_sound.specs.CcSyntax.Values.{ValueType, PlaceType, object_place, element_of, member_of, address_of, pointed_to}
use Rattle.cc_state_values_sound.specs.CcValues.Values.{integer, index_in, address_in, unary, binary, conversion, truth, of_truth, offset, movement, in_one_array, difference, gap, compared, comparison}

module _ (p : Program) where
  -- an address is none of a tracked object
  abbrev pub IsFree : Address → Type 0
  IsFree a = (i number : ℕ) → address_static a ≡ Some i → tracked_number p i ≡ Some number → ⊥

  abbrev pub Clean : Option Value → Type 0
  Clean None = Unit {0}
  Clean (Some (Int n)) = Unit {0}
  Clean (Some (Place a)) = IsFree a

  -- ---- what operators give

  clean_integer : (o : Option ℤ) → Clean (option_map Int o)
  clean_integer None = tt
  clean_integer (Some n) = tt

  clean_unary : (o : UnOp) (t : IntType) (target : Target) (v : Option Value) → Clean (unary o t target v)
  clean_unary o t target None = tt
  clean_unary o t target (Some (Place a)) = tt
  clean_unary o t target (Some (Int n)) = clean_integer _

  clean_binary : (o : BinOp) (t : IntType) (target : Target) (v w : Option Value) → Clean (binary o t target v w)
  clean_binary o t target None w = tt
  clean_binary o t target (Some (Place a)) w = tt
  clean_binary o t target (Some (Int n)) None = tt
  clean_binary o t target (Some (Int n)) (Some (Place a)) = tt
  clean_binary o t target (Some (Int n)) (Some (Int m)) = clean_integer _

  clean_conversion : (t : IntType) (target : Target) (v : Option Value) → Clean (conversion t target v)
  clean_conversion t target None = tt
  clean_conversion t target (Some (Place a)) = tt
  clean_conversion t target (Some (Int n)) = tt

  clean_truth : (b : Option Bool) → Clean (of_truth b)
  clean_truth None = tt
  clean_truth (Some b) = tt

  clean_difference : (b : Bool) (n : ℤ) → Clean (if b then Some (Int n) else None)
  clean_difference true n = tt
  clean_difference false n = tt

  clean_gap_by : (target : Target) (x : Option (ℕ × ℕ)) → Clean (option_and_then (λ (o : ℕ × ℕ). difference target o.0 o.1) x)
  clean_gap_by target None = tt
  clean_gap_by target (Some o) = clean_difference _ _

  clean_gap : (target : Target) (v w : Option Value) → Clean (gap target v w)
  clean_gap target None w = tt
  clean_gap target (Some (Int n)) w = tt
  clean_gap target (Some (Place a)) None = tt
  clean_gap target (Some (Place a)) (Some (Int n)) = tt
  clean_gap target (Some (Place a)) (Some (Place b)) = clean_gap_by target (in_one_array a b)

  clean_ordered : (test : ℕ → ℕ → Bool) (x : Option (ℕ × ℕ)) → Clean (option_map (λ (o : ℕ × ℕ). Int (one_if (test o.0 o.1))) x)
  clean_ordered test None = tt
  clean_ordered test (Some o) = tt

  clean_compared : (o : BinOp) (a b : Address) → Clean (compared o a b)
  clean_compared op.Eq a b = tt
  clean_compared op.Ne a b = tt
  clean_compared op.Lt a b = clean_ordered _ (in_one_array a b)
  clean_compared op.Le a b = clean_ordered _ (in_one_array a b)
  clean_compared op.Gt a b = clean_ordered _ (in_one_array a b)
  clean_compared op.Ge a b = clean_ordered _ (in_one_array a b)
  clean_compared _ a b = tt

  clean_comparison : (o : BinOp) (v w : Option Value) → Clean (comparison o v w)
  clean_comparison o None w = tt
  clean_comparison o (Some (Int n)) w = tt
  clean_comparison o (Some (Place a)) None = tt
  clean_comparison o (Some (Place a)) (Some (Int n)) = tt
  clean_comparison o (Some (Place a)) (Some (Place b)) = clean_compared o a b

  -- a pointer that is moved stays in its object
  clean_moved : (object : Root) (path : List Part) (count : ℕ) (x : Option ℕ) → ((i number : ℕ) → root_static object ≡ Some i → tracked_number p i ≡ Some number → ⊥) → Clean (option_map Place (option_map (λ (i : ℕ). address.At object path i count) x))
  clean_moved object path count None h = tt
  clean_moved object path count (Some i) h = h

  clean_movement : (back : Bool) (v w : Option Value) → Clean v → Clean (movement back v w)
  clean_movement back None w h = tt
  clean_movement back (Some (Int n)) w h = tt
  clean_movement back (Some (Place a)) None h = tt
  clean_movement back (Some (Place a)) (Some (Place b)) h = tt
  clean_movement back (Some (Place address.Null)) (Some (Int n)) h = tt
  clean_movement back (Some (Place (address.Func g))) (Some (Int n)) h = tt
  clean_movement back (Some (Place (address.At object path index count))) (Some (Int n)) h = clean_moved object path count (index_in (pos index +ℤ offset back n) count) h

  -- ---- spots

  -- where a place of this form leads to a tracked object it is named
  abbrev pub Named : one.Place-F Expr PlaceOf → Option Spot → Type 0
  Named x there = (i number : ℕ) → spot_static there ≡ Some i → tracked_number p i ≡ Some number → x ≡ one.Static i

  -- and it leads to none
  abbrev FreeSpot : Option Spot → Type 0
  FreeSpot there = (i number : ℕ) → spot_static there ≡ Some i → tracked_number p i ≡ Some number → ⊥

  free_named : (x : one.Place-F Expr PlaceOf) (there : Option Spot) → FreeSpot there → Named x there
  free_named x there h i number e k = absurd (h i number e k)

  no_static : (x : one.Place-F Expr PlaceOf) (there : Option Spot) → spot_static there ≡ None → Named x there
  no_static x there n i number e k = absurd (let z : None ≡ Some i = sym n ∙ e in cc)

  pointed_free : (v : Option Value) → Clean v → FreeSpot (option_map spot.Address (address_in v))
  pointed_free None h i number e k = absurd (cc)
  pointed_free (Some (Int n)) h i number e k = absurd (cc)
  pointed_free (Some (Place a)) h i number e k = h i number e k

  -- the static object stays the same behind what is designated
  named_static : (t : PlaceType) (a : Address) (o : Root × List Part) → named_by p t a ≡ Some o → address_static a ≡ root_static o.0
  named_static t address.Null o e = absurd (cc)
  named_static t (address.Func g) o e = absurd (cc)
  named_static t (address.At object path index count) o e = by (nat_lt index count) e
    where
      by : (b : Bool) → (if b then Some (object, path_to (has_elements p t object path) path index) else None) ≡ Some o → root_static object ≡ root_static o.0
      by true k = ap (λ (z : Root × List Part). root_static z.0) (same_Some (object, path_to (has_elements p t object path) path index) o k)
      by false k = absurd (cc)

  designated_static : (t : PlaceType) (s : Spot) (o : Root × List Part) → designated p t s ≡ Some o → spot_static (Some s) ≡ root_static o.0
  designated_static t (spot.Device n) o e = absurd (cc)
  designated_static t (spot.Object object path) o e = ap (λ (z : Root × List Part). root_static z.0) (same_Some (object, path) o e)
  designated_static t (spot.Address a) o e = named_static t a o e

  member_by : (m : ℕ) (t : PlaceType) (s : Spot) (x : Option (Root × List Part)) → designated p t s ≡ x → FreeSpot (Some s) → FreeSpot (option_map (λ o. spot.Object o.0 (o.1 ++ part.Member m ∷ [])) x)
  member_by m t s None is h i number e k = absurd (cc)
  member_by m t s (Some o) is h i number e k = h i number (designated_static t s o is ∙ e) k

  member_free : (m : ℕ) (t : Option PlaceType) (s : Option Spot) → FreeSpot s → FreeSpot (of_two t s (member p m))
  member_free m None s h i number e k = absurd (cc)
  member_free m (Some t) None h i number e k = absurd (cc)
  member_free m (Some t) (Some s) h i number e k = member_by m t s (designated p t s) refl h i number e k

  element_by : (bound : Option ℕ) (n : ℤ) (t : PlaceType) (s : Spot) (x : Option (Root × List Part)) → designated p t s ≡ x → FreeSpot (Some s) → FreeSpot (option_and_then (element_in bound n) x)
  element_by bound n t s None is h i number e k = absurd (cc)
  element_by None n t s (Some o) is h i number e k = absurd (cc)
  element_by (Some count) n t s (Some o) is h i number e k = by (index_in n count) i number e k
    where
      by : (x : Option ℕ) → FreeSpot (option_map spot.Address (option_map (λ (j : ℕ). address.At o.0 o.1 j count) x))
      by None i number e k = absurd (cc)
      by (Some j) i number e k = h i number (designated_static t s o is ∙ e) k

element_free : (c : Context) (t : Option PlaceType) (s : Option Spot) (v : Option Value) → FreeSpot c.program s → FreeSpot c.program (element_at c t s v)
element_free c None s v h i number e k = absurd (cc)
element_free c (Some t) None v h i number e k = absurd (cc)
element_free c (Some t) (Some s) v h i number e k = by (integer v) i number e k
  where
    by : (n : Option ℤ) → FreeSpot c.program (option_and_then (λ n. element c.program n t s) n)
    by None i number e k = absurd (cc)
    by (Some n) i number e k = element_by c.program (bound_of t) n t s (designated c.program t s) refl h i number e k

-- ---- tracked objects are scalars

module _ (p : Program) where
  tracked_type : (i number : ℕ) → tracked_number p i ≡ Some number → (u : PlaceType) → object_type p (root.Static i) ≡ Some u → (element_of u ≡ None) × ((m : ℕ) → step_into p.structures (part.Member m) u ≡ None)
  tracked_type i number h u e =
      let o = tracked_scalar p i number h in
      let is : object_place o.object.ctype ≡ u = same_Some (object_place o.object.ctype) u (sym (ap (option_map (λ (o : Object). object_place o.ctype)) o.there) ∙ e) in
      let flat = scalar_flat p.structures o.object.ctype o.scalar in
      (ap element_of (sym is) ∙ flat.elements, λ m. ap (step_into p.structures (part.Member m)) (sym is) ∙ flat.parts (part.Member m))

-- ---- what expressions take

module _ (p : Program) (id : ℕ) (f : Func) where
  taken_level : (x : one.Expr-F Expr PlaceOf) → taken_in p id f (roll-Expr x) ≡ taken_step (map-Expr Expr PlaceOf InExpr InPlace (in_expr p id f) (in_place p id f) x)
  unfolding in_expr in_place
  taken_level x = ap (λ (w : InExpr). w.taken) (fold-roll-Expr InExpr InPlace (expr_in p id f) (place_in_step p id f) x)

  place_taken_level : (x : one.Place-F Expr PlaceOf) → (in_place p id f (roll-Place x)).taken ≡ place_taken_step (map-Place Expr PlaceOf InExpr InPlace (in_expr p id f) (in_place p id f) x)
  unfolding in_expr in_place
  place_taken_level x = ap (λ (w : InPlace). w.taken) (fold-roll-Place InExpr InPlace (expr_in p id f) (place_in_step p id f) x)

  own_level : (x : one.Place-F Expr PlaceOf) → (in_place p id f (roll-Place x)).own ≡ own_step p id f (map-Place Expr PlaceOf InExpr InPlace (in_expr p id f) (in_place p id f) x)
  unfolding in_expr in_place
  own_level x = ap (λ (w : InPlace). w.own) (fold-roll-Place InExpr InPlace (expr_in p id f) (place_in_step p id f) x)

  taken_as : (e : Expr) (x : one.Expr-F Expr PlaceOf) → out-Expr e ≡ x → taken_in p id f e ≡ taken_step (map-Expr Expr PlaceOf InExpr InPlace (in_expr p id f) (in_place p id f) x)
  taken_as e x h = ap (taken_in p id f) (sym (roll-out-Expr e) ∙ ap roll-Expr h) ∙ taken_level x

  pub assigned_keys : (e : Expr) (a : PlaceOf) (x : Expr) → out-Expr e ≡ one.Assign a x → taken_in p id f e ≡ (in_place p id f a).taken ++ taken_in p id f x
  assigned_keys e a x h = taken_as e (one.Assign a x) h

  pub loaded_keys : (e : Expr) (a : PlaceOf) → out-Expr e ≡ one.Load a → taken_in p id f e ≡ (in_place p id f a).taken
  loaded_keys e a h = taken_as e (one.Load a) h

  own_static : (a : PlaceOf) (i : ℕ) → out-Place a ≡ one.Static i → (in_place p id f a).own ≡ Some (key.Object i)
  own_static a i e = ap (λ (z : PlaceOf). (in_place p id f z).own) (sym (roll-out-Place a) ∙ ap roll-Place e) ∙ own_level (one.Static i)

-- ---- all pure expressions, and places whose operands are pure

module _ {I : Type 0} (d : Domain I) (all : GivesAll d) (c : Context) (openings : List ℕ) (here : IsActivation c openings) (register : ℕ → Option (Abs I))
    (sets_there : (r : ℕ) → is_register c.func r ≡ true → (y : Abs I) × (register r ≡ Some y)) (sets_clean : (r : ℕ) (y : Abs I) → is_register c.func r ≡ true → register r ≡ Some y → (v : Option Value) → MayGive d.has y v → Clean c.program v) where
  abbrev IsIt : Action → Mark → Type 0
  IsIt = IsTypedAnswer d.has c openings register

  abbrev AnyStep : Action → Type 0
  AnyStep action = Unit {0}

  abbrev Any : Option Value → Type 0
  Any v = Unit {0}

  abbrev IsClean : Get (Option Value) → Type 0
  IsClean g = Works IsIt AnyStep (Clean c.program) g

  abbrev AreTaken : List Key → Type 0
  AreTaken list = (k : Key) → Contains list k → IsAddressed c.program k

  first_taken : (xs ys : List Key) → AreTaken (xs ++ ys) → AreTaken xs
  first_taken xs ys h k e = h k (Contains-append_left xs ys k e)

  second_taken : (xs ys : List Key) → AreTaken (xs ++ ys) → AreTaken ys
  second_taken xs ys h k e = h k (Contains-append_right xs ys k e)

  any : (e : Expr) (later : Registers) → Works IsIt AnyStep Any ((meaning c e).next later)
  any e later = anything d all c openings here register e later

  clean_one : (e : Expr) (g : Option Value → Option Value) (later : Registers) → ((v : Option Value) → Clean c.program (g v)) → IsClean (from_one g (meaning c e) later)
  clean_one e g later h = works_bind IsIt AnyStep Any (Clean c.program) ((meaning c e).next later) (λ v. known (g v)) (any e later) (λ v t. works_known IsIt AnyStep (Clean c.program) (g v) (h v))

  clean_two : (a b : Expr) (g : Option Value → Option Value → Option Value) (later : Registers) (P : Option Value → Type 0) → ((l : Registers) → Works IsIt AnyStep P ((meaning c a).next l)) → ((v w : Option Value) → P v → Clean c.program (g v w)) →
      IsClean (from_two g (meaning c a) (meaning c b) later)
  clean_two a b g later P h k =
      works_bind IsIt AnyStep First (Clean c.program) (both_values (meaning c a) (meaning c b) later) (λ q. known (g q.0 q.1))
      (works_bind IsIt AnyStep P First ((meaning c a).next (also (meaning c b).effects.assigned later)) (λ v. bind ((meaning c b).next later) (λ w. known (v, w))) (h (also (meaning c b).effects.assigned later))
      (λ v m. works_bind IsIt AnyStep Any First ((meaning c b).next later) (λ w. known (v, w)) (any b later) (λ w t. works_known IsIt AnyStep First (v, w) m)))
      (λ q m. works_known IsIt AnyStep (Clean c.program) (g q.0 q.1) (k q.0 q.1 m))
    where
      First : Option Value × Option Value → Type 0
      First q = P q.0

  clean_any_two : (a b : Expr) (g : Option Value → Option Value → Option Value) (later : Registers) → ((v w : Option Value) → Clean c.program (g v w)) → IsClean (from_two g (meaning c a) (meaning c b) later)
  clean_any_two a b g later h = clean_two a b g later Any (λ l. any a l) (λ v w t. h v w)

  clean_condition : (b : Expr) (later : Registers) → IsClean (as_condition (meaning c b) later)
  clean_condition b later = works_bind IsIt AnyStep Any (Clean c.program) ((meaning c b).next later) (λ v. known (of_truth (truth v))) (any b later) (λ v t. works_known IsIt AnyStep (Clean c.program) (of_truth (truth v)) (clean_truth c.program (truth v)))

  clean_choice : (pure : Bool) (condition these those : Get (Option Value)) → Works IsIt AnyStep Any condition → IsClean these → IsClean those → IsClean (choice pure condition these those)
  clean_choice pure condition these those g h k = works_choice IsIt AnyStep Any (Clean c.program) pure condition these those (λ b. tt) tt g h k

  -- ---- claims

  abbrev ExprClaim : Meaning → List Key → Type 0
  ExprClaim a taken = (l : Registers) → a.effects.pure l ≡ true → AreTaken taken → (t : ValueType) → a.ctype ≡ Some t → (later : Registers) → IsClean (a.next later)

  abbrev At : Expr → Type 0
  At e = ExprClaim (meaning c e) (taken_in c.program c.id c.func e)

  abbrev PlaceClaim : one.Place-F Expr PlaceOf → Designation → List Key → Type 0
  PlaceClaim x a taken = (l : Registers) → a.effects.pure l ≡ true → AreTaken taken → (u : PlaceType) → a.ctype ≡ Some u → (later : Registers) → Works IsIt AnyStep (Named c.program x) (a.leads later)

  -- a register leads to itself
  abbrev LeadsToRegister : Designation → Type 0
  LeadsToRegister a = (r : ℕ) → a.effects.register ≡ Some r → (is_register c.func r ≡ true) × ((other : Registers) → a.leads other ≡ known (Some (spot.Object (root.Auto c.number c.id r) [])))

  abbrev PlaceAt : PlaceOf → Type 0
  PlaceAt a = PlaceClaim (out-Place a) (designation c a) (in_place c.program c.id c.func a).taken

  its_register : (a : PlaceOf) → LeadsToRegister (designation c a)
  its_register a r e = register_leads c IsIt a r e

  clean_fetched : (a : Designation) (other : Registers) (r : ℕ) → is_register c.func r ≡ true → IsClean (fetched c a other (Some (spot.Object (root.Auto c.number c.id r) [])))
  clean_fetched a other r reg =
      works_needs IsIt AnyStep (Clean c.program) (reached c.program a.ctype own) (λ at. ask (Read at (manner a other)) given)
      (λ at h.
      let is : at ≡ cell.At (root.Auto c.number c.id r) [] = named_cell c.program a.ctype (root.Auto c.number c.id r) [] at h in
      let y = sets_there r reg in
      works_ask IsIt AnyStep (Clean c.program) (Read at (manner a other)) given tt
      (λ mark k. sets_clean r y.0 reg y.1 (given mark) (k.in_sets.reads r (manner a other) y.0 (ap (λ (z : Cell). Read z (manner a other)) is) y.1)))
    where
      own : Option Spot
      own = Some (spot.Object (root.Auto c.number c.id r) [])

  clean_load : (a : PlaceOf) (l : Registers) → is_soft (designation c a).effects.register l ≡ true → (later : Registers) → IsClean (bind ((designation c a).leads later) (fetched c (designation c a) later))
  clean_load a l soft later = by (designation c a).effects.register refl soft
    where
      by : (o : Option ℕ) → (designation c a).effects.register ≡ o → is_soft o l ≡ true → IsClean (bind ((designation c a).leads later) (fetched c (designation c a) later))
      by None e h = absurd (cc)
      by (Some r) e h =
          let w = its_register a r e in
          subst (λ (z : Get (Option Spot)). IsClean (bind z (fetched c (designation c a) later))) (sym (w.1 later)) (clean_fetched (designation c a) later r w.0)

  -- the address of a named tracked object is taken nowhere
  address_clean : (a : PlaceOf) → AreTaken (only (in_place c.program c.id c.func a).own) → (s : Option Spot) → Named c.program (out-Place a) s → Clean c.program (address_of_spot s)
  address_clean a taken s named = by s named
    where
      not_named : (i number : ℕ) → tracked_number c.program i ≡ Some number → out-Place a ≡ one.Static i → ⊥
      not_named i number k e =
          untaken c.program i number k (taken (key.Object i) (subst (λ (z : Option Key). Contains (only z) (key.Object i)) (sym (own_static c.program c.id c.func a i e)) (in_first (key.Object i) [])))

      by : (s : Option Spot) → Named c.program (out-Place a) s → Clean c.program (address_of_spot s)
      by None h = tt
      by (Some (spot.Device n)) h = tt
      by (Some (spot.Object object path)) h = λ i number e k. not_named i number k (h i number e k)
      by (Some (spot.Address x)) h = λ i number e k. not_named i number k (h i number e k)

  expr_level : (x : one.Expr-F Expr PlaceOf) → Parts At PlaceAt x → ExprClaim (opened c x) (taken_step (map-Expr Expr PlaceOf InExpr InPlace (in_expr c.program c.id c.func) (in_place c.program c.id c.func) x))
  expr_level (one.Const n t) parts l h taken u e later = works_known IsIt AnyStep (Clean c.program) (Some (Int n)) tt
  expr_level (one.Null t) parts l h taken u e later = works_known IsIt AnyStep (Clean c.program) (Some (Place address.Null)) (λ i number k m. (let z : None ≡ Some i = k in cc))
  expr_level (one.FuncAddr g) parts l h taken u e later = works_known IsIt AnyStep (Clean c.program) (Some (Place (address.Func g))) (λ i number k m. (let z : None ≡ Some i = k in cc))
  expr_level (one.Load a) parts l h taken u e later = clean_load a l h later
  expr_level (one.AddrOf a) parts l h taken u e later =
      with_one (IsClean (bind ((designation c a).leads later) (λ s. known (address_of_spot s)))) (designation c a).ctype address_of u e
      (λ w x y. works_bind IsIt AnyStep (Named c.program (out-Place a)) (Clean c.program) ((designation c a).leads later) (λ s. known (address_of_spot s))
      (parts l h (second_taken (only (in_place c.program c.id c.func a).own) (in_place c.program c.id c.func a).taken taken) w x later)
      (λ s k. works_known IsIt AnyStep (Clean c.program) (address_of_spot s) (address_clean a (first_taken (only (in_place c.program c.id c.func a).own) (in_place c.program c.id c.func a).taken taken) s k)))
  expr_level (one.Un o t a) parts l h taken u e later = clean_one a (unary o t c.program.target) later (clean_unary c.program o t c.program.target)
  expr_level (one.Bin o t a b) parts l h taken u e later = clean_any_two a b (binary o t c.program.target) later (clean_binary c.program o t c.program.target)
  expr_level (one.Conv t a) parts l h taken u e later = clean_one a (conversion t c.program.target) later (clean_conversion c.program t c.program.target)
  expr_level (one.Qualify to a) parts l h taken u e later =
      with_one (IsClean (from_one (λ v. v) (meaning c a) later)) (meaning c a).ctype (qualified_type c.program to) u e
      (λ w x y. works_bind IsIt AnyStep (Clean c.program) (Clean c.program) ((meaning c a).next later) (λ v. known v) (parts l h taken w x later) (λ v k. works_known IsIt AnyStep (Clean c.program) v k))
  expr_level (one.Move a b back) parts l h taken u e later =
      let q = both_true ((meaning c a).effects.pure l) ((meaning c b).effects.pure l) h in
      with_two (IsClean (from_two (movement back) (meaning c a) (meaning c b) later)) (meaning c a).ctype (meaning c b).ctype (rule.moved_type c.program.structures) u e
      (λ w y x z g. clean_two a b (movement back) later (Clean c.program) (λ m. parts.0 l q.0 (first_taken (taken_in c.program c.id c.func a) (taken_in c.program c.id c.func b) taken) w x m) (λ v m k. clean_movement c.program back v m k))
  expr_level (one.Gap a b) parts l h taken u e later = clean_any_two a b (gap c.program.target) later (clean_gap c.program c.program.target)
  expr_level (one.Compare o a b) parts l h taken u e later = clean_any_two a b (comparison o) later (clean_comparison c.program o)
  expr_level (one.Both a b) parts l h taken u e later =
      clean_choice _ ((meaning c a).next (also (meaning c b).effects.assigned later)) (as_condition (meaning c b) later) (known (Some (Int (pos 0)))) (any a (also (meaning c b).effects.assigned later)) (clean_condition b later)
      (works_known IsIt AnyStep (Clean c.program) (Some (Int (pos 0))) tt)
  expr_level (one.Either a b) parts l h taken u e later =
      clean_choice _ ((meaning c a).next (also (meaning c b).effects.assigned later)) (known (Some (Int (pos 1)))) (as_condition (meaning c b) later) (any a (also (meaning c b).effects.assigned later))
      (works_known IsIt AnyStep (Clean c.program) (Some (Int (pos 1))) tt) (clean_condition b later)
  expr_level (one.Choose g a b) parts l h taken u e later =
      let q = both_true ((meaning c g).effects.pure l) ((meaning c a).effects.pure l && (meaning c b).effects.pure l) h in
      let r = both_true ((meaning c a).effects.pure l) ((meaning c b).effects.pure l) q.1 in
      let rest = second_taken (taken_in c.program c.id c.func g) (taken_in c.program c.id c.func a ++ taken_in c.program c.id c.func b) taken in
      let whole = (opened c (one.Choose g a b)).next later in
      with_one (IsClean whole) (meaning c g).ctype (λ x. of_two (meaning c a).ctype (meaning c b).ctype (rule.choice_type c.program.target x)) u e
      (λ i j k. with_two (IsClean whole) (meaning c a).ctype (meaning c b).ctype (rule.choice_type c.program.target i) u k
      (λ w y x z m. clean_choice _ ((meaning c g).next (also (meaning c a).effects.assigned (also (meaning c b).effects.assigned later))) ((meaning c a).next (also (meaning c b).effects.assigned later)) ((meaning c b).next later)
      (any g (also (meaning c a).effects.assigned (also (meaning c b).effects.assigned later)))
      (parts.1 l r.0 (first_taken (taken_in c.program c.id c.func a) (taken_in c.program c.id c.func b) rest) w x (also (meaning c b).effects.assigned later))
      (parts.2 l r.1 (second_taken (taken_in c.program c.id c.func a) (taken_in c.program c.id c.func b) rest) y z later)))
  expr_level (one.Assign a x) parts l h taken u e later = absurd (cc)
  expr_level (one.Change a o t x) parts l h taken u e later = absurd (cc)
  expr_level (one.After a down) parts l h taken u e later = absurd (cc)
  expr_level (one.Call g args) parts l h taken u e later = absurd (cc)
  expr_level (one.Intr i a) parts l h taken u e later = absurd (cc)
  expr_level (one.Seq a b) parts l h taken u e later = absurd (cc)

  -- what has parts is no tracked object
  untracked_object : (a : PlaceOf) (w : PlaceType) → (designation c a).ctype ≡ Some w → ((i number : ℕ) → tracked_number c.program i ≡ Some number → object_type c.program (root.Static i) ≡ Some w → ⊥) → (s : Option Spot) → Named c.program (out-Place a) s → FreeSpot c.program s
  untracked_object a w e apart s named i number k m =
      apart i number m (ap (λ (z : Designation). z.ctype) (sym (designation_at c a (one.Static i) (named i number k m))) ∙ e)

  place_level_claim : (x : one.Place-F Expr PlaceOf) → PlaceParts At PlaceAt x → PlaceClaim x (place_opened c x) (place_taken_step (map-Place Expr PlaceOf InExpr InPlace (in_expr c.program c.id c.func) (in_place c.program c.id c.func) x))
  place_level_claim (one.Local r) parts l h taken u e later =
      works_known IsIt AnyStep (Named c.program (one.Local r)) (Some (spot.Object (root.Auto c.number c.id r) [])) (no_static c.program (one.Local r) (Some (spot.Object (root.Auto c.number c.id r) [])) refl)
  place_level_claim (one.Static i) parts l h taken u e later =
      works_known IsIt AnyStep (Named c.program (one.Static i)) (Some (spot.Object (root.Static i) [])) (λ j number k m. ap (λ (z : ℕ). one.Static z) (same_Some i j k))
  place_level_claim (one.Device n) parts l h taken u e later =
      works_known IsIt AnyStep (Named c.program (one.Device n)) (Some (spot.Device n)) (no_static c.program (one.Device n) (Some (spot.Device n)) refl)
  place_level_claim (one.Element a i) parts l h taken u e later =
      let q = both_true ((designation c a).effects.pure l) ((meaning c i).effects.pure l) h in
      with_two (Works IsIt AnyStep (Named c.program (one.Element a i)) (bind (place_and_value (designation c a) (meaning c i) later) (λ w. known (element_at c (designation c a).ctype w.0 w.1)))) (designation c a).ctype (meaning c i).ctype rule.subscript_type u e
      (λ w t x y z. works_bind IsIt AnyStep First (Named c.program (one.Element a i)) (place_and_value (designation c a) (meaning c i) later) (λ r. known (element_at c (designation c a).ctype r.0 r.1))
      (works_bind IsIt AnyStep (Named c.program (out-Place a)) First ((designation c a).leads (also (meaning c i).effects.assigned later)) (λ s. bind ((meaning c i).next later) (λ v. known (s, v)))
      (parts.0 l q.0 (first_taken (in_place c.program c.id c.func a).taken (taken_in c.program c.id c.func i) taken) w x (also (meaning c i).effects.assigned later))
      (λ s k. works_bind IsIt AnyStep Any First ((meaning c i).next later) (λ v. known (s, v)) (any i later) (λ v m. works_known IsIt AnyStep First (s, v) (apart w t x z s k))))
      (λ r k. works_known IsIt AnyStep (Named c.program (one.Element a i)) (element_at c (designation c a).ctype r.0 r.1)
      (free_named c.program (one.Element a i) (element_at c (designation c a).ctype r.0 r.1) (element_free c (designation c a).ctype r.0 r.1 k))))
    where
      First : Option Spot × Option Value → Type 0
      First r = FreeSpot c.program r.0

      no_element : (w : PlaceType) (t : ValueType) → rule.subscript_type w t ≡ Some u → element_of w ≡ None → ⊥
      no_element w t z none = by (rule.is_integer t) z
        where
          by : (b : Bool) → (if b then element_of w else None) ≡ Some u → ⊥
          by true k = (let g : None ≡ Some u = sym none ∙ k in cc)
          by false k = (let g : None ≡ Some u = k in cc)

      apart : (w : PlaceType) (t : ValueType) → (designation c a).ctype ≡ Some w → rule.subscript_type w t ≡ Some u → (s : Option Spot) → Named c.program (out-Place a) s → FreeSpot c.program s
      apart w t x z s k = untracked_object a w x (λ j number g m. no_element w t z (tracked_type c.program j number g w m).0) s k
  place_level_claim (one.Member a m) parts l h taken u e later =
      with_one (Works IsIt AnyStep (Named c.program (one.Member a m)) (bind ((designation c a).leads later) (λ s. known (of_two (designation c a).ctype s (member c.program m))))) (designation c a).ctype (member_of c.program.structures m) u e
      (λ w x y. works_bind IsIt AnyStep (Named c.program (out-Place a)) (Named c.program (one.Member a m)) ((designation c a).leads later) (λ s. known (of_two (designation c a).ctype s (member c.program m))) (parts l h taken w x later)
      (λ s k. works_known IsIt AnyStep (Named c.program (one.Member a m)) (of_two (designation c a).ctype s (member c.program m))
      (free_named c.program (one.Member a m) (of_two (designation c a).ctype s (member c.program m))
      (member_free c.program m (designation c a).ctype s (untracked_object a w x (λ j number g t. (let z : None ≡ Some u = sym ((tracked_type c.program j number g w t).1 m) ∙ y in cc)) s k)))))
  place_level_claim (one.Deref e) parts l h taken u k later =
      with_one (Works IsIt AnyStep (Named c.program (one.Deref e)) (bind ((meaning c e).next later) (λ v. known (option_map spot.Address (address_in v))))) (meaning c e).ctype pointed_to u k
      (λ t x y. works_bind IsIt AnyStep (Clean c.program) (Named c.program (one.Deref e)) ((meaning c e).next later) (λ v. known (option_map spot.Address (address_in v))) (parts l h taken t x later)
      (λ v g. works_known IsIt AnyStep (Named c.program (one.Deref e)) (option_map spot.Address (address_in v))
      (free_named c.program (one.Deref e) (option_map spot.Address (address_in v)) (pointed_free c.program v g))))

  made : (x : one.Expr-F Expr PlaceOf) → Parts At PlaceAt x → At (roll-Expr x)
  made x h =
      subst (λ (z : Meaning). ExprClaim z (taken_in c.program c.id c.func (roll-Expr x))) (sym (level c x))
      (subst (ExprClaim (opened c x)) (sym (taken_level c.program c.id c.func x)) (expr_level x h))

  place_made : (x : one.Place-F Expr PlaceOf) → PlaceParts At PlaceAt x → PlaceAt (roll-Place x)
  place_made x h =
      subst (λ (y : one.Place-F Expr PlaceOf). PlaceClaim y (designation c (roll-Place x)) (in_place c.program c.id c.func (roll-Place x)).taken) (sym (out-roll-Place x))
      (subst (λ (z : Designation). PlaceClaim x z (in_place c.program c.id c.func (roll-Place x)).taken) (sym (place_level c x))
      (subst (PlaceClaim x (place_opened c x)) (sym (place_taken_level c.program c.id c.func x)) (place_level_claim x h)))

  pub place_apart : (a : PlaceOf) → PlaceAt a
  place_apart a = by_place At PlaceAt made place_made a
