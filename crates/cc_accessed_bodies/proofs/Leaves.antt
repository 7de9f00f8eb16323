-- An expression that gives a static object its first value accesses no device: it is a constant, or an address (C99 6.6, 9; 6.7.8, 4).
use Rattle.std.proofs.Common.{◌≡◌, ℕ, ℤ, Bool, true, false, true≢false, ◌||◌, List, Option, Some, None, Ok, refl, ap, sym, ◌∙◌, subst}
use Rattle.cc_type.specs.CcInitial.Addresses.{Located, NotConstant, Trapping, AtNull, AtFunction, AtSpot, Spot, ConstantExpression, into, element_at, element_by, member_spot, moved_address, expr_step, place_step, constant_expression, place_located, located, address_leaf, integer_leaf, leaf_by, leaf_of}
use Rattle.cc_type.specs.CcOperands.Operands.{Operand, constancy}
use Rattle.cc_program.proofs.ExprInduction.{Parts, PlaceParts, by_expr}
use Rattle.cc_program.specs.declared.expr.Expr.{Expr, roll-Expr, map-Expr, fold-roll-Expr}
use Rattle.cc_program.specs.declared.expr.Expr.TheOpen as one
use Rattle.cc_program.specs.declared.expr.Place.{Place, roll-Place, map-Place, fold-roll-Place}
use Rattle.cc_program.specs.declared.types.CType.{CType}
use Rattle.cc_program.specs.declared.types.Structure.{Structure}
use Rattle.cc_program.specs.declared.value.Leaf.{Leaf}
use Rattle.cc_type.specs.CcSyntax.Folding.{Constant, NoConstant, Value, Traps}
use Rattle.cc_type.specs.CcSyntax.Values.{ValueType, NoValue, Integer, ToObject, ToFunction, member_of}
use Rattle.cc_accessed_operands.specs.Accessed.{PlaceAccess, accesses, place_access}
use Rattle.cc_accessed_operands.proofs.Accesses.{accesses_at, place_access_at, accesses-roll, place-access-roll}
use Rattle.cc_accessed_operands.proofs.Parts.{constant_none}

abbrev no_number : Option ℤ
no_number = None

neither : (a b : Bool) → a ≡ false → b ≡ false → (a || b) ≡ false
neither false b h k = k
neither true b h k = absurd (true≢false h)

-- ---- addresses

abbrev IsAddress : Located → Type 0
IsAddress NotConstant = ⊥
IsAddress Trapping = ⊥
IsAddress AtNull = Unit {0}
IsAddress (AtFunction f) = Unit {0}
IsAddress (AtSpot spot) = Unit {0}

into_is : (next : Spot → Located) (l : Located) → IsAddress (into next l) → IsAddress l
into_is next NotConstant h = h
into_is next Trapping h = h
into_is next AtNull h = tt
into_is next (AtFunction f) h = tt
into_is next (AtSpot spot) h = tt

moved_is : (back : Bool) (o : Option ℤ) (l : Located) → IsAddress (moved_address back o l) → IsAddress l × ((n : ℤ) × (o ≡ Some n))
moved_is back None l h = absurd h
moved_is back (Some n) NotConstant h = absurd h
moved_is back (Some n) Trapping h = absurd h
moved_is back (Some n) AtNull h = absurd h
moved_is back (Some n) (AtFunction f) h = absurd h
moved_is back (Some n) (AtSpot spot) h = (tt, (n, refl))

element_is : (o : Option ℤ) (l : Located) → IsAddress (element_at o l) → IsAddress l × ((n : ℤ) × (o ≡ Some n))
element_is None l h = absurd h
element_is (Some n) l h = (into_is (element_by n) l h, (n, refl))

module _ (d : ℕ) (structures : List Structure) (objects : ℕ → Option CType) where
  abbrev of : Expr → ConstantExpression
  of e = constant_expression structures objects e

  abbrev to : Place → Located
  to a = place_located structures objects a

  abbrev AccessesNone : ConstantExpression → Bool → Type 0
  AccessesNone c accessed = (IsAddress c.located → accessed ≡ false) × ((n : ℤ) → c.number ≡ Some n → accessed ≡ false)

  abbrev P : Expr → Type 0
  P e = AccessesNone (of e) (accesses d e)

  abbrev Q : Place → Type 0
  Q a = IsAddress (to a) → (place_access d a).inside ≡ false

  abbrev expr_at : one.Expr-F Expr Place → ConstantExpression
  expr_at x = expr_step structures objects (map-Expr Expr Place ConstantExpression Located of to x)

  abbrev place_at : one.Place-F Expr Place → Located
  place_at x = place_step structures objects (map-Place Expr Place ConstantExpression Located of to x)

  of-roll : (x : one.Expr-F Expr Place) → of (roll-Expr x) ≡ expr_at x
  unfolding constant_expression place_located
  of-roll x = fold-roll-Expr ConstantExpression Located (expr_step structures objects) (place_step structures objects) x

  to-roll : (x : one.Place-F Expr Place) → to (roll-Place x) ≡ place_at x
  unfolding constant_expression place_located
  to-roll x = fold-roll-Place ConstantExpression Located (expr_step structures objects) (place_step structures objects) x

  -- what is neither an address nor a number
  nothing : (accessed : Bool) → (⊥ → accessed ≡ false) × ((n : ℤ) → no_number ≡ Some n → accessed ≡ false)
  nothing accessed = (λ k. absurd k, λ n k. absurd (cc))

  unnumbered : (l : Located) (accessed : Bool) → (IsAddress l → accessed ≡ false) → (IsAddress l → accessed ≡ false) × ((n : ℤ) → no_number ≡ Some n → accessed ≡ false)
  unnumbered l accessed f = (f, λ n k. absurd (cc))

  none_at : (x : one.Expr-F Expr Place) → Parts P Q x → AccessesNone (expr_at x) (accesses_at d x)
  none_at (one.Const n t) h = (λ k. refl, λ m k. refl)
  none_at (one.Null t) h = unnumbered AtNull false (λ k. refl)
  none_at (one.FuncAddr f) h = unnumbered (AtFunction f) false (λ k. refl)
  none_at (one.AddrOf a) h = unnumbered (to a) (place_access d a).inside h
  none_at (one.Qualify t a) h = unnumbered (of a).located (accesses d a) h.0
  none_at (one.Move a b back) h =
      unnumbered (moved_address back (of b).number (of a).located) (accesses d a || accesses d b)
      (λ k. let m = moved_is back (of b).number (of a).located k in neither (accesses d a) (accesses d b) (h.0.0 m.0) (h.1.1 m.1.0 m.1.1))
  none_at (one.Load a) h = nothing (accesses_at d (one.Load a))
  none_at (one.Un o t a) h = nothing (accesses_at d (one.Un o t a))
  none_at (one.Bin o t a b) h = nothing (accesses_at d (one.Bin o t a b))
  none_at (one.Conv t a) h = nothing (accesses_at d (one.Conv t a))
  none_at (one.Gap a b) h = nothing (accesses_at d (one.Gap a b))
  none_at (one.Compare o a b) h = nothing (accesses_at d (one.Compare o a b))
  none_at (one.Both a b) h = nothing (accesses_at d (one.Both a b))
  none_at (one.Either a b) h = nothing (accesses_at d (one.Either a b))
  none_at (one.Choose c a b) h = nothing (accesses_at d (one.Choose c a b))
  none_at (one.Assign a e) h = nothing (accesses_at d (one.Assign a e))
  none_at (one.Change a o t e) h = nothing (accesses_at d (one.Change a o t e))
  none_at (one.After a down) h = nothing (accesses_at d (one.After a down))
  none_at (one.Call f args) h = nothing (accesses_at d (one.Call f args))
  none_at (one.Intr i a) h = nothing (accesses_at d (one.Intr i a))
  none_at (one.Seq a b) h = nothing (accesses_at d (one.Seq a b))

  place_none : (x : one.Place-F Expr Place) → PlaceParts P Q x → IsAddress (place_at x) → (place_access_at d x).inside ≡ false
  place_none (one.Local n) h k = refl
  place_none (one.Static i) h k = refl
  place_none (one.Device i) h k = refl
  place_none (one.Element a i) h k =
      let m = element_is (of i).number (to a) k in
      neither (place_access d a).inside (accesses d i) (h.0 m.0) (h.1.1 m.1.0 m.1.1)
  place_none (one.Member a m) h k = h (into_is (λ (spot : Spot). member_spot spot m (member_of structures m spot.type)) (to a) k)
  place_none (one.Deref e) h k = h.0 k

  made : (x : one.Expr-F Expr Place) → Parts P Q x → P (roll-Expr x)
  made x h = subst (λ (b : Bool). AccessesNone (of (roll-Expr x)) b) (sym (accesses-roll d x)) (subst (λ (c : ConstantExpression). AccessesNone c (accesses_at d x)) (sym (of-roll x)) (none_at x h))

  made_place : (x : one.Place-F Expr Place) → PlaceParts P Q x → Q (roll-Place x)
  made_place x h k = ap (λ (a : PlaceAccess). a.inside) (place-access-roll d x) ∙ place_none x h (subst IsAddress (to-roll x) k)

  accesses_none : (e : Expr) → P e
  accesses_none e = by_expr P Q made made_place e

  -- ---- first values

  address_is : (l : Located) (r : Leaf) → address_leaf l ≡ Ok r → IsAddress l
  address_is NotConstant r h = absurd (cc)
  address_is Trapping r h = absurd (cc)
  address_is AtNull r h = tt
  address_is (AtFunction f) r h = tt
  address_is (AtSpot spot) r h = tt

  integer_is : (c : Constant) (r : Leaf) → integer_leaf c ≡ Ok r → (n : ℤ) × (c ≡ Value n)
  integer_is NoConstant r h = absurd (cc)
  integer_is (Value n) r h = (n, refl)
  integer_is Traps r h = absurd (cc)

  by_type : (x : Operand) (t : ValueType) (r : Leaf) → leaf_by structures objects x t ≡ Ok r → accesses d x.value ≡ false
  by_type x (Integer t) r h = let c = integer_is (constancy x) r h in constant_none d x c.0 c.1
  by_type x NoValue r h = absurd (cc)
  by_type x (ToObject constant volatile t) r h = (accesses_none x.value).0 (address_is (located structures objects x.value) r h)
  by_type x (ToFunction sig) r h = (accesses_none x.value).0 (address_is (located structures objects x.value) r h)

  pub leaf_none : (x : Operand) (r : Leaf) → leaf_of structures objects x ≡ Ok r → accesses d x.value ≡ false
  leaf_none x r h = by_type x x.type r h
