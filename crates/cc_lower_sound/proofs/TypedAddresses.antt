-- A typed expression takes no address of a local that is not there, and names none.
use Rattle.std.proofs.Common.{◌≡◌, ◌<◌, ◌≤◌, ℕ, zero, suc, Bool, true, false, ◌||◌, nat_eq, List, [], ◌∷◌, length, map, Option, Some, None, slice_get, option_map, refl, ap, sym, ◌∙◌, arith}
use Rattle.std.proofs.lemmas.Bool.{eqb-true}
use Rattle.std.specs.List.{list_any}
use Rattle.cc_program.specs.declared.expr.Expr.{Expr, roll-Expr}
use Rattle.cc_program.specs.declared.expr.Expr.TheOpen as one
use Rattle.cc_program.specs.declared.expr.Place.{Place, roll-Place}
use Rattle.cc_program.specs.declared.func.Func.{Func}
use Rattle.cc_program.specs.declared.program.Program.{Program}
use Rattle.cc_program.specs.declared.types.CType.{CType}
use Rattle.cc_program.proofs.Each.{Each}
use Rattle.cc_program.proofs.ExprInduction.{Parts, PlaceParts, by_expr, by_place}
use Rattle.cc_eval.specs.CcSyntax.Expressions.{of_one, of_two}
use Rattle.cc_eval.specs.CcSyntax.Registers.{PlaceUse, is_address_taken, place_use}
use Rattle.cc_eval.specs.CcSyntax.Types.{Named}
use Rattle.cc_eval.specs.CcSyntax.Values.{ValueType, PlaceType, is_assignable_some, are_assignable, scalar_value, written_to, object_place}
use Rattle.cc_lower_sound.proofs.AddressReading.{neither, Untaken, taken_at, use_at, taken-roll, use-roll}
use Rattle.cc_lower_sound.proofs.Bools.{first_true, second_true}
use Rattle.cc_lower_sound.proofs.Levels.{type_at, place_at, type-roll, place-roll}
use Rattle.cc_lower_sound.proofs.LoweredCalls.{is_call, is_argument, is_restored}
use Rattle.cc_lower_sound.proofs.Readings.{view, typed, placed}
use Rattle.cc_lower_sound.proofs.Scalars.{has_one, has_two}

pub below : {A : Type 0} (xs : List A) (i : ℕ) (x : A) → slice_get xs i ≡ Some x → i < length xs
below [] i x h = absurd (cc)
below (y ∷ xs) zero x h = omega arith
below (y ∷ xs) (suc i) x h = let k = below xs i x h in omega arith

not_same : (s r : ℕ) (b : Bool) → nat_eq s r ≡ b → s < r → b ≡ false
not_same s r false e h = refl
not_same s r true e h = let k = eqb-true s r e in absurd (omega arith)

module _ (p : Program) (f : Func) (r : ℕ) (outside : length f.locals ≤ r) where
  abbrev Safe : Expr → Type 0
  Safe e = (t : ValueType) → typed p f e ≡ Some t → Untaken r e

  -- neither the local nor a place that takes its address
  abbrev SafePlace : Place → Type 0
  SafePlace a = (t : PlaceType) → placed p f a ≡ Some t → (place_use r a).is_local || (place_use r a).address_taken ≡ false

  untaken_in : (a : Place) (t : PlaceType) → SafePlace a → placed p f a ≡ Some t → (place_use r a).address_taken ≡ false
  untaken_in a t h e = second_part ((place_use r a).is_local) ((place_use r a).address_taken) (h t e)
    where
      second_part : (a b : Bool) → a || b ≡ false → b ≡ false
      second_part true b h = absurd (cc)
      second_part false b h = h

  arguments : (ts : List CType) (es : List Expr) → Each Safe es → are_assignable ts (map (typed p f) es) ≡ true → list_any (λ b. b) (map (is_address_taken r) es) ≡ false
  arguments [] [] h k = refl
  arguments (t ∷ ts) [] h k = absurd (cc)
  arguments [] (e ∷ es) h k = absurd (cc)
  arguments (t ∷ ts) (e ∷ es) h k =
      let x = is_argument (scalar_value t) (typed p f e) (first_true (is_assignable_some (scalar_value t) (typed p f e)) (are_assignable ts (map (typed p f) es)) k) in
      neither (is_address_taken r e) (list_any (λ b. b) (map (is_address_taken r) es)) (h.0 x.type x.is) (arguments ts es h.1 (second_true (is_assignable_some (scalar_value t) (typed p f e)) (are_assignable ts (map (typed p f) es)) k))

  two_safe : {C : Type 0} (a b : Expr) (g : ValueType → ValueType → Option C) (t : C) → Safe a → Safe b → of_two (typed p f a) (typed p f b) g ≡ Some t → is_address_taken r a || is_address_taken r b ≡ false
  two_safe a b g t h k e = let x = has_two (typed p f a) (typed p f b) g t e in neither (is_address_taken r a) (is_address_taken r b) (h x.first x.is_first) (k x.second x.is_second)

  one_safe : {C : Type 0} (a : Expr) (g : ValueType → Option C) (t : C) → Safe a → of_one (typed p f a) g ≡ Some t → is_address_taken r a ≡ false
  one_safe a g t h e = let x = has_one (typed p f a) g t e in h x.first x.is

  place_safe : {C : Type 0} (a : Place) (g : PlaceType → Option C) (t : C) → SafePlace a → of_one (placed p f a) g ≡ Some t → (place_use r a).address_taken ≡ false
  place_safe a g t h e = let x = has_one (placed p f a) g t e in untaken_in a x.first h x.is

  written_safe : {C : Type 0} (a : Place) (b : Expr) (g : ValueType → ValueType → Option C) (t : C) → SafePlace a → Safe b → of_two (of_one (placed p f a) written_to) (typed p f b) g ≡ Some t → (place_use r a).address_taken || is_address_taken r b ≡ false
  written_safe a b g t h k e =
      let x = has_two (of_one (placed p f a) written_to) (typed p f b) g t e in
      neither ((place_use r a).address_taken) (is_address_taken r b) (place_safe a written_to x.first h x.is_first) (k x.second x.is_second)

  safe_at : (x : one.Expr-F Expr Place) → Parts Safe SafePlace x → (t : ValueType) → type_at (view p f) f.locals x ≡ Some t → taken_at r x ≡ false
  safe_at (one.Const n i) h t k = refl
  safe_at (one.Null i) h t k = refl
  safe_at (one.FuncAddr i) h t k = refl
  safe_at (one.Load a) h t k = place_safe a _ t h k
  safe_at (one.AddrOf a) h t k = let x = has_one (placed p f a) _ t k in h x.first x.is
  safe_at (one.Un o i a) h t k = one_safe a _ t h k
  safe_at (one.Bin o i a b) h t k = two_safe a b _ t h.0 h.1 k
  safe_at (one.Conv i a) h t k = one_safe a _ t h k
  safe_at (one.Qualify i a) h t k = one_safe a _ t h k
  safe_at (one.Move a b back) h t k = two_safe a b _ t h.0 h.1 k
  safe_at (one.Gap a b) h t k = two_safe a b _ t h.0 h.1 k
  safe_at (one.Compare o a b) h t k = two_safe a b _ t h.0 h.1 k
  safe_at (one.Both a b) h t k = two_safe a b _ t h.0 h.1 k
  safe_at (one.Either a b) h t k = two_safe a b _ t h.0 h.1 k
  safe_at (one.Choose c a b) h t k =
      let x = has_one (typed p f c) _ t k in
      neither (is_address_taken r c) (is_address_taken r a || is_address_taken r b) (h.0 x.first x.is) (two_safe a b _ t h.1 h.2 x.gives)
  safe_at (one.Assign a b) h t k = written_safe a b _ t h.0 h.1 k
  safe_at (one.Change a o i b) h t k = written_safe a b _ t h.0 h.1 k
  safe_at (one.After a down) h t k = let x = has_one (of_one (placed p f a) written_to) _ t k in place_safe a written_to x.first h x.is
  safe_at (one.Call g args) h t k =
      let x = has_one (typed p f g) _ t k in
      let y = is_call x.first (map (typed p f) args) t x.gives in
      neither (is_address_taken r g) (list_any (λ b. b) (map (is_address_taken r) args)) (h.0 x.first x.is) (arguments y.params args h.1 y.fit)
  safe_at (one.Intr i None) h t k = refl
  safe_at (one.Intr i (Some a)) h t k = let x = is_restored i (typed p f a) t k in h x.type x.is
  safe_at (one.Seq a b) h t k = two_safe a b _ t h.0 h.1 k

  local_by : (s : ℕ) (o : Option Named) (t : PlaceType) → slice_get f.locals s ≡ o → option_map (λ (l : Named). object_place l.1) o ≡ Some t → nat_eq s r || false ≡ false
  local_by s None t e k = absurd (cc)
  local_by s (Some l) t e k = let b = below f.locals s l e in neither (nat_eq s r) false (not_same s r (nat_eq s r) refl (omega arith)) refl

  place_safe_at : (x : one.Place-F Expr Place) → PlaceParts Safe SafePlace x → (t : PlaceType) → place_at (view p f) f.locals x ≡ Some t → (use_at r x).is_local || (use_at r x).address_taken ≡ false
  place_safe_at (one.Local s) h t k = local_by s (slice_get f.locals s) t refl k
  place_safe_at (one.Static i) h t k = refl
  place_safe_at (one.Device i) h t k = refl
  place_safe_at (one.Element a i) h t k =
      let x = has_two (placed p f a) (typed p f i) _ t k in neither ((place_use r a).address_taken) (is_address_taken r i) (untaken_in a x.first h.0 x.is_first) (h.1 x.second x.is_second)
  place_safe_at (one.Member a m) h t k = let x = has_one (placed p f a) _ t k in untaken_in a x.first h x.is
  place_safe_at (one.Deref e) h t k = let x = has_one (typed p f e) _ t k in h x.first x.is

  level : (x : one.Expr-F Expr Place) → Parts Safe SafePlace x → Safe (roll-Expr x)
  level x h t k = taken-roll r x ∙ safe_at x h t (sym (type-roll (view p f) f.locals x) ∙ k)

  place_level : (x : one.Place-F Expr Place) → PlaceParts Safe SafePlace x → SafePlace (roll-Place x)
  place_level x h t k = ap (λ (u : PlaceUse). u.is_local || u.address_taken) (use-roll r x) ∙ place_safe_at x h t (sym (place-roll (view p f) f.locals x) ∙ k)

  pub untaken_outside : (e : Expr) → Safe e
  untaken_outside = by_expr Safe SafePlace level place_level

  pub place_outside : (a : Place) (t : PlaceType) → placed p f a ≡ Some t → (place_use r a).address_taken ≡ false
  place_outside a t k = untaken_in a t (by_place Safe SafePlace level place_level a) k
