-- Names, constants, strings and devices are typed.
use Rattle.std.proofs.Common.{◌≡◌, ℕ, ◌+◌, ◌*◌, ◌<◌, ◌≤◌, ◌^◌, arith, leb-true, le-leb, ℤ, pos, Bool, true, false, ◌&&◌, List, length, Option, Some, None, Ok, Err, refl, ap, sym, ◌∙◌, subst}
use Rattle.std.specs.Prelude.{nat_eq, nat_le, get_or, slice_get, position, if◌then◌else◌}
use Rattle.std.proofs.lemmas.List.Quantifiers.{position-Some}
use Rattle.std.proofs.lemmas.Option.{slice_get-get_or}
use Rattle.std.specs.Ordering.{int_eq}
use Rattle.cc_terms.specs.CcDesignators.Casts.{fits_pointer, no_device}
use Rattle.cc_terms.specs.CcDesignators.Designators.{TypedExpr, IsPlace, null}
use Rattle.cc_terms.specs.CcDesignators.Postfix.{indirection}
use Rattle.cc_terms.specs.CcLex.declared.token.Suffix.{Suffix}
use Rattle.cc_program.specs.CcNum.declared.int_type.IntType.{IntType}
use Rattle.cc_program.specs.CcNum.declared.int_type.IntType.TheVariants as int
use Rattle.cc_terms.specs.CcOperands.Operands.{Operand, number_type, character_value}
use Rattle.cc_terms.specs.CcOperands.declared.rule.Rule.TheVariants as rule
use Rattle.cc_operand_types.specs.Typed.{is_pointed_kind, IsNullType, IsTypedOperand, IsTypedExpr, IsTypedPlace}
use Rattle.cc_terms.specs.CcSyntax.Views.{View, kind_in}
use Rattle.cc_operand_types.proofs.Leaves.{local_typed, static_typed, device_typed, function_typed}
use Rattle.cc_operand_types.proofs.Literals.{number_fits, character_fits}
use Rattle.cc_operand_types.proofs.Nulls.{null_operand}
use Rattle.cc_operand_types.proofs.Operands.{ok_is, must_ok, as_constant}
use Rattle.cc_operand_types.proofs.Places.{indirection_typed}
use Rattle.cc_operand_types.proofs.Requalified.{kind_at}
use Rattle.cc_terms.specs.CcTypedTerms.Devices.{device_of, declared_device, names_device, number_of, device_place, with_device, device_found, register_found, address_found}
use Rattle.cc_terms.specs.CcTypedTerms.Primary.{intrinsic_named, function_by, linked_by, linked, designates, named_by, named, number, character, char_type, chars_type, string_type, string_object, string_place, string_found}
use Rattle.cc_program.specs.declared.expr.Intr.{Intr}
use Rattle.cc_program.specs.declared.expr.Place.{Local}
use Rattle.cc_program.specs.declared.object.Device.{Device}
use Rattle.cc_program.specs.declared.program.Roles.{Roles}
use Rattle.cc_program.specs.declared.types.CType.{CType}
use Rattle.cc_program.specs.declared.types.Shape.{Shape, out-Shape}
use Rattle.cc_program.specs.declared.types.Shape.TheOpen as shape
use Rattle.cc_program.specs.declared.types.Shape.TheVariants.{outs-Int}
use Rattle.cc_program.specs.declared.types.Sig.{Sig}
use Rattle.cc_terms.specs.CcScopes.State.{State, Name, designated, with_declared}
use Rattle.cc_terms.specs.CcScopes.Verdicts.{whole}
use Rattle.cc_terms.specs.CcScopes.declared.designated.Designated.{Designated}
use Rattle.cc_terms.specs.CcScopes.declared.designated.Designated.TheVariants as means
use Rattle.cc_terms.specs.CcScopes.declared.unit.Declared.{Declared}
use Rattle.cc_terms.specs.CcSpecifiers.Bounds.{is_bound}
use Rattle.cc_terms.specs.CcSyntax.Kinds.{IsScalar, is_small, is_object_type}
use Rattle.cc_terms.specs.CcSyntax.SameTypes.{same_int, same_flag}
use Rattle.cc_terms.specs.CcSyntax.Sound.{is_numbered, is_same_device}
use Rattle.cc_terms.specs.CcSyntax.Types.{Named}
use Rattle.cc_terms.specs.CcSyntax.Values.{ToFunction, DevicePlace, object_place}
use Rattle.cc_terms.proofs.CcSyntax.Prefixes.{both_true}
use Rattle.cc_terms.proofs.CcSyntax.SameLemmas.{int_same}
use Rattle.cc_terms.specs.CcUnit.declared.unit.UnitKind.{UnitKind}
use Rattle.cc_terms.specs.CcUnit.declared.unit.UnitKind.TheVariants as kind
use Rattle.cc_sound_terms.specs.Behind.{Extends, NameStands, IsUnnamed, OfString, OfDevice}
use Rattle.cc_sound_terms.specs.Growing.{IsConstant}
use Rattle.cc_sound_terms.specs.Knowing.{KnowsAs, KnowsNames, IsObject}
use Rattle.cc_sound_terms.specs.Typing.{Knows}
use Rattle.cc_sound_terms.proofs.Founds.{answer, answer_is}
use Rattle.cc_sound_terms.proofs.Behind.{declared_adds}
use Rattle.cc_sound_terms.proofs.Growth.{get_last}
use Rattle.cc_sound_terms.proofs.TypeKinds.{array_kind_is}
use Rattle.cc_sound_terms.proofs.Known.{knows_first, knows_second}
use Rattle.cc_sound_terms.proofs.Outcomes.{Outcome, staying, whole_holds}

flag_same : (a b : Bool) → same_flag a b ≡ true → a ≡ b
flag_same true true h = refl
flag_same true false h = absurd (cc)
flag_same false true h = absurd (cc)
flag_same false false h = refl

-- ---- where something stands in a list

pub record StandsAt {A : Type 0} (test : A → Bool) (xs : List A) (i : ℕ) : Type 0 where
  pub one : A
  pub at : slice_get xs i ≡ Some one
  pub passes : test one ≡ true

pub stands_at : {A : Type 0} (test : A → Bool) (xs : List A) (i : ℕ) (d : A) → position test xs ≡ Some i → StandsAt test xs i
stands_at test xs i d h = let p = position-Some test xs i d h in record { one = get_or xs i d; at = slice_get-get_or xs i d p.0; passes = p.1 }

module _ (v : View) (locals : List Named) where
  abbrev Designates : TypedExpr → Type 0
  Designates x = IsTypedExpr v locals x

  abbrev Typed : Operand → Type 0
  Typed x = IsTypedOperand v locals x

  abbrev Gives : State → TypedExpr × State → Type 0
  Gives s r = Outcome v (IsConstant v.target) (Knows v locals) TypedExpr Designates s r

  -- ---- names

  function_is : (i : ℕ) (t : CType) (y : shape.Shape-F Shape CType Sig) (r : TypedExpr) → out-Shape t.shape ≡ y → KnowsAs v i t (kind.Func None None) → function_by i y ≡ Ok r → Designates r
  function_is i t (shape.Func sig) r e w h = let k = w sig e in subst Designates (ok_is h) (function_typed v locals i (ToFunction sig) k.0 k.1)
  function_is i t shape.Void r e w h = absurd (cc)
  function_is i t (shape.Int j) r e w h = absurd (cc)
  function_is i t (shape.Pointer to) r e w h = absurd (cc)
  function_is i t (shape.Array of n) r e w h = absurd (cc)
  function_is i t (shape.Struct j) r e w h = absurd (cc)

  kind_is : (i : ℕ) (t : CType) (k : UnitKind) (r : TypedExpr) → KnowsAs v i t k → linked_by i t k ≡ Ok r → Designates r
  kind_is i t (kind.Object leaves) r w h = subst Designates (ok_is h) (static_typed v locals i (object_place t) w.0 w.1)
  kind_is i t (kind.Device d) r w h = subst Designates (ok_is h) (device_typed v locals i (DevicePlace d.constant d.int) w refl)
  kind_is i t (kind.Func entry body) r w h = function_is i t (out-Shape t.shape) r refl w h

  linked_is : (s : State) (i : ℕ) (o : Option Declared) (r : TypedExpr) → KnowsNames v s.names → slice_get s.names i ≡ o → linked i o ≡ Ok r → Designates r
  linked_is s i None r w e h = absurd (cc)
  linked_is s i (Some d) r w e h = kind_is i d.ctype d.kind r (w i d e) h

  automatic_is : (n : ℕ) (t : CType) → IsObject v locals (means.Automatic n t) → Designates (IsPlace (Local n) (object_place t))
  automatic_is n t w =
      subst (λ (u : CType). IsTypedPlace v locals (Local n) (object_place u)) w.2
      (local_typed v locals n w.0 w.1 (ap (λ (u : CType). is_pointed_kind false (kind_in v u)) w.2 ∙ w.3))

  designated_is : (s : State) (o : Option Designated) (r : TypedExpr) → KnowsNames v s.names → ((d : Designated) → o ≡ Some d → IsObject v locals d) → designates s o ≡ Ok r → Designates r
  designated_is s None r w g h = absurd (cc)
  designated_is s (Some (means.Linked i)) r w g h = linked_is s i (slice_get s.names i) r w refl h
  designated_is s (Some (means.Automatic n t)) r w g h = subst Designates (ok_is h) (automatic_is n t (g (means.Automatic n t) refl))
  designated_is s (Some (means.TypeNamed t)) r w g h = absurd (cc)
  designated_is s (Some (means.Enumerator n)) r w g h = subst Designates (ok_is h) (as_constant v locals n int.Int (g (means.Enumerator n) refl))

  name_is : (at : ℕ) (x : Name) (s : State) (o : Option Intr) (r : TypedExpr) → Knows v locals s s → named_by at x s o ≡ Ok r → Designates r
  name_is at x s (Some i) r w h = subst Designates (ok_is h) tt
  name_is at x s None r w h = designated_is s (designated x s.scopes) r w.names (w.objects x) h

  module _ (roles : Roles) where
    pub named_holds : (at : ℕ) (x : Name) (s : State) (r : TypedExpr × State) → whole at s (named roles at x s) ≡ Ok r → Gives s r
    named_holds at x s r h =
        whole_holds v (IsConstant v.target) (Knows v locals) (knows_first v locals) (knows_second v locals) TypedExpr Designates at s (named roles at x s) r
        (λ y e w. name_is at x s (intrinsic_named roles x) y w e) h

  -- ---- constants

  found_here : (x : TypedExpr) (s : State) (r : TypedExpr × State) → Designates x → answer x s ≡ Ok r → Gives s r
  found_here x s r d h =
      let e = answer_is x s r h in
      staying v (IsConstant v.target) (Knows v locals) (knows_first v locals) (knows_second v locals) TypedExpr Designates s r e.1 (λ w. subst Designates (sym e.0) d)

  pub number_holds : (n : ℕ) (suffix : Suffix) → n < 2 ^ 64 → (s : State) (r : TypedExpr × State) → answer (number v.target n suffix) s ≡ Ok r → Gives s r
  number_holds n suffix l s r h = found_here (number v.target n suffix) s r (as_constant v locals (pos n) (number_type v.target n suffix) (number_fits v.target n suffix l)) h

  pub character_holds : (byte : ℕ) (s : State) (r : TypedExpr × State) → answer (character v.target byte) s ≡ Ok r → Gives s r
  character_holds byte s r h = found_here (character v.target byte) s r (as_constant v locals (character_value v.target byte) int.Int (character_fits v.target byte)) h

  -- ---- what is declared by its use

  declares : (x : TypedExpr) (d : Declared) (s : State) (r : TypedExpr × State) → IsUnnamed v.target d → NameStands v d → (KnowsAs v (length s.names) d.ctype d.kind → Designates x) → answer x (with_declared d s) ≡ Ok r → Gives s r
  declares x d s r u n f h =
      let e = answer_is x (with_declared d s) r h in
      record {
        grows = subst (λ (t : State). Extends v s t) (sym e.1) (declared_adds v (IsConstant v.target) d s u n);
        holds = λ w. subst Designates (sym e.0) (f (w.names (length s.names) d (ap (λ (t : State). slice_get t.names (length s.names)) e.1 ∙ get_last s.names d)));
      }

  -- a string is an array of characters, of one byte each
  small_chars : (n : ℕ) → is_bound n ≡ true → is_small (n * 1) ≡ true
  small_chars n h =
      let b = both_true (nat_le 1 n) (nat_le n 65535) h in
      let l : n ≤ 65535 = leb-true n 65535 b.1 in
      le-leb (n * 1) 4294967295 (omega arith)

  string_stands : (n : ℕ) → is_bound n ≡ true → is_object_type (kind_in v (chars_type n)) ≡ true
  string_stands n h =
      ap is_object_type (array_kind_is v (char_type true) n 1 (IsScalar true 1) (kind_at v (char_type true) (shape.Int int.Char) (outs-Int int.Char)) refl refl h) ∙ small_chars n h

  string_by : (b : Bool) (at : ℕ) (bytes : List ℕ) (s : State) (r : TypedExpr × State) → is_bound (length bytes + 1) ≡ b →
      (if b then answer (string_place s bytes) (with_declared (string_object v.target at bytes) s) else whole at s (Err rule.ArrayBound)) ≡ Ok r → Gives s r
  string_by true at bytes s r e h = declares (string_place s bytes) (string_object v.target at bytes) s r (OfString at bytes e) (string_stands (length bytes + 1) e) (λ w. static_typed v locals (length s.names) (object_place (string_type bytes)) w.0 w.1) h
  string_by false at bytes s r e h = absurd (cc)

  pub string_holds : (at : ℕ) (bytes : List ℕ) (s : State) (r : TypedExpr × State) → string_found v.target at bytes s ≡ Ok r → Gives s r
  string_holds at bytes s r h = string_by (is_bound (length bytes + 1)) at bytes s r refl h

  -- ---- devices

  same_place : (d e : Device) → is_same_device d e ≡ true → DevicePlace e.constant e.int ≡ DevicePlace d.constant d.int
  same_place d e h =
      let a = both_true (is_numbered d) (is_numbered e && (nat_eq d.number e.number && (same_int d.int e.int && same_flag d.constant e.constant))) h in
      let b = both_true (is_numbered e) (nat_eq d.number e.number && (same_int d.int e.int && same_flag d.constant e.constant)) a.1 in
      let c = both_true (nat_eq d.number e.number) (same_int d.int e.int && same_flag d.constant e.constant) b.1 in
      let f = both_true (same_int d.int e.int) (same_flag d.constant e.constant) c.1 in
      ap (λ (i : IntType). DevicePlace e.constant i) (sym (int_same d.int e.int f.0)) ∙ ap (λ (k : Bool). DevicePlace k d.int) (sym (flag_same d.constant e.constant f.1))

  device_as : (i : ℕ) (d : Device) (t : CType) (k : UnitKind) → names_device d k ≡ true → KnowsAs v i t k → Designates (device_place i d)
  device_as i d t (kind.Device e) h w = device_typed v locals i (DevicePlace d.constant d.int) (w ∙ ap Some (same_place d e h)) refl
  device_as i d t (kind.Object leaves) h w = absurd (cc)
  device_as i d t (kind.Func entry body) h w = absurd (cc)

  with_device_holds : (d : Device) → IsUnnamed v.target (declared_device d) → (s : State) (o : Option ℕ) (r : TypedExpr × State) → number_of d s.names ≡ o → answer (with_device d s o).0 (with_device d s o).1 ≡ Ok r → Gives s r
  with_device_holds d u s (Some i) r e h =
      let p = stands_at (λ (x : Declared). names_device d x.kind) s.names i (declared_device d) e in
      let a = answer_is (device_place i d) s r h in
      staying v (IsConstant v.target) (Knows v locals) (knows_first v locals) (knows_second v locals) TypedExpr Designates s r a.1
      (λ w. subst Designates (sym a.0) (device_as i d p.one.ctype p.one.kind p.passes (w.names i p.one p.at)))
  with_device_holds d u s None r e h = declares (device_place (length s.names) d) (declared_device d) s r u tt (λ w. device_typed v locals (length s.names) (DevicePlace d.constant d.int) w refl) h

  device_by : (b : Bool) (at : ℕ) (d : Device) → (b ≡ true → IsUnnamed v.target (declared_device d)) → (s : State) (r : TypedExpr × State) →
      (if b then Ok (with_device d s (number_of d s.names)) else whole at s (Err rule.Device)) ≡ Ok r → Gives s r
  device_by true at d u s r h = with_device_holds d (u refl) s (number_of d s.names) r refl h
  device_by false at d u s r h = absurd (cc)

  -- behind another type than a volatile integer there is a null
  null_pointed : (n : ℤ) (t : CType) (r : TypedExpr) → IsNullType v t → no_device n t ≡ Ok r → Designates r
  null_pointed n t r w h =
      let m = must_ok (int_eq n (pos 0)) rule.Device (indirection (null t)) r h in
      indirection_typed v locals (null t) r (null_operand v locals t w) m.1

  null_holds : (at : ℕ) (n : ℤ) (t : CType) (s : State) (r : TypedExpr × State) → whole at s (no_device n t) ≡ Ok r → Outcome v (IsConstant v.target) (Knows v locals) TypedExpr (λ y. IsNullType v t → Designates y) s r
  null_holds at n t s r h =
      whole_holds v (IsConstant v.target) (Knows v locals) (knows_first v locals) (knows_second v locals) TypedExpr (λ y. IsNullType v t → Designates y) at s (no_device n t) r (λ y e w z. null_pointed n t y z e) h

  behind_null : (t : CType) (s : State) (r : TypedExpr × State) → Gives s r → Outcome v (IsConstant v.target) (Knows v locals) TypedExpr (λ y. IsNullType v t → Designates y) s r
  behind_null t s r o = record { grows = o.grows; holds = λ w z. o.holds w }

  volatile_by : (b : Bool) (at : ℕ) (n : ℤ) (t to : CType) (i : IntType) (s : State) (r : TypedExpr × State) →
      (if b then device_found v.target at n (device_of n to.constant i) s else whole at s (no_device n t)) ≡ Ok r → Outcome v (IsConstant v.target) (Knows v locals) TypedExpr (λ y. IsNullType v t → Designates y) s r
  volatile_by true at n t to i s r h = behind_null t s r (device_by (fits_pointer v.target n) at (device_of n to.constant i) (λ e. OfDevice n to.constant i e) s r h)
  volatile_by false at n t to i s r h = null_holds at n t s r h

  register_holds : (at : ℕ) (n : ℤ) (t to : CType) (s : State) (y : shape.Shape-F Shape CType Sig) (r : TypedExpr × State) → register_found v.target at n t s to y ≡ Ok r →
      Outcome v (IsConstant v.target) (Knows v locals) TypedExpr (λ y. IsNullType v t → Designates y) s r
  register_holds at n t to s (shape.Int i) r h = volatile_by to.volatile at n t to i s r h
  register_holds at n t to s shape.Void r h = null_holds at n t s r h
  register_holds at n t to s (shape.Pointer u) r h = null_holds at n t s r h
  register_holds at n t to s (shape.Array u m) r h = null_holds at n t s r h
  register_holds at n t to s (shape.Struct j) r h = null_holds at n t s r h
  register_holds at n t to s (shape.Func sig) r h = null_holds at n t s r h

  pub address_holds : (at : ℕ) (n : ℤ) (t : CType) (s : State) (y : shape.Shape-F Shape CType Sig) (r : TypedExpr × State) → address_found v.target at n t s y ≡ Ok r →
      Outcome v (IsConstant v.target) (Knows v locals) TypedExpr (λ y. IsNullType v t → Designates y) s r
  address_holds at n t s (shape.Pointer to) r h = register_holds at n t to s (out-Shape to.shape) r h
  address_holds at n t s shape.Void r h = absurd (cc)
  address_holds at n t s (shape.Int i) r h = absurd (cc)
  address_holds at n t s (shape.Array u m) r h = absurd (cc)
  address_holds at n t s (shape.Struct j) r h = absurd (cc)
  address_holds at n t s (shape.Func sig) r h = absurd (cc)
