-- What expressions account for, where their parts do (C99 6.5): construct by construct, over the meanings of the parts.
use Rattle.std.proofs.Common.{◌≡◌, ℕ, ◌+◌, ℤ, pos, Bool, true, false, true≢false, ◌||◌, List, [], ◌∷◌, ◌++◌, length, Option, Some, None, Ok, Err, refl, ap, sym, ◌∙◌, subst, nat_eq, eq-eqb}
use Rattle.std.specs.List.{list_any}
use Rattle.std.specs.Ordering.{int_eq}
use Rattle.std.specs.Prelude.{slice_get, if◌then◌else◌}
use Rattle.std.proofs.lemmas.Bool.{or_left, or_right}
use Rattle.cc_terms.specs.CcDesignators.Assignments.{assign_of, stepped_before, stepped_after}
use Rattle.cc_terms.specs.CcDesignators.Casts.{fits_pointer, no_device, cast_of, size_value}
use Rattle.cc_terms.specs.CcDesignators.Designators.{TypedExpr, IsPlace, IsValue, IsFunction, IsIntrinsic, IsAddress, null}
use Rattle.cc_terms.specs.CcDesignators.Postfix.{is_array_place, dot, arrow, address, indirection}
use Rattle.cc_terms.specs.CcLex.declared.token.Mark.{Mark}
use Rattle.cc_terms.specs.CcLex.declared.token.Suffix.{Suffix}
use Rattle.cc_program.specs.CcNum.Integers.{bytes_of}
use Rattle.cc_program.specs.CcNum.declared.int_type.IntType.TheVariants as int
use Rattle.cc_program.specs.CcNum.declared.target.Target.{Target}
use Rattle.cc_terms.specs.CcOperands.Choices.{choose_of, comma_of}
use Rattle.cc_terms.specs.CcOperands.Operands.{Operand, integer, number_type, character_value}
use Rattle.cc_terms.specs.CcOperands.Operators.{operator_of, unary_operator_of}
use Rattle.cc_terms.specs.CcOperands.Qualified.{type_of_value}
use Rattle.cc_terms.specs.CcOperands.Verdicts.{Judged}
use Rattle.cc_terms.specs.CcOperands.declared.operator.Operator.{Operator}
use Rattle.cc_terms.specs.CcOperands.declared.operator.UnaryOperator.{UnaryOperator}
use Rattle.cc_terms.specs.CcOperands.declared.rule.Rule.TheVariants as rule
use Rattle.cc_program.proofs.Each.{Each}
use Rattle.cc_program.specs.declared.expr.Expr.TheOpen as one
use Rattle.cc_program.specs.declared.expr.Intr.{Intr}
use Rattle.cc_program.specs.declared.expr.Place.{Place, Local, Static}
use Rattle.cc_program.specs.declared.expr.Place.{Device as DeviceAt}
use Rattle.cc_program.specs.declared.expr.Place.TheVariants.{rolls-Local, rolls-Static, rolls-Device}
use Rattle.cc_program.specs.declared.object.Device.{Device}
use Rattle.cc_program.specs.declared.program.Roles.{Roles}
use Rattle.cc_program.specs.declared.types.CType.{CType}
use Rattle.cc_program.specs.declared.types.Shape.{Shape, out-Shape}
use Rattle.cc_program.specs.declared.types.Shape.TheOpen as shape
use Rattle.cc_program.specs.declared.types.Sig.{Sig}
use Rattle.cc_terms.specs.CcScopes.State.{State, Name, designated, structures_of, layouts_of, is_unfinished, with_declared}
use Rattle.cc_terms.specs.CcScopes.Verdicts.{whole, and_then}
use Rattle.cc_terms.specs.CcScopes.declared.designated.Designated.{Designated}
use Rattle.cc_terms.specs.CcScopes.declared.designated.Designated.TheVariants as means
use Rattle.cc_terms.specs.CcScopes.declared.unit.Declared.{Declared}
use Rattle.cc_terms.specs.CcSpecifiers.Bounds.{is_bound}
use Rattle.cc_terms.specs.CcSpecifiers.Objects.{size_of}
use Rattle.cc_terms.specs.CcSyntax.Types.{is_complete}
use Rattle.cc_terms.specs.CcSyntax.Values.{PlaceType, DevicePlace, ObjectPlace, FunctionPlace, object_place}
use Rattle.cc_terms.specs.Expressions.{argument_found, arguments_found}
use Rattle.cc_terms.specs.InTurn.{in_turn}
use Rattle.cc_terms.specs.Meanings.{TreeMeaning, TypeNameMeaning}
use Rattle.cc_terms.specs.Operations.{as_value, subscript_base, subscript_judged, callee_by, callee, call_judged, prefixed_by, prefixed, sizeof_found, sizeof_type_found}
use Rattle.cc_tree.specs.declared.at.At.{At}
use Rattle.cc_terms.specs.CcTypedTerms.Devices.{device_of, declared_device, number_of, device_place, with_device, device_found, register_found, address_found, starred}
use Rattle.cc_terms.specs.CcTypedTerms.Operators.{prefix_of, is_minus, intrinsic_in, binary_by, unary_by}
use Rattle.cc_terms.specs.CcTypedTerms.Primary.{intrinsic_named, function_by, linked_by, linked, designates, named_by, named, number, character, string_type, string_place, string_object, string_found}
use Rattle.cc_terms.specs.CcTypedTerms.Sizes.{size_of_type, size_of_place, sizeof_judged}
use Rattle.cc_terms.specs.CcTypedTerms.Values.{gives, valued, value_found, value, designating, designator}
use Rattle.cc_terms.specs.CcTypedTerms.declared.prefix.Prefix.{Prefix}
use Rattle.cc_terms.specs.CcTypedTerms.declared.prefix.Prefix.TheVariants as prefix
use Rattle.cc_terms.specs.CcUnit.declared.unit.UnitKind.{UnitKind}
use Rattle.cc_terms.specs.CcUnit.declared.unit.UnitKind.TheVariants as kind
use Rattle.cc_accessed_operands.proofs.Accesses.{or_kept}
use Rattle.cc_accessed_operands.proofs.Assignments.{assign_keeps, before_keeps, after_keeps}
use Rattle.cc_accessed_operands.proofs.Calls.{written_cast_keeps, size_known, called_keeps, intrinsic_keeps}
use Rattle.cc_accessed_operands.proofs.Choices.{choose_keeps, comma_keeps}
use Rattle.cc_accessed_operands.proofs.Designators.{element_keeps, subscript_keeps, dot_keeps, arrow_keeps, address_keeps, indirection_keeps}
use Rattle.cc_accessed_operands.proofs.Operators.{unary_keeps, binary_keeps}
use Rattle.cc_accessed_operands.proofs.Parts.{operand_known, place_access_is}
use Rattle.cc_accessed_operands.proofs.Verdicts.{ok_is, must_ok}
use Rattle.cc_accessed_operands.specs.Accessed.{PlaceAccess, accesses, of_place, place_access}
use Rattle.cc_accessed_operands.specs.Kept.{TrapsWithoutAccess, designated_accesses, IsKnownPlace, KeepsDesignated, KeepsOperand}
use Rattle.cc_accessed_terms.proofs.Accounts.{Declares, declares_itself, declares_through, declares_both, declares_behind, declares_one}
use Rattle.cc_accessed_terms.proofs.Founds.{answer, then_found}
use Rattle.cc_accessed_terms.proofs.Types.{TypeNameDeclares}
use Rattle.cc_accessed_terms.proofs.Values.{Stands, TreeAccounts, found_is, stands_behind, stands_is, whole_stands, given_stands, known_keeps, leaf_stands, valued_stands, value_stands, designating_stands, value_then, designator_then, forgotten_stands}

-- ---- names, constants and strings

no_device_place : (a : Place) (t : PlaceType) → ((d : ℕ) → (place_access d a).is_device ≡ false) → IsKnownPlace (IsPlace a t)
no_device_place a t f d h = absurd (true≢false (sym h ∙ f d))

static_known : (i : ℕ) (t : PlaceType) → IsKnownPlace (IsPlace (Static i) t)
static_known i t = no_device_place (Static i) t (λ d. ap (λ (a : PlaceAccess). a.is_device) (place_access_is d (Static i) (one.Static i) (rolls-Static i)))

local_known : (n : ℕ) (t : PlaceType) → IsKnownPlace (IsPlace (Local n) t)
local_known n t = no_device_place (Local n) t (λ d. ap (λ (a : PlaceAccess). a.is_device) (place_access_is d (Local n) (one.Local n) (rolls-Local n)))

function_known : (i : ℕ) (t : shape.Shape-F Shape CType Sig) (r : TypedExpr) → function_by i t ≡ Ok r → IsKnownPlace r
function_known i (shape.Func sig) r h = subst IsKnownPlace (ok_is h) tt
function_known i (shape.Int t) r h = absurd (cc)
function_known i (shape.Pointer to) r h = absurd (cc)
function_known i (shape.Array of n) r h = absurd (cc)
function_known i (shape.Struct s) r h = absurd (cc)
function_known i shape.Void r h = absurd (cc)

linked_by_known : (i : ℕ) (t : CType) (k : UnitKind) (r : TypedExpr) → linked_by i t k ≡ Ok r → IsKnownPlace r
linked_by_known i t (kind.Object leaves) r h = subst IsKnownPlace (ok_is h) (static_known i (object_place t))
linked_by_known i t (kind.Device d) r h = subst IsKnownPlace (ok_is h) (λ e f. tt)
linked_by_known i t (kind.Func entry body) r h = function_known i (out-Shape t.shape) r h

linked_known : (i : ℕ) (d : Option Declared) (r : TypedExpr) → linked i d ≡ Ok r → IsKnownPlace r
linked_known i None r h = absurd (cc)
linked_known i (Some d) r h = linked_by_known i d.ctype d.kind r h

designates_known : (s : State) (d : Option Designated) (r : TypedExpr) → designates s d ≡ Ok r → IsKnownPlace r
designates_known s None r h = absurd (cc)
designates_known s (Some (means.Linked i)) r h = linked_known i (slice_get s.names i) r h
designates_known s (Some (means.Automatic n t)) r h = subst IsKnownPlace (ok_is h) (local_known n (object_place t))
designates_known s (Some (means.TypeNamed t)) r h = absurd (cc)
designates_known s (Some (means.Enumerator n)) r h = subst IsKnownPlace (ok_is h) (operand_known (integer n int.Int).value (integer n int.Int).type)

named_by_known : (at : ℕ) (x : Name) (s : State) (i : Option Intr) (r : TypedExpr) → named_by at x s i ≡ Ok r → IsKnownPlace r
named_by_known at x s (Some i) r h = subst IsKnownPlace (ok_is h) tt
named_by_known at x s None r h = designates_known s (designated x s.scopes) r h

pub named_accounts : (roles : Roles) (x : Name) → TreeAccounts (λ at s. whole at s (named roles at x s))
named_accounts roles x at s r h =
    whole_stands (λ y. y) (λ d. false) at s s (named roles at x s) r (declares_itself (λ d. false) s s refl) (λ y e. known_keeps y (named_by_known at x s (intrinsic_named roles x) y e)) h

-- ---- values of arguments

abbrev arguments_access : List Operand → ℕ → Bool
arguments_access xs d = list_any (λ (x : Operand). accesses d x.value) xs

any_in_front : (d : ℕ) (xs : List Operand) (x : Operand) → arguments_access xs d ≡ true → arguments_access (xs ++ x ∷ []) d ≡ true
any_in_front d [] x h = absurd (true≢false (sym h))
any_in_front d (y ∷ xs) x h = or_kept (accesses d y.value) (arguments_access xs d) (accesses d y.value) (arguments_access (xs ++ x ∷ []) d) (λ k. k) (any_in_front d xs x) h

any_behind : (d : ℕ) (xs : List Operand) (x : Operand) → accesses d x.value ≡ true → arguments_access (xs ++ x ∷ []) d ≡ true
any_behind d [] x h = or_left (accesses d x.value) false h
any_behind d (y ∷ xs) x h = or_right (accesses d y.value) (arguments_access (xs ++ x ∷ []) d) (any_behind d xs x h)

module _ (target : Target) where
  pub number_accounts : (n : ℕ) (suffix : Suffix) → TreeAccounts (λ at s. Ok (number target n suffix, s))
  number_accounts n suffix at s r h =
      let x = integer (pos n) (number_type target n suffix) in leaf_stands (λ y. y) s (IsValue x) r (operand_known x.value x.type) h

  pub character_accounts : (byte : ℕ) → TreeAccounts (λ at s. Ok (character target byte, s))
  character_accounts byte at s r h =
      let x = integer (character_value target byte) int.Int in leaf_stands (λ y. y) s (IsValue x) r (operand_known x.value x.type) h

  string_by : (b : Bool) (at : ℕ) (bytes : List ℕ) (s : State) (r : TypedExpr × State) →
      (if b then answer (string_place s bytes) (with_declared (string_object target at bytes) s) else whole at s (Err rule.ArrayBound)) ≡ Ok r → Stands s r
  string_by true at bytes s r h =
      stands_is (λ y. y) (λ d. false) s (with_declared (string_object target at bytes) s) (string_place s bytes) r
      (declares_one (λ d. false) (string_object target at bytes) s (λ e. e)) (known_keeps (string_place s bytes) (static_known (length s.names) (object_place (string_type bytes)))) h
  string_by false at bytes s r h = absurd (cc)

  pub string_accounts : (bytes : List ℕ) → TreeAccounts (λ at s. string_found target at bytes s)
  string_accounts bytes at s r h = string_by (is_bound (length bytes + 1)) at bytes s r h

  -- ---- operators on values and places

  pub two_values : (a b : At TreeMeaning) → TreeAccounts a.node → TreeAccounts b.node → (j : Operand → Operand → State → Judged Operand) →
      ((x y z : Operand) (s : State) → TrapsWithoutAccess x → TrapsWithoutAccess y → j x y s ≡ Ok z → KeepsOperand z (λ d. accesses d x.value || accesses d y.value)) →
      TreeAccounts (λ at s. value a s (λ x s. value b s (λ y s. gives at s (j x y s))))
  two_values a b ha hb j f at s r h =
      value_then (Stands s) a ha (λ x s. value b s (λ y s. gives at s (j x y s))) s r
      (λ x kx g. value_then (Stands s) b hb (λ y s. gives at s (j x.0 y s)) x.1 r
      (λ y ky e. given_stands (λ d. accesses d x.0.value || accesses d y.0.value) at s y.1 (j x.0 y.0 y.1) r
      (declares_both (λ d. accesses d x.0.value) (λ d. accesses d y.0.value) s x.1 y.1 kx.declares ky.declares) (λ z q. f x.0 y.0 z y.1 kx.known ky.known q) e) g) h

  pub comma_accounts : (a b : At TreeMeaning) → TreeAccounts a.node → TreeAccounts b.node → TreeAccounts (λ at s. value a s (λ x s. value b s (λ y s. gives at s (comma_of x y))))
  comma_accounts a b ha hb = two_values a b ha hb (λ x y s. comma_of x y) (λ x y z s kx ky e. comma_keeps x y z e)

  binary_is : (s : State) (o : Option Operator) (x y z : Operand) → TrapsWithoutAccess x → TrapsWithoutAccess y → binary_by target (structures_of s) o x y ≡ Ok z → KeepsOperand z (λ d. accesses d x.value || accesses d y.value)
  binary_is s None x y z kx ky h = absurd (cc)
  binary_is s (Some o) x y z kx ky h = binary_keeps target (structures_of s) o x y z kx ky h

  pub binary_accounts : (mark : Mark) (a b : At TreeMeaning) → TreeAccounts a.node → TreeAccounts b.node →
      TreeAccounts (λ at s. value a s (λ x s. value b s (λ y s. gives at s (binary_by target (structures_of s) (operator_of mark) x y))))
  binary_accounts mark a b ha hb =
      two_values a b ha hb (λ x y s. binary_by target (structures_of s) (operator_of mark) x y) (λ x y z s kx ky e. binary_is s (operator_of mark) x y z kx ky e)

  pub choose_accounts : (c a b : At TreeMeaning) → TreeAccounts c.node → TreeAccounts a.node → TreeAccounts b.node →
      TreeAccounts (λ at s. value c s (λ c s. value a s (λ x s. value b s (λ y s. gives at s (choose_of target c x y)))))
  choose_accounts c a b hc ha hb at s r h =
      value_then (Stands s) c hc (λ c s. value a s (λ x s. value b s (λ y s. gives at s (choose_of target c x y)))) s r
      (λ w kw f. value_then (Stands s) a ha (λ x s. value b s (λ y s. gives at s (choose_of target w.0 x y))) w.1 r
      (λ x kx g. value_then (Stands s) b hb (λ y s. gives at s (choose_of target w.0 x.0 y)) x.1 r
      (λ y ky e. given_stands (λ d. accesses d w.0.value || (accesses d x.0.value || accesses d y.0.value)) at s y.1 (choose_of target w.0 x.0 y.0) r
      (declares_both (λ d. accesses d w.0.value) (λ d. accesses d x.0.value || accesses d y.0.value) s w.1 y.1 kw.declares
      (declares_both (λ d. accesses d x.0.value) (λ d. accesses d y.0.value) w.1 x.1 y.1 kx.declares ky.declares))
      (λ z q. choose_keeps target w.0 x.0 y.0 z kw.known kx.known ky.known q) e) g) f) h

  pub assign_accounts : (mark : Mark) (a b : At TreeMeaning) → TreeAccounts a.node → TreeAccounts b.node →
      TreeAccounts (λ at s. designator a s (λ x s. value b s (λ y s. gives at s (assign_of target (structures_of s) mark x y))))
  assign_accounts mark a b ha hb at s r h =
      designator_then (Stands s) a ha (λ x s. value b s (λ y s. gives at s (assign_of target (structures_of s) mark x y))) s r
      (λ x kx g. value_then (Stands s) b hb (λ y s. gives at s (assign_of target (structures_of s) mark x.0 y)) x.1 r
      (λ y ky e. given_stands (λ d. designated_accesses d x.0 || accesses d y.0.value) at s y.1 (assign_of target (structures_of y.1) mark x.0 y.0) r
      (declares_both (λ d. designated_accesses d x.0) (λ d. accesses d y.0.value) s x.1 y.1 kx.declares ky.declares) (λ z q. assign_keeps target (structures_of y.1) mark x.0 y.0 z q) e) g) h

  pub postfix_accounts : (mark : Mark) (e : At TreeMeaning) → TreeAccounts e.node → TreeAccounts (λ at s. designator e s (λ x s. gives at s (stepped_after (structures_of s) (is_minus mark) x)))
  postfix_accounts mark e he at s r h =
      designator_then (Stands s) e he (λ x s. gives at s (stepped_after (structures_of s) (is_minus mark) x)) s r
      (λ x k f. given_stands (λ d. designated_accesses d x.0) at s x.1 (stepped_after (structures_of x.1) (is_minus mark) x.0) r k.declares (λ z q. after_keeps (structures_of x.1) (is_minus mark) x.0 z q) f) h

  -- ---- devices

  pointed_stands : (at inner : ℕ) (x : TypedExpr) (s t : State) (r : TypedExpr × State) → Stands s (x, t) → and_then (valued inner x t) (λ p s. whole at s (indirection p)) ≡ Ok r → Stands s r
  pointed_stands at inner x s t r k h =
      let p = then_found (valued inner x t) (λ p s. whole at s (indirection p)) r h in
      let v = valued_stands inner x s t p.0 k p.1 in
      whole_stands (λ y. y) (λ d. accesses d p.0.0.value) at s p.0.1 (indirection p.0.0) r v.declares (λ z e. indirection_keeps p.0.0 z e) p.2

  null_device : (at : ℕ) (n : ℤ) (t : CType) (s u : State) (r : TypedExpr × State) → Declares (λ d. false) s u → whole at u (no_device n t) ≡ Ok r → Stands s r
  null_device at n t s u r m h =
      let p = null t in
      whole_stands (λ y. y) (λ d. false) at s u (no_device n t) r m
      (λ z e.
      let k = indirection_keeps p z (must_ok (int_eq n (pos 0)) rule.Device (indirection p) z e).1 in
      known_keeps z k.known) h

  -- the device itself
  is_itself : (n : ℕ) → of_place (place_access n (DeviceAt n)) ≡ true
  is_itself n = ap of_place (place_access_is n (DeviceAt n) (one.Device n) (rolls-Device n)) ∙ or_left (nat_eq n n) false (eq-eqb n n refl)

  with_device_stands : (d : Device) (s u : State) (o : Option ℕ) (r : TypedExpr × State) → Declares (λ d. false) s u → answer (with_device d u o).0 (with_device d u o).1 ≡ Ok r → Stands s r
  with_device_stands d s u (Some i) r m h = stands_is (λ y. y) (λ d. false) s u (device_place i d) r m (known_keeps (device_place i d) (λ e f. tt)) h
  with_device_stands d s u None r m h =
      let x = device_place (length u.names) d in
      let front = λ (e : ℕ). designated_accesses e x in
      let t = with_declared (declared_device d) u in
      stands_is (λ y. y) front s t x r (declares_behind front s u t m (declares_one front (declared_device d) u (λ e. is_itself (length u.names)))) (record { known = λ e f. tt; kept = λ e f. f }) h

  device_by : (b : Bool) (at : ℕ) (d : Device) (s u : State) (r : TypedExpr × State) → Declares (λ d. false) s u → (if b then Ok (with_device d u (number_of d u.names)) else whole at u (Err rule.Device)) ≡ Ok r → Stands s r
  device_by true at d s u r m h = with_device_stands d s u (number_of d u.names) r m h
  device_by false at d s u r m h = absurd (cc)

  volatile_by : (b : Bool) (at : ℕ) (n : ℤ) (t : CType) (d : Device) (s u : State) (r : TypedExpr × State) → Declares (λ d. false) s u → (if b then device_found target at n d u else whole at u (no_device n t)) ≡ Ok r → Stands s r
  volatile_by true at n t d s u r m h = device_by (fits_pointer target n) at d s u r m h
  volatile_by false at n t d s u r m h = null_device at n t s u r m h

  register_stands : (at : ℕ) (n : ℤ) (t : CType) (s u : State) (to : CType) (k : shape.Shape-F Shape CType Sig) (r : TypedExpr × State) → Declares (λ d. false) s u → register_found target at n t u to k ≡ Ok r → Stands s r
  register_stands at n t s u to (shape.Int i) r m h = volatile_by to.volatile at n t (device_of n to.constant i) s u r m h
  register_stands at n t s u to (shape.Pointer v) r m h = null_device at n t s u r m h
  register_stands at n t s u to (shape.Array of c) r m h = null_device at n t s u r m h
  register_stands at n t s u to (shape.Struct i) r m h = null_device at n t s u r m h
  register_stands at n t s u to (shape.Func sig) r m h = null_device at n t s u r m h
  register_stands at n t s u to shape.Void r m h = null_device at n t s u r m h

  address_stands : (at : ℕ) (n : ℤ) (t : CType) (s u : State) (k : shape.Shape-F Shape CType Sig) (r : TypedExpr × State) → Declares (λ d. false) s u → address_found target at n t u k ≡ Ok r → Stands s r
  address_stands at n t s u (shape.Pointer to) r m h = register_stands at n t s u to (out-Shape to.shape) r m h
  address_stands at n t s u (shape.Int i) r m h = absurd (cc)
  address_stands at n t s u (shape.Array of c) r m h = absurd (cc)
  address_stands at n t s u (shape.Struct i) r m h = absurd (cc)
  address_stands at n t s u (shape.Func sig) r m h = absurd (cc)
  address_stands at n t s u shape.Void r m h = absurd (cc)

  starred_stands : (at inner : ℕ) (x : TypedExpr) (s u : State) (r : TypedExpr × State) → Stands s (x, u) → starred target at inner x u ≡ Ok r → Stands s r
  starred_stands at inner (IsPlace a t) s u r k h = pointed_stands at inner (IsPlace a t) s u r k h
  starred_stands at inner (IsValue x) s u r k h = pointed_stands at inner (IsValue x) s u r k h
  starred_stands at inner (IsFunction f sig) s u r k h = pointed_stands at inner (IsFunction f sig) s u r k h
  starred_stands at inner (IsIntrinsic i place) s u r k h = pointed_stands at inner (IsIntrinsic i place) s u r k h
  starred_stands at inner (IsAddress n t place) s u r k h = address_stands at n t s u (out-Shape t.shape) r k.declares h

  -- ---- prefixes

  unary_is : (o : Option UnaryOperator) (x r : Operand) → TrapsWithoutAccess x → unary_by target o x ≡ Ok r → KeepsOperand r (λ d. accesses d x.value)
  unary_is None x r kx h = absurd (cc)
  unary_is (Some o) x r kx h = unary_keeps target o x r kx h

  prefix_stands : (mark : Mark) (at inner : ℕ) (x : TypedExpr) (s u : State) (p : Prefix) (r : TypedExpr × State) → Stands s (x, u) → prefixed_by target mark at inner x u p ≡ Ok r → Stands s r
  prefix_stands mark at inner x s u prefix.Star r k h = starred_stands at inner x s u r k h
  prefix_stands mark at inner x s u prefix.Amp r k h =
      let y = then_found (designating x u) (λ x s. gives at s (address x)) r h in
      let v = designating_stands x s u y.0 k y.1 in
      given_stands (λ d. designated_accesses d y.0.0) at s y.0.1 (address y.0.0) r v.declares (λ z e. address_keeps y.0.0 z v.known e) y.2
  prefix_stands mark at inner x s u (prefix.Step down) r k h =
      let y = then_found (designating x u) (λ x s. gives at s (stepped_before target (structures_of s) down x)) r h in
      let v = designating_stands x s u y.0 k y.1 in
      given_stands (λ d. designated_accesses d y.0.0) at s y.0.1 (stepped_before target (structures_of y.0.1) down y.0.0) r v.declares (λ z e. before_keeps target (structures_of y.0.1) down y.0.0 z e) y.2
  prefix_stands mark at inner x s u prefix.OnValue r k h =
      let y = then_found (valued inner x u) (λ x s. gives at s (unary_by target (unary_operator_of mark) x)) r h in
      let v = valued_stands inner x s u y.0 k y.1 in
      given_stands (λ d. accesses d y.0.0.value) at s y.0.1 (unary_by target (unary_operator_of mark) y.0.0) r v.declares (λ z e. unary_is (unary_operator_of mark) y.0.0 z v.known e) y.2

  pub prefixed_accounts : (mark : Mark) (e : At TreeMeaning) → TreeAccounts e.node → TreeAccounts (λ at s. and_then (e.node e.at s) (prefixed target mark at e.at))
  prefixed_accounts mark e he at s r h =
      let x = then_found (e.node e.at s) (prefixed target mark at e.at) r h in
      prefix_stands mark at e.at x.0.0 s x.0.1 (prefix_of mark) r (he e.at s x.0 x.1) x.2

  -- ---- sizes

  size_if : (s : State) (t : CType) (r : Operand) → size_of_type target s t ≡ Ok r → TrapsWithoutAccess r
  size_if s t r h =
      let n = size_of target (structures_of s) (layouts_of s) t in
      size_known target n r (must_ok (is_complete (structures_of s) t) rule.SizeOf (size_value target n) r h).1

  place_size : (s : State) (t : PlaceType) (r : Operand) → size_of_place target s t ≡ Ok r → TrapsWithoutAccess r
  place_size s (ObjectPlace c w t) r h = size_if s t r h
  place_size s (DevicePlace c t) r h = size_known target (bytes_of t target) r h
  place_size s (FunctionPlace sig) r h = absurd (cc)

  unfinished_size : (s : State) (b : Bool) (t : PlaceType) (r : Operand) → (if b then Err rule.SizeOf else size_of_place target s t) ≡ Ok r → TrapsWithoutAccess r
  unfinished_size s true t r h = absurd (cc)
  unfinished_size s false t r h = place_size s t r h

  size_is : (s : State) (x : TypedExpr) (r : Operand) → sizeof_judged target s x ≡ Ok r → TrapsWithoutAccess r
  size_is s (IsPlace a t) r h = unfinished_size s (is_unfinished a s) t r h
  size_is s (IsValue x) r h = size_if s (type_of_value x.type) r h
  size_is s (IsFunction f sig) r h = absurd (cc)
  size_is s (IsIntrinsic i place) r h = absurd (cc)
  size_is s (IsAddress n t place) r h = size_if s t r h

  pub sizeof_accounts : (e : At TreeMeaning) → TreeAccounts e.node → TreeAccounts (λ at s. designator e s (sizeof_found target at (length s.names)))
  sizeof_accounts e he at s r h =
      designator_then (Stands s) e he (sizeof_found target at (length s.names)) s r
      (λ x k f. forgotten_stands at s x.1 k.declares.added (sizeof_judged target x.1 x.0) r k.declares.names (λ y q. size_is x.1 x.0 y q) f) h

  pub sizeof_type_accounts : (t : TypeNameMeaning) → TypeNameDeclares t → TreeAccounts (λ at s. and_then (t false s) (sizeof_type_found target at (length s.names)))
  sizeof_type_accounts t ht at s r h =
      let a = then_found (t false s) (sizeof_type_found target at (length s.names)) r h in
      let k = ht false s a.0 a.1 in
      forgotten_stands at s a.0.1 k.added (size_of_type target a.0.1 a.0.0) r k.names (λ y q. size_if a.0.1 a.0.0 y q) a.2

  -- ---- casts

  pub cast_accounts : (t : TypeNameMeaning) (e : At TreeMeaning) → TypeNameDeclares t → TreeAccounts e.node →
      TreeAccounts (λ at s. and_then (t true s) (λ t s. value e s (λ x s. whole at s (cast_of target at t x))))
  cast_accounts t e ht he at s r h =
      let u = then_found (t true s) (λ t s. value e s (λ x s. whole at s (cast_of target at t x))) r h in
      stands_behind s u.0.1 r (ht true s u.0 u.1)
      (value_then (Stands u.0.1) e he (λ x s. whole at s (cast_of target at u.0.0 x)) u.0.1 r
      (λ x k f. whole_stands (λ y. y) (λ d. accesses d x.0.value) at u.0.1 x.1 (cast_of target at u.0.0 x.0) r k.declares (λ z q. written_cast_keeps target at u.0.0 x.0 z k.known q) f) u.2)

  -- ---- subscripts, calls and members

  as_value_stands : (at : ℕ) (x : TypedExpr) (s u : State) (r : TypedExpr × State) → Stands s (x, u) → as_value at x u ≡ Ok r → Stands s r
  as_value_stands at x s u r k h =
      let y = then_found (valued at x u) (λ y s. answer (IsValue y) s) r h in
      subst (Stands s) (found_is (IsValue y.0.0, y.0.1) r y.2) (valued_stands at x s u y.0 k y.1)

  base_by : (b : Bool) (at : ℕ) (x : TypedExpr) (s u : State) (r : TypedExpr × State) → Stands s (x, u) → (if b then answer x u else as_value at x u) ≡ Ok r → Stands s r
  base_by true at x s u r k h = subst (Stands s) (found_is (x, u) r h) k
  base_by false at x s u r k h = as_value_stands at x s u r k h

  subscript_is : (s : State) (x : TypedExpr) (i : Operand) (r : TypedExpr) → IsKnownPlace x → subscript_judged (structures_of s) x i ≡ Ok r → KeepsDesignated r (λ d. designated_accesses d x || accesses d i.value)
  subscript_is s (IsPlace a t) i r k h = element_keeps a t i r k h
  subscript_is s (IsValue x) i r k h = subscript_keeps (structures_of s) x i r h
  subscript_is s (IsFunction f sig) i r k h = absurd (cc)
  subscript_is s (IsIntrinsic j place) i r k h = absurd (cc)
  subscript_is s (IsAddress n t place) i r k h = absurd (cc)

  pub subscript_accounts : (a i : At TreeMeaning) → TreeAccounts a.node → TreeAccounts i.node →
      TreeAccounts (λ at s. and_then (a.node a.at s) (λ x s. and_then (subscript_base a.at x s) (λ x s. value i s (λ y s. whole at s (subscript_judged (structures_of s) x y)))))
  subscript_accounts a i ha hi at s r h =
      let q = then_found (a.node a.at s) (λ x s. and_then (subscript_base a.at x s) (λ x s. value i s (λ y s. whole at s (subscript_judged (structures_of s) x y)))) r h in
      let x = then_found (subscript_base a.at q.0.0 q.0.1) (λ x s. value i s (λ y s. whole at s (subscript_judged (structures_of s) x y))) r q.2 in
      let kx = base_by (is_array_place q.0.0) a.at q.0.0 s q.0.1 x.0 (ha a.at s q.0 q.1) x.1 in
      value_then (Stands s) i hi (λ y s. whole at s (subscript_judged (structures_of s) x.0.0 y)) x.0.1 r
      (λ y ky f. whole_stands (λ z. z) (λ d. designated_accesses d x.0.0 || accesses d y.0.value) at s y.1 (subscript_judged (structures_of y.1) x.0.0 y.0) r
      (declares_both (λ d. designated_accesses d x.0.0) (λ d. accesses d y.0.value) s x.0.1 y.1 kx.declares ky.declares) (λ z e. subscript_is y.1 x.0.0 y.0 z kx.known e) f) x.2

  callee_stands : (at : ℕ) (x : TypedExpr) (s u : State) (o : Option Intr) (r : TypedExpr × State) → Stands s (x, u) → callee_by at x u o ≡ Ok r → Stands s r
  callee_stands at x s u (Some i) r k h = subst (Stands s) (found_is (x, u) r h) k
  callee_stands at x s u None r k h = as_value_stands at x s u r k h

  arguments_declare : (args : List (At TreeMeaning)) → Each (λ (a : At TreeMeaning). TreeAccounts a.node) args → (front : List Operand) (s t : State) (r : List Operand × State) →
      Declares (arguments_access front) s t → in_turn argument_found args front t ≡ Ok r → Declares (arguments_access r.0) s r.1
  arguments_declare [] h front s t r m e = subst (λ (y : List Operand × State). Declares (arguments_access y.0) s y.1) (found_is (front, t) r e) m
  arguments_declare (a ∷ args) h front s t r m e =
      let w = then_found (argument_found a front t) (in_turn argument_found args) r e in
      let x = then_found (value_found a t) (λ x s. answer (front ++ x ∷ []) s) w.0 w.1 in
      let xs = front ++ x.0.0 ∷ [] in
      let both = declares_through (arguments_access front) (λ d. accesses d x.0.0.value) (arguments_access xs) s t x.0.1 (λ d k. any_in_front d front x.0.0 k) (λ d k. any_behind d front x.0.0 k) m (value_stands a h.0 t x.0 x.1).declares in
      arguments_declare args h.1 w.0.0 s w.0.1 r (subst (λ (y : List Operand × State). Declares (arguments_access y.0) s y.1) (found_is (xs, x.0.1) w.0 x.2) both) w.2

  call_is : (x : TypedExpr) (xs : List Operand) (r : Operand) → call_judged target x xs ≡ Ok r → KeepsOperand r (λ d. designated_accesses d x || arguments_access xs d)
  call_is (IsIntrinsic i place) xs r e = intrinsic_keeps target i xs r e
  call_is (IsValue f) xs r e = called_keeps target f xs r e
  call_is (IsPlace a t) xs r e = absurd (cc)
  call_is (IsFunction f sig) xs r e = absurd (cc)
  call_is (IsAddress n t place) xs r e = absurd (cc)

  pub call_accounts : (f : At TreeMeaning) (args : List (At TreeMeaning)) → TreeAccounts f.node → Each (λ (a : At TreeMeaning). TreeAccounts a.node) args →
      TreeAccounts (λ at s. and_then (f.node f.at s) (λ x s. and_then (callee f.at x s) (λ x s. and_then (arguments_found args s) (λ xs s. gives at s (call_judged target x xs)))))
  call_accounts f args hf ha at s r h =
      let q = then_found (f.node f.at s) (λ x s. and_then (callee f.at x s) (λ x s. and_then (arguments_found args s) (λ xs s. gives at s (call_judged target x xs)))) r h in
      let x = then_found (callee f.at q.0.0 q.0.1) (λ x s. and_then (arguments_found args s) (λ xs s. gives at s (call_judged target x xs))) r q.2 in
      let xs = then_found (arguments_found args x.0.1) (λ xs s. gives at s (call_judged target x.0.0 xs)) r x.2 in
      let kx = callee_stands f.at q.0.0 s q.0.1 (intrinsic_in q.0.0) x.0 (hf f.at s q.0 q.1) x.1 in
      let ks = arguments_declare args ha [] x.0.1 x.0.1 xs.0 (declares_itself (arguments_access []) x.0.1 x.0.1 refl) xs.1 in
      given_stands (λ d. designated_accesses d x.0.0 || arguments_access xs.0.0 d) at s xs.0.1 (call_judged target x.0.0 xs.0.0) r
      (declares_both (λ d. designated_accesses d x.0.0) (arguments_access xs.0.0) s x.0.1 xs.0.1 kx.declares ks) (λ y e. call_is x.0.0 xs.0.0 y e) xs.2

  pub member_accounts : (e : At TreeMeaning) (x : Name) → TreeAccounts e.node → TreeAccounts (λ at s. designator e s (λ y s. whole at s (dot (structures_of s) x y)))
  member_accounts e x he at s r h =
      designator_then (Stands s) e he (λ y s. whole at s (dot (structures_of s) x y)) s r
      (λ y k f. whole_stands (λ z. z) (λ d. designated_accesses d y.0) at s y.1 (dot (structures_of y.1) x y.0) r k.declares (λ z q. dot_keeps (structures_of y.1) x y.0 z k.known q) f) h

  pub arrow_accounts : (e : At TreeMeaning) (x : Name) → TreeAccounts e.node → TreeAccounts (λ at s. value e s (λ y s. whole at s (arrow (structures_of s) x y)))
  arrow_accounts e x he at s r h =
      value_then (Stands s) e he (λ y s. whole at s (arrow (structures_of s) x y)) s r
      (λ y k f. whole_stands (λ z. z) (λ d. accesses d y.0.value) at s y.1 (arrow (structures_of y.1) x y.0) r k.declares (λ z q. arrow_keeps (structures_of y.1) x y.0 z q) f) h
