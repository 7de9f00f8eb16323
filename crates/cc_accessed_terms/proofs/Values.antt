-- What the values of expressions account for, and what expressions are taken as.
use Rattle.std.proofs.Common.{◌≡◌, ℕ, ℤ, pos, Bool, true, false, List, ◌++◌, length, Ok, Err, refl, ap, ◌∙◌, subst, take_at}
use Rattle.std.specs.Ordering.{int_eq}
use Rattle.std.specs.Prelude.{take, if◌then◌else◌}
use Rattle.cc_terms.specs.CcDesignators.Designators.{TypedExpr, IsPlace, IsValue, IsFunction, IsIntrinsic, IsAddress, value_at, null}
use Rattle.cc_terms.specs.CcOperands.Operands.{Operand, operand, constancy}
use Rattle.cc_terms.specs.CcOperands.Verdicts.{Judged}
use Rattle.cc_terms.specs.CcOperands.declared.rule.Rule.TheVariants as rule
use Rattle.cc_program.specs.declared.expr.Expr.{FuncAddr}
use Rattle.cc_program.specs.declared.types.CType.{CType}
use Rattle.cc_terms.specs.CcScopes.State.{State, with_names}
use Rattle.cc_terms.specs.CcScopes.Verdicts.{Found, whole, and_then}
use Rattle.cc_terms.specs.CcScopes.declared.unit.Declared.{Declared}
use Rattle.cc_terms.specs.CcSyntax.Folding.{Value}
use Rattle.cc_terms.specs.CcSyntax.Values.{ToFunction}
use Rattle.cc_terms.specs.Meanings.{TreeMeaning}
use Rattle.cc_terms.specs.Operations.{forgotten}
use Rattle.cc_tree.specs.declared.at.At.{At}
use Rattle.cc_terms.specs.CcTypedTerms.Values.{null_judged, gives, valued, value_found, value, designating, designated_found, designator}
use Rattle.cc_accessed_operands.proofs.Designators.{value_keeps}
use Rattle.cc_accessed_operands.proofs.Parts.{operand_known, constant_none}
use Rattle.cc_accessed_operands.proofs.Verdicts.{ok_is}
use Rattle.cc_accessed_operands.specs.Accessed.{accesses, of_place, place_access}
use Rattle.cc_accessed_operands.specs.Kept.{TrapsWithoutAccess, designated_accesses, IsKnownPlace, KeepsDesignated, KeepsOperand}
use Rattle.cc_accessed_terms.proofs.Accounts.{Declares, Nothing, nothing_more, accounts_none, declares_itself, declares_more, declares_behind}
use Rattle.cc_accessed_terms.proofs.Founds.{answer, then_found}

-- what an expression is found to be, behind this state
pub record Stands (s : State) (r : TypedExpr × State) : Type 0 where
  pub known : IsKnownPlace r.0
  pub declares : Declares (λ i. designated_accesses i r.0) s r.1

abbrev pub ValueStands : State → Operand × State → Type 0
ValueStands s r = Stands s (IsValue r.0, r.1)

abbrev pub TreeAccounts : TreeMeaning → Type 0
TreeAccounts m = (at : ℕ) (s : State) (r : TypedExpr × State) → m at s ≡ Ok r → Stands s r

abbrev this : {A : Type 0} → A × State → Found A
this x = Ok x

pub found_is : {A : Type 0} (x r : A × State) → this x ≡ Ok r → x ≡ r
found_is x r h = cc

pub stands_behind : (s t : State) (r : TypedExpr × State) → Nothing s t → Stands t r → Stands s r
stands_behind s t r m k = record { known = k.known; declares = declares_behind (λ i. designated_accesses i r.0) s t r.1 m k.declares }

-- what is found of parts that access these devices
pub stands_is : {A : Type 0} (typed : A → TypedExpr) (front : ℕ → Bool) (s t : State) (x : A) (r : A × State) → Declares front s t → KeepsDesignated (typed x) front → answer x t ≡ Ok r → Stands s (typed r.0, r.1)
stands_is {A = A} typed front s t x r m k h =
    subst (λ (y : A × State). Stands s (typed y.0, y.1)) (found_is (x, t) r h) (record { known = k.known; declares = declares_more front (λ i. designated_accesses i (typed x)) s t k.kept m })

pub whole_stands : {A : Type 0} (typed : A → TypedExpr) (front : ℕ → Bool) (at : ℕ) (s t : State) (judged : Judged A) (r : A × State) → Declares front s t → ((x : A) → judged ≡ Ok x → KeepsDesignated (typed x) front) →
    whole at t judged ≡ Ok r → Stands s (typed r.0, r.1)
whole_stands typed front at s t (Ok x) r m k h = stands_is typed front s t x r m (k x refl) h
whole_stands typed front at s t (Err broken) r m k h = absurd (cc)

pub given_stands : (front : ℕ → Bool) (at : ℕ) (s t : State) (judged : Judged Operand) (r : TypedExpr × State) → Declares front s t → ((x : Operand) → judged ≡ Ok x → KeepsOperand x front) → gives at t judged ≡ Ok r → Stands s r
given_stands front at s t (Ok x) r m k h = stands_is (λ y. y) front s t (IsValue x) r m (k x refl) h
given_stands front at s t (Err broken) r m k h = absurd (cc)

-- what is known of a place, where no part accesses a device
pub known_keeps : (x : TypedExpr) → IsKnownPlace x → KeepsDesignated x (λ d. false)
known_keeps x k = record { known = k; kept = nothing_more (λ d. designated_accesses d x) }

pub leaf_stands : {A : Type 0} (typed : A → TypedExpr) (s : State) (x : A) (r : A × State) → IsKnownPlace (typed x) → answer x s ≡ Ok r → Stands s (typed r.0, r.1)
leaf_stands typed s x r k h = stands_is typed (λ d. false) s s x r (declares_itself (λ d. false) s s refl) (known_keeps (typed x) k) h

-- ---- values

null_by : (b : Bool) (t : CType) (x : Operand) → (if b then Ok (null t) else Err rule.Cast) ≡ Ok x → TrapsWithoutAccess x
null_by true t x h = subst TrapsWithoutAccess (ok_is h) (operand_known (null t).value (null t).type)
null_by false t x h = absurd (cc)

null_keeps : (n : ℤ) (t : CType) (x : Operand) → null_judged n t ≡ Ok x → KeepsOperand x (λ d. false)
null_keeps n t x h = known_keeps (IsValue x) (null_by (int_eq n (pos 0)) t x h)

pub valued_stands : (at : ℕ) (x : TypedExpr) (s t : State) (r : Operand × State) → Stands s (x, t) → valued at x t ≡ Ok r → ValueStands s r
valued_stands at (IsPlace a y) s t r k h = whole_stands IsValue (λ d. of_place (place_access d a)) at s t (value_at a y) r k.declares (λ z e. value_keeps a y z k.known e) h
valued_stands at (IsValue x) s t r k h = subst (λ (y : Operand × State). ValueStands s y) (found_is (x, t) r h) k
valued_stands at (IsFunction f sig) s t r k h =
    let x = operand (FuncAddr f) (ToFunction sig) in stands_is IsValue (λ d. false) s t x r k.declares (known_keeps (IsValue x) (operand_known (FuncAddr f) (ToFunction sig))) h
valued_stands at (IsIntrinsic i place) s t r k h = absurd (cc)
valued_stands at (IsAddress n to place) s t r k h = whole_stands IsValue (λ d. false) place s t (null_judged n to) r k.declares (λ z e. null_keeps n to z e) h

pub value_stands : (e : At TreeMeaning) → TreeAccounts e.node → (s : State) (r : Operand × State) → value_found e s ≡ Ok r → ValueStands s r
value_stands e m s r h = let x = then_found (e.node e.at s) (valued e.at) r h in valued_stands e.at x.0.0 s x.0.1 r (m e.at s x.0 x.1) x.2

-- a constant accesses nothing, so that it declares nothing
pub constant_nothing : (e : At TreeMeaning) → TreeAccounts e.node → (s : State) (r : Operand × State) (n : ℤ) → value_found e s ≡ Ok r → constancy r.0 ≡ Value n → Nothing s r.1
constant_nothing e m s r n h c =
    let k = (value_stands e m s r h).declares in
    record { added = k.added; names = k.names; accounts = accounts_none (λ i. accesses i r.0.value) s r.1 (λ i. constant_none i r.0 n c) k.accounts }

pub designating_stands : (x : TypedExpr) (s t : State) (r : TypedExpr × State) → Stands s (x, t) → designating x t ≡ Ok r → Stands s r
designating_stands (IsPlace a y) s t r k h = subst (Stands s) (found_is (IsPlace a y, t) r h) k
designating_stands (IsValue x) s t r k h = subst (Stands s) (found_is (IsValue x, t) r h) k
designating_stands (IsFunction f sig) s t r k h = subst (Stands s) (found_is (IsFunction f sig, t) r h) k
designating_stands (IsIntrinsic i place) s t r k h = absurd (cc)
designating_stands (IsAddress n to place) s t r k h = given_stands (λ d. false) place s t (null_judged n to) r k.declares (λ z e. null_keeps n to z e) h

pub designator_stands : (e : At TreeMeaning) → TreeAccounts e.node → (s : State) (r : TypedExpr × State) → designated_found e s ≡ Ok r → Stands s r
designator_stands e m s r h = let x = then_found (e.node e.at s) designating r h in designating_stands x.0.0 s x.0.1 r (m e.at s x.0 x.1) x.2

-- ---- a value or a place, and then what stands behind it

pub value_then : {B : Type 0} (P : B × State → Type 0) (e : At TreeMeaning) → TreeAccounts e.node → (next : Operand → State → Found B) (s : State) (r : B × State) →
    ((x : Operand × State) → ValueStands s x → next x.0 x.1 ≡ Ok r → P r) → value e s next ≡ Ok r → P r
value_then P e m next s r f h = let x = then_found (value_found e s) next r h in f x.0 (value_stands e m s x.0 x.1) x.2

pub designator_then : {B : Type 0} (P : B × State → Type 0) (e : At TreeMeaning) → TreeAccounts e.node → (next : TypedExpr → State → Found B) (s : State) (r : B × State) →
    ((x : TypedExpr × State) → Stands s x → next x.0 x.1 ≡ Ok r → P r) → designator e s next ≡ Ok r → P r
designator_then P e m next s r f h = let x = then_found (designated_found e s) next r h in f x.0 (designator_stands e m s x.0 x.1) x.2

-- ---- `sizeof` leaves what stood in front of it

pub forgotten_stands : (at : ℕ) (s t : State) (added : List Declared) (judged : Judged Operand) (r : TypedExpr × State) → t.names ≡ s.names ++ added → ((x : Operand) → judged ≡ Ok x → TrapsWithoutAccess x) →
    and_then (gives at t judged) (forgotten (length s.names)) ≡ Ok r → Stands s r
forgotten_stands at s t added (Ok x) r e f h =
    let back = with_names (take (length s.names) t.names) t in
    let same = ap (take (length s.names)) e ∙ take_at s.names added (length s.names) refl in
    stands_is (λ y. y) (λ d. false) s back (IsValue x) r (declares_itself (λ d. false) s back same) (known_keeps (IsValue x) (f x refl)) h
forgotten_stands at s t added (Err broken) r e f h = absurd (cc)
