-- What is called in normal form is a function of the program, where facts are of its shape.
use Rattle.std.proofs.Common.{◌≡◌, ◌<◌, ℕ, true, true≢false, Option, Some, None, length, Contains, refl, ap, sym, subst, ◌∙◌, slice_get}
use Rattle.std.specs.Prelude.{option_and_then, position, ◌==◌}
use Rattle.std.proofs.lemmas.Option.{same_Some, none-some, slice_get_within}
use Rattle.cc_state_points.specs.CcFlow.declared.types.Point.{Point}
use Rattle.cc_state_points.specs.CcPlaces.declared.abs.Abs.{Abs}
use Rattle.cc_state_points.specs.CcPlaces.declared.abs.Abs.TheVariants as abs
use Rattle.cc_state_points.specs.CcPlaces.declared.addrs.Addrs.{Addrs}
use Rattle.cc_state_points.specs.CcPlaces.Abstract.{HasValue}
use Rattle.cc_state_points.specs.CcPlaces.Kept.{member_for}
use Rattle.cc_program.specs.declared.expr.Expr.{Expr, out-Expr}
use Rattle.cc_program.specs.declared.expr.Expr.TheOpen as one
use Rattle.cc_program.specs.declared.expr.Place.{Place}
use Rattle.cc_program.specs.declared.func.Func.{Func}
use Rattle.cc_program.specs.declared.program.Program.{Program}
use Rattle.cc_program.specs.declared.value.Address.TheVariants as address
use Rattle.cc_program.specs.declared.value.Value.TheVariants as value
use Rattle.cc_rules_calls.proofs.Callees.{IsCalled}
use Rattle.cc_rules_calls.proofs.CalledLemmas.{same_member}
use Rattle.cc_rules_calls.specs.Here.{MayCallHere}
use Rattle.cc_state_points.specs.CcRulesFlows.declared.after.Here.{Here}
use Rattle.cc_state_points.specs.CcRulesFlows.Acts.{Act, Sets, Reads, Writes, Calls, Saves, Turns, Restores, Tests, Chooses, Returns, Passes}
use Rattle.cc_state_points.specs.CcRulesFlows.Here.{IsHere}
use Rattle.cc_state_points.specs.CcRulesFlows.Nexts.{IsPoint}
use Rattle.cc_state_points.proofs.CcState.Sets.{its_shape}
use Rattle.cc_state_points.specs.CcState.Points.{IsPointOf}
use Rattle.cc_state_points.specs.CcState.Shape.{HoldsPointers, IsSetIn, HaveShape}
use Rattle.cc_state_points.specs.CcStateOperators.Addresses.{IsOnly}
use Rattle.cc_state_points.specs.CcStateOperators.Domains.{Domain}
use Rattle.cc_state_points.specs.Operands.{AreOperands}
use Rattle.cc_state_points.proofs.CcStateValues.Parts.{typed_as}
use Rattle.cc_state_points.specs.CcStateValues.Contexts.{IsValIn, set_in}
use Rattle.cc_state_points.specs.CcStateValues.Values.{OfConst, OfNull, OfFunction, OfRegister, OfAddress, OfUn, OfBin, OfConv, OfQualify, OfMove, OfGap, OfCompare, OfBoth, OfEither, OfChoose}
use Rattle.cc_state_points.specs.CcSyntax.Forms.{form_at}
use Rattle.cc_state_points.specs.CcSyntax.Normal.{is_callee}
use Rattle.cc_state_points.specs.CcSyntax.Operators.{function_type}
use Rattle.cc_state_points.specs.CcSyntax.Programs.{type_of}
use Rattle.cc_state_points.specs.CcSyntax.Values.{ValueType, NoValue, Integer, ToObject, ToFunction, is_assignable_some}

function_there : (o : Option Func) (t : ValueType) → function_type o ≡ Some t → (f : Func) × (o ≡ Some f)
function_there None t e = absurd (none-some t e)
function_there (Some f) t e = (f, refl)

assigned_there : (to : ValueType) (o : Option Func) → is_assignable_some (Some to) (function_type o) ≡ true → (f : Func) × (o ≡ Some f)
assigned_there to None e = absurd (true≢false (sym e))
assigned_there to (Some f) e = (f, refl)

then_there : {A B : Type 0} (f : A → Option B) (a : Option A) (w : B) → option_and_then f a ≡ Some w → (x : A) × (a ≡ Some x) × (f x ≡ Some w)
then_there f None w h = absurd (none-some w h)
then_there f (Some x) w h = (x, refl, h)

point_of : (p : Program) (n id : ℕ) (f : Func) (q : Point) → IsPoint p n id f q → IsPointOf p n q f
point_of p n id f q is = record { numbered = is.numbered; function = ap (slice_get p.funcs) is.own ∙ is.function }

module _ {I : Type 0} (d : Domain I) (p : Program) where
  -- it has no address of a function but of those of the program
  abbrev IsInRange : Abs I → Type 0
  IsInRange y = (h : ℕ) → HasValue d.has y (value.Place (address.Func h)) → h < length p.funcs

  same_function : (n h : ℕ) → address.Func n ≡ address.Func h → n ≡ h
  same_function n h e = cc

  of_one : (n : ℕ) (s : Addrs) → n < length p.funcs → IsOnly (address.Func n) s → IsInRange (abs.Addrs s)
  of_one n s l only h v =
      let w = (only.has (address.Func h)).0 v in
      let same : address.Func n ≡ address.Func h = sym (same_member s.is_exact n) ∙ (ap (member_for s.is_exact) (sym w.1) ∙ (w.2 ∙ same_member s.is_exact h)) in
      subst (λ m. m < length p.funcs) (same_function n h same) l

  held : (t : ValueType) (s : Addrs) (h : ℕ) → HoldsPointers p t s → Contains s.members (address.Func h) → (f : Func) × (slice_get p.funcs h ≡ Some f)
  held NoValue s h k c = absurd k
  held (Integer i) s h k c = absurd k
  held (ToObject constant volatile to) s h k c = assigned_there (ToObject constant volatile to) (slice_get p.funcs h) (k (address.Func h) c)
  held (ToFunction sig) s h k c = assigned_there (ToFunction sig) (slice_get p.funcs h) (k (address.Func h) c)

  of_shape : (t : ValueType) (y : Abs I) → IsSetIn p d t y → IsInRange y
  of_shape t (abs.Ints x) k h v = absurd v
  of_shape t (abs.Addrs s) k h v =
      let f = held t s h k (subst (Contains s.members) (same_member s.is_exact h) v) in
      slice_get_within p.funcs h f.0 f.1

module _ {I : Type 0} (d : Domain I) (here : Here I) where
  -- how the value of what is called comes about
  abbrev ValueAt : one.Expr-F Expr Place → Abs I → Type 0
  ValueAt (one.FuncAddr g) y = (s : Addrs) × IsOnly (address.Func g) s × (y ≡ abs.Addrs s)
  ValueAt (one.Load a) y = (r : ℕ) × (set_in here.context r ≡ Some y)
  ValueAt _ y = Unit {0}

  value_at : (e : Expr) (y : Abs I) → IsValIn d here.context e y → ValueAt (out-Expr e) y
  value_at e y (OfConst n t x h k l) = subst (λ z. ValueAt z y) (sym h) tt
  value_at e y (OfNull t s h k l) = subst (λ z. ValueAt z y) (sym h) tt
  value_at e y (OfFunction g s h k l) = subst (λ z. ValueAt z y) (sym h) (s, k, l)
  value_at e y (OfRegister a r h k l) = subst (λ z. ValueAt z y) (sym h) (r, l)
  value_at e y (OfAddress a s h k l) = subst (λ z. ValueAt z y) (sym h) tt
  value_at e y (OfUn q t a x z h k w g l) = subst (λ z. ValueAt z y) (sym h) tt
  value_at e y (OfBin q t a b x w z h k m v g l) = subst (λ z. ValueAt z y) (sym h) tt
  value_at e y (OfConv t a x z h k g l) = subst (λ z. ValueAt z y) (sym h) tt
  value_at e y (OfQualify t a h k) = subst (λ z. ValueAt z y) (sym h) tt
  value_at e y (OfMove a b back s r x h k m g l) = subst (λ z. ValueAt z y) (sym h) tt
  value_at e y (OfGap a b s t x h k m g l) = subst (λ z. ValueAt z y) (sym h) tt
  value_at e y (OfCompare q a b s t x h k m g l) = subst (λ z. ValueAt z y) (sym h) tt
  value_at e y (OfBoth a b x w z h k m g l) = subst (λ z. ValueAt z y) (sym h) tt
  value_at e y (OfEither a b x w z h k m g l) = subst (λ z. ValueAt z y) (sym h) tt
  value_at e y (OfChoose c a b x u w h k m n g) = subst (λ z. ValueAt z y) (sym h) tt

  module _ (shape : HaveShape d here.context.program.now here.facts.now) (h : IsHere d here) (is : IsPoint here.context.program.now here.number here.context.id here.context.func.now here.point.now) where
    register_in_range : (r : ℕ) (y : Abs I) → set_in here.context r ≡ Some y → IsInRange d here.context.program.now y
    register_in_range r y e =
        let w = then_there (slice_get here.context.sets.now) (position (λ q. q == r) here.context.registers.now) y e in
        let at : slice_get here.fact.now.locals w.0 ≡ Some y = ap (λ xs. slice_get xs w.0) (sym h.sets) ∙ w.2 in
        let known = its_shape d here.context.program.now here.facts.now shape here.number here.point.now here.context.func.now
        (point_of here.context.program.now here.number here.context.id here.context.func.now here.point.now is) here.fact.now h.reached in
        let set = known.locals.there w.0 (subst (λ n. w.0 < n) known.local_count (slice_get_within here.fact.now.locals w.0 y at)) in
        let same : set.1 ≡ y = same_Some set.1 y (sym set.2.1 ∙ at) in
        subst (IsInRange d here.context.program.now) same (of_shape d here.context.program.now set.0 set.1 set.2.2)

    callee_in_range : (g : Expr) (x : one.Expr-F Expr Place) (t : ValueType) → out-Expr g ≡ x → is_callee here.context.program.now.target here.context.func.now (form_at x) ≡ true →
        type_of here.context.program.now here.context.func.now.locals g ≡ Some t → (y : Abs I) → ValueAt x y → IsInRange d here.context.program.now y
    callee_in_range g (one.FuncAddr n) t i c typed y v =
        let f = function_there (slice_get here.context.program.now.funcs n) t (typed_as here.context.program.now here.context.func.now g (one.FuncAddr n) t i typed) in
        subst (IsInRange d here.context.program.now) (sym v.2) (of_one d here.context.program.now n v.0 (slice_get_within here.context.program.now.funcs n f.0 f.1) v.1)
    callee_in_range g (one.Load a) t i c typed y v = register_in_range v.0 y v.1
    callee_in_range g (one.Const z u) t i c typed y v = absurd (true≢false (sym c))
    callee_in_range g (one.Null u) t i c typed y v = absurd (true≢false (sym c))
    callee_in_range g (one.AddrOf a) t i c typed y v = absurd (true≢false (sym c))
    callee_in_range g (one.Un z u a) t i c typed y v = absurd (true≢false (sym c))
    callee_in_range g (one.Bin z u a b) t i c typed y v = absurd (true≢false (sym c))
    callee_in_range g (one.Conv u a) t i c typed y v = absurd (true≢false (sym c))
    callee_in_range g (one.Qualify u a) t i c typed y v = absurd (true≢false (sym c))
    callee_in_range g (one.Move a b back) t i c typed y v = absurd (true≢false (sym c))
    callee_in_range g (one.Gap a b) t i c typed y v = absurd (true≢false (sym c))
    callee_in_range g (one.Compare z a b) t i c typed y v = absurd (true≢false (sym c))
    callee_in_range g (one.Both a b) t i c typed y v = absurd (true≢false (sym c))
    callee_in_range g (one.Either a b) t i c typed y v = absurd (true≢false (sym c))
    callee_in_range g (one.Choose z a b) t i c typed y v = absurd (true≢false (sym c))
    callee_in_range g (one.Assign a x) t i c typed y v = absurd (true≢false (sym c))
    callee_in_range g (one.Change a z u x) t i c typed y v = absurd (true≢false (sym c))
    callee_in_range g (one.After a down) t i c typed y v = absurd (true≢false (sym c))
    callee_in_range g (one.Call w args) t i c typed y v = absurd (true≢false (sym c))
    callee_in_range g (one.Intr w a) t i c typed y v = absurd (true≢false (sym c))
    callee_in_range g (one.Seq a b) t i c typed y v = absurd (true≢false (sym c))

    pub may_call : (act : Act) → AreOperands here.context.program.now here.context.func.now act → IsCalled here.context.program.now here.context.func.now act → MayCallHere d here act
    may_call (Calls result g args) o c = λ y n v has. callee_in_range g (out-Expr g) (ToFunction o.1.sig) refl c o.1.is_function y (value_at g y v) n has
    may_call (Sets r e) o c = tt
    may_call (Reads r a) o c = tt
    may_call (Writes a e) o c = tt
    may_call (Saves result) o c = tt
    may_call (Turns on) o c = tt
    may_call (Restores e) o c = tt
    may_call (Tests e these those) o c = tt
    may_call (Chooses e cases) o c = tt
    may_call (Returns e) o c = tt
    may_call Passes o c = tt
