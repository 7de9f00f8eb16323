-- The registers of a point's function have the point's sets, each of values of its type, and those that are pointers have addresses of their types.
use Rattle.std.proofs.Common.{arith, ◌≡◌, ◌<◌, ◌^◌, ℕ, true, true≢false, List, length, Option, Some, None, refl, ap, sym, ◌∙◌, subst, slice_get}
use Rattle.std.specs.Prelude.{is_some, option_and_then}
use Rattle.std.specs.List.{Contains}
use Rattle.std.proofs.lemmas.Option.{same_Some, none-some, slice_get_within, get_or_from_slice_get}
use Rattle.cc_flow_sound.specs.CcFlow.declared.types.Point.{Point}
use Rattle.cc_program.specs.CcNum.declared.int_type.IntType.{IntType}
use Rattle.cc_program.proofs.CcNum.ResultLaws.{value_from_test}
use Rattle.cc_state_reads.specs.CcPlaces.declared.abs.Abs.{Abs}
use Rattle.cc_state_reads.specs.CcPlaces.declared.abs.Abs.TheVariants as abs
use Rattle.cc_state_reads.specs.CcPlaces.declared.addrs.Addrs.{Addrs}
use Rattle.cc_program.specs.declared.func.Func.{Func}
use Rattle.cc_program.specs.declared.program.Program.{Program}
use Rattle.cc_program.specs.declared.types.CType.{CType}
use Rattle.cc_program.specs.declared.types.Shape.{Shape, out-Shape}
use Rattle.cc_program.specs.declared.types.Shape.TheOpen as shape
use Rattle.cc_program.specs.declared.types.Sig.{Sig}
use Rattle.cc_program.specs.declared.value.Address.{Address}
use Rattle.cc_program.specs.declared.value.Address.TheVariants as address
use Rattle.cc_state.proofs.Numbered.{register_numbered, register_at, register_below, registers_few}
use Rattle.cc_state.specs.Points.{IsPointOf, HasFunction, HasFewLocals, HaveSetsAt}
use Rattle.cc_state.specs.Shape.{MayPoint, HoldsPointers, IsSetIn, IsPointFact, HaveShape}
use Rattle.cc_state_reads.specs.CcStateFacts.declared.facts.Facts.{Facts}
use Rattle.cc_state_reads.specs.CcStateFacts.declared.facts.PointFact.{PointFact}
use Rattle.cc_state_reads.specs.CcStateFacts.Facts.{fact_at, local_at, local_of, cell_of, cell_at}
use Rattle.cc_state_reads.proofs.CcStateKeys.Typed.{sized, few-locals}
use Rattle.cc_state_reads.specs.CcStateKeys.Tracked.{registers, register_number, tracked}
use Rattle.cc_state_reads.specs.CcStateOperators.Domains.{Domain}
use Rattle.cc_state_reads.specs.CcStateOperators.Types.{AreOf}
use Rattle.cc_state_reads.specs.Reads.{registers_at}
use Rattle.cc_state_reads.specs.CcStateValues.Contexts.{set_of}
use Rattle.cc_state_reads.specs.CcStateValues.Typed.{HasSet}
use Rattle.cc_state_values_grow.specs.Growth.{RegistersPoint}
use Rattle.cc_state_values_grow.specs.Growth as growth
use Rattle.cc_state_reads.proofs.CcSyntax.NameRules.{sound-typed}
use Rattle.cc_state_reads.specs.CcSyntax.Normal.{IsNormal}
use Rattle.cc_state_reads.specs.CcSyntax.Registers.{is_register}
use Rattle.cc_state_reads.specs.CcSyntax.Sizes.{AreSized}
use Rattle.cc_state_reads.specs.CcSyntax.Types.{Named}
use Rattle.cc_state_reads.specs.CcSyntax.Values.{ValueType, NoValue, Integer, ToObject, ToFunction, is_scalar, pointer_shape, pointer_to, scalar_shape, scalar_value}

-- what has a scalar type gives a scalar
integer_is : (i : IntType) (t : ValueType) → Integer i ≡ t → is_scalar t ≡ true
integer_is i t h = ap is_scalar (sym h)

points_scalar : (t : CType) (x : shape.Shape-F Shape CType Sig) → is_scalar (pointer_shape t x) ≡ true
points_scalar t shape.Void = refl
points_scalar t (shape.Int i) = refl
points_scalar t (shape.Pointer to) = refl
points_scalar t (shape.Array of n) = refl
points_scalar t (shape.Struct i) = refl
points_scalar t (shape.Func s) = refl

pub scalar_at : (x : shape.Shape-F Shape CType Sig) (t : ValueType) → scalar_shape x ≡ Some t → is_scalar t ≡ true
scalar_at (shape.Int i) t h = integer_is i t (same_Some (Integer i) t h)
scalar_at (shape.Pointer to) t h = ap is_scalar (sym (same_Some (pointer_to to) t h)) ∙ points_scalar to (out-Shape to.shape)
scalar_at shape.Void t h = absurd (cc)
scalar_at (shape.Array of n) t h = absurd (cc)
scalar_at (shape.Struct i) t h = absurd (cc)
scalar_at (shape.Func s) t h = absurd (cc)

of_type : {I : Type 0} (d : Domain I) (p : Program) (t : ValueType) (y : Abs I) → is_scalar t ≡ true → IsSetIn p d t y → AreOf d p.target t y
of_type d p NoValue y s h = absurd (true≢false (sym s))
of_type d p (Integer t) (abs.Ints x) s h = λ n k. value_from_test t p.target n (h n k)
of_type d p (Integer t) (abs.Addrs r) s h = absurd h
of_type d p (ToObject c v to) (abs.Ints x) s h = absurd h
of_type d p (ToObject c v to) (abs.Addrs r) s h = tt
of_type d p (ToFunction sig) (abs.Ints x) s h = absurd h
of_type d p (ToFunction sig) (abs.Addrs r) s h = tt

-- the sets of registers, as the code has them, are those of the point
pub sets_there : {I : Type 0} (facts : Facts I) (n : ℕ) (f : Func) (rs : List ℕ) (ls : List (Abs I)) → rs ≡ registers f → ((fact : PointFact I) × (fact_at facts n ≡ Some fact) × (ls ≡ fact.locals)) →
    (λ r. set_of rs ls r) ≡ registers_at facts f n
sets_there {I = I} facts n f rs ls e (fact, there, is) =
    ap {B = ℕ → Option (Abs I)} (λ (xs : List ℕ) (r : ℕ). set_of xs ls r) e
    ∙ (ap {B = ℕ → Option (Abs I)} (λ (ys : List (Abs I)) (r : ℕ). set_of (registers f) ys r) is
    ∙ ap {B = ℕ → Option (Abs I)} (λ (o : Option (PointFact I)) (r : ℕ). option_and_then (λ k. option_and_then (λ (x : PointFact I). local_of x k) o) (register_number f r)) (sym there))

then_there : {A B : Type 0} (f : A → Option B) (a : Option A) (w : B) → option_and_then f a ≡ Some w → (x : A) × (a ≡ Some x) × (f x ≡ Some w)
then_there f None w h = absurd (none-some w h)
then_there f (Some x) w h = (x, refl, h)

pub known : {A : Type 0} (o : Option A) → is_some o ≡ true → (x : A) × (o ≡ Some x)
known None h = absurd (true≢false (sym h))
known (Some x) h = (x, refl)

-- an address that may stand in a set of a pointer's fits its type
may_point : (p : Program) (to : ValueType) (a : Address) → MayPoint p to a → growth.MayPoint p to a
may_point p to address.Null h = tt
may_point p to (address.Func g) h = tt
may_point p to (address.At object path index count) h = h.0

held_points : (p : Program) (to : ValueType) (s : Addrs) → HoldsPointers p to s → (a : Address) → Contains s.members a → growth.MayPoint p to a
held_points p NoValue s h a c = absurd h
held_points p (Integer t) s h a c = absurd h
held_points p (ToObject constant volatile to) s h a c = may_point p (ToObject constant volatile to) a (h a c)
held_points p (ToFunction sig) s h a c = may_point p (ToFunction sig) a (h a c)

module _ {I : Type 0} (d : Domain I) (p : Program) (facts : Facts I) (shape : HaveShape d p facts) (n : ℕ) (q : Point) (f : Func) (stands : IsPointOf p n q f) where
  listed : (fact : PointFact I) (o : Option (Option (PointFact I))) → slice_get facts.at n ≡ o → option_and_then (λ (x : Option (PointFact I)). x) o ≡ Some fact → slice_get facts.at n ≡ Some (Some fact)
  listed fact None e h = absurd (none-some fact h)
  listed fact (Some x) e h = e ∙ ap Some h

  -- what is known there is of the shape of the function
  pub its_shape : (fact : PointFact I) → fact_at facts n ≡ Some fact → IsPointFact d p f fact
  its_shape fact there = shape.point_facts n fact q f (listed fact (slice_get facts.at n) refl there) stands.numbered stands.function

  register_set : (fact : PointFact I) → fact_at facts n ≡ Some fact → (r : ℕ) → is_register f r ≡ true → HasSet d p q.func f (registers_at facts f n) r
  register_set fact there r h =
      let number = register_numbered f r h in
      let set = (its_shape fact there).locals.there number.0 (register_below f r number.0 number.1) in
      let type = set.2.0 in
      let same : type.0 ≡ r = same_Some type.0 r (sym type.2 ∙ register_at f r number.0 number.1) in
      record {
        local = type.1;
        type = set.0;
        set = set.1;
        is_local = subst (λ (z : ℕ). slice_get f.locals z ≡ Some type.1) same type.3;
        is_type = type.4;
        is_set = ap (option_and_then (local_at facts n)) number.1 ∙ ap (option_and_then (λ (x : PointFact I). local_of x number.0)) there ∙ set.2.1;
        of_type = of_type d p set.0 set.1 (scalar_at (out-Shape type.1.1.shape) set.0 type.4) set.2.2;
      }

  pub registers_point : RegistersPoint p f (registers_at facts f n)
  registers_point r local to s is_local is_type is_set a c =
      let number = then_there (local_at facts n) (register_number f r) (abs.Addrs s) is_set in
      let fact = then_there (λ (x : PointFact I). local_of x number.0) (fact_at facts n) (abs.Addrs s) number.2 in
      let set = (its_shape fact.0 fact.1).locals.there number.0 (register_below f r number.0 number.1) in
      let type = set.2.0 in
      let same : type.0 ≡ r = same_Some type.0 r (sym type.2 ∙ register_at f r number.0 number.1) in
      let one : type.1 ≡ local = same_Some type.1 local (sym type.3 ∙ ap (slice_get f.locals) same ∙ is_local) in
      let own : set.0 ≡ to = same_Some set.0 to (sym type.4 ∙ ap (λ (l : Named). scalar_value l.1) one ∙ is_type) in
      let its : set.1 ≡ abs.Addrs s = same_Some set.1 (abs.Addrs s) (sym set.2.1 ∙ fact.2) in
      held_points p to s (subst (λ (t : ValueType). IsSetIn p d t (abs.Addrs s)) own (subst (IsSetIn p d set.0) its set.2.2)) a c

  -- each tracked cell has a set there
  pub cells_there : (fact : PointFact I) → fact_at facts n ≡ Some fact → (cell : ℕ) → cell < length (tracked p) → is_some (cell_of fact cell) ≡ true
  cells_there fact there cell l = let set = (its_shape fact there).cells.there cell l in ap is_some set.2.1

  pub cells_at : is_some (fact_at facts n) ≡ true → (cell : ℕ) → cell < length (tracked p) → is_some (cell_at facts n cell) ≡ true
  cells_at reached cell l =
      let k = known (fact_at facts n) reached in
      ap is_some (ap (option_and_then (λ (x : PointFact I). cell_of x cell)) k.1) ∙ cells_there k.0 k.1 cell l

-- of each point that is reached
pub sets_at : {I : Type 0} (d : Domain I) (p : Program) (facts : Facts I) → HaveShape d p facts → (n : ℕ) → is_some (fact_at facts n) ≡ true → HaveSetsAt d p facts n
sets_at d p facts shape n reached q f stands r h = let k = known (fact_at facts n) reached in register_set d p facts shape n q f stands k.0 k.1 r h

-- each tracked cell has a set there
pub cells_of_point : {I : Type 0} (d : Domain I) (p : Program) (facts : Facts I) → HaveShape d p facts → (n : ℕ) → is_some (fact_at facts n) ≡ true → ((f : Func) × HasFunction p n f) → (cell : ℕ) → cell < length (tracked p) →
    is_some (cell_at facts n cell) ≡ true
cells_of_point d p facts shape n reached (f, (q, stands)) cell l = cells_at d p facts shape n q f stands reached cell l

-- ---- programs in normal form

pub normal_sized : (p : Program) → IsNormal p → AreSized p.structures p.target
normal_sized p normal = sized p (sound-typed p normal.sound)

pub function_few : (p : Program) → IsNormal p → (id : ℕ) (f : Func) → slice_get p.funcs id ≡ Some f → length f.locals < 2 ^ 32
function_few p normal id f e =
    subst (λ (g : Func). length g.locals < 2 ^ 32) (get_or_from_slice_get p.funcs id f f e) (few-locals p (sound-typed p normal.sound) id f (slice_get_within p.funcs id f e))

pub few_locals : (p : Program) → IsNormal p → (n : ℕ) → HasFewLocals p n
few_locals p normal n q f stands = function_few p normal q.func f stands.function

pub few_registers : (p : Program) → IsNormal p → (id : ℕ) (f : Func) → slice_get p.funcs id ≡ Some f → length (registers f) < 2 ^ 32
few_registers p normal id f e = let l = function_few p normal id f e in let k = registers_few f in omega (arith, l, k)
