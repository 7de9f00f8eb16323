-- What an expression may give, from what its operands may give; and the addresses of a place.
use Rattle.std.proofs.Common.{◌≡◌, ℕ, ℤ, Bool, true, false, Option, Some, None, refl, ap, sym, ◌∙◌, subst, List, []}
use Rattle.std.specs.Prelude.{option_map, slice_get}
use Rattle.std.specs.List.{Contains}
use Rattle.std.proofs.lemmas.Option.{same_Some}
use Rattle.cc_state_operators.specs.CcLattice.Domains.{IsIntValue}
use Rattle.cc_program.specs.CcNum.declared.int_type.IntType.{IntType}
use Rattle.cc_program.specs.CcNum.declared.op.BinOp.{BinOp}
use Rattle.cc_program.specs.CcNum.declared.op.UnOp.{UnOp}
use Rattle.cc_program.specs.CcNum.declared.target.Target.{Target}
use Rattle.cc_program.specs.CcNum.Integers.{IsValueOf}
use Rattle.cc_program.proofs.CcNum.ResultLaws.{value_from_test}
use Rattle.cc_state_operators.proofs.CcLattice.IntValues.{value_is_int}
use Rattle.cc_state_operators.specs.CcPlaces.Abstract.{AreOfOneKind}
use Rattle.cc_state_operators.specs.CcPlaces.declared.abs.Abs.{Abs}
use Rattle.cc_state_operators.specs.CcPlaces.declared.abs.Abs.TheVariants as abs
use Rattle.cc_state_operators.specs.CcPlaces.declared.addrs.Addrs.{Addrs}
use Rattle.cc_program.specs.declared.expr.Expr.{Expr, out-Expr, Const, Null, FuncAddr, Load, AddrOf, Un, Bin, Conv, Qualify, Move, Gap, Compare, Both, Either, Choose, Assign, Change, After, Call, Intr, Seq}
use Rattle.cc_program.specs.declared.expr.Expr.TheVariants.{outs-Const, outs-Null, outs-FuncAddr, outs-Load, outs-AddrOf, outs-Un, outs-Bin, outs-Conv, outs-Qualify, outs-Move, outs-Gap, outs-Compare, outs-Both, outs-Either, outs-Choose, outs-Assign, outs-Change, outs-After, outs-Call, outs-Intr, outs-Seq}
use Rattle.cc_program.specs.declared.expr.Expr.TheOpen as one
use Rattle.cc_program.specs.declared.expr.Intr.{Intr as IntrKind}
use Rattle.cc_program.specs.declared.expr.Place.{Place, out-Place, Local, Static, Device, Element, Member, Deref}
use Rattle.cc_program.specs.declared.expr.Place.TheVariants.{outs-Local, outs-Static, outs-Device, outs-Element, outs-Member, outs-Deref}
use Rattle.cc_program.specs.declared.func.Func.{Func}
use Rattle.cc_program.specs.declared.program.Program.{Program}
use Rattle.cc_program.specs.declared.types.CType.{CType}
use Rattle.cc_state_operators.specs.CcPlaces.Kept.{member_for}
use Rattle.cc_state_operators.specs.CcPlaces.laws.ListLaws.{none_in}
use Rattle.cc_program.specs.declared.value.Address.{Address}
use Rattle.cc_program.specs.declared.value.Address.TheVariants as address
use Rattle.cc_program.specs.declared.value.Root.TheVariants as root
use Rattle.cc_state_operators.specs.CcSyntax.Expressions.{of_one}
use Rattle.cc_state_operators.specs.CcSyntax.Operators.{subscript_type}
use Rattle.cc_state_operators.specs.CcSyntax.Programs.{type_of, place_type}
use Rattle.cc_state_operators.specs.CcSyntax.Values.{ValueType, PlaceType, Integer, is_scalar, pointed_to, read_from, address_of, object_place}
use Rattle.cc_state_operators.specs.declared.operators.OneOperand.{OneOperand}
use Rattle.cc_state_operators.specs.declared.operators.OneOperand.TheVariants as kind_one
use Rattle.cc_state_operators.specs.declared.operators.TwoOperands.{TwoOperands}
use Rattle.cc_state_operators.specs.declared.operators.TwoOperands.TheVariants as kind_two
use Rattle.cc_state_operators.specs.Addresses.{IsOnly, IsNone, object_address, AreMembers, AreElements}
use Rattle.cc_state_operators.specs.Domains.{Domain, IsHull, IsUnion, AllOf}
use Rattle.cc_state_operators.specs.Operands.{AreInts, AreAddrs, OneFits, OneGives, OneTyped, TwoFit, TwoGive, TwoTyped}
use Rattle.cc_state_values.specs.Layers.{of_one as one_layer, of_two as two_layer}
use Rattle.cc_state_operators.specs.Results.{IsArm}
use Rattle.cc_state_operators.specs.Types.{AreOf}
use Rattle.cc_state_values.specs.Contexts.{HaveSetsIn, IsPureAs, IsKnownAs, IsConstant, IsOneAddress, set_in, set_at}
use Rattle.cc_state_values.specs.declared.context.Context.{Context}
use Rattle.cc_state_values.specs.Typed.{IsPure, IsPurePlace, HaveSets, IsKnown}
use Rattle.cc_state_values.specs.Values.{IsVal, OfConst, OfNull, OfFunction, OfRegister, OfAddress, OfUn, OfBin, OfConv, OfQualify, OfMove, OfGap, OfCompare, OfBoth, OfEither, OfChoose, Designates, AtLocal, AtStatic, AtDevice, AtElement, AtMember, AtTarget}
use Rattle.cc_state_values.proofs.Fits.{pointers_are, as_pointers, numbers_are, assigned_of, alike_arms, arms_as, one_fits, one_typed, two_fit, two_typed}
use Rattle.cc_state_values.proofs.Parts.{typed_as, pure_as, one_rule, one_type, two_rule, two_type, choice_parts_type, qualified_assigned, element_type, target_type, IsRegister, register_part, register_type}
use Rattle.cc_state_values.proofs.Rules.{one_there, two_there, when_there, address_pointer, pointed_pointer, subscript_there, null_pointer, function_pointer}

none_set : (s : Addrs) → s.is_exact ≡ true → s.members ≡ [] → IsNone s
none_set s e m = record {
  has = λ a. (
    (λ h. absurd (none_in (member_for s.is_exact a) (subst (λ (l : List Address). Contains l (member_for s.is_exact a)) m h))),
    (λ w. absurd w.1),
  );
  exact = λ h few. let z : true ≡ false = sym e ∙ h in absurd (cc);
}

module _ {I : Type 0} (d : Domain I) (p : Program) (id : ℕ) (f : Func) (register : ℕ → Option (Abs I)) where
  abbrev pub Known : Expr → Abs I → Type 0
  Known e y = IsKnown d p id f register e y

  abbrev pub Valued : Expr → Abs I → Type 0
  Valued e y = IsVal d p id f register e y

  abbrev pub PureAs : one.Expr-F Expr Place → Type 0
  PureAs x = (e : Expr) × (out-Expr e ≡ x) × IsPure p f e

  abbrev pub PlaceAs : one.Place-F Expr Place → Type 0
  PlaceAs x = (a : Place) × (out-Place a ≡ x) × IsPurePlace p f a

  -- one operand

  one_val : (kind : OneOperand) (e a : Expr) (x y : Abs I) → out-Expr e ≡ one_layer kind a → Valued a x → OneFits d p.target kind x → OneGives d p.target kind x y → Valued e y
  one_val (kind_one.Operator o t) e a (abs.Ints n) (abs.Ints z) h k w g = OfUn o t a n z h k w g refl
  one_val (kind_one.Operator o t) e a (abs.Ints n) (abs.Addrs s) h k w g = absurd g
  one_val (kind_one.Operator o t) e a (abs.Addrs r) y h k w g = absurd w
  one_val (kind_one.Conversion t) e a (abs.Ints n) (abs.Ints z) h k w g = OfConv t a n z h k g refl
  one_val (kind_one.Conversion t) e a (abs.Ints n) (abs.Addrs s) h k w g = absurd g
  one_val (kind_one.Conversion t) e a (abs.Addrs r) y h k w g = absurd w

  pub one_known : (kind : OneOperand) (a : Expr) (x y : Abs I) → Known a x → OneFits d p.target kind x → OneGives d p.target kind x y → OneTyped d p.target kind y → (e : Expr) → out-Expr e ≡ one_layer kind a → IsPure p f e → Known e y
  one_known kind a x y k w g t e h pure = record { value = one_val kind e a x y h k.value w g; of_type = typed }
    where
      typed : (u : ValueType) → type_of p f.locals e ≡ Some u → AreOf d p.target u y
      typed u l = let v = one_there (type_of p f.locals a) (one_rule p f kind) u (one_type p f kind e a u h l) in one_typed d p f kind v.0 u y v.2 t

  pub one_works : (kind : OneOperand) (a : Expr) (x : Abs I) → PureAs (one_layer kind a) → Known a x → OneFits d p.target kind x
  one_works kind a x (e, h, pure) k =
      let (t, typed, s) = pure.typed in
      let w = one_there (type_of p f.locals a) (one_rule p f kind) t (one_type p f kind e a t h typed) in
      one_fits d p f kind w.0 t x w.2 (k.of_type w.0 w.1)

  -- two operands

  two_val : (kind : TwoOperands) (e a b : Expr) (x w y : Abs I) → out-Expr e ≡ two_layer kind a b → Valued a x → Valued b w → TwoFit d p.target kind x w → TwoGive d p.target kind x w y → Valued e y
  two_val (kind_two.Operator o t) e a b (abs.Ints n) (abs.Ints m) (abs.Ints z) h k l q g = OfBin o t a b n m z h k l q g refl
  two_val (kind_two.Operator o t) e a b (abs.Ints n) (abs.Ints m) (abs.Addrs r) h k l q g = absurd g
  two_val (kind_two.Operator o t) e a b (abs.Ints n) (abs.Addrs s) y h k l q g = absurd g
  two_val (kind_two.Operator o t) e a b (abs.Addrs s) w y h k l q g = absurd g
  two_val (kind_two.Movement back) e a b (abs.Addrs s) (abs.Ints n) (abs.Addrs r) h k l q g = OfMove a b back s r n h k l g refl
  two_val (kind_two.Movement back) e a b (abs.Addrs s) (abs.Ints n) (abs.Ints z) h k l q g = absurd g
  two_val (kind_two.Movement back) e a b (abs.Addrs s) (abs.Addrs t) y h k l q g = absurd g
  two_val (kind_two.Movement back) e a b (abs.Ints n) w y h k l q g = absurd g
  two_val kind_two.Difference e a b (abs.Addrs s) (abs.Addrs t) (abs.Ints z) h k l q g = OfGap a b s t z h k l g refl
  two_val kind_two.Difference e a b (abs.Addrs s) (abs.Addrs t) (abs.Addrs r) h k l q g = absurd g
  two_val kind_two.Difference e a b (abs.Addrs s) (abs.Ints n) y h k l q g = absurd g
  two_val kind_two.Difference e a b (abs.Ints n) w y h k l q g = absurd g
  two_val (kind_two.Comparison o) e a b (abs.Addrs s) (abs.Addrs t) (abs.Ints z) h k l q g = OfCompare o a b s t z h k l g refl
  two_val (kind_two.Comparison o) e a b (abs.Addrs s) (abs.Addrs t) (abs.Addrs r) h k l q g = absurd g
  two_val (kind_two.Comparison o) e a b (abs.Addrs s) (abs.Ints n) y h k l q g = absurd g
  two_val (kind_two.Comparison o) e a b (abs.Ints n) w y h k l q g = absurd g
  two_val kind_two.Both e a b x w (abs.Ints z) h k l q g = OfBoth a b x w z h k l g refl
  two_val kind_two.Both e a b x w (abs.Addrs r) h k l q g = absurd g
  two_val kind_two.Either e a b x w (abs.Ints z) h k l q g = OfEither a b x w z h k l g refl
  two_val kind_two.Either e a b x w (abs.Addrs r) h k l q g = absurd g

  pub two_known : (kind : TwoOperands) (a b : Expr) (x w y : Abs I) → Known a x → Known b w → TwoFit d p.target kind x w → TwoGive d p.target kind x w y → TwoTyped d p.target kind y → (e : Expr) → out-Expr e ≡ two_layer kind a b → IsPure p f e → Known e y
  two_known kind a b x w y k l q g t e h pure = record { value = two_val kind e a b x w y h k.value l.value q g; of_type = typed }
    where
      typed : (u : ValueType) → type_of p f.locals e ≡ Some u → AreOf d p.target u y
      typed u m = let v = two_there (type_of p f.locals a) (type_of p f.locals b) (two_rule p f kind) u (two_type p f kind e a b u h m) in two_typed d p f kind v.0 v.1 u y v.4 t

  pub two_work : (kind : TwoOperands) (a b : Expr) (x w : Abs I) → PureAs (two_layer kind a b) → Known a x → Known b w → TwoFit d p.target kind x w
  two_work kind a b x w (e, h, pure) k l =
      let (t, typed, s) = pure.typed in
      let v = two_there (type_of p f.locals a) (type_of p f.locals b) (two_rule p f kind) t (two_type p f kind e a b t h typed) in
      two_fit d p f kind v.0 v.1 t x w v.4 (k.of_type v.0 v.2) (l.of_type v.1 v.3)

  -- a choice

  pub arms_work : (c a b : Expr) (x w : Abs I) → PureAs (one.Choose c a b) → Known a x → Known b w → AreOfOneKind x w
  arms_work c a b x w (e, h, pure) k l =
      let (t, typed, s) = pure.typed in
      let v = choice_parts_type p f e c a b t h typed s in
      alike_arms d p.target v.first v.second t x w v.arms (k.of_type v.first v.is_first) (l.of_type v.second v.is_second)

  pub choice_known : (c a b : Expr) (z x w y : Abs I) → Known c z → Known a x → Known b w → IsUnion d x (IsArm d z x w) y →
      ((t : ValueType) (target : Target) → AreOf d target t x → AreOf d target t w → AreOf d target t y) → (e : Expr) → out-Expr e ≡ one.Choose c a b → IsPure p f e → Known e y
  choice_known c a b z x w y m k l u t e h pure = record { value = OfChoose c a b z x w h m.value k.value l.value u; of_type = typed }
    where
      typed : (r : ValueType) → type_of p f.locals e ≡ Some r → AreOf d p.target r y
      typed r n =
          let (q, known, s) = pure.typed in
          let same : q ≡ r = same_Some q r (sym known ∙ n) in
          let v = choice_parts_type p f e c a b r h n (subst (λ i. is_scalar i ≡ true) same s) in
          let both = arms_as d p.target v.first v.second r x w v.arms (k.of_type v.first v.is_first) (l.of_type v.second v.is_second) in
          t r p.target both.0 both.1

  -- a constant, null, a function, an address, a cast of a pointer, a register

  const_value : (e : Expr) (n : ℤ) (t : IntType) → out-Expr e ≡ one.Const n t → IsPure p f e → IsValueOf t p.target n
  const_value e n t h pure =
      let (u, typed, s) = pure.typed in
      value_from_test t p.target n (when_there _ (Integer t) u (typed_as p f e (one.Const n t) u h typed)).0

  pub const_works : (e : Expr) (n : ℤ) (t : IntType) → e ≡ Const n t → IsPure p f e → IsIntValue n
  const_works e n t h pure = value_is_int n t p.target (const_value e n t (ap out-Expr h ∙ outs-Const n t) pure)

  pub const_known : (e : Expr) (n : ℤ) (t : IntType) (x : I) → e ≡ Const n t → IsPure p f e → IsHull d (λ m. m ≡ n) x → ((m : ℤ) → d.has x m → m ≡ n) → Known e (abs.Ints x)
  const_known e n t x h pure hull one_only =
      let o : out-Expr e ≡ one.Const n t = ap out-Expr h ∙ outs-Const n t in
      record { value = OfConst n t x o hull refl; of_type = typed o }
    where
      typed : out-Expr e ≡ one.Const n t → (u : ValueType) → type_of p f.locals e ≡ Some u → AreOf d p.target u (abs.Ints x)
      typed o u l =
          let w = when_there _ (Integer t) u (typed_as p f e (one.Const n t) u o l) in
          let each : AllOf d t p.target x = λ m k. subst (λ z. IsValueOf t p.target z) (sym (one_only m k)) (const_value e n t o pure) in
          subst (λ z. AreOf d p.target z (abs.Ints x)) w.1 each

  pub const_given : (e : Expr) (n : ℤ) (t : IntType) (y : Abs I) → e ≡ Const n t → IsPure p f e → IsConstant d n y → Known e y
  const_given e n t y h pure (x, hull, only, k) = subst (λ z. Known e z) (sym k) (const_known e n t x h pure hull only)

  pub null_known : (e : Expr) (t : CType) (s : Addrs) → e ≡ Null t → IsPure p f e → IsOnly address.Null s → Known e (abs.Addrs s)
  null_known e t s h pure k = record { value = OfNull t s o k refl; of_type = λ u l. as_pointers d p.target u (abs.Addrs s) (null_pointer p t u (typed_as p f e (one.Null t) u o l)) tt }
    where
      o : out-Expr e ≡ one.Null t
      o = ap out-Expr h ∙ outs-Null t

  pub null_given : (e : Expr) (t : CType) (y : Abs I) → e ≡ Null t → IsPure p f e → IsOneAddress address.Null y → Known e y
  null_given e t y h pure (s, k, l) = subst (λ z. Known e z) (sym l) (null_known e t s h pure k)

  pub function_known : (e : Expr) (g : ℕ) (s : Addrs) → e ≡ FuncAddr g → IsPure p f e → IsOnly (address.Func g) s → Known e (abs.Addrs s)
  function_known e g s h pure k = record { value = OfFunction g s o k refl; of_type = λ u l. as_pointers d p.target u (abs.Addrs s) (function_pointer (slice_get p.funcs g) u (typed_as p f e (one.FuncAddr g) u o l)) tt }
    where
      o : out-Expr e ≡ one.FuncAddr g
      o = ap out-Expr h ∙ outs-FuncAddr g

  pub function_given : (e : Expr) (g : ℕ) (y : Abs I) → e ≡ FuncAddr g → IsPure p f e → IsOneAddress (address.Func g) y → Known e y
  function_given e g y h pure (s, k, l) = subst (λ z. Known e z) (sym l) (function_known e g s h pure k)

  pub address_known : (e : Expr) (a : Place) (s : Addrs) → out-Expr e ≡ one.AddrOf a → Designates d p id f register a s → Known e (abs.Addrs s)
  address_known e a s o k = record { value = OfAddress a s o k refl; of_type = typed }
    where
      typed : (u : ValueType) → type_of p f.locals e ≡ Some u → AreOf d p.target u (abs.Addrs s)
      typed u l =
          let w = one_there (place_type p f.locals a) address_of u (typed_as p f e (one.AddrOf a) u o l) in
          as_pointers d p.target u (abs.Addrs s) (address_pointer w.0 u w.2) tt

  pub pointers_known : (e : Expr) (a : Place) (y : Abs I) → out-Expr e ≡ one.AddrOf a → ((s : Addrs) × Designates d p id f register a s × (y ≡ abs.Addrs s)) → Known e y
  pointers_known e a y o (s, k, l) = subst (λ z. Known e z) (sym l) (address_known e a s o k)

  pub qualified_known : (e a : Expr) (to : CType) (y : Abs I) → out-Expr e ≡ one.Qualify to a → Known a y → Known e y
  qualified_known e a to y o k = record { value = OfQualify to a o k.value; of_type = typed }
    where
      typed : (u : ValueType) → type_of p f.locals e ≡ Some u → AreOf d p.target u y
      typed u l = let w = qualified_assigned p f e a to u o l in assigned_of d p.target u w.0 y w.2 (k.of_type w.0 w.1)

  pub register_there : HaveSets d p id f register → (a : Place) → PureAs (one.Load a) → (w : IsRegister p f a) × (y : Abs I) × (register w.local ≡ Some y)
  register_there sets a (e, h, pure) = let w = register_part p f e a h pure in let s = sets w.local w.register in (w, s.set, s.is_set)

  pub register_known : HaveSets d p id f register → (a : Place) (y : Abs I) → (w : IsRegister p f a) → register w.local ≡ Some y → (e : Expr) → out-Expr e ≡ one.Load a → IsPure p f e → Known e y
  register_known sets a y w k e h pure = record { value = OfRegister a w.local h w.known k; of_type = typed }
    where
      typed : (u : ValueType) → type_of p f.locals e ≡ Some u → AreOf d p.target u y
      typed u l =
          let s = sets w.local w.register in
          let r = register_type p f e a w.local u h w.is_local l in
          let local_is : option_map (λ l. object_place l.1) (slice_get f.locals w.local) ≡ Some (object_place s.local.1) = ap (option_map (λ l. object_place l.1)) s.is_local in
          let read : Some s.type ≡ Some u = sym s.is_type ∙ (ap (λ z. of_one z read_from) (sym local_is) ∙ r) in
          let same : s.set ≡ y = same_Some s.set y (sym s.is_set ∙ k) in
          subst (λ z. AreOf d p.target z y) (same_Some s.type u read) (subst (λ z. AreOf d p.target s.type z) same s.of_type)

  -- places

  pub element_at : (a b : Place) (i : Expr) (r s : Addrs) (x : Abs I) (n : I) (t : PlaceType) → out-Place a ≡ one.Element b i → place_type p f.locals b ≡ Some t → Designates d p id f register b r →
      Known i x → x ≡ abs.Ints n → AreElements p t (d.has n) r s → Designates d p id f register a s
  element_at a b i r s x n t h k l m e g = AtElement b i t r n h k l (subst (λ z. Valued i z) e m.value) g

  pub element_works : (b : Place) (i : Expr) (x : Abs I) → PlaceAs (one.Element b i) → Known i x → AreInts x
  element_works b i x (a, h, pure) k =
      let (t, typed) = pure.typed in
      let w = two_there (place_type p f.locals b) (type_of p f.locals i) subscript_type t (element_type p f a b i t h typed) in
      let m = subscript_there w.0 w.1 t w.4 in
      numbers_are d p.target w.1 m.0 x m.1 (k.of_type w.1 w.3)

  pub target_works : (e : Expr) (x : Abs I) → PlaceAs (one.Deref e) → Known e x → AreAddrs x
  target_works e x (a, h, pure) k =
      let (t, typed) = pure.typed in
      let w = one_there (type_of p f.locals e) pointed_to t (target_type p f a e t h typed) in
      pointers_are d p.target w.0 x (pointed_pointer w.0 t w.2) (k.of_type w.0 w.1)

  -- named objects

  pub local_designates : (a : Place) (r : ℕ) (s : Addrs) → a ≡ Local r → IsOnly (object_address (root.Auto 0 id r) []) s → Designates d p id f register a s
  local_designates a r s h k = AtLocal r (ap out-Place h ∙ outs-Local r) k

  pub static_designates : (a : Place) (i : ℕ) (s : Addrs) → a ≡ Static i → IsOnly (object_address (root.Static i) []) s → Designates d p id f register a s
  static_designates a i s h k = AtStatic i (ap out-Place h ∙ outs-Static i) k

  pub device_designates : (a : Place) (n : ℕ) (s : Addrs) → a ≡ Device n → s.is_exact ≡ true → s.members ≡ [] → Designates d p id f register a s
  device_designates a n s h e m = AtDevice n (ap out-Place h ∙ outs-Device n) (none_set s e m)

  pub member_at : (a b : Place) (m : ℕ) (t : PlaceType) (r s : Addrs) → out-Place a ≡ one.Member b m → place_type p f.locals b ≡ Some t → Designates d p id f register b r → AreMembers p t m r s → Designates d p id f register a s
  member_at a b m t r s h k l g = AtMember b m t r h k l g

  pub target_at : (a : Place) (e : Expr) (x : Abs I) (s : Addrs) → out-Place a ≡ one.Deref e → Known e x → x ≡ abs.Addrs s → Designates d p id f register a s
  target_at a e x s h k l = AtTarget e h (subst (λ z. Valued e z) l k.value)

pub kinds_same : {I : Type 0} (x : Abs I) → AreOfOneKind x x
kinds_same (abs.Ints n) = tt
kinds_same (abs.Addrs s) = tt

-- a register, as the code has its set
module _ {I : Type 0} (d : Domain I) (c : Context I) where
  pub no_register : {A : Type 0} → HaveSetsIn d c → (a : Place) → IsPureAs d c (one.Load a) → None ≡ set_at c (out-Place a) → A
  no_register sets a pure h =
      let w = register_there d c.program.now c.id c.func.now (set_in c) sets a pure in
      let z : None ≡ Some w.1 = h ∙ (ap (set_at c) w.0.is_local ∙ w.2) in
      absurd (cc)

  pub register_given : HaveSetsIn d c → (a : Place) (y : Abs I) → Some y ≡ set_at c (out-Place a) → IsKnownAs d c (one.Load a) y
  register_given sets a y h e o pure =
      let w = register_there d c.program.now c.id c.func.now (set_in c) sets a (e, o, pure) in
      register_known d c.program.now c.id c.func.now (set_in c) sets a y w.0 (sym (h ∙ ap (set_at c) w.0.is_local)) e o pure

-- of a pure place there is a type
pub no_type : {A : Type 0} (p : Program) (f : Func) (b : Place) (t : Option PlaceType) → IsPurePlace p f b → t ≡ place_type p f.locals b → t ≡ None → A
no_type p f b t pure h k = let (u, typed) = pure.typed in let z : None ≡ Some u = sym k ∙ (h ∙ typed) in absurd (cc)

-- a pure expression, and a place, of a form
module _ (p : Program) (f : Func) where
  pub pure_layer : {x : one.Expr-F Expr Place} (e : Expr) → out-Expr e ≡ x → IsPure p f e → (e : Expr) × (out-Expr e ≡ x) × IsPure p f e
  pure_layer e h k = (e, h, k)

  pub place_layer : {x : one.Place-F Expr Place} (a : Place) → out-Place a ≡ x → IsPurePlace p f a → (a : Place) × (out-Place a ≡ x) × IsPurePlace p f a
  place_layer a h k = (a, h, k)

-- ---- forms

module _ (e : Expr) where
  pub as-Load : (a : Place) (a' : Place) → e ≡ Load a → a' ≡ a → out-Expr e ≡ one.Load a'
  as-Load a a' h k = ap out-Expr h ∙ outs-Load a ∙ ap (λ (z : Place). one.Load z) (sym k)

  pub as-AddrOf : (a : Place) (a' : Place) → e ≡ AddrOf a → a' ≡ a → out-Expr e ≡ one.AddrOf a'
  as-AddrOf a a' h k = ap out-Expr h ∙ outs-AddrOf a ∙ ap (λ (z : Place). one.AddrOf z) (sym k)

  pub as-Un : (o : UnOp) (t : IntType) (a : Expr) (a' : Expr) → e ≡ Un o t a → a' ≡ a → out-Expr e ≡ one.Un o t a'
  as-Un o t a a' h k = ap out-Expr h ∙ outs-Un o t a ∙ ap (λ (z : Expr). one.Un o t z) (sym k)

  pub as-Bin : (o : BinOp) (t : IntType) (a : Expr) (b : Expr) (a' : Expr) (b' : Expr) → e ≡ Bin o t a b → a' ≡ a → b' ≡ b → out-Expr e ≡ one.Bin o t a' b'
  as-Bin o t a b a' b' h k l = ap out-Expr h ∙ outs-Bin o t a b ∙ ap (λ (z : Expr). one.Bin o t z b) (sym k) ∙ ap (λ (z : Expr). one.Bin o t a' z) (sym l)

  pub as-Conv : (t : IntType) (a : Expr) (a' : Expr) → e ≡ Conv t a → a' ≡ a → out-Expr e ≡ one.Conv t a'
  as-Conv t a a' h k = ap out-Expr h ∙ outs-Conv t a ∙ ap (λ (z : Expr). one.Conv t z) (sym k)

  pub as-Qualify : (t : CType) (a : Expr) (a' : Expr) → e ≡ Qualify t a → a' ≡ a → out-Expr e ≡ one.Qualify t a'
  as-Qualify t a a' h k = ap out-Expr h ∙ outs-Qualify t a ∙ ap (λ (z : Expr). one.Qualify t z) (sym k)

  pub as-Move : (a : Expr) (b : Expr) (back : Bool) (a' : Expr) (b' : Expr) → e ≡ Move a b back → a' ≡ a → b' ≡ b → out-Expr e ≡ one.Move a' b' back
  as-Move a b back a' b' h k l = ap out-Expr h ∙ outs-Move a b back ∙ ap (λ (z : Expr). one.Move z b back) (sym k) ∙ ap (λ (z : Expr). one.Move a' z back) (sym l)

  pub as-Gap : (a : Expr) (b : Expr) (a' : Expr) (b' : Expr) → e ≡ Gap a b → a' ≡ a → b' ≡ b → out-Expr e ≡ one.Gap a' b'
  as-Gap a b a' b' h k l = ap out-Expr h ∙ outs-Gap a b ∙ ap (λ (z : Expr). one.Gap z b) (sym k) ∙ ap (λ (z : Expr). one.Gap a' z) (sym l)

  pub as-Compare : (o : BinOp) (a : Expr) (b : Expr) (a' : Expr) (b' : Expr) → e ≡ Compare o a b → a' ≡ a → b' ≡ b → out-Expr e ≡ one.Compare o a' b'
  as-Compare o a b a' b' h k l = ap out-Expr h ∙ outs-Compare o a b ∙ ap (λ (z : Expr). one.Compare o z b) (sym k) ∙ ap (λ (z : Expr). one.Compare o a' z) (sym l)

  pub as-Both : (a : Expr) (b : Expr) (a' : Expr) (b' : Expr) → e ≡ Both a b → a' ≡ a → b' ≡ b → out-Expr e ≡ one.Both a' b'
  as-Both a b a' b' h k l = ap out-Expr h ∙ outs-Both a b ∙ ap (λ (z : Expr). one.Both z b) (sym k) ∙ ap (λ (z : Expr). one.Both a' z) (sym l)

  pub as-Either : (a : Expr) (b : Expr) (a' : Expr) (b' : Expr) → e ≡ Either a b → a' ≡ a → b' ≡ b → out-Expr e ≡ one.Either a' b'
  as-Either a b a' b' h k l = ap out-Expr h ∙ outs-Either a b ∙ ap (λ (z : Expr). one.Either z b) (sym k) ∙ ap (λ (z : Expr). one.Either a' z) (sym l)

  pub as-Choose : (q : Expr) (a : Expr) (b : Expr) (q' : Expr) (a' : Expr) (b' : Expr) → e ≡ Choose q a b → q' ≡ q → a' ≡ a → b' ≡ b → out-Expr e ≡ one.Choose q' a' b'
  as-Choose q a b q' a' b' h k l m = ap out-Expr h ∙ outs-Choose q a b ∙ ap (λ (z : Expr). one.Choose z a b) (sym k) ∙ ap (λ (z : Expr). one.Choose q' z b) (sym l) ∙ ap (λ (z : Expr). one.Choose q' a' z) (sym m)

module _ (a : Place) where
  pub as-Element : (b : Place) (i : Expr) (b' : Place) (i' : Expr) → a ≡ Element b i → b' ≡ b → i' ≡ i → out-Place a ≡ one.Element b' i'
  as-Element b i b' i' h k l = ap out-Place h ∙ outs-Element b i ∙ ap (λ (z : Place). one.Element z i) (sym k) ∙ ap (λ (z : Expr). one.Element b' z) (sym l)

  pub as-Member : (b : Place) (m : ℕ) (b' : Place) → a ≡ Member b m → b' ≡ b → out-Place a ≡ one.Member b' m
  as-Member b m b' h k = ap out-Place h ∙ outs-Member b m ∙ ap (λ (z : Place). one.Member z m) (sym k)

  pub as-Deref : (e : Expr) (e' : Expr) → a ≡ Deref e → e' ≡ e → out-Place a ≡ one.Deref e'
  as-Deref e e' h k = ap out-Place h ∙ outs-Deref e ∙ ap (λ (z : Expr). one.Deref z) (sym k)

-- what is not pure

module _ (p : Program) (f : Func) (e : Expr) (pure : IsPure p f e) where
  impure : {A : Type 0} → false ≡ true → A
  impure h = absurd (cc)

  pub not-Assign : {A : Type 0} (a : Place) (b : Expr) → e ≡ Assign a b → A
  not-Assign a b h = impure (pure_as p f e (one.Assign a b) (ap out-Expr h ∙ outs-Assign a b) pure)

  pub not-Change : {A : Type 0} (a : Place) (o : BinOp) (t : IntType) (b : Expr) → e ≡ Change a o t b → A
  not-Change a o t b h = impure (pure_as p f e (one.Change a o t b) (ap out-Expr h ∙ outs-Change a o t b) pure)

  pub not-After : {A : Type 0} (a : Place) (down : Bool) → e ≡ After a down → A
  not-After a down h = impure (pure_as p f e (one.After a down) (ap out-Expr h ∙ outs-After a down) pure)

  pub not-Call : {A : Type 0} (g : Expr) (args : List Expr) → e ≡ Call g args → A
  not-Call g args h = impure (pure_as p f e (one.Call g args) (ap out-Expr h ∙ outs-Call g args) pure)

  pub not-Intr : {A : Type 0} (i : IntrKind) (a : Option Expr) → e ≡ Intr i a → A
  not-Intr i a h = impure (pure_as p f e (one.Intr i a) (ap out-Expr h ∙ outs-Intr i a) pure)

  pub not-Seq : {A : Type 0} (a b : Expr) → e ≡ Seq a b → A
  not-Seq a b h = impure (pure_as p f e (one.Seq a b) (ap out-Expr h ∙ outs-Seq a b) pure)
