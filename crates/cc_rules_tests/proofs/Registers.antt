-- The set of a register, or of a cell that equals it: explicit, a range, or one of addresses.
use Rattle.std.proofs.Common.{◌≡◌, ◌↔◌, ℕ, ℤ, Bool, true, false, IsTrue, List, Option, Some, None, ap, sym, subst, ◌∙◌}
use Rattle.std.specs.List.{Contains}
use Rattle.std.specs.Prelude.{slice_get}
use Rattle.std.proofs.lemmas.Option.{same_Some}
use Rattle.cc_rules_flows.specs.CcPlaces.Abstract.{IsBelowAbs}
use Rattle.cc_rules_flows.specs.CcPlaces.declared.abs.Abs.{Abs}
use Rattle.cc_rules_flows.specs.CcPlaces.declared.abs.Abs.TheVariants as abs
use Rattle.cc_rules_flows.specs.CcPlaces.declared.addrs.Addrs.{Addrs}
use Rattle.cc_rules_flows.specs.Tests.{Alike, Unlike}
use Rattle.cc_rules_tests.specs.Tested.{IsExplicitIn, IsLeftAlikeIn, IsLeftIn, IsOfRegisterIn, IsRangeLeftIn, IsWorkedAt, MayHave, MayHoldAll, MayHoldEach, StaysIn}
use Rattle.cc_rules_tests.specs.declared.tested.Tested.{Tested}
use Rattle.cc_rules_flows.specs.CcStateOperators.Domains.{Domain, IsHull}
use Rattle.cc_rules_flows.specs.CcStateOperators.Types.{AreOf}
use Rattle.cc_rules_flows.specs.CcStateValues.declared.context.Context.{Context}
use Rattle.cc_rules_flows.specs.CcSyntax.Registers.{is_register}
use Rattle.cc_rules_flows.specs.CcSyntax.Types.{Named}
use Rattle.cc_rules_flows.specs.CcSyntax.Values.{ValueType, NoValue, Integer, ToObject, ToFunction, scalar_value}

module _ {I : Type 0} (d : Domain I) (c : Context I) (r : ℕ) where
  -- the members of an explicit set

  pub each_held : (x : I) (members : List ℤ) → ((m : ℤ) → Contains members m ↔ d.has x m) → MayHoldAll d c r x → MayHoldEach d c r members
  each_held x members all (t, is, values) = (t, is, λ m k. values m ((all m).0 k))

  same_members : (members ms : List ℤ) (m : ℤ) → Some members ≡ Some ms → Contains ms m → Contains members m
  same_members members ms m e k = subst (λ z. Contains z m) (sym (same_Some members ms e)) k

  same_set : (x y : I) → abs.Ints x ≡ abs.Ints y → x ≡ y
  same_set x y e = cc

  pub explicit_member : (x : I) (members : List ℤ) (m : ℤ) → d.members x ≡ Some members → IsExplicitIn d c (abs.Ints x) m → Contains members m
  explicit_member x members m e (y, ms, is, some, k) = same_members members ms m (sym e ∙ (ap d.members (same_set x y is) ∙ some)) k

  pub no_member : {A : Type 0} (x : I) (m : ℤ) → d.members x ≡ None → IsExplicitIn d c (abs.Ints x) m → A
  no_member x m e (y, ms, is, some, k) = let f : None ≡ Some ms = sym e ∙ (ap d.members (same_set x y is) ∙ some) in absurd (cc)

  no_ints : {A : Type 0} (s : Addrs) (x : I) → abs.Addrs s ≡ abs.Ints x → A
  no_ints s x e = absurd (cc)

  pub no_explicit : {A : Type 0} (y : Abs I) (s : Addrs) (m : ℤ) → y ≡ abs.Addrs s → IsExplicitIn d c y m → A
  no_explicit y s m e (x, ms, is, some, k) = no_ints s x (sym e ∙ is)

  -- the type of a register

  abbrev IsOfType : Named → ValueType → Abs I → Type 0
  IsOfType l t y = (slice_get c.func.now.locals r ≡ Some l) × (scalar_value l.1 ≡ Some t) × AreOf d c.program.now.target t y

  by_type : (l : Named) (t : ValueType) (y : Abs I) → is_register c.func.now r ≡ true → IsOfType l t y → MayHave d c r y
  by_type l t (abs.Addrs s) h k = tt
  by_type l NoValue (abs.Ints x) h k = absurd k.2
  by_type l (Integer t) (abs.Ints x) h k = (t, record { register = h; local = l; is_local = k.0; is_type = k.1 }, k.2)
  by_type l (ToObject constant volatile to) (abs.Ints x) h k = absurd k.2
  by_type l (ToFunction sig) (abs.Ints x) h k = absurd k.2

module _ {I : Type 0} (d : Domain I) (t : Tested I) (r : ℕ) where
  pub may_have : (y : Abs I) → is_register t.context.now.func.now r ≡ true → IsOfRegisterIn d t r y → MayHave d t.context.now r y
  may_have y h (l, type, is_local, is_type, of) = by_type d t.context.now r l type y h (is_local, is_type, of)

  pub all_held : (y : Abs I) (x : I) → y ≡ abs.Ints x → MayHave d t.context.now r y → MayHoldAll d t.context.now r x
  all_held y x e h = subst (λ z. MayHave d t.context.now r z) e h

  -- what stays of an explicit set is below it
  pub stays_below : (x u : I) (members : List ℤ) → ((m : ℤ) → Contains members m ↔ d.has x m) → IsHull d (λ m. Contains members m × StaysIn d t r m) u → d.below u x
  stays_below x u members all h = h.least x (λ m k. (all m).0 k.0)

  pub worked_each : (x : I) (members : List ℤ) → d.members x ≡ Some members → ((m : ℤ) → Contains members m → IsWorkedAt d t r m) → (m : ℤ) → IsExplicitIn d t.context.now (abs.Ints x) m → IsWorkedAt d t r m
  worked_each x members e h m k = h m (explicit_member d t.context.now r x members m e k)

  pub worked_none : (x : I) → d.members x ≡ None → (m : ℤ) → IsExplicitIn d t.context.now (abs.Ints x) m → IsWorkedAt d t r m
  worked_none x e m k = no_member d t.context.now r x m e k

  -- of a set of integers

  pub left_ints : (y : Abs I) (x u : I) → y ≡ abs.Ints x → IsRangeLeftIn d t r x u → IsLeftIn d t r y (abs.Ints u)
  left_ints y x u e h = subst (λ z. IsLeftIn d t r z (abs.Ints u)) (sym e) h

  pub below_ints : (y : Abs I) (x u : I) → y ≡ abs.Ints x → d.below u x → IsBelowAbs d.below (abs.Ints u) y
  below_ints y x u e h = subst (λ z. IsBelowAbs d.below (abs.Ints u) z) (sym e) h

  pub worked_ints : (y : Abs I) (x : I) → y ≡ abs.Ints x → ((m : ℤ) → IsExplicitIn d t.context.now (abs.Ints x) m → IsWorkedAt d t r m) → (m : ℤ) → IsExplicitIn d t.context.now y m → IsWorkedAt d t r m
  worked_ints y x e h m k = h m (subst (λ z. IsExplicitIn d t.context.now z m) e k)

  pub worked_addresses : (y : Abs I) (s : Addrs) → y ≡ abs.Addrs s → (m : ℤ) → IsExplicitIn d t.context.now y m → IsWorkedAt d t r m
  worked_addresses y s e m k = no_explicit d t.context.now r y s m e k

  -- whether a set is of the type of a register

  pub local_there : (locals : List Named) (l : Option Named) → locals ≡ t.context.now.func.now.locals → slice_get locals r ≡ l → slice_get t.context.now.func.now.locals r ≡ l
  local_there locals l e h = subst (λ ls. slice_get ls r ≡ l) e h

  pub of_local : (l : Named) (type : ValueType) (y : Abs I) (b : Bool) → slice_get t.context.now.func.now.locals r ≡ Some l → scalar_value l.1 ≡ Some type →
      (IsTrue b ↔ AreOf d t.context.now.program.now.target type y) → (IsTrue b ↔ IsOfRegisterIn d t r y)
  of_local l type y b e k tells = ((λ h. (l, type, e, k, tells.0 h)), (λ h. tells.1 (same h.0 h.1 h.2 h.3 h.4)))
    where
      same : (l' : Named) (type' : ValueType) → slice_get t.context.now.func.now.locals r ≡ Some l' → scalar_value l'.1 ≡ Some type' → AreOf d t.context.now.program.now.target type' y → AreOf d t.context.now.program.now.target type y
      same l' type' e' k' h =
          let is : l' ≡ l = same_Some l' l (sym e' ∙ e) in
          subst (λ z. AreOf d t.context.now.program.now.target z y) (same_Some type' type (sym k' ∙ (ap (λ (z : Named). scalar_value z.1) is ∙ k))) h

  no_local_type : {A : Type 0} (l : Named) (type : ValueType) → scalar_value l.1 ≡ None → scalar_value l.1 ≡ Some type → A
  no_local_type l type e k = let f : None ≡ Some type = sym e ∙ k in absurd (cc)

  pub of_no_type : (l : Named) (y : Abs I) → slice_get t.context.now.func.now.locals r ≡ Some l → scalar_value l.1 ≡ None → (IsTrue false ↔ IsOfRegisterIn d t r y)
  of_no_type l y e k = ((λ h. let f : false ≡ true = h in absurd (cc)), (λ h. no_local_type l h.1 k (ap (λ (z : Named). scalar_value z.1) (same_Some l h.0 (sym e ∙ h.2)) ∙ h.3)))

  no_local : {A : Type 0} (l : Named) → slice_get t.context.now.func.now.locals r ≡ None → slice_get t.context.now.func.now.locals r ≡ Some l → A
  no_local l e k = let f : None ≡ Some l = sym e ∙ k in absurd (cc)

  pub of_no_local : (y : Abs I) → slice_get t.context.now.func.now.locals r ≡ None → (IsTrue false ↔ IsOfRegisterIn d t r y)
  of_no_local y e = ((λ h. let f : false ≡ true = h in absurd (cc)), (λ h. no_local h.0 e h.2))

  -- a cell that equals the register

  pub left_unlike : (y z : Abs I) (b : Bool) → (IsTrue b ↔ IsOfRegisterIn d t r y) → b ≡ false → z ≡ y → IsLeftAlikeIn d t r y z
  left_unlike y z b tells e is = Unlike (λ h. let f : b ≡ true = tells.1 h in absurd (cc)) is

  pub worked_unlike : (y : Abs I) (b : Bool) → (IsTrue b ↔ IsOfRegisterIn d t r y) → b ≡ false → IsOfRegisterIn d t r y → (m : ℤ) → IsExplicitIn d t.context.now y m → IsWorkedAt d t r m
  worked_unlike y b tells e h m k = let f : b ≡ true = tells.1 h in absurd (cc)

  pub left_same_type : (y z : Abs I) → IsOfRegisterIn d t r y → IsLeftIn d t r y z → IsLeftAlikeIn d t r y z
  left_same_type y z h k = Alike h k

-- a copy is below what it copies
pub copy_below : {A : Type 0} (below : A → A → Type 0) (x z : A) → below x x → z ≡ x → below z x
copy_below below x z h e = subst (λ u. below u x) (sym e) h
