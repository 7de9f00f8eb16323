-- An expression has one abstract value, and a place one set of addresses. By induction over how the first one comes about; the second one
-- comes about by the same form. What a domain gives on the same sets is below itself both ways, and so the same.
use Rattle.std.proofs.Common.{◌≡◌, ℕ, ℤ, Bool, true, false, ◌&&◌, [], Option, Some, ap, sym, ◌∙◌, subst}
use Rattle.std.proofs.lemmas.Option.{same_Some}
use Rattle.std.specs.Prelude.{option_and_then}
use Rattle.cc_state_operators.specs.CcLattice.Domains.{AreOperands, AreOperandsOne}
use Rattle.cc_program.specs.CcNum.declared.int_type.IntType.{IntType}
use Rattle.cc_program.specs.CcNum.declared.op.BinOp.{BinOp}
use Rattle.cc_program.specs.CcNum.declared.op.UnOp.{UnOp}
use Rattle.cc_program.specs.CcNum.declared.target.Target.{Target}
use Rattle.cc_state_operators.specs.CcPlaces.Moves.{HasMoved}
use Rattle.cc_state_operators.specs.CcPlaces.Sets.{IsSetOf}
use Rattle.cc_state_operators.specs.CcPlaces.declared.abs.Abs.{Abs}
use Rattle.cc_state_operators.specs.CcPlaces.declared.abs.Abs.TheVariants as abs
use Rattle.cc_state_operators.specs.CcPlaces.declared.addrs.Addrs.{Addrs}
use Rattle.cc_state_operators.specs.CcPlaces.laws.AbstractLaws.{abs_same}
use Rattle.cc_state_operators.specs.CcPlaces.laws.SetLaws.{sets_same, set_within}
use Rattle.cc_program.specs.declared.expr.Expr.{Expr, out-Expr}
use Rattle.cc_program.specs.declared.expr.Expr.TheOpen as one
use Rattle.cc_program.specs.declared.expr.Place.{Place as PlaceOf, out-Place}
use Rattle.cc_program.specs.declared.func.Func.{Func}
use Rattle.cc_program.specs.declared.program.Program.{Program}
use Rattle.cc_program.specs.declared.value.Address.{Address}
use Rattle.cc_program.specs.declared.value.Address.TheVariants as address
use Rattle.cc_program.specs.declared.value.Root.TheVariants as root
use Rattle.cc_state_operators.specs.Addresses.{object_address, IsOnly, IsNone, AreMembers, AreElements}
use Rattle.cc_state_operators.specs.Domains.{Domain, IsHull, IsWhole, IsUnion}
use Rattle.cc_state_operators.specs.Results.{is_told, offsets, IsComparison, ByBoth, ByEither, IsArm, IsGap}
use Rattle.cc_state_values.specs.Values.{IsVal, OfConst, OfNull, OfFunction, OfRegister, OfAddress, OfUn, OfBin, OfConv, OfQualify, OfMove, OfGap, OfCompare, OfBoth, OfEither, OfChoose, Designates, AtLocal, AtStatic, AtDevice, AtElement, AtMember, AtTarget}
use Rattle.cc_state_operators.specs.CcSyntax.Effects.{place_effects_of}
use Rattle.cc_state_operators.specs.CcSyntax.Programs.{place_type}
use Rattle.cc_state_operators.specs.CcSyntax.Values.{PlaceType}

-- sets of addresses

pub one_set_of : (W : Address → Type 0) (r s : Addrs) → IsSetOf W r → IsSetOf W s → r ≡ s
one_set_of W r s h k = sets_same r s (set_within W r s h k) (set_within W s r k h)

-- what the laws of a domain say of its order
pub record IsOrdered {I : Type 0} (d : Domain I) : Type 0 where
  pub same : (x y : I) → d.below x y → d.below y x → x ≡ y
  pub itself : (x : I) → d.below x x
  pub by_members : (x y : I) → ((n : ℤ) → d.has x n → d.has y n) → d.below x y
  pub op_grows : (o : BinOp) (a b r x y s : I) (t : IntType) (target : Target) → AreOperands d.has o x y t target → d.op o a b t target r → d.op o x y t target s → d.below a x → d.below b y → d.below r s
  pub op_one_grows : (o : UnOp) (a r x s : I) (t : IntType) (target : Target) → AreOperandsOne d.has x t target → d.op_one o a t target r → d.op_one o x t target s → d.below a x → d.below r s
  pub to_grows : (a r x s : I) (t : IntType) (target : Target) → d.to a t target r → d.to x t target s → d.below a x → d.below r s

pub order_of : {I : Type 0} (d : Domain I) (alike : I → I → Type 0) → ((x y : I) → alike x y) → ((x : I) → alike x x → d.below x x) → ((x y : I) → alike x y → d.below x y → d.below y x → x ≡ y) →
    ((o : BinOp) (a b r x y s : I) (t : IntType) (target : Target) → AreOperands d.has o x y t target → d.op o a b t target r → d.op o x y t target s → d.below a x → d.below b y → d.below r s) →
    ((o : UnOp) (a r x s : I) (t : IntType) (target : Target) → AreOperandsOne d.has x t target → d.op_one o a t target r → d.op_one o x t target s → d.below a x → d.below r s) →
    ((a r x s : I) (t : IntType) (target : Target) → d.to a t target r → d.to x t target s → d.below a x → d.below r s) → ((x y : I) → ((n : ℤ) → d.has x n → d.has y n) → d.below x y) → IsOrdered d
order_of d alike all itself same op op_one to members = record {
  same = λ x y. same x y (all x y);
  itself = λ x. itself x (all x x);
  by_members = members;
  op_grows = op;
  op_one_grows = op_one;
  to_grows = to;
}

module _ {I : Type 0} (d : Domain I) (o : IsOrdered d) where
  -- sets that a domain gives

  pub one_hull : (image : ℤ → Type 0) (x y : I) → IsHull d image x → IsHull d image y → x ≡ y
  one_hull image x y h k = o.same x y (h.least y k.has_all) (k.least x h.has_all)

  one_whole : (t : IntType) (target : Target) (x y : I) → IsWhole d t target x → IsWhole d t target y → x ≡ y
  one_whole t target x y h k = o.same x y (o.by_members x y (λ n m. (k n).0 ((h n).1 m))) (o.by_members y x (λ n m. (h n).0 ((k n).1 m)))

  one_result : (p : UnOp) (t : IntType) (target : Target) (x y r s : I) → x ≡ y → AreOperandsOne d.has x t target → AreOperandsOne d.has y t target → d.op_one p x t target r → d.op_one p y t target s → r ≡ s
  one_result p t target x y r s e f g h k =
      o.same r s (o.op_one_grows p x r y s t target g h k (subst (λ z. d.below x z) e (o.itself x))) (o.op_one_grows p y s x r t target f k h (subst (λ z. d.below z x) e (o.itself x)))

  one_result_of_two : (p : BinOp) (t : IntType) (target : Target) (x y v w r s : I) → x ≡ y → v ≡ w → AreOperands d.has p x v t target → AreOperands d.has p y w t target → d.op p x v t target r → d.op p y w t target s → r ≡ s
  one_result_of_two p t target x y v w r s e q f g h k =
      o.same r s
      (o.op_grows p x v r y w s t target g h k (subst (λ z. d.below x z) e (o.itself x)) (subst (λ z. d.below v z) q (o.itself v)))
      (o.op_grows p y w s x v r t target f k h (subst (λ z. d.below z x) e (o.itself x)) (subst (λ z. d.below z v) q (o.itself v)))

  one_converted : (t : IntType) (target : Target) (x y r s : I) → x ≡ y → d.to x t target r → d.to y t target s → r ≡ s
  one_converted t target x y r s e h k =
      o.same r s (o.to_grows x r y s t target h k (subst (λ z. d.below x z) e (o.itself x))) (o.to_grows y s x r t target k h (subst (λ z. d.below z x) e (o.itself x)))

  one_moved : (back : Bool) (r s : Addrs) (x y : I) (u w : Addrs) → r ≡ s → x ≡ y → IsSetOf (HasMoved (offsets back (d.has x)) r r.is_exact) u → IsSetOf (HasMoved (offsets back (d.has y)) s s.is_exact) w → u ≡ w
  one_moved back r s x y u w e q h k =
      one_set_of (HasMoved (offsets back (d.has x)) r r.is_exact) u w h
      (subst (λ (z : Addrs). IsSetOf (HasMoved (offsets back (d.has x)) z z.is_exact) w) (sym e) (subst (λ z. IsSetOf (HasMoved (offsets back (d.has z)) s s.is_exact) w) (sym q) k))

  one_gap : (target : Target) (r s : Addrs) (told : Bool) (x y : I) → IsGap d target r s told x → IsGap d target r s told y → x ≡ y
  one_gap target r s true x y h k = one_hull _ x y h k
  one_gap target r s false x y h k = one_whole _ target x y h k

  one_comparison : (p : BinOp) (r s : Addrs) (told : Bool) (x y : I) → IsComparison d p r s told x → IsComparison d p r s told y → x ≡ y
  one_comparison p r s true x y h k = one_hull _ x y h k
  one_comparison p r s false x y h k = one_hull _ x y h k

  -- where the sets of both pointers are the same
  gaps_same : (target : Target) (r s t u : Addrs) (x y : I) → r ≡ t → s ≡ u → IsGap d target r s (is_told r && is_told s) x → IsGap d target t u (is_told t && is_told u) y → x ≡ y
  gaps_same target r s t u x y e q h k =
      one_gap target r s (is_told r && is_told s) x y h (subst (λ (z : Addrs). IsGap d target z s (is_told z && is_told s) y) (sym e) (subst (λ (z : Addrs). IsGap d target t z (is_told t && is_told z) y) (sym q) k))

  comparisons_same : (p : BinOp) (r s t u : Addrs) (x y : I) → r ≡ t → s ≡ u → IsComparison d p r s (is_told r && is_told s) x → IsComparison d p t u (is_told t && is_told u) y → x ≡ y
  comparisons_same p r s t u x y e q h k =
      one_comparison p r s (is_told r && is_told s) x y h
      (subst (λ (z : Addrs). IsComparison d p z s (is_told z && is_told s) y) (sym e) (subst (λ (z : Addrs). IsComparison d p t z (is_told t && is_told z) y) (sym q) k))

  both_same : (x y v w : Abs I) (r s : I) → x ≡ y → v ≡ w → IsHull d (ByBoth d x v) r → IsHull d (ByBoth d y w) s → r ≡ s
  both_same x y v w r s e q h k = one_hull (ByBoth d x v) r s h (subst (λ z. IsHull d (ByBoth d z v) s) (sym e) (subst (λ z. IsHull d (ByBoth d y z) s) (sym q) k))

  either_same : (x y v w : Abs I) (r s : I) → x ≡ y → v ≡ w → IsHull d (ByEither d x v) r → IsHull d (ByEither d y w) s → r ≡ s
  either_same x y v w r s e q h k = one_hull (ByEither d x v) r s h (subst (λ z. IsHull d (ByEither d z v) s) (sym e) (subst (λ z. IsHull d (ByEither d y z) s) (sym q) k))

  one_union : (kind : Abs I) (values : Abs I → Type 0) (x y : Abs I) → IsUnion d kind values x → IsUnion d kind values y → x ≡ y
  one_union kind values x y h k = abs_same (λ a b. Unit {0}) d.below (λ a b i. o.same a b) (λ a b. tt) x y (h.least y k.alike k.above) (k.least x h.alike h.above)

  unions_same : (c b x y v w r s : Abs I) → c ≡ b → x ≡ y → v ≡ w → IsUnion d x (IsArm d c x v) r → IsUnion d y (IsArm d b y w) s → r ≡ s
  unions_same c b x y v w r s f e q h k =
      one_union x (IsArm d c x v) r s h (subst (λ z. IsUnion d x (IsArm d z x v) s) (sym f) (subst (λ z. IsUnion d z (IsArm d b z v) s) (sym e) (subst (λ z. IsUnion d y (IsArm d b y z) s) (sym q) k)))

  module _ (p : Program) (id : ℕ) (f : Func) (register : ℕ → Option (Abs I)) where
    abbrev Valued : Expr → Abs I → Type 0
    Valued e y = IsVal d p id f register e y

    abbrev Placed : PlaceOf → Addrs → Type 0
    Placed a s = Designates d p id f register a s

    -- how a value comes about, by the form of the expression
    abbrev pub ValueAt : one.Expr-F Expr PlaceOf → Abs I → Type 0
    ValueAt (one.Const n t) y = (x : I) × IsHull d (λ m. m ≡ n) x × (y ≡ abs.Ints x)
    ValueAt (one.Null t) y = (s : Addrs) × IsOnly address.Null s × (y ≡ abs.Addrs s)
    ValueAt (one.FuncAddr g) y = (s : Addrs) × IsOnly (address.Func g) s × (y ≡ abs.Addrs s)
    ValueAt (one.Load a) y = (r : ℕ) × ((place_effects_of f a).register ≡ Some r) × (register r ≡ Some y)
    ValueAt (one.AddrOf a) y = (s : Addrs) × Placed a s × (y ≡ abs.Addrs s)
    ValueAt (one.Un q t a) y = (x : I) × (z : I) × Valued a (abs.Ints x) × AreOperandsOne d.has x t p.target × d.op_one q x t p.target z × (y ≡ abs.Ints z)
    ValueAt (one.Bin q t a b) y = (x : I) × (w : I) × (z : I) × Valued a (abs.Ints x) × Valued b (abs.Ints w) × AreOperands d.has q x w t p.target × d.op q x w t p.target z × (y ≡ abs.Ints z)
    ValueAt (one.Conv t a) y = (x : I) × (z : I) × Valued a (abs.Ints x) × d.to x t p.target z × (y ≡ abs.Ints z)
    ValueAt (one.Qualify t a) y = Valued a y
    ValueAt (one.Move a b back) y = (s : Addrs) × (r : Addrs) × (x : I) × Valued a (abs.Addrs s) × Valued b (abs.Ints x) × IsSetOf (HasMoved (offsets back (d.has x)) s s.is_exact) r × (y ≡ abs.Addrs r)
    ValueAt (one.Gap a b) y = (s : Addrs) × (t : Addrs) × (x : I) × Valued a (abs.Addrs s) × Valued b (abs.Addrs t) × IsGap d p.target s t (is_told s && is_told t) x × (y ≡ abs.Ints x)
    ValueAt (one.Compare q a b) y = (s : Addrs) × (t : Addrs) × (x : I) × Valued a (abs.Addrs s) × Valued b (abs.Addrs t) × IsComparison d q s t (is_told s && is_told t) x × (y ≡ abs.Ints x)
    ValueAt (one.Both a b) y = (x : Abs I) × (w : Abs I) × (z : I) × Valued a x × Valued b w × IsHull d (ByBoth d x w) z × (y ≡ abs.Ints z)
    ValueAt (one.Either a b) y = (x : Abs I) × (w : Abs I) × (z : I) × Valued a x × Valued b w × IsHull d (ByEither d x w) z × (y ≡ abs.Ints z)
    ValueAt (one.Choose c a b) y = (x : Abs I) × (u : Abs I) × (w : Abs I) × Valued c x × Valued a u × Valued b w × IsUnion d u (IsArm d x u w) y
    ValueAt (one.Assign a e) y = ⊥
    ValueAt (one.Change a q t e) y = ⊥
    ValueAt (one.After a down) y = ⊥
    ValueAt (one.Call g args) y = ⊥
    ValueAt (one.Intr i a) y = ⊥
    ValueAt (one.Seq a b) y = ⊥

    abbrev pub PlacesAt : one.Place-F Expr PlaceOf → Addrs → Type 0
    PlacesAt (one.Local r) s = IsOnly (object_address (root.Auto 0 id r) []) s
    PlacesAt (one.Static i) s = IsOnly (object_address (root.Static i) []) s
    PlacesAt (one.Device n) s = IsNone s
    PlacesAt (one.Element b i) s = (t : PlaceType) × (r : Addrs) × (x : I) × (place_type p f.locals b ≡ Some t) × Placed b r × Valued i (abs.Ints x) × AreElements p t (d.has x) r s
    PlacesAt (one.Member b m) s = (t : PlaceType) × (r : Addrs) × (place_type p f.locals b ≡ Some t) × Placed b r × AreMembers p t m r s
    PlacesAt (one.Deref e) s = Valued e (abs.Addrs s)

    value_form : (e : Expr) (y : Abs I) → Valued e y → ValueAt (out-Expr e) y
    value_form e y (OfConst n t x h k l) = subst (λ z. ValueAt z y) (sym h) (x, k, l)
    value_form e y (OfNull t s h k l) = subst (λ z. ValueAt z y) (sym h) (s, k, l)
    value_form e y (OfFunction g s h k l) = subst (λ z. ValueAt z y) (sym h) (s, k, l)
    value_form e y (OfRegister a r h k l) = subst (λ z. ValueAt z y) (sym h) (r, k, l)
    value_form e y (OfAddress a s h k l) = subst (λ z. ValueAt z y) (sym h) (s, k, l)
    value_form e y (OfUn q t a x z h k w g l) = subst (λ z. ValueAt z y) (sym h) (x, z, k, w, g, l)
    value_form e y (OfBin q t a b x w z h k m v g l) = subst (λ z. ValueAt z y) (sym h) (x, w, z, k, m, v, g, l)
    value_form e y (OfConv t a x z h k g l) = subst (λ z. ValueAt z y) (sym h) (x, z, k, g, l)
    value_form e y (OfQualify t a h k) = subst (λ z. ValueAt z y) (sym h) k
    value_form e y (OfMove a b back s r x h k m g l) = subst (λ z. ValueAt z y) (sym h) (s, r, x, k, m, g, l)
    value_form e y (OfGap a b s t x h k m g l) = subst (λ z. ValueAt z y) (sym h) (s, t, x, k, m, g, l)
    value_form e y (OfCompare q a b s t x h k m g l) = subst (λ z. ValueAt z y) (sym h) (s, t, x, k, m, g, l)
    value_form e y (OfBoth a b x w z h k m g l) = subst (λ z. ValueAt z y) (sym h) (x, w, z, k, m, g, l)
    value_form e y (OfEither a b x w z h k m g l) = subst (λ z. ValueAt z y) (sym h) (x, w, z, k, m, g, l)
    value_form e y (OfChoose c a b x u w h k m n g) = subst (λ z. ValueAt z y) (sym h) (x, u, w, k, m, n, g)

    place_form : (a : PlaceOf) (s : Addrs) → Placed a s → PlacesAt (out-Place a) s
    place_form a s (AtLocal r h k) = subst (λ z. PlacesAt z s) (sym h) k
    place_form a s (AtStatic i h k) = subst (λ z. PlacesAt z s) (sym h) k
    place_form a s (AtDevice n h k) = subst (λ z. PlacesAt z s) (sym h) k
    place_form a s (AtElement b i t r x h k l m g) = subst (λ z. PlacesAt z s) (sym h) (t, r, x, k, l, m, g)
    place_form a s (AtMember b m t r h k l g) = subst (λ z. PlacesAt z s) (sym h) (t, r, k, l, g)
    place_form a s (AtTarget e h k) = subst (λ z. PlacesAt z s) (sym h) k

    pub value_at : (e : Expr) (x : one.Expr-F Expr PlaceOf) (y : Abs I) → out-Expr e ≡ x → Valued e y → ValueAt x y
    value_at e x y h v = subst (λ z. ValueAt z y) h (value_form e y v)

    pub places_at : (a : PlaceOf) (x : one.Place-F Expr PlaceOf) (s : Addrs) → out-Place a ≡ x → Placed a s → PlacesAt x s
    places_at a x s h v = subst (λ z. PlacesAt z s) h (place_form a s v)

    ints_same : (x y : I) → abs.Ints x ≡ abs.Ints y → x ≡ y
    ints_same x y h = cc

    abbrev of_ints : I → Abs I
    of_ints x = abs.Ints x

    abbrev of_addrs : Addrs → Abs I
    of_addrs s = abs.Addrs s

    addrs_same : (r s : Addrs) → of_addrs r ≡ of_addrs s → r ≡ s
    addrs_same r s h = cc

    integers : (y z : Abs I) (x w : I) → y ≡ abs.Ints x → z ≡ abs.Ints w → x ≡ w → y ≡ z
    integers y z x w h k e = h ∙ ap of_ints e ∙ sym k

    addresses : (y z : Abs I) (r s : Addrs) → y ≡ abs.Addrs r → z ≡ abs.Addrs s → r ≡ s → y ≡ z
    addresses y z r s h k e = h ∙ ap of_addrs e ∙ sym k

    registers_same : (a q r : Option ℕ) (y z : Abs I) → a ≡ q → a ≡ r → option_and_then register q ≡ Some y → option_and_then register r ≡ Some z → y ≡ z
    registers_same a q r y z h k l m = same_Some y z (sym l ∙ (ap (λ u. option_and_then register u) (sym h ∙ k) ∙ m))

    elements_same : (b : PlaceOf) (t u : PlaceType) (q r s w : Addrs) (x y : I) → place_type p f.locals b ≡ Some t → place_type p f.locals b ≡ Some u → q ≡ r → x ≡ y → AreElements p t (d.has x) q s → AreElements p u (d.has y) r w → s ≡ w
    elements_same b t u q r s w x y h k e g m n =
        one_set_of _ s w m (subst (λ z. AreElements p z (d.has x) q w) (same_Some u t (sym k ∙ h)) (subst (λ z. AreElements p u (d.has z) q w) (sym g) (subst (λ z. AreElements p u (d.has y) z w) (sym e) n)))

    members_same : (b : PlaceOf) (m : ℕ) (t u : PlaceType) (q r s w : Addrs) → place_type p f.locals b ≡ Some t → place_type p f.locals b ≡ Some u → q ≡ r → AreMembers p t m q s → AreMembers p u m r w → s ≡ w
    members_same b m t u q r s w h k e g n = one_set_of _ s w g (subst (λ z. AreMembers p z m q w) (same_Some u t (sym k ∙ h)) (subst (λ z. AreMembers p u m z w) (sym e) n))

    mutual
      pub same_value : (e : Expr) (y z : Abs I) → Valued e y → Valued e z → y ≡ z
      same_value e y z (OfConst n t x h k l) v = let (x', k', l') = value_at e (one.Const n t) z h v in integers y z x x' l l' (one_hull (λ m. m ≡ n) x x' k k')
      same_value e y z (OfNull t s h k l) v = let (s', k', l') = value_at e (one.Null t) z h v in addresses y z s s' l l' (one_set_of _ s s' k k')
      same_value e y z (OfFunction g s h k l) v = let (s', k', l') = value_at e (one.FuncAddr g) z h v in addresses y z s s' l l' (one_set_of _ s s' k k')
      same_value e y z (OfRegister a r h k l) v = let (r', k', l') = value_at e (one.Load a) z h v in registers_same (place_effects_of f a).register (Some r) (Some r') y z k k' l l'
      same_value e y z (OfAddress a s h k l) v = let (s', k', l') = value_at e (one.AddrOf a) z h v in addresses y z s s' l l' (same_set a s s' k k')
      same_value e y z (OfUn q t a x w h k g m l) v =
          let (x', w', k', g', m', l') = value_at e (one.Un q t a) z h v in
          integers y z w w' l l' (one_result q t p.target x x' w w' (ints_same x x' (same_value a (abs.Ints x) (abs.Ints x') k k')) g g' m m')
      same_value e y z (OfBin q t a b x u w h k j g m l) v =
          let (x', u', w', k', j', g', m', l') = value_at e (one.Bin q t a b) z h v in
          integers y z w w' l l'
          (one_result_of_two q t p.target x x' u u' w w' (ints_same x x' (same_value a (abs.Ints x) (abs.Ints x') k k')) (ints_same u u' (same_value b (abs.Ints u) (abs.Ints u') j j')) g g' m m')
      same_value e y z (OfConv t a x w h k m l) v =
          let (x', w', k', m', l') = value_at e (one.Conv t a) z h v in
          integers y z w w' l l' (one_converted t p.target x x' w w' (ints_same x x' (same_value a (abs.Ints x) (abs.Ints x') k k')) m m')
      same_value e y z (OfQualify t a h k) v = same_value a y z k (value_at e (one.Qualify t a) z h v)
      same_value e y z (OfMove a b back s r x h k j m l) v =
          let (s', r', x', k', j', m', l') = value_at e (one.Move a b back) z h v in
          addresses y z r r' l l' (one_moved back s s' x x' r r' (addrs_same s s' (same_value a (abs.Addrs s) (abs.Addrs s') k k')) (ints_same x x' (same_value b (abs.Ints x) (abs.Ints x') j j')) m m')
      same_value e y z (OfGap a b s t x h k j m l) v =
          let (s', t', x', k', j', m', l') = value_at e (one.Gap a b) z h v in
          integers y z x x' l l' (gaps_same p.target s t s' t' x x' (addrs_same s s' (same_value a (abs.Addrs s) (abs.Addrs s') k k')) (addrs_same t t' (same_value b (abs.Addrs t) (abs.Addrs t') j j')) m m')
      same_value e y z (OfCompare q a b s t x h k j m l) v =
          let (s', t', x', k', j', m', l') = value_at e (one.Compare q a b) z h v in
          integers y z x x' l l' (comparisons_same q s t s' t' x x' (addrs_same s s' (same_value a (abs.Addrs s) (abs.Addrs s') k k')) (addrs_same t t' (same_value b (abs.Addrs t) (abs.Addrs t') j j')) m m')
      same_value e y z (OfBoth a b x u w h k j m l) v =
          let (x', u', w', k', j', m', l') = value_at e (one.Both a b) z h v in
          integers y z w w' l l' (both_same x x' u u' w w' (same_value a x x' k k') (same_value b u u' j j') m m')
      same_value e y z (OfEither a b x u w h k j m l) v =
          let (x', u', w', k', j', m', l') = value_at e (one.Either a b) z h v in
          integers y z w w' l l' (either_same x x' u u' w w' (same_value a x x' k k') (same_value b u u' j j') m m')
      same_value e y z (OfChoose c a b x u w h k i j m) v =
          let (x', u', w', k', i', j', m') = value_at e (one.Choose c a b) z h v in
          unions_same x x' u u' w w' y z (same_value c x x' k k') (same_value a u u' i i') (same_value b w w' j j') m m'

      pub same_set : (a : PlaceOf) (r s : Addrs) → Placed a r → Placed a s → r ≡ s
      same_set a r s (AtLocal q h k) v = one_set_of _ r s k (places_at a (one.Local q) s h v)
      same_set a r s (AtStatic i h k) v = one_set_of _ r s k (places_at a (one.Static i) s h v)
      same_set a r s (AtDevice n h k) v = one_set_of _ r s k (places_at a (one.Device n) s h v)
      same_set a r s (AtElement b i t q x h k l m g) v =
          let (t', q', x', k', l', m', g') = places_at a (one.Element b i) s h v in
          elements_same b t t' q q' r s x x' k k' (same_set b q q' l l') (ints_same x x' (same_value i (abs.Ints x) (abs.Ints x') m m')) g g'
      same_set a r s (AtMember b m t q h k l g) v =
          let (t', q', k', l', g') = places_at a (one.Member b m) s h v in
          members_same b m t t' q q' r s k k' (same_set b q q' l l') g g'
      same_set a r s (AtTarget e h k) v = addrs_same r s (same_value e (abs.Addrs r) (abs.Addrs s) k (places_at a (one.Deref e) s h v))
