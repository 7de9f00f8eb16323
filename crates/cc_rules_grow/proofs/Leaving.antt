-- What a test leaves of the set of a register grows with the sets of the registers: of an explicit set the members that stay, since what is
-- tested grows; of a range what comparisons keep; and what stays of an explicit set is kept of a range above it.
use Rattle.std.proofs.Common.{◌≡◌, ◌⊎◌, inl, inr, ℕ, ℤ, Bool, true, false, true≢false, arith, List, [], ◌∷◌, Contains, Option, Some, None, refl, ap, sym, ◌∙◌, subst}
use Rattle.std.specs.Prelude.{◌==◌, if◌then◌else◌}
use Rattle.std.proofs.lemmas.Bool.{eqb-true, eq-eqb}
use Rattle.std.proofs.lemmas.List.Elements.{Contains-append_right}
use Rattle.std.proofs.lemmas.Option.{same_Some}
use Rattle.cc_rules.specs.CcLattice.Domains.{AreOperands, IsAtMostOne, is_comparison, passes}
use Rattle.cc_program.specs.CcNum.declared.int_type.IntType.{IntType}
use Rattle.cc_program.specs.CcNum.declared.op.BinOp.{BinOp}
use Rattle.cc_program.specs.CcNum.declared.op.BinOp.TheVariants as op
use Rattle.cc_rules.specs.CcPlaces.Abstract.{IsBelowAbs, HasValue}
use Rattle.cc_rules.specs.CcPlaces.declared.abs.Abs.{Abs}
use Rattle.cc_rules.specs.CcPlaces.declared.abs.Abs.TheVariants as abs
use Rattle.cc_rules.specs.CcPlaces.declared.addrs.Addrs.{Addrs}
use Rattle.cc_program.specs.declared.expr.Expr.{Expr, out-Expr}
use Rattle.cc_program.specs.declared.expr.Expr.TheOpen as one
use Rattle.cc_program.specs.declared.expr.Place.{Place as PlaceOf}
use Rattle.cc_program.specs.declared.func.Func.{Func}
use Rattle.cc_program.specs.declared.program.Program.{Program}
use Rattle.cc_program.specs.declared.value.Address.{Address}
use Rattle.cc_program.specs.declared.value.Value.{Value}
use Rattle.cc_program.specs.declared.value.Value.TheVariants.{Int, Place}
use Rattle.cc_rules.specs.CcRulesFlows.Tests.{Test, Is, Equals, Differs, Passes, turned, passing, HasPassing, with_member, Stays, IsRead as IsReadOf, IsOperand, IsCutAs, Cut, Uncut, IsCutBy, ByNone, ByFirst, IsCut, ByComparison, ByLabel, ByLabels, Compares, IsLeft, OfMembers, OfRange, OfOther, OfAddresses}
use Rattle.cc_rules_grow.proofs.Comparing.{equal_itself, different, passing_compares, passes_as, turned_compares, turned_passes, truth_is}
use Rattle.cc_rules_grow.proofs.Kept.{IsKept, ValuesGrow, abs_itself, value_grows, one_alone}
use Rattle.cc_rules.specs.CcStateOperators.Domains.{Domain, IsHull}
use Rattle.cc_rules.proofs.CcStateValues.Same.{IsOrdered, value_at}
use Rattle.cc_rules.specs.CcStateValues.Values.{IsVal}
use Rattle.cc_state_points.specs.CcStateValuesGrow.Growth.{AreRegistersBelow, RegistersPoint, MayPoint}
use Rattle.cc_rules.specs.CcValues.Values.{is_true}

abbrev of_ints : {I : Type 0} → I → Abs I
of_ints x = abs.Ints x

pub ints_same : {I : Type 0} (x y : I) → abs.Ints x ≡ abs.Ints y → x ≡ y
ints_same x y h = cc

int_same : (n m : ℤ) → Int n ≡ Int m → n ≡ m
int_same n m e = cc

no_addresses : {I : Type 0} {C : Type 0} (x : I) (s : Addrs) → Some (abs.Ints x) ≡ Some (abs.Addrs s) → C
no_addresses x s h = absurd (cc)

module _ {I : Type 0} (d : Domain I) (o : IsOrdered d) (k : IsKept d) (p : Program) (id : ℕ) (f : Func) (grown : ValuesGrow d p id f) (register more : ℕ → Option (Abs I))
    (points : RegistersPoint p f register) (below : AreRegistersBelow d.below register more) (e : Expr) (test : Test) where
  abbrev Below : Abs I → Abs I → Type 0
  Below x y = IsBelowAbs d.below x y

  -- ---- a register at other members

  abbrev pub With : (ℕ → Option (Abs I)) → ℕ → I → ℕ → Option (Abs I)
  With own r x = with_member d p id f own e test r x

  with_points : (r : ℕ) (x : I) → RegistersPoint p f (With register r x)
  with_points r x q local to s own is there = by (q == r) there
    where
      by : (b : Bool) → (if b then Some (abs.Ints x) else register q) ≡ Some (abs.Addrs s) → (a : Address) → Contains s.members a → MayPoint p to a
      by true h = no_addresses x s h
      by false h = points q local to s own is h

  with_below : (r : ℕ) (x y : I) → d.below x y → AreRegistersBelow d.below (With register r x) (With more r y)
  with_below r x y h q s t m n = by (q == r) m n
    where
      by : (b : Bool) → (if b then Some (abs.Ints x) else register q) ≡ Some s → (if b then Some (abs.Ints y) else more q) ≡ Some t → Below s t
      by true m n = subst (λ (z : Abs I). Below z t) (same_Some (abs.Ints x) s m) (subst (λ (z : Abs I). Below (abs.Ints x) z) (same_Some (abs.Ints y) t n) h)
      by false m n = below q s t m n

  -- where its set has no member, any other is above it
  pub empty_below : (r : ℕ) (x y : I) → register r ≡ Some (abs.Ints x) → ((n : ℤ) → d.has x n → ⊥) → AreRegistersBelow d.below register (With more r y)
  empty_below r x y is none q s t m n = by (q == r) refl n
    where
      by : (b : Bool) → (q == r) ≡ b → (if b then Some (abs.Ints y) else more q) ≡ Some t → Below s t
      by true same n =
          let i : q ≡ r = eqb-true q r same in
          let s_is : abs.Ints x ≡ s = same_Some (abs.Ints x) s (sym is ∙ subst (λ (j : ℕ). register j ≡ Some s) i m) in
          subst (λ (z : Abs I). Below z t) s_is (subst (λ (z : Abs I). Below (abs.Ints x) z) (same_Some (abs.Ints y) t n) (k.by_members x y (λ j h. absurd (none j h))))
      by false same n = below q s t m n

  with_own : (own : ℕ → Option (Abs I)) (r : ℕ) (x : I) → With own r x r ≡ Some (abs.Ints x)
  with_own own r x = by (r == r) (eq-eqb r r refl)
    where
      by : (b : Bool) → b ≡ true → (if b then Some (abs.Ints x) else own r) ≡ Some (abs.Ints x)
      by true h = refl
      by false h = absurd (true≢false (sym h))

  -- ---- operands that are the register

  read_is : (own : ℕ → Option (Abs I)) (r : ℕ) (x : I) (a : Expr) (y : Abs I) → own r ≡ Some (abs.Ints x) → IsReadOf d p id f own e test r a → IsVal d p id f own a y → y ≡ abs.Ints x
  read_is own r x a y set h v =
      let (q, same, at) = value_at d o p id f own a (one.Load h.0) y h.1 v in
      let i : q ≡ r = same_Some q r (sym same ∙ h.2) in
      same_Some y (abs.Ints x) (sym at ∙ (ap own i ∙ set))

  pub operand_is : (own : ℕ → Option (Abs I)) (r : ℕ) (x y : I) (a : Expr) (w : Abs I) → own r ≡ Some (abs.Ints x) → ((n : ℤ) → d.has x n → d.has y n) → IsOperand d p id f own e test r y a → IsVal d p id f own a w → w ≡ abs.Ints x
  operand_is own r x y a w set within (inl h) v = read_is own r x a w set h v
  operand_is own r x y a w set within (inr (t, c, is, both)) v =
      let (u, z, at, gives, same) = value_at d o p id f own a (one.Conv t c) w is v in
      let u_is : u ≡ x = ints_same u x (read_is own r x c (abs.Ints u) set both.0 at) in
      let z_is : z ≡ u = k.kept u z t p.target gives (λ n h. both.1 n (within n (subst (λ (i : I). d.has i n) u_is h))) in
      same ∙ ap of_ints (z_is ∙ u_is)

  -- the members of the operands with which a comparison gives a truth, where one operand has at most one
  pub passed_by : (q : BinOp) (t : IntType) (x w z : I) (b : Bool) (v : Value) → is_comparison q ≡ true → AreOperands d.has q x w t p.target → d.op q x w t p.target z → IsAtMostOne (d.has x) ⊎ IsAtMostOne (d.has w) →
      HasValue d.has (abs.Ints z) v → is_true v ≡ b → (m : ℤ) × (n : ℤ) × d.has x m × d.has w n × (passes (passing b q) m n ≡ true)
  passed_by q t x w z b (Place a) compares operands gives few h truth = absurd h
  passed_by q t x w z b (Int j) compares operands gives few h truth =
      let (m, n, i, l, result) = k.told q x w z t p.target compares operands gives few j h in
      (m, n, i, l, passes_as b q m n compares (sym (truth_is q t p.target m n j compares result) ∙ truth))

  -- ---- a member that stays is kept of a range above

  module _ (r : ℕ) (m : ℤ) (single : I) (hull : IsHull d (λ n. n ≡ m) single) (y : Abs I) (val : IsVal d p id f (With register r single) e y) (passed : HasPassing d p id f register e test y) (x : I) (member : d.has x m) where
    single_below : d.below single x
    single_below = hull.least x (λ n i. subst (λ (j : ℤ). d.has x j) (sym i) member)

    is_m : (n : ℤ) → d.has single n → m ≡ n
    is_m n h = one_alone d k m single hull n h

    single_most : IsAtMostOne (d.has single)
    single_most a b h l = sym (is_m a h) ∙ is_m b l

    single_is : (a : Expr) (w : Abs I) → IsOperand d p id f more e test r x a → IsVal d p id f (With register r single) a w → w ≡ abs.Ints single
    single_is a w h v = operand_is (With register r single) r single x a w (with_own register r single) (λ n i. k.grows single x single_below n i) h v

    worked_in : (c : Expr) (j w : I) → IsVal d p id f (With register r single) c (abs.Ints j) → IsVal d p id f (With more r x) c (abs.Ints w) → (n : ℤ) → d.has j n → d.has w n
    worked_in c j w h l = k.grows j w (grown (With register r single) (With more r x) (with_points r single) (with_below r single x single_below) c (abs.Ints j) (abs.Ints w) h l)

    member_left : (b : Bool) (q : BinOp) (t : IntType) (a c : Expr) → out-Expr e ≡ one.Bin q t a c → is_comparison q ≡ true → test ≡ Is b → (u z : I) → d.has u m → IsCutAs d p id f more e test r x (passing b q) a c u z → d.has z m
    member_left b q t a c is_bin compares way u z h (Uncut none same) = subst (λ (i : I). d.has i m) (sym same) h
    member_left b q t a c is_bin compares way u z h (Cut w operand worked kept) =
        let (i, j, s, at_a, at_c, operands, gives, same) = value_at d o p id f (With register r single) e (one.Bin q t a c) y is_bin val in
        let i_is : i ≡ single = ints_same i single (single_is a (abs.Ints i) operand at_a) in
        let (v, has, truth) = passed in
        let (m', n', in_i, in_j, pass) =
        passed_by q t i j s b v compares operands gives (inl (subst (λ (l : I). IsAtMostOne (d.has l)) (sym i_is) single_most)) (subst (λ (l : Abs I). HasValue d.has l v) same has) (subst (λ (l : Test). Passes l v) way truth) in
        let m_is : m ≡ m' = is_m m' (subst (λ (l : I). d.has l m') i_is in_i) in
        k.keep_has (passing b q) u w z (passing_compares b q compares) kept m n' h (worked_in c j w at_c worked n' in_j) (subst (λ (l : ℤ). passes (passing b q) l n' ≡ true) (sym m_is) pass)

    member_right : (b : Bool) (q : BinOp) (t : IntType) (a c : Expr) → out-Expr e ≡ one.Bin q t a c → is_comparison q ≡ true → test ≡ Is b → (u z : I) → d.has u m → IsCutAs d p id f more e test r x (turned (passing b q)) c a u z → d.has z m
    member_right b q t a c is_bin compares way u z h (Uncut none same) = subst (λ (i : I). d.has i m) (sym same) h
    member_right b q t a c is_bin compares way u z h (Cut w operand worked kept) =
        let (i, j, s, at_a, at_c, operands, gives, same) = value_at d o p id f (With register r single) e (one.Bin q t a c) y is_bin val in
        let j_is : j ≡ single = ints_same j single (single_is c (abs.Ints j) operand at_c) in
        let (v, has, truth) = passed in
        let (m', n', in_i, in_j, pass) =
        passed_by q t i j s b v compares operands gives (inr (subst (λ (l : I). IsAtMostOne (d.has l)) (sym j_is) single_most)) (subst (λ (l : Abs I). HasValue d.has l v) same has) (subst (λ (l : Test). Passes l v) way truth) in
        let n_is : m ≡ n' = is_m n' (subst (λ (l : I). d.has l n') j_is in_j) in
        let is_comparing = passing_compares b q compares in
        k.keep_has (turned (passing b q)) u w z (turned_compares (passing b q) is_comparing) kept m m' h (worked_in a i w at_a worked m' in_i)
        (turned_passes (passing b q) m m' is_comparing ∙ subst (λ (l : ℤ). passes (passing b q) m' l ≡ true) (sym n_is) pass)

    is_number : (v : Value) → HasValue d.has (abs.Ints single) v → v ≡ Int m
    is_number (Int n) h = ap Int (sym (is_m n h))
    is_number (Place a) h = absurd h

    -- the register itself is tested
    itself : IsOperand d p id f more e test r x e → (v : Value) × (v ≡ Int m) × Passes test v
    itself h = let (v, has, truth) = passed in (v, is_number v (subst (λ (l : Abs I). HasValue d.has l v) (single_is e y h val) has), truth)

    member_by : (ns : List ℤ) (u z : I) → d.has u m → ((n : ℤ) → Contains ns n → m ≡ n → ⊥) → IsCutBy d p id f more e test ns u z → d.has z m
    member_by ns u z h differs (ByNone none same) = subst (λ (i : I). d.has i m) (sym same) h
    member_by ns u z h differs (ByFirst n rest other w whole hull' kept cuts) =
        let in_first : Contains ns n = subst (λ (l : List ℤ). Contains l n) (sym whole) (0, omega arith, refl) in
        member_by rest w z (k.keep_has op.Ne u other w refl kept m n h (hull'.has_all n refl) (different m n (differs n in_first)))
        (λ j there same. differs j (subst (λ (l : List ℤ). Contains l j) (sym whole) (Contains-append_right (n ∷ []) rest j there)) same) cuts

    pub member_cut : (z : I) → IsCut d p id f more e test r x z test → d.has z m
    member_cut z (ByComparison b q t a c u way is_bin compares left right) = member_right b q t a c is_bin compares way u z (member_left b q t a c is_bin compares way x u member left) right
    member_cut z (ByLabel n other way operand hull' kept) =
        let (v, is, truth) = itself operand in
        let same : m ≡ n = int_same m n (sym is ∙ subst (λ (l : Test). Passes l v) way truth) in
        k.keep_has op.Eq x other z refl kept m n member (hull'.has_all n refl) (equal_itself m n same)
    member_cut z (ByLabels ns way operand cuts) =
        let (v, is, truth) = itself operand in
        let differs = subst (λ (l : Test). Passes l v) way truth in
        member_by ns x z member (λ n there same. differs n there (is ∙ ap Int same)) cuts

  -- ---- of a range what comparisons keep

  pub operand_less : (r : ℕ) (x y : I) → d.below x y → (a : Expr) → IsOperand d p id f more e test r y a → IsOperand d p id f register e test r x a
  operand_less r x y h a (inl read) = inl read
  operand_less r x y h a (inr (t, c, is, both)) = inr (t, c, is, (both.0, λ n i. both.1 n (k.grows x y h n i)))

  cut_as_grows : (r : ℕ) (x y : I) → d.below x y → (q : BinOp) → is_comparison q ≡ true → (a c : Expr) (u w z v : I) → d.below u w → IsCutAs d p id f register e test r x q a c u z → IsCutAs d p id f more e test r y q a c w v → d.below z v
  cut_as_grows r x y h q compares a c u w z v l (Cut i operand val kept) (Cut j operand' val' kept') =
      k.keep_grows q u i z w j v compares kept kept' l (grown (With register r x) (With more r y) (with_points r x) (with_below r x y h) c (abs.Ints i) (abs.Ints j) val val')
  cut_as_grows r x y h q compares a c u w z v l (Cut i operand val kept) (Uncut none same) = subst (λ (s : I). d.below z s) (sym same) (k.through z u w (k.keep_below q u i z compares kept) l)
  cut_as_grows r x y h q compares a c u w z v l (Uncut none same) (Cut j operand' val' kept') = absurd (none (operand_less r x y h a operand'))
  cut_as_grows r x y h q compares a c u w z v l (Uncut none same) (Uncut none' same') = subst (λ (s : I). d.below s v) (sym same) (subst (λ (s : I). d.below u s) (sym same') l)

  cut_as_below : (own : ℕ → Option (Abs I)) (r : ℕ) (x : I) (q : BinOp) → is_comparison q ≡ true → (a c : Expr) (u z : I) → IsCutAs d p id f own e test r x q a c u z → d.below z u
  cut_as_below own r x q compares a c u z (Cut w operand val kept) = k.keep_below q u w z compares kept
  cut_as_below own r x q compares a c u z (Uncut none same) = subst (λ (s : I). d.below s u) (sym same) (k.itself u)

  abbrev CutsBy : (ℕ → Option (Abs I)) → List ℤ → I → I → Type 0
  CutsBy own [] x z = z ≡ x
  CutsBy own (n ∷ rest) x z = (single : I) × (u : I) × IsHull d (λ m. m ≡ n) single × d.keep op.Ne x single u × IsCutBy d p id f own e test rest u z

  cuts_by : (own : ℕ → Option (Abs I)) (ns : List ℤ) (x z : I) → IsCutBy d p id f own e test ns x z → CutsBy own ns x z
  cuts_by own ns x z (ByNone none same) = subst (λ (l : List ℤ). CutsBy own l x z) (sym none) same
  cuts_by own ns x z (ByFirst n rest single u whole hull kept cuts) = subst (λ (l : List ℤ). CutsBy own l x z) (sym whole) (single, u, hull, kept, cuts)

  cut_by_grows : (ns : List ℤ) (x y z v : I) → d.below x y → IsCutBy d p id f register e test ns x z → IsCutBy d p id f more e test ns y v → d.below z v
  cut_by_grows [] x y z v h l m = subst (λ (s : I). d.below s v) (sym (cuts_by register [] x z l)) (subst (λ (s : I). d.below x s) (sym (cuts_by more [] y v m)) h)
  cut_by_grows (n ∷ rest) x y z v h l m =
      let (i, u, hull, kept, cuts) = cuts_by register (n ∷ rest) x z l in
      let (j, w, hull', kept', cuts') = cuts_by more (n ∷ rest) y v m in
      cut_by_grows rest u w z v (k.keep_grows op.Ne x i u y j w refl kept kept' h (hull.least j (λ a g. hull'.has_all a g))) cuts cuts'

  cut_by_below : (own : ℕ → Option (Abs I)) (ns : List ℤ) (x z : I) → IsCutBy d p id f own e test ns x z → d.below z x
  cut_by_below own [] x z l = subst (λ (s : I). d.below s x) (sym (cuts_by own [] x z l)) (k.itself x)
  cut_by_below own (n ∷ rest) x z l =
      let (i, u, hull, kept, cuts) = cuts_by own (n ∷ rest) x z l in
      k.through z u x (cut_by_below own rest u z cuts) (k.keep_below op.Ne x i u refl kept)

  -- by the form of the expression, and by the test
  abbrev Compared : (ℕ → Option (Abs I)) → Bool → ℕ → I → I → one.Expr-F Expr PlaceOf → Type 0
  Compared own b r x z (one.Bin q t a c) = (u : I) × (is_comparison q ≡ true) × IsCutAs d p id f own e test r x (passing b q) a c x u × IsCutAs d p id f own e test r x (turned (passing b q)) c a u z
  Compared own b r x z _ = ⊥

  abbrev CutIn : (ℕ → Option (Abs I)) → ℕ → I → I → Test → Type 0
  CutIn own r x z (Is b) = Compared own b r x z (out-Expr e)
  CutIn own r x z (Equals n) = (single : I) × IsOperand d p id f own e test r x e × IsHull d (λ m. m ≡ n) single × d.keep op.Eq x single z
  CutIn own r x z (Differs ns) = IsOperand d p id f own e test r x e × IsCutBy d p id f own e test ns x z

  cut_in : (own : ℕ → Option (Abs I)) (r : ℕ) (x z : I) (t : Test) → IsCut d p id f own e test r x z t → CutIn own r x z t
  cut_in own r x z t (ByComparison b q i a c u is is_bin compares left right) =
      subst (λ (j : Test). CutIn own r x z j) (sym is) (subst (λ (j : one.Expr-F Expr PlaceOf). Compared own b r x z j) (sym is_bin) (u, compares, left, right))
  cut_in own r x z t (ByLabel n single is operand hull kept) = subst (λ (j : Test). CutIn own r x z j) (sym is) (single, operand, hull, kept)
  cut_in own r x z t (ByLabels ns is operand cuts) = subst (λ (j : Test). CutIn own r x z j) (sym is) (operand, cuts)

  cut_grows : (r : ℕ) (x y u v : I) → d.below x y → (t : Test) → CutIn register r x u t → CutIn more r y v t → d.below u v
  cut_grows r x y u v h (Is b) l m = by (out-Expr e) l m
    where
      by : (i : one.Expr-F Expr PlaceOf) → Compared register b r x u i → Compared more b r y v i → d.below u v
      by (one.Bin q t a c) (w, compares, left, right) (s, compares', left', right') =
          let is_comparing = passing_compares b q compares in
          cut_as_grows r x y h (turned (passing b q)) (turned_compares (passing b q) is_comparing) c a w s u v (cut_as_grows r x y h (passing b q) is_comparing a c x y w s h left left') right right'
      by _ l m = absurd l
  cut_grows r x y u v h (Equals n) (i, operand, hull, kept) (j, operand', hull', kept') = k.keep_grows op.Eq x i u y j v refl kept kept' h (hull.least j (λ a g. hull'.has_all a g))
  cut_grows r x y u v h (Differs ns) l m = cut_by_grows ns x y u v h l.1 m.1

  cut_below : (own : ℕ → Option (Abs I)) (r : ℕ) (x u : I) (t : Test) → CutIn own r x u t → d.below u x
  cut_below own r x u (Is b) l = by (out-Expr e) l
    where
      by : (i : one.Expr-F Expr PlaceOf) → Compared own b r x u i → d.below u x
      by (one.Bin q t a c) (w, compares, left, right) =
          let is_comparing = passing_compares b q compares in
          k.through u w x (cut_as_below own r x (turned (passing b q)) (turned_compares (passing b q) is_comparing) c a w u right) (cut_as_below own r x (passing b q) is_comparing a c x w left)
      by _ l = absurd l
  cut_below own r x u (Equals n) (i, operand, hull, kept) = k.keep_below op.Eq x i u refl kept
  cut_below own r x u (Differs ns) l = cut_by_below own ns x u l.1

  cut_compares : (own : ℕ → Option (Abs I)) (r : ℕ) (x z : I) (t : Test) → IsCut d p id f own e test r x z t → Compares d p id f own e test r x t
  cut_compares own r x z t (ByComparison b q i a c u is is_bin compares left right) = subst (λ (j : Test). Compares d p id f own e test r x j) (sym is) (q, i, a, c, is_bin, compares)
  cut_compares own r x z t (ByLabel n single is operand hull kept) = subst (λ (j : Test). Compares d p id f own e test r x j) (sym is) operand
  cut_compares own r x z t (ByLabels ns is operand cuts) = subst (λ (j : Test). Compares d p id f own e test r x j) (sym is) operand

  compares_less : (r : ℕ) (x y : I) → d.below x y → (t : Test) → Compares d p id f more e test r y t → Compares d p id f register e test r x t
  compares_less r x y h (Is b) l = l
  compares_less r x y h (Equals n) l = operand_less r x y h e l
  compares_less r x y h (Differs ns) l = operand_less r x y h e l

  -- ---- of each set

  abbrev pub LeftIn : (ℕ → Option (Abs I)) → ℕ → I → Option (List ℤ) → I → Type 0
  LeftIn own r x (Some members) u = IsHull d (λ m. Contains members m × Stays d p id f own e test r m) u
  LeftIn own r x None u = IsCut d p id f own e test r x u test ⊎ ((Compares d p id f own e test r x test → ⊥) × (u ≡ x))

  abbrev pub LeftAs : (ℕ → Option (Abs I)) → ℕ → Abs I → Abs I → Type 0
  LeftAs own r (abs.Ints x) z = (u : I) × (z ≡ abs.Ints u) × LeftIn own r x (d.members x) u
  LeftAs own r (abs.Addrs s) z = z ≡ abs.Addrs s

  pub left_as : (own : ℕ → Option (Abs I)) (r : ℕ) (y z : Abs I) → IsLeft d p id f own e test r y z → LeftAs own r y z
  left_as own r y z (OfMembers x u members is listed hull is_z) = subst (λ (i : Abs I). LeftAs own r i z) (sym is) (u, is_z, subst (λ (i : Option (List ℤ)). LeftIn own r x i u) (sym listed) hull)
  left_as own r y z (OfRange x u is none cut is_z) = subst (λ (i : Abs I). LeftAs own r i z) (sym is) (u, is_z, subst (λ (i : Option (List ℤ)). LeftIn own r x i u) (sym none) (inl cut))
  left_as own r y z (OfOther x is none other is_z) = subst (λ (i : Abs I). LeftAs own r i z) (sym is) (x, is_z ∙ is, subst (λ (i : Option (List ℤ)). LeftIn own r x i x) (sym none) (inr (other, refl)))
  left_as own r y z (OfAddresses s is is_z) = subst (λ (i : Abs I). LeftAs own r i z) (sym is) (is_z ∙ is)

  -- what is worked with the register at a number
  abbrev pub IsWorkedAt : ℕ → ℤ → Type 0
  IsWorkedAt r m = (single : I) × (y : Abs I) × IsHull d (λ n. n ≡ m) single × IsVal d p id f (With register r single) e y

  abbrev pub AreWorkedAt : ℕ → Abs I → Type 0
  AreWorkedAt r y = (m : ℤ) (x : I) (members : List ℤ) → y ≡ abs.Ints x → d.members x ≡ Some members → Contains members m → IsWorkedAt r m

  stays_more : (r : ℕ) (m : ℤ) → IsWorkedAt r m → Stays d p id f register e test r m → Stays d p id f more e test r m
  stays_more r m (single, y, hull, val) stays other y' hull' val' =
      let (v, has, truth) = stays single y hull val in
      let single_less = hull.least other (λ n i. hull'.has_all n i) in
      (v, value_grows d k y y' (grown (With register r single) (With more r other) (with_points r single) (with_below r single other single_less) e y y' val val') v has, truth)

  left_in_grows : (r : ℕ) (x y u v : I) → d.below x y → AreWorkedAt r (abs.Ints x) → (a b : Option (List ℤ)) → d.members x ≡ a → d.members y ≡ b → LeftIn register r x a u → LeftIn more r y b v → d.below u v
  left_in_grows r x y u v h worked (Some ms) (Some ns) i j hull hull' =
      hull.least v (λ m c. hull'.has_all m ((k.members_are y ns j m).1 (k.grows x y h m ((k.members_are x ms i m).0 c.0)), stays_more r m (worked m x ms refl i c.0) c.1))
  left_in_grows r x y u v h worked (Some ms) None i j hull (inl cut) = hull.least v kept
    where
      kept : (m : ℤ) → Contains ms m × Stays d p id f register e test r m → d.has v m
      kept m c =
          let (single, w, hull', val) = worked m x ms refl i c.0 in
          member_cut r m single hull' w val (c.1 single w hull' val) y (k.grows x y h m ((k.members_are x ms i m).0 c.0)) v cut
  left_in_grows r x y u v h worked (Some ms) None i j hull (inr (other, same)) = subst (λ (s : I). d.below u s) (sym same) (hull.least y (λ m c. k.grows x y h m ((k.members_are x ms i m).0 c.0)))
  left_in_grows r x y u v h worked None (Some ns) i j l m = absurd (let n : None ≡ Some ns = sym (k.ranges_above x y h i) ∙ j in cc)
  left_in_grows r x y u v h worked None None i j (inl cut) (inl cut') = cut_grows r x y u v h test (cut_in register r x u test cut) (cut_in more r y v test cut')
  left_in_grows r x y u v h worked None None i j (inl cut) (inr (other, same)) = subst (λ (s : I). d.below u s) (sym same) (k.through u x y (cut_below register r x u test (cut_in register r x u test cut)) h)
  left_in_grows r x y u v h worked None None i j (inr (other, same)) (inl cut) = absurd (other (compares_less r x y h test (cut_compares more r y v test cut)))
  left_in_grows r x y u v h worked None None i j (inr (other, same)) (inr (other', same')) = subst (λ (s : I). d.below s v) (sym same) (subst (λ (s : I). d.below x s) (sym same') h)

  pub left_grows : (r : ℕ) (y y' z z' : Abs I) → Below y y' → AreWorkedAt r y → IsLeft d p id f register e test r y z → IsLeft d p id f more e test r y' z' → Below z z'
  left_grows r y y' z z' h worked l l' = by y y' h worked (left_as register r y z l) (left_as more r y' z' l')
    where
      by : (y y' : Abs I) → Below y y' → AreWorkedAt r y → LeftAs register r y z → LeftAs more r y' z' → Below z z'
      by (abs.Ints x) (abs.Ints x') h worked (u, is, l) (v, is', l') =
          subst (λ (s : Abs I). Below s z') (sym is) (subst (λ (s : Abs I). Below (abs.Ints u) s) (sym is') (left_in_grows r x x' u v h worked (d.members x) (d.members x') refl refl l l'))
      by (abs.Ints x) (abs.Addrs t) h worked l l' = absurd h
      by (abs.Addrs s) (abs.Ints x) h worked l l' = absurd h
      by (abs.Addrs s) (abs.Addrs t) h worked l l' = subst (λ (i : Abs I). Below i z') (sym l) (subst (λ (i : Abs I). Below (abs.Addrs s) i) (sym l') h)

  -- ---- no more is left than there was

  left_in_below : (own : ℕ → Option (Abs I)) (r : ℕ) (x u : I) (a : Option (List ℤ)) → d.members x ≡ a → LeftIn own r x a u → d.below u x
  left_in_below own r x u (Some ms) i hull = hull.least x (λ m c. (k.members_are x ms i m).0 c.0)
  left_in_below own r x u None i (inl cut) = cut_below own r x u test (cut_in own r x u test cut)
  left_in_below own r x u None i (inr (other, same)) = subst (λ (s : I). d.below s x) (sym same) (k.itself x)

  pub left_below : (own : ℕ → Option (Abs I)) (r : ℕ) (y z : Abs I) → IsLeft d p id f own e test r y z → Below z y
  left_below own r y z l = by y (left_as own r y z l)
    where
      by : (y : Abs I) → LeftAs own r y z → Below z y
      by (abs.Ints x) (u, is, l) = subst (λ (s : Abs I). Below s (abs.Ints x)) (sym is) (left_in_below own r x u (d.members x) refl l)
      by (abs.Addrs s) l = subst (λ (i : Abs I). Below i (abs.Addrs s)) (sym l) (abs_itself d k (abs.Addrs s))
