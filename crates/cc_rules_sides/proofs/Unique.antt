-- What a test leaves of a set is one set: what a domain gives on the same sets is below itself both ways.
use Rattle.std.proofs.Common.{◌≡◌, ℕ, ℤ, Bool, true, List, [], ◌∷◌, ◌++◌, Option, Some, None, refl, ap, sym, ◌∙◌, subst}
use Rattle.std.proofs.lemmas.Option.{same_Some}
use Rattle.std.specs.List.{Contains}
use Rattle.cc_rules_flows.specs.CcLattice.Domains.{is_comparison}
use Rattle.cc_program.specs.CcNum.declared.int_type.IntType.{IntType}
use Rattle.cc_program.specs.CcNum.declared.op.BinOp.{BinOp}
use Rattle.cc_program.specs.CcNum.declared.op.BinOp.TheVariants as op
use Rattle.cc_rules_flows.specs.CcPlaces.declared.abs.Abs.{Abs}
use Rattle.cc_rules_flows.specs.CcPlaces.declared.abs.Abs.TheVariants as abs
use Rattle.cc_rules_flows.specs.CcPlaces.declared.addrs.Addrs.{Addrs}
use Rattle.cc_program.specs.declared.expr.Expr.{Expr, out-Expr}
use Rattle.cc_program.specs.declared.expr.Expr.TheOpen as one
use Rattle.cc_program.specs.declared.expr.Place.{Place}
use Rattle.cc_program.specs.declared.func.Func.{Func}
use Rattle.cc_program.specs.declared.program.Program.{Program}
use Rattle.cc_rules_flows.specs.Tests.{Test, Is, Equals, Differs, turned, passing, with_member, IsCutAs, Stays, Cut, Uncut, IsCutBy, ByNone, ByFirst, IsCut, ByComparison, ByLabel, ByLabels, IsLeft, OfMembers, OfRange, OfOther, OfAddresses, Compares, IsOperand, IsLeftAlike, Alike, Unlike, IsLeftBy}
use Rattle.cc_rules_tests.proofs.Numbers.{passing_compares, turned_compares}
use Rattle.cc_rules_flows.specs.CcStateOperators.Domains.{Domain, IsHull}
use Rattle.cc_rules_flows.proofs.CcStateValues.Same.{IsOrdered, one_hull, same_value}

-- what a comparison keeps grows with both sets
abbrev pub KeepsMore : {I : Type 0} → Domain I → Type 0
KeepsMore {I = I} d = (q : BinOp) (a b r x y s : I) → is_comparison q ≡ true → d.keep q a b r → d.keep q x y s → d.below a x → d.below b y → d.below r s

no_list : {A B : Type 0} (x : A) (xs : List A) → [] ≡ x ∷ xs → B
no_list x xs h = absurd (cc)

same_head : {A : Type 0} (x y : A) (xs ys : List A) → x ∷ xs ≡ y ∷ ys → x ≡ y
same_head x y xs ys h = cc

same_rest : {A : Type 0} (x y : A) (xs ys : List A) → x ∷ xs ≡ y ∷ ys → xs ≡ ys
same_rest x y xs ys h = cc

same_ints : {I : Type 0} (x y : I) → abs.Ints x ≡ abs.Ints y → x ≡ y
same_ints x y h = cc

no_ints : {I B : Type 0} (x : I) (s : Addrs) → abs.Ints x ≡ abs.Addrs s → B
no_ints x s h = absurd (cc)

no_members : {A B : Type 0} (x : A) → None ≡ Some x → B
no_members x h = absurd (cc)

same_truth : (a b : Bool) → Is a ≡ Is b → a ≡ b
same_truth a b h = cc

same_label : (a b : ℤ) → Equals a ≡ Equals b → a ≡ b
same_label a b h = cc

same_labels : (a b : List ℤ) → Differs a ≡ Differs b → a ≡ b
same_labels a b h = cc

no_label : {B : Type 0} (a : Bool) (n : ℤ) → Is a ≡ Equals n → B
no_label a n h = absurd (cc)

no_labels : {B : Type 0} (a : Bool) (ns : List ℤ) → Is a ≡ Differs ns → B
no_labels a ns h = absurd (cc)

no_others : {B : Type 0} (n : ℤ) (ns : List ℤ) → Equals n ≡ Differs ns → B
no_others n ns h = absurd (cc)

abbrev AreSame : one.Expr-F Expr Place → one.Expr-F Expr Place → Type 0
AreSame x y = x ≡ y

module _ {I : Type 0} (d : Domain I) (o : IsOrdered d) (more : KeepsMore d) (p : Program) (id : ℕ) (f : Func) (register : ℕ → Option (Abs I)) (e : Expr) (test : Test) where
  one_kept : (q : BinOp) (x w v r s : I) → is_comparison q ≡ true → w ≡ v → d.keep q x w r → d.keep q x v s → r ≡ s
  one_kept q x w v r s c i h k =
      let same : d.keep q x w s = subst (λ z. d.keep q x z s) (sym i) k in
      o.same r s (more q x w r x w s c h same (o.itself x) (o.itself w)) (more q x w s x w r c same h (o.itself x) (o.itself w))

  abbrev CutsAs : ℕ → I → BinOp → Expr → Expr → I → I → Type 0
  CutsAs r x q a c u z = IsCutAs d p id f register e test r x q a c u z

  one_cut_as : (r : ℕ) (x : I) (q : BinOp) (a c : Expr) (u z y : I) → is_comparison q ≡ true → CutsAs r x q a c u z → CutsAs r x q a c u y → z ≡ y
  one_cut_as r x q a c u z y h (Cut w is v k) (Cut w' is' v' k') =
      one_kept q u w w' z y h (same_ints w w' (same_value d o p id f (with_member d p id f register e test r x) c (abs.Ints w) (abs.Ints w') v v')) k k'
  one_cut_as r x q a c u z y h (Cut w is v k) (Uncut other i) = absurd (other is)
  one_cut_as r x q a c u z y h (Uncut other i) (Cut w is v k) = absurd (other is)
  one_cut_as r x q a c u z y h (Uncut other i) (Uncut other' i') = i ∙ sym i'

  -- of the same set by the first operand
  cut_as_from : (r : ℕ) (x : I) (q : BinOp) (a c : Expr) (u u' z y : I) → u ≡ u' → is_comparison q ≡ true → CutsAs r x q a c u z → CutsAs r x q a c u' y → z ≡ y
  cut_as_from r x q a c u u' z y i h k l = one_cut_as r x q a c u z y h k (subst (λ v. CutsAs r x q a c v y) (sym i) l)

  abbrev CutsBy : List ℤ → I → I → Type 0
  CutsBy ns x z = IsCutBy d p id f register e test ns x z

  one_cut_by : (ns : List ℤ) (x z y : I) → CutsBy ns x z → CutsBy ns x y → z ≡ y
  one_cut_by ns x z y (ByNone i k) (ByNone i' k') = k ∙ sym k'
  one_cut_by ns x z y (ByNone i k) (ByFirst n rest single u i' h l m) = no_list n rest (sym i ∙ i')
  one_cut_by ns x z y (ByFirst n rest single u i h l m) (ByNone i' k') = no_list n rest (sym i' ∙ i)
  one_cut_by ns x z y (ByFirst n rest single u i h l m) (ByFirst n' rest' single' u' i' h' l' m') =
      let same : n ∷ rest ≡ n' ∷ rest' = sym i ∙ i' in
      let first : n ≡ n' = same_head n n' rest rest' same in
      let singles : single ≡ single' = one_hull d o (λ k. k ≡ n) single single' h (subst (λ v. IsHull d (λ k. k ≡ v) single') (sym first) h') in
      let cuts : u ≡ u' = one_kept op.Ne x single single' u u' refl singles l l' in
      one_cut_by rest u z y m (subst (λ v. CutsBy rest v y) (sym cuts) (subst (λ v. CutsBy v u' y) (sym (same_rest n n' rest rest' same)) m'))

  abbrev Cuts : ℕ → I → I → Test → Type 0
  Cuts r x z t = IsCut d p id f register e test r x z t

  -- the parts of a comparison
  abbrev ArePartsSame : BinOp × Expr × Expr → BinOp × Expr × Expr → Type 0
  ArePartsSame u v = u ≡ v

  same_parts : (q q' : BinOp) (t t' : IntType) (a a' c c' : Expr) → AreSame (one.Bin q t a c) (one.Bin q' t' a' c') → ArePartsSame (q, a, c) (q', a', c')
  same_parts q q' t t' a a' c c' h = cc

  one_comparison : (r : ℕ) (x z y : I) (b b' : Bool) (q q' : BinOp) (a a' c c' : Expr) (u u' : I) → b ≡ b' → ArePartsSame (q, a, c) (q', a', c') → is_comparison q ≡ true →
      CutsAs r x (passing b q) a c x u → CutsAs r x (turned (passing b q)) c a u z → CutsAs r x (passing b' q') a' c' x u' → CutsAs r x (turned (passing b' q')) c' a' u' y → z ≡ y
  one_comparison r x z y b b' q q' a a' c c' u u' i k h first second first' second' =
      let one : CutsAs r x (passing b q) a c x u' = subst (λ v. CutsAs r x (passing v q) a c x u') (sym i) (subst (λ (v : BinOp × Expr × Expr). CutsAs r x (passing b' v.0) v.1 v.2 x u') (sym k) first') in
      let two : CutsAs r x (turned (passing b q)) c a u' y = subst (λ v. CutsAs r x (turned (passing v q)) c a u' y) (sym i) (subst (λ (v : BinOp × Expr × Expr). CutsAs r x (turned (passing b' v.0)) v.2 v.1 u' y) (sym k) second') in
      let compares = passing_compares b q h in
      cut_as_from r x (turned (passing b q)) c a u u' z y (one_cut_as r x (passing b q) a c x u u' compares first one) (turned_compares (passing b q) compares) second two

  one_cut : (r : ℕ) (x z y : I) (t : Test) → Cuts r x z t → Cuts r x y t → z ≡ y
  one_cut r x z y t (ByComparison b q s a c u i j h first second) (ByComparison b' q' s' a' c' u' i' j' h' first' second') =
      one_comparison r x z y b b' q q' a a' c c' u u' (same_truth b b' (sym i ∙ i')) (same_parts q q' s s' a a' c c' (sym j ∙ j')) h first second first' second'
  one_cut r x z y t (ByComparison b q s a c u i j h first second) (ByLabel n single i' is hull k) = no_label b n (sym i ∙ i')
  one_cut r x z y t (ByComparison b q s a c u i j h first second) (ByLabels ns i' is cut) = no_labels b ns (sym i ∙ i')
  one_cut r x z y t (ByLabel n single i is hull k) (ByComparison b q s a c u i' j h first second) = no_label b n (sym i' ∙ i)
  one_cut r x z y t (ByLabel n single i is hull k) (ByLabel n' single' i' is' hull' k') =
      let same : n ≡ n' = same_label n n' (sym i ∙ i') in
      one_kept op.Eq x single single' z y refl (one_hull d o (λ m. m ≡ n) single single' hull (subst (λ v. IsHull d (λ m. m ≡ v) single') (sym same) hull')) k k'
  one_cut r x z y t (ByLabel n single i is hull k) (ByLabels ns i' is' cut) = no_others n ns (sym i ∙ i')
  one_cut r x z y t (ByLabels ns i is cut) (ByComparison b q s a c u i' j h first second) = no_labels b ns (sym i' ∙ i)
  one_cut r x z y t (ByLabels ns i is cut) (ByLabel n single i' is' hull k) = no_others n ns (sym i' ∙ i)
  one_cut r x z y t (ByLabels ns i is cut) (ByLabels ns' i' is' cut') = one_cut_by ns x z y cut (subst (λ v. CutsBy v x y) (sym (same_labels ns ns' (sym i ∙ i'))) cut')

  -- a range that is cut is one that the test compares
  compared : (r : ℕ) (x z : I) (t : Test) → Cuts r x z t → Compares d p id f register e test r x t
  compared r x z t (ByComparison b q s a c u i j h first second) = subst (λ v. Compares d p id f register e test r x v) (sym i) (q, s, a, c, j, h)
  compared r x z t (ByLabel n single i is hull k) = subst (λ v. Compares d p id f register e test r x v) (sym i) is
  compared r x z t (ByLabels ns i is cut) = subst (λ v. Compares d p id f register e test r x v) (sym i) is

  abbrev Leaves : ℕ → Abs I → Abs I → Type 0
  Leaves r y z = IsLeft d p id f register e test r y z

  ints_of : (x x' : I) (y : Abs I) → y ≡ abs.Ints x → y ≡ abs.Ints x' → x ≡ x'
  ints_of x x' y i j = same_ints x x' (sym i ∙ j)

  pub one_left : (r : ℕ) (y z z' : Abs I) → Leaves r y z → Leaves r y z' → z ≡ z'
  one_left r y z z' (OfMembers x u ms i some hull k) (OfMembers x' u' ms' i' some' hull' k') =
      let same : x ≡ x' = ints_of x x' y i i' in
      let listed : ms ≡ ms' = same_Some ms ms' (sym some ∙ (ap d.members same ∙ some')) in
      k ∙ (ap (λ v. abs.Ints v) (one_hull d o _ u u' hull (subst (λ v. IsHull d (λ m. Contains v m × Stays d p id f register e test r m) u') (sym listed) hull')) ∙ sym k')
  one_left r y z z' (OfMembers x u ms i some hull k) (OfRange x' u' i' none cut k') = no_members ms (sym none ∙ (ap d.members (ints_of x' x y i' i) ∙ some))
  one_left r y z z' (OfMembers x u ms i some hull k) (OfOther x' i' none other k') = no_members ms (sym none ∙ (ap d.members (ints_of x' x y i' i) ∙ some))
  one_left r y z z' (OfMembers x u ms i some hull k) (OfAddresses s i' k') = no_ints x s (sym i ∙ i')
  one_left r y z z' (OfRange x u i none cut k) (OfMembers x' u' ms' i' some' hull' k') = no_members ms' (sym none ∙ (ap d.members (ints_of x x' y i i') ∙ some'))
  one_left r y z z' (OfRange x u i none cut k) (OfRange x' u' i' none' cut' k') =
      let same : x ≡ x' = ints_of x x' y i i' in
      k ∙ (ap (λ v. abs.Ints v) (one_cut r x u u' test cut (subst (λ v. Cuts r v u' test) (sym same) cut')) ∙ sym k')
  one_left r y z z' (OfRange x u i none cut k) (OfOther x' i' none' other k') = absurd (other (compared r x' u test (subst (λ v. Cuts r v u test) (ints_of x x' y i i') cut)))
  one_left r y z z' (OfRange x u i none cut k) (OfAddresses s i' k') = no_ints x s (sym i ∙ i')
  one_left r y z z' (OfOther x i none other k) (OfMembers x' u' ms' i' some' hull' k') = no_members ms' (sym none ∙ (ap d.members (ints_of x x' y i i') ∙ some'))
  one_left r y z z' (OfOther x i none other k) (OfRange x' u' i' none' cut' k') = absurd (other (compared r x u' test (subst (λ v. Cuts r v u' test) (ints_of x' x y i' i) cut')))
  one_left r y z z' (OfOther x i none other k) (OfOther x' i' none' other' k') = k ∙ sym k'
  one_left r y z z' (OfOther x i none other k) (OfAddresses s i' k') = k ∙ sym k'
  one_left r y z z' (OfAddresses s i k) (OfMembers x' u' ms' i' some' hull' k') = no_ints x' s (sym i' ∙ i)
  one_left r y z z' (OfAddresses s i k) (OfRange x' u' i' none' cut' k') = no_ints x' s (sym i' ∙ i)
  one_left r y z z' (OfAddresses s i k) (OfOther x' i' none' other' k') = k ∙ sym k'
  one_left r y z z' (OfAddresses s i k) (OfAddresses s' i' k') = k ∙ sym k'

  abbrev LeavesAlike : ℕ → Abs I → Abs I → Type 0
  LeavesAlike r y z = IsLeftAlike d p id f register e test r y z

  pub one_left_alike : (r : ℕ) (y z z' : Abs I) → LeavesAlike r y z → LeavesAlike r y z' → z ≡ z'
  one_left_alike r y z z' (Alike is h) (Alike is' h') = one_left r y z z' h h'
  one_left_alike r y z z' (Alike is h) (Unlike other i) = absurd (other is)
  one_left_alike r y z z' (Unlike other i) (Alike is h) = absurd (other is)
  one_left_alike r y z z' (Unlike other i) (Unlike other' i') = i ∙ sym i'

  pub one_left_by : (rs : List ℕ) (y z z' : Abs I) → IsLeftBy d p id f register e test rs y z → IsLeftBy d p id f register e test rs y z' → z ≡ z'
  one_left_by [] y z z' h k = h ∙ sym k
  one_left_by (r ∷ rs) y z z' (u, h, more) (u', h', more') =
      one_left_by rs u z z' more (subst (λ v. IsLeftBy d p id f register e test rs v z') (sym (one_left_alike r y u u' h h')) more')

  -- one register more at the end
  pub left_by_more : (rs : List ℕ) (r : ℕ) (y u z : Abs I) → IsLeftBy d p id f register e test rs y u → LeavesAlike r u z → IsLeftBy d p id f register e test (rs ++ r ∷ []) y z
  left_by_more [] r y u z h k = (z, subst (λ v. LeavesAlike r v z) h k, refl)
  left_by_more (q ∷ rs) r y u z (v, first, rest) k = (v, first, left_by_more rs r v u z rest k)
