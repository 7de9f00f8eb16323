-- What the laws of a domain say of tests, and that what an expression may give grows with the sets of the registers.
use Rattle.std.proofs.Common.{◌≡◌, ◌⊎◌, inl, inr, ℕ, ℤ, true, List, Contains, Option, Some, None, refl, sym, subst}
use Rattle.std.specs.Prelude.{◌↔◌, IfSome}
use Rattle.cc_rules.specs.CcLattice.Domains.{AreOperands, IsAtMostOne, AreMatched, AreEnds, IsResultOf, is_comparison, is_order, passes}
use Rattle.cc_program.specs.CcNum.declared.int_type.IntType.{IntType}
use Rattle.cc_program.specs.CcNum.declared.op.BinOp.{BinOp}
use Rattle.cc_program.specs.CcNum.declared.target.Target.{Target}
use Rattle.cc_program.specs.CcNum.Integers.{IsValueOf}
use Rattle.cc_rules.specs.CcPlaces.Abstract.{AreOfOneKind, IsBelowAbs, HasValue}
use Rattle.cc_rules.specs.CcPlaces.declared.abs.Abs.{Abs}
use Rattle.cc_rules.specs.CcPlaces.declared.abs.Abs.TheVariants as abs
use Rattle.cc_rules.specs.CcPlaces.laws.SetLaws.{within_itself, within_through}
use Rattle.cc_program.specs.declared.expr.Expr.{Expr}
use Rattle.cc_program.specs.declared.func.Func.{Func}
use Rattle.cc_program.specs.declared.program.Program.{Program}
use Rattle.cc_program.specs.declared.value.Value.{Value}
use Rattle.cc_program.specs.declared.value.Value.TheVariants.{Int, Place}
use Rattle.cc_rules.specs.CcStateOperators.Domains.{Domain, IsHull}
use Rattle.cc_rules.specs.CcStateValues.Values.{IsVal}
use Rattle.cc_state_points.specs.CcStateValuesGrow.Growth.{AreRegistersBelow, RegistersPoint}

pub record IsKept {I : Type 0} (d : Domain I) : Type 0 where
  pub itself : (x : I) → d.below x x
  pub through : (x y z : I) → d.below x y → d.below y z → d.below x z
  pub grows : (x y : I) → d.below x y → (n : ℤ) → d.has x n → d.has y n
  pub by_members : (x y : I) → ((n : ℤ) → d.has x n → d.has y n) → d.below x y
  pub keep_has : (o : BinOp) (a b r : I) → is_comparison o ≡ true → d.keep o a b r → (v w : ℤ) → d.has a v → d.has b w → passes o v w ≡ true → d.has r v
  pub keep_below : (o : BinOp) (a b r : I) → is_comparison o ≡ true → d.keep o a b r → d.below r a
  pub keep_grows : (o : BinOp) (a b r x y s : I) → is_comparison o ≡ true → d.keep o a b r → d.keep o x y s → d.below a x → d.below b y → d.below r s
  pub told : (o : BinOp) (a b r : I) (t : IntType) (target : Target) → is_comparison o ≡ true → AreOperands d.has o a b t target → d.op o a b t target r →
      IsAtMostOne (d.has a) ⊎ IsAtMostOne (d.has b) → (z : ℤ) → d.has r z → IsResultOf d.has o a b t target z
  pub kept : (a r : I) (t : IntType) (target : Target) → d.to a t target r → ((n : ℤ) → d.has a n → IsValueOf t target n) → r ≡ a
  pub empty_or : (x : I) → ((n : ℤ) × d.has x n) ⊎ ((n : ℤ) → d.has x n → ⊥)
  pub alone : (x : I) (v : ℤ) → d.has x v → ((y : I) → d.has y v → d.below x y) → (w : ℤ) → d.has x w → v ≡ w
  pub ranges_above : (x y : I) → d.below x y → d.members x ≡ None → d.members y ≡ None
  pub members_are : (x : I) (ms : List ℤ) → d.members x ≡ Some ms → (v : ℤ) → Contains ms v ↔ d.has x v

-- by the laws of a domain, and by the ends of its sets
empty_by : {I : Type 0} (d : Domain I) (x : I) (ends : Option (ℤ × ℤ)) → (ends ≡ None → (n : ℤ) → d.has x n → ⊥) → IfSome ends (AreEnds (d.has x)) → ((n : ℤ) × d.has x n) ⊎ ((n : ℤ) → d.has x n → ⊥)
empty_by d x None none some = inr (none refl)
empty_by d x (Some ends) none some = inl (ends.0, some.low_in)

pub kept_given : {I : Type 0} (d : Domain I) (alike : I → I → Type 0) (ends : I → Option (ℤ × ℤ)) → ((x y : I) → alike x y) → ((x : I) → alike x x → d.below x x) →
    ((x y z : I) → alike x y → alike y z → alike x z → d.below x y → d.below y z → d.below x z) → ((x y : I) → d.below x y → (n : ℤ) → d.has x n → d.has y n) → ((x y : I) → ((n : ℤ) → d.has x n → d.has y n) → d.below x y) →
    ((o : BinOp) (a b r : I) → is_comparison o ≡ true → d.keep o a b r → (v w : ℤ) → d.has a v → d.has b w → passes o v w ≡ true → d.has r v) → ((o : BinOp) (a b r : I) → is_comparison o ≡ true → d.keep o a b r → d.below r a) →
    ((o : BinOp) (a b r x y s : I) → is_comparison o ≡ true → d.keep o a b r → d.keep o x y s → d.below a x → d.below b y → d.below r s) →
    ((o : BinOp) (a b r : I) (t : IntType) (target : Target) → is_comparison o ≡ true → AreOperands d.has o a b t target → d.op o a b t target r → (is_order o ≡ true) ⊎ AreMatched d.has d.members a b → (z : ℤ) → d.has r z → IsResultOf d.has o a b t target z) →
    ((a r : I) (t : IntType) (target : Target) → d.to a t target r → ((n : ℤ) → d.has a n → IsValueOf t target n) → r ≡ a) → ((x : I) (v : ℤ) → d.has x v → ((y : I) → d.has y v → d.below x y) → (w : ℤ) → d.has x w → v ≡ w) →
    ((x y : I) → d.below x y → d.members x ≡ None → d.members y ≡ None) → ((x : I) → IfSome (d.members x) (λ vs. (v : ℤ) → Contains vs v ↔ d.has x v)) →
    ((x : I) → (ends x ≡ None) ↔ ((v : ℤ) → d.has x v → ⊥)) → ((x : I) → IfSome (ends x) (AreEnds (d.has x))) → IsKept d
kept_given d alike ends all itself through grows by_members keep_has keep_below keep_grows told kept alone explicit members none_ends are_ends = record {
  itself = λ x. itself x (all x x);
  through = λ x y z h l. through x y z (all x y) (all y z) (all x z) h l;
  grows = grows;
  by_members = by_members;
  keep_has = keep_has;
  keep_below = keep_below;
  keep_grows = keep_grows;
  told = λ o a b r t target compares operands gives few z h. told o a b r t target compares operands gives (inr (inr few)) z h;
  kept = kept;
  empty_or = λ x. empty_by d x (ends x) (none_ends x).0 (are_ends x);
  alone = alone;
  ranges_above = explicit;
  members_are = λ x ms listed v. subst (λ (o : Option (List ℤ)). IfSome o (λ vs. (v : ℤ) → Contains vs v ↔ d.has x v)) listed (members x) v;
}

-- what an expression may give by some registers that point as their types say is below what it may give by greater ones
abbrev pub ValuesGrow : {I : Type 0} → Domain I → Program → ℕ → Func → Type 0
ValuesGrow {I = I} d p id f =
    (register more : ℕ → Option (Abs I)) → RegistersPoint p f register → AreRegistersBelow d.below register more → (e : Expr) (x y : Abs I) →
    IsVal d p id f register e x → IsVal d p id f more e y → IsBelowAbs d.below x y

-- ---- abstract values

pub kind_through : {I : Type 0} (x y z : Abs I) → AreOfOneKind x y → AreOfOneKind y z → AreOfOneKind x z
kind_through (abs.Ints x) (abs.Ints y) (abs.Ints z) h l = tt
kind_through (abs.Ints x) (abs.Ints y) (abs.Addrs u) h l = absurd l
kind_through (abs.Ints x) (abs.Addrs t) z h l = absurd h
kind_through (abs.Addrs s) (abs.Ints y) z h l = absurd h
kind_through (abs.Addrs s) (abs.Addrs t) (abs.Ints z) h l = absurd l
kind_through (abs.Addrs s) (abs.Addrs t) (abs.Addrs u) h l = tt

module _ {I : Type 0} (d : Domain I) (k : IsKept d) where
  pub abs_itself : (x : Abs I) → IsBelowAbs d.below x x
  abs_itself (abs.Ints x) = k.itself x
  abs_itself (abs.Addrs s) = within_itself s

  pub abs_through : (x y z : Abs I) → IsBelowAbs d.below x y → IsBelowAbs d.below y z → IsBelowAbs d.below x z
  abs_through (abs.Ints x) (abs.Ints y) (abs.Ints z) h l = k.through x y z h l
  abs_through (abs.Ints x) (abs.Ints y) (abs.Addrs u) h l = absurd l
  abs_through (abs.Ints x) (abs.Addrs t) z h l = absurd h
  abs_through (abs.Addrs s) (abs.Ints y) z h l = absurd h
  abs_through (abs.Addrs s) (abs.Addrs t) (abs.Ints z) h l = absurd l
  abs_through (abs.Addrs s) (abs.Addrs t) (abs.Addrs u) h l = within_through s t u h l

  pub value_grows : (x y : Abs I) → IsBelowAbs d.below x y → (v : Value) → HasValue d.has x v → HasValue d.has y v
  value_grows (abs.Ints x) (abs.Ints y) h (Int n) l = k.grows x y h n l
  value_grows (abs.Ints x) (abs.Ints y) h (Place a) l = absurd l
  value_grows (abs.Ints x) (abs.Addrs t) h v l = absurd h
  value_grows (abs.Addrs s) (abs.Ints y) h v l = absurd h
  value_grows (abs.Addrs s) (abs.Addrs t) h (Int n) l = absurd l
  value_grows (abs.Addrs s) (abs.Addrs t) h (Place a) l = h a l

  -- the least set of one number
  pub one_alone : (m : ℤ) (x : I) → IsHull d (λ n. n ≡ m) x → (n : ℤ) → d.has x n → m ≡ n
  one_alone m x h n l = k.alone x m (h.has_all m refl) (λ y q. h.least y (λ j e. subst (λ (i : ℤ). d.has y i) (sym e) q)) n l
