-- Abstract values over a domain of integers, by what its laws say alone.
use Rattle.std.specs.Prelude.{◌≡◌, ℤ, Bool, List, Option}
use Rattle.cc_program.specs.CcNum.declared.int_type.IntType.{IntType}
use Rattle.cc_program.specs.CcNum.declared.op.BinOp.{BinOp}
use Rattle.cc_program.specs.CcNum.declared.op.UnOp.{UnOp}
use Rattle.cc_program.specs.CcNum.declared.target.Target.{Target}
use Rattle.cc_program.specs.CcNum.Integers.{IsValueOf}
use Rattle.cc_program.specs.declared.value.Value.{Value}
use Rattle.cc_places.specs.declared.abs.Abs.{Abs}
use Rattle.cc_places.specs.Abstract.{AreOfOneKind, IsBelowAbs, HasValue}
use Rattle.cc_eval.specs.CcValues.Values.{is_true}

-- a domain of sets of integers: which members a set has, when one is below another, what operators and conversions give, what a comparison
-- keeps, and the members of an explicit set
pub record Domain (I : Type 0) : Type 1 where
  pub has : I → ℤ → Type 0
  pub below : I → I → Type 0
  pub op : BinOp → I → I → IntType → Target → I → Type 0
  pub op_one : UnOp → I → IntType → Target → I → Type 0
  pub to : I → IntType → Target → I → Type 0
  pub keep : BinOp → I → I → I → Type 0
  pub members : I → Option (List ℤ)

-- that of a trait's relations
abbrev pub domain : {I : Type 0} → (I → ℤ → Type 0) → (I → I → Type 0) → (BinOp → I → I → IntType → Target → I → Type 0) → (UnOp → I → IntType → Target → I → Type 0) →
    (I → IntType → Target → I → Type 0) → (BinOp → I → I → I → Type 0) → (I → Option (List ℤ)) → Domain I
domain has below op op_one to keep members = record { has = has; below = below; op = op; op_one = op_one; to = to; keep = keep; members = members }

module _ {I : Type 0} (d : Domain I) where
  -- the least set that has some integers
  pub record IsHull (image : ℤ → Type 0) (x : I) : Type 0 where
    pub has_all : (n : ℤ) → image n → d.has x n
    pub least : (y : I) → ((n : ℤ) → image n → d.has y n) → d.below x y

  -- the least set above another one that has some integers
  pub record IsHullFrom (from : I) (image : ℤ → Type 0) (x : I) : Type 0 where
    pub above : d.below from x
    pub has_all : (n : ℤ) → image n → d.has x n
    pub least : (y : I) → d.below from y → ((n : ℤ) → image n → d.has y n) → d.below x y

  -- values of a type alone
  abbrev pub AllOf : IntType → Target → I → Type 0
  AllOf t target x = (n : ℤ) → d.has x n → IsValueOf t target n

  -- all values of a type
  abbrev pub IsWhole : IntType → Target → I → Type 0
  IsWhole t target x = (n : ℤ) → (IsValueOf t target n → d.has x n) × (d.has x n → IsValueOf t target n)

  -- the union of some values of one kind, which is that of a further one: the least value of that kind that all are below
  pub record IsUnion (kind : Abs I) (values : Abs I → Type 0) (y : Abs I) : Type 0 where
    pub alike : AreOfOneKind kind y
    pub above : (z : Abs I) → values z → IsBelowAbs d.below z y
    pub least : (u : Abs I) → AreOfOneKind kind u → ((z : Abs I) → values z → IsBelowAbs d.below z u) → IsBelowAbs d.below y u

  -- a set has a value of this truth: a test of it may go this way (C99 6.8.4.1)
  abbrev pub MayBe : Bool → Abs I → Type 0
  MayBe b x = (v : Value) × HasValue d.has x v × (is_true v ≡ b)
