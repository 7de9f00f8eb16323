-- What operators give on the values of their operands, where a domain alone does not say: on sets of addresses, and of truths.
use Rattle.std.specs.Prelude.{◌≡◌, ◌⊎◌, ℤ, pos, Bool, true, false, ◌&&◌, Option, Some, neg_ℤ}
use Rattle.std.specs.List.{Contains, list_all}
use Rattle.cc_program.specs.CcNum.declared.op.BinOp.{BinOp}
use Rattle.cc_program.specs.CcNum.declared.target.Target.{Target}
use Rattle.cc_program.specs.CcNum.Results.{one_if}
use Rattle.cc_program.specs.declared.value.Address.{Address}
use Rattle.cc_program.specs.declared.value.Address.TheVariants as address
use Rattle.cc_program.specs.declared.value.Root.TheVariants as root
use Rattle.cc_program.specs.declared.value.Value.{Value}
use Rattle.cc_program.specs.declared.value.Value.TheVariants.{Int, Place}
use Rattle.cc_places.specs.declared.abs.Abs.{Abs}
use Rattle.cc_places.specs.declared.addrs.Addrs.{Addrs}
use Rattle.cc_state_operators.specs.Domains.{Domain, IsHull, IsWhole, MayBe}
use Rattle.cc_eval.specs.CcSyntax.Operators.{difference_type}
use Rattle.cc_eval.specs.CcValues.Values.{gap, comparison}

-- a set that tells each of its addresses: it is exact, and none is automatic, which stands for those of all activations
abbrev pub is_static : Address → Bool
is_static address.Null = true
is_static (address.Func f) = true
is_static (address.At (root.Static i) path index count) = true
is_static (address.At (root.Auto activation func local) path index count) = false

abbrev pub is_told : Addrs → Bool
is_told s = s.is_exact && list_all is_static s.members

-- the numbers by which a pointer is moved
abbrev pub offsets : Bool → (ℤ → Type 0) → ℤ → Type 0
offsets true by n = by (neg_ℤ n)
offsets false by n = by n

module _ {I : Type 0} (d : Domain I) where
  -- what two pointers give, of some members of their sets: all that may be where a set does not tell its members
  abbrev pub Together : (Option Value → Option Value → Option Value) → Addrs → Addrs → ℤ → Type 0
  Together result s t n = (a : Address) × (b : Address) × Contains s.members a × Contains t.members b × (result (Some (Place a)) (Some (Place b)) ≡ Some (Int n))

  abbrev pub IsZeroOrOne : ℤ → Type 0
  IsZeroOrOne n = (n ≡ pos 0) ⊎ (n ≡ pos 1)

  abbrev pub IsComparison : BinOp → Addrs → Addrs → Bool → I → Type 0
  IsComparison o s t true x = IsHull d (Together (comparison o) s t) x
  IsComparison o s t false x = IsHull d IsZeroOrOne x

  -- `&&` and `||`: 0 or 1, where some members of the operands that are worked give it (6.5.13, 6.5.14)
  abbrev pub ByBoth : Abs I → Abs I → ℤ → Type 0
  ByBoth x y n = (MayBe d false x × (n ≡ pos 0)) ⊎ (MayBe d true x × ((b : Bool) × MayBe d b y × (n ≡ one_if b)))

  abbrev pub ByEither : Abs I → Abs I → ℤ → Type 0
  ByEither x y n = (MayBe d true x × (n ≡ pos 1)) ⊎ (MayBe d false x × ((b : Bool) × MayBe d b y × (n ≡ one_if b)))

  -- `?:`: the arms that the condition allows (6.5.15)
  abbrev pub IsArm : Abs I → Abs I → Abs I → Abs I → Type 0
  IsArm c x y z = (MayBe d true c × (z ≡ x)) ⊎ (MayBe d false c × (z ≡ y))

  abbrev pub IsGap : Target → Addrs → Addrs → Bool → I → Type 0
  IsGap target s t true x = IsHull d (Together (gap target) s t) x
  IsGap target s t false x = IsWhole d (difference_type target) target x
