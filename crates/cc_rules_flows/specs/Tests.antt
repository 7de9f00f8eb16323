-- What a test leaves of the sets of registers, and of those of the tracked cells that equal one, where it passes (C99 6.8.4). All are
-- refined at once, from the sets at the point.
use Rattle.std.specs.Prelude.{◌≡◌, ◌⊎◌, ℕ, ◌==◌, ℤ, Bool, true, false, List, [], ◌∷◌, Option, Some, None, slice_get, if◌then◌else◌}
use Rattle.std.specs.List.{Contains}
use Rattle.cc_program.specs.CcNum.declared.int_type.IntType.{IntType}
use Rattle.cc_program.specs.CcNum.declared.op.BinOp.{BinOp}
use Rattle.cc_program.specs.CcNum.declared.op.BinOp.TheVariants as op
use Rattle.cc_state_reads.specs.CcLattice.Domains.{is_comparison}
use Rattle.cc_program.specs.CcNum.Integers.{IsValueOf}
use Rattle.cc_state_reads.specs.CcPlaces.declared.abs.Abs.{Abs}
use Rattle.cc_state_reads.specs.CcPlaces.declared.abs.Abs.TheVariants as abs
use Rattle.cc_state_reads.specs.CcPlaces.declared.addrs.Addrs.{Addrs}
use Rattle.cc_state_reads.specs.CcPlaces.Abstract.{HasValue}
use Rattle.cc_program.specs.declared.expr.Expr.{Expr, out-Expr}
use Rattle.cc_program.specs.declared.expr.Expr.TheOpen as one
use Rattle.cc_program.specs.declared.expr.Place.{Place}
use Rattle.cc_program.specs.declared.func.Func.{Func}
use Rattle.cc_program.specs.declared.program.Program.{Program}
use Rattle.cc_program.specs.declared.value.Value.{Value}
use Rattle.cc_program.specs.declared.value.Value.TheVariants as value
use Rattle.cc_state_reads.specs.CcStateOperators.Domains.{Domain, IsHull}
use Rattle.cc_state_reads.specs.CcStateOperators.Types.{AreOf}
use Rattle.cc_state_reads.specs.CcStateValues.Values.{IsVal}
use Rattle.cc_syntax.specs.Effects.{place_effects_of}
use Rattle.cc_syntax.specs.Types.{Named}
use Rattle.cc_syntax.specs.Values.{ValueType, scalar_value}
use Rattle.cc_state_reads.specs.CcValues.Values.{is_true}

-- of the value of an `if`'s condition: that it is true, or false; of that of a `switch`: that it equals a label, or, for `default`, none of all
pub data Test : Type 0 where
  Is : Bool → Test
  Equals : ℤ → Test
  Differs : List ℤ → Test

abbrev pub Passes : Test → Value → Type 0
Passes (Is b) v = is_true v ≡ b
Passes (Equals n) v = v ≡ value.Int n
Passes (Differs ns) v = (n : ℤ) → Contains ns n → v ≡ value.Int n → ⊥

-- the comparison that passes where another one does not, and that which passes with its operands the other way round
abbrev pub negated : BinOp → BinOp
negated op.Lt = op.Ge
negated op.Le = op.Gt
negated op.Gt = op.Le
negated op.Ge = op.Lt
negated op.Eq = op.Ne
negated op.Ne = op.Eq
negated o = o

abbrev pub turned : BinOp → BinOp
turned op.Lt = op.Gt
turned op.Le = op.Ge
turned op.Gt = op.Lt
turned op.Ge = op.Le
turned o = o

abbrev pub passing : Bool → BinOp → BinOp
passing true o = o
passing false o = negated o

module _ {I : Type 0} (d : Domain I) (p : Program) (id : ℕ) (f : Func) (register : ℕ → Option (Abs I)) (e : Expr) (test : Test) where
  -- a set has a value with which the test passes
  abbrev pub HasPassing : Abs I → Type 0
  HasPassing y = (v : Value) × HasValue d.has y v × Passes test v

  -- the test may pass, as the registers are
  abbrev pub MayPass : Type 0
  MayPass = (y : Abs I) → IsVal d p id f register e y → HasPassing y

  -- one register at other members, the others as at the point
  abbrev pub with_member : ℕ → I → ℕ → Option (Abs I)
  with_member r one q = if q == r then Some (abs.Ints one) else register q

  -- with the register at this member the test may pass
  abbrev pub Stays : ℕ → ℤ → Type 0
  Stays r m = (one : I) (y : Abs I) → IsHull d (λ n. n ≡ m) one → IsVal d p id f (with_member r one) e y → HasPassing y

  -- an operand is the register, or a conversion of it to a type that has all members of its set
  abbrev pub IsRead : ℕ → Expr → Type 0
  IsRead r a = (place : Place) × (out-Expr a ≡ one.Load place) × ((place_effects_of f place).register ≡ Some r)

  abbrev pub KeepsAll : IntType → I → Type 0
  KeepsAll t x = (n : ℤ) → d.has x n → IsValueOf t p.target n

  abbrev pub IsOperand : ℕ → I → Expr → Type 0
  IsOperand r x a = IsRead r a ⊎ ((t : IntType) × (c : Expr) × (out-Expr a ≡ one.Conv t c) × (IsRead r c × KeepsAll t x))

  -- by the one operand of a comparison, where it is such an operand, its set is cut by what the other one gives with the register in that set
  pub data IsCutAs (r : ℕ) (x : I) (o : BinOp) (a c : Expr) (u z : I) : Type 0 where
    Cut : (w : I) → IsOperand r x a → IsVal d p id f (with_member r x) c (abs.Ints w) → d.keep o u w z → IsCutAs r x o a c u z
    Uncut : (IsOperand r x a → ⊥) → z ≡ u → IsCutAs r x o a c u z

  -- by labels, one after the other
  pub data IsCutBy : List ℤ → I → I → Type 0 where
    ByNone : {ns : List ℤ} {x z : I} → ns ≡ [] → z ≡ x → IsCutBy ns x z
    ByFirst : {ns : List ℤ} {x z : I} (n : ℤ) (rest : List ℤ) (one u : I) → ns ≡ n ∷ rest → IsHull d (λ m. m ≡ n) one → d.keep op.Ne x one u → IsCutBy rest u z → IsCutBy ns x z

  -- a range, where the test compares: by the left operand, and then by the right one
  pub data IsCut (r : ℕ) (x z : I) : Test → Type 0 where
    ByComparison : {t : Test} (b : Bool) (o : BinOp) (of : IntType) (a c : Expr) (u : I) → t ≡ Is b → out-Expr e ≡ one.Bin o of a c → is_comparison o ≡ true →
        IsCutAs r x (passing b o) a c x u → IsCutAs r x (turned (passing b o)) c a u z → IsCut r x z t
    ByLabel : {t : Test} (n : ℤ) (one : I) → t ≡ Equals n → IsOperand r x e → IsHull d (λ m. m ≡ n) one → d.keep op.Eq x one z → IsCut r x z t
    ByLabels : {t : Test} (ns : List ℤ) → t ≡ Differs ns → IsOperand r x e → IsCutBy ns x z → IsCut r x z t

  -- a test that compares, or that equals the register, where its set is this one, with labels
  abbrev pub Compares : ℕ → I → Test → Type 0
  Compares r x (Is b) = (o : BinOp) × (of : IntType) × (a : Expr) × (c : Expr) × (out-Expr e ≡ one.Bin o of a c) × (is_comparison o ≡ true)
  Compares r x (Equals n) = IsOperand r x e
  Compares r x (Differs ns) = IsOperand r x e

  -- what is left of a set of a register, or of a cell that equals it: of an explicit one the members that stay, of a range what the
  -- comparison keeps; a set of addresses stays
  pub data IsLeft (r : ℕ) : Abs I → Abs I → Type 0 where
    OfMembers : {y z : Abs I} (x u : I) (members : List ℤ) → y ≡ abs.Ints x → d.members x ≡ Some members → IsHull d (λ m. Contains members m × Stays r m) u → z ≡ abs.Ints u → IsLeft r y z
    OfRange : {y z : Abs I} (x u : I) → y ≡ abs.Ints x → d.members x ≡ None → IsCut r x u test → z ≡ abs.Ints u → IsLeft r y z
    OfOther : {y z : Abs I} (x : I) → y ≡ abs.Ints x → d.members x ≡ None → (Compares r x test → ⊥) → z ≡ y → IsLeft r y z
    OfAddresses : {y z : Abs I} (s : Addrs) → y ≡ abs.Addrs s → z ≡ y → IsLeft r y z

  -- the set of a cell has only values of the type of a register
  abbrev pub IsOfRegister : ℕ → Abs I → Type 0
  IsOfRegister r y = (l : Named) × (t : ValueType) × (slice_get f.locals r ≡ Some l) × (scalar_value l.1 ≡ Some t) × AreOf d p.target t y

  -- what a register that equals a cell leaves of its set
  pub data IsLeftAlike (r : ℕ) (y z : Abs I) : Type 0 where
    Alike : IsOfRegister r y → IsLeft r y z → IsLeftAlike r y z
    Unlike : (IsOfRegister r y → ⊥) → z ≡ y → IsLeftAlike r y z

  -- by several registers, one after the other
  abbrev pub IsLeftBy : List ℕ → Abs I → Abs I → Type 0
  IsLeftBy [] y z = z ≡ y
  IsLeftBy (r ∷ rs) y z = (u : Abs I) × IsLeftAlike r y u × IsLeftBy rs u z
