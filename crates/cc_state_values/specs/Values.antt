-- Val: the abstract value of a pure expression, from the sets of the registers of its function. Each operator gives what the domain
-- gives for the sets of its operands, which are of its type; where they are sets of addresses, the hull of what pairs of members give
-- without a trap.
use Rattle.std.specs.Prelude.{◌≡◌, ℕ, ℤ, Bool, ◌&&◌, [], Option, Some}
use Rattle.cc_state_operators.specs.CcLattice.Domains.{AreOperands, AreOperandsOne}
use Rattle.cc_program.specs.CcNum.declared.int_type.IntType.{IntType}
use Rattle.cc_program.specs.CcNum.declared.op.BinOp.{BinOp}
use Rattle.cc_program.specs.CcNum.declared.op.UnOp.{UnOp}
use Rattle.cc_program.specs.declared.expr.Expr.{Expr, out-Expr}
use Rattle.cc_program.specs.declared.expr.Expr.TheOpen as one
use Rattle.cc_program.specs.declared.expr.Place.{Place as PlaceOf, out-Place}
use Rattle.cc_program.specs.declared.func.Func.{Func}
use Rattle.cc_program.specs.declared.program.Program.{Program}
use Rattle.cc_program.specs.declared.types.CType.{CType}
use Rattle.cc_program.specs.declared.value.Address.TheVariants as address
use Rattle.cc_program.specs.declared.value.Root.TheVariants as root
use Rattle.cc_state_operators.specs.CcPlaces.declared.abs.Abs.{Abs}
use Rattle.cc_state_operators.specs.CcPlaces.declared.abs.Abs.TheVariants as abs
use Rattle.cc_state_operators.specs.CcPlaces.declared.addrs.Addrs.{Addrs}
use Rattle.cc_state_operators.specs.CcPlaces.Moves.{HasMoved}
use Rattle.cc_state_operators.specs.CcPlaces.Sets.{IsSetOf}
use Rattle.cc_state_operators.specs.Addresses.{object_address, IsOnly, IsNone, AreMembers, AreElements}
use Rattle.cc_state_operators.specs.Domains.{Domain, IsHull, IsUnion}
use Rattle.cc_state_operators.specs.Results.{is_told, offsets, IsComparison, ByBoth, ByEither, IsArm, IsGap}
use Rattle.cc_state_operators.specs.CcSyntax.Effects.{place_effects_of}
use Rattle.cc_state_operators.specs.CcSyntax.Programs.{place_type}
use Rattle.cc_state_operators.specs.CcSyntax.Values.{PlaceType}

-- in a function of a program, where registers have these sets
module _ {I : Type 0} (d : Domain I) (p : Program) (id : ℕ) (f : Func) (register : ℕ → Option (Abs I)) where
  mutual
    pub data IsVal : Expr → Abs I → Type 0 where
      OfConst : {e : Expr} {y : Abs I} (n : ℤ) (t : IntType) (x : I) → out-Expr e ≡ one.Const n t → IsHull d (λ m. m ≡ n) x → y ≡ abs.Ints x → IsVal e y
      OfNull : {e : Expr} {y : Abs I} (t : CType) (s : Addrs) → out-Expr e ≡ one.Null t → IsOnly address.Null s → y ≡ abs.Addrs s → IsVal e y
      OfFunction : {e : Expr} {y : Abs I} (g : ℕ) (s : Addrs) → out-Expr e ≡ one.FuncAddr g → IsOnly (address.Func g) s → y ≡ abs.Addrs s → IsVal e y
      OfRegister : {e : Expr} {y : Abs I} (a : PlaceOf) (r : ℕ) → out-Expr e ≡ one.Load a → (place_effects_of f a).register ≡ Some r → register r ≡ Some y → IsVal e y
      OfAddress : {e : Expr} {y : Abs I} (a : PlaceOf) (s : Addrs) → out-Expr e ≡ one.AddrOf a → Designates a s → y ≡ abs.Addrs s → IsVal e y
      OfUn : {e : Expr} {y : Abs I} (o : UnOp) (t : IntType) (a : Expr) (x z : I) → out-Expr e ≡ one.Un o t a → IsVal a (abs.Ints x) → AreOperandsOne d.has x t p.target → d.op_one o x t p.target z → y ≡ abs.Ints z → IsVal e y
      OfBin : {e : Expr} {y : Abs I} (o : BinOp) (t : IntType) (a b : Expr) (x w z : I) → out-Expr e ≡ one.Bin o t a b → IsVal a (abs.Ints x) → IsVal b (abs.Ints w) → AreOperands d.has o x w t p.target → d.op o x w t p.target z → y ≡ abs.Ints z → IsVal e y
      OfConv : {e : Expr} {y : Abs I} (t : IntType) (a : Expr) (x z : I) → out-Expr e ≡ one.Conv t a → IsVal a (abs.Ints x) → d.to x t p.target z → y ≡ abs.Ints z → IsVal e y
      OfQualify : {e : Expr} {y : Abs I} (t : CType) (a : Expr) → out-Expr e ≡ one.Qualify t a → IsVal a y → IsVal e y
      OfMove : {e : Expr} {y : Abs I} (a b : Expr) (back : Bool) (s r : Addrs) (x : I) → out-Expr e ≡ one.Move a b back → IsVal a (abs.Addrs s) → IsVal b (abs.Ints x) → IsSetOf (HasMoved (offsets back (d.has x)) s s.is_exact) r → y ≡ abs.Addrs r → IsVal e y
      OfGap : {e : Expr} {y : Abs I} (a b : Expr) (s t : Addrs) (x : I) → out-Expr e ≡ one.Gap a b → IsVal a (abs.Addrs s) → IsVal b (abs.Addrs t) → IsGap d p.target s t (is_told s && is_told t) x → y ≡ abs.Ints x → IsVal e y
      OfCompare : {e : Expr} {y : Abs I} (o : BinOp) (a b : Expr) (s t : Addrs) (x : I) → out-Expr e ≡ one.Compare o a b → IsVal a (abs.Addrs s) → IsVal b (abs.Addrs t) → IsComparison d o s t (is_told s && is_told t) x → y ≡ abs.Ints x → IsVal e y
      OfBoth : {e : Expr} {y : Abs I} (a b : Expr) (x w : Abs I) (z : I) → out-Expr e ≡ one.Both a b → IsVal a x → IsVal b w → IsHull d (ByBoth d x w) z → y ≡ abs.Ints z → IsVal e y
      OfEither : {e : Expr} {y : Abs I} (a b : Expr) (x w : Abs I) (z : I) → out-Expr e ≡ one.Either a b → IsVal a x → IsVal b w → IsHull d (ByEither d x w) z → y ≡ abs.Ints z → IsVal e y
      OfChoose : {e : Expr} {y : Abs I} (c a b : Expr) (x u w : Abs I) → out-Expr e ≡ one.Choose c a b → IsVal c x → IsVal a u → IsVal b w → IsUnion d u (IsArm d x u w) y → IsVal e y

    -- the addresses of a place
    pub data Designates : PlaceOf → Addrs → Type 0 where
      AtLocal : {a : PlaceOf} {s : Addrs} (r : ℕ) → out-Place a ≡ one.Local r → IsOnly (object_address (root.Auto 0 id r) []) s → Designates a s
      AtStatic : {a : PlaceOf} {s : Addrs} (i : ℕ) → out-Place a ≡ one.Static i → IsOnly (object_address (root.Static i) []) s → Designates a s
      AtDevice : {a : PlaceOf} {s : Addrs} (n : ℕ) → out-Place a ≡ one.Device n → IsNone s → Designates a s
      AtElement : {a : PlaceOf} {s : Addrs} (b : PlaceOf) (i : Expr) (t : PlaceType) (r : Addrs) (x : I) → out-Place a ≡ one.Element b i → place_type p f.locals b ≡ Some t → Designates b r → IsVal i (abs.Ints x) → AreElements p t (d.has x) r s → Designates a s
      AtMember : {a : PlaceOf} {s : Addrs} (b : PlaceOf) (m : ℕ) (t : PlaceType) (r : Addrs) → out-Place a ≡ one.Member b m → place_type p f.locals b ≡ Some t → Designates b r → AreMembers p t m r s → Designates a s
      AtTarget : {a : PlaceOf} {s : Addrs} (e : Expr) → out-Place a ≡ one.Deref e → IsVal e (abs.Addrs s) → Designates a s
