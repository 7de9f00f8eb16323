-- The classes of a place, by its form.
use Rattle.std.proofs.Common.{◌≡◌, ℕ, List, [], ◌∷◌, Some, ap, ◌∙◌, subst}
use Rattle.std.specs.List.{flat_map}
use Rattle.cc_state_values.specs.CcPlaces.declared.abs.Abs.{Abs}
use Rattle.cc_state_values.specs.CcPlaces.declared.abs.Abs.TheVariants as abs
use Rattle.cc_state_values.specs.CcPlaces.declared.addrs.Addrs.{Addrs}
use Rattle.cc_program.specs.declared.expr.Expr.{Expr}
use Rattle.cc_program.specs.declared.expr.Expr.TheOpen as one
use Rattle.cc_program.specs.declared.expr.Place.{Place, out-Place, Local, Static, Device}
use Rattle.cc_program.specs.declared.expr.Place.TheVariants.{outs-Local, outs-Static, outs-Device}
use Rattle.cc_state_keys.specs.CcStateFacts.declared.facts.Key.{Key}
use Rattle.cc_state_keys.specs.CcStateFacts.declared.facts.Key.TheVariants as key
use Rattle.cc_state_values.specs.CcStateOperators.Domains.{Domain}
use Rattle.cc_state_values.specs.CcStateOperators.Operands.{AreAddrs}
use Rattle.cc_state_values.specs.CcStateOperators.Types.{AreOf}
use Rattle.cc_state_reads.specs.Contexts.{AreClassesIn, AreClassesAs}
use Rattle.cc_state_reads.specs.Named.{OfLocal, OfStatic, OfDevice, OfElement, OfMember, OfTarget, member_class, target_class}
use Rattle.cc_state_values.proofs.Arms.{target_works}
use Rattle.cc_state_values.specs.Contexts.{IsPurePlaceAs, IsValIn, set_in}
use Rattle.cc_state_values.specs.declared.context.Context.{Context}
use Rattle.cc_state_keys.specs.CcSyntax.Programs.{place_type, type_of}
use Rattle.cc_state_keys.specs.CcSyntax.Values.{ValueType}

module _ {I : Type 0} (d : Domain I) (c : Context I) where
  pub local_classes : (a : Place) (r : ℕ) (classes : List Key) → a ≡ Local r → classes ≡ key.Local c.id r ∷ [] → AreClassesIn d c a classes
  local_classes a r classes h k = OfLocal r (ap out-Place h ∙ outs-Local r) k

  pub static_classes : (a : Place) (i : ℕ) (classes : List Key) → a ≡ Static i → classes ≡ key.Object i ∷ [] → AreClassesIn d c a classes
  static_classes a i classes h k = OfStatic i (ap out-Place h ∙ outs-Static i) k

  pub device_classes : (a : Place) (n : ℕ) (classes : List Key) → a ≡ Device n → classes ≡ [] → AreClassesIn d c a classes
  device_classes a n classes h k = OfDevice n (ap out-Place h ∙ outs-Device n) k

  pub element_classes : (a b : Place) (i : Expr) (classes : List Key) → out-Place a ≡ one.Element b i → AreClassesIn d c b classes → AreClassesIn d c a classes
  element_classes a b i classes h k = OfElement b i h k

  pub member_classes : (a b : Place) (m : ℕ) (classes : List Key) → out-Place a ≡ one.Member b m → classes ≡ member_class (place_type c.program.now c.func.now.locals b) m → AreClassesIn d c a classes
  member_classes a b m classes h k = OfMember b m h k

  -- a pointer has a set of addresses
  pub is_pointer : (e : Expr) (y : Abs I) → IsPurePlaceAs d c (one.Deref e) → IsValIn d c e y →
      ((t : ValueType) → type_of c.program.now c.func.now.locals e ≡ Some t → AreOf d c.program.now.target t y) → AreAddrs y
  is_pointer e y pure value typed = target_works d c.program.now c.id c.func.now (set_in c) e y pure record { value = value; of_type = typed }

  pub target_classes : (e : Expr) (y : Abs I) (s : Addrs) (classes : List Key) → IsValIn d c e y → y ≡ abs.Addrs s → classes ≡ flat_map (target_class c.program.now) s.members → AreClassesAs d c (one.Deref e) classes
  target_classes e y s classes value is k a h = OfTarget e s h (subst (λ z. IsValIn d c e z) is value) k
