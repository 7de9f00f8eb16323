-- Which keys a place may name and which functions a call may reach, by their form.
use Rattle.std.proofs.Common.{◌≡◌, ℕ, true, List, Contains, Option, Some, None, refl, sym, subst}
use Rattle.std.specs.Prelude.{option_map, option_and_then}
use Rattle.cc_rules.specs.CcPlaces.declared.abs.Abs.{Abs}
use Rattle.cc_program.specs.declared.expr.Expr.TheOpen as one
use Rattle.cc_program.specs.declared.expr.Place.{Place, out-Place}
use Rattle.cc_program.specs.declared.func.Func.{Func}
use Rattle.cc_program.specs.declared.program.Program.{Program}
use Rattle.cc_rules_reads.specs.Reads.{MayName, ByLocal, ByStatic, ByElement, ByMember, ByTarget}
use Rattle.cc_state.proofs.Lists.{any_there, no_member, only_one}
use Rattle.cc_rules.specs.CcStateFacts.declared.facts.Key.{Key}
use Rattle.cc_rules.specs.CcStateFacts.declared.facts.Key.TheVariants as key
use Rattle.cc_rules.proofs.CcStateKeys.Orders.{same_key}
use Rattle.cc_rules.specs.CcStateKeys.Keys.{is_key, structure_of}
use Rattle.cc_rules.specs.CcStateKeys.Lists.{only}
use Rattle.cc_rules.specs.CcStateOperators.Domains.{Domain}
use Rattle.cc_rules.specs.CcStateReads.Named.{is_among, AreClasses, OfLocal, OfStatic, OfDevice, OfElement, OfMember, OfTarget}
use Rattle.cc_rules.specs.CcSyntax.Programs.{place_type}

module _ {I : Type 0} (d : Domain I) (p : Program) (id : ℕ) (f : Func) (register : ℕ → Option (Abs I)) where
  of_member : (a b : Place) (m : ℕ) (k : Key) → out-Place a ≡ one.Member b m → (s : Option ℕ) → option_and_then structure_of (place_type p f.locals b) ≡ s → Contains (only (option_map (λ s. key.Member s m) s)) k → MayName p id f k a
  of_member a b m k is None e c = absurd (no_member k c)
  of_member a b m k is (Some s) e c = ByMember b m s is e (sym (only_one (key.Member s m) k c))

  class_formed : (a : Place) (classes : List Key) → AreClasses d p id f register a classes → (k : Key) → Contains classes k → MayName p id f k a
  class_formed a classes (OfLocal r is e) k c = ByLocal r is (sym (only_one (key.Local id r) k (subst (λ (l : List Key). Contains l k) e c)))
  class_formed a classes (OfStatic i is e) k c = ByStatic i is (sym (only_one (key.Object i) k (subst (λ (l : List Key). Contains l k) e c)))
  class_formed a classes (OfDevice n is e) k c = absurd (no_member k (subst (λ (l : List Key). Contains l k) e c))
  class_formed a classes (OfElement b i is h) k c = ByElement b i is (class_formed b classes h k c)
  class_formed a classes (OfMember b m is e) k c = of_member a b m k is (option_and_then structure_of (place_type p f.locals b)) refl (subst (λ (l : List Key). Contains l k) e c)
  class_formed a classes (OfTarget e s is v h) k c = ByTarget e is

  -- a key among the classes of a place
  pub named_formed : (a : Place) (classes : List Key) → AreClasses d p id f register a classes → (k : Key) → is_among classes k ≡ true → MayName p id f k a
  named_formed a classes h k among =
      let (c, there, is) = any_there (λ c. is_key c k) classes among in
      class_formed a classes h k (subst (λ (q : Key). Contains classes q) (same_key c k is) there)
