-- A tree has one typed unit or one fault, and not both: the definition gives one answer of two.
use Rattle.std.proofs.Common.{◌≡◌, ◌≢◌, ◌⊎◌, inl, inr, ℕ, Result, Ok, Err, refl, ap}
use Rattle.cc_program.specs.CcNum.declared.target.Target.{Target}
use Rattle.cc_typed_bodies.specs.CcOperands.RuleNumbers.{number_of}
use Rattle.cc_program.specs.declared.program.Roles.{Roles}
use Rattle.cc_scopes.specs.declared.verdict.Fault.{Fault}
use Rattle.cc_tree.specs.declared.unit.Unit.{Unit as UnitTree}
use Rattle.cc_type.specs.Typed.{IsTyped, IsBroken, Refuses}
use Rattle.cc_type.specs.Units.{unit_of}
use Rattle.cc_type.specs.declared.fault.TypeFault.{TypeFault}
use Rattle.cc_type.specs.declared.fault.TypeFault.TheVariants as fault
use Rattle.cc_typed_bodies.specs.CcUnit.declared.unit.TypedUnit.{TypedUnit}

module _ {A B : Type 0} where
  one_value : (r : Result A B) (a b : A) → r ≡ Ok a → r ≡ Ok b → a ≡ b
  one_value r a b p q = cc

  one_error : (r : Result A B) (e f : B) → r ≡ Err e → r ≡ Err f → e ≡ f
  one_error r e f p q = cc

  value_or_error : (r : Result A B) (a : A) (e : B) → r ≡ Ok a → r ≡ Err e → ⊥
  value_or_error r a e p q = cc

  one_of_both : (r : Result A B) → ((a : A) × (r ≡ Ok a)) ⊎ ((e : B) × (r ≡ Err e))
  one_of_both (Ok a) = inl (a, refl)
  one_of_both (Err e) = inr (e, refl)

pub one_unit : (target : Target) (roles : Roles) (u : UnitTree) (t v : TypedUnit) → IsTyped u target roles t → IsTyped u target roles v → t ≡ v
one_unit target roles u t v p q = one_value (unit_of target roles u) t v p q

-- a fault tells a rule by its number, and a place
told_alike : (e f : Fault) (n m a b : ℕ) → e ≡ f → n ≡ number_of e.rule → m ≡ number_of f.rule → a ≡ e.at → b ≡ f.at → fault.Broken n a ≡ fault.Broken m b
told_alike e f n m a b p h i j k = cc (ap (λ (g : Fault). number_of g.rule) p, ap (λ (g : Fault). g.at) p)

pub one_fault : (target : Target) (roles : Roles) (u : UnitTree) (e f : TypeFault) → e ≢ fault.NoMemory → f ≢ fault.NoMemory → Refuses target roles u e → Refuses target roles u f → e ≡ f
one_fault target roles u (fault.Broken n a) (fault.Broken m b) h k (e, p, i, x) (f, q, j, y) = told_alike e f n m a b (one_error (unit_of target roles u) e f p q) i j x y
one_fault target roles u (fault.Broken n a) fault.NoMemory h k p q = absurd (k refl)
one_fault target roles u fault.NoMemory f h k p q = absurd (h refl)

pub not_both : (target : Target) (roles : Roles) (u : UnitTree) (t : TypedUnit) (e : TypeFault) → e ≢ fault.NoMemory → IsTyped u target roles t → Refuses target roles u e → ⊥
not_both target roles u t (fault.Broken n a) h p (e, q, i, x) = value_or_error (unit_of target roles u) t e p q
not_both target roles u t fault.NoMemory h p q = h refl

pub either : (target : Target) (roles : Roles) (u : UnitTree) → ((t : TypedUnit) × IsTyped u target roles t) ⊎ ((f : Fault) × IsBroken u target roles f)
either target roles u = one_of_both (unit_of target roles u)
