-- An operand that is a register, and a conversion that keeps its set.
use Rattle.std.proofs.Common.{◌≡◌, ◌↔◌, ℕ, ℤ, ◌≤ℤ◌, to_z, of_z, Bool, true, false, IsTrue, Some, None, cond, inl, inr, ⊎_elim, refl, ap, sym, subst, ◌∙◌, arith}
use Rattle.std.proofs.lemmas.Int.{ints}
use Rattle.std.specs.Int.{w128}
use Rattle.std.proofs.lemmas.Option.{same_Some}
use Rattle.cc_rules_flows.specs.CcLattice.Domains.{AreEnds, IsInReach}
use Rattle.cc_program.specs.CcNum.declared.int_type.IntType.{IntType}
use Rattle.cc_program.specs.CcNum.declared.target.Target.{Target}
use Rattle.cc_program.specs.CcNum.Integers.{IsValueOf, is_value_of}
use Rattle.cc_program.proofs.CcNum.ResultLaws.{is_value_from, value_from_test}
use Rattle.cc_program.specs.declared.expr.Expr.{Expr, out-Expr}
use Rattle.cc_program.specs.declared.expr.Expr.TheOpen as one
use Rattle.cc_program.specs.declared.expr.Place.{Place, out-Place}
use Rattle.cc_program.specs.declared.func.Func.{Func}
use Rattle.cc_program.specs.declared.program.Program.{Program}
use Rattle.cc_rules_tests.specs.Forms.{conversion_in}
use Rattle.cc_rules_tests.specs.Tested.{IsOperandIn, ReadsLocal}
use Rattle.cc_rules_tests.proofs.Formed.{conversion_back, none_some}
use Rattle.cc_rules_tests.proofs.Following.{reach_same}
use Rattle.cc_rules_tests.specs.declared.tested.Tested.{Tested}
use Rattle.cc_rules_flows.specs.CcStateOperators.Domains.{Domain, AllOf}
use Rattle.cc_rules_flows.proofs.CcStateValues.Parts.{by_place, place_effects_at}
use Rattle.cc_rules_flows.specs.CcSyntax.Effects.{PlaceEffects, place_effects_of}
use Rattle.cc_rules_flows.specs.CcSyntax.Registers.{is_register}

-- a value is between the ends of its type
pub between : (t : IntType) (target : Target) (low high v : ℤ) → IsValueOf t target low → IsValueOf t target high → low ≤ℤ v → v ≤ℤ high → IsValueOf t target v
between t target low high v h k l m = let a = h.least in let b = k.most in record { least = omega (arith, ints, a, l); most = omega (arith, ints, b, m) }

module _ {I : Type 0} (d : Domain I) (t : IntType) (target : Target) (x : I) (low high : ℤ) where
  pub both_ends : (a b : Bool) → AreEnds (d.has x) (low, high) → IsInReach low → IsInReach high → a ≡ is_value_of t target (to_z w128 (of_z w128 low)) → b ≡ is_value_of t target (to_z w128 (of_z w128 high)) → a ≡ true → (IsTrue b ↔ AllOf d t target x)
  both_ends a b ends l h first second is = (
    (λ k n m. between t target low high n (value_from_test t target low (sym (first ∙ ap (is_value_of t target) (reach_same low l)) ∙ is)) (value_from_test t target high (sym (second ∙ ap (is_value_of t target) (reach_same high h)) ∙ k)) (ends.low n m) (ends.high n m)),
    (λ k. second ∙ ap (is_value_of t target) (reach_same high h) ∙ is_value_from t target high (k high ends.high_in)),
  )

  pub first_end : (a : Bool) → AreEnds (d.has x) (low, high) → IsInReach low → a ≡ is_value_of t target (to_z w128 (of_z w128 low)) → a ≡ false → (IsTrue a ↔ AllOf d t target x)
  first_end a ends l first is = (
    (λ k. let e : a ≡ true = k in absurd (cc)),
    (λ k. first ∙ ap (is_value_of t target) (reach_same low l) ∙ is_value_from t target low (k low ends.low_in)),
  )

module _ (p : Program) (f : Func) (r : ℕ) where
  abbrev pub IsReadOf : Expr → Type 0
  IsReadOf a = (place : Place) × (out-Expr a ≡ one.Load place) × ((place_effects_of f place).register ≡ Some r)

  pub read_of : (a : Expr) → is_register f r ≡ true → ReadsLocal r a → IsReadOf a
  read_of a h (place, e, k) = (place, e, ap (λ (z : PlaceEffects). z.register) (place_effects_at f place (one.Local r) k) ∙ ap (λ b. cond b (Some r) None) h)

  pub of_read : (a : Expr) → IsReadOf a → ReadsLocal r a
  of_read a (place, e, k) =
      let w = by_place p f place r (out-Place place) refl k (sym (ap (λ (z : PlaceEffects). z.register) (place_effects_at f place (out-Place place) refl)) ∙ k) in
      (place, e, w.is_local ∙ ap (λ (n : ℕ). one.Local n) (same_Some w.local r (sym w.known ∙ k)))

module _ {I : Type 0} (d : Domain I) (t : Tested I) (r : ℕ) (x : I) (h : is_register t.context.now.func.now r ≡ true) where
  abbrev Program' : Program
  Program' = t.context.now.program.now

  pub not_converted : (a : Expr) (b : Bool) → conversion_in (out-Expr a) ≡ None → (IsTrue b ↔ ReadsLocal r a) → (IsTrue b ↔ IsOperandIn d t r x a)
  not_converted a b none tells = (
    (λ k. inl (read_of Program' t.context.now.func.now r a h (tells.0 k))),
    (λ k. ⊎_elim (λ l. tells.1 (of_read Program' t.context.now.func.now r a l)) (λ l. other l.0 l.1 l.2) k),
  )
    where
      other : {A : Type 0} (to : IntType) (c : Expr) → out-Expr a ≡ one.Conv to c → A
      other to c e = none_some (to, c) (sym none ∙ ap conversion_in e)

  pub converted : (a c : Expr) (to : IntType) (b : Bool) → conversion_in (out-Expr a) ≡ Some (to, c) → (IsTrue b ↔ (ReadsLocal r c × AllOf d to t.context.now.program.now.target x)) → (IsTrue b ↔ IsOperandIn d t r x a)
  converted a c to b some tells = (
    (λ k. inr (to, c, conversion_back (out-Expr a) to c some, (read_of Program' t.context.now.func.now r c h (tells.0 k).0, (tells.0 k).1))),
    (λ k. ⊎_elim (λ l. other l.0 l.1) (λ l. tells.1 (same l.0 l.1 l.2 l.3.0 l.3.1)) k),
  )
    where
      other : {A : Type 0} (place : Place) → out-Expr a ≡ one.Load place → A
      other place e = none_some (to, c) (sym (ap conversion_in e) ∙ some)

      same : (s : IntType) (e : Expr) → out-Expr a ≡ one.Conv s e → IsReadOf Program' t.context.now.func.now r e → AllOf d s t.context.now.program.now.target x → ReadsLocal r c × AllOf d to t.context.now.program.now.target x
      same s e k l m =
          let q : (s, e) ≡ (to, c) = same_Some (s, e) (to, c) (sym (ap conversion_in k) ∙ some) in
          (of_read Program' t.context.now.func.now r c (subst (λ (z : IntType × Expr). IsReadOf Program' t.context.now.func.now r z.1) q l), subst (λ (z : IntType × Expr). AllOf d z.0 t.context.now.program.now.target x) q m)
