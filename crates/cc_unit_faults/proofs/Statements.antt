-- The law of expressions and declarations that stand in statements.
use Rattle.std.proofs.Common.{ℕ, List, [], ◌∷◌, Option, Some, None, Ok, refl}
use Rattle.cc_first_faults.proofs.Lawful.{Own, own-whole}
use Rattle.cc_first_faults.specs.Constructs.{ValueOf, Declaration}
use Rattle.cc_first_faults.specs.FirstFaults.{forget}
use Rattle.cc_program.specs.CcNum.declared.target.Target.{Target}
use Rattle.cc_type.specs.CcOperands.Operands.{Operand}
use Rattle.cc_program.specs.declared.program.Roles.{Roles}
use Rattle.cc_program.specs.declared.types.CType.{CType}
use Rattle.cc_type.specs.CcScopes.State.{State, Name, empty, entered}
use Rattle.cc_type.specs.CcScopes.Verdicts.{Found, whole, and_then, maybe_found}
use Rattle.cc_type.specs.CcSpecifiers.declared.storage.Where.TheVariants as stands
use Rattle.cc_tree.specs.declared.at.At.{At}
use Rattle.cc_tree.specs.declared.tree.Tree.{Tree}
use Rattle.cc_tree.specs.declared.unit.Decl.{Decl}
use Rattle.cc_tree.specs.declared.unit.First.{First as FirstPart}
use Rattle.cc_tree.specs.declared.unit.First.TheVariants as first_part
use Rattle.cc_type.specs.CcTypedBodies.Meanings.{scoped}
use Rattle.cc_type.specs.CcTypedBodies.Parts.{value_here, effect_found, expression_found, return_found, declared_found, first_found}
use Rattle.cc_type.specs.CcTypedBodies.Declarations.{declaration}
use Rattle.cc_type.specs.CcTypedStatements.Conditions.{effect}
use Rattle.cc_type.specs.CcTypedStatements.Jumps.{returned}
use Rattle.cc_unit_faults.specs.Constructs.{Construct, Within, EffectOf}
use Rattle.cc_unit_faults.specs.Parts.{value_part, value_if_any, effect_if_any, first_parts}
use Rattle.cc_unit_faults.proofs.Laws.{Law, Told, first, single, followed, last}
use Rattle.cc_unit_faults.proofs.Lifted.{inner-told}

module _ (target : Target) (roles : Roles) (defined : List Name) where
  -- ---- values

  value-told : (at : ℕ) (e : At Tree) (s : State) → Told target roles defined at ((Within (ValueOf e), s) ∷ []) (value_here target roles e s)
  unfolding value_here
  value-told at e s = inner-told target roles defined at (ValueOf e) s (value_here target roles e s) refl

  pub value-then : {B : Type 0} (at : ℕ) (e : At Tree) (s : State) (next : Operand → State → Found B) (rest : Operand → State → List (Construct × State)) → ((x : Operand) (t : State) → Told target roles defined at (rest x t) (next x t)) →
      Told target roles defined at (value_part target roles e s rest) (and_then (value_here target roles e s) next)
  value-then at e s next rest h = followed target roles defined at ((Within (ValueOf e), s) ∷ []) (value_here target roles e s) next rest (value-told at e s) h

  pub value-last : {B : Type 0} (at : ℕ) (e : At Tree) (s : State) (next : Operand → State → Found B) → ((x : Operand) (t : State) → Own at (forget (next x t))) →
      Told target roles defined at ((Within (ValueOf e), s) ∷ []) (and_then (value_here target roles e s) next)
  value-last at e s next h = last target roles defined at ((Within (ValueOf e), s) ∷ []) (value_here target roles e s) next (value-told at e s) h

  pub maybe-value-told : (at : ℕ) (o : Option (At Tree)) (s : State) → Told target roles defined at (value_if_any o s) (maybe_found (value_here target roles) o s)
  maybe-value-told at None s = tt
  maybe-value-told at (Some e) s = value-last at e s (λ x s. Ok (Some x, s)) (λ x t. tt)

  -- ---- expressions for what they do

  pub effect-law : (e : At Tree) (s : State) → Law target roles defined (EffectOf e) s
  unfolding effect_found
  effect-law e s = value-last e.at e s (λ x s. whole e.at s (effect x)) (λ x t. own-whole e.at t (effect x))

  effect-told : (at : ℕ) (e : At Tree) (s : State) → Told target roles defined at ((EffectOf e, s) ∷ []) (effect_found target roles e s)
  effect-told at e s = single target roles defined at (EffectOf e) s (effect_found target roles e s) refl (first target roles defined (EffectOf e) s (effect-law e s))

  pub maybe-effect-told : (at : ℕ) (o : Option (At Tree)) (s : State) → Told target roles defined at (effect_if_any o s) (maybe_found (effect_found target roles) o s)
  maybe-effect-told at None s = tt
  maybe-effect-told at (Some e) s = last target roles defined at ((EffectOf e, s) ∷ []) (effect_found target roles e s) (λ x s. Ok (Some x, s)) (effect-told at e s) (λ x t. tt)

  pub expression-told : (at : ℕ) (o : Option (At Tree)) (s : State) → Told target roles defined at (effect_if_any o s) (expression_found target roles o s)
  unfolding expression_found
  expression-told at None s = tt
  expression-told at (Some e) s = last target roles defined at ((EffectOf e, s) ∷ []) (effect_found target roles e s) _ (effect-told at e s) (λ x t. tt)

  -- ---- `return`, declarations, and what stands first in a `for`

  pub return-told : (result : CType) (at : ℕ) (o : Option (At Tree)) (s : State) → Told target roles defined at (value_if_any o s) (return_found target roles result o at s)
  unfolding return_found
  return-told result at o s = last target roles defined at (value_if_any o s) (maybe_found (value_here target roles) o s) _ (maybe-value-told at o s) (λ x t. own-whole at t (returned target result x))

  pub declared-told : (at : ℕ) (d : Decl) (s : State) → Told target roles defined at ((Within (Declaration stands.InBlock d), s) ∷ []) (declared_found target roles defined d s)
  unfolding declared_found
  declared-told at d s =
      last target roles defined at ((Within (Declaration stands.InBlock d), s) ∷ []) (declaration target roles defined stands.InBlock d s) _
      (inner-told target roles defined at (Declaration stands.InBlock d) s (declaration target roles defined stands.InBlock d s) refl) (λ es t. tt)

  pub first-told : (at : ℕ) (f : FirstPart) (s : State) → Told target roles defined at (first_parts f s) (first_found target roles defined f s)
  unfolding first_found
  first-told at (first_part.Decl d) s =
      last target roles defined at ((Within (Declaration stands.InFor d), s) ∷ []) (declaration target roles defined stands.InFor d s) _
      (inner-told target roles defined at (Declaration stands.InFor d) s (declaration target roles defined stands.InFor d s) refl) (λ es t. tt)
  first-told at (first_part.Expr e) s = maybe-effect-told at e s

  -- ---- a scope

  pub scoped-told : {A : Type 0} (at : ℕ) (ps : List (Construct × State)) (inner : State → Found A) (s : State) → Told target roles defined at ps (inner (entered empty s)) → Told target roles defined at ps (scoped inner s)
  unfolding scoped
  scoped-told at ps inner s l = last target roles defined at ps (inner (entered empty s)) _ l (λ x t. tt)
