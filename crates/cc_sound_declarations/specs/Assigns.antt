-- What is found in the body of a function with so many parameters, and the assignments that declarations there give, typed (C99 6.7.8, 11; 6.8).
use Rattle.std.specs.Prelude.{◌≡◌, ℕ, true, List, is_some}
use Rattle.std.specs.List.{list_all}
use Rattle.cc_program.specs.declared.expr.Expr.{Expr}
use Rattle.cc_typed_bodies.specs.CcScopes.State.{State, Name}
use Rattle.cc_sound_declarations.specs.Declaring.{AreDeclared, Declares, lowered}
use Rattle.cc_sound_declarations.specs.Reached.{Reached}
use Rattle.cc_sound_terms.specs.Ordered.{IsOrdered}
use Rattle.cc_sound_terms.specs.Typing.{Knows}
use Rattle.cc_typed_bodies.specs.CcSyntax.Expressions.{type_of}
use Rattle.cc_typed_bodies.specs.CcSyntax.Types.{Named}
use Rattle.cc_typed_bodies.specs.CcSyntax.Views.{View}

-- a state in which the function has declared these objects, and whose structures stand in order
pub record HasObjects (parameters : ℕ) (objects : List Named) (s : State) : Type 0 where
  pub declared : AreDeclared parameters objects s
  pub ordered : IsOrdered s

module _ (v : View) (parameters : ℕ) where
  abbrev pub BodyReached : List Name → (A : Type 0) → (List Named → A → Type 0) → List Named → State → A × State → Type 0
  BodyReached defined A T D s r = Reached (Declares v defined) (λ D s t. Knows v D s t) (HasObjects parameters) A T D s r

  -- over the locals of the function, when it declares these objects
  abbrev pub AssignsTyped : List Named → List Expr → Type 0
  AssignsTyped L es = list_all (λ e. is_some (type_of v (lowered parameters L) e)) es ≡ true
