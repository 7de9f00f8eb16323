-- What is found for the body of a function with these parameters, in their scope (C99 6.9.1).
use Rattle.std.specs.Prelude.{◌≡◌, true, List, [], length}
use Rattle.cc_operand_types.specs.Typed.{MembersStand}
use Rattle.cc_program.proofs.Each.{Each}
use Rattle.cc_program.specs.declared.stmt.Stmt.{Stmt}
use Rattle.cc_program.specs.declared.types.CType.{CType}
use Rattle.cc_type.specs.CcScopes.State.{State, Name, Scope, entered, with_locals}
use Rattle.cc_read_sound.specs.Bodies.{ResultStands}
use Rattle.cc_sound_declarations.specs.Declaring.{AreObjects, Declares, lowered}
use Rattle.cc_sound_terms.specs.Knowing.{KnowsNames, ObjectsStand}
use Rattle.cc_sound_terms.specs.Standing.{ParameterStands}
use Rattle.cc_sound_terms.specs.Typing.{KnowsTypes}
use Rattle.cc_type.specs.CcSpecifiers.declared.derivation.Parameter.{Parameter}
use Rattle.cc_type.specs.CcSyntax.Expressions.{type_of}
use Rattle.cc_type.specs.CcSyntax.Statements.{is_sound_body}
use Rattle.cc_type.specs.CcSyntax.Types.{Named}
use Rattle.cc_type.specs.CcSyntax.Views.{View}
use Rattle.cc_type.specs.Functions.{locals_of}

-- where the body begins
abbrev pub begun : List Parameter → Scope → State → State
begun ps scope s = entered scope (with_locals (locals_of ps) s)

module _ (v : View) (defined : List Name) (result : CType) (ps : List Parameter) (scope : Scope) (s : State) (r : List Stmt × State) where
  -- the objects that it declares, which are its locals but for const; over a view that knows what there is behind it, in which the parameters and the result may stand, these have objects' types, and it is sound
  pub record IsFunctionBody : Type 0 where
    pub objects : List Named
    pub goes : Declares v defined (begun ps scope s) (locals_of ps) r.1 objects
    pub locals : r.1.locals ≡ lowered (length ps) objects
    pub types : KnowsTypes v s r.1 → KnowsTypes v (begun ps scope s) r.1
    pub complete : Each (ParameterStands v) ps → KnowsTypes v s r.1 → AreObjects v objects
    pub sound : ResultStands v result → Each (ParameterStands v) ps → KnowsTypes v s r.1 → KnowsNames v r.1.names → MembersStand v → ObjectsStand v [] s → is_sound_body v.target (type_of v r.1.locals) result r.0 ≡ true
