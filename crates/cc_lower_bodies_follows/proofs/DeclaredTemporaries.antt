-- Each temporary of a lowered function is a register, and is declared with the type of what is put there.
use Rattle.std.proofs.Common.{◌≡◌, ℕ, suc, ◌+◌, true, List, [], ◌∷◌, ◌++◌, length, map, Option, Some, option_map, slice_get, refl, ap, ◌∙◌, sym, subst, arith}
use Rattle.std.specs.Prelude.{option_and_then}
use Rattle.cc_states.specs.CcEval.Eval.{Designation, designation}
use Rattle.cc_lower_expressions.specs.Expressions.{Temps}
use Rattle.cc_lower_expressions.specs.Programs.{made_of, lower_func}
use Rattle.cc_lower_expressions.specs.Temporaries.{declared_type}
use Rattle.cc_operand_types.specs.Typed.{Agree, Same, Pointers as AgreePointers}
use Rattle.cc_program.specs.declared.expr.Place.{Local}
use Rattle.cc_program.specs.declared.func.Func.{Func}
use Rattle.cc_program.specs.declared.program.Program.{Program}
use Rattle.cc_states.specs.CcSyntax.Registers.{is_register}
use Rattle.cc_states.specs.CcSyntax.Sound.{any_names, IsFuncBy, IsTypedProgram}
use Rattle.cc_states.specs.CcSyntax.Types.{Named}
use Rattle.cc_states.specs.CcSyntax.Values.{ValueType, object_place, read_from, scalar_value}
use Rattle.cc_states.specs.CcSyntax.Views.{of_program}
use Rattle.cc_lower_sound.specs.Statements.{are_plain, has_plain_statements}
use Rattle.cc_lower_sound.proofs.KeptRegisters.{temporaries_registers}
use Rattle.cc_lower_sound.proofs.Pieces.{IsGood, AreGood, Declared as AllAre}
use Rattle.cc_lower_sound.proofs.Standing.{declares, declared_stands}
use Rattle.cc_lower_sound.proofs.TypedPrograms.{all_at, tested_at, behind, moved, longer, as_local, good_temps}
use Rattle.cc_lower_sound.proofs.TypedReading.{declared_value}
use Rattle.cc_lower_expressions_follows.specs.Agreement.{TypesAgree, EqualTypes, Pointers}
use Rattle.cc_lower_expressions_follows.specs.Relation.{Declared}
use Rattle.cc_lower_expressions_follows.specs.Trees.{Setting, context_q}
use Rattle.cc_lower_expressions_follows.specs.WholeFits.{setting_of}
use Rattle.cc_lower_expressions_follows.proofs.Opened.{at-Local}

values_agree : (u t : ValueType) → Agree u t → TypesAgree (Some u) (Some t)
values_agree _ _ (Same t) = EqualTypes (Some t)
values_agree _ _ (AgreePointers constant volatile t u h) = Pointers constant volatile t u h

module _ (P : Program) (typed : IsTypedProgram P) (number id : ℕ) (f : Func) where
  abbrev w : Setting
  w = setting_of P number id f

  -- a local that is declared as a temporary of this type
  type_there : (n : ℕ) (o : Option ValueType) → slice_get w.to.locals n ≡ Some (as_local o) → IsGood (declares (of_program P)) o → TypesAgree (option_and_then read_from (designation (context_q w) (Local n)).ctype) o
  type_there n o e g =
      let d = declared_value (of_program P) g.type g.scalar (declared_stands (of_program P) g.type g.standing) in
      let place : (designation (context_q w) (Local n)).ctype ≡ Some (object_place (declared_type o)) =
      ap (λ (d : Designation). d.ctype) (at-Local (context_q w) n) ∙ ap (option_map (λ (l : Named). object_place l.1)) e in
      let value : option_and_then read_from (designation (context_q w) (Local n)).ctype ≡ Some d.0 =
      ap (option_and_then read_from) place ∙ ap (λ (z : Option ValueType). scalar_value (declared_type z)) g.is ∙ d.1 in
      subst (λ (z : Option ValueType). TypesAgree z o) (sym value) (subst (λ (z : Option ValueType). TypesAgree (Some d.0) z) (sym g.is) (values_agree d.0 g.type d.2))

  declared_from : (front : List Named) (ts : Temps) → w.to.locals ≡ front ++ map as_local ts → AreGood (declares (of_program P)) ts → AllAre (λ n t. is_register (lower_func P f) n ≡ true) (length front) ts → Declared w (length front) ts
  declared_from front [] e g r = tt
  declared_from front (o ∷ ts) e g r =
      let here : slice_get w.to.locals (length front) ≡ Some (as_local o) = ap (λ (l : List Named). slice_get l (length front)) e ∙ behind front (map as_local ts) (as_local o) in
      let more : length (front ++ as_local o ∷ []) ≡ length front + 1 = longer front (as_local o) in
      let next : length (front ++ as_local o ∷ []) ≡ suc (length front) = omega (arith, more) in
      let rest = declared_from (front ++ as_local o ∷ []) ts (e ∙ moved front (map as_local ts) (as_local o)) g.1 (subst (λ (n : ℕ). AllAre (λ n t. is_register (lower_func P f) n ≡ true) n ts) (sym more) r.1) in
      (record { register = r.0 g.0.type g.0.is; ctype = type_there (length front) o here g.0 }, subst (λ (n : ℕ). Declared w n ts) next rest)

pub temporaries_declared : (P : Program) → IsTypedProgram P → has_plain_statements P ≡ true → (number id : ℕ) (f : Func) → slice_get P.funcs id ≡ Some f → Declared (setting_of P number id f) (length f.locals) (made_of P f).temps
temporaries_declared P typed plain number id f there =
    let k = all_at (IsFuncBy P any_names) P.funcs id f typed.funcs there in
    let q = tested_at (λ (f : Func). are_plain f.body) P.funcs id f plain there in
    declared_from P typed number id f f.locals (made_of P f).temps refl (good_temps P typed f k q) (temporaries_registers P typed f k q)
