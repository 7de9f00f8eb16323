-- A program with lowered statements is typed where its source is.
use Rattle.std.proofs.Common.{◌≡◌, true, get_or, refl, sym, subst}
use Rattle.std.proofs.lemmas.List.Elements.{All-map}
use Rattle.cc_program.specs.declared.func.Func.{Func}
use Rattle.cc_program.specs.declared.program.Program.{Program}
use Rattle.cc_program.specs.declared.types.Sig.{out-Sig}
use Rattle.cc_lower_statements.specs.Statements.{lower_body, lower_func, lower_program}
use Rattle.cc_states.specs.CcSyntax.Expressions as typing
use Rattle.cc_states.specs.CcSyntax.Sound.{IsFuncBy, IsTypedProgram, any_names}
use Rattle.cc_states.specs.CcSyntax.Statements as statements
use Rattle.cc_states.specs.CcSyntax.Views.{View}
use Rattle.cc_lower_continues_follows.proofs.LoweredStatements.{lowered_sound}
use Rattle.cc_lower_continues_follows.proofs.TypedPrograms.{program_typed, view_same}

module _ (P : Program) where
  func_typed : (f : Func) → IsFuncBy P any_names f → IsFuncBy (lower_program P) any_names (lower_func f)
  func_typed f h = record {
    result = h.result;
    parameters = h.parameters;
    form = h.form;
    entry = h.entry;
    count = h.count;
    first = h.first;
    few = h.few;
    locals = h.locals;
    automatic = h.automatic;
    names = refl;
    body = subst (λ (v : View). statements.is_sound_body P.target (typing.type_of v f.locals) (out-Sig f.sig).result (lower_body f) ≡ true) (sym (view_same lower_func P (λ f. refl) (λ f. refl))) (lowered_sound P f f.body h.body);
  }

  pub lowered_typed : IsTypedProgram P → IsTypedProgram (lower_program P)
  lowered_typed h =
      program_typed lower_func P (λ f. refl) (λ f. refl) h (All-map (IsFuncBy (lower_program P) any_names) lower_func P.funcs (λ i d lt. func_typed (get_or P.funcs i d) (h.funcs i d lt)))
