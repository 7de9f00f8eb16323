-- A program with lowered statements is typed where its source is.
use Rattle.std.proofs.Common.{◌≡◌, true, get_or, sym, subst, refl}
use Rattle.cc_lower_statements.specs.Statements.{lower_body, lower_func, lower_program}
use Rattle.cc_program.specs.declared.func.Func.{Func}
use Rattle.cc_program.specs.declared.program.Program.{Program}
use Rattle.cc_program.specs.declared.types.Sig.{out-Sig}
use Rattle.cc_eval.specs.CcSyntax.Expressions.{type_of}
use Rattle.cc_eval.specs.CcSyntax.Sound.{any_names, IsFuncBy, IsTypedProgram}
use Rattle.cc_eval.specs.CcSyntax.Statements.{is_sound_body}
use Rattle.cc_eval.specs.CcSyntax.Views.{View, of_program}
use Rattle.cc_lower_sound.proofs.ChangedFunctions.{HasSameHead, changed_typed, view_same}
use Rattle.cc_lower_sound.proofs.LoweredStatements.{sound_lowered}

heads : (f : Func) → HasSameHead f (lower_func f)
heads f = record { name = refl; sig = refl; entry = refl }

func_typed : (p : Program) (f : Func) → IsFuncBy p any_names f → IsFuncBy (lower_program p) any_names (lower_func f)
func_typed p f h = record {
  result = h.result;
  parameters = h.parameters;
  form = h.form;
  entry = h.entry;
  count = h.count;
  first = h.first;
  few = h.few;
  locals = h.locals;
  automatic = h.automatic;
  names = refl;
  body = subst (λ (v : View). is_sound_body p.target (type_of v f.locals) (out-Sig f.sig).result (lower_body f) ≡ true) (sym (view_same lower_func heads p)) (sound_lowered (of_program p) f.locals (out-Sig f.sig).result f.body h.body);
}

pub lowered_typed : (p : Program) → IsTypedProgram p → IsTypedProgram (lower_program p)
lowered_typed p h = changed_typed lower_func heads p h (λ i d lt. func_typed p (get_or p.funcs i d) (h.funcs i d lt))
