-- A program whose `do`s have flags is typed where its source is, if no function has more locals than have ids.
use Rattle.std.proofs.Common.{◌≡◌, ◌<◌, ◌^◌, ◌∙◌, ◌∷◌, ◌++◌, ℕ, zero, suc, Bool, true, false, not, List, [], All, drop, length, get_or, refl, ap, sym, subst}
use Rattle.std.specs.List.{list_all}
use Rattle.std.proofs.lemmas.Bool.{lt-ltb}
use Rattle.std.proofs.lemmas.List.{length-map, get_or-map}
use Rattle.std.proofs.lemmas.List.Elements.{All-map}
use Rattle.cc_program.specs.declared.func.Func.{Func}
use Rattle.cc_program.specs.declared.program.Program.{Program}
use Rattle.cc_program.specs.declared.types.CType.{CType}
use Rattle.cc_program.specs.declared.types.Shape.{Shape}
use Rattle.cc_program.specs.declared.types.Shape.TheOpen as shape
use Rattle.cc_program.specs.declared.types.Sig.{Sig, out-Sig}
use Rattle.cc_states.proofs.CcSyntax.SameLemmas.{and_true}
use Rattle.cc_states.proofs.CcSyntax.KindRolls.{kind-opens, parts_kind}
use Rattle.cc_states.specs.CcSyntax.Expressions as typing
use Rattle.cc_states.specs.CcSyntax.Kinds.{is_object_type, qualified_kind, shape_kind}
use Rattle.cc_states.specs.CcSyntax.SameTypes.{same_shape}
use Rattle.cc_states.specs.CcSyntax.Sound.{IsFuncBy, IsTypedProgram, any_names, are_parameters, is_automatic, is_local}
use Rattle.cc_states.specs.CcSyntax.Statements as statements
use Rattle.cc_states.specs.CcSyntax.Types.{Named}
use Rattle.cc_states.specs.CcSyntax.Views.{View, of_program}
use Rattle.cc_lower_continues.specs.Continues.{HasFewLocals, flag_locals, flagged_func, flagged_program, flags_of, new_body, new_locals, unsigned_char}
use Rattle.cc_lower_continues_follows.proofs.ExpressionNames.{both_left, both_right}
use Rattle.cc_lower_continues_follows.proofs.FlaggedStatements.{flagged_sound, not_const}
use Rattle.cc_lower_continues_follows.proofs.FlagLocals.{unsigned_char-out}
use Rattle.cc_lower_continues_follows.proofs.TypedPrograms.{program_typed, view_same}

parameters_kept : (ts : List CType) (ls more : List Named) → are_parameters ts ls ≡ true → are_parameters ts (ls ++ more) ≡ true
parameters_kept [] ls more h = refl
parameters_kept (t ∷ ts) [] more h = absurd (cc)
parameters_kept (t ∷ ts) (l ∷ ls) more h =
    and_true (same_shape t.shape l.1.shape) (are_parameters ts (ls ++ more)) (both_left (same_shape t.shape l.1.shape) (are_parameters ts ls) h) (parameters_kept ts ls more (both_right (same_shape t.shape l.1.shape) (are_parameters ts ls) h))

module _ (test : Named → Bool) where
  appended : (xs ys : List Named) → list_all test xs ≡ true → list_all test ys ≡ true → list_all test (xs ++ ys) ≡ true
  appended [] ys h k = k
  appended (x ∷ xs) ys h k = and_true (test x) (list_all test (xs ++ ys)) (both_left (test x) (list_all test xs) h) (appended xs ys (both_right (test x) (list_all test xs) h) k)

  of_flags : test ([], unsigned_char) ≡ true → (n : ℕ) → list_all test (flag_locals n) ≡ true
  of_flags h zero = refl
  of_flags h (suc n) = and_true (test ([], unsigned_char)) (list_all test (flag_locals n)) h (of_flags h n)

  dropped : (n : ℕ) (ys : List Named) → list_all test ys ≡ true → list_all test (drop n ys) ≡ true
  dropped zero ys h = h
  dropped (suc n) [] h = refl
  dropped (suc n) (y ∷ ys) h = dropped n ys (both_right (test y) (list_all test ys) h)

  dropped_appended : (n : ℕ) (xs ys : List Named) → list_all test (drop n xs) ≡ true → list_all test ys ≡ true → list_all test (drop n (xs ++ ys)) ≡ true
  dropped_appended zero xs ys h k = appended xs ys h k
  dropped_appended (suc n) [] ys h k = dropped (suc n) ys k
  dropped_appended (suc n) (x ∷ xs) ys h k = dropped_appended n xs ys h k

module _ (P : Program) where
  flag_there : is_local P ([], unsigned_char) ≡ true
  flag_there =
      ap is_object_type (kind-opens P.target (of_program P).extents unsigned_char)
      ∙ ap (λ (x : shape.Shape-F Shape CType Sig). is_object_type (qualified_kind false (shape_kind P.target (of_program P).extents (parts_kind P.target (of_program P).extents x)))) unsigned_char-out

  flag_automatic : is_automatic ([], unsigned_char) ≡ true
  flag_automatic = ap not not_const

  func_typed : (f : Func) → IsFuncBy P any_names f → HasFewLocals (flagged_func f) → IsFuncBy (flagged_program P) any_names (flagged_func f)
  func_typed f h few = record {
    result = h.result;
    parameters = h.parameters;
    form = h.form;
    entry = h.entry;
    count = h.count;
    first = parameters_kept (out-Sig f.sig).params f.locals (new_locals f) h.first;
    few = lt-ltb (length (f.locals ++ new_locals f)) (2 ^ 32) few;
    locals = appended (is_local P) f.locals (new_locals f) h.locals (of_flags (is_local P) flag_there (flags_of f.body));
    automatic = dropped_appended is_automatic f.params f.locals (new_locals f) h.automatic (of_flags is_automatic flag_automatic (flags_of f.body));
    names = refl;
    body = subst (λ (v : View). statements.is_sound_body P.target (typing.type_of v (f.locals ++ new_locals f)) (out-Sig f.sig).result (new_body f) ≡ true) (sym (view_same flagged_func P (λ f. refl) (λ f. refl))) (flagged_sound P f h.body);
  }

  few_at : All HasFewLocals (flagged_program P).funcs → (i : ℕ) (d : Func) → i < length P.funcs → HasFewLocals (flagged_func (get_or P.funcs i d))
  few_at few i d lt = subst HasFewLocals (get_or-map flagged_func P.funcs i d (flagged_func d) lt) (few i (flagged_func d) (subst (λ (n : ℕ). i < n) (sym (length-map P.funcs flagged_func)) lt))

  pub flagged_typed : IsTypedProgram P → All HasFewLocals (flagged_program P).funcs → IsTypedProgram (flagged_program P)
  flagged_typed h few =
      program_typed flagged_func P (λ f. refl) (λ f. refl) h
      (All-map (IsFuncBy (flagged_program P) any_names) flagged_func P.funcs (λ i d lt. func_typed (get_or P.funcs i d) (h.funcs i d lt) (few_at few i d lt)))
