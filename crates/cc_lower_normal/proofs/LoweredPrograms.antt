-- A sound program is sound, and in normal form, when its statements and expressions are lowered and its temporaries are numbered.
use Rattle.std.proofs.Common.{◌≡◌, ◌∙◌, ◌<◌, ◌+◌, ◌^◌, ℕ, zero, suc, true, List, [], ◌∷◌, ◌++◌, length, map, All, Option, refl, ap, subst, arith, length-append, append_assoc}
use Rattle.std.specs.List.{list_all}
use Rattle.std.proofs.lemmas.Bool.{and_from}
use Rattle.std.proofs.lemmas.List.Folds.{list_all-append}
use Rattle.cc_accessed_operands.specs.Accessed.{AreDevicesAccessed}
use Rattle.cc_lower_continues.specs.Continues.{HasFewLocals, flag_locals, new_locals, flagged_func, flagged_program, flags_of}
use Rattle.cc_lower_continues_follows.proofs.FlaggedTyped.{flagged_typed}
use Rattle.cc_lower_expressions.specs.Expressions.{Temps}
use Rattle.cc_lower_expressions.specs.Programs as expressions
use Rattle.cc_lower_expressions.specs.Programs.{made_of}
use Rattle.cc_lower_expressions.specs.Temporaries.{declared_type}
use Rattle.cc_lower_normal.specs.Lowered.{lowered_but_for_names}
use Rattle.cc_lower_normal.proofs.AccessedBodies.{lowered_has}
use Rattle.cc_lower_normal.proofs.AccessedStatements.{statements_access}
use Rattle.cc_lower_numbers.specs.Numbered.{numbered}
use Rattle.cc_lower_numbers_sound.specs.Devices.{AreDevicesInText}
use Rattle.cc_lower_numbers_sound.specs.Names.{AreNamesApartButForTemporaries}
use Rattle.cc_lower_numbers_sound.proofs.DeviceOrders.{ordered_devices}
use Rattle.cc_lower_numbers_sound.proofs.KeptNames.{is_unnamed, AddsUnnamed, with_funcs, others_apart}
use Rattle.cc_lower_numbers_sound.proofs.NormalPrograms.{numbered_sound, numbered_normal}
use Rattle.cc_lower_sound.specs.Folded.{has_folded_expressions}
use Rattle.cc_lower_sound.specs.Normal.{IsNormalButForNames}
use Rattle.cc_lower_sound.proofs.PlainStatements.{lowered_plain}
use Rattle.cc_lower_sound.proofs.WholePrograms.{whole_normal, whole_typed}
use Rattle.cc_lower_statements.specs.Statements as statements
use Rattle.cc_lower_statements.specs.Statements.{lower_program}
use Rattle.cc_program.specs.declared.func.Func.{Func}
use Rattle.cc_program.specs.declared.program.Program.{Program}
use Rattle.cc_states.specs.CcSyntax.Normal.{IsNormal, devices_in_order}
use Rattle.cc_states.specs.CcSyntax.Sound.{IsSound, IsTypedProgram}
use Rattle.cc_states.specs.CcSyntax.Values.{ValueType}
use Rattle.cc_states.proofs.CcSyntax.NameRules.{sound-named, sound-typed}

pub numbered_whole : (p : Program) → IsNormalButForNames p → AreNamesApartButForTemporaries p → AreDevicesInText p → IsNormal (numbered p)
numbered_whole p h n d = numbered_normal p h.typed n d h.bodies

flags_unnamed : (n : ℕ) → list_all is_unnamed (flag_locals n) ≡ true
flags_unnamed zero = refl
flags_unnamed (suc n) = flags_unnamed n

temporaries_unnamed : (ts : Temps) → list_all is_unnamed (map (λ (t : Option ValueType). ([], declared_type t)) ts) ≡ true
temporaries_unnamed [] = refl
temporaries_unnamed (t ∷ ts) = temporaries_unnamed ts

module _ (p : Program) where
  abbrev before : Program
  before = lower_program (flagged_program p)

  abbrev changed : Func → Func
  changed f = statements.lower_func (flagged_func f)

  abbrev change : Func → Func
  change f = expressions.lower_func before (changed f)

  abbrev funcs : List Func → List Func
  funcs fs = map (expressions.lower_func before) (map statements.lower_func (map flagged_func fs))

  changes : (fs : List Func) → map change fs ≡ funcs fs
  changes [] = refl
  changes (f ∷ fs) = ap (λ (l : List Func). change f ∷ l) (changes fs)

  adds : (f : Func) → AddsUnnamed f (change f)
  adds f = record {
    name = refl;
    params = refl;
    more = new_locals f ++ expressions.temporaries before (changed f);
    unnamed = list_all-append is_unnamed (new_locals f) (expressions.temporaries before (changed f))
        ∙ and_from (list_all is_unnamed (new_locals f)) (list_all is_unnamed (expressions.temporaries before (changed f))) (flags_unnamed (flags_of f.body)) (temporaries_unnamed (made_of before (changed f)).temps);
    locals = append_assoc f.locals (new_locals f) (expressions.temporaries before (changed f));
  }

  pub lowered_apart : IsSound p → AreNamesApartButForTemporaries (lowered_but_for_names p)
  lowered_apart h = subst (λ (fs : List Func). AreNamesApartButForTemporaries (with_funcs p fs)) (changes p.funcs) (others_apart change adds p (sound-typed p h) (sound-named p h))

  -- each pass adds locals
  flags_few : (fs : List Func) → All HasFewLocals (funcs fs) → All HasFewLocals (map flagged_func fs)
  flags_few [] h i d l = absurd (omega arith)
  flags_few (f ∷ fs) h zero d l =
      less (length (flagged_func f).locals) (length (expressions.temporaries before (changed f))) (length (change f).locals)
      (length-append (flagged_func f).locals (expressions.temporaries before (changed f))) (h 0 (change f) some)
    where
      less : (a b c : ℕ) → c ≡ a + b → c < 2 ^ 32 → a < 2 ^ 32
      less a b c e k = omega arith

      some : 0 < suc (length (funcs fs))
      some = omega arith
  flags_few (f ∷ fs) h (suc i) d l = flags_few fs (λ j e k. h (suc j) e (omega arith)) i d (omega arith)

  pub few_flags : All HasFewLocals (lowered_but_for_names p).funcs → All HasFewLocals (flagged_program p).funcs
  few_flags few = flags_few p.funcs few

  pub lowered_typed : IsTypedProgram p → All HasFewLocals (lowered_but_for_names p).funcs → IsTypedProgram (lowered_but_for_names p)
  lowered_typed h few = whole_typed p (flagged_typed p h (few_flags few)) few

  pub lowered_sound : IsSound p → All HasFewLocals (lowered_but_for_names p).funcs → IsSound (numbered (lowered_but_for_names p))
  lowered_sound h few = numbered_sound (lowered_but_for_names p) (lowered_typed (sound-typed p h) few) (lowered_apart h)

  pub devices_there : AreDevicesAccessed p → AreDevicesInText (lowered_but_for_names p)
  devices_there h i d e n = lowered_has i before (lowered_plain (flagged_program p)) (statements_access p i (h i d e n))

  but_for_names : IsSound p → has_folded_expressions p ≡ true → All HasFewLocals (lowered_but_for_names p).funcs → IsNormalButForNames (lowered_but_for_names p)
  but_for_names h folded few = whole_normal p (flagged_typed p (sound-typed p h) (few_flags few)) folded few

  pub lowered_normal : IsSound p → has_folded_expressions p ≡ true → AreDevicesAccessed p → All HasFewLocals (lowered_but_for_names p).funcs → IsNormal (numbered (lowered_but_for_names p))
  lowered_normal h folded accessed few = numbered_whole (lowered_but_for_names p) (but_for_names h folded few) (lowered_apart h) (devices_there accessed)

  pub ordered_normal : IsSound p → has_folded_expressions p ≡ true → All HasFewLocals (lowered_but_for_names p).funcs → devices_in_order (numbered (lowered_but_for_names p)) ≡ true → IsNormal (numbered (lowered_but_for_names p))
  ordered_normal h folded few ordered =
      let n = but_for_names h folded few in numbered_whole (lowered_but_for_names p) n (lowered_apart h) (ordered_devices (lowered_but_for_names p) n.typed ordered)
