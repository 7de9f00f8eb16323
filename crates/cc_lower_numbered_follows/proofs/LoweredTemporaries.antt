-- Of a sound program that is lowered, the locals behind those of its source are registers: flags and temporaries.
use Rattle.std.proofs.Common.{◌≡◌, ◌∙◌, ◌<◌, ◌≤◌, ◌+◌, ◌⊎◌, inl, inr, ℕ, zero, suc, Bool, true, false, List, [], ◌∷◌, ◌++◌, All, length, map, max, min, get_or, Option, Some, option_map, slice_get, refl, ap, sym, subst, arith, length-append, append_assoc}
use Rattle.std.specs.Prelude.{is_some, not, nat_eq, ◌||◌, if◌then◌else◌}
use Rattle.std.specs.List.{list_all, list_any}
use Rattle.std.proofs.lemmas.Bool.{and_parts, and_from, cases_lt, ne_eqb}
use Rattle.std.proofs.lemmas.List.Elements.{All-map}
use Rattle.std.proofs.lemmas.Option.{slice_get-map, slice_get-get_or}
use Rattle.cc_lower_continues.specs.Continues.{HasFewLocals, flag_locals, flags_of, new_locals, unsigned_char, flagged_func, flagged_program}
use Rattle.cc_lower_continues_follows.proofs.Addresses as flags
use Rattle.cc_lower_continues_follows.proofs.FlaggedTyped.{flagged_typed}
use Rattle.cc_lower_continues_follows.proofs.FlagLocals.{behind, unsigned_char-out}
use Rattle.cc_lower_expressions.specs.Programs as expressions
use Rattle.cc_lower_expressions.specs.Programs.{lower_expressions_program, temporaries}
use Rattle.cc_lower_follows.proofs.Addresses as statements_kept
use Rattle.cc_lower_numbered_follows.specs.Registers.{HasRegisterTemporaries, AreTemporariesRegisters}
use Rattle.cc_lower_numbered_follows.proofs.Outside.{unaddressed}
use Rattle.cc_lower_numbers.specs.Temporaries.{has_name, named_count, kept_count}
use Rattle.cc_lower_sound.specs.Statements.{has_plain_statements}
use Rattle.cc_lower_sound.proofs.KeptRegisters.{register_law, temporary_law}
use Rattle.cc_lower_sound.proofs.LoweredPrograms.{lowered_typed}
use Rattle.cc_lower_sound.proofs.PlainStatements.{lowered_plain}
use Rattle.cc_lower_statements.specs.Statements as statements
use Rattle.cc_lower_statements.specs.Statements.{lower_program}
use Rattle.cc_program.specs.declared.func.Func.{Func}
use Rattle.cc_program.specs.declared.program.Program.{Program}
use Rattle.cc_program.specs.declared.types.CType.{CType}
use Rattle.cc_program.specs.declared.types.Shape.{Shape}
use Rattle.cc_program.specs.declared.types.Shape.TheOpen as shape
use Rattle.cc_program.specs.declared.types.Sig.{Sig}
use Rattle.cc_states.specs.CcSyntax.Names.{are_names, file_names, local_names}
use Rattle.cc_states.specs.CcSyntax.Registers.{may_be_register, is_addressed, is_register}
use Rattle.cc_states.specs.CcSyntax.Sound.{any_names, IsFuncBy, IsSound, IsTypedProgram}
use Rattle.cc_states.specs.CcSyntax.Types.{Named}
use Rattle.cc_states.specs.CcSyntax.Values.{scalar_value, scalar_shape}
use Rattle.cc_states.proofs.CcSyntax.NameRules.{sound-typed}
use Rattle.cc_program.specs.CcWords.Names.{is_name, are_distinct}

-- ---- locals with names

not_empty : (w : List ℕ) → is_name w ≡ true → not (nat_eq (length w) 0) ≡ true
unfolding is_name
not_empty [] h = absurd (cc)
not_empty (b ∷ bs) h = ap not (ne_eqb (suc (length bs)) 0 (λ e. omega (arith, e)))

have_names : (xs : List Named) (more : List (List ℕ)) → list_all is_name (local_names xs ++ more) ≡ true → list_all has_name xs ≡ true
have_names [] more h = refl
have_names (x ∷ xs) more h =
    let p = and_parts (is_name x.0) (list_all is_name (local_names xs ++ more)) h in and_from (has_name x) (list_all has_name xs) (not_empty x.0 p.0) (have_names xs more p.1)

named_front : (xs ys : List Named) → list_all has_name xs ≡ true → length xs ≤ named_count (xs ++ ys)
named_front [] ys h = omega arith
named_front (x ∷ xs) ys h =
    let p = and_parts (has_name x) (list_all has_name xs) h in
    let l = named_front xs ys p.1 in
    subst (λ (b : Bool). suc (length xs) ≤ (if b || list_any has_name (xs ++ ys) then suc (named_count (xs ++ ys)) else 0)) (sym p.0) (omega (arith, l))

flags_length : (n : ℕ) → length (flag_locals n) ≡ n
flags_length zero = refl
flags_length (suc n) = ap suc (flags_length n)

flag_scalar : is_some (scalar_value unsigned_char) ≡ true
flag_scalar = ap (λ (x : shape.Shape-F Shape CType Sig). is_some (scalar_shape x)) unsigned_char-out

-- ---- the program

module _ (p : Program) (flags_typed : IsTypedProgram (flagged_program p)) where
  abbrev before : Program
  before = lower_program (flagged_program p)

  abbrev with_statements : Func → Func
  with_statements f = statements.lower_func (flagged_func f)

  abbrev change : Func → Func
  change f = expressions.lower_func before (with_statements f)

  changes : (fs : List Func) → map change fs ≡ map (expressions.lower_func before) (map statements.lower_func (map flagged_func fs))
  changes [] = refl
  changes (f ∷ fs) = ap (λ (l : List Func). change f ∷ l) (changes fs)

  typed : IsTypedProgram before
  typed = lowered_typed (flagged_program p) flags_typed

  plain : has_plain_statements before ≡ true
  plain = lowered_plain (flagged_program p)

  there : (i : ℕ) (d : Func) → i < length p.funcs → slice_get before.funcs i ≡ Some (with_statements (get_or p.funcs i d))
  there i d l =
      slice_get-map statements.lower_func (map flagged_func p.funcs) i
      ∙ ap (λ (o : Option Func). option_map statements.lower_func o) (slice_get-map flagged_func p.funcs i ∙ ap (λ (o : Option Func). option_map flagged_func o) (slice_get-get_or p.funcs i d l))

  module _ (f : Func) (h : IsFuncBy p any_names f) (names : are_names (local_names f.locals ++ file_names p) ≡ true) (i : ℕ) (at : slice_get before.funcs i ≡ Some (with_statements f)) where
    -- the locals of the source are no temporaries
    source_kept : length f.locals ≤ kept_count (change f)
    source_kept =
        let n = have_names f.locals (file_names p) (and_parts (list_all is_name (local_names f.locals ++ file_names p)) (are_distinct (local_names f.locals ++ file_names p)) names).0 in
        let l = named_front f.locals (new_locals f ++ temporaries before (with_statements f)) n in
        let e = append_assoc f.locals (new_locals f) (temporaries before (with_statements f)) in
        let k = length-append f.locals (new_locals f ++ temporaries before (with_statements f)) in
        subst (λ (xs : List Named). length f.locals ≤ min (max f.params (named_count xs)) (length xs)) (sym e)
        (least (length f.locals) f.params (named_count (f.locals ++ (new_locals f ++ temporaries before (with_statements f)))) (length (f.locals ++ (new_locals f ++ temporaries before (with_statements f)))) (length (new_locals f ++ temporaries before (with_statements f))) l k)
      where
        least : (n params named all more : ℕ) → n ≤ named → all ≡ n + more → n ≤ min (max params named) all
        least n params named all more l k = omega arith

    flag_unaddressed : (r : ℕ) → length f.locals ≤ r → is_addressed (with_statements f) r ≡ false
    flag_unaddressed r l = statements_kept.addressed_same (flagged_func f) r ∙ flags.addressed_same f r ∙ unaddressed p f h r l

    flag_register : (r : ℕ) → length f.locals ≤ r → r < length (with_statements f).locals → is_register (with_statements f) r ≡ true
    unfolding is_register
    flag_register r l k =
        let a = length-append f.locals (new_locals f) in
        let b = flags_length (flags_of f.body) in
        and_from (may_be_register (slice_get (with_statements f).locals r)) (not (is_addressed (with_statements f) r))
        (ap may_be_register (behind f.locals (flags_of f.body) r l (inside r (length (with_statements f).locals) (length f.locals) (length (new_locals f)) (flags_of f.body) k a b)) ∙ and_from (is_some (scalar_value unsigned_char)) true flag_scalar refl)
        (ap not (flag_unaddressed r l))
      where
        inside : (r all old new flags : ℕ) → r < all → all ≡ old + new → new ≡ flags → r < old + flags
        inside r all old new flags k a b = omega arith

    func_registers : HasRegisterTemporaries (change f)
    func_registers r k l = by (cases_lt r (length (with_statements f).locals))
      where
        beyond : (a b c : ℕ) → a ≤ b → b ≤ c → a ≤ c
        beyond a b c h k = omega arith

        by : (r < length (with_statements f).locals) ⊎ (length (with_statements f).locals ≤ r) → is_register (change f) r ≡ true
        by (inl b) = register_law before typed plain i (with_statements f) at r (flag_register r (beyond (length f.locals) (kept_count (change f)) r source_kept k) b)
        by (inr b) = temporary_law before typed plain i (with_statements f) at r b l

  all_registers : IsSound p → AreTemporariesRegisters (lower_expressions_program before)
  all_registers sound =
      subst (λ (fs : List Func). All HasRegisterTemporaries fs) (changes p.funcs)
      (All-map HasRegisterTemporaries change p.funcs (λ i d l. func_registers (get_or p.funcs i d) ((sound-typed p sound).funcs i d l) (sound.funcs i d l).names i (there i d l)))

pub temporaries_are_registers : (p : Program) → IsSound p → All HasFewLocals (flagged_program p).funcs → AreTemporariesRegisters (lower_expressions_program (lower_program (flagged_program p)))
temporaries_are_registers p sound few = all_registers p (flagged_typed p (sound-typed p sound) few) sound
