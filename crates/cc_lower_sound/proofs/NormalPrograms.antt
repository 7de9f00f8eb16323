-- A program whose expressions are lowered is normal, but for names and the numbers of devices.
use Rattle.std.proofs.Common.{◌≡◌, ◌<◌, ℕ, suc, Bool, true, List, [], ◌∷◌, length, map, All, get_or, refl, arith}
use Rattle.std.specs.List.{list_all}
use Rattle.cc_lower_continues.specs.Continues.{HasFewLocals}
use Rattle.cc_lower_expressions.specs.Programs.{lowered_body, lower_func, lower_expressions_program}
use Rattle.cc_program.specs.declared.func.Func.{Func}
use Rattle.cc_program.specs.declared.program.Program.{Program}
use Rattle.cc_eval.specs.CcSyntax.Normal.{is_normal_body}
use Rattle.cc_eval.specs.CcSyntax.Registers.{is_register}
use Rattle.cc_eval.specs.CcSyntax.Sound.{any_names, IsFuncBy, IsTypedProgram}
use Rattle.cc_lower_sound.specs.Folded.{are_folded, has_folded_expressions}
use Rattle.cc_lower_sound.specs.Normal.{IsNormalButForNames}
use Rattle.cc_lower_sound.specs.Statements.{are_plain, has_plain_statements}
use Rattle.cc_lower_sound.proofs.Bools.{two}
use Rattle.cc_lower_sound.proofs.KeptRegisters.{register_kept, temporaries_registers}
use Rattle.cc_lower_sound.proofs.LoweredBodies.{body_made}
use Rattle.cc_lower_sound.proofs.NormalBodies.{normal_body_reading, normal_body_laws, each_stmt}
use Rattle.cc_lower_sound.proofs.NormalReading.{normal_reading, normal_laws, all_normal}
use Rattle.cc_lower_sound.proofs.TypedPrograms.{tested_or, lowered_program_typed}

module _ (p : Program) (h : IsTypedProgram p) (f : Func) (k : IsFuncBy p any_names f) (plain_body : are_plain f.body ≡ true) (folded_body : are_folded p.target f.body ≡ true) where
  abbrev kept : (r : ℕ) → is_register f r ≡ true → is_register (lower_func p f) r ≡ true
  kept r e = register_kept p h f k plain_body r e

  body_normal : is_normal_body p.target (lower_func p f) ≡ true
  body_normal =
      all_normal p f (lower_func p f) kept (lowered_body p f)
      ((body_made p f (normal_reading p f (lower_func p f) kept) (normal_body_reading p f (lower_func p f) kept) (normal_laws p f (lower_func p f) kept) (normal_body_laws p f (lower_func p f) kept) (λ e t d. refl) (λ x t d e. refl)
      f.body k.body plain_body (each_stmt p.target f.body folded_body)).made (length f.locals) tt (temporaries_registers p h f k plain_body)).0

all_from : {A B : Type 0} (g : A → B) (test : B → Bool) (xs : List A) → ((i : ℕ) (d : A) → i < length xs → test (g (get_or xs i d)) ≡ true) → list_all test (map g xs) ≡ true
all_from g test [] h = refl
all_from g test (x ∷ xs) h = two (test (g x)) (list_all test (map g xs)) (h 0 x (omega arith)) (all_from g test xs (λ i d lt. h (suc i) d (omega arith)))

pub bodies_normal : (p : Program) → IsTypedProgram p → has_plain_statements p ≡ true → has_folded_expressions p ≡ true → list_all (λ f. is_normal_body p.target f) (map (lower_func p) p.funcs) ≡ true
bodies_normal p h plain folded =
    all_from (lower_func p) (λ (f : Func). is_normal_body p.target f) p.funcs
    (λ i d lt. body_normal p h (get_or p.funcs i d) (h.funcs i d lt) (tested_or (λ (f : Func). are_plain f.body) p.funcs i d plain lt) (tested_or (λ (f : Func). are_folded p.target f.body) p.funcs i d folded lt))

pub lowered_program_normal : (p : Program) → IsTypedProgram p → has_plain_statements p ≡ true → has_folded_expressions p ≡ true → All HasFewLocals (lower_expressions_program p).funcs → IsNormalButForNames (lower_expressions_program p)
lowered_program_normal p h plain folded few = record { typed = lowered_program_typed p h plain few; bodies = bodies_normal p h plain folded }
