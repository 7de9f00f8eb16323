-- Locals that have ids.
use Rattle.std.proofs.Common.{◌≡◌, ◌^◌, zero, suc, Bool, true, List, [], ◌∷◌, All, length, nat_lt, Result, Ok, Err, OnOk, subst, ltb-true, arith}
use Rattle.std.specs.List.{list_all}
use Rattle.cc_lower.specs.Lowered.{HasIds}
use Rattle.cc_lower_continues.specs.Continues.{HasFewLocals}
use Rattle.cc_lower_normal.specs.Lowered.{lowered_but_for_names}
use Rattle.cc_lower_sound.proofs.Bools.{first_true, second_true}
use Rattle.cc_program.specs.declared.func.Func.{Func}
use Rattle.cc_program.specs.declared.program.Program.{Program}

abbrev pub has_ids : Func → Bool
has_ids f = nat_lt (length f.locals) (2 ^ 32)

few_by : (fs : List Func) → list_all has_ids fs ≡ true → All HasFewLocals fs
few_by [] h i d b = absurd (omega (arith, b))
few_by (f ∷ fs) h zero d b = ltb-true (length f.locals) (2 ^ 32) (first_true (has_ids f) (list_all has_ids fs) h)
few_by (f ∷ fs) h (suc i) d b = few_by fs (second_true (has_ids f) (list_all has_ids fs) h) i d (omega (arith, b))

-- where the program before it is numbered was looked at
pub ids_of : {E : Type 0} (r : Result Program E) (p q : Program) → q ≡ lowered_but_for_names p → list_all has_ids q.funcs ≡ true → OnOk r (HasIds p)
ids_of (Ok x) p q e h = subst (λ (q : Program). All HasFewLocals q.funcs) e (few_by q.funcs h)
ids_of (Err x) p q e h = tt
