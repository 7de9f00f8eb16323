-- The bodies of a program in normal form are normal.
use Rattle.std.proofs.Common.{◌≡◌, ℕ, Bool, true, List, [], ◌∷◌, Some, ap, sym, ◌∙◌, slice_get, zero, suc}
use Rattle.std.specs.List.{list_all}
use Rattle.std.proofs.lemmas.Option.{same_Some}
use Rattle.cc_program.specs.declared.func.Func.{Func}
use Rattle.cc_program.specs.declared.program.Program.{Program}
use Rattle.cc_states.specs.CcSyntax.Normal.{IsNormal, is_normal_body}
use Rattle.cc_states.proofs.CcSyntax.Prefixes.{both_true}
use Rattle.cc_flow_sound.proofs.Opened.{all_normal}

all_at : {A : Type 0} → (test : A → Bool) (xs : List A) (i : ℕ) (x : A) → list_all test xs ≡ true → slice_get xs i ≡ Some x → test x ≡ true
all_at test [] i x h e = absurd (cc)
all_at test (y ∷ xs) zero x h e = ap test (sym (same_Some y x e)) ∙ (both_true (test y) (list_all test xs) h).0
all_at test (y ∷ xs) (suc i) x h e = all_at test xs i x (both_true (test y) (list_all test xs) h).1 e

pub normal_body : (p : Program) → IsNormal p → (g : ℕ) (f : Func) → slice_get p.funcs g ≡ Some f → all_normal p.target f f.body ≡ true
normal_body p n g f e = all_at (λ f. is_normal_body p.target f) p.funcs g f n.bodies e
