-- Numbers of devices, objects and functions of a normal program.
use Rattle.std.proofs.Common.{◌≡◌, ◌≤◌, ◌-◌, ◌^◌, ◌*◌, ℕ, ◌||◌, eqb, ltb, Bool, true, false, Some, subst, arith, slice_get, IsTrue, ◌⊎◌, inl, inr, if◌then◌else◌}
use Rattle.std.proofs.lemmas.Bool.Decides.{nat_tests}
use Rattle.cc_program.specs.CcNum.declared.target.Target.{Target}
use Rattle.cc_program.specs.declared.func.Func.{Func}
use Rattle.cc_program.specs.declared.object.Device.{Device}
use Rattle.cc_program.specs.declared.object.Object.{Object}
use Rattle.cc_program.specs.declared.program.Program.{Program}
use Rattle.cc_typed.specs.CcSyntax.Programs.{IsInitial}
use Rattle.cc_typed.specs.CcSyntax.Normal.{IsNormal, is_normal_body}
use Rattle.cc_typed.specs.CcSyntax.Sound.{is_numbered, is_device, is_object, IsFunc}
use Rattle.cc_unit_trees.proofs.Lists.{all-at, All-at}

two_or_four : (n : ℕ) → IsTrue (eqb n 2 || eqb n 4) → (n ≡ 2) ⊎ (n ≡ 4)
two_or_four n h = grind arith

number-small : (n b : ℕ) (t : Bool) → (b ≡ 2) ⊎ (b ≡ 4) → (if t then ltb n (2 ^ (8 * b)) else eqb n 0) ≡ true → n ≤ 2 ^ 63 - 1
number-small n b false w h = grind (arith, nat_tests)
number-small n b true (inl e) h = let k : ltb n (2 ^ (8 * 2)) ≡ true = subst (λ c. ltb n (2 ^ (8 * c)) ≡ true) e h in grind (arith, nat_tests)
number-small n b true (inr e) h = let k : ltb n (2 ^ (8 * 4)) ≡ true = subst (λ c. ltb n (2 ^ (8 * c)) ≡ true) e h in grind (arith, nat_tests)

pub device-small : (target : Target) (d : Device) → is_device target d ≡ true → d.number ≤ 2 ^ 63 - 1
device-small target d h = number-small d.number target.pointer_bytes (is_numbered d) (two_or_four target.pointer_bytes target.pointer) h

module _ (p : Program) (h : IsNormal p) where
  pub device-number : (i : ℕ) (d : Device) → slice_get p.devices i ≡ Some d → d.number ≤ 2 ^ 63 - 1
  device-number i d e = device-small p.target d (all-at (is_device p.target) p.devices i d e h.sound.devices)

  pub object-at : (i : ℕ) (o : Object) → slice_get p.objects i ≡ Some o → is_object p o ≡ true
  object-at i o e = all-at (is_object p) p.objects i o e h.sound.objects

  pub initial-at : (i : ℕ) (o : Object) → slice_get p.objects i ≡ Some o → IsInitial p o.ctype o.init
  initial-at i o e = All-at (λ (o : Object). IsInitial p o.ctype o.init) p.objects i o e h.sound.initial

  pub function-at : (i : ℕ) (f : Func) → slice_get p.funcs i ≡ Some f → IsFunc p f
  function-at i f e = All-at (IsFunc p) p.funcs i f e h.sound.funcs

  pub body-at : (i : ℕ) (f : Func) → slice_get p.funcs i ≡ Some f → is_normal_body p.target f ≡ true
  body-at i f e = all-at (λ (f : Func). is_normal_body p.target f) p.funcs i f e h.bodies
