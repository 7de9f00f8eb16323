-- What a device gives is converted to its type, and such a value is converted to itself.
use Rattle.std.proofs.Common.{◌≡◌, ℕ, ℤ, Bool, false, true≢false, Some, None, slice_get, ap, sym, ◌∙◌}
use Rattle.std.specs.Prelude.{◌↔◌, IsTrue}
use Rattle.std.proofs.lemmas.Option.{same_Some, none-some}
use Rattle.cc_program.proofs.CcNum.Conversions.{converted-IsValueOf, converted-same}
use Rattle.cc_program.specs.CcNum.Integers.{converted}
use Rattle.cc_program.specs.declared.object.Device.{Device}
use Rattle.cc_program.specs.declared.program.Program.{Program}
use Rattle.cc_program.specs.declared.value.Address.{Address}
use Rattle.cc_program.specs.declared.value.Value.{Value}
use Rattle.cc_program.specs.declared.value.Value.TheVariants.{Int, Place}
use Rattle.cc_proof_covers.specs.Covers.{IsDeviceValue}

same_number : (v w : ℤ) → Int v ≡ Int w → v ≡ w
same_number v w e = cc

not_place : (v : ℤ) (a : Address) → Int v ≡ Place a → ⊥
not_place v a e = cc

module _ (p : Program) (d : ℕ) (x : Value) where
  pub no_device : None ≡ slice_get p.devices d → IsTrue false ↔ IsDeviceValue p d x
  no_device e = ((λ t. absurd (true≢false (sym t))), (λ w. absurd (none-some w.0 (e ∙ w.2))))

  pub no_number : (a : Address) → x ≡ Place a → IsTrue false ↔ IsDeviceValue p d x
  no_number a e = ((λ t. absurd (true≢false (sym t))), (λ w. absurd (not_place (converted w.1 w.0.int p.target) a (sym w.3 ∙ e))))

  pub a_number : (device : Device) (v : ℤ) (b : Bool) → Some device ≡ slice_get p.devices d → x ≡ Int v → IsTrue b ↔ (converted v device.int p.target ≡ v) → IsTrue b ↔ IsDeviceValue p d x
  a_number device v b there is h = (to, back)
    where
      to : IsTrue b → IsDeviceValue p d x
      to t = (device, v, sym there, is ∙ ap Int (sym (h.0 t)))

      back : IsDeviceValue p d x → IsTrue b
      back (other, z, at, gives) =
          let same : device ≡ other = same_Some device other (there ∙ at) in
          let e : v ≡ converted z device.int p.target = same_number v (converted z other.int p.target) (sym is ∙ gives) ∙ ap (λ (q : Device). converted z q.int p.target) (sym same) in
          h.1 (ap (λ (n : ℤ). converted n device.int p.target) e ∙ (converted-same device.int p.target (converted z device.int p.target) (converted-IsValueOf z device.int p.target) ∙ sym e))
