-- A numbered program is in normal form where its source is, but for names and numbers.
use Rattle.std.proofs.Common.{◌≡◌, ◌∙◌, ◌<◌, ◌≤◌, ◌&&◌, ℕ, suc, true, List, [], ◌∷◌, length, map, get_or, refl, arith}
use Rattle.std.specs.List.{list_all}
use Rattle.cc_program.specs.declared.func.Func.{Func}
use Rattle.cc_program.specs.declared.program.Program.{Program}
use Rattle.cc_syntax.specs.Normal.{IsNormal, is_normal_body}
use Rattle.cc_syntax.specs.Registers.{is_register}
use Rattle.cc_syntax.specs.Sound.{IsSound, IsTypedProgram}
use Rattle.cc_syntax.proofs.NameRules.{typed-sound}
use Rattle.cc_lower_numbers.specs.Numbered.{device_order, temporary_names, numbered_func, numbered}
use Rattle.cc_lower_numbers.specs.Order.{place_in}
use Rattle.cc_lower_numbers.specs.Temporaries.{kept_count, temporary_count, temporaries}
use Rattle.cc_lower_numbers_sound.specs.Devices.{AreDevicesInText}
use Rattle.cc_lower_numbers_sound.specs.Names.{AreNamesApartButForTemporaries}
use Rattle.cc_lower_numbers_sound.proofs.ApartPrograms.{numbered_apart}
use Rattle.cc_lower_numbers_sound.proofs.DeviceOrders.{devices_ordered}
use Rattle.cc_lower_numbers_sound.proofs.Locals.{names_enough, types_kept}
use Rattle.cc_lower_numbers_sound.proofs.NormalBodies.{normal_same}
use Rattle.cc_lower_numbers_sound.proofs.Numbers.{same_number}
use Rattle.cc_lower_numbers_sound.proofs.Registers.{register_same}
use Rattle.cc_lower_numbers_sound.proofs.TypedPrograms.{numbered_typed}

module _ (p : Program) where
  abbrev device : ℕ → ℕ
  device d = place_in 0 (device_order p) d

  abbrev change : Func → Func
  change f = numbered_func (temporary_names p) (place_in 0 (device_order p)) f

  module _ (f : Func) (enough : temporary_count f ≤ length (temporary_names p)) where
    abbrev local : ℕ → ℕ
    local r = place_in (kept_count f) (temporaries f) r

    registers_kept : (r : ℕ) → is_register (change f) (local r) ≡ is_register f r
    registers_kept r = register_same local device (same_number f) r (change f) f refl (types_kept (temporary_names p) f enough r)

    body_kept : is_normal_body p.target (change f) ≡ is_normal_body p.target f
    body_kept = normal_same p.target local device (change f) f registers_kept refl

  funcs_kept : (fs : List Func) → ((i : ℕ) (d : Func) → i < length fs → temporary_count (get_or fs i d) ≤ length (temporary_names p)) →
      list_all (λ (f : Func). is_normal_body p.target f) (map change fs) ≡ list_all (λ (f : Func). is_normal_body p.target f) fs
  funcs_kept [] enough = refl
  funcs_kept (f ∷ fs) enough = λ i. body_kept f (enough 0 f (omega arith)) i && funcs_kept fs (λ n d l. enough (suc n) d (omega arith)) i

  pub bodies_kept : list_all (λ (f : Func). is_normal_body p.target f) (numbered p).funcs ≡ list_all (λ (f : Func). is_normal_body p.target f) p.funcs
  bodies_kept = funcs_kept p.funcs (names_enough p)

  pub numbered_sound : IsTypedProgram p → AreNamesApartButForTemporaries p → IsSound (numbered p)
  numbered_sound h n = typed-sound (numbered p) (numbered_typed p h) (numbered_apart p h n)

  pub numbered_normal : IsTypedProgram p → AreNamesApartButForTemporaries p → AreDevicesInText p → list_all (λ (f : Func). is_normal_body p.target f) p.funcs ≡ true → IsNormal (numbered p)
  numbered_normal h n d b = record { sound = numbered_sound h n; bodies = bodies_kept ∙ b; devices = devices_ordered p h d }
