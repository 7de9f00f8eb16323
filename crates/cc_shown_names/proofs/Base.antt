-- What is known of every state of a unit: its structures, and that names of devices, functions and objects are no intrinsic's and,
-- but for functions, not `main`.
use Rattle.std.proofs.Common.{◌≡◌, ◌⊎◌, inl, inr, ℕ, suc, ◌+◌, true, false, cond, not, ◌||◌, List, [], ◌∷◌, ◌++◌, map, length, Option, Some, None, refl, ap, sym, ◌∙◌, slice_get}
use Rattle.std.specs.List.{list_any, filter}
use Rattle.std.specs.Option.{is_none}
use Rattle.std.specs.Str.{bytes_eq}
use Rattle.cc_type.specs.CcTypedTerms.Primary.{intrinsic_named}
use Rattle.cc_program.specs.declared.func.Func.{Func}
use Rattle.cc_program.specs.declared.object.Device.{Device}
use Rattle.cc_program.specs.declared.program.Program.{Program}
use Rattle.cc_type.specs.CcScopes.State.{Name, name_or_none}
use Rattle.cc_type.specs.CcScopes.declared.unit.Declared.{Declared}
use Rattle.cc_type.specs.CcSyntax.Names.{with_name, device_names, intrinsic_names}
use Rattle.cc_type.specs.CcSyntax.Normal.{has_name}
use Rattle.cc_type.specs.CcSyntax.Sizes.{AreSized}
use Rattle.cc_type.specs.CcSyntax.Sound.{IsSound, is_main, is_main_there, main_name}
use Rattle.cc_type.proofs.CcSyntax.StructureLemmas.{structures_sized}
use Rattle.cc_shown_declarations.specs.Order.{appearance, structure_number}
use Rattle.cc_shown_declarations.specs.States.{first_state}
use Rattle.cc_shown_names.proofs.Changes.{stays-there}
use Rattle.cc_shown_names.proofs.Names.{mapped, names-same, no-intrinsic}
use Rattle.cc_shown_expressions.specs.Known.{KnowsStructures}
use Rattle.cc_shown_names.specs.Names.{device_declared}
use Rattle.cc_shown_names.specs.States.{unit_state}
use Rattle.cc_shown_names.proofs.Keys.{Distinct, second-there, keys-distinct, keys-own, func_names, object_names, unit_keys}
use Rattle.cc_shown_names.proofs.Scope.{keys}

pub structures-in : (p : Program) → KnowsStructures p (structure_number p) (first_state p (length p.structures) (appearance p)) → (names : List Declared) → KnowsStructures p (structure_number p) (unit_state p names)
structures-in p known names = record { tags = known.tags; structures = known.structures; layouts = known.layouts }

none-of : (x : Name) (ys : List Name) → ((j : ℕ) (y : Name) → slice_get ys j ≡ Some y → bytes_eq x y ≡ false) → list_any (bytes_eq x) ys ≡ false
none-of x [] h = refl
none-of x (y ∷ ys) h = ap (λ b. b || list_any (bytes_eq x) ys) (h 0 y refl) ∙ none-of x ys (λ j z e. h (suc j) z e)

main-there : (fs : Option Func) → is_main_there fs ≡ true → (f : Func) × (fs ≡ Some f) × (is_main f ≡ true)
main-there None h = absurd (cc)
main-there (Some f) h = (f, refl, h)

module _ (p : Program) (sound : IsSound p) where
  pub sized : AreSized p.structures p.target
  sized = structures_sized (length p.structures) p.target p.structures sound.structures

  pub apart : Distinct (unit_keys p)
  apart = keys-distinct p sound.names

  pub own-name : (i : ℕ) (x : Name) → slice_get (unit_keys p) i ≡ Some x → intrinsic_named p.roles x ≡ None
  own-name i x e = no-intrinsic p.roles x (none-of x (intrinsic_names p.roles) (λ j y g. keys-own p sound.names i j x y e g))

  abbrev devices : List Name
  devices = device_names p.devices

  main-at : (j : ℕ) → slice_get (func_names p) j ≡ Some main_name → slice_get (unit_keys p) (length devices + j) ≡ Some main_name
  main-at j h = second-there devices (func_names p ++ object_names p) (length devices + j) j refl ∙ stays-there (func_names p) (object_names p) j main_name h

  main-is : (m : Func) (i : ℕ) (x : Name) → slice_get p.funcs p.main ≡ Some m → is_main m ≡ true → ((i ≡ length devices + p.main) ⊎ (bytes_eq x main_name ≡ false) → bytes_eq x main_name ≡ false) → slice_get (unit_keys p) i ≡ Some x → bytes_eq x main_name ≡ false
  main-is m i x there h other e =
      let named : m.name ≡ main_name = names-same m.name main_name h in
      let at = main-at p.main (mapped (λ (f : Func). f.name) p.funcs p.main m there ∙ ap Some named) in
      other (apart i (length devices + p.main) x main_name e at)

  -- another thing than a function
  pub not-main : (i : ℕ) (x : Name) → slice_get (unit_keys p) i ≡ Some x → ((j : ℕ) (y : Name) → slice_get (func_names p) j ≡ Some y → i ≡ length devices + j → ⊥) → bytes_eq x main_name ≡ false
  not-main i x e apart_from =
      let m = main-there (slice_get p.funcs p.main) sound.main in
      main-is m.0 i x m.1 m.2 (other-by (mapped (λ (f : Func). f.name) p.funcs p.main m.0 m.1)) e
    where
      other-by : {y : Name} → slice_get (func_names p) p.main ≡ Some y → (i ≡ length devices + p.main) ⊎ (bytes_eq x main_name ≡ false) → bytes_eq x main_name ≡ false
      other-by {y} g (inl k) = absurd (apart_from p.main y g k)
      other-by {y} g (inr k) = k

-- ---- the keys of devices

abbrev Keys : List Device → Type 0
Keys ds = keys (map device_declared (filter has_name ds)) ≡ device_names ds

device-keys-by : (d : Device) (ds : List Device) (o : Option Name) → d.name ≡ o → Keys ds → keys (map device_declared (cond (has_name d) (d ∷ filter has_name ds) (filter has_name ds))) ≡ with_name d.name (device_names ds)
device-keys-by d ds None is h =
    ap (λ b. keys (map device_declared (cond b (d ∷ filter has_name ds) (filter has_name ds)))) (ap (λ (o : Option Name). not (is_none o)) is) ∙ h ∙ ap (λ o. with_name o (device_names ds)) (sym is)
device-keys-by d ds (Some x) is h =
    ap (λ b. keys (map device_declared (cond b (d ∷ filter has_name ds) (filter has_name ds)))) (ap (λ (o : Option Name). not (is_none o)) is)
    ∙ ap (λ o. name_or_none o ∷ keys (map device_declared (filter has_name ds))) is ∙ ap (λ ns. x ∷ ns) h ∙ ap (λ o. with_name o (device_names ds)) (sym is)

pub device-keys : (ds : List Device) → Keys ds
device-keys [] = refl
device-keys (d ∷ ds) = device-keys-by d ds d.name refl (device-keys ds)
