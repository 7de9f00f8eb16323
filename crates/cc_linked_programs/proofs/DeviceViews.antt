-- A device that no source defines is in the program, as each source has it.
use Rattle.std.proofs.Common.{◌≡◌, ◌∙◌, ◌⊎◌, inl, inr, ◌<◌, ◌≤◌, ℕ, zero, suc, Bool, true, false, true≢false, not, ◌&&◌, List, [], ◌∷◌, length, get_or, Option, Some, None, is_some, option_map, slice_get, refl, ap, sym, subst, arith}
use Rattle.std.specs.Prelude.{option_and_then, filter_map}
use Rattle.std.specs.List.{list_any}
use Rattle.std.proofs.lemmas.Bool.{cases_lt}
use Rattle.std.proofs.Math.ListN.{get_or-eq_default}
use Rattle.cc_causes.specs.Causes.{cause_of_things}
use Rattle.cc_definitions.specs.Definitions.{thing_at, devices}
use Rattle.cc_link.specs.Linked.{id_at, device_at, device_by, device_in}
use Rattle.cc_program.specs.CcNum.declared.target.Target.{Target}
use Rattle.cc_program.specs.declared.object.Device.{Device}
use Rattle.cc_relocation.specs.Relocated.{device_with}
use Rattle.cc_linked_programs.proofs.Agreeing.{first_of, from_identity, mention_in}
use Rattle.cc_linked_programs.proofs.ThingLists.{given-at}
use Rattle.cc_linked_programs.proofs.ThingSources.{in_thing, its_thing, number_of, number_within}
use Rattle.cc_relocated_units.specs.Units.{IsSoundUnit}
use Rattle.cc_structures.specs.Structures.{Numbering}
use Rattle.cc_structures.proofs.Elements.{In, in-at, in-any}
use Rattle.cc_things.specs.Mentions.{Mention, mentions}
use Rattle.cc_things.specs.Things.{Thing, identity_of, thing_of, things, is_defined, is_device, is_device_kind}
use Rattle.cc_things.specs.View.{no_thing}
use Rattle.cc_things.specs.declared.text.Text.{Text}
use Rattle.cc_unit.specs.declared.ids.Id.TheVariants as id
use Rattle.cc_unit.specs.declared.unit.UnitKind.{UnitKind}
use Rattle.cc_unit.specs.declared.unit.UnitKind.TheVariants as kind
use Rattle.cc_linked_programs.proofs.Defined.{each_named, same_device, not_defined}
use Rattle.cc_linked_programs.proofs.ViewNumbers.{device-id, devices-in}

module _ (texts : List Text) (target : Target) (sound : (t : ℕ) (x : Text) → slice_get texts t ≡ Some x → IsSoundUnit target x.unit) (numbering : Numbering) (none : cause_of_things numbering (things texts) ≡ None)
    (name_of : ℕ → Option (List ℕ)) where
  abbrev ts : List Thing
  ts = things texts

  abbrev thing : Mention → Thing
  thing m = thing_of (mentions texts) (identity_of m)

  abbrev program_devices : List Device
  program_devices = filter_map (device_at ts name_of) (devices ts)

  any_of : (a b : Bool) → a && not b ≡ true → a ≡ true
  any_of true b h = refl
  any_of false b h = absurd (true≢false (sym h))

  -- the first mention has it as a device, as each has it
  first_device : (m : Mention) (d : Device) → In m (mentions texts) → m.name.kind ≡ kind.Device d → is_device (thing m) ≡ true → (name : Option (List ℕ)) →
      (x : Device) × (device_by name (thing m) ≡ Some (device_with name x)) × (x.int ≡ d.int) × (x.constant ≡ d.constant)
  first_device m d h q e name =
      let f = first_of texts (each_named texts target sound) (thing m).mentions m (in_thing texts m m h refl) in
      let k = mention_in texts (each_named texts target sound) (identity_of m) f.0 f.2 in
      let s = same_device texts target sound numbering none m f.0 d h k.0 k.1 q (not_defined texts target sound numbering none m h e) in
      (s.own, ap (λ (o : Option Mention). option_map (device_with name) (option_and_then (λ (j : Mention). device_in j.name.kind) o)) f.1 ∙ ap (λ (j : UnitKind). option_map (device_with name) (device_in j)) s.is, s.int, s.constant)

  device_within : (k : ℕ) → is_device (thing_at ts k) ≡ true → k < length ts
  device_within k e = by (cases_lt k (length ts))
    where
      by : (k < length ts) ⊎ (length ts ≤ k) → k < length ts
      by (inl low) = low
      by (inr high) = absurd (true≢false (sym e ∙ ap is_device (get_or-eq_default ts no_thing high)))

  each_device : (k : ℕ) → In k (devices ts) → is_some (device_at ts name_of k) ≡ true
  each_device k i =
      let e = devices-in ts k i in
      let there : In (thing_at ts k) ts = in-at ts k (thing_at ts k) (device_within k e) (own ts k (device_within k e)) in
      let x = from_identity texts (each_named texts target sound) (thing_at ts k) there in
      let r = in-any (λ (j : Mention). is_device_kind j.name.kind) (thing_at ts k).mentions (any_of (list_any (λ (j : Mention). is_device_kind j.name.kind) (thing_at ts k).mentions) (is_defined (thing_at ts k)) e) in
      let j = mention_in texts (each_named texts target sound) x.0 r.0 (subst (λ (t : Thing). In r.0 t.mentions) (sym x.1) r.1.0) in
      let same : thing r.0 ≡ thing_at ts k = ap (thing_of (mentions texts)) j.1 ∙ x.1 in
      found r.0 r.0.name.kind refl r.1.1 j.0 same (ap is_device same ∙ e)
    where
      own : (xs : List Thing) (k : ℕ) → k < length xs → get_or xs k (get_or xs k no_thing) ≡ get_or xs k no_thing
      own [] k h = absurd (omega (arith, h))
      own (x ∷ xs) zero h = refl
      own (x ∷ xs) (suc k) h = own xs k (omega (arith, h))

      found : (m : Mention) (d : UnitKind) → m.name.kind ≡ d → is_device_kind m.name.kind ≡ true → In m (mentions texts) → thing m ≡ thing_at ts k → is_device (thing m) ≡ true → is_some (device_at ts name_of k) ≡ true
      found m (kind.Object ls) f g h s e = absurd (true≢false (sym g ∙ ap is_device_kind f))
      found m (kind.Func entry b) f g h s e = absurd (true≢false (sym g ∙ ap is_device_kind f))
      found m (kind.Device d) f g h s e = ap is_some (ap (device_by (name_of k)) (sym s) ∙ (first_device m d h f e (name_of k)).1)

  pub device_there : (m : Mention) (d : Device) → In m (mentions texts) → m.name.kind ≡ kind.Device d → is_device (thing m) ≡ true →
      (at : ℕ) × (id_at ts (number_of texts m) ≡ id.Device at) × ((x : Device) × (slice_get program_devices at ≡ Some x) × (x.int ≡ d.int) × (x.constant ≡ d.constant))
  device_there m d h q e =
      let k = number_of texts m in
      let t : thing_at ts k ≡ thing m = its_thing texts m h in
      let p = device-id ts k (number_within texts m h) (ap is_device t ∙ e) in
      let x = first_device m d h q e (name_of k) in
      (p.0, p.1, (device_with (name_of k) x.0, given-at (device_at ts name_of) (devices ts) each_device p.0 k p.2 ∙ (ap (device_by (name_of k)) t ∙ x.1), x.2, x.3))
