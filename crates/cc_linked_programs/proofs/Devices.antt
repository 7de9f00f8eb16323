-- The devices of the program are what those of a sound program are, and no two without names are equal.
use Rattle.std.proofs.Common.{◌≡◌, ◌∙◌, ◌⊎◌, inl, inr, ◌<◌, ◌*◌, ◌^◌, ℕ, zero, suc, Bool, true, false, true≢false, not, ◌&&◌, ◌||◌, cond, List, [], ◌∷◌, length, Option, Some, None, is_some, option_map, slice_get, refl, ap, sym, subst}
use Rattle.std.specs.Prelude.{filter_map, nat_eq, nat_lt, option_and_then}
use Rattle.std.specs.Option.{is_none}
use Rattle.std.specs.List.{list_all, list_any}
use Rattle.std.proofs.lemmas.Bool.{eqb-true}
use Rattle.cc_definitions.specs.Definitions.{thing_at, devices, is_nameless}
use Rattle.cc_link.specs.Linked.{device_at, device_by, device_in, program}
use Rattle.cc_linked_names.specs.Given.{name_at, reserved_names}
use Rattle.cc_linked_programs.proofs.Definitions.{MentionAt, mention_at, thing-within}
use Rattle.cc_linked_programs.proofs.Functions.{Given, given-from}
use Rattle.cc_linked_programs.proofs.Used.{in-slice}
use Rattle.cc_linked_programs.proofs.ViewNumbers.{devices-in}
use Rattle.cc_program.specs.CcNum.declared.int_type.IntType.{IntType}
use Rattle.cc_program.specs.CcNum.declared.target.Target.{Target}
use Rattle.cc_program.specs.declared.object.Device.{Device}
use Rattle.cc_program.specs.declared.program.Program.{Program}
use Rattle.cc_program.specs.declared.program.Roles.{Roles}
use Rattle.cc_relocation.specs.Relocated.{device_with}
use Rattle.cc_relocated_units.specs.Units.{unit_view, IsSoundDevice, IsSoundKind, IsSoundUnit}
use Rattle.cc_structures.proofs.Elements.{In, in-any}
use Rattle.cc_structures.specs.Structures.{Known, Numbering}
use Rattle.cc_operands.proofs.CcSyntax.Prefixes.{both_true}
use Rattle.cc_operands.proofs.CcSyntax.SameLemmas.{int_same}
use Rattle.cc_operands.specs.CcSyntax.SameTypes.{same_flag, same_int}
use Rattle.cc_operands.specs.CcSyntax.Sound.{devices_differ, is_device, is_numbered, is_same_device}
use Rattle.cc_things.specs.Mentions.{Mention, mentions}
use Rattle.cc_things.specs.Things.{Identity, Numbered, Single, Thing, address_or, external_or, identity_of, is_there, numbered_or, own_name, position_of_type, thing_of, things, name_of as mention_name, is_defined, is_device as is_device_thing}
use Rattle.cc_things.specs.declared.text.Text.{Text}
use Rattle.cc_unit.specs.declared.unit.Linkage.{Linkage}
use Rattle.cc_unit.specs.declared.unit.Linkage.TheVariants as linkage
use Rattle.cc_unit.specs.declared.unit.UnitKind.{UnitKind}
use Rattle.cc_unit.specs.declared.unit.UnitKind.TheVariants as kind
use Rattle.cc_unit.specs.declared.unit.UnitName.{UnitName}
use Rattle.cc_linked_programs.proofs.Apart.{devices-apart, one_place}
use Rattle.cc_linked_programs.proofs.ContentLists.{Apart, both, list_all-in}
use Rattle.cc_linked_programs.proofs.Named.{NameOf, has_name_by, name_there, nameless_none, no_name}

-- a device without a name is told by its address and type
nameless_identity : (l : Linkage) (o : Option (List ℕ)) (k : UnitKind) (x : Device) (t p : ℕ) → o ≡ None → k ≡ kind.Device x → x.name ≡ None → external_or l o (numbered_or k (Single t p)) ≡ Numbered x.number (position_of_type x.int) x.constant
nameless_identity l o k x t p e q n = rw (e, q) (by l)
  where
    inner : address_or x x.name (Single t p) ≡ Numbered x.number (position_of_type x.int) x.constant
    inner = ap (λ (y : Option (List ℕ)). address_or x y (Single t p)) n

    by : (l : Linkage) → external_or l None (address_or x x.name (Single t p)) ≡ Numbered x.number (position_of_type x.int) x.constant
    by linkage.External = inner
    by linkage.Internal = inner
    by linkage.Local = inner

flag_one : (a b : Bool) → same_flag a b ≡ true → a ≡ b
flag_one true true h = refl
flag_one true false h = absurd (true≢false (sym h))
flag_one false true h = absurd (true≢false (sym h))
flag_one false false h = refl

none_is : (o : Option (List ℕ)) → is_none o ≡ true → o ≡ None
none_is None h = refl
none_is (Some x) h = absurd (true≢false (sym h))

module _ (texts : List Text) (target : Target) (sound : (t : ℕ) (x : Text) → slice_get texts t ≡ Some x → IsSoundUnit target x.unit) (roles : Roles) (numbering : Numbering) (firsts : List Known) where
  abbrev ts : List Thing
  ts = things texts

  abbrev name_of : ℕ → Option (List ℕ)
  name_of k = name_at ts (reserved_names texts roles) roles firsts k

  abbrev p : Program
  p = program texts roles numbering firsts target

  -- a device of the program is the one of the first mention of its thing
  pub record DeviceOf (k : ℕ) (d : Device) : Type 0 where
    pub device : is_device_thing (thing_at ts k) ≡ true
    pub low : k < length ts
    pub first : Mention
    pub is_first : slice_get (thing_at ts k).mentions 0 ≡ Some first
    pub own : Device
    pub kind : first.name.kind ≡ kind.Device own
    pub mention : MentionAt texts target sound k first
    pub named : IsSoundDevice (unit_view target mention.text.unit) first.name own
    pub is : d ≡ device_with (name_of k) own

  device_of : (k : ℕ) (d : Device) → In k (devices ts) → device_at ts name_of k ≡ Some d → DeviceOf k d
  device_of k d i g = by (slice_get (thing_at ts k).mentions 0) refl g
    where
      e : is_device_thing (thing_at ts k) ≡ true
      e = devices-in ts k i

      low : k < length ts
      low = thing-within ts is_device_thing k refl e

      one : (a b : Device) → Some a ≡ Some b → a ≡ b
      one a b h = cc h

      cases : (m : Mention) → slice_get (thing_at ts k).mentions 0 ≡ Some m → (q : UnitKind) → m.name.kind ≡ q → (n : MentionAt texts target sound k m) → IsSoundKind (unit_view target n.text.unit) m.name q → option_map (device_with (name_of k)) (device_in q) ≡ Some d → DeviceOf k d
      cases m h (kind.Object init) q n s g = absurd (cc)
      cases m h (kind.Func entry f) q n s g = absurd (cc)
      cases m h (kind.Device x) q n s g = record { device = e; low = low; first = m; is_first = h; own = x; kind = q; mention = n; named = s; is = sym (one (device_with (name_of k) x) d g) }

      by : (o : Option Mention) → slice_get (thing_at ts k).mentions 0 ≡ o → option_map (device_with (name_of k)) (option_and_then (λ (m : Mention). device_in m.name.kind) o) ≡ Some d → DeviceOf k d
      by None h g = absurd (cc)
      by (Some m) h g =
          let n = mention_at texts target sound k m low (in-slice (thing_at ts k).mentions 0 m h) in
          cases m h m.name.kind refl n n.name g

  -- its thing has the name that it has itself
  own_name_is : (k : ℕ) (d : Device) (r : DeviceOf k d) → own_name (thing_at ts k) ≡ r.own.name
  own_name_is k d r = ap (option_and_then mention_name) r.is_first ∙ sym r.named.named

  there_by : (k : ℕ) (d : Device) (r : DeviceOf k d) → is_there (thing_at ts k) ≡ true
  there_by k d r = rw r.device (either (is_defined (thing_at ts k)))
    where
      either : (b : Bool) → b || true ≡ true
      either true = refl
      either false = refl

  nameless_by : (k : ℕ) (d : Device) (r : DeviceOf k d) → is_nameless (thing_at ts k) ≡ is_none r.own.name
  nameless_by k d r = ap (λ (b : Bool). b && is_none (own_name (thing_at ts k))) r.device ∙ ap is_none (own_name_is k d r)

  -- it has a name in the program where it has one
  name_kept : (k : ℕ) (d : Device) (r : DeviceOf k d) → is_none (name_of k) ≡ is_none r.own.name
  name_kept k d r = by r.own.name refl
    where
      by : (o : Option (List ℕ)) → r.own.name ≡ o → is_none (name_of k) ≡ is_none r.own.name
      by None e = ap is_none (no_name ts (reserved_names texts roles) roles firsts k (nameless_none ts k (nameless_by k d r ∙ ap is_none e))) ∙ sym (ap is_none e)
      by (Some x) e =
          let n = name_there ts (reserved_names texts roles) roles firsts k (has_name_by ts k (there_by k d r) (nameless_by k d r ∙ ap is_none e)) in
          ap is_none n.is ∙ sym (ap is_none e)

  device_fits : (k : ℕ) (d : Device) → DeviceOf k d → is_device target d ≡ true
  device_fits k d r =
      subst (λ (x : Device). is_device target x ≡ true) (sym r.is)
      (ap (λ (b : Bool). cond b (nat_lt r.own.number (2 ^ (8 * target.pointer_bytes))) (nat_eq r.own.number 0)) (name_kept k d r) ∙ r.named.fits)

  pub devices_fit : list_all (is_device target) p.devices ≡ true
  devices_fit = list_all-in (is_device target) p.devices (λ d i. let g = given-from (device_at ts name_of) (devices ts) d i in device_fits g.from d (device_of g.from d g.there g.gives))

  -- two without names that are the same are of one thing
  one_thing : (k j : ℕ) (d e : Device) → DeviceOf k d → DeviceOf j e → is_same_device d e ≡ true → k ≡ j
  one_thing k j d e r s h =
      let a = both_true (is_numbered d) (is_numbered e && (nat_eq d.number e.number && (same_int d.int e.int && same_flag d.constant e.constant))) h in
      let b = both_true (is_numbered e) (nat_eq d.number e.number && (same_int d.int e.int && same_flag d.constant e.constant)) a.1 in
      let c = both_true (nat_eq d.number e.number) (same_int d.int e.int && same_flag d.constant e.constant) b.1 in
      let f = both_true (same_int d.int e.int) (same_flag d.constant e.constant) c.1 in
      let x = identified k d r a.0 in
      let y = identified j e s b.0 in
      let number : d.number ≡ e.number = eqb-true d.number e.number c.0 in
      let int : d.int ≡ e.int = int_same d.int e.int f.0 in
      let const : d.constant ≡ e.constant = flag_one d.constant e.constant f.1 in
      let same : identity_of r.first ≡ identity_of s.first =
      x ∙ (ap (λ (n : ℕ). Numbered n (position_of_type d.int) d.constant) number ∙ (ap (λ (t : IntType). Numbered e.number (position_of_type t) d.constant) int ∙ (ap (λ (q : Bool). Numbered e.number (position_of_type e.int) q) const ∙ sym y))) in
      one_place (mentions texts) k j r.low s.low (sym r.mention.one ∙ (ap (thing_of (mentions texts)) same ∙ s.mention.one))
    where
      identified : (k : ℕ) (d : Device) (r : DeviceOf k d) → is_numbered d ≡ true → identity_of r.first ≡ Numbered d.number (position_of_type d.int) d.constant
      identified k d r n =
          let none : r.own.name ≡ None = none_is r.own.name (sym (name_kept k d r) ∙ (sym (ap is_numbered r.is) ∙ n)) in
          nameless_identity r.first.name.linkage r.first.name.name r.first.name.kind r.own r.first.text r.first.position (sym r.named.named ∙ none) r.kind none
          ∙ sym (ap (λ (x : Device). Numbered x.number (position_of_type x.int) x.constant) r.is)

  differ_from : (ks : List ℕ) → Apart ks → ((k : ℕ) → In k ks → In k (devices ts)) → devices_differ (filter_map (device_at ts name_of) ks) ≡ true
  differ_from [] a h = refl
  differ_from (k ∷ ks) a h = by (device_at ts name_of k) refl (differ_from ks a.1 (λ j i. h j (inr i)))
    where
      by : (o : Option Device) → device_at ts name_of k ≡ o → devices_differ (filter_map (device_at ts name_of) ks) ≡ true → devices_differ (filter_map (device_at ts name_of) (k ∷ ks)) ≡ true
      by None e rest = rw e rest
      by (Some d) e rest = rw e (both (not (list_any (is_same_device d) (filter_map (device_at ts name_of) ks))) (devices_differ (filter_map (device_at ts name_of) ks)) (ap not (others (list_any (is_same_device d) (filter_map (device_at ts name_of) ks)) refl)) rest)
        where
          others : (b : Bool) → list_any (is_same_device d) (filter_map (device_at ts name_of) ks) ≡ b → list_any (is_same_device d) (filter_map (device_at ts name_of) ks) ≡ false
          others false f = f
          others true f =
              let r = in-any (is_same_device d) (filter_map (device_at ts name_of) ks) f in
              let g = given-from (device_at ts name_of) ks r.0 r.1.0 in
              let one : k ≡ g.from = one_thing k g.from d r.0 (device_of k d (h k (inl refl)) e) (device_of g.from r.0 (h g.from (inr g.there)) g.gives) r.1.1 in
              absurd (a.0 (subst (λ (j : ℕ). In j ks) (sym one) g.there))

  pub devices_apart : devices_differ p.devices ≡ true
  devices_apart = differ_from (devices ts) (devices-apart ts) (λ k i. i)
