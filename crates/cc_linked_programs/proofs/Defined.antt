-- Where no cause stands against sound sources, each mention of what is defined has the type of its definition; and what all have as a device is one.
use Rattle.std.proofs.Common.{◌≡◌, ◌∙◌, ℕ, Bool, true, false, true≢false, not, ◌&&◌, ◌||◌, List, Option, Some, None, is_some, slice_get, refl, ap, sym, subst}
use Rattle.std.specs.Prelude.{nat_lt}
use Rattle.std.specs.List.{All, list_any}
use Rattle.std.proofs.lemmas.Bool.{eq-eqb}
use Rattle.std.proofs.lemmas.Option.{slice_get_within, get_or_from_slice_get}
use Rattle.cc_causes.specs.Causes.{cause_of_things}
use Rattle.cc_definitions.specs.Definitions.{definition}
use Rattle.cc_program.specs.CcNum.declared.int_type.IntType.{IntType}
use Rattle.cc_program.specs.CcNum.declared.target.Target.{Target}
use Rattle.cc_program.specs.declared.object.Device.{Device}
use Rattle.cc_program.specs.declared.types.CType.{CType}
use Rattle.cc_program.specs.declared.types.Shape.{out-Shape}
use Rattle.cc_program.specs.declared.types.Shape.TheOpen as shape
use Rattle.cc_linked_programs.specs.NamedThings.{IsNamed}
use Rattle.cc_linked_programs.proofs.Agreeing.{mention_in, one_type}
use Rattle.cc_linked_programs.proofs.ThingLists.{found-in, in-found}
use Rattle.cc_linked_programs.proofs.ThingSources.{is_mention, in_thing}
use Rattle.cc_relocated_units.specs.Units.{unit_view, IsSoundUnit, IsSoundName, IsSoundKind, IsSoundDevice, IsWellNamed, is_register_type}
use Rattle.cc_structures.specs.Structures.{Numbering, numbers_of, type_in}
use Rattle.cc_structures.proofs.Elements.{In, any-in}
use Rattle.cc_structures.proofs.WordLaws.{constant-kept, level-renumbered}
use Rattle.cc_operands.specs.CcSyntax.SameTypes.{same_int}
use Rattle.cc_operands.proofs.CcSyntax.SameLemmas.{int_same}
use Rattle.cc_things.specs.Mentions.{Mention, mentions}
use Rattle.cc_things.specs.Things.{Identity, External, Numbered, Single, identity_of, external_or, numbered_or, address_or, position_of_type, Thing, thing_of, things, is_defined, is_device, is_definition, is_device_kind}
use Rattle.cc_things.specs.declared.text.Text.{Text}
use Rattle.cc_unit.specs.declared.unit.Linkage.{Linkage}
use Rattle.cc_unit.specs.declared.unit.Linkage.TheVariants as linkage
use Rattle.cc_unit.specs.declared.unit.UnitKind.{UnitKind}
use Rattle.cc_unit.specs.declared.unit.UnitKind.TheVariants as kind
use Rattle.cc_linked_programs.proofs.Shapes.{register_kept, function_kept, register_is, function_is, int_back}
use Rattle.cc_linked_programs.specs.FunctionTypes.{is_function_type}

pub at_all : {A : Type 0} (P : A → Type 0) (xs : List A) (i : ℕ) (x : A) → All P xs → slice_get xs i ≡ Some x → P x
at_all P xs i x all e = subst P (get_or_from_slice_get xs i x x e) (all i x (slice_get_within xs i x e))

int_position : (s t : IntType) → position_of_type s ≡ position_of_type t → s ≡ t
unfolding same_int
int_position s t e = int_same s t (eq-eqb (position_of_type s) (position_of_type t) e)

-- ---- a device without a name

numbered_by : (k : UnitKind) (t p n i : ℕ) (c : Bool) → numbered_or k (Single t p) ≡ Numbered n i c → (d : Device) × (k ≡ kind.Device d) × (d.name ≡ None) × (position_of_type d.int ≡ i) × (d.constant ≡ c)
numbered_by (kind.Object init) t p n i c e = absurd (cc e)
numbered_by (kind.Func entry f) t p n i c e = absurd (cc e)
numbered_by (kind.Device d) t p n i c e = by d.name refl e
  where
    by : (o : Option (List ℕ)) → d.name ≡ o → address_or d o (Single t p) ≡ Numbered n i c → (x : Device) × (kind.Device d ≡ kind.Device x) × (x.name ≡ None) × (position_of_type x.int ≡ i) × (x.constant ≡ c)
    by None f g = (d, refl, f, cc g, cc g)
    by (Some y) f g = absurd (cc g)

numbered_from : (l : Linkage) (o : Option (List ℕ)) (k : UnitKind) (t p n i : ℕ) (c : Bool) → external_or l o (numbered_or k (Single t p)) ≡ Numbered n i c → numbered_or k (Single t p) ≡ Numbered n i c
numbered_from linkage.External (Some y) k t p n i c e = absurd (cc e)
numbered_from linkage.External None k t p n i c e = e
numbered_from linkage.Internal o k t p n i c e = e
numbered_from linkage.Local o k t p n i c e = e

pub numbered_identity : (m : Mention) (n i : ℕ) (c : Bool) → identity_of m ≡ Numbered n i c → (d : Device) × (m.name.kind ≡ kind.Device d) × (d.name ≡ None) × (position_of_type d.int ≡ i) × (d.constant ≡ c)
numbered_identity m n i c e = numbered_by m.name.kind m.text m.position n i c (numbered_from m.name.linkage m.name.name m.name.kind m.text m.position n i c e)

module _ (texts : List Text) (target : Target) (sound : (t : ℕ) (x : Text) → slice_get texts t ≡ Some x → IsSoundUnit target x.unit) where
  pub record SoundMention (m : Mention) : Type 0 where
    pub text : Text
    pub there : slice_get texts m.text ≡ Some text
    pub name : IsSoundName (unit_view target text.unit) m.name

  pub sound_mention : (m : Mention) → In m (mentions texts) → SoundMention m
  sound_mention m h =
      let r = is_mention texts m h in
      record { text = r.text; there = r.there; name = at_all (IsSoundName (unit_view target r.text.unit)) r.text.unit.names m.position m.name (sound m.text r.text r.there).names r.named }

  well_named : (m : Mention) → In m (mentions texts) → IsWellNamed m.name
  well_named m h = let r = is_mention texts m h in at_all IsWellNamed r.text.unit.names m.position m.name (sound m.text r.text r.there).named r.named

  either_by : (a b : Bool) → a ≡ not b → a || b ≡ true
  either_by true b e = refl
  either_by false true e = refl
  either_by false false e = absurd (true≢false (sym e))

  pub each_named : (m : Mention) → In m (mentions texts) → IsNamed m
  each_named m h = let w = well_named m h in record { external = w.external; nameless = λ k. either_by (nat_lt 0 m.name.count) (is_device_kind m.name.kind) (w.nameless k) }

  abbrev thing : Mention → Thing
  thing m = thing_of (mentions texts) (identity_of m)

  pub device_of : (m : Mention) (d : Device) → In m (mentions texts) → m.name.kind ≡ kind.Device d → (v : Text) × IsSoundDevice (unit_view target v.unit) m.name d
  device_of m d h e = let s = sound_mention m h in (s.text, subst (λ (k : UnitKind). IsSoundKind (unit_view target s.text.unit) m.name k) e s.name)

  -- such a device is defined nowhere
  undefined_number : (m : Mention) (n i : ℕ) (c : Bool) → In m (mentions texts) → identity_of m ≡ Numbered n i c → is_definition m ≡ true → ⊥
  undefined_number m n i c h e g =
      let r = numbered_identity m n i c e in
      let s = device_of m r.0 h r.1 in
      let none : m.name.name ≡ None = sym s.1.named ∙ r.2 in
      let counted = (well_named m h).nameless (ap is_some none) in
      true≢false (sym g ∙ (counted ∙ ap (λ (k : UnitKind). not (is_device_kind k)) r.1))

  module _ (numbering : Numbering) (none : cause_of_things numbering (things texts) ≡ None) where
    pub record DefinitionOf (m : Mention) : Type 0 where
      pub by : Mention
      pub is : definition (thing m) ≡ Some by
      pub known : In by (mentions texts)
      pub defines : is_definition by ≡ true
      pub same : identity_of by ≡ identity_of m
      pub type : type_in numbering by.text by.name.ctype ≡ type_in numbering m.text m.name.ctype

    pub definition_of : (m : Mention) → In m (mentions texts) → is_defined (thing m) ≡ true → DefinitionOf m
    definition_of m h e =
        let d = in-found is_definition (thing m).mentions e in
        let f = found-in is_definition (thing m).mentions d.0 d.1 in
        let k = mention_in texts each_named (identity_of m) d.0 f.0 in
        record {
          by = d.0;
          is = d.1;
          known = k.0;
          defines = f.1;
          same = k.1;
          type = one_type texts each_named numbering none m d.0 h k.0 k.1 (λ n i c g. undefined_number d.0 n i c k.0 (k.1 ∙ g) f.1);
        }

    -- ---- devices

    pub not_defined : (m : Mention) → In m (mentions texts) → is_device (thing m) ≡ true → is_defined (thing m) ≡ false
    not_defined m h e = by (is_defined (thing m)) refl
      where
        apart : (a b : Bool) → a && not b ≡ true → b ≡ true → ⊥
        apart a b h k = true≢false (sym h ∙ (ap (λ (c : Bool). a && not c) k ∙ none_of a))
          where
            none_of : (a : Bool) → a && false ≡ false
            none_of true = refl
            none_of false = refl

        by : (b : Bool) → is_defined (thing m) ≡ b → is_defined (thing m) ≡ false
        by false f = f
        by true f = absurd (apart (list_any (λ (k : Mention). is_device_kind k.name.kind) (thing m).mentions) (is_defined (thing m)) e f)

    pub record SameDevice (f : Mention) (d : Device) : Type 0 where
      pub own : Device
      pub is : f.name.kind ≡ kind.Device own
      pub int : own.int ≡ d.int
      pub constant : own.constant ≡ d.constant

    -- a mention of what another source has as a device, and none defines, has it as one
    pub same_device : (m f : Mention) (d : Device) → In m (mentions texts) → In f (mentions texts) → identity_of f ≡ identity_of m → m.name.kind ≡ kind.Device d → is_defined (thing m) ≡ false → SameDevice f d
    same_device m f d hm hf e g undefined = by (identity_of m) refl
      where
        s : (v : Text) × IsSoundDevice (unit_view target v.unit) m.name d
        s = device_of m d hm g

        typed : type_in numbering f.text f.name.ctype ≡ type_in numbering m.text m.name.ctype → SameDevice f d
        typed t = cases f.name.kind refl (sound_mention f hf).name
          where
            register : is_register_type f.name.ctype ≡ true
            register = sym (register_kept (numbers_of numbering f.text) f.name.ctype) ∙ (ap is_register_type t ∙ (register_kept (numbers_of numbering m.text) m.name.ctype ∙ register_is m.name.ctype d.int s.1.int s.1.volatile))

            cases : (k : UnitKind) → f.name.kind ≡ k → IsSoundKind (unit_view target (sound_mention f hf).text.unit) f.name k → SameDevice f d
            cases (kind.Object init) q o = absurd (true≢false (sym (any-in is_definition (thing m).mentions f (in_thing texts m f hf e) (o.here register)) ∙ undefined))
            cases (kind.Func entry body) q o =
                absurd (true≢false (sym (function_is f.name.ctype o.sig o.typed) ∙ (sym (function_kept (numbers_of numbering f.text) f.name.ctype) ∙ (ap is_function_type t ∙ (function_kept (numbers_of numbering m.text) m.name.ctype ∙ not_function m.name.ctype s.1.int)))))
              where
                not_function : (c : CType) → out-Shape c.shape ≡ shape.Int d.int → is_function_type c ≡ false
                not_function c i = rw i refl
            cases (kind.Device own) q o =
                let shaped = level-renumbered (numbers_of numbering m.text) m.name.ctype (shape.Int d.int) s.1.int in
                let back : out-Shape f.name.ctype.shape ≡ shape.Int d.int = int_back (numbers_of numbering f.text) f.name.ctype d.int (ap (λ (c : CType). out-Shape c.shape) t ∙ shaped) in
                record {
                  own = own;
                  is = q;
                  int = cc (sym o.int ∙ back);
                  constant = sym o.constant ∙ (sym (constant-kept (numbers_of numbering f.text) f.name.ctype) ∙ (ap (λ (c : CType). c.constant) t ∙ (constant-kept (numbers_of numbering m.text) m.name.ctype ∙ s.1.constant)));
                }

        by : (x : Identity) → identity_of m ≡ x → SameDevice f d
        by (External y) q = typed (one_type texts each_named numbering none m f hm hf e (λ n i c k. absurd (cc (sym q ∙ k))))
        by (Single a b) q = typed (one_type texts each_named numbering none m f hm hf e (λ n i c k. absurd (cc (sym q ∙ k))))
        by (Numbered n i c) q =
            let x = numbered_identity m n i c q in
            let y = numbered_identity f n i c (e ∙ q) in
            let z : d ≡ x.0 = cc (sym g ∙ x.1) in
            record {
              own = y.0;
              is = y.1;
              int = int_position y.0.int d.int (y.3 ∙ (sym x.3 ∙ sym (ap (λ (u : Device). position_of_type u.int) z)));
              constant = y.4 ∙ (sym x.4 ∙ sym (ap (λ (u : Device). u.constant) z));
            }
