-- A thing with an external name is the one of that name (C99 6.2.2, 2).
use Rattle.std.proofs.Common.{◌≡◌, ◌∙◌, ◌<◌, ℕ, true, true≢false, List, length, Option, Some, None, is_some, slice_get, refl, ap, sym}
use Rattle.std.specs.Prelude.{option_and_then}
use Rattle.cc_definitions.specs.Definitions.{thing_at}
use Rattle.cc_linked_programs.proofs.Apart.{one_place}
use Rattle.cc_linked_programs.proofs.Agreeing.{external_identity, first_of}
use Rattle.cc_linked_programs.proofs.Definitions.{MentionAt, mention_at}
use Rattle.cc_linked_programs.proofs.Defined.{each_named}
use Rattle.cc_program.specs.CcNum.declared.target.Target.{Target}
use Rattle.cc_relocated_units.specs.Units.{IsSoundUnit}
use Rattle.cc_structures.proofs.Elements.{in-any}
use Rattle.cc_things.specs.Mentions.{Mention, mentions}
use Rattle.cc_things.specs.Things.{Identity, External, Single, Thing, external_or, identity_of, is_external, is_external_linkage, numbered_or, own_name, thing_of, things, name_of as mention_name}
use Rattle.cc_things.specs.declared.text.Text.{Text}
use Rattle.cc_unit.specs.declared.unit.Linkage.{Linkage}
use Rattle.cc_unit.specs.declared.unit.Linkage.TheVariants as linkage

external_name : (l : Linkage) (o : Option (List ℕ)) (other : Identity) → is_external_linkage l ≡ true → is_some o ≡ true → (x : List ℕ) × (external_or l o other ≡ External x)
external_name linkage.External (Some x) other h k = (x, refl)
external_name linkage.External None other h k = absurd (true≢false (sym k))
external_name linkage.Internal o other h k = absurd (true≢false (sym h))
external_name linkage.Local o other h k = absurd (true≢false (sym h))

module _ (texts : List Text) (target : Target) (sound : (t : ℕ) (x : Text) → slice_get texts t ≡ Some x → IsSoundUnit target x.unit) where
  abbrev ts : List Thing
  ts = things texts

  pub record ExternalAt (k : ℕ) (x : List ℕ) : Type 0 where
    pub by : Mention
    pub mention : MentionAt texts target sound k by
    pub identity : identity_of by ≡ External x

  -- mentions of one thing have one identity
  one_identity : (k : ℕ) (m n : Mention) → MentionAt texts target sound k m → MentionAt texts target sound k n → identity_of m ≡ identity_of n
  one_identity k m n a b = ap (λ (t : Thing). t.identity) (a.one ∙ sym b.one)

  pub external_at : (k : ℕ) → k < length ts → is_external (thing_at ts k) ≡ true → (x : List ℕ) → own_name (thing_at ts k) ≡ Some x → ExternalAt k x
  external_at k low h x e =
      let r = in-any (λ (m : Mention). is_external_linkage m.name.linkage) (thing_at ts k).mentions h in
      let m = mention_at texts target sound k r.0 low r.1.0 in
      let y = external_name r.0.name.linkage r.0.name.name (numbered_or r.0.name.kind (Single r.0.text r.0.position)) r.1.1 ((each_named texts target sound r.0 m.known).external r.1.1) in
      let f = first_of texts (each_named texts target sound) (thing_at ts k).mentions r.0 r.1.0 in
      let n = mention_at texts target sound k f.0 low f.2 in
      let own = external_identity f.0 y.0 (one_identity k f.0 r.0 n m ∙ y.1) in
      let same : y.0 ≡ x = name_same y.0 x (sym own.1 ∙ (sym (ap (option_and_then mention_name) f.1) ∙ e)) in
      record { by = r.0; mention = m; identity = y.1 ∙ ap (λ (z : List ℕ). External z) same }
    where
      name_same : (a b : List ℕ) → Some a ≡ Some b → a ≡ b
      name_same a b e = cc e

  -- each mention of it has that name
  pub external_mention : (k : ℕ) (x : List ℕ) → ExternalAt k x → (m : Mention) → MentionAt texts target sound k m → m.name.name ≡ Some x
  external_mention k x r m n = (external_identity m x (one_identity k m r.by n r.mention ∙ r.identity)).1

  -- and no other thing has it
  pub one_external : (k j : ℕ) (x : List ℕ) → k < length ts → j < length ts → ExternalAt k x → ExternalAt j x → k ≡ j
  one_external k j x low less r s = one_place (mentions texts) k j low less (sym r.mention.one ∙ (ap (thing_of (mentions texts)) (r.identity ∙ sym s.identity) ∙ s.mention.one))
