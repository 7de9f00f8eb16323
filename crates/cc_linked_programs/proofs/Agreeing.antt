-- Where no cause stands against sources, what has a name in several has one type in all, and what is used is defined, or a device.
use Rattle.std.proofs.Common.{◌≡◌, ◌∙◌, ◌⊎◌, inl, inr, ℕ, Bool, true, false, true≢false, not, ◌&&◌, ◌||◌, List, [], ◌∷◌, Option, Some, None, is_some, slice_get, refl, ap, sym, subst}
use Rattle.std.specs.Prelude.{find, option_and_then, option_map}
use Rattle.std.specs.Option.{option_map_or, option_or}
use Rattle.std.specs.List.{list_any}
use Rattle.cc_causes.specs.Causes.{first_named, types_differ, disagree, agree, is_undefined, is_twice, cause_of_things}
use Rattle.cc_causes.specs.declared.fault.LinkFault.TheVariants as fault
use Rattle.cc_structures.specs.Structures.{Numbering, type_in}
use Rattle.cc_relocated_units.proofs.ProgramOrder.{filter-passes}
use Rattle.cc_structures.proofs.Elements.{In, any-in, in-any, in-map, in-map_from}
use Rattle.cc_structures.proofs.OrderLemmas.{in-filter}
use Rattle.cc_operands.proofs.CcSyntax.Prefixes.{both_true}
use Rattle.cc_operands.proofs.CcSyntax.SameLemmas.{compared}
use Rattle.cc_things.specs.Mentions.{Mention, mentions}
use Rattle.cc_things.specs.Things.{Identity, External, Numbered, Single, same_identity, identity_of, external_or, numbered_or, address_or, identities, Thing, thing_of, things_in, things, own_name, name_of, is_external, is_external_linkage, is_device_kind, is_definition, is_defined, is_used, is_device}
use Rattle.cc_things.specs.declared.text.Text.{Text}
use Rattle.cc_things.proofs.SameIdentity.{same_identity-equal}
use Rattle.cc_unit.specs.declared.unit.Linkage.{Linkage}
use Rattle.cc_unit.specs.declared.unit.Linkage.TheVariants as linkage
use Rattle.cc_unit.specs.declared.unit.UnitKind.{UnitKind}
use Rattle.cc_unit.specs.declared.unit.UnitName.{UnitName}
use Rattle.cc_unit.specs.declared.unit.UnitKind.TheVariants as kind
use Rattle.cc_linked_programs.specs.NamedThings.{IsNamed}
use Rattle.cc_linked_programs.proofs.ThingLists.{found-in, not-found}
use Rattle.cc_linked_programs.proofs.ThingSources.{identified, in_thing, one_mention}

-- ---- no cause

pub first_none : {A : Type 0} (a b : Option A) → option_or a b ≡ None → a ≡ None
first_none None b e = refl
first_none (Some x) b e = e

pub second_none : {A : Type 0} (a b : Option A) → option_or a b ≡ None → b ≡ None
second_none None b e = e
second_none (Some x) b e = absurd (cc e)

unmapped : {A B : Type 0} (f : A → B) (o : Option A) → option_map f o ≡ None → o ≡ None
unmapped f None e = refl
unmapped f (Some x) e = absurd (cc e)

none_named : (holds : Thing → Bool) (ts : List Thing) → ((t : Thing) → In t ts → holds t ≡ true → is_some (own_name t) ≡ true) → first_named holds ts ≡ None → (t : Thing) → In t ts → holds t ≡ false
none_named holds ts named e t i = by (find holds ts) refl e
  where
    nameless : (o : Option (List ℕ)) → o ≡ None → is_some o ≡ true → ⊥
    nameless o e h = true≢false (sym h ∙ ap is_some e)

    by : (o : Option Thing) → find holds ts ≡ o → option_and_then own_name o ≡ None → holds t ≡ false
    by None f g = not-found holds ts t f i
    by (Some u) f g = let r = found-in holds ts u f in absurd (nameless (own_name u) g (named u r.0 r.1))

-- ---- identities

no_external : (k : UnitKind) (a b : ℕ) (x : List ℕ) → numbered_or k (Single a b) ≡ External x → ⊥
no_external (kind.Object init) a b x e = cc e
no_external (kind.Func entry f) a b x e = cc e
no_external (kind.Device d) a b x e = by d.name e
  where
    by : (o : Option (List ℕ)) → address_or d o (Single a b) ≡ External x → ⊥
    by None e = cc e
    by (Some y) e = cc e

external_by : (l : Linkage) (o : Option (List ℕ)) (k : UnitKind) (a b : ℕ) (x : List ℕ) → external_or l o (numbered_or k (Single a b)) ≡ External x → (is_external_linkage l ≡ true) × (o ≡ Some x)
external_by linkage.External (Some y) k a b x e = (refl, ap (λ (z : List ℕ). Some z) (cc e))
external_by linkage.External None k a b x e = absurd (no_external k a b x e)
external_by linkage.Internal o k a b x e = absurd (no_external k a b x e)
external_by linkage.Local o k a b x e = absurd (no_external k a b x e)

pub external_identity : (m : Mention) (x : List ℕ) → identity_of m ≡ External x → (is_external_linkage m.name.linkage ≡ true) × (m.name.name ≡ Some x)
external_identity m x e = external_by m.name.linkage m.name.name m.name.kind m.text m.position x e

single_by : (k : UnitKind) (t p a b : ℕ) → numbered_or k (Single t p) ≡ Single a b → (t ≡ a) × (p ≡ b)
single_by (kind.Object init) t p a b e = (cc e, cc e)
single_by (kind.Func entry f) t p a b e = (cc e, cc e)
single_by (kind.Device d) t p a b e = by d.name e
  where
    by : (o : Option (List ℕ)) → address_or d o (Single t p) ≡ Single a b → (t ≡ a) × (p ≡ b)
    by None e = absurd (cc e)
    by (Some y) e = (cc e, cc e)

single_or : (l : Linkage) (o : Option (List ℕ)) (k : UnitKind) (t p a b : ℕ) → external_or l o (numbered_or k (Single t p)) ≡ Single a b → (t ≡ a) × (p ≡ b)
single_or linkage.External (Some y) k t p a b e = absurd (cc e)
single_or linkage.External None k t p a b e = single_by k t p a b e
single_or linkage.Internal o k t p a b e = single_by k t p a b e
single_or linkage.Local o k t p a b e = single_by k t p a b e

pub single_identity : (m : Mention) (a b : ℕ) → identity_of m ≡ Single a b → (m.text ≡ a) × (m.position ≡ b)
single_identity m a b e = single_or m.name.linkage m.name.name m.name.kind m.text m.position a b e

-- what has external linkage and a name has that identity
named_external : (l : Linkage) (o : Option (List ℕ)) (other : Identity) → is_external_linkage l ≡ true → is_some o ≡ true → (x : List ℕ) × (external_or l o other ≡ External x)
named_external linkage.External (Some x) other h k = (x, refl)
named_external linkage.External None other h k = absurd (true≢false (sym k))
named_external linkage.Internal o other h k = absurd (true≢false (sym h))
named_external linkage.Local o other h k = absurd (true≢false (sym h))

module _ (texts : List Text) (each : (m : Mention) → In m (mentions texts) → IsNamed m) where
  abbrev thing : Mention → Thing
  thing m = thing_of (mentions texts) (identity_of m)

  pub there : (m : Mention) → In m (mentions texts) → In (thing m) (things texts)
  unfolding things_in
  there m h =
      let r = in-any (same_identity (identity_of m)) (identities (mentions texts)) (identified texts m h) in
      in-map (thing_of (mentions texts)) (identities (mentions texts)) (identity_of m) (subst (λ (x : Identity). In x (identities (mentions texts))) (sym (same_identity-equal (identity_of m) r.0 r.1.1)) r.1.0)

  pub from_identity : (t : Thing) → In t (things texts) → (x : Identity) × (thing_of (mentions texts) x ≡ t)
  unfolding things_in
  from_identity t h = let r = in-map_from (thing_of (mentions texts)) (identities (mentions texts)) t h in (r.0, r.1.1)

  -- the first mention, where there is one
  pub first_of : (xs : List Mention) (x : Mention) → In x xs → (f : Mention) × (slice_get xs 0 ≡ Some f) × In f xs
  first_of [] x h = absurd h
  first_of (y ∷ xs) x h = (y, refl, inl refl)

  pub fails : (p : Mention → Bool) (xs : List Mention) (x : Mention) → list_any p xs ≡ false → In x xs → p x ≡ false
  fails p xs x e h = by (p x) refl
    where
      by : (b : Bool) → p x ≡ b → p x ≡ false
      by true k = absurd (true≢false (sym (any-in p xs x h k) ∙ e))
      by false k = k

  -- of a thing that has a mention of such an identity, own names are that of the first
  pub own_first : (x : Identity) (f : Mention) (y : List ℕ) → slice_get (thing_of (mentions texts) x).mentions 0 ≡ Some f → f.name.name ≡ Some y → is_some (own_name (thing_of (mentions texts) x)) ≡ true
  own_first x f y e g = ap (λ (o : Option Mention). is_some (option_and_then name_of o)) e ∙ ap is_some g

  pub mention_in : (x : Identity) (k : Mention) → In k (thing_of (mentions texts) x).mentions → In k (mentions texts) × (identity_of k ≡ x)
  mention_in x k h = (in-filter (λ (m : Mention). same_identity (identity_of m) x) (mentions texts) k h, same_identity-equal (identity_of k) x (filter-passes (λ (m : Mention). same_identity (identity_of m) x) (mentions texts) k h))

  external_named : (x : Identity) → is_external (thing_of (mentions texts) x) ≡ true → is_some (own_name (thing_of (mentions texts) x)) ≡ true
  external_named x h =
      let t = thing_of (mentions texts) x in
      let r = in-any (λ (m : Mention). is_external_linkage m.name.linkage) t.mentions h in
      let k = mention_in x r.0 r.1.0 in
      let n = named_external r.0.name.linkage r.0.name.name (numbered_or r.0.name.kind (Single r.0.text r.0.position)) r.1.1 ((each r.0 k.0).external r.1.1) in
      let f = first_of t.mentions r.0 r.1.0 in
      let g = mention_in x f.0 f.2 in
      own_first x f.0 n.0 f.1 (external_identity f.0 n.0 (g.1 ∙ (sym k.1 ∙ n.1))).1

  nameless_there : (x : Identity) (f : Mention) → In f (thing_of (mentions texts) x).mentions → is_definition f || is_device_kind f.name.kind ≡ true → is_defined (thing_of (mentions texts) x) ≡ false → is_device (thing_of (mentions texts) x) ≡ true
  nameless_there x f i h none = by (is_definition f) refl h
    where
      by : (b : Bool) → is_definition f ≡ b → b || is_device_kind f.name.kind ≡ true → is_device (thing_of (mentions texts) x) ≡ true
      by true e g = absurd (true≢false (sym (any-in is_definition (thing_of (mentions texts) x).mentions f i e) ∙ none))
      by false e g = rw (any-in (λ (m : Mention). is_device_kind m.name.kind) (thing_of (mentions texts) x).mentions f i g, none) refl

  negated : (b : Bool) → not b ≡ true → b ≡ false
  negated true h = absurd (true≢false (sym h))
  negated false h = refl

  undefined_named : (x : Identity) → is_undefined (thing_of (mentions texts) x) ≡ true → is_some (own_name (thing_of (mentions texts) x)) ≡ true
  undefined_named x h =
      let t = thing_of (mentions texts) x in
      let p = three_true (is_used t) (is_defined t) (is_device t) h in
      let r = in-any (λ (m : Mention). m.used) t.mentions p.0 in
      let f = first_of t.mentions r.0 r.1.0 in
      by f.0 f.1 f.2 f.0.name.name refl p.1 p.2
    where
      three_true : (a b c : Bool) → a && not b && not c ≡ true → (a ≡ true) × (b ≡ false) × (c ≡ false)
      three_true true false false h = (refl, refl, refl)
      three_true true false true h = absurd (true≢false (sym h))
      three_true true true c h = absurd (cc h)
      three_true false b c h = absurd (cc h)

      by : (f : Mention) → slice_get (thing_of (mentions texts) x).mentions 0 ≡ Some f → In f (thing_of (mentions texts) x).mentions → (o : Option (List ℕ)) → f.name.name ≡ o →
          is_defined (thing_of (mentions texts) x) ≡ false → is_device (thing_of (mentions texts) x) ≡ false → is_some (own_name (thing_of (mentions texts) x)) ≡ true
      by f e i (Some y) g d v = own_first x f y e g
      by f e i None g d v = absurd (true≢false (sym (nameless_there x f i ((each f (mention_in x f i).0).nameless (ap is_some g)) d) ∙ v))

  -- ---- no cause stands against the things

  module _ (numbering : Numbering) (none : cause_of_things numbering (things texts) ≡ None) where
    types_agree : (m : Mention) → In m (mentions texts) → types_differ numbering (thing m) ≡ false
    types_agree m h =
        none_named (types_differ numbering) (things texts) named (unmapped fault.TypesDiffer (first_named (types_differ numbering) (things texts)) (first_none (option_map fault.TypesDiffer (first_named (types_differ numbering) (things texts))) _ none)) (thing m) (there m h)
      where
        named : (t : Thing) → In t (things texts) → types_differ numbering t ≡ true → is_some (own_name t) ≡ true
        named t i k =
            let r = from_identity t i in
            subst (λ (u : Thing). is_some (own_name u) ≡ true) r.1 (external_named r.0 (both_true (is_external (thing_of (mentions texts) r.0)) (disagree numbering (thing_of (mentions texts) r.0).mentions) (subst (λ (u : Thing). types_differ numbering u ≡ true) (sym r.1) k)).0)

    all_defined : (m : Mention) → In m (mentions texts) → is_undefined (thing m) ≡ false
    all_defined m h =
        none_named is_undefined (things texts) named (unmapped fault.Undefined (first_named is_undefined (things texts)) (first_none (option_map fault.Undefined (first_named is_undefined (things texts))) _
        (second_none (option_map fault.Twice (first_named is_twice (things texts))) _ (second_none (option_map fault.TypesDiffer (first_named (types_differ numbering) (things texts))) _ none)))) (thing m) (there m h)
      where
        named : (t : Thing) → In t (things texts) → is_undefined t ≡ true → is_some (own_name t) ≡ true
        named t i k = let r = from_identity t i in subst (λ (u : Thing). is_some (own_name u) ≡ true) r.1 (undefined_named r.0 (subst (λ (u : Thing). is_undefined u ≡ true) (sym r.1) k))

    undefined_by : (a b c : Bool) → a ≡ true → b ≡ false → c ≡ false → a && not b && not c ≡ true
    undefined_by a b c h k l = rw (h, k, l) refl

    -- what is used is defined, or a device
    pub used_there : (m : Mention) → In m (mentions texts) → m.used ≡ true → (is_defined (thing m) ≡ true) ⊎ (is_device (thing m) ≡ true)
    used_there m h u = by (is_defined (thing m)) (is_device (thing m)) refl refl
      where
        by : (b c : Bool) → is_defined (thing m) ≡ b → is_device (thing m) ≡ c → (is_defined (thing m) ≡ true) ⊎ (is_device (thing m) ≡ true)
        by true c e f = inl e
        by false true e f = inr f
        by false false e f =
            let used : is_used (thing m) ≡ true = any-in (λ (k : Mention). k.used) (thing m).mentions m (in_thing texts m m h refl) u in
            let undefined : is_undefined (thing m) ≡ true = undefined_by (is_used (thing m)) (is_defined (thing m)) (is_device (thing m)) used e f in
            absurd (true≢false (sym undefined ∙ all_defined m h))

    agree_types : (f k : Mention) → agree numbering f k ≡ true → type_in numbering f.text f.name.ctype ≡ type_in numbering k.text k.name.ctype
    agree_types f k h = (compared (type_in numbering f.text f.name.ctype)).same (type_in numbering k.text k.name.ctype) h

    -- with external linkage all have one type
    external_types : (m k : Mention) (x : List ℕ) → In m (mentions texts) → In k (mentions texts) → identity_of k ≡ identity_of m → identity_of m ≡ External x →
        type_in numbering k.text k.name.ctype ≡ type_in numbering m.text m.name.ctype
    external_types m k x hm hk e g =
        let im = in_thing texts m m hm refl in
        let ik = in_thing texts m k hk e in
        let f = first_of (thing m).mentions m im in
        let external : is_external (thing m) ≡ true = any-in (λ (j : Mention). is_external_linkage j.name.linkage) (thing m).mentions m im (external_identity m x g).0 in
        let agreed : disagree numbering (thing m).mentions ≡ false = behind (is_external (thing m)) (disagree numbering (thing m).mentions) external (types_agree m hm) in
        let all : list_any (λ (n : Mention). not (agree numbering f.0 n)) (thing m).mentions ≡ false =
        sym (ap (λ (o : Option Mention). option_map_or (λ (j : Mention). list_any (λ (n : Mention). not (agree numbering j n)) (thing m).mentions) o false) f.1) ∙ agreed in
        let first : (n : Mention) → In n (thing m).mentions → agree numbering f.0 n ≡ true = λ n i. positive (agree numbering f.0 n) (fails (λ (n : Mention). not (agree numbering f.0 n)) (thing m).mentions n all i) in
        sym (agree_types f.0 k (first k ik)) ∙ agree_types f.0 m (first m im)
      where
        behind : (a b : Bool) → a ≡ true → a && b ≡ false → b ≡ false
        behind true b h k = k
        behind false b h k = absurd (true≢false (sym h))

        positive : (b : Bool) → not b ≡ false → b ≡ true
        positive true h = refl
        positive false h = absurd (true≢false h)

    -- two mentions of one thing that is no device without a name have one type
    pub one_type : (m k : Mention) → In m (mentions texts) → In k (mentions texts) → identity_of k ≡ identity_of m → ((n i : ℕ) (c : Bool) → identity_of m ≡ Numbered n i c → ⊥) →
        type_in numbering k.text k.name.ctype ≡ type_in numbering m.text m.name.ctype
    one_type m k hm hk e no_number = by (identity_of m) refl
      where
        by : (x : Identity) → identity_of m ≡ x → type_in numbering k.text k.name.ctype ≡ type_in numbering m.text m.name.ctype
        by (External x) g = external_types m k x hm hk e g
        by (Numbered n i c) g = absurd (no_number n i c g)
        by (Single a b) g =
            let p = single_identity m a b g in
            let q = single_identity k a b (e ∙ g) in
            let text : k.text ≡ m.text = q.0 ∙ sym p.0 in
            let name : k.name ≡ m.name = one_mention texts k m hk hm text (q.1 ∙ sym p.1) in
            ap (λ (t : ℕ). type_in numbering t k.name.ctype) text ∙ ap (λ (n : UnitName). type_in numbering m.text n.ctype) name
