-- The program that units link to accesses its devices without a name: each is a device of a unit, which a function of that unit accesses, by the numbers of the program.
use Rattle.std.proofs.Common.{◌≡◌, ◌∙◌, ◌⊎◌, inl, inr, ◌<◌, ℕ, zero, suc, Bool, true, false, true≢false, not, ◌&&◌, ◌||◌, List, [], ◌∷◌, ◌++◌, length, map, Option, Some, None, is_some, option_map, slice_get, refl, ap, sym, subst}
use Rattle.std.specs.Prelude.{filter_map, option_and_then}
use Rattle.std.specs.Option.{is_none, option_map_or}
use Rattle.std.specs.List.{cons_option, list_any}
use Rattle.cc_accessed_operands.specs.Accessed.{AreDevicesAccessed, list_accesses}
use Rattle.cc_accessed_terms.specs.Accounted.{is_numbered_kind}
use Rattle.cc_causes.specs.Causes.{cause_of_things}
use Rattle.cc_causes.specs.Entries.{entry_at}
use Rattle.cc_definitions.specs.Definitions.{definition, devices, func_in, functions, is_function, is_nameless, thing_at}
use Rattle.cc_link.specs.Linked.{Links, all_ids, device_at, device_in, func_at, id_at, ids_in, name_or_none, program}
use Rattle.cc_linked_names.specs.Given.{file_names, local_names, name_at, reserved_names, tags}
use Rattle.cc_linked_programs.proofs.Agreeing.{first_none, first_of, from_identity, mention_in, one_type}
use Rattle.cc_linked_programs.proofs.Apart.{devices-apart, one_place}
use Rattle.cc_linked_programs.proofs.ContentLists.{Apart}
use Rattle.cc_linked_programs.proofs.Defined.{numbered_identity}
use Rattle.cc_linked_programs.proofs.Definitions.{thing-in, thing-within}
use Rattle.cc_linked_programs.proofs.HandlerViews.{func_is, local_at}
use Rattle.cc_linked_programs.proofs.NameLists.{in-at}
use Rattle.cc_linked_programs.proofs.Named.{has_name_by, name_there}
use Rattle.cc_linked_programs.proofs.Shapes.{register_kept}
use Rattle.cc_linked_programs.proofs.ThingSources.{in_mentions, in_thing, is_mention, its_id, its_thing, number_of, number_within}
use Rattle.cc_linked_programs.proofs.ViewNumbers.{device-id, devices-in, function-id}
use Rattle.cc_linked_programs.specs.NamedThings.{mention_of}
use Rattle.cc_program.specs.CcNum.declared.target.Target.{Target}
use Rattle.cc_program.specs.declared.func.Entry.{Entry}
use Rattle.cc_program.specs.declared.func.Func.{Func}
use Rattle.cc_program.specs.declared.object.Device.{Device}
use Rattle.cc_program.specs.declared.program.Program.{Program}
use Rattle.cc_program.specs.declared.program.Roles.{Roles}
use Rattle.cc_read_accessed.proofs.Mentions.{fits, its_definition, named, not_twice}
use Rattle.cc_read_accessed.proofs.Renumbered.{body_accesses}
use Rattle.cc_read_accessed.specs.Accessed.{AccessesItsDevices, FitsKind, HasTwice, IsAccessedIn, IsFit, IsFitDevice, IsFitFunction}
use Rattle.cc_relocated_units.specs.Units.{is_register_type}
use Rattle.cc_relocation.specs.Relocated.{device_with, func_with}
use Rattle.cc_structures.proofs.Elements.{In, any-in, in-any}
use Rattle.cc_structures.specs.Structures.{Known, Numbering, numbers_of, type_in}
use Rattle.cc_type.specs.CcSyntax.Names.{intrinsic_names}
use Rattle.cc_type.specs.CcSyntax.Normal.{has_name}
use Rattle.cc_things.specs.Mentions.{Mention, mentions}
use Rattle.cc_things.specs.Things.{Identity, External, Numbered, Single, Thing, identity_of, is_defined, is_definition, is_device, is_device_kind, is_func_kind, name_of as mention_name, own_name, thing_of, things}
use Rattle.cc_things.specs.declared.text.Text.{Text}
use Rattle.cc_type.specs.CcUnit.Renumbered.{stmt_renumbered}
use Rattle.cc_type.specs.CcUnit.declared.ids.Id.{Id}
use Rattle.cc_type.specs.CcUnit.declared.ids.Id.TheVariants as id
use Rattle.cc_type.specs.CcUnit.declared.ids.Ids.{Ids}
use Rattle.cc_type.specs.CcUnit.declared.unit.UnitKind.{UnitKind}
use Rattle.cc_type.specs.CcUnit.declared.unit.UnitKind.TheVariants as kind
use Rattle.cc_type.specs.CcUnit.declared.unit.UnitName.{UnitName}

one_is : {A : Type 0} (a b : A) → Some a ≡ Some b → a ≡ b
one_is a b h = cc

-- ---- lists where each element gives a value

record Gives {X Y : Type 0} (f : X → Option Y) (xs : List X) (i : ℕ) (y : Y) : Type 0 where
  from : X
  there : slice_get xs i ≡ Some from
  gives : f from ≡ Some y

gives_at : {X Y : Type 0} (f : X → Option Y) (xs : List X) → ((x : X) → In x xs → is_some (f x) ≡ true) → (i : ℕ) (y : Y) → slice_get (filter_map f xs) i ≡ Some y → Gives f xs i y
gives_at f [] each i y e = absurd (cc)
gives_at {X} {Y} f (x ∷ xs) each i y e = by (f x) refl (each x (inl refl)) i e (λ j g. gives_at f xs (λ z h. each z (inr h)) j y g)
  where
    by : (o : Option Y) → f x ≡ o → is_some o ≡ true → (i : ℕ) → slice_get (cons_option o (filter_map f xs)) i ≡ Some y → ((j : ℕ) → slice_get (filter_map f xs) j ≡ Some y → Gives f xs j y) → Gives f (x ∷ xs) i y
    by None g h i k rest = absurd (true≢false (sym h))
    by (Some z) g h zero k rest = record { from = x; there = refl; gives = g ∙ k }
    by (Some z) g h (suc i) k rest = let r = rest i k in record { from = r.from; there = r.there; gives = r.gives }

given_in : {X Y : Type 0} (f : X → Option Y) (xs : List X) (x : X) (y : Y) → In x xs → f x ≡ Some y → In y (filter_map f xs)
given_in f [] x y h e = absurd h
given_in {X} {Y} f (z ∷ xs) x y h e = by (f z) refl h (λ i. given_in f xs x y i e)
  where
    by : (o : Option Y) → f z ≡ o → In x (z ∷ xs) → (In x xs → In y (filter_map f xs)) → In y (cons_option o (filter_map f xs))
    by None g (inl s) rest = let c : None ≡ Some y = sym g ∙ (ap f s ∙ e) in absurd (cc)
    by None g (inr i) rest = rest i
    by (Some w) g (inl s) rest = inl (one_is w y (sym g ∙ (ap f s ∙ e)))
    by (Some w) g (inr i) rest = inr (rest i)

-- a number stands at one place
one_position : (ks : List ℕ) → Apart ks → (i j k : ℕ) → slice_get ks i ≡ Some k → slice_get ks j ≡ Some k → i ≡ j
one_position [] a i j k e f = absurd (cc)
one_position (n ∷ ks) a zero zero k e f = refl
one_position (n ∷ ks) a zero (suc j) k e f = absurd (a.0 (subst (λ (z : ℕ). In z ks) (sym (one_is n k e)) (in-at ks j k f)))
one_position (n ∷ ks) a (suc i) zero k e f = absurd (a.0 (subst (λ (z : ℕ). In z ks) (sym (one_is n k f)) (in-at ks i k e)))
one_position (n ∷ ks) a (suc i) (suc j) k e f = ap suc (one_position ks a.1 i j k e f)

both_parts : (a b : Bool) → a && not b ≡ true → (a ≡ true) × (b ≡ false)
both_parts true false h = (refl, refl)
both_parts true true h = absurd (true≢false (sym h))
both_parts false b h = absurd (true≢false (sym h))

undevice : (a b : Bool) → b ≡ true → a && not b ≡ false
undevice true true h = refl
undevice false true h = refl
undevice a false h = absurd (true≢false (sym h))

module _ (texts : List Text) (access : (t : ℕ) (x : Text) → slice_get texts t ≡ Some x → AccessesItsDevices x.unit) where
  abbrev ts : List Thing
  ts = things texts

  abbrev of : Mention → Thing
  of m = thing_of (mentions texts) (identity_of m)

  fit : (t : ℕ) (x : Text) (i : ℕ) (n : UnitName) → slice_get texts t ≡ Some x → slice_get x.unit.names i ≡ Some n → IsFit n
  fit t x i n e h = (access t x e).fit i n h

  -- ---- mentions of the thing of a number

  record MentionAt (k : ℕ) (m : Mention) : Type 0 where
    known : In m (mentions texts)
    one : of m ≡ thing_at ts k
    number : number_of texts m ≡ k

  mention_at : (k : ℕ) (m : Mention) → k < length ts → In m (thing_at ts k).mentions → MentionAt k m
  mention_at k m low i =
      let x = from_identity texts (named texts fit) (thing_at ts k) (thing-in ts k low) in
      let j = mention_in texts (named texts fit) x.0 m (subst (λ (t : Thing). In m t.mentions) (sym x.1) i) in
      let one : of m ≡ thing_at ts k = ap (thing_of (mentions texts)) j.1 ∙ x.1 in
      record { known = j.0; one = one; number = one_place (mentions texts) (number_of texts m) k (number_within texts m j.0) low (its_thing texts m j.0 ∙ one) }

  module _ (numbering : Numbering) (none : cause_of_things numbering ts ≡ None) where
    -- ---- what one source has as a device, and none defines, the others have as one

    register_of : (m : Mention) (d : Device) → In m (mentions texts) → m.name.kind ≡ kind.Device d → is_register_type m.name.ctype ≡ true
    register_of m d h e = let f : IsFitDevice m.name d = subst (FitsKind m.name) e (fits texts fit m h).kind in f.register

    same_kind : (m f : Mention) (d : Device) → In m (mentions texts) → In f (mentions texts) → identity_of f ≡ identity_of m → m.name.kind ≡ kind.Device d → is_defined (of m) ≡ false → (own : Device) × (f.name.kind ≡ kind.Device own)
    same_kind m f d hm hf e g undefined = by (identity_of m) refl
      where
        typed : type_in numbering f.text f.name.ctype ≡ type_in numbering m.text m.name.ctype → (own : Device) × (f.name.kind ≡ kind.Device own)
        typed t = cases f.name.kind refl (fits texts fit f hf).kind
          where
            register : is_register_type f.name.ctype ≡ true
            register = sym (register_kept (numbers_of numbering f.text) f.name.ctype) ∙ (ap is_register_type t ∙ (register_kept (numbers_of numbering m.text) m.name.ctype ∙ register_of m d hm g))

            cases : (k : UnitKind) → f.name.kind ≡ k → FitsKind f.name k → (own : Device) × (f.name.kind ≡ kind.Device own)
            cases (kind.Object init) q o = absurd (true≢false (sym (any-in is_definition (of m).mentions f (in_thing texts m f hf e) (o register)) ∙ undefined))
            cases (kind.Func by body) q o = absurd (true≢false (sym register ∙ o.plain))
            cases (kind.Device own) q o = (own, q)

        by : (x : Identity) → identity_of m ≡ x → (own : Device) × (f.name.kind ≡ kind.Device own)
        by (External y) q = typed (one_type texts (named texts fit) numbering none m f hm hf e (λ n i c k. absurd (cc (sym q ∙ k))))
        by (Single a b) q = typed (one_type texts (named texts fit) numbering none m f hm hf e (λ n i c k. absurd (cc (sym q ∙ k))))
        by (Numbered n i c) q = let y = numbered_identity f n i c (e ∙ q) in (y.0, y.1)

    -- the first mention of a device has it as one
    record FirstOf (k : ℕ) : Type 0 where
      low : k < length ts
      first : Mention
      is_first : slice_get (thing_at ts k).mentions 0 ≡ Some first
      at : MentionAt k first
      own : Device
      kind : first.name.kind ≡ kind.Device own

    device_kind : (m : Mention) (k : UnitKind) → m.name.kind ≡ k → is_device_kind k ≡ true → (d : Device) × (m.name.kind ≡ kind.Device d)
    device_kind m (kind.Device d) e h = (d, e)
    device_kind m (kind.Object init) e h = absurd (true≢false (sym h))
    device_kind m (kind.Func by f) e h = absurd (true≢false (sym h))

    first_at : (k : ℕ) → In k (devices ts) → FirstOf k
    first_at k i =
        let e = devices-in ts k i in
        let low = thing-within ts is_device k refl e in
        let parts = both_parts (list_any (λ (j : Mention). is_device_kind j.name.kind) (thing_at ts k).mentions) (is_defined (thing_at ts k)) e in
        let r = in-any (λ (j : Mention). is_device_kind j.name.kind) (thing_at ts k).mentions parts.0 in
        let m = mention_at k r.0 low r.1.0 in
        let d = device_kind r.0 r.0.name.kind refl r.1.1 in
        let f = first_of texts (named texts fit) (thing_at ts k).mentions r.0 r.1.0 in
        let n = mention_at k f.0 low f.2 in
        let x = from_identity texts (named texts fit) (thing_at ts k) (thing-in ts k low) in
        let of_first = (mention_in texts (named texts fit) x.0 f.0 (subst (λ (t : Thing). In f.0 t.mentions) (sym x.1) f.2)).1 in
        let of_other = (mention_in texts (named texts fit) x.0 r.0 (subst (λ (t : Thing). In r.0 t.mentions) (sym x.1) r.1.0)).1 in
        let own = same_kind r.0 f.0 d.0 m.known n.known (of_first ∙ sym of_other) d.1 (ap is_defined m.one ∙ parts.1) in
        record { low = low; first = f.0; is_first = f.1; at = n; own = own.0; kind = own.1 }

    -- ---- the program

    module _ (roles : Roles) (firsts : List Known) (target : Target) where
      abbrev reserved : List (List ℕ)
      reserved = reserved_names texts roles

      abbrev name_of : ℕ → Option (List ℕ)
      name_of k = name_at ts reserved roles firsts k

      abbrev p : Program
      p = program texts roles numbering firsts target

      abbrev ids : List Ids
      ids = all_ids texts numbering

      device_is : (k : ℕ) (r : FirstOf k) → device_at ts name_of k ≡ Some (device_with (name_of k) r.own)
      device_is k r =
          ap (λ (o : Option Mention). option_map (device_with (name_of k)) (option_and_then (λ (m : Mention). device_in m.name.kind) o)) r.is_first
          ∙ ap (λ (q : UnitKind). option_map (device_with (name_of k)) (device_in q)) r.kind

      each_device : (k : ℕ) → In k (devices ts) → is_some (device_at ts name_of k) ≡ true
      each_device k i = ap is_some (device_is k (first_at k i))

      -- ---- a device that has no name in the program has none in its text

      there_by : (k : ℕ) → is_device (thing_at ts k) ≡ true → is_defined (thing_at ts k) || is_device (thing_at ts k) ≡ true
      there_by k e = rw e (either (is_defined (thing_at ts k)))
        where
          either : (b : Bool) → b || true ≡ true
          either true = refl
          either false = refl

      nameless : (k : ℕ) (r : FirstOf k) → is_device (thing_at ts k) ≡ true → name_of k ≡ None → r.first.name.name ≡ None
      nameless k r e n = by r.first.name.name refl
        where
          by : (o : Option (List ℕ)) → r.first.name.name ≡ o → r.first.name.name ≡ None
          by None g = g
          by (Some x) g =
              let own : own_name (thing_at ts k) ≡ Some x = ap (option_and_then mention_name) r.is_first ∙ g in
              let unnamed : is_nameless (thing_at ts k) ≡ false = ap (λ (b : Bool). b && is_none (own_name (thing_at ts k))) e ∙ ap is_none own in
              let y = name_there ts reserved roles firsts k (has_name_by ts k (there_by k e) unnamed) in
              let c : Some y.name ≡ None = sym y.is ∙ n in
              absurd (cc)

      numbered : (k : ℕ) (r : FirstOf k) → r.first.name.name ≡ None → is_numbered_kind r.first.name.kind ≡ true
      numbered k r n =
          let f : IsFitDevice r.first.name r.own = subst (FitsKind r.first.name) r.kind (fits texts fit r.first r.at.known).kind in
          ap is_numbered_kind r.kind ∙ ap is_none (f.named ∙ n)

      -- ---- a function of a text is one of the program

      function_there : (m : Mention) (entry : Option Entry) (g : Func) → In m (mentions texts) → m.name.kind ≡ kind.Func entry (Some g) → (f : Func) × In f p.funcs × (f.body ≡ map (stmt_renumbered (ids_in ids m.text)) g.body)
      function_there m entry g h e =
          let k = number_of texts m in
          let t : thing_at ts k ≡ of m = its_thing texts m h in
          let fit_function : IsFitFunction m.name (Some g) = subst (FitsKind m.name) e (fits texts fit m h).kind in
          let d : definition (thing_at ts k) ≡ Some m = ap definition t ∙ its_definition texts fit numbering none m h fit_function.defined in
          let defined : is_defined (thing_at ts k) ≡ true = any-in is_definition (thing_at ts k).mentions m (subst (λ (u : Thing). In m u.mentions) (sym t) (in_thing texts m m h refl)) fit_function.defined in
          let no_device : is_device (thing_at ts k) ≡ false = undevice (list_any (λ (j : Mention). is_device_kind j.name.kind) (thing_at ts k).mentions) (is_defined (thing_at ts k)) defined in
          let is_func : is_function (thing_at ts k) ≡ true = ap (λ (o : Option Mention). option_map_or (λ (j : Mention). is_func_kind j.name.kind) o false) d ∙ ap is_func_kind e in
          let at = function-id ts k (number_within texts m h) (ap is_some d) no_device is_func in
          let given = tags ts reserved roles firsts ++ file_names ts reserved roles firsts in
          let outer = intrinsic_names roles ++ file_names ts reserved roles firsts in
          let l = local_at ts reserved outer given (functions ts) at.0 k at.2 in
          let f = func_with (name_or_none ts name_of k) l.0 (entry_at ts roles name_of k) (ids_in ids m.text) g in
          let is = func_is ids (name_or_none ts name_of k) l.0 (entry_at ts roles name_of k) (thing_at ts k) m g d (ap func_in e) in
          (f, given_in (func_at ts name_of roles ids) (local_names ts reserved roles firsts) (k, l.0) f (in-at (local_names ts reserved roles firsts) at.0 (k, l.0) l.1) is, refl {a = map (stmt_renumbered (ids_in ids m.text)) g.body})

      -- ---- a device without a name is accessed

      accessed_in : (k : ℕ) (r : FirstOf k) (i : ℕ) → slice_get (devices ts) i ≡ Some k → is_device (thing_at ts k) ≡ true → (x : Text) → slice_get texts r.first.text ≡ Some x → slice_get x.unit.names r.first.position ≡ Some r.first.name →
          IsAccessedIn x.unit.names r.first.position ⊎ HasTwice x.unit.names → list_any (λ (f : Func). list_accesses i f.body) p.funcs ≡ true
      accessed_in k r i place e x there named (inr t) =
          absurd (not_twice texts fit numbering none (mention_of r.first.text x t.number t.name) (in_mentions texts r.first.text x t.number t.name there t.there) t.twice)
      accessed_in k r i place e x there named (inl a) =
          let m = mention_of r.first.text x a.number a.name in
          let f = function_there m a.entry a.func (in_mentions texts r.first.text x a.number a.name there a.there) a.defined in
          let at = device-id ts k r.low e in
          let same : at.0 ≡ i = one_position (devices ts) (devices-apart ts) at.0 i k at.2 place in
          let own : slice_get (ids_in ids r.first.text).names r.first.position ≡ Some (id.Device i) =
          its_id texts numbering r.first.text x r.first.position r.first.name there named ∙ (ap (λ (n : ℕ). Some (id_at ts n)) r.at.number ∙ (ap (λ (j : Id). Some j) at.1 ∙ ap (λ (n : ℕ). Some (id.Device n)) same)) in
          any-in (λ (g : Func). list_accesses i g.body) p.funcs f.0 f.1
          (ap (list_accesses i) f.2 ∙ body_accesses (ids_in ids r.first.text) r.first.position i own a.func.body a.accesses)

      pub program_accesses : AreDevicesAccessed p
      program_accesses i d h n =
          let g = gives_at (device_at ts name_of) (devices ts) each_device i d h in
          let r = first_at g.from (in-at (devices ts) i g.from g.there) in
          let e = devices-in ts g.from (in-at (devices ts) i g.from g.there) in
          let is : d ≡ device_with (name_of g.from) r.own = one_is d (device_with (name_of g.from) r.own) (sym g.gives ∙ device_is g.from r) in
          let none_there : name_of g.from ≡ None = no_name (name_of g.from) (sym (ap has_name is) ∙ n) in
          let m = is_mention texts r.first r.at.known in
          let unnamed = numbered g.from r (nameless g.from r e none_there) in
          accessed_in g.from r i g.there e m.text m.there m.named ((access r.first.text m.text m.there).accessed r.first.position r.first.name m.named unnamed)
        where
          no_name : (o : Option (List ℕ)) → not (is_none o) ≡ false → o ≡ None
          no_name None h = refl
          no_name (Some x) h = absurd (true≢false h)

pub linked_accesses : (texts : List Text) (target : Target) (roles : Roles) (p : Program) → ((t : ℕ) (x : Text) → slice_get texts t ≡ Some x → AccessesItsDevices x.unit) → Links texts target roles p → AreDevicesAccessed p
linked_accesses texts target roles p h l =
    let none = first_none (cause_of_things l.numbering (things texts)) _ l.none in
    subst AreDevicesAccessed (sym l.is) (program_accesses texts h l.numbering none roles l.firsts target)
