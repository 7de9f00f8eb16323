-- No cause stands against the unit that a sound program's text is (C99 6.2.7, 6.9, 5.1.2.2.1).
use Rattle.std.proofs.Common.{◌≡◌, ◌∙◌, ◌⊎◌, inl, inr, ◌+◌, ◌<◌, ℕ, Bool, true, false, true≢false, not, ◌&&◌, ◌||◌, List, [], ◌∷◌, ◌++◌, length, map, Option, Some, None, is_some, slice_get, refl, ap, sym, subst, arith}
use Rattle.std.specs.Prelude.{if◌then◌else◌}
use Rattle.std.specs.List.{list_all, list_any}
use Rattle.std.specs.Str.{bytes_eq}
use Rattle.cc_causes.specs.Causes.{types_differ, is_twice, is_undefined, is_main as is_main_thing, cause_of_things, bad_handler}
use Rattle.cc_causes.specs.Entries.{entry_by, entry_at, is_in_roles, is_listed, is_bad_handler, is_named, is_nowhere}
use Rattle.cc_definitions.specs.Definitions.{thing_at, numbers_below}
use Rattle.cc_definitions.specs.Handlers.{entry_given, has_name as is_name, is_named_main, may_be_handler, takes_and_gives_nothing}
use Rattle.cc_given_names.proofs.Among.{same-text, itself}
use Rattle.cc_linked_names.specs.Given.{name_at}
use Rattle.cc_linked_programs.proofs.ThingLists.{below-in}
use Rattle.cc_names.specs.Names.{is_among}
use Rattle.cc_program.specs.declared.func.Entry.{Entry}
use Rattle.cc_program.specs.declared.func.Entry.TheVariants as entry
use Rattle.cc_program.specs.declared.func.Func.{Func}
use Rattle.cc_program.specs.declared.object.Object.{Object}
use Rattle.cc_program.specs.declared.program.Program.{Program}
use Rattle.cc_program.specs.declared.types.Shape.{out-Shape, Func as FuncShape}
use Rattle.cc_program.specs.declared.types.Shape.TheVariants.{outs-Func}
use Rattle.cc_program.specs.declared.types.Sig.{out-Sig}
use Rattle.cc_shown_declarations.specs.Entries.{written_entry}
use Rattle.cc_printed_programs.specs.Kept.{AreKept}
use Rattle.cc_shown_declarations.specs.UnitNumbers.{first_function}
use Rattle.cc_printed_programs.specs.Units.{function_shown, names_shown}
use Rattle.cc_printed_programs.proofs.Identities.{device_part, function_part, object_part, names-apart}
use Rattle.cc_printed_programs.proofs.ShownLists.{get-map, get-unmap, get-in, in-get, within, get-inside, find-none}
use Rattle.cc_printed_programs.proofs.Naming.{parted, among-in}
use Rattle.cc_printed_programs.proofs.Named.{name-is}
use Rattle.cc_printed_programs.proofs.Ranges.{below-are, in-numbers}
use Rattle.cc_printed_programs.proofs.Sections.{text, ts, here, apart, thing-is}
use Rattle.cc_printed_programs.proofs.Things.{thing_with, things-are, how-many, at-here, here-at}
use Rattle.cc_printed_programs.proofs.UnitNames.{function-there, Shown, NamedDevice, AFunction, AnObject, NumberedDevice, shown-at}
use Rattle.cc_structures.proofs.Elements.{In, any-in, in-any, in-map_from}
use Rattle.cc_structures.specs.Structures.{Known, Numbering, type_in}
use Rattle.cc_type.proofs.CcSyntax.Parts.{all_at}
use Rattle.cc_type.proofs.CcSyntax.Prefixes.{both_true}
use Rattle.cc_type.proofs.CcSyntax.SameLemmas.{compared}
use Rattle.cc_type.specs.CcSyntax.Lists.{come_first}
use Rattle.cc_type.specs.CcSyntax.Normal.{has_name}
use Rattle.cc_type.specs.CcSyntax.Operators.{is_handler}
use Rattle.cc_type.specs.CcSyntax.SameTypes.{same_type}
use Rattle.cc_type.specs.CcSyntax.Sound.{IsSound, IsFunc, entry_fits, form_fits, is_handler_name, is_main, is_main_there, is_plain_int, is_plain_void, main_name, takes_nothing}
use Rattle.cc_things.specs.Mentions.{mentions_of}
use Rattle.cc_things.specs.Things.{Thing, things, is_defined, is_device, is_used, is_external}
use Rattle.cc_type.specs.CcUnit.declared.ids.Ids.{Ids}
use Rattle.cc_type.specs.CcUnit.declared.unit.UnitName.{UnitName}

not-true : (b : Bool) → (b ≡ true → ⊥) → b ≡ false
not-true true h = absurd (h refl)
not-true false h = refl

negated : (b : Bool) → not b ≡ true → b ≡ false
negated true h = absurd (true≢false (sym h))
negated false h = refl

and-false : (a b : Bool) → b ≡ false → a && b ≡ false
and-false true b h = h
and-false false b h = refl

undefined-none : (u d e : Bool) → (d ≡ true) ⊎ (e ≡ true) → (u && not d && not e) ≡ false
undefined-none true true true h = refl
undefined-none true true false h = refl
undefined-none true false true h = refl
undefined-none true false false (inl h) = absurd (true≢false (sym h))
undefined-none true false false (inr h) = absurd (true≢false (sym h))
undefined-none false d e h = refl

-- by attributes, or because the roles name it
entry-kept : (e : Option Entry) (listed : Bool) → (e ≡ None → listed ≡ false) → (e ≡ Some entry.Listed → listed ≡ true) → entry_by (written_entry e) listed ≡ e
entry-kept None listed h k = ap (entry_by None) (h refl)
entry-kept (Some entry.Signal) listed h k = refl
entry-kept (Some entry.Interrupt) listed h k = refl
entry-kept (Some entry.Listed) listed h k = ap (entry_by None) (k refl)

module _ (p : Program) (function_at object_at : ℕ → ℕ) (identifiers : List (List ℕ)) (sound : IsSound p) (order : come_first has_name p.devices ≡ true) where
  abbrev all : List Thing
  all = ts p function_at object_at identifiers sound order

  abbrev names : List UnitName
  names = names_shown p function_at object_at

  abbrev thing : ℕ → UnitName → Thing
  thing k n = thing_with (here p function_at object_at identifiers sound order k n)

  record ThingIn (t : Thing) : Type 0 where
    at : ℕ
    name : UnitName
    there : slice_get names at ≡ Some name
    is : t ≡ thing at name

  thing-in : (t : Thing) → In t all → ThingIn t
  thing-in t i =
      let x = text p function_at object_at identifiers sound order in
      let r = in-map_from thing_with (mentions_of 0 x) t (subst (λ (us : List Thing). In t us) (things-are x (apart p function_at object_at identifiers sound order)) i) in
      let q = get-in (mentions_of 0 x) r.0 r.1.0 in
      let a = at-here x q.0 r.0 q.1 in
      record { at = q.0; name = a.0; there = a.1; is = sym r.1.1 ∙ ap thing_with a.2 }

  in-things : (k : ℕ) (n : UnitName) → slice_get names k ≡ Some n → In (thing k n) all
  in-things k n e =
      let x = text p function_at object_at identifiers sound order in
      let there = get-map thing_with (mentions_of 0 x) k (here p function_at object_at identifiers sound order k n) (here-at x k n e) in
      subst (λ (us : List Thing). In (thing k n) us) (sym (things-are x (apart p function_at object_at identifiers sound order))) (in-get (map thing_with (mentions_of 0 x)) k (thing k n) there)

  -- ---- things by themselves

  module _ (numbering : Numbering) where
    no-other-type : (t : Thing) → In t all → types_differ numbering t ≡ false
    no-other-type t i =
        let r = thing-in t i in
        let same : same_type (type_in numbering 0 r.name.ctype) (type_in numbering 0 r.name.ctype) ≡ true = (compared (type_in numbering 0 r.name.ctype)).itself in
        ap (types_differ numbering) r.is ∙ and-false (is_external (thing r.at r.name)) (not (same_type (type_in numbering 0 r.name.ctype) (type_in numbering 0 r.name.ctype)) || false) (ap (λ (b : Bool). not b || false) same)

  once : (k : ℕ) (n : UnitName) → Shown p function_at object_at order k n → is_twice (thing k n) ≡ false
  once k n (NamedDevice d e f h low s) = ap (λ (m : UnitName). is_twice (thing k m)) s
  once k n (AFunction i f e h s) = ap (λ (m : UnitName). is_twice (thing k m)) s
  once k n (AnObject i o e h s) = ap (λ (m : UnitName). is_twice (thing k m)) s
  once k n (NumberedDevice i d e h high g s) = ap (λ (m : UnitName). is_twice (thing k m)) s

  there-is : (k : ℕ) (n : UnitName) → Shown p function_at object_at order k n → (is_defined (thing k n) ≡ true) ⊎ (is_device (thing k n) ≡ true)
  there-is k n (NamedDevice d e f h low s) = inr (ap (λ (m : UnitName). is_device (thing k m)) s)
  there-is k n (AFunction i f e h s) = inl (ap (λ (m : UnitName). is_defined (thing k m)) s)
  there-is k n (AnObject i o e h s) = inl (ap (λ (m : UnitName). is_defined (thing k m)) s)
  there-is k n (NumberedDevice i d e h high g s) = inr (ap (λ (m : UnitName). is_device (thing k m)) s)

  not-twice : (t : Thing) → In t all → is_twice t ≡ false
  not-twice t i = let r = thing-in t i in ap is_twice r.is ∙ once r.at r.name (shown-at p function_at object_at order r.at r.name r.there)

  not-undefined : (t : Thing) → In t all → is_undefined t ≡ false
  not-undefined t i =
      let r = thing-in t i in
      ap is_undefined r.is ∙ undefined-none (is_used (thing r.at r.name)) (is_defined (thing r.at r.name)) (is_device (thing r.at r.name)) (there-is r.at r.name (shown-at p function_at object_at order r.at r.name r.there))

  -- ---- the function that runs first

  pub record MainFunction : Type 0 where
    pub func : Func
    pub there : slice_get p.funcs p.main ≡ Some func
    pub named : func.name ≡ main_name

  pub main-function : MainFunction
  main-function = by (slice_get p.funcs p.main) refl sound.main
    where
      by : (o : Option Func) → slice_get p.funcs p.main ≡ o → is_main_there o ≡ true → MainFunction
      by None e h = absurd (true≢false (sym h))
      by (Some f) e h = record { func = f; there = e; named = same-text f.name main_name h }

  pub runs-first : (k i : ℕ) (f : Func) → f.name ≡ main_name → is_named_main (thing k (function_shown p (function_at i) f)) ≡ true
  runs-first k i f h = ap (λ (x : List ℕ). bytes_eq main_name x) h ∙ itself main_name

  main-there : list_any is_main_thing all ≡ true
  main-there =
      let m = main-function in
      let n = function_shown p (function_at p.main) m.func in
      let e = function-there p function_at object_at p.main (first_function p + p.main) m.func m.there refl in
      let named : is_main_thing (thing (first_function p + p.main) n) ≡ true = ap (λ (b : Bool). b && is_defined (thing (first_function p + p.main) n)) (runs-first (first_function p + p.main) p.main m.func m.named) in
      any-in is_main_thing all (thing (first_function p + p.main) n) (in-things (first_function p + p.main) n e) named

  pub no-cause-of-things : (numbering : Numbering) → cause_of_things numbering (things (text p function_at object_at identifiers sound order ∷ [])) ≡ None
  no-cause-of-things numbering =
      let a = find-none (types_differ numbering) all (no-other-type numbering) in
      let b = find-none is_twice all not-twice in
      let d = find-none is_undefined all not-undefined in
      rw (a, b, d, main-there) refl

  -- ---- handlers

  module _ (reserved : List (List ℕ)) (firsts : List Known) (ids : Ids) (kept : AreKept p ids (names_shown p function_at object_at)) where
    abbrev name_of : ℕ → Option (List ℕ)
    name_of k = name_at all reserved p.roles firsts k

    own-function : (i : ℕ) (f : Func) → slice_get p.funcs i ≡ Some f → IsFunc p f
    own-function i f e = all_at (IsFunc p) p.funcs i f e sound.funcs

    listed-by : (k : ℕ) (n : UnitName) (x : List ℕ) → slice_get names k ≡ Some n → is_device (thing k n) ≡ false → n.name ≡ Some x → is_listed all p.roles name_of k ≡ is_among x p.roles.handlers
    listed-by k n x e d h =
        let a : is_device (thing_at all k) ≡ false = ap is_device (thing-is p function_at object_at identifiers sound order k n e) ∙ d in
        let b : name_of k ≡ Some x = name-is p function_at object_at identifiers sound order reserved firsts k n e ∙ h in
        ap (λ (c : Bool). not c && is_in_roles p.roles (name_of k)) a ∙ ap (is_in_roles p.roles) b

    -- the entry of a function is its own
    pub entry-is : (i : ℕ) (f : Func) → slice_get p.funcs i ≡ Some f → entry_at (things (text p function_at object_at identifiers sound order ∷ [])) p.roles name_of (first_function p + i) ≡ f.entry
    entry-is i f e =
        let k = first_function p + i in
        let n = function_shown p (function_at i) f in
        let there = function-there p function_at object_at i k f e refl in
        let listed = listed-by k n f.name there refl refl in
        let fits = (own-function i f e).entry in
        ap (λ (t : Thing). entry_by (entry_given t) (is_listed all p.roles name_of k)) (thing-is p function_at object_at identifiers sound order k n there)
        ∙ (ap (entry_by (written_entry f.entry)) listed
        ∙ entry-kept f.entry (is_among f.name p.roles.handlers)
        (λ h. negated (is_handler_name p f.name) (subst (λ (o : Option Entry). entry_fits p f o ≡ true) h fits))
        (λ h. subst (λ (o : Option Entry). entry_fits p f o ≡ true) h fits))

    -- an object has no handler's name
    handler-function : (x : List ℕ) → In x p.roles.handlers → In x (function_part p)
    handler-function x i =
        let h = all-handlers p.roles.handlers sound.handlers x i in
        let r = in-any (bytes_eq x) (function_part p) h in
        subst (λ (y : List ℕ). In y (function_part p)) (sym (same-text x r.0 r.1.1)) r.1.0
      where
        all-handlers : (hs : List (List ℕ)) → list_all (λ (h : List ℕ). list_any (bytes_eq h) (map (λ (f : Func). f.name) p.funcs)) hs ≡ true → (x : List ℕ) → In x hs → list_any (bytes_eq x) (map (λ (f : Func). f.name) p.funcs) ≡ true
        all-handlers [] h x i = absurd i
        all-handlers (y ∷ hs) h x (inl e) = sym (ap (λ (z : List ℕ). list_any (bytes_eq z) (map (λ (f : Func). f.name) p.funcs)) e) ∙ (both_true _ _ h).0
        all-handlers (y ∷ hs) h x (inr j) = all-handlers hs (both_true _ _ h).1 x j

    object-unlisted : (i : ℕ) (x : List ℕ) → slice_get (object_part p) i ≡ Some x → is_among x p.roles.handlers ≡ false
    object-unlisted i x e = not-true (is_among x p.roles.handlers) (λ h.
        let r = in-any (bytes_eq x) p.roles.handlers h in
        let same = same-text x r.0 r.1.1 in
        let f : In x (function_part p) = handler-function x (subst (λ (y : List ℕ). In y p.roles.handlers) (sym same) r.1.0) in
        let d = parted (device_part p) (function_part p ++ object_part p) (names-apart p sound).whole in
        let a = parted (function_part p) (object_part p) d.right in
        true≢false (sym (among-in (object_part p) x (in-get (object_part p) i x e)) ∙ a.apart x f))

    bytes-other : (x y : List ℕ) → bytes_eq x y ≡ false → bytes_eq y x ≡ false
    bytes-other x y h = not-true (bytes_eq y x) (λ e. true≢false (sym (subst (λ (z : List ℕ). bytes_eq x z ≡ true) (sym (same-text y x e)) (itself x)) ∙ h))

    -- a handler may be one
    record HandlerForm (f : Func) : Type 0 where
      other : is_main f ≡ false
      nothing : takes_nothing f ≡ true
      void : is_plain_void (out-Sig f.sig).result ≡ true

    handler-form : (f : Func) → form_fits f ≡ true → is_handler f ≡ true → HandlerForm f
    handler-form f h k = by (is_main f) refl h
      where
        by : (b : Bool) → is_main f ≡ b →
            (if b then not (is_handler f) && (takes_nothing f && (is_plain_int (out-Sig f.sig).result || is_plain_void (out-Sig f.sig).result)) else (if is_handler f then takes_nothing f && is_plain_void (out-Sig f.sig).result else true)) ≡ true → HandlerForm f
        by true e g = absurd (true≢false (sym (both_true (not (is_handler f)) (takes_nothing f && (is_plain_int (out-Sig f.sig).result || is_plain_void (out-Sig f.sig).result)) g).0 ∙ ap not k))
        by false e g =
            let c : takes_nothing f && is_plain_void (out-Sig f.sig).result ≡ true = sym (ap (λ (b : Bool). if b then takes_nothing f && is_plain_void (out-Sig f.sig).result else true) k) ∙ g in
            let d = both_true (takes_nothing f) (is_plain_void (out-Sig f.sig).result) c in
            record { other = e; nothing = d.0; void = d.1 }

    may-be : (i : ℕ) (f : Func) → slice_get p.funcs i ≡ Some f → is_handler f ≡ true → may_be_handler (thing (first_function p + i) (function_shown p (function_at i) f)) ≡ true
    may-be i f e h =
        let form = handler-form f (own-function i f e).form h in
        let typed : takes_and_gives_nothing (out-Shape (FuncShape f.sig)) ≡ true = ap takes_and_gives_nothing (outs-Func f.sig) ∙ rw (form.nothing, form.void) refl in
        let unused = kept.handlers i f e h in
        let other = bytes-other f.name main_name form.other in
        rw (typed, unused, other) refl

    device-good : (k : ℕ) (n : UnitName) → slice_get names k ≡ Some n → is_device (thing k n) ≡ true → entry_given (thing k n) ≡ None → is_bad_handler all p.roles name_of k ≡ false
    device-good k n e d g =
        let t = thing-is p function_at object_at identifiers sound order k n e in
        let a : is_device (thing_at all k) ≡ true = ap is_device t ∙ d in
        let b : entry_given (thing_at all k) ≡ None = ap entry_given t ∙ g in
        rw (b, a) refl

    good-by : (k : ℕ) (n : UnitName) → slice_get names k ≡ Some n → Shown p function_at object_at order k n → is_bad_handler all p.roles name_of k ≡ false
    good-by k n e (NamedDevice d f g h low s) = device-good k n e (ap (λ (m : UnitName). is_device (thing k m)) s) (ap (λ (m : UnitName). entry_given (thing k m)) s)
    good-by k n e (NumberedDevice i d f h high g s) = device-good k n e (ap (λ (m : UnitName). is_device (thing k m)) s) (ap (λ (m : UnitName). entry_given (thing k m)) s)
    good-by k n e (AnObject i o f h s) =
        let t = thing-is p function_at object_at identifiers sound order k n e in
        let b : entry_given (thing_at all k) ≡ None = ap entry_given t ∙ ap (λ (m : UnitName). entry_given (thing k m)) s in
        let l = listed-by k n o.name e (ap (λ (m : UnitName). is_device (thing k m)) s) (ap (λ (m : UnitName). m.name) s) ∙ object-unlisted i o.name (get-map (λ (x : Object). x.name) p.objects i o f) in
        rw (b, l) refl
    good-by k n e (AFunction i f g h s) = by f.entry refl
      where
        own : entry_at all p.roles name_of k ≡ f.entry
        own = ap (entry_at all p.roles name_of) h ∙ entry-is i f g

        by : (o : Option Entry) → f.entry ≡ o → is_bad_handler all p.roles name_of k ≡ false
        by None q = ap (λ (o : Option Entry). is_some o && not (may_be_handler (thing_at all k))) (own ∙ q)
        by (Some x) q =
            let there = function-there p function_at object_at i (first_function p + i) f g refl in
            let may : may_be_handler (thing_at all k) ≡ true =
            ap (λ (j : ℕ). may_be_handler (thing_at all j)) h ∙ (ap may_be_handler (thing-is p function_at object_at identifiers sound order (first_function p + i) (function_shown p (function_at i) f) there) ∙ may-be i f g (ap is_some q)) in
            and-false (is_some (entry_at all p.roles name_of k)) (not (may_be_handler (thing_at all k))) (ap not may)

    in-below : (n k : ℕ) → In k (numbers_below n) → k < n
    in-below n k h = let r = (in-numbers 0 n k (subst (λ (ks : List ℕ). In k ks) (below-are n) h)).1 in omega (arith, r)

    none-bad : (k : ℕ) → In k (numbers_below (length all)) → is_bad_handler all p.roles name_of k ≡ false
    none-bad k i =
        let many = how-many (text p function_at object_at identifiers sound order) (apart p function_at object_at identifiers sound order) in
        let low = in-below (length all) k i in
        let g = get-inside names k (omega (arith, low, many)) in
        good-by k g.0 g.1 (shown-at p function_at object_at order k g.0 g.1)

    somewhere : (h : List ℕ) → In h p.roles.handlers → is_nowhere all name_of h ≡ false
    somewhere h i =
        let f = handler-function h i in
        let q = get-in (function_part p) h f in
        let r = get-unmap (λ (g : Func). g.name) p.funcs q.0 h q.1 in
        let k = first_function p + q.0 in
        let n = function_shown p (function_at q.0) r.0 in
        let e = function-there p function_at object_at q.0 k r.0 r.1 refl in
        let many = how-many (text p function_at object_at identifiers sound order) (apart p function_at object_at identifiers sound order) in
        let low = within names k n e in
        let a : is_device (thing_at all k) ≡ false = ap is_device (thing-is p function_at object_at identifiers sound order k n e) in
        let b : name_of k ≡ Some h = name-is p function_at object_at identifiers sound order reserved firsts k n e ∙ ap (λ (x : List ℕ). Some x) r.2 in
        let named : is_named all name_of h k ≡ true = ap (λ (c : Bool). not c && is_name h (name_of k)) a ∙ (ap (is_name h) b ∙ itself h) in
        ap not (any-in (is_named all name_of h) (numbers_below (length all)) k (below-in (length all) k (omega (arith, low, many))) named)

    pub no-bad-handler : bad_handler (things (text p function_at object_at identifiers sound order ∷ [])) p.roles name_of ≡ None
    no-bad-handler =
        let a = find-none (is_bad_handler all p.roles name_of) (numbers_below (length all)) none-bad in
        let b = find-none (is_nowhere all name_of) p.roles.handlers somewhere in
        rw (a, b) refl
