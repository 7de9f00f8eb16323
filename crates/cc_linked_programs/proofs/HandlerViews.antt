-- Where no handler is a bad one, what is used is no handler; and functions stand at their positions with the names of their locals.
use Rattle.std.proofs.Common.{◌≡◌, ◌∙◌, ◌⊎◌, inl, inr, ◌<◌, ◌≤◌, ℕ, zero, suc, Bool, true, false, true≢false, not, ◌&&◌, ◌||◌, List, [], ◌∷◌, ◌++◌, length, get_or, fold, Option, Some, None, is_some, option_map, slice_get, refl, ap, sym, subst, arith}
use Rattle.std.specs.Prelude.{option_and_then, find}
use Rattle.std.proofs.lemmas.Bool.{cases_lt}
use Rattle.std.proofs.Math.ListN.{get_or-eq_default}
use Rattle.std.specs.Option.{option_or}
use Rattle.cc_causes.specs.Causes.{handler_name, bad_handler}
use Rattle.cc_causes.specs.Entries.{entry_at, entry_by, is_bad_handler, is_listed, is_in_roles, is_nowhere}
use Rattle.cc_definitions.specs.Definitions.{thing_at, definition, func_in, function_of, numbers_below}
use Rattle.cc_definitions.specs.Handlers.{entry_given, entry_in, has_handler_type, is_named_main, may_be_handler}
use Rattle.cc_link.specs.Linked.{ids_in, func_by}
use Rattle.cc_linked_names.specs.Given.{local_wishes, locals_for}
use Rattle.cc_linked_programs.proofs.Agreeing.{first_none, first_of, from_identity, mention_in, own_first, external_identity, single_identity}
use Rattle.cc_linked_programs.proofs.ThingLists.{found-in, not-found, below-in}
use Rattle.cc_linked_programs.proofs.ThingSources.{one_mention, its_thing, number_of, number_within}
use Rattle.cc_linked_programs.proofs.Defined.{sound_mention, each_named, numbered_identity}
use Rattle.cc_names.specs.Names.{names_for}
use Rattle.cc_program.specs.CcNum.declared.target.Target.{Target}
use Rattle.cc_program.specs.declared.func.Entry.{Entry}
use Rattle.cc_program.specs.declared.func.Entry.TheVariants as entry
use Rattle.cc_program.specs.declared.func.Func.{Func}
use Rattle.cc_program.specs.declared.program.Roles.{Roles}
use Rattle.cc_relocation.specs.Relocated.{func_with}
use Rattle.cc_relocated_units.specs.Units.{unit_view, IsSoundUnit, IsSoundKind}
use Rattle.cc_structures.proofs.Elements.{In, in-at}
use Rattle.cc_things.specs.Mentions.{Mention, mentions}
use Rattle.cc_things.specs.Things.{Identity, External, Numbered, Single, Thing, identity_of, thing_of, things, own_name, name_of as mention_name, is_defined, is_used, is_device, is_func_kind}
use Rattle.cc_things.specs.View.{no_thing}
use Rattle.cc_things.specs.declared.text.Text.{Text}
use Rattle.cc_unit.specs.Entries.{both_entries}
use Rattle.cc_unit.specs.declared.ids.Ids.{Ids}
use Rattle.cc_unit.specs.declared.unit.UnitKind.{UnitKind}
use Rattle.cc_unit.specs.declared.unit.UnitKind.TheVariants as kind
use Rattle.cc_unit.specs.declared.unit.UnitName.{UnitName}

-- ---- functions with the names of their locals

module _ (ts : List Thing) (reserved outer : List (List ℕ)) where
  pub local_at : (given : List (List ℕ)) (ks : List ℕ) (i k : ℕ) → slice_get ks i ≡ Some k → (xs : List (List ℕ)) × (slice_get (locals_for ts reserved outer given ks) i ≡ Some (k, xs))
  unfolding locals_for
  local_at given [] i k e = absurd (cc)
  local_at given (j ∷ ks) zero k e =
      let xs = names_for reserved given outer (local_wishes (thing_at ts j)) in
      let s : j ≡ k = cc e in
      (xs, ap (λ (n : ℕ). Some (n, xs)) s)
  local_at given (j ∷ ks) (suc i) k e = local_at (given ++ names_for reserved given outer (local_wishes (thing_at ts j))) ks i k e

  pub local_in : (given : List (List ℕ)) (ks : List ℕ) (f : ℕ × List (List ℕ)) → In f (locals_for ts reserved outer given ks) → In f.0 ks
  unfolding locals_for
  local_in given [] f h = absurd h
  local_in given (j ∷ ks) f (inl e) = inl (ap (λ (g : ℕ × List (List ℕ)). g.0) e)
  local_in given (j ∷ ks) f (inr i) = inr (local_in (given ++ names_for reserved given outer (local_wishes (thing_at ts j))) ks f i)

pub func_is : (ids : List Ids) (name : List ℕ) (names : List (List ℕ)) (e : Option Entry) (t : Thing) (d : Mention) (g : Func) → definition t ≡ Some d → func_in d.name.kind ≡ Some g →
    func_by ids name names e t ≡ Some (func_with name names e (ids_in ids d.text) g)
func_is ids name names e t d g is has =
    ap (λ (o : Option Mention). option_and_then (λ (m : Mention). option_map (func_with name names e (ids_in ids m.text)) (function_of t)) o) is
    ∙ ap (option_map (func_with name names e (ids_in ids d.text))) (ap (λ (o : Option Mention). option_and_then (λ (m : Mention). func_in m.name.kind) o) is ∙ has)

-- ---- entries

abbrev no_entry : Option Entry
no_entry = None

some_entry : (e : Option Entry) → is_some (both_entries e None) ≡ true → is_some e ≡ true
some_entry None h = h
some_entry (Some entry.Signal) h = refl
some_entry (Some entry.Interrupt) h = refl
some_entry (Some entry.Listed) h = refl

entry_from : (ms : List Mention) (e : Option Entry) → is_some (fold (λ (e : Option Entry) (m : Mention). both_entries e (entry_in m.name.kind)) e ms) ≡ true → (is_some e ≡ true) ⊎ ((k : Mention) × In k ms × (is_func_kind k.name.kind ≡ true))
entry_from [] e h = inl h
entry_from (m ∷ ms) e h = by (entry_from ms (both_entries e (entry_in m.name.kind)) h)
  where
    cases : (k : UnitKind) → m.name.kind ≡ k → is_some (both_entries e (entry_in k)) ≡ true → (is_some e ≡ true) ⊎ ((k : Mention) × In k (m ∷ ms) × (is_func_kind k.name.kind ≡ true))
    cases (kind.Func x f) q s = inr (m, inl refl, ap is_func_kind q)
    cases (kind.Object init) q s = inl (some_entry e s)
    cases (kind.Device d) q s = inl (some_entry e s)

    by : (is_some (both_entries e (entry_in m.name.kind)) ≡ true) ⊎ ((k : Mention) × In k ms × (is_func_kind k.name.kind ≡ true)) → (is_some e ≡ true) ⊎ ((k : Mention) × In k (m ∷ ms) × (is_func_kind k.name.kind ≡ true))
    by (inl s) = cases m.name.kind refl s
    by (inr k) = inr (k.0, inr k.1, k.2)

module _ (texts : List Text) (target : Target) (sound : (t : ℕ) (x : Text) → slice_get texts t ≡ Some x → IsSoundUnit target x.unit) where
  abbrev ts : List Thing
  ts = things texts

  abbrev thing : Mention → Thing
  thing m = thing_of (mentions texts) (identity_of m)

  within_by : (k : ℕ) (test : Thing → Bool) → test no_thing ≡ false → test (thing_at ts k) ≡ true → k < length ts
  within_by k test n e = by (cases_lt k (length ts))
    where
      by : (k < length ts) ⊎ (length ts ≤ k) → k < length ts
      by (inl low) = low
      by (inr high) = absurd (true≢false (sym e ∙ (ap test (get_or-eq_default ts no_thing high) ∙ n)))

  thing_there : (k : ℕ) → k < length ts → In (thing_at ts k) ts
  thing_there k h = in-at ts k (thing_at ts k) h (own ts k h)
    where
      own : (xs : List Thing) (k : ℕ) → k < length xs → get_or xs k (get_or xs k no_thing) ≡ get_or xs k no_thing
      own [] k h = absurd (omega (arith, h))
      own (x ∷ xs) zero h = refl
      own (x ∷ xs) (suc k) h = own xs k (omega (arith, h))

  -- a thing that is a function somewhere has a name
  func_named : (x : Identity) (k : Mention) → In k (thing_of (mentions texts) x).mentions → is_func_kind k.name.kind ≡ true → is_some (own_name (thing_of (mentions texts) x)) ≡ true
  func_named x k i f =
      let j = mention_in texts (each_named texts target sound) x k i in
      let g = first_of texts (each_named texts target sound) (thing_of (mentions texts) x).mentions k i in
      let h = mention_in texts (each_named texts target sound) x g.0 g.2 in
      by g.0 g.1 h.0 (h.1 ∙ sym j.1) j.0 (identity_of k) refl (name_there j.0)
    where
      name_there : In k (mentions texts) → is_some k.name.name ≡ true
      name_there h = cases k.name.kind refl (sound_mention texts target sound k h).name
        where
          cases : (q : UnitKind) → k.name.kind ≡ q → IsSoundKind (unit_view target (sound_mention texts target sound k h).text.unit) k.name q → is_some k.name.name ≡ true
          cases (kind.Func e b) q s = s.named
          cases (kind.Object init) q s = absurd (true≢false (sym f ∙ ap is_func_kind q))
          cases (kind.Device d) q s = absurd (true≢false (sym f ∙ ap is_func_kind q))

      by : (g : Mention) → slice_get (thing_of (mentions texts) x).mentions 0 ≡ Some g → In g (mentions texts) → identity_of g ≡ identity_of k → In k (mentions texts) → (y : Identity) → identity_of k ≡ y → is_some k.name.name ≡ true →
          is_some (own_name (thing_of (mentions texts) x)) ≡ true
      by g e hg same hk (External y) q n = own_first texts (each_named texts target sound) x g y e (external_identity g y (same ∙ q)).1
      by g e hg same hk (Numbered a b c) q n = let r = numbered_identity k a b c q in absurd (true≢false (sym f ∙ ap is_func_kind r.1))
      by g e hg same hk (Single a b) q n =
          let s = single_identity g a b (same ∙ q) in
          let r = single_identity k a b q in
          let one : g.name ≡ k.name = one_mention texts g k hg hk (s.0 ∙ sym r.0) (s.1 ∙ sym r.1) in
          ap (λ (o : Option Mention). is_some (option_and_then mention_name o)) e ∙ (ap (λ (u : UnitName). is_some u.name) one ∙ n)

  module _ (roles : Roles) (name_of : ℕ → Option (List ℕ)) (none_bad : bad_handler ts roles name_of ≡ None) where
    handler_named : (j : ℕ) → In j (numbers_below (length ts)) → is_some (entry_at ts roles name_of j) ≡ true → is_some (handler_name ts name_of j) ≡ true
    handler_named j i e = by (name_of j) refl
      where
        given : (o : Option Entry) (b : Bool) → b ≡ false → is_some (entry_by o b) ≡ true → is_some o ≡ true
        given (Some x) b h k = refl
        given None true h k = absurd (true≢false h)
        given None false h k = k

        unlisted : (a : Bool) (o : Option (List ℕ)) → o ≡ None → a && is_in_roles roles o ≡ false
        unlisted true o h = ap (is_in_roles roles) h
        unlisted false o h = refl

        has : is_some (entry_given (thing_at ts j)) ≡ true → is_some (own_name (thing_at ts j)) ≡ true
        has h =
            let w = within_by j (λ (t : Thing). is_some (entry_given t)) refl h in
            let x = from_identity texts (each_named texts target sound) (thing_at ts j) (thing_there j w) in
            cases x.0 x.1 (entry_from (thing_at ts j).mentions no_entry h)
          where
            cases : (x : Identity) → thing_of (mentions texts) x ≡ thing_at ts j → (is_some no_entry ≡ true) ⊎ ((k : Mention) × In k (thing_at ts j).mentions × (is_func_kind k.name.kind ≡ true)) → is_some (own_name (thing_at ts j)) ≡ true
            cases x s (inl n) = absurd (true≢false (sym n))
            cases x s (inr k) = subst (λ (t : Thing). is_some (own_name t) ≡ true) s (func_named x k.0 (subst (λ (t : Thing). In k.0 t.mentions) (sym s) k.1) k.2)

        by : (o : Option (List ℕ)) → name_of j ≡ o → is_some (handler_name ts name_of j) ≡ true
        by (Some y) q = ap (λ (o : Option (List ℕ)). is_some (option_or o (own_name (thing_at ts j)))) q
        by None q =
            ap (λ (o : Option (List ℕ)). is_some (option_or o (own_name (thing_at ts j)))) q
            ∙ has (given (entry_given (thing_at ts j)) (is_listed ts roles name_of j) (unlisted (not (is_device (thing_at ts j))) (name_of j) q) e)

    pub not_bad : (k : ℕ) → k < length ts → is_bad_handler ts roles name_of k ≡ false
    not_bad k h = by (find (is_bad_handler ts roles name_of) (numbers_below (length ts))) refl (first_none (option_and_then (handler_name ts name_of) (find (is_bad_handler ts roles name_of) (numbers_below (length ts)))) (find (is_nowhere ts name_of) roles.handlers) none_bad)
      where
        first : (a b : Bool) → a && b ≡ true → a ≡ true
        first true b h = refl
        first false b h = absurd (true≢false (sym h))

        nameless : (o : Option (List ℕ)) → o ≡ None → is_some o ≡ true → ⊥
        nameless o e h = true≢false (sym h ∙ ap is_some e)

        by : (o : Option ℕ) → find (is_bad_handler ts roles name_of) (numbers_below (length ts)) ≡ o → option_and_then (handler_name ts name_of) o ≡ None → is_bad_handler ts roles name_of k ≡ false
        by None f g = not-found (is_bad_handler ts roles name_of) (numbers_below (length ts)) k f (below-in (length ts) k h)
        by (Some j) f g =
            let r = found-in (is_bad_handler ts roles name_of) (numbers_below (length ts)) j f in
            absurd (nameless (handler_name ts name_of j) g (handler_named j r.0 (first (is_some (entry_at ts roles name_of j)) (not (may_be_handler (thing_at ts j))) r.1)))

    -- what is used is no handler
    pub no_handler : (m : Mention) → In m (mentions texts) → is_used (thing m) ≡ true → entry_at ts roles name_of (number_of texts m) ≡ None
    no_handler m h u = by (entry_at ts roles name_of (number_of texts m)) refl
      where
        used : is_used (thing_at ts (number_of texts m)) ≡ true
        used = ap is_used (its_thing texts m h) ∙ u

        none_may : (a b c d : Bool) → d ≡ true → a && b && not (c || d) ≡ false
        none_may a b c d e = rw e (by a b c)
          where
            by : (a b c : Bool) → a && b && not (c || true) ≡ false
            by true true true = refl
            by true true false = refl
            by true false c = refl
            by false b c = refl

        by : (o : Option Entry) → entry_at ts roles name_of (number_of texts m) ≡ o → entry_at ts roles name_of (number_of texts m) ≡ None
        by None q = q
        by (Some x) q =
            let t = thing_at ts (number_of texts m) in
            let may : may_be_handler t ≡ false = none_may (is_defined t) (has_handler_type t) (is_named_main t) (is_used t) used in
            let bad : is_bad_handler ts roles name_of (number_of texts m) ≡ true = ap (λ (o : Option Entry). is_some o && not (may_be_handler t)) q ∙ ap not may in
            absurd (true≢false (sym bad ∙ not_bad (number_of texts m) (number_within texts m h)))
