-- What sources name may name something, and how many things, structures and locals they have.
use Rattle.std.proofs.Common.{◌≡◌, ◌⊎◌, inl, inr, ◌+◌, ◌<◌, ◌≤◌, ℕ, zero, suc, Bool, true, false, cond, List, [], ◌∷◌, ◌++◌, length, fold, map, Option, Some, None, slice_get, refl, ap, sym, subst, arith, length-append}
use Rattle.std.specs.Prelude.{◌&&◌, codes, filter, not, nat_eq, option_and_then}
use Rattle.std.specs.List.{list_all, list_any}
use Rattle.std.proofs.lemmas.Bool.{and_parts, and_from, ltb-true}
use Rattle.std.proofs.lemmas.List.{length-map}
use Rattle.cc_definitions.specs.Definitions.{thing_at, definition, func_in, function_of}
use Rattle.cc_given_names.specs.Spaces.{is_named}
use Rattle.cc_linked_names.specs.Given.{wish_or, tag_wish, thing_wish, local_wishes, local_wishes_in}
use Rattle.cc_linked_programs.proofs.ThingLists.{found-in}
use Rattle.cc_linked_programs.proofs.ThingSources.{is_mention}
use Rattle.cc_names.specs.Names.{Own}
use Rattle.cc_program.specs.declared.func.Func.{Func}
use Rattle.cc_relocated_units.specs.Units.{may_name, are_few_names, has_few_locals}
use Rattle.cc_structures.proofs.Elements.{In, in-cases, in-map_from}
use Rattle.cc_structures.proofs.OrderLemmas.{in-filter}
use Rattle.cc_structures.specs.Structures.{Known, Numbering, known_in, known_from, structures, tag_of, tag_or, number_of, firsts_of, is_complete, in_program_order, AreNumbered}
use Rattle.cc_structures.specs.View.{units_of}
use Rattle.cc_operands.specs.CcSyntax.Names.{local_names}
use Rattle.cc_operands.specs.CcSyntax.Sound.{have_ids}
use Rattle.cc_operands.specs.CcSyntax.Types.{Named}
use Rattle.cc_things.specs.Mentions.{Mention, mentions}
use Rattle.cc_things.specs.Things.{Identity, same_identity, identity_of, with_identity, identities, is_of, thing_of, things_in, things, Thing, own_name, name_of, is_definition}
use Rattle.cc_things.specs.View.{no_thing}
use Rattle.cc_things.specs.declared.text.Text.{Text}
use Rattle.cc_unit.specs.declared.unit.TypedUnit.{TypedUnit}
use Rattle.cc_unit.specs.declared.unit.UnitKind.{UnitKind}
use Rattle.cc_unit.specs.declared.unit.UnitKind.TheVariants as kind
use Rattle.cc_unit.specs.declared.unit.UnitName.{UnitName}
use Rattle.cc_unit.specs.declared.unit.UnitStructure.{UnitStructure}
use Rattle.cc_program.specs.CcWords.Names.{is_name}
use Rattle.cc_program.specs.CcWords.Words.{word_of}
use Rattle.cc_linked_programs.specs.Few.{EachOfText}
use Rattle.cc_linked_programs.proofs.NameLists.{in-at, at-in, all-at, all-in, all-map}
use Rattle.cc_linked_programs.proofs.NameNumbers.{length-both, length-filter}

text-named : is_name (codes "text") ≡ true
unfolding is_name word_of
text-named = refl

anon-named : is_name (codes "anon") ≡ true
unfolding is_name word_of
anon-named = refl

wished-by : (base : List ℕ) (o : Option (List ℕ)) → is_name base ≡ true → may_name o ≡ true → is_named (wish_or base o) ≡ true
wished-by base None h k = h
wished-by base (Some x) h k = k

own-wished : (ls : List Named) → list_all is_name (local_names ls) ≡ true → list_all is_named (map (λ l. Own l.0) ls) ≡ true
own-wished [] h = refl
own-wished (l ∷ ls) h =
    let p = and_parts (is_name l.0) (list_all is_name (local_names ls)) h in
    and_from (is_name l.0) (list_all is_named (map (λ l. Own l.0) ls)) p.0 (own-wished ls p.1)

few-locals : (k : UnitKind) (f : Func) → func_in k ≡ Some f → has_few_locals k ≡ true → are_few_names f.locals ≡ true
few-locals (kind.Func e (Some g)) f i h = let s : g ≡ f = cc i in subst (λ (x : Func). are_few_names x.locals ≡ true) s h
few-locals (kind.Func e None) f i h = absurd (cc i)
few-locals (kind.Object init) f i h = absurd (cc i)
few-locals (kind.Device d) f i h = absurd (cc i)

-- ---- things

thing-there : (ts : List Thing) (k : ℕ) → In (thing_at ts k) ts ⊎ (thing_at ts k ≡ no_thing)
thing-there [] k = inr refl
thing-there (t ∷ ts) zero = inl (inl refl)
thing-there (t ∷ ts) (suc k) = by (thing-there ts k)
  where
    by : In (thing_at ts k) ts ⊎ (thing_at ts k ≡ no_thing) → In (thing_at ts k) (t ∷ ts) ⊎ (thing_at ts k ≡ no_thing)
    by (inl i) = inl (inr i)
    by (inr e) = inr e

length-with : (found : List Identity) (x : Identity) → length (with_identity found x) ≤ length found + 1
length-with found x = by (list_any (same_identity x) found)
  where
    by : (b : Bool) → length (cond b found (found ++ x ∷ [])) ≤ length found + 1
    by true = omega arith
    by false = let l = length-append found (x ∷ []) in omega (arith, l)

length-found : (found xs : List Identity) → length (fold with_identity found xs) ≤ length found + length xs
length-found found [] = omega arith
length-found found (x ∷ xs) = let l = length-found (with_identity found x) xs in let w = length-with found x in omega (arith, l, w)

length-identities : (ms : List Mention) → length (identities ms) ≤ length ms
unfolding identities
length-identities ms = let l = length-found [] (map identity_of ms) in let m = length-map ms identity_of in omega (arith, l, m)

pub length-things : (texts : List Text) → length (things texts) ≤ length (mentions texts)
unfolding things_in
length-things texts =
    let l = length-identities (mentions texts) in
    let m = length-map (identities (mentions texts)) (thing_of (mentions texts)) in
    omega (arith, l, m)

module _ (texts : List Text) where
  from-thing : (t : Thing) → In t (things texts) → (x : Identity) × (thing_of (mentions texts) x ≡ t)
  unfolding things_in
  from-thing t i = let r = in-map_from (thing_of (mentions texts)) (identities (mentions texts)) t i in (r.0, r.1.1)

  pub known : (k : ℕ) (m : Mention) → In m (thing_at (things texts) k).mentions → In m (mentions texts)
  known k m h = by (thing-there (things texts) k)
    where
      by : In (thing_at (things texts) k) (things texts) ⊎ (thing_at (things texts) k ≡ no_thing) → In m (mentions texts)
      by (inl i) =
          let r = from-thing (thing_at (things texts) k) i in
          in-filter (is_of r.0) (mentions texts) m (subst (λ (t : Thing). In m t.mentions) (sym r.1) h)
      by (inr e) = absurd (subst (λ (t : Thing). In m t.mentions) e h)

  module _ (each : EachOfText texts) where
    may-name : (m : Mention) → In m (mentions texts) → may_name m.name.name ≡ true
    may-name m h = let r = is_mention texts m h in all-at (λ (n : UnitName). may_name n.name) r.text.unit.names m.position m.name (each m.text r.text r.there).names r.named

    has-few : (m : Mention) → In m (mentions texts) → has_few_locals m.name.kind ≡ true
    has-few m h = let r = is_mention texts m h in all-at (λ (n : UnitName). has_few_locals n.kind) r.text.unit.names m.position m.name (each m.text r.text r.there).locals r.named

    thing-wished : (k : ℕ) → is_named (thing_wish (thing_at (things texts) k)) ≡ true
    thing-wished k = wished-by (codes "text") (own_name (thing_at (things texts) k)) text-named (by (slice_get (thing_at (things texts) k).mentions 0) refl)
      where
        by : (o : Option Mention) → slice_get (thing_at (things texts) k).mentions 0 ≡ o → may_name (option_and_then name_of o) ≡ true
        by None e = refl
        by (Some m) e = may-name m (known k m (in-at (thing_at (things texts) k).mentions 0 m e))

    pub things-wished : (ks : List ℕ) → list_all is_named (map (λ k. thing_wish (thing_at (things texts) k)) ks) ≡ true
    things-wished ks = all-map is_named (λ (k : ℕ). thing_wish (thing_at (things texts) k)) ks (λ k i. thing-wished k)

    -- ---- functions

    pub function-few : (k : ℕ) (f : Func) → function_of (thing_at (things texts) k) ≡ Some f → are_few_names f.locals ≡ true
    function-few k f e = by (definition (thing_at (things texts) k)) refl e
      where
        by : (o : Option Mention) → definition (thing_at (things texts) k) ≡ o → option_and_then (λ (m : Mention). func_in m.name.kind) o ≡ Some f → are_few_names f.locals ≡ true
        by None d g = absurd (cc g)
        by (Some m) d g = let r = found-in is_definition (thing_at (things texts) k).mentions m d in few-locals m.name.kind f g (has-few m (known k m r.0))

    pub local-wished : (k : ℕ) → list_all is_named (local_wishes (thing_at (things texts) k)) ≡ true
    local-wished k = by (function_of (thing_at (things texts) k)) refl
      where
        by : (o : Option Func) → function_of (thing_at (things texts) k) ≡ o → list_all is_named (local_wishes_in o) ≡ true
        by None e = refl
        by (Some f) e = own-wished f.locals (and_parts (have_ids (length f.locals)) (list_all is_name (local_names f.locals)) (function-few k f e)).1

    pub local-few : (k : ℕ) → length (local_wishes (thing_at (things texts) k)) < 4294967296
    local-few k = by (function_of (thing_at (things texts) k)) refl
      where
        by : (o : Option Func) → function_of (thing_at (things texts) k) ≡ o → length (local_wishes_in o) < 4294967296
        by None e = omega arith
        by (Some f) e =
            let l = length-map f.locals (λ (l : Named). Own l.0) in
            let n = ltb-true (length f.locals) 4294967296 (and_parts (have_ids (length f.locals)) (list_all is_name (local_names f.locals)) (function-few k f e)).0 in
            omega (arith, l, n)

-- ---- structures

in-known_in : (t i : ℕ) (ss : List UnitStructure) (s : Known) → In s (known_in t i ss) → In s.structure ss
in-known_in t i [] s h = absurd h
in-known_in t i (x ∷ ss) s (inl e) = inl (ap (λ (k : Known). k.structure) e)
in-known_in t i (x ∷ ss) s (inr h) = inr (in-known_in t (suc i) ss s h)

in-known_from : (t : ℕ) (xs : List Text) (s : Known) → In s (known_from t (units_of xs)) → (x : Text) × (In x xs) × (In s.structure x.unit.structures)
in-known_from t [] s h = absurd h
in-known_from t (x ∷ xs) s h = by (in-cases (known_in t 0 x.unit.structures) (known_from (suc t) (units_of xs)) s h) (in-known_from (suc t) xs s)
  where
    by : In s (known_in t 0 x.unit.structures) ⊎ In s (known_from (suc t) (units_of xs)) → (In s (known_from (suc t) (units_of xs)) → (y : Text) × (In y xs) × (In s.structure y.unit.structures)) →
        (y : Text) × (In y (x ∷ xs)) × (In s.structure y.unit.structures)
    by (inl i) rest = (x, inl refl, in-known_in t 0 x.unit.structures s i)
    by (inr j) rest = let r = rest j in (r.0, inr r.1, r.2)

in-structures : (texts : List Text) (s : Known) → In s (structures (units_of texts)) → (x : Text) × (In x texts) × (In s.structure x.unit.structures)
unfolding structures
in-structures texts s h = in-known_from 0 texts s h

may-tag : (a b : Option (List ℕ)) → (may_name a && may_name b) ≡ true → may_name (tag_or a b) ≡ true
may-tag (Some x) b h = (and_parts (is_name x) (may_name b) h).0
may-tag None b h = h

tag-wished : (texts : List Text) → EachOfText texts → (s : Known) → In s (structures (units_of texts)) → is_named (tag_wish s) ≡ true
tag-wished texts each s h =
    let r = in-structures texts s h in
    let a = at-in texts r.0 r.1 in
    wished-by (codes "anon") (tag_of s) anon-named (may-tag s.structure.tag s.structure.alias (all-in (λ (u : UnitStructure). may_name u.tag && may_name u.alias) r.0.unit.structures s.structure (each a.0 r.0 a.1).tags r.2))

in-firsts : (n : Numbering) (ss : List Known) (s : Known) → In s (firsts_of n ss) → In s ss
in-firsts n [] s h = h
in-firsts n (x ∷ ss) s (inl e) = inl e
in-firsts n (x ∷ ss) s (inr h) = inr (in-firsts n ss s (in-filter (λ (t : Known). not (nat_eq (number_of n x) (number_of n t))) (firsts_of n ss) s h))

length-firsts_of : (n : Numbering) (ss : List Known) → length (firsts_of n ss) ≤ length ss
length-firsts_of n [] = omega arith
length-firsts_of n (x ∷ ss) =
    let f = length-filter (λ (t : Known). not (nat_eq (number_of n x) (number_of n t))) (firsts_of n ss) in
    let l = length-firsts_of n ss in
    omega (arith, f, l)

module _ (units : List TypedUnit) (numbering : Numbering) (firsts : List Known) (numbered : AreNumbered units numbering firsts) where
  pub first-known : (s : Known) → In s firsts → In s (structures units)
  first-known s h = by (in-cases (filter (λ s. not (is_complete s)) (structures units)) (filter is_complete (structures units)) s (in-firsts numbering (in_program_order units) s (subst (λ (l : List Known). In s l) numbered.first h)))
    where
      by : In s (filter (λ s. not (is_complete s)) (structures units)) ⊎ In s (filter is_complete (structures units)) → In s (structures units)
      by (inl i) = in-filter (λ s. not (is_complete s)) (structures units) s i
      by (inr i) = in-filter is_complete (structures units) s i

  pub length-firsts : length firsts ≤ length (structures units)
  length-firsts =
      let e = ap (λ (l : List Known). length l) numbered.first in
      let l = length-firsts_of numbering (in_program_order units) in
      let a = length-append (filter (λ s. not (is_complete s)) (structures units)) (filter is_complete (structures units)) in
      let b = length-both is_complete (structures units) in
      omega (arith, e, l, a, b)

pub tags-wished : (texts : List Text) → EachOfText texts → (firsts : List Known) → ((s : Known) → In s firsts → In s (structures (units_of texts))) → list_all is_named (map tag_wish firsts) ≡ true
tags-wished texts each firsts inside = all-map is_named tag_wish firsts (λ s i. tag-wished texts each s (inside s i))
