-- Mentions of things: no two stand at one place; and where no cause stands against sources whose names fit, nothing is defined twice.
use Rattle.std.proofs.Common.{◌≡◌, ◌∙◌, ◌⊎◌, inl, inr, ◌+◌, ◌<◌, ◌≤◌, ℕ, suc, Bool, true, false, true≢false, cond, not, ◌||◌, List, [], ◌∷◌, ◌++◌, filter, Option, Some, None, is_some, slice_get, refl, ap, sym, subst, arith}
use Rattle.std.specs.Prelude.{find, nat_lt, option_and_then, option_map, sum_by}
use Rattle.std.proofs.lemmas.Bool.{lt-ltb, ltb-true, cases_lt}
use Rattle.std.proofs.lemmas.List.Sums.{sum_by-cons}
use Rattle.cc_causes.specs.Causes.{cause_of_things, first_named, is_twice, types_differ}
use Rattle.cc_causes.specs.declared.fault.LinkFault.TheVariants as fault
use Rattle.cc_definitions.specs.Definitions.{definition}
use Rattle.cc_linked_programs.proofs.Agreeing.{external_identity, first_none, from_identity, mention_in, own_first, second_none, single_identity, there}
use Rattle.cc_linked_programs.proofs.Defined.{numbered_identity}
use Rattle.cc_linked_programs.proofs.ThingLists.{found-in, not-found}
use Rattle.cc_linked_programs.proofs.ThingSources.{in_thing, is_mention, one_mention}
use Rattle.cc_linked_programs.specs.NamedThings.{IsNamed}
use Rattle.cc_read_accessed.specs.Accessed.{FitsKind, IsFit, IsFitDevice}
use Rattle.cc_structures.proofs.Elements.{In, in-cases}
use Rattle.cc_structures.proofs.OrderLemmas.{in-filter}
use Rattle.cc_structures.specs.Structures.{Numbering}
use Rattle.cc_things.specs.Mentions.{Mention, mentions, mentions_from, mentions_in, mentions_of}
use Rattle.cc_things.specs.Things.{Identity, External, Numbered, Single, Thing, identity_of, is_definition, is_device_kind, is_of, own_name, thing_of, things}
use Rattle.cc_things.specs.declared.text.Text.{Text}
use Rattle.cc_type.specs.CcUnit.Mentioned.{mentioned}
use Rattle.cc_type.specs.CcUnit.declared.unit.UnitKind.{UnitKind}
use Rattle.cc_type.specs.CcUnit.declared.unit.UnitKind.TheVariants as kind
use Rattle.cc_type.specs.CcUnit.declared.unit.UnitName.{UnitName}

-- ---- no two mentions stand at one place

abbrev IsPlace : Mention → Mention → Type 0
IsPlace m k = (m.text ≡ k.text) × (m.position ≡ k.position)

abbrev pub AreApart : List Mention → Type 0
AreApart [] = Unit {0}
AreApart (m ∷ ms) = ((k : Mention) → In k ms → IsPlace m k → ⊥) × AreApart ms

record IsBehind (text i : ℕ) (m : Mention) : Type 0 where
  source : m.text ≡ text
  low : i ≤ m.position

behind : (text : ℕ) (numbers : List ℕ) (i : ℕ) (ns : List UnitName) (m : Mention) → In m (mentions_in text numbers i ns) → IsBehind text i m
behind text numbers i [] m h = absurd h
behind text numbers i (n ∷ ns) m (inl e) =
    let p = ap (λ (k : Mention). k.position) e in
    record { source = sym (ap (λ (k : Mention). k.text) e); low = omega (arith, p) }
behind text numbers i (n ∷ ns) m (inr h) = let r = behind text numbers (suc i) ns m h in let l = r.low in record { source = r.source; low = omega (arith, l) }

apart_in : (text : ℕ) (numbers : List ℕ) (i : ℕ) (ns : List UnitName) → AreApart (mentions_in text numbers i ns)
apart_in text numbers i [] = tt
apart_in text numbers i (n ∷ ns) = (λ k h e. let l = (behind text numbers (suc i) ns k h).low in let p = e.1 in absurd (omega (arith, l, p)), apart_in text numbers (suc i) ns)

from_source : (from : ℕ) (texts : List Text) (m : Mention) → In m (mentions_from from texts) → from ≤ m.text
from_source from [] m h = absurd h
from_source from (x ∷ texts) m h = by (in-cases (mentions_of from x) (mentions_from (suc from) texts) m h) (from_source (suc from) texts m)
  where
    by : In m (mentions_of from x) ⊎ In m (mentions_from (suc from) texts) → (In m (mentions_from (suc from) texts) → suc from ≤ m.text) → from ≤ m.text
    by (inl i) rest = let s = (behind from (mentioned x.unit.names) 0 x.unit.names m i).source in omega (arith, s)
    by (inr i) rest = let l = rest i in omega (arith, l)

apart_both : (xs ys : List Mention) → AreApart xs → AreApart ys → ((m k : Mention) → In m xs → In k ys → IsPlace m k → ⊥) → AreApart (xs ++ ys)
apart_both [] ys a b f = b
apart_both (x ∷ xs) ys a b f = (λ k h e. by k (in-cases xs ys k h) e, apart_both xs ys a.1 b (λ m k i j e. f m k (inr i) j e))
  where
    by : (k : Mention) → In k xs ⊎ In k ys → IsPlace x k → ⊥
    by k (inl i) e = a.0 k i e
    by k (inr j) e = f x k (inl refl) j e

apart_from : (from : ℕ) (texts : List Text) → AreApart (mentions_from from texts)
apart_from from [] = tt
apart_from from (x ∷ texts) =
    apart_both (mentions_of from x) (mentions_from (suc from) texts) (apart_in from (mentioned x.unit.names) 0 x.unit.names) (apart_from (suc from) texts)
    (λ m k i j e.
    let s = (behind from (mentioned x.unit.names) 0 x.unit.names m i).source in
    let l = from_source (suc from) texts k j in
    let p = e.0 in
    absurd (omega (arith, s, l, p)))

apart_filter : (p : Mention → Bool) (ms : List Mention) → AreApart ms → AreApart (filter p ms)
apart_filter p [] a = tt
apart_filter p (m ∷ ms) a = by (p m) (apart_filter p ms a.1)
  where
    by : (b : Bool) → AreApart (filter p ms) → AreApart (cond b (m ∷ filter p ms) (filter p ms))
    by true rest = (λ k i e. a.0 k (in-filter p ms k i) e, rest)
    by false rest = rest

pub thing_apart : (texts : List Text) (x : Identity) → AreApart (thing_of (mentions texts) x).mentions
unfolding mentions
thing_apart texts x = apart_filter (is_of x) (mentions_from 0 texts) (apart_from 0 texts)

-- ---- how often things are defined

abbrev count : Mention → ℕ
count m = m.name.count

counted_in : (ms : List Mention) (m : Mention) → In m ms → m.name.count ≤ sum_by count ms
counted_in [] m h = absurd h
counted_in (k ∷ ms) m (inl e) = let c = sum_by-cons count k ms in let s = ap count e in omega (arith, c, s)
counted_in (k ∷ ms) m (inr h) = let c = sum_by-cons count k ms in let r = counted_in ms m h in omega (arith, c, r)

none_counted : (ms : List Mention) → ((m : Mention) → In m ms → m.name.count ≡ 0) → sum_by count ms ≡ 0
none_counted [] f = refl
none_counted (m ∷ ms) f = let c = sum_by-cons count m ms in let h = f m (inl refl) in let r = none_counted ms (λ k i. f k (inr i)) in omega (arith, c, h, r)

-- at one place there is one
one_counted : (ms : List Mention) → AreApart ms → ((m k : Mention) → In m ms → In k ms → IsPlace m k) → ((m : Mention) → In m ms → m.name.count ≤ 1) → sum_by count ms ≤ 1
one_counted [] a f g = omega arith
one_counted (m ∷ []) a f g = let c = sum_by-cons count m [] in let z : sum_by count [] ≡ 0 = refl in let h = g m (inl refl) in omega (arith, c, h, z)
one_counted (m ∷ k ∷ ms) a f g = absurd (a.0 k (inl refl) (f m k (inl refl) (inr (inl refl))))

-- what is defined once is defined by that mention
pub found_one : (ms : List Mention) (m : Mention) → In m ms → is_definition m ≡ true → sum_by count ms ≤ 1 → find is_definition ms ≡ Some m
found_one [] m h d l = absurd h
found_one (k ∷ ms) m h d l = by (is_definition k) refl h (found_one ms m)
  where
    by : (b : Bool) → is_definition k ≡ b → In m (k ∷ ms) → (In m ms → is_definition m ≡ true → sum_by count ms ≤ 1 → find is_definition ms ≡ Some m) → cond b (Some k) (find is_definition ms) ≡ Some m
    by true e (inl s) rest = ap Some s
    by true e (inr i) rest =
        let c = sum_by-cons count k ms in
        let r = counted_in ms m i in
        let p = ltb-true 0 k.name.count e in
        let q = ltb-true 0 m.name.count d in
        absurd (omega (arith, c, r, p, q, l))
    by false e (inl s) rest = absurd (true≢false (sym d ∙ (sym (ap is_definition s) ∙ e)))
    by false e (inr i) rest = let c = sum_by-cons count k ms in rest i d (omega (arith, c, l))

below_two : (n : ℕ) → nat_lt 1 n ≡ false → n ≤ 1
below_two n h = by (cases_lt 1 n)
  where
    by : (1 < n) ⊎ (n ≤ 1) → n ≤ 1
    by (inl l) = absurd (true≢false (sym (lt-ltb 1 n l) ∙ h))
    by (inr l) = l

no_more : (n : ℕ) → nat_lt 0 n ≡ false → n ≡ 0
no_more n h = by (cases_lt 0 n)
  where
    by : (0 < n) ⊎ (n ≤ 0) → n ≡ 0
    by (inl l) = absurd (true≢false (sym (lt-ltb 0 n l) ∙ h))
    by (inr l) = omega (arith, l)

one_is : {A : Type 0} (a b : A) → Some a ≡ Some b → a ≡ b
one_is a b h = cc

unmapped : {A B : Type 0} (f : A → B) (o : Option A) → option_map f o ≡ None → o ≡ None
unmapped f None e = refl
unmapped f (Some x) e = absurd (cc e)

none_named : (holds : Thing → Bool) (ts : List Thing) → ((t : Thing) → In t ts → holds t ≡ true → is_some (own_name t) ≡ true) → first_named holds ts ≡ None → (t : Thing) → In t ts → holds t ≡ false
none_named holds ts named e t i = by (find holds ts) refl e
  where
    nameless : (o : Option (List ℕ)) → o ≡ None → is_some o ≡ true → ⊥
    nameless o e h = true≢false (sym h ∙ ap is_some e)

    by : (o : Option Thing) → find holds ts ≡ o → option_and_then own_name o ≡ None → holds t ≡ false
    by None f g = not-found holds ts t f i
    by (Some u) f g = let r = found-in holds ts u f in absurd (nameless (own_name u) g (named u r.0 r.1))

module _ (texts : List Text) (fit : (t : ℕ) (x : Text) (i : ℕ) (n : UnitName) → slice_get texts t ≡ Some x → slice_get x.unit.names i ≡ Some n → IsFit n) where
  pub fits : (m : Mention) → In m (mentions texts) → IsFit m.name
  fits m h = let r = is_mention texts m h in fit m.text r.text m.position m.name r.there r.named

  either_by : (a b : Bool) → a ≡ not b → a || b ≡ true
  either_by true b e = refl
  either_by false true e = refl
  either_by false false e = absurd (true≢false (sym e))

  pub named : (m : Mention) → In m (mentions texts) → IsNamed m
  named m h = let f = fits m h in record { external = f.external; nameless = λ n. either_by (nat_lt 0 m.name.count) (is_device_kind m.name.kind) (f.nameless n) }

  -- ---- what has no name is not defined twice

  abbrev of : Identity → Thing
  of x = thing_of (mentions texts) x

  device_fits : (m : Mention) (k : UnitKind) → m.name.kind ≡ k → FitsKind m.name m.name.kind → FitsKind m.name k
  device_fits m k e f = subst (FitsKind m.name) e f

  -- a device without a name is defined nowhere
  numbered_none : (x : Identity) (n i : ℕ) (c : Bool) → x ≡ Numbered n i c → (m : Mention) → In m (of x).mentions → m.name.count ≡ 0
  numbered_none x n i c e m h =
      let k = mention_in texts named x m h in
      let d = numbered_identity m n i c (k.1 ∙ e) in
      let f = fits m k.0 in
      let device : IsFitDevice m.name d.0 = device_fits m (kind.Device d.0) d.1 f.kind in
      no_more m.name.count (f.nameless (ap is_some (sym device.named ∙ d.2)) ∙ ap (λ (q : UnitKind). not (is_device_kind q)) d.1)

  single_place : (x : Identity) (a b : ℕ) → x ≡ Single a b → (m k : Mention) → In m (of x).mentions → In k (of x).mentions → IsPlace m k
  single_place x a b e m k h i =
      let p = single_identity m a b ((mention_in texts named x m h).1 ∙ e) in
      let q = single_identity k a b ((mention_in texts named x k i).1 ∙ e) in
      (p.0 ∙ sym q.0, p.1 ∙ sym q.1)

  nameless_once : (x : Identity) (f : Mention) → In f (of x).mentions → is_some f.name.name ≡ false → sum_by count (of x).mentions ≤ 1
  nameless_once x f h n = by x refl
    where
      g : In f (mentions texts) × (identity_of f ≡ x)
      g = mention_in texts named x f h

      single : (a b : ℕ) → x ≡ Single a b → (m : Mention) → In m (of x).mentions → m.name.count ≤ 1
      single a b e m i =
          let k = mention_in texts named x m i in
          let p = single_place x a b e f m h i in
          let same : f.name ≡ m.name = one_mention texts f m g.0 k.0 p.0 p.1 in
          below_two m.name.count ((fits m k.0).once (ap (λ (z : UnitName). is_some z.name) (sym same) ∙ n))

      by : (y : Identity) → x ≡ y → sum_by count (of x).mentions ≤ 1
      by (External y) e = absurd (true≢false (sym (ap is_some (external_identity f y (g.1 ∙ e)).1) ∙ n))
      by (Numbered a i c) e = let z = none_counted (of x).mentions (numbered_none x a i c e) in omega (arith, z)
      by (Single a b) e = one_counted (of x).mentions (thing_apart texts x) (single_place x a b e) (single a b e)

  twice_named : (x : Identity) → is_twice (of x) ≡ true → is_some (own_name (of x)) ≡ true
  twice_named x h = by (of x).mentions refl
    where
      low : 1 < sum_by count (of x).mentions
      low = ltb-true 1 (sum_by count (of x).mentions) h

      by_name : (f : Mention) → slice_get (of x).mentions 0 ≡ Some f → In f (of x).mentions → (o : Option (List ℕ)) → f.name.name ≡ o → is_some (own_name (of x)) ≡ true
      by_name f e i (Some y) n = own_first texts named x f y e n
      by_name f e i None n = let l = nameless_once x f i (ap is_some n) in let q = low in absurd (omega (arith, l, q))

      by : (ms : List Mention) → (of x).mentions ≡ ms → is_some (own_name (of x)) ≡ true
      by [] e = let l = low in let z : sum_by count (of x).mentions ≡ 0 = ap (sum_by count) e in absurd (omega (arith, l, z))
      by (f ∷ ms) e = by_name f (ap (λ (l : List Mention). slice_get l 0) e) (subst (λ (l : List Mention). In f l) (sym e) (inl refl)) f.name.name refl

  -- ---- nothing is defined twice

  module _ (numbering : Numbering) (none : cause_of_things numbering (things texts) ≡ None) where
    no_twice : (m : Mention) → In m (mentions texts) → is_twice (of (identity_of m)) ≡ false
    no_twice m h =
        none_named is_twice (things texts) twice
        (unmapped fault.Twice (first_named is_twice (things texts)) (first_none (option_map fault.Twice (first_named is_twice (things texts))) _ (second_none (option_map fault.TypesDiffer (first_named (types_differ numbering) (things texts))) _ none)))
        (of (identity_of m)) (there texts named m h)
      where
        twice : (t : Thing) → In t (things texts) → is_twice t ≡ true → is_some (own_name t) ≡ true
        twice t i k = let r = from_identity texts named t i in subst (λ (u : Thing). is_some (own_name u) ≡ true) r.1 (twice_named r.0 (subst (λ (u : Thing). is_twice u ≡ true) (sym r.1) k))

    once : (m : Mention) → In m (mentions texts) → sum_by count (of (identity_of m)).mentions ≤ 1
    once m h = below_two (sum_by count (of (identity_of m)).mentions) (no_twice m h)

    pub not_twice : (m : Mention) → In m (mentions texts) → nat_lt 1 m.name.count ≡ true → ⊥
    not_twice m h t =
        let l = once m h in
        let c = counted_in (of (identity_of m)).mentions m (in_thing texts m m h refl) in
        let p = ltb-true 1 m.name.count t in
        omega (arith, l, c, p)

    -- a definition is the one of its thing
    pub its_definition : (m : Mention) → In m (mentions texts) → is_definition m ≡ true → definition (of (identity_of m)) ≡ Some m
    its_definition m h d = found_one (of (identity_of m)).mentions m (in_thing texts m m h refl) d (once m h)
