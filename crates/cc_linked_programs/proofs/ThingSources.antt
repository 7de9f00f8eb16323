-- The names of a source are mentions, each of its thing; and their ids are those of their things.
use Rattle.std.proofs.Common.{◌≡◌, ◌∙◌, ◌⊎◌, inl, inr, ◌+◌, ◌<◌, ℕ, zero, suc, Bool, true, false, cond, List, [], ◌∷◌, length, get_or, map, Some, slice_get, filter, refl, ap, sym, subst, arith}
use Rattle.std.specs.Prelude.{nat_eq}
use Rattle.std.specs.List.{list_any}
use Rattle.std.proofs.lemmas.List.{length-map}
use Rattle.cc_definitions.specs.Definitions.{thing_at}
use Rattle.cc_link.specs.Linked.{ids_from, ids_in, id_of_mention, all_ids, id_at, no_ids}
use Rattle.cc_structures.specs.Structures.{Numbering, numbers_of}
use Rattle.cc_structures.proofs.ClassLemmas.{position-within}
use Rattle.cc_structures.proofs.Elements.{In, in-left, in-right, in-cases}
use Rattle.cc_structures.proofs.OrderLemmas.{in-filter, filter-in}
use Rattle.cc_things.specs.Mentions.{Mention, mentions_in, mentions_of, mentions_from, mentions}
use Rattle.cc_things.specs.Things.{Identity, same_identity, identity_of, identities, thing_of, things_in, things, number_in, is_of}
use Rattle.cc_things.specs.View.{no_thing}
use Rattle.cc_things.specs.declared.text.Text.{Text}
use Rattle.cc_things.proofs.Groups.{covered-keys, Covered, its_group}
use Rattle.cc_things.proofs.SameIdentity.{same_identity-self, same_identity-equal}
use Rattle.cc_unit.specs.Mentioned.{mentioned}
use Rattle.cc_unit.specs.declared.ids.Ids.{Ids}
use Rattle.cc_unit.specs.declared.unit.UnitName.{UnitName}
use Rattle.cc_linked_programs.specs.NamedThings.{mention_of}

-- ---- a name of a source as a mention

abbrev pub mention : ℕ → List ℕ → ℕ → UnitName → Mention
mention text numbers i n = record { text = text; position = i; used = list_any (nat_eq i) numbers; name = n }

mentioned_at : (text : ℕ) (numbers : List ℕ) (from i : ℕ) (ns : List UnitName) (n : UnitName) → slice_get ns i ≡ Some n → slice_get (mentions_in text numbers from ns) i ≡ Some (mention text numbers (from + i) n)
mentioned_at text numbers from i [] n e = absurd (cc)
mentioned_at text numbers from zero (x ∷ ns) n e =
    let s : x ≡ n = cc e in
    let z : from ≡ from + 0 = omega arith in
    ap (λ (y : UnitName). Some (mention text numbers from y)) s ∙ ap (λ (k : ℕ). Some (mention text numbers k n)) z
mentioned_at text numbers from (suc i) (x ∷ ns) n e =
    let z : suc from + i ≡ from + suc i = omega arith in
    mentioned_at text numbers (suc from) i ns n e ∙ ap (λ (k : ℕ). Some (mention text numbers k n)) z

in_at : {X : Type 0} (xs : List X) (i : ℕ) (x : X) → slice_get xs i ≡ Some x → In x xs
in_at [] i x e = absurd (cc)
in_at (y ∷ ys) zero x e = inl (cc e)
in_at (y ∷ ys) (suc i) x e = inr (in_at ys i x e)

mention_from : (from : ℕ) (texts : List Text) (t : ℕ) (x : Text) (m : Mention) → slice_get texts t ≡ Some x → In m (mentions_of (from + t) x) → In m (mentions_from from texts)
mention_from from [] t x m e h = absurd (cc)
mention_from from (y ∷ texts) zero x m e h =
    let s : y ≡ x = cc e in
    let z : from + 0 ≡ from = omega arith in
    in-left (mentions_of from y) (mentions_from (suc from) texts) m (subst (λ (w : Text). In m (mentions_of from w)) (sym s) (subst (λ (k : ℕ). In m (mentions_of k x)) z h))
mention_from from (y ∷ texts) (suc t) x m e h =
    let z : from + suc t ≡ suc from + t = omega arith in
    in-right (mentions_of from y) (mentions_from (suc from) texts) m (mention_from (suc from) texts t x m e (subst (λ (k : ℕ). In m (mentions_of k x)) z h))

-- what is known of a mention
pub record IsMention (texts : List Text) (m : Mention) : Type 0 where
  pub text : Text
  pub there : slice_get texts m.text ≡ Some text
  pub named : slice_get text.unit.names m.position ≡ Some m.name
  pub used : m.used ≡ list_any (nat_eq m.position) (mentioned text.unit.names)

pub record Sourced (text : ℕ) (numbers : List ℕ) (from : ℕ) (ns : List UnitName) (m : Mention) : Type 0 where
  pub at : ℕ
  pub position : m.position ≡ from + at
  pub source : m.text ≡ text
  pub named : slice_get ns at ≡ Some m.name
  pub used : m.used ≡ list_any (nat_eq m.position) numbers

sourced : (text : ℕ) (numbers : List ℕ) (from : ℕ) (ns : List UnitName) (m : Mention) → In m (mentions_in text numbers from ns) → Sourced text numbers from ns m
sourced text numbers from [] m h = absurd h
sourced text numbers from (n ∷ ns) m (inl e) =
    let p = ap (λ (k : Mention). k.position) e in
    let z : m.position ≡ from + 0 = omega (arith, p) in
    record {
      at = 0;
      position = z;
      source = sym (ap (λ (k : Mention). k.text) e);
      named = ap (λ (k : Mention). Some k.name) e;
      used = sym (ap (λ (k : Mention). k.used) e) ∙ ap (λ (i : ℕ). list_any (nat_eq i) numbers) p;
    }
sourced text numbers from (n ∷ ns) m (inr h) =
    let r = sourced text numbers (suc from) ns m h in
    let p = r.position in
    let z : m.position ≡ from + suc r.at = omega (arith, p) in
    record { at = suc r.at; position = z; source = r.source; named = r.named; used = r.used }

record FromText (from : ℕ) (texts : List Text) (m : Mention) : Type 0 where
  at : ℕ
  text : Text
  source : m.text ≡ from + at
  there : slice_get texts at ≡ Some text
  named : slice_get text.unit.names m.position ≡ Some m.name
  used : m.used ≡ list_any (nat_eq m.position) (mentioned text.unit.names)

from_text : (from : ℕ) (texts : List Text) (m : Mention) → In m (mentions_from from texts) → FromText from texts m
from_text from [] m h = absurd h
from_text from (x ∷ texts) m h = by (in-cases (mentions_of from x) (mentions_from (suc from) texts) m h) (from_text (suc from) texts m)
  where
    by : In m (mentions_of from x) ⊎ In m (mentions_from (suc from) texts) → (In m (mentions_from (suc from) texts) → FromText (suc from) texts m) → FromText from (x ∷ texts) m
    by (inl i) rest =
        let r = sourced from (mentioned x.unit.names) 0 x.unit.names m i in
        let s = r.source in
        let p = r.position in
        let z : m.text ≡ from + 0 = omega (arith, s) in
        let q : m.position ≡ r.at = omega (arith, p) in
        record { at = 0; text = x; source = z; there = refl; named = ap (slice_get x.unit.names) q ∙ r.named; used = r.used }
    by (inr i) rest =
        let r = rest i in
        let s = r.source in
        let z : m.text ≡ from + suc r.at = omega (arith, s) in
        record { at = suc r.at; text = r.text; source = z; there = r.there; named = r.named; used = r.used }

module _ (texts : List Text) where
  pub is_mention : (m : Mention) → In m (mentions texts) → IsMention texts m
  unfolding mentions
  is_mention m h =
      let r = from_text 0 texts m h in
      let s = r.source in
      let z : m.text ≡ r.at = omega (arith, s) in
      record { text = r.text; there = ap (slice_get texts) z ∙ r.there; named = r.named; used = r.used }

  pub in_mentions : (t : ℕ) (x : Text) (i : ℕ) (n : UnitName) → slice_get texts t ≡ Some x → slice_get x.unit.names i ≡ Some n → In (mention_of t x i n) (mentions texts)
  unfolding mentions
  in_mentions t x i n e f =
      let z : 0 + t ≡ t = omega arith in
      let y : 0 + i ≡ i = omega arith in
      mention_from 0 texts t x (mention t (mentioned x.unit.names) i n) e (subst (λ (k : ℕ). In (mention t (mentioned x.unit.names) i n) (mentions_of k x)) (sym z)
      (in_at (mentions_of t x) i (mention t (mentioned x.unit.names) i n) (mentioned_at t (mentioned x.unit.names) 0 i x.unit.names n f ∙ ap (λ (k : ℕ). Some (mention t (mentioned x.unit.names) k n)) y)))

  -- two mentions at one place are one
  pub one_mention : (m k : Mention) → In m (mentions texts) → In k (mentions texts) → m.text ≡ k.text → m.position ≡ k.position → m.name ≡ k.name
  one_mention m k h i e f =
      let r = is_mention m h in
      let q = is_mention k i in
      let s : r.text ≡ q.text = some_same r.text q.text (sym r.there ∙ (ap (slice_get texts) e ∙ q.there)) in
      names_same m.name k.name (sym r.named ∙ (ap (λ (x : Text). slice_get x.unit.names m.position) s ∙ (ap (slice_get q.text.unit.names) f ∙ q.named)))
    where
      some_same : (x y : Text) → Some x ≡ Some y → x ≡ y
      some_same x y e = cc e

      names_same : (x y : UnitName) → Some x ≡ Some y → x ≡ y
      names_same x y e = cc e

  -- ---- its thing

  abbrev pub number_of : Mention → ℕ
  number_of m = number_in (identities (mentions texts)) m

  covered : (xs : List Identity) (ms : List Mention) (m : Mention) → Covered same_identity identity_of same_identity-self same_identity-equal xs ms → In m ms → list_any (same_identity (identity_of m)) xs ≡ true
  covered xs [] m c h = absurd h
  covered xs (k ∷ ms) m c (inl e) = subst (λ (z : Mention). list_any (same_identity (identity_of z)) xs ≡ true) e c.0
  covered xs (k ∷ ms) m c (inr i) = covered xs ms m c.1 i

  pub identified : (m : Mention) → In m (mentions texts) → list_any (same_identity (identity_of m)) (identities (mentions texts)) ≡ true
  unfolding identities
  identified m h = covered (identities (mentions texts)) (mentions texts) m (covered-keys same_identity identity_of same_identity-self same_identity-equal [] (mentions texts)) h

  pub its_thing : (m : Mention) → In m (mentions texts) → thing_at (things texts) (number_of m) ≡ thing_of (mentions texts) (identity_of m)
  unfolding things_in identities
  its_thing m h = its_group same_identity identity_of same_identity-self same_identity-equal (λ x ms. record { identity = x; mentions = ms }) (mentions texts) m no_thing (identified m h)

  pub number_within : (m : Mention) → In m (mentions texts) → number_of m < length (things texts)
  unfolding things_in
  number_within m h =
      let w = position-within (same_identity (identity_of m)) (identities (mentions texts)) (identified m h) in
      subst (λ (n : ℕ). number_in (identities (mentions texts)) m < n) (sym (length-map (identities (mentions texts)) (thing_of (mentions texts)))) w

  pub in_thing : (m k : Mention) → In k (mentions texts) → identity_of k ≡ identity_of m → In k (thing_of (mentions texts) (identity_of m)).mentions
  in_thing m k h e = filter-in (is_of (identity_of m)) (mentions texts) k h (ap (λ (x : Identity). same_identity x (identity_of m)) e ∙ same_identity-self (identity_of m))

  pub thing_in : (m k : Mention) → In k (thing_of (mentions texts) (identity_of m)).mentions → In k (mentions texts) × (identity_of k ≡ identity_of m)
  thing_in m k h = (in-filter (is_of (identity_of m)) (mentions texts) k h, same_identity-equal (identity_of k) (identity_of m) (passes (is_of (identity_of m)) (mentions texts) k h))
    where
      passes : (p : Mention → Bool) (xs : List Mention) (x : Mention) → In x (filter p xs) → p x ≡ true
      passes p [] x h = absurd h
      passes p (y ∷ ys) x h = by (p y) refl h (passes p ys x)
        where
          by : (b : Bool) → p y ≡ b → In x (cond b (y ∷ filter p ys) (filter p ys)) → (In x (filter p ys) → p x ≡ true) → p x ≡ true
          by true e (inl s) rest = sym (ap p s) ∙ e
          by true e (inr i) rest = rest i
          by false e i rest = rest i

  -- ---- its id

  module _ (numbering : Numbering) where
    source_ids : (from : ℕ) (xs : List Text) (t : ℕ) (x : Text) → slice_get xs t ≡ Some x → get_or (ids_from (id_of_mention texts) numbering from xs) t no_ids ≡ record { structures = numbers_of numbering (from + t); names = map (id_of_mention texts) (mentions_of (from + t) x) }
    source_ids from [] t x e = absurd (cc)
    source_ids from (y ∷ xs) zero x e =
        let s : y ≡ x = cc e in
        let z : from ≡ from + 0 = omega arith in
        ap (λ (w : Text). record { structures = numbers_of numbering from; names = map (id_of_mention texts) (mentions_of from w) }) s
        ∙ ap (λ (k : ℕ). record { structures = numbers_of numbering k; names = map (id_of_mention texts) (mentions_of k x) }) z
    source_ids from (y ∷ xs) (suc t) x e =
        let z : suc from + t ≡ from + suc t = omega arith in
        source_ids (suc from) xs t x e ∙ ap (λ (k : ℕ). record { structures = numbers_of numbering k; names = map (id_of_mention texts) (mentions_of k x) }) z

    pub ids_are : (t : ℕ) (x : Text) → slice_get texts t ≡ Some x → ids_in (all_ids texts numbering) t ≡ record { structures = numbers_of numbering t; names = map (id_of_mention texts) (mentions_of t x) }
    ids_are t x e =
        let z : 0 + t ≡ t = omega arith in
        source_ids 0 texts t x e ∙ ap (λ (k : ℕ). record { structures = numbers_of numbering k; names = map (id_of_mention texts) (mentions_of k x) }) z

    mapped_at : {X Y : Type 0} (f : X → Y) (xs : List X) (i : ℕ) (x : X) → slice_get xs i ≡ Some x → slice_get (map f xs) i ≡ Some (f x)
    mapped_at f [] i x e = absurd (cc)
    mapped_at {X} {Y} f (y ∷ ys) zero x e = let s : y ≡ x = cc e in ap (λ (z : X). Some (f z)) s
    mapped_at f (y ∷ ys) (suc i) x e = mapped_at f ys i x e

    pub its_id : (t : ℕ) (x : Text) (i : ℕ) (n : UnitName) → slice_get texts t ≡ Some x → slice_get x.unit.names i ≡ Some n →
        slice_get (ids_in (all_ids texts numbering) t).names i ≡ Some (id_at (things texts) (number_of (mention_of t x i n)))
    its_id t x i n e f =
        let y : 0 + i ≡ i = omega arith in
        ap (λ (r : Ids). slice_get r.names i) (ids_are t x e)
        ∙ mapped_at (id_of_mention texts) (mentions_of t x) i (mention t (mentioned x.unit.names) i n) (mentioned_at t (mentioned x.unit.names) 0 i x.unit.names n f ∙ ap (λ (k : ℕ). Some (mention t (mentioned x.unit.names) k n)) y)
