-- The things of one text whose names have identities of their own: each is mentioned once, and has its position as its number.
use Rattle.std.proofs.Common.{◌≡◌, ◌∙◌, ◌+◌, ℕ, zero, suc, Bool, true, false, List, [], ◌∷◌, ◌++◌, length, map, fold, filter, Some, slice_get, refl, ap, sym, subst, arith, append_assoc, append-nil}
use Rattle.std.specs.Prelude.{nat_eq}
use Rattle.std.specs.List.{list_any}
use Rattle.std.proofs.lemmas.Option.{get_or_from_slice_get}
use Rattle.cc_definitions.specs.Definitions.{thing_at, numbers_of}
use Rattle.cc_link.specs.Linked.{all_ids, ids_in, id_at}
use Rattle.cc_linked_programs.proofs.ThingSources.{its_id}
use Rattle.cc_structures.proofs.Elements.{in-any, map-both, all-same, length-map_of}
use Rattle.cc_names.specs.Names.{numbers_from}
use Rattle.cc_structures.specs.Structures.{Numbering}
use Rattle.cc_things.specs.Mentions.{Mention, mentions, mentions_in, mentions_of}
use Rattle.cc_things.specs.Things.{Identity, Thing, same_identity, identity_of, identities, with_identity, thing_of, things, things_in, number_in}
use Rattle.cc_things.specs.View.{no_thing}
use Rattle.cc_things.specs.declared.text.Text.{Text}
use Rattle.cc_things.proofs.SameIdentity.{same_identity-self, same_identity-equal}
use Rattle.cc_type.specs.CcUnit.Mentioned.{mentioned}
use Rattle.cc_type.specs.CcUnit.declared.unit.UnitName.{UnitName}
use Rattle.cc_printed_programs.proofs.ShownLists.{get-left, get-right, get-map, get-unmap, get-in, within, unique-place, unique-filter}
use Rattle.cc_printed_programs.proofs.Ranges.{below-are, selected, filter-selected}

-- ---- identities that are all different

abbrev Single : List Identity → Type 0
Single xs = (i j : ℕ) (x : Identity) → slice_get xs i ≡ Some x → slice_get xs j ≡ Some x → i ≡ j

new-one : (found xs : List Identity) (x : Identity) → Single (found ++ x ∷ xs) → list_any (same_identity x) found ≡ false
new-one found xs x h = by (list_any (same_identity x) found) refl
  where
    by : (b : Bool) → list_any (same_identity x) found ≡ b → list_any (same_identity x) found ≡ false
    by false e = e
    by true e =
        let r = in-any (same_identity x) found e in
        let q = get-in found r.0 r.1.0 in
        let s : r.0 ≡ x = sym (same_identity-equal x r.0 r.1.1) in
        let low = within found q.0 r.0 q.1 in
        let here = get-left found (x ∷ xs) q.0 x (q.1 ∙ ap (λ (y : Identity). Some y) s) in
        let there = get-right found (x ∷ xs) 0 (length found) x (omega arith) refl in
        let same = h q.0 (length found) x here there in
        absurd (omega (arith, low, same))

folded : (found xs : List Identity) → Single (found ++ xs) → fold with_identity found xs ≡ found ++ xs
folded found [] h = sym (append-nil found)
folded found (x ∷ xs) h =
    let e : with_identity found x ≡ found ++ x ∷ [] = rw (new-one found xs x h) refl in
    let a = append_assoc found (x ∷ []) xs in
    ap (λ (ys : List Identity). fold with_identity ys xs) e ∙ (folded (found ++ x ∷ []) xs (subst Single (sym a) h) ∙ a)

-- ---- the mentions of one text

abbrev pub mention_at : List ℕ → ℕ → UnitName → Mention
mention_at numbers i n = record { text = 0; position = i; used = list_any (nat_eq i) numbers; name = n }

mention-there : (numbers : List ℕ) (from i k : ℕ) (ns : List UnitName) (n : UnitName) → k ≡ from + i → slice_get ns i ≡ Some n → slice_get (mentions_in 0 numbers from ns) i ≡ Some (mention_at numbers k n)
mention-there numbers from i k [] n h e = absurd (cc)
mention-there numbers from zero k (x ∷ ns) n h e =
    let s : x ≡ n = cc e in
    let z : from ≡ k = omega (arith, h) in
    ap (λ (y : UnitName). Some (mention_at numbers from y)) s ∙ ap (λ (j : ℕ). Some (mention_at numbers j n)) z
mention-there numbers from (suc i) k (x ∷ ns) n h e = mention-there numbers (suc from) i k ns n (omega (arith, h)) e

pub record MentionFrom (numbers : List ℕ) (from i : ℕ) (ns : List UnitName) (m : Mention) : Type 0 where
  pub name : UnitName
  pub there : slice_get ns i ≡ Some name
  pub is : m ≡ mention_at numbers (from + i) name

mention-from : (numbers : List ℕ) (from i : ℕ) (ns : List UnitName) (m : Mention) → slice_get (mentions_in 0 numbers from ns) i ≡ Some m → MentionFrom numbers from i ns m
mention-from numbers from i [] m e = absurd (cc)
mention-from numbers from zero (n ∷ ns) m e =
    let s : mention_at numbers from n ≡ m = cc e in
    let z : from ≡ from + 0 = omega arith in
    record { name = n; there = refl; is = sym s ∙ ap (λ (j : ℕ). mention_at numbers j n) z }
mention-from numbers from (suc i) (n ∷ ns) m e =
    let r = mention-from numbers (suc from) i ns m e in
    let z : suc from + i ≡ from + suc i = omega arith in
    record { name = r.name; there = r.there; is = r.is ∙ ap (λ (j : ℕ). mention_at numbers j r.name) z }

length-mentions : (numbers : List ℕ) (from : ℕ) (ns : List UnitName) → length (mentions_in 0 numbers from ns) ≡ length ns
length-mentions numbers from [] = refl
length-mentions numbers from (n ∷ ns) = ap suc (length-mentions numbers (suc from) ns)

-- a thing with one mention
abbrev pub thing_with : Mention → Thing
thing_with m = record { identity = identity_of m; mentions = m ∷ [] }

module _ (t : Text) where
  abbrev texts : List Text
  texts = t ∷ []

  abbrev names : List UnitName
  names = t.unit.names

  abbrev own : List Mention
  own = mentions_of 0 t

  abbrev pub mention_here : ℕ → UnitName → Mention
  mention_here k n = mention_at (mentioned t.unit.names) k n

  pub all-mentions : mentions (t ∷ []) ≡ mentions_of 0 t
  unfolding mentions
  all-mentions = append-nil (mentions_of 0 t)

  pub here-at : (k : ℕ) (n : UnitName) → slice_get t.unit.names k ≡ Some n → slice_get (mentions_of 0 t) k ≡ Some (mention_here k n)
  here-at k n e = mention-there (mentioned t.unit.names) 0 k k t.unit.names n (omega arith) e

  pub at-here : (k : ℕ) (m : Mention) → slice_get (mentions_of 0 t) k ≡ Some m → (n : UnitName) × (slice_get t.unit.names k ≡ Some n) × (m ≡ mention_here k n)
  at-here k m e =
      let r = mention-from (mentioned t.unit.names) 0 k t.unit.names m e in
      let z : 0 + k ≡ k = omega arith in
      (r.name, r.there, r.is ∙ ap (λ (j : ℕ). mention_here j r.name) z)

  -- names have identities of their own
  module _ (apart : (j k : ℕ) (m n : UnitName) → slice_get t.unit.names j ≡ Some m → slice_get t.unit.names k ≡ Some n → identity_of (mention_here j m) ≡ identity_of (mention_here k n) → j ≡ k) where
    one-place : (j k : ℕ) (m n : Mention) → slice_get own j ≡ Some m → slice_get own k ≡ Some n → identity_of m ≡ identity_of n → j ≡ k
    one-place j k m n e f h =
        let a = at-here j m e in
        let b = at-here k n f in
        apart j k a.0 b.0 a.1 b.1 (sym (ap identity_of a.2) ∙ (h ∙ ap identity_of b.2))

    single : Single (map identity_of own)
    single i j x e f =
        let a = get-unmap identity_of own i x e in
        let b = get-unmap identity_of own j x f in
        one-place i j a.0 b.0 a.1 b.1 (a.2 ∙ sym b.2)

    identities-are : identities own ≡ map identity_of own
    unfolding identities
    identities-are = folded [] (map identity_of own) single

    alone : (k : ℕ) (m : Mention) → slice_get own k ≡ Some m → thing_of own (identity_of m) ≡ thing_with m
    alone k m e = ap (λ (ms : List Mention). record { identity = identity_of m; mentions = ms })
        (unique-filter (λ (n : Mention). same_identity (identity_of n) (identity_of m)) own k m e (same_identity-self (identity_of m))
        (λ j n f h. one-place j k n m f e (same_identity-equal (identity_of n) (identity_of m) h)))

    pub things-are : things (t ∷ []) ≡ map thing_with (mentions_of 0 t)
    unfolding things_in
    things-are =
        ap (λ (ms : List Mention). map (thing_of ms) (identities ms)) all-mentions
        ∙ (ap (map (thing_of own)) identities-are
        ∙ (map-both identity_of (thing_of own) own
        ∙ all-same (λ (m : Mention). thing_of own (identity_of m)) thing_with own (λ m i. let r = get-in own m i in alone r.0 m r.1)))

    pub how-many : length (things (t ∷ [])) ≡ length t.unit.names
    how-many = ap length things-are ∙ (length-map_of thing_with own ∙ length-mentions (mentioned t.unit.names) 0 t.unit.names)

    pub thing-here : (k : ℕ) (n : UnitName) → slice_get t.unit.names k ≡ Some n → thing_at (things (t ∷ [])) k ≡ thing_with (mention_here k n)
    thing-here k n e =
        ap (λ (ts : List Thing). thing_at ts k) things-are
        ∙ get_or_from_slice_get (map thing_with own) k (thing_with (mention_here k n)) no_thing (get-map thing_with own k (mention_here k n) (here-at k n e))

    pub number-here : (k : ℕ) (n : UnitName) → slice_get t.unit.names k ≡ Some n → number_in (identities (mentions (t ∷ []))) (mention_here k n) ≡ k
    number-here k n e =
        ap (λ (ms : List Mention). number_in (identities ms) (mention_here k n)) all-mentions
        ∙ (ap (λ (xs : List Identity). number_in xs (mention_here k n)) identities-are
        ∙ unique-place (same_identity (identity_of (mention_here k n))) (map identity_of own) k (identity_of (mention_here k n)) (get-map identity_of own k (mention_here k n) (here-at k n e)) (same_identity-self (identity_of (mention_here k n)))
        (λ j x f h. let a = get-unmap identity_of own j x f in
        one-place j k a.0 (mention_here k n) a.1 (here-at k n e) (a.2 ∙ sym (same_identity-equal (identity_of (mention_here k n)) x h))))

    -- which pass a test of their name
    pub numbers-are : (passes : Thing → Bool) (by_name : UnitName → Bool) → ((k : ℕ) (n : UnitName) → slice_get t.unit.names k ≡ Some n → passes (thing_with (mention_here k n)) ≡ by_name n) → numbers_of passes (things (t ∷ [])) ≡ selected by_name 0 t.unit.names
    numbers-are passes by_name h =
        ap (filter (λ (k : ℕ). passes (thing_at (things (t ∷ [])) k))) (below-are (length (things (t ∷ []))) ∙ ap (λ (n : ℕ). numbers_from 0 n) how-many)
        ∙ filter-selected by_name (λ (k : ℕ). passes (thing_at (things (t ∷ [])) k)) 0 t.unit.names
        (λ j k n e f. let s : j ≡ k = omega (arith, e) in let g : slice_get t.unit.names k ≡ Some n = subst (λ (i : ℕ). slice_get t.unit.names i ≡ Some n) s f in ap passes (thing-here k n g) ∙ h k n g)

    pub id-here : (numbering : Numbering) (k : ℕ) (n : UnitName) → slice_get t.unit.names k ≡ Some n → slice_get (ids_in (all_ids (t ∷ []) numbering) 0).names k ≡ Some (id_at (things (t ∷ [])) k)
    id-here numbering k n e = its_id (t ∷ []) numbering 0 t k n refl e ∙ ap (λ (j : ℕ). Some (id_at (things (t ∷ [])) j)) (number-here k n e)
