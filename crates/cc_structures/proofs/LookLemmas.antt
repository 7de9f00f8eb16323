-- Structures that look the same: by what they are compared, and by what the code keeps of them.
use Rattle.std.proofs.Common.{◌≡◌, ◌∙◌, ◌⊎◌, inl, inr, ℕ, Bool, true, false, List, [], ◌∷◌, map, flat_map, refl, ap, sym, true≢false, Option, Some, None, is_some, option_map, unwrap_or}
use Rattle.std.proofs.lemmas.List.{map-append}
use Rattle.cc_program.specs.declared.types.CType.{CType}
use Rattle.cc_syntax.specs.Types.{Named}
use Rattle.cc_structures.specs.Looks.{Look, look_of, unless_named, declared}
use Rattle.cc_structures.specs.Refined.{part_numbers}
use Rattle.cc_structures.specs.Structures.{Known, Numbering, IsSame, tag_of, numbers_of, member_in, LooksTheSame}
use Rattle.cc_structures.specs.Words.{type_words, type_parts}
use Rattle.cc_structures.specs.declared.words.Word.{Word}
use Rattle.cc_structures.proofs.TypeWords.{reads}
use Rattle.cc_structures.proofs.WordLaws.{number_by, has_words}
use Rattle.cc_unit.specs.Renumbered.{type_renumbered}

abbrev words_of : List Named → List Word
words_of ms = flat_map (λ m. type_words m.1) ms

abbrev parts_in : List Named → List ℕ
parts_in ms = flat_map (λ m. type_parts m.1) ms

abbrev names_in : List Named → List (List ℕ)
names_in ms = map (λ m. m.0) ms

abbrev renumbered : List ℕ → Named → Named
renumbered numbers m = (m.0, type_renumbered numbers m.1)

-- ---- members with other numbers

names-kept : (numbers : List ℕ) (ms : List Named) → names_in (map (renumbered numbers) ms) ≡ names_in ms
names-kept numbers [] = refl
names-kept numbers (m ∷ ms) = ap (λ l. m.0 ∷ l) (names-kept numbers ms)

words-kept : (numbers : List ℕ) (ms : List Named) → words_of (map (renumbered numbers) ms) ≡ words_of ms
words-kept numbers [] = refl
words-kept numbers (m ∷ ms) = rw ((has_words numbers m.1).words, words-kept numbers ms) refl

parts-numbered : (numbers : List ℕ) (ms : List Named) → parts_in (map (renumbered numbers) ms) ≡ map (number_by numbers) (parts_in ms)
parts-numbered numbers [] = refl
parts-numbered numbers (m ∷ ms) = rw ((has_words numbers m.1).parts, parts-numbered numbers ms) (sym (map-append (number_by numbers) (type_parts m.1) (parts_in ms)))

cons-same : {A : Type 0} (a b : A) (fs bs : List A) → a ∷ fs ≡ b ∷ bs → (a ≡ b) × (fs ≡ bs)
cons-same a b fs bs e = (cc e, cc e)

apart : {A : Type 0} (a : A) (fs : List A) → [] ≡ a ∷ fs → ⊥
apart a fs e = cc e

named-same : (a b : Named) → a.0 ≡ b.0 → a.1 ≡ b.1 → a ≡ b
named-same a b e f = ap (λ (x : List ℕ). (x, a.1)) e ∙ ap (λ (t : CType). (b.0, t)) f

-- members of the same names, words and parts are the same
members-same : (fs bs : List Named) → names_in fs ≡ names_in bs → words_of fs ≡ words_of bs → parts_in fs ≡ parts_in bs → fs ≡ bs
members-same [] [] n w p = refl
members-same [] (b ∷ bs) n w p = absurd (apart b.0 (names_in bs) n)
members-same (a ∷ fs) [] n w p = absurd (apart a.0 (names_in fs) (sym n))
members-same (a ∷ fs) (b ∷ bs) n w p =
    let names = cons-same a.0 b.0 (names_in fs) (names_in bs) n in
    let one = reads a.1 b.1 (words_of fs) (words_of bs) (parts_in fs) (parts_in bs) w p in
    ap (λ (x : Named). x ∷ fs) (named-same a b names.0 one.0) ∙ ap (λ (xs : List Named). b ∷ xs) (members-same fs bs names.1 one.1.0 one.1.1)

renumbered-same : (ns ms : List ℕ) (fs bs : List Named) → names_in fs ≡ names_in bs → words_of fs ≡ words_of bs → map (number_by ns) (parts_in fs) ≡ map (number_by ms) (parts_in bs) →
    map (renumbered ns) fs ≡ map (renumbered ms) bs
renumbered-same ns ms fs bs n w p = members-same (map (renumbered ns) fs) (map (renumbered ms) bs)
    (names-kept ns fs ∙ (n ∙ sym (names-kept ms bs)))
    (words-kept ns fs ∙ (w ∙ sym (words-kept ms bs)))
    (parts-numbered ns fs ∙ (p ∙ sym (parts-numbered ms bs)))

-- ---- whole structures

option-same : {A : Type 0} (d : A) (o p : Option A) → is_some o ≡ true → is_some p ≡ true → unwrap_or o d ≡ unwrap_or p d → o ≡ p
option-same d (Some x) (Some y) h k e = ap Some e
option-same d None p h k e = absurd (true≢false (sym h))
option-same d (Some x) None h k e = absurd (true≢false (sym k))

members-of : (f g : List Named → List Named) (o p : Option (List Named)) → is_some o ≡ is_some p → f (unwrap_or o []) ≡ g (unwrap_or p []) → option_map f o ≡ option_map g p
members-of f g (Some x) (Some y) h e = ap Some e
members-of f g None None h e = refl
members-of f g (Some x) None h e = absurd (true≢false h)
members-of f g None (Some y) h e = absurd (true≢false (sym h))

of-members : (f g : List Named → List Named) → f [] ≡ g [] → (o p : Option (List Named)) → option_map f o ≡ option_map g p → (is_some o ≡ is_some p) × (f (unwrap_or o []) ≡ g (unwrap_or p []))
of-members f g none (Some x) (Some y) e = (refl, inside (f x) (g y) e)
  where
    inside : {A : Type 0} (a b : A) → Some a ≡ Some b → a ≡ b
    inside a b e = cc e
of-members f g none None None e = (refl, none)
of-members f g none (Some x) None e = absurd (missing (f x) e)
  where
    missing : {A : Type 0} (a : A) → Some a ≡ None → ⊥
    missing a e = cc e
of-members f g none None (Some y) e = absurd (missing (g y) e)
  where
    missing : {A : Type 0} (a : A) → None ≡ Some a → ⊥
    missing a e = cc e

module _ (numbering : Numbering) (s t : Known) where
  by_name : (b : Bool) → is_some (tag_of s) ≡ b → look_of s ≡ look_of t → part_numbers numbering s ≡ part_numbers numbering t → IsSame s t ⊎ LooksTheSame numbering s t
  by_name true named e p =
      let named_t : is_some (tag_of t) ≡ true = sym (ap (λ (l : Look). l.named) e) ∙ named in
      inr (record {
        named = named;
        tag = option-same [] (tag_of s) (tag_of t) named named_t (ap (λ (l : Look). l.tag) e);
        members = members-of (map (member_in numbering s.text)) (map (member_in numbering t.text)) s.structure.members t.structure.members (ap (λ (l : Look). l.complete) e)
            (renumbered-same (numbers_of numbering s.text) (numbers_of numbering t.text) (declared s) (declared t) (ap (λ (l : Look). l.names) e) (ap (λ (l : Look). l.words) e) p);
      })
  by_name false named e p =
      let named_t : is_some (tag_of t) ≡ false = sym (ap (λ (l : Look). l.named) e) ∙ named in
      inl (sym (own named s.text) ∙ (ap (λ (l : Look). l.text) e ∙ own_t named_t t.text), sym (own named s.position) ∙ (ap (λ (l : Look). l.position) e ∙ own_t named_t t.position))
    where
      own : is_some (tag_of s) ≡ false → (n : ℕ) → unless_named s n ≡ n
      own h n = rw h refl

      own_t : is_some (tag_of t) ≡ false → (n : ℕ) → unless_named t n ≡ n
      own_t h n = rw h refl

  -- one look, and parts of the same numbers
  pub looks-same : look_of s ≡ look_of t → part_numbers numbering s ≡ part_numbers numbering t → IsSame s t ⊎ LooksTheSame numbering s t
  looks-same e p = by_name (is_some (tag_of s)) refl e p

  pub members-declared : LooksTheSame numbering s t → (is_some s.structure.members ≡ is_some t.structure.members) × (map (member_in numbering s.text) (declared s) ≡ map (member_in numbering t.text) (declared t))
  members-declared l = of-members (map (member_in numbering s.text)) (map (member_in numbering t.text)) refl s.structure.members t.structure.members l.members

  nothing : is_some (tag_of s) ≡ true → is_some (tag_of t) ≡ true → (n m : ℕ) → unless_named s n ≡ unless_named t m
  nothing h k n m = rw (h, k) refl

  pub same-looks : LooksTheSame numbering s t → look_of s ≡ look_of t
  same-looks l =
      let d = members-declared l in
      let named_t : is_some (tag_of t) ≡ true = sym (ap is_some l.tag) ∙ l.named in
      let names : names_in (declared s) ≡ names_in (declared t) =
      sym (names-kept (numbers_of numbering s.text) (declared s)) ∙ (ap names_in d.1 ∙ names-kept (numbers_of numbering t.text) (declared t)) in
      let words : words_of (declared s) ≡ words_of (declared t) =
      sym (words-kept (numbers_of numbering s.text) (declared s)) ∙ (ap words_of d.1 ∙ words-kept (numbers_of numbering t.text) (declared t)) in
      same_fields (look_of s) (look_of t) (ap is_some l.tag) (nothing l.named named_t s.text t.text) (nothing l.named named_t s.position t.position)
      (ap (λ (o : Option (List ℕ)). unwrap_or o []) l.tag) d.0 names words
    where
      same_fields : (a b : Look) → a.named ≡ b.named → a.text ≡ b.text → a.position ≡ b.position → a.tag ≡ b.tag → a.complete ≡ b.complete → a.names ≡ b.names → a.words ≡ b.words → a ≡ b
      same_fields a b h1 h2 h3 h4 h5 h6 h7 =
          ap (λ (x : Bool). record { named = x; text = a.text; position = a.position; tag = a.tag; complete = a.complete; names = a.names; words = a.words }) h1
          ∙ (ap (λ (x : ℕ). record { named = b.named; text = x; position = a.position; tag = a.tag; complete = a.complete; names = a.names; words = a.words }) h2
          ∙ (ap (λ (x : ℕ). record { named = b.named; text = b.text; position = x; tag = a.tag; complete = a.complete; names = a.names; words = a.words }) h3
          ∙ (ap (λ (x : List ℕ). record { named = b.named; text = b.text; position = b.position; tag = x; complete = a.complete; names = a.names; words = a.words }) h4
          ∙ (ap (λ (x : Bool). record { named = b.named; text = b.text; position = b.position; tag = b.tag; complete = x; names = a.names; words = a.words }) h5
          ∙ (ap (λ (x : List (List ℕ)). record { named = b.named; text = b.text; position = b.position; tag = b.tag; complete = b.complete; names = x; words = a.words }) h6
          ∙ ap (λ (x : List Word). record { named = b.named; text = b.text; position = b.position; tag = b.tag; complete = b.complete; names = b.names; words = x }) h7)))))

  pub same-parts : LooksTheSame numbering s t → part_numbers numbering s ≡ part_numbers numbering t
  same-parts l =
      sym (parts-numbered (numbers_of numbering s.text) (declared s))
      ∙ (ap parts_in (members-declared l).1 ∙ parts-numbered (numbers_of numbering t.text) (declared t))
