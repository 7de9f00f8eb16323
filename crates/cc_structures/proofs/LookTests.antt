-- The code's test of two looks tells whether they stand for one.
use Rattle.std.proofs.Common.{rules, ◌≡◌, ◌∙◌, ℕ, Bool, true, false, true≢false, ◌&&◌, List, [], ◌∷◌, map, refl, ap, sym, nat_eq}
use Rattle.std.specs.Borrow.{Bor}
use Rattle.std.specs.Cmp.Lexicographic.{pointwise}
use Rattle.std.proofs.lemmas.Bool.{eqb-true, eq-eqb, and_parts}
use Rattle.std.proofs.lemmas.Slice.Eq.{bytes_eq-Decides}
use denote.Enum.Bare.{same_true}
use Rattle.std.specs.Bool.{beq}
use Rattle.cc_structures.specs.Looks.{Look}
use Rattle.cc_structures.specs.View.{names_of, look_view, same_kind, same_word, same_name, same_look}
use Rattle.cc_structures.specs.contracts.words.Kind as kind
use Rattle.cc_structures.specs.declared.looks.Look.{Look as LookOf}
use Rattle.cc_structures.specs.declared.words.Kind.{Kind}
use Rattle.cc_structures.specs.declared.words.Word.{Word}

flag-sound : (a b : Bool) → beq a b ≡ true → a ≡ b
flag-sound true true h = refl
flag-sound true false h = absurd (true≢false (sym h))
flag-sound false true h = absurd (true≢false (sym h))
flag-sound false false h = refl

flag-self : (a : Bool) → beq a a ≡ true
flag-self true = refl
flag-self false = refl

both : (a b : Bool) → a ≡ true → b ≡ true → (a && b) ≡ true
both a b h k = rw (h, k) refl

word-sound : (a b : Word) → same_word a b ≡ true → a ≡ b
word-sound a b h =
    let p = and_parts (beq a.constant b.constant) (beq a.volatile b.volatile && (same_kind a.kind b.kind && nat_eq a.number b.number)) h in
    let q = and_parts (beq a.volatile b.volatile) (same_kind a.kind b.kind && nat_eq a.number b.number) p.1 in
    let r = and_parts (same_kind a.kind b.kind) (nat_eq a.number b.number) q.1 in
    ap (λ (x : Bool). record { constant = x; volatile = a.volatile; kind = a.kind; number = a.number }) (flag-sound a.constant b.constant p.0)
    ∙ (ap (λ (x : Bool). record { constant = b.constant; volatile = x; kind = a.kind; number = a.number }) (flag-sound a.volatile b.volatile q.0)
    ∙ (ap (λ (x : Kind). record { constant = b.constant; volatile = b.volatile; kind = x; number = a.number }) (same_true kind.the_type (search rules) a.kind b.kind r.0)
    ∙ ap (λ (x : ℕ). record { constant = b.constant; volatile = b.volatile; kind = b.kind; number = x }) (eqb-true a.number b.number r.1)))

word-self : (a : Word) → same_word a a ≡ true
word-self a =
    both (beq a.constant a.constant) (beq a.volatile a.volatile && (same_kind a.kind a.kind && nat_eq a.number a.number)) (flag-self a.constant)
    (both (beq a.volatile a.volatile) (same_kind a.kind a.kind && nat_eq a.number a.number) (flag-self a.volatile)
    (both (same_kind a.kind a.kind) (nat_eq a.number a.number) (eq-eqb _ _ refl) (eq-eqb a.number a.number refl)))

words-sound : (fs bs : List Word) → pointwise same_word fs bs ≡ true → fs ≡ bs
words-sound [] [] h = refl
words-sound [] (b ∷ bs) h = absurd (true≢false (sym h))
words-sound (a ∷ fs) [] h = absurd (true≢false (sym h))
words-sound (a ∷ fs) (b ∷ bs) h =
    let p = and_parts (same_word a b) (pointwise same_word fs bs) h in
    ap (λ (x : Word). x ∷ fs) (word-sound a b p.0) ∙ ap (λ (xs : List Word). b ∷ xs) (words-sound fs bs p.1)

words-self : (fs : List Word) → pointwise same_word fs fs ≡ true
words-self [] = refl
words-self (a ∷ fs) = both (same_word a a) (pointwise same_word fs fs) (word-self a) (words-self fs)

abbrev texts : List (Bor (List ℕ)) → List (List ℕ)
texts ns = map (λ (n : Bor (List ℕ)). n.now) ns

cons-parts : {A : Type 0} (a b : A) (fs bs : List A) → a ∷ fs ≡ b ∷ bs → (a ≡ b) × (fs ≡ bs)
cons-parts a b fs bs e = (cc e, cc e)

not-empty : {A : Type 0} (a : A) (fs : List A) → [] ≡ a ∷ fs → ⊥
not-empty a fs e = cc e

texts-sound : (fs bs : List (Bor (List ℕ))) → pointwise same_name fs bs ≡ true → texts fs ≡ texts bs
texts-sound [] [] h = refl
texts-sound [] (b ∷ bs) h = absurd (true≢false (sym h))
texts-sound (a ∷ fs) [] h = absurd (true≢false (sym h))
texts-sound (a ∷ fs) (b ∷ bs) h =
    let p = and_parts (same_name a b) (pointwise same_name fs bs) h in
    ap (λ (x : List ℕ). x ∷ texts fs) ((bytes_eq-Decides a.now b.now).0 p.0) ∙ ap (λ (xs : List (List ℕ)). b.now ∷ xs) (texts-sound fs bs p.1)

texts-complete : (fs bs : List (Bor (List ℕ))) → texts fs ≡ texts bs → pointwise same_name fs bs ≡ true
texts-complete [] [] e = refl
texts-complete [] (b ∷ bs) e = absurd (not-empty b.now (texts bs) e)
texts-complete (a ∷ fs) [] e = absurd (not-empty a.now (texts fs) (sym e))
texts-complete (a ∷ fs) (b ∷ bs) e =
    let p = cons-parts a.now b.now (texts fs) (texts bs) e in
    both (same_name a b) (pointwise same_name fs bs) ((bytes_eq-Decides a.now b.now).1 p.0) (texts-complete fs bs p.1)

names-sound : (fs bs : List (Bor (List ℕ))) → pointwise same_name fs bs ≡ true → names_of fs ≡ names_of bs
unfolding names_of
names-sound fs bs h = texts-sound fs bs h

names-complete : (fs bs : List (Bor (List ℕ))) → names_of fs ≡ names_of bs → pointwise same_name fs bs ≡ true
unfolding names_of
names-complete fs bs e = texts-complete fs bs e

same_fields : (a b : Look) → a.named ≡ b.named → a.text ≡ b.text → a.position ≡ b.position → a.tag ≡ b.tag → a.complete ≡ b.complete → a.names ≡ b.names → a.words ≡ b.words → a ≡ b
same_fields a b h1 h2 h3 h4 h5 h6 h7 =
    ap (λ (x : Bool). record { named = x; text = a.text; position = a.position; tag = a.tag; complete = a.complete; names = a.names; words = a.words }) h1
    ∙ (ap (λ (x : ℕ). record { named = b.named; text = x; position = a.position; tag = a.tag; complete = a.complete; names = a.names; words = a.words }) h2
    ∙ (ap (λ (x : ℕ). record { named = b.named; text = b.text; position = x; tag = a.tag; complete = a.complete; names = a.names; words = a.words }) h3
    ∙ (ap (λ (x : List ℕ). record { named = b.named; text = b.text; position = b.position; tag = x; complete = a.complete; names = a.names; words = a.words }) h4
    ∙ (ap (λ (x : Bool). record { named = b.named; text = b.text; position = b.position; tag = b.tag; complete = x; names = a.names; words = a.words }) h5
    ∙ (ap (λ (x : List (List ℕ)). record { named = b.named; text = b.text; position = b.position; tag = b.tag; complete = b.complete; names = x; words = a.words }) h6
    ∙ ap (λ (x : List Word). record { named = b.named; text = b.text; position = b.position; tag = b.tag; complete = b.complete; names = b.names; words = x }) h7)))))

module _ (a b : LookOf) where
  abbrev words_test : Bool
  words_test = pointwise same_word a.words.items b.words.items

  abbrev names_test : Bool
  names_test = pointwise same_name a.names.items b.names.items && words_test

  abbrev complete_test : Bool
  complete_test = beq a.complete b.complete && names_test

  abbrev tag_test : Bool
  tag_test = pointwise nat_eq a.tag.now b.tag.now && complete_test

  abbrev position_test : Bool
  position_test = nat_eq a.position b.position && tag_test

  abbrev text_test : Bool
  text_test = nat_eq a.text b.text && position_test

  pub look-sound : same_look a b ≡ true → look_view a ≡ look_view b
  look-sound h =
      let p1 = and_parts (beq a.named b.named) text_test h in
      let p2 = and_parts (nat_eq a.text b.text) position_test p1.1 in
      let p3 = and_parts (nat_eq a.position b.position) tag_test p2.1 in
      let p4 = and_parts (pointwise nat_eq a.tag.now b.tag.now) complete_test p3.1 in
      let p5 = and_parts (beq a.complete b.complete) names_test p4.1 in
      let p6 = and_parts (pointwise same_name a.names.items b.names.items) words_test p5.1 in
      same_fields (look_view a) (look_view b) (flag-sound a.named b.named p1.0) (eqb-true a.text b.text p2.0) (eqb-true a.position b.position p3.0)
      ((bytes_eq-Decides a.tag.now b.tag.now).0 p4.0) (flag-sound a.complete b.complete p5.0) (names-sound a.names.items b.names.items p6.0) (words-sound a.words.items b.words.items p6.1)

  flag-complete : (x y : Bool) → x ≡ y → beq x y ≡ true
  flag-complete true true e = refl
  flag-complete true false e = absurd (true≢false e)
  flag-complete false true e = absurd (true≢false (sym e))
  flag-complete false false e = refl

  words-complete : (fs bs : List Word) → fs ≡ bs → pointwise same_word fs bs ≡ true
  words-complete fs bs e = ap (pointwise same_word fs) (sym e) ∙ words-self fs

  pub look-complete : look_view a ≡ look_view b → same_look a b ≡ true
  look-complete e =
      both (beq a.named b.named) text_test (flag-complete a.named b.named (ap (λ (l : Look). l.named) e))
      (both (nat_eq a.text b.text) position_test (eq-eqb a.text b.text (ap (λ (l : Look). l.text) e))
      (both (nat_eq a.position b.position) tag_test (eq-eqb a.position b.position (ap (λ (l : Look). l.position) e))
      (both (pointwise nat_eq a.tag.now b.tag.now) complete_test ((bytes_eq-Decides a.tag.now b.tag.now).1 (ap (λ (l : Look). l.tag) e))
      (both (beq a.complete b.complete) names_test (flag-complete a.complete b.complete (ap (λ (l : Look). l.complete) e))
      (both (pointwise same_name a.names.items b.names.items) words_test (names-complete a.names.items b.names.items (ap (λ (l : Look). l.names) e))
      (words-complete a.words.items b.words.items (ap (λ (l : Look). l.words) e)))))))
