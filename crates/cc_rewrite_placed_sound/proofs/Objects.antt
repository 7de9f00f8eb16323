-- The words and the packed arrays that a coded program has for static objects stand at their numbers: words behind the old objects, each at its
-- rank, and behind them packed arrays by slot. Each slot of an earlier packed array is there, since their numbers ascend.
use Rattle.std.proofs.Common.{◌≡◌, ◌≤◌, ◌<◌, ◌+◌, ◌*◌, ◌/◌, ◌∙◌, ◌==◌, ◌⊎◌, inl, inr, nat_le, ℕ, zero, suc, Bool, true, false, List, [], ◌∷◌, ◌++◌, length, map, Option, Some, None, option_map, slice_get, get_or, refl, ap, sym, subst, if◌then◌else◌, arith}
use Rattle.std.specs.List.{flat_map}
use Rattle.std.specs.Option.{option_map_or}
use Rattle.std.proofs.lemmas.Bool.{and_parts}
use Rattle.std.proofs.lemmas.Bool.Decides.{nat_tests}
use Rattle.std.proofs.lemmas.List.{length-map}
use Rattle.std.proofs.lemmas.Option.{slice_get-get_or, slice_get-map, slice_get_within}
use Rattle.cc_operands.specs.Qualified.{plain}
use Rattle.cc_plan_legal.specs.declared.kinds.Plan.{Plan}
use Rattle.cc_plan_legal.specs.Legal.{IsLegal}
use Rattle.cc_plan_legal.specs.Plans.{ascends_from}
use Rattle.cc_plan_legal.specs.Short.{element_bits}
use Rattle.cc_program.specs.CcNum.declared.int_type.IntType.{IntType}
use Rattle.cc_program.specs.CcNum.declared.int_type.IntType.TheVariants.{UChar, UShort}
use Rattle.cc_program.specs.declared.object.Object.{Object}
use Rattle.cc_program.specs.declared.program.Program.{Program}
use Rattle.cc_program.specs.declared.types.Shape.{Int, Array}
use Rattle.cc_rewrite_codes.specs.FirstValues.{each_in, row_count}
use Rattle.cc_rewrite_codes.specs.Homes.{Code, InArray, InWord}
use Rattle.cc_rewrite_codes.specs.Placed.{first_array, home_of, is_of, place_among, rank_of, words_of}
use Rattle.cc_rewrite_codes.specs.Programs.{array_codes, array_object, coded_program, element_bytes, first_of, owned, packed_object, plain_word, relaid_object, table_objects, word_object}
use Rattle.cc_rewrite_codes.specs.Words.{word_type}
use Rattle.cc_rewrite_homes.specs.Homes.{Field as Part}
use Rattle.cc_rewrite_placed_sound.proofs.Joined.{behind, in_front, made}
use Rattle.cc_rewrite_placed_sound.proofs.Places.{there as place_there}
use Rattle.cc_rewrite_placed_sound.proofs.Ranks.{at_rank, length_numbered}
use Rattle.cc_rewrite_placed_sound.proofs.Standing.{by_field, by_packed, IsField, IsPacked, seated_field}
use Rattle.cc_rewrite_placed_sound.specs.CodedObjects.{IsArrayOf, IsWord}
use Rattle.cc_rewrite_placed_sound.specs.PlacedLayouts.{candidates_of, field_in}
use Rattle.cc_slots_types.specs.declared.slot.Slot.{Slot}
use Rattle.cc_state_points.specs.CcStateFacts.declared.facts.Facts.{Facts}
use Rattle.cc_state_points.specs.CcStateFacts.declared.facts.Key.{Key}
use Rattle.cc_state_points.specs.CcStateFacts.declared.facts.Key.TheVariants as key

-- ---- ascending numbers

le_true : (a b : ℕ) → nat_le a b ≡ true → a ≤ b
le_true a b h = grind (arith, nat_tests)

no_less : (least : ℕ) (list : List ℕ) (k n : ℕ) → ascends_from least list ≡ true → slice_get list k ≡ Some n → least ≤ n
no_less least [] k n h s = let f : None ≡ Some n = s in absurd (cc)
no_less least (m ∷ more) zero n h s =
    let f : Some m ≡ Some n = s in
    let e : m ≡ n = cc in
    let l = le_true least m (and_parts (nat_le least m) (ascends_from (m + 1) more) h).0 in
    omega (arith, e, l)
no_less least (m ∷ more) (suc k) n h s =
    let parts = and_parts (nat_le least m) (ascends_from (m + 1) more) h in
    let l = le_true least m parts.0 in
    let i = no_less (m + 1) more k n parts.1 s in
    omega (arith, l, i)

earlier : (least : ℕ) (list : List ℕ) (i k m n : ℕ) → ascends_from least list ≡ true → slice_get list i ≡ Some m → slice_get list k ≡ Some n → i < k → m < n
earlier least [] i k m n h s r l = let f : None ≡ Some m = s in absurd (cc)
earlier least (x ∷ more) i zero m n h s r l = absurd (omega arith)
earlier least (x ∷ more) zero (suc k) m n h s r l =
    let f : Some x ≡ Some m = s in
    let e : x ≡ m = cc in
    let j = no_less (x + 1) more k n (and_parts (nat_le least x) (ascends_from (x + 1) more) h).1 r in
    omega (arith, e, j)
earlier least (x ∷ more) (suc i) (suc k) m n h s r l = earlier (x + 1) more i k m n (and_parts (nat_le least x) (ascends_from (x + 1) more) h).1 s r (omega arith)

-- ---- sizes

one_or_two : (bits most : ℕ) → (bits ≡ 8) ⊎ ((bits ≡ 16) × (8 < most)) → (bits / 8 ≡ 1) ⊎ (bits / 8 ≡ 2)
one_or_two bits most (inl e) = inl (omega arith)
one_or_two bits most (inr (e, l)) = inr (omega arith)

same_bytes : (a b : ℕ) → 8 * a ≡ 8 * b → a ≡ b
same_bytes a b e = omega arith

regrouped : (n m k : ℕ) → n + m + k ≡ n + (m + k)
regrouped n m k = omega arith

module _ {I : Type 0} (slots : List Slot) (plan : Plan) (p : Program) (facts : Facts I) where
  abbrev q : Program
  q = coded_program slots plan p facts

  abbrev old : List Object
  old = map (relaid_object slots plan p) p.objects

  abbrev words : List Object
  words = map (word_object slots plan p) (owned slots plan p 0)

  abbrev arrays : List Object
  arrays = flat_map (array_object slots plan p) plan.arrays

  objects_are : q.objects ≡ old ++ (words ++ (arrays ++ table_objects slots plan p))
  unfolding coded_program
  objects_are = refl

  olds : length p.objects ≡ length old
  olds = sym (length-map p.objects (relaid_object slots plan p))

  word_count : length (words_of slots plan 0) ≡ length words
  word_count = sym (length-map (owned slots plan p 0) (word_object slots plan p) ∙ length_numbered (is_of slots plan 0) 0 plan.words)

  -- the old ones keep their numbers
  pub old-there : (i : ℕ) (o : Object) → slice_get p.objects i ≡ Some o → slice_get q.objects i ≡ Some (relaid_object slots plan p o)
  old-there i o e =
      ap (λ (l : List Object). slice_get l i) objects_are
      ∙ in_front old (words ++ (arrays ++ table_objects slots plan p)) i (relaid_object slots plan p o)
      (slice_get-map (relaid_object slots plan p) p.objects i ∙ ap (option_map (relaid_object slots plan p)) e)

  word_at : (k : ℕ) (o : Object) → slice_get words k ≡ Some o → slice_get q.objects (length p.objects + k) ≡ Some o
  word_at k o e =
      ap (λ (l : List Object). slice_get l (length p.objects + k)) objects_are
      ∙ behind old (words ++ (arrays ++ table_objects slots plan p)) (length p.objects) k olds
      ∙ in_front words (arrays ++ table_objects slots plan p) k o e

  array_at : (k : ℕ) (o : Object) → slice_get arrays k ≡ Some o → slice_get q.objects (first_array slots plan p + k) ≡ Some o
  array_at k o e =
      ap (slice_get q.objects) (regrouped (length p.objects) (length (words_of slots plan 0)) k)
      ∙ ap (λ (l : List Object). slice_get l (length p.objects + (length (words_of slots plan 0) + k))) objects_are
      ∙ behind old (words ++ (arrays ++ table_objects slots plan p)) (length p.objects) (length (words_of slots plan 0) + k) olds
      ∙ behind words (arrays ++ table_objects slots plan p) (length (words_of slots plan 0)) k word_count
      ∙ in_front arrays (table_objects slots plan p) k o e

  module _ (legal : IsLegal (candidates_of p slots) plan) where
    -- ---- words

    word_for : (word bytes shift bits i : ℕ) → IsField slots plan p i (field_in word bytes shift bits) → IsWord slots plan p q word bytes
    word_for word bytes shift bits i a =
        let s = seated_field slots plan p legal i (field_in word bytes shift bits) a in
        let number : length p.objects + rank_of slots plan 0 a.field.word ≡ word = ap (λ (x : Part). x.object) a.is in
        let size : a.word.bits / 8 ≡ bytes = same_bytes (a.word.bits / 8) bytes (ap (λ (x : Part). x.bits) a.is) in
        let ranked : slice_get (owned slots plan p 0) (rank_of slots plan 0 a.field.word) ≡ Some (0 + a.field.word, a.word) =
        at_rank (is_of slots plan 0) 0 plan.words a.field.word a.word a.word_there s.owned in
        let made_word : slice_get words (rank_of slots plan 0 a.field.word) ≡ Some (word_object slots plan p (0 + a.field.word, a.word)) =
        slice_get-map (word_object slots plan p) (owned slots plan p 0) (rank_of slots plan 0 a.field.word) ∙ ap (option_map (word_object slots plan p)) ranked in
        let there = word_at (rank_of slots plan 0 a.field.word) (word_object slots plan p (0 + a.field.word, a.word)) made_word in
        record {
          number = 0 + a.field.word;
          its = a.word;
          object = word_object slots plan p (0 + a.field.word, a.word);
          made = refl;
          there = subst (λ (n : ℕ). slice_get q.objects n ≡ Some (word_object slots plan p (0 + a.field.word, a.word))) number there;
          type = typed (one_or_two a.word.bits _ s.seated.sized) size;
        }
      where
        typed : {given : ℕ} → (given ≡ 1) ⊎ (given ≡ 2) → given ≡ bytes → ((bytes ≡ 1) × (plain_word given ≡ plain (Int UChar))) ⊎ ((bytes ≡ 2) × (plain_word given ≡ plain (Int UShort)))
        typed (inl e) f = inl (sym f ∙ e, ap plain_word e)
        typed (inr e) f = inr (sym f ∙ e, ap plain_word e)

    pub word-there : (i word bytes shift bits : ℕ) (alone : Bool) (code : Code) → home_of slots plan p (key.Object i) ≡ Some (InWord word bytes shift bits alone code) → IsWord slots plan p q word bytes
    word-there i word bytes shift bits alone code e =
        word_for word bytes shift bits i (by_field slots plan p i (field_in word bytes shift bits) (Some (InWord word bytes shift bits alone code)) e refl)

  -- ---- packed arrays

  one_made : (n m : ℕ) (s : Slot) → slice_get slots n ≡ Some s → m < n → length (array_object slots plan p m) ≡ 1
  one_made n m s e l =
      let within = slice_get_within slots n s e in
      let there : slice_get slots m ≡ Some (get_or slots m s) = slice_get-get_or slots m s (omega (arith, within, l)) in
      ap (λ (o : Option Slot). length (option_map_or (λ (r : Slot). packed_object slots plan p r.name (element_bits r.bits) (length (first_of slots plan p r.key)) (array_codes slots plan p m r) ∷ []) o [])) there

  array_for : (i object count bits : ℕ) → IsPacked slots plan p i object count bits → IsArrayOf slots plan p q i object bits
  array_for i object count bits a =
      let n = a.number in
      let s = a.slot in
      let place = place_among slots plan plan.arrays n in
      let o : Object = packed_object slots plan p s.name (element_bits s.bits) (length (first_of slots plan p s.key)) (array_codes slots plan p n s) in
      let stands = place_there n plan.arrays a.among in
      let its : array_object slots plan p n ≡ o ∷ [] =
      ap (λ (x : Option Slot). option_map_or (λ (r : Slot). packed_object slots plan p r.name (element_bits r.bits) (length (first_of slots plan p r.key)) (array_codes slots plan p n r) ∷ []) x []) a.at.there in
      let at_place : slice_get arrays place ≡ Some o =
      made (array_object slots plan p) plan.arrays place n o stands its (λ j m h l. one_made n m s a.at.there (earlier 0 plan.arrays j place m n plan.arrays_ascend h stands l)) in
      let types : o.ctype ≡ plain (Array (plain_word (element_bytes slots plan p bits)) (row_count (each_in bits) (length (first_of slots plan p (key.Object i))))) =
      ap (λ (b : ℕ). plain (Array (plain_word (element_bytes slots plan p b)) (row_count (each_in b) (length (first_of slots plan p s.key))))) a.bits_is
      ∙ ap (λ (k : Key). plain (Array (plain_word (element_bytes slots plan p bits)) (row_count (each_in bits) (length (first_of slots plan p k))))) a.at.key in
      record {
        slot = n;
        its = s;
        of_object = a.at.key;
        object = o;
        made = ap (λ (b : ℕ). packed_object slots plan p s.name b (length (first_of slots plan p s.key)) (array_codes slots plan p n s)) a.bits_is;
        there = subst (λ (k : ℕ). slice_get q.objects k ≡ Some o) a.object_is (array_at place o at_place);
        type = types ∙ ap (λ (t : IntType). plain (Array (plain (Int t)) (row_count (each_in bits) (length (first_of slots plan p (key.Object i)))))) (element_type (bits == 16));
      }
    where
      element_type : (b : Bool) → word_type (if b then 2 else 1) ≡ (if b then UShort else UChar)
      element_type true = refl
      element_type false = refl

  pub array-there : (i object bits : ℕ) (code : Code) → home_of slots plan p (key.Object i) ≡ Some (InArray object bits code) → IsArrayOf slots plan p q i object bits
  array-there i object bits code e = array_for i object (each_in bits) bits (by_packed slots plan p i object (each_in bits) bits (Some (InArray object bits code)) e refl)
