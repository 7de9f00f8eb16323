-- A value is written from its last scalar to its first. So what a type writes is claimed of the pieces behind it: with so
-- many leaves left as stand in front of the further ones, fewer are left in front of its own, and the text in front of the
-- pieces is read as an initialiser that shows them.
use Rattle.std.proofs.Common.{arith, ◌≡◌, ◌<◌, ◌≤◌, ◌+◌, ℕ, zero, suc, ℤ, true, nat_lt, List, [], ◌∷◌, ◌++◌, map, replicate, take, length, Option, Some, None, slice_get, refl, ap, sym, ◌∙◌, subst, append_assoc, append-nil, true≢false}
use Rattle.std.proofs.lemmas.Option.{slice_get_within, get_or_from_slice_get}
use Rattle.std.specs.List.{All}
use Rattle.cc_program.specs.CcNum.declared.int_type.IntType.{IntType}
use Rattle.cc_program.specs.CcNum.Integers.{is_value_of}
use Rattle.cc_program.proofs.CcNum.ResultLaws.{value_from_test}
use Rattle.cc_lex.specs.declared.token.Kind.TheVariants as kind
use Rattle.cc_lex.specs.declared.token.Mark.TheVariants as m
use Rattle.cc_expression_trees.proofs.Integers.{constant-read}
use Rattle.cc_expression_trees.proofs.Numbers.{constant-fits}
use Rattle.cc_pieces.specs.Constants.{constant}
use Rattle.cc_pieces.specs.Pieces.{Pieces, punct, space, flat}
use Rattle.cc_expression_trees.specs.Laid.{laid}
use Rattle.cc_expression_trees.specs.Parts.{Fits, is_apart}
use Rattle.cc_print.specs.Values.{Filled, Filler, filled, in_front, separated, braced, elements, further_elements, further_members, all_members, scalar, int_leaf, pointer_leaf, address_text, filler, member_fillers, structure_filler, structure_fillers}
use Rattle.cc_print.proofs.FillerLemmas.{filler-Int, filler-Pointer, filler-Array, filler-Struct}
use Rattle.cc_program.specs.declared.program.Program.{Program}
use Rattle.cc_program.specs.declared.types.CType.{CType}
use Rattle.cc_program.specs.declared.types.Shape.{Shape, Int, Pointer, Array, Struct, out-Shape, roll-Shape, roll-out-Shape}
use Rattle.cc_program.specs.declared.types.Shape.TheOpen as shape
use Rattle.cc_program.specs.declared.types.Shape.TheVariants.{rolls-Int, rolls-Pointer, rolls-Array, rolls-Struct}
use Rattle.cc_program.specs.declared.types.Sig.{Sig}
use Rattle.cc_program.specs.declared.types.Structure.{Structure}
use Rattle.cc_program.specs.declared.value.Address.{Address}
use Rattle.cc_program.specs.declared.value.Leaf.{Leaf}
use Rattle.cc_program.specs.declared.value.Leaf.TheVariants as leaf
use Rattle.cc_typed.specs.CcSyntax.Initial.{OfInteger, OfPointer, OfArray, OfStructure, NoElement, Element, NoMember, Member}
use Rattle.cc_typed.specs.CcSyntax.Programs.{AreLeaves, AreElements, AreMembers, is_address}
use Rattle.cc_typed.specs.CcSyntax.Sound.{IsSound}
use Rattle.cc_typed.specs.CcSyntax.Types.{Named, has_members, is_complete}
use Rattle.cc_typed.specs.CcSyntax.Values.{pointer_to}
use Rattle.cc_typed.proofs.CcSyntax.Prefixes.{get_taken}
use Rattle.cc_tree.specs.declared.at.At.{At}
use Rattle.cc_tree.specs.declared.unit.Given as given
use Rattle.cc_tree.specs.declared.unit.Given.{Given}
use Rattle.cc_tree.specs.Statements.{IsGivens, OneValue, ManyValues, FirstValue, MoreValues}
use Rattle.cc_tree.specs.Terms.{NoComma}
use Rattle.cc_tree.specs.Tokens.{Tokens}
use Rattle.cc_expression_trees.specs.Soft.{IsSoft}
use Rattle.cc_expression_trees.proofs.TypeFitting.{comma-apart}
use Rattle.cc_unit_trees.specs.ValueNames.{HasUnitNames}
use Rattle.cc_unit_trees.specs.ReadValues.{ReadsGiven}
use Rattle.cc_unit_trees.specs.Values.{ShowsGiven, ShowsNumber, ShowsPointer, ShowsArray, ShowsStructure, ShowsEach, ShowsNone, ShowsMore}
use Rattle.cc_unit_trees.proofs.Addresses.{address-read}
use Rattle.cc_unit_trees.proofs.ValueFitting.{address-fits}
use Rattle.cc_unit_trees.proofs.Known.{array-complete, structure-complete, in-order}

-- ---- lists

take-twice : {A : Type 0} → (xs : List A) (i k : ℕ) → i ≤ k → take i (take k xs) ≡ take i xs
take-twice [] zero zero h = refl
take-twice [] zero (suc k) h = refl
take-twice [] (suc i) zero h = refl
take-twice [] (suc i) (suc k) h = refl
take-twice (x ∷ xs) zero zero h = refl
take-twice (x ∷ xs) zero (suc k) h = refl
take-twice (x ∷ xs) (suc i) zero h = absurd (omega (arith, h))
take-twice (x ∷ xs) (suc i) (suc k) h = ap (λ ys. x ∷ ys) (take-twice xs i k (omega (arith, h)))

-- one with members among the first ones is that of all
pub taken-is : (xs : List Structure) (k i : ℕ) (s : Structure) (o : Option Structure) → slice_get (take k xs) i ≡ o → has_members o ≡ true → slice_get xs i ≡ Some s → (i < k) × (slice_get (take k xs) i ≡ Some s) × (nat_lt 0 (length s.members) ≡ true)
taken-is xs k i s None e h g = absurd (true≢false (sym h))
taken-is xs k i s (Some r) e h g =
    let t = get_taken xs k i r e in
    let same : r ≡ s = cc in
    (t.0, e ∙ ap (λ x. Some x) same, subst (λ (x : Structure). nat_lt 0 (length x.members) ≡ true) same h)

pub all-head : {A : Type 0} (P : A → Type 0) (x : A) (xs : List A) → All P (x ∷ xs) → P x
all-head P x xs h = h 0 x (omega arith)

pub all-tail : {A : Type 0} (P : A → Type 0) (x : A) (xs : List A) → All P (x ∷ xs) → All P xs
all-tail P x xs h k d b = h (suc k) d (omega (arith, b))

-- ---- shapes

shape-is : (s : Shape) (x : shape.Shape-F Shape CType Sig) (t : Shape) → roll-Shape x ≡ t → out-Shape s ≡ x → s ≡ t
shape-is s x t r e = sym (roll-out-Shape s) ∙ ap roll-Shape e ∙ r

-- ---- elements from the first one on

abbrev tail : ℕ → Filler → Filler
tail zero of s = s
tail (suc n) of s = separated (of (tail n of s))

further-last : (n : ℕ) (of : Filler) (s : Filled) → further_elements (suc n) of s ≡ of (separated (further_elements n of s))
further-last zero of s = refl
further-last (suc n) of s = further-last n of (of (separated s))

elements-first : (n : ℕ) (of : Filler) (s : Filled) → elements (suc n) of s ≡ of (tail n of s)
elements-first zero of s = refl
elements-first (suc n) of s = further-last n of (of s) ∙ ap (λ r. of (separated r)) (elements-first n of s)

brace-apart : (text : List ℕ) → is_apart (kind.Punct m.LBrace) text ≡ true
brace-apart [] = refl
brace-apart (b ∷ text) = refl

unbrace-apart : (text : List ℕ) → is_apart (kind.Punct m.RBrace) text ≡ true
unbrace-apart [] = refl
unbrace-apart (b ∷ text) = refl

-- ---- where a value's scalars come from

-- The leaves that are left are those in front of further ones; so much holds of each list of further ones.
pub record IsSource (p : Program) (leaves : List Leaf) (Behind : List Leaf → Type 0) (left : List Leaf → ℕ) : Type 0 where
  pub tails : (l : Leaf) (rest : List Leaf) → Behind (l ∷ rest) → Behind rest
  pub ints : (i : IntType) (n : ℤ) (rest : List Leaf) → Behind (leaf.Int n ∷ rest) → (ps : Pieces) → scalar p leaves (int_leaf p i) (left rest) ps ≡ filled (left (leaf.Int n ∷ rest)) (constant p.target n i ps)
  pub places : (to : CType) (a : Address) (rest : List Leaf) → Behind (leaf.Place a ∷ rest) → (ps : Pieces) → scalar p leaves (pointer_leaf p to) (left rest) ps ≡ filled (left (leaf.Place a ∷ rest)) (address_text p to a ps)

-- ---- what is claimed

pub record Fills (p : Program) (S : Given → Type 0) (f : Filler) (before after : ℕ) (ps : Pieces) : Type 0 where
  pub text : Pieces
  pub is : f (filled after ps) ≡ filled before text
  pub reads : (at : ℕ) → ReadsGiven S at text ps
  pub fits : HasUnitNames p → Fits ps → IsSoft (flat ps) → Fits text

record ReadsGivens (S : List (At Given) → Type 0) (done : List (At Given)) (all : Tokens) (ps : Pieces) : Type 0 where
  givens : List (At Given)
  shows : S givens
  next : ℕ
  is : IsGivens [] (done ++ givens) all (laid next ps)

-- initialisers behind others, each with a comma in front
record FillsMore (p : Program) (S : List (At Given) → Type 0) (f : Filler) (before after : ℕ) (ps : Pieces) : Type 0 where
  text : Pieces
  is : f (filled after ps) ≡ filled before text
  reads : (done : List (At Given)) (all : Tokens) (at : ℕ) → IsGivens [] done all (laid at text) → ReadsGivens S done all ps
  fits : HasUnitNames p → Fits ps → IsSoft (flat ps) → Fits text × IsSoft (flat text)

-- the same by another equation, and what it shows by another reason
refilled : {p : Program} {S T : Given → Type 0} (f g : Filler) {before after : ℕ} {ps : Pieces} → f (filled after ps) ≡ g (filled after ps) → ((x : Given) → S x → T x) → Fills p S g before after ps → Fills p T f before after ps
refilled f g e k h = record {
  text = h.text;
  is = e ∙ h.is;
  reads = λ at. let r = h.reads at in record { given = r.given; shows = k r.given.node r.shows; next = r.next; is = r.is };
  fits = h.fits;
}

-- initialisers in braces
data ShowsMany (p : Program) (ts : List CType) (xs rest : List Leaf) : Given → Type 0 where
  Many : (gs : List (At Given)) → ShowsEach p ts xs rest gs → ShowsMany p ts xs rest (given.Many gs)

shows-array : {p : Program} (t of : CType) (n : ℕ) (xs rest : List Leaf) → out-Shape t.shape ≡ shape.Array of n → (g : Given) → ShowsMany p (replicate n of) xs rest g → ShowsGiven p t xs rest g
shows-array t of n xs rest e _ (Many gs h) = ShowsArray t of n xs rest gs e h

shows-structure : {p : Program} (t : CType) (i : ℕ) (s : Structure) (xs rest : List Leaf) → out-Shape t.shape ≡ shape.Struct i → slice_get p.structures i ≡ Some s → (g : Given) → ShowsMany p (map (λ l. l.1) s.members) xs rest g → ShowsGiven p t xs rest g
shows-structure t i s xs rest e f _ (Many gs h) = ShowsStructure t i s xs rest gs e f h

module _ (p : Program) where
  none-more : (rest : List Leaf) (n : ℕ) (ps : Pieces) → FillsMore p (ShowsEach p [] rest rest) (λ s. s) n n ps
  none-more rest n ps = record {
    text = ps;
    is = refl;
    reads = λ done all at h. record { givens = []; shows = ShowsNone rest; next = at; is = subst (λ gs. IsGivens [] gs all (laid at ps)) (sym (append-nil done)) h };
    fits = λ names f s. (f, s);
  }

  one-more : (t : CType) (ts : List CType) (xs between rest : List Leaf) (first more : Filler) (a b c : ℕ) (ps : Pieces) → (k : FillsMore p (ShowsEach p ts between rest) more b c ps) → Fills p (ShowsGiven p t xs between) first a b k.text →
      FillsMore p (ShowsEach p (t ∷ ts) xs rest) (λ s. separated (first (more s))) a c ps
  one-more t ts xs between rest first more a b c ps k h = record {
    text = punct m.Comma ∷ space ∷ h.text;
    is = ap separated (ap first k.is ∙ h.is);
    reads = λ done all at i.
        let r = h.reads (at + 1 + 1) in
        let q = k.reads (done ++ r.given ∷ []) all r.next (MoreValues [] done r.given (at, 1) all _ _ i r.is) in
        record {
          givens = r.given ∷ q.givens;
          shows = ShowsMore t ts xs between rest r.given q.givens r.shows q.shows;
          next = q.next;
          is = subst (λ gs. IsGivens [] gs all (laid q.next ps)) (append_assoc done (r.given ∷ []) q.givens) q.is;
        };
    fits = λ names f s. let g = k.fits names f s in ((refl, comma-apart (flat (space ∷ h.text)), (refl, h.fits names g.0 g.1)), refl);
  }

  -- in braces
  in-braces : (t : CType) (ts : List CType) (xs between rest : List Leaf) (first more : Filler) (a b c : ℕ) (ps : Pieces) → (k : FillsMore p (ShowsEach p ts between rest) more b c (punct m.RBrace ∷ ps)) →
      Fills p (ShowsGiven p t xs between) first a b k.text → Fills p (ShowsMany p (t ∷ ts) xs rest) (braced (λ s. first (more s))) a c ps
  in-braces t ts xs between rest first more a b c ps k h = record {
    text = punct m.LBrace ∷ h.text;
    is = ap (in_front (λ qs. punct m.LBrace ∷ qs)) (ap first k.is ∙ h.is);
    reads = λ at.
        let r = h.reads (at + 1) in
        let q = k.reads (r.given ∷ []) (laid (at + 1) h.text) r.next (FirstValue [] r.given _ _ r.is) in
        record {
          given = record { at = at; node = given.Many (r.given ∷ q.givens) };
          shows = Many (r.given ∷ q.givens) (ShowsMore t ts xs between rest r.given q.givens r.shows q.shows);
          next = q.next + 1;
          is = ManyValues [] (r.given ∷ q.givens) (at, 1) (q.next, 1) _ _ _ q.is (NoComma _);
        };
    fits = λ names f s. let g = k.fits names (refl, unbrace-apart (flat ps), f) refl in (refl, brace-apart (flat h.text), h.fits names g.0 g.1);
  }

-- ---- the law, by induction over the leaves of a type

module _ (p : Program) (sound : IsSound p) (leaves : List Leaf) (Behind : List Leaf → Type 0) (left : List Leaf → ℕ) (source : IsSource p leaves Behind left) where
  abbrev known : ℕ → List Structure
  known k = take k p.structures

  mutual
    behind-given : {t : CType} {xs rest : List Leaf} → AreLeaves p t xs rest → Behind xs → Behind rest
    behind-given (OfInteger t i n rest e v) h = source.tails (leaf.Int n) rest h
    behind-given (OfPointer t to a rest e v) h = source.tails (leaf.Place a) rest h
    behind-given (OfArray t of n xs rest e d) h = behind-elements d h
    behind-given (OfStructure t i s xs rest e g d) h = behind-members d h

    behind-elements : {of : CType} {n : ℕ} {xs rest : List Leaf} → AreElements p of n xs rest → Behind xs → Behind rest
    behind-elements (NoElement of rest) h = h
    behind-elements (Element of n xs between rest d ds) h = behind-elements ds (behind-given d h)

    behind-members : {ms : List Named} {xs rest : List Leaf} → AreMembers p ms xs rest → Behind xs → Behind rest
    behind-members (NoMember rest) h = h
    behind-members (Member l ms xs between rest d ds) h = behind-members ds (behind-given d h)

  abbrev FillsType : ℕ → CType → List Leaf → List Leaf → Type 0
  FillsType k t xs rest = (ps : Pieces) → Fills p (ShowsGiven p t xs rest) (filler p leaves (known k) t) (left xs) (left rest) ps

  number-fills : (k : ℕ) (t : CType) (i : IntType) (n : ℤ) (rest : List Leaf) → out-Shape t.shape ≡ shape.Int i → is_value_of i p.target n ≡ true → Behind (leaf.Int n ∷ rest) → FillsType k t (leaf.Int n ∷ rest) rest
  number-fills k t i n rest e v b ps = record {
    text = constant p.target n i ps;
    is = filler-Int p leaves (known k) t (filled (left rest) ps) i (shape-is t.shape (shape.Int i) (Int i) (rolls-Int i) e) ∙ source.ints i n rest b ps;
    reads = λ at.
        let r = constant-read p.target n i 1 at ps in
        record { given = record { at = r.tree.at; node = given.One r.tree }; shows = ShowsNumber t i n rest r.tree e r.shows; next = r.next; is = OneValue [] r.tree _ _ r.is };
    fits = λ names f s. (constant-fits p.target n i (value_from_test i p.target n v) ps f s).0;
  }

  place-fills : (k : ℕ) (t to : CType) (a : Address) (rest : List Leaf) → out-Shape t.shape ≡ shape.Pointer to → is_address p (pointer_to to) a ≡ true → Behind (leaf.Place a ∷ rest) → FillsType k t (leaf.Place a ∷ rest) rest
  place-fills k t to a rest e v b ps = record {
    text = address_text p to a ps;
    is = filler-Pointer p leaves (known k) t (filled (left rest) ps) to (shape-is t.shape (shape.Pointer to) (Pointer to) (rolls-Pointer to) e) ∙ source.places to a rest b ps;
    reads = λ at.
        let r = address-read p to a v at ps in
        record { given = record { at = r.tree.at; node = given.One r.tree }; shows = ShowsPointer t to a rest r.tree e r.shows; next = r.next; is = OneValue [] r.tree _ _ r.is };
    fits = λ names f s. address-fits p sound.structures names sound.objects to a v ps f s;
  }

  mutual
    pub given-fills : (k : ℕ) {t : CType} {xs rest : List Leaf} → AreLeaves p t xs rest → is_complete (known k) t ≡ true → Behind xs → FillsType k t xs rest
    given-fills k (OfInteger t i n rest e v) c b ps = number-fills k t i n rest e v b ps
    given-fills k (OfPointer t to a rest e v) c b ps = place-fills k t to a rest e v b ps
    given-fills k (OfArray t of n xs rest e d) c b ps =
        let g = array-complete (known k) t of n e c in
        refilled (filler p leaves (known k) t) (braced (elements n (filler p leaves (known k) of))) (filler-Array p leaves (known k) t (filled (left rest) ps) of n (shape-is t.shape (shape.Array of n) (Array of n) (rolls-Array of n) e))
        (shows-array t of n xs rest e) (elements-fill k d g.0 g.1 b ps)
    given-fills k (OfStructure t i s xs rest e g d) c b ps =
        let q = taken-is p.structures k i s (slice_get (known k) i) refl (structure-complete (known k) t i e c) g in
        let less : i < k = q.0 in
        let same = take-twice p.structures i k (omega (arith, less)) in
        refilled (filler p leaves (known k) t) (structure_filler p leaves (structure_fillers p leaves (known i)) s)
        (filler-Struct p leaves (known k) t (filled (left rest) ps) i s (shape-is t.shape (shape.Struct i) (Struct i) (rolls-Struct i) e) (slice_get_within (known k) i s q.1) (sym (get_or_from_slice_get (known k) i s s q.1))
        ∙ ap (λ (ss : List Structure). structure_filler p leaves (structure_fillers p leaves ss) s (filled (left rest) ps)) same)
        (shows-structure t i s xs rest e g) (members-fill i d q.2 (in-order p sound i s g) b ps)

    elements-fill : (k : ℕ) {of : CType} {n : ℕ} {xs rest : List Leaf} → AreElements p of n xs rest → nat_lt 0 n ≡ true → is_complete (known k) of ≡ true → Behind xs → (ps : Pieces) →
        Fills p (ShowsMany p (replicate n of) xs rest) (braced (elements n (filler p leaves (known k) of))) (left xs) (left rest) ps
    elements-fill k (NoElement of rest) h c b ps = absurd (true≢false (sym h))
    elements-fill k (Element of n xs between rest d ds) h c b ps =
        let F = filler p leaves (known k) of in
        let more = elements-more k ds c (behind-given d b) (punct m.RBrace ∷ ps) in
        refilled (braced (elements (suc n) F)) (braced (λ s. F (tail n F s)))
        (ap (in_front (λ qs. punct m.LBrace ∷ qs)) (elements-first n F (in_front (λ qs. punct m.RBrace ∷ qs) (filled (left rest) ps)))) (λ x s. s)
        (in-braces p of (replicate n of) xs between rest F (tail n F) (left xs) (left between) (left rest) ps more (given-fills k d c b more.text))

    elements-more : (k : ℕ) {of : CType} {n : ℕ} {xs rest : List Leaf} → AreElements p of n xs rest → is_complete (known k) of ≡ true → Behind xs → (ps : Pieces) →
        FillsMore p (ShowsEach p (replicate n of) xs rest) (tail n (filler p leaves (known k) of)) (left xs) (left rest) ps
    elements-more k (NoElement of rest) c b ps = none-more p rest (left rest) ps
    elements-more k (Element of n xs between rest d ds) c b ps =
        let F = filler p leaves (known k) of in
        let more = elements-more k ds c (behind-given d b) ps in
        one-more p of (replicate n of) xs between rest F (tail n F) (left xs) (left between) (left rest) ps more (given-fills k d c b more.text)

    members-fill : (i : ℕ) {ms : List Named} {xs rest : List Leaf} → AreMembers p ms xs rest → nat_lt 0 (length ms) ≡ true → All (λ l. is_complete (known i) l.1 ≡ true) ms → Behind xs → (ps : Pieces) →
        Fills p (ShowsMany p (map (λ l. l.1) ms) xs rest) (braced (all_members (member_fillers p leaves (structure_fillers p leaves (known i)) ms))) (left xs) (left rest) ps
    members-fill i (NoMember rest) h c b ps = absurd (true≢false (sym h))
    members-fill i (Member l ms xs between rest d ds) h c b ps =
        let F = filler p leaves (known i) l.1 in
        let fs = member_fillers p leaves (structure_fillers p leaves (known i)) ms in
        let more = members-more i ds (all-tail (λ l. is_complete (known i) l.1 ≡ true) l ms c) (behind-given d b) (punct m.RBrace ∷ ps) in
        in-braces p l.1 (map (λ l. l.1) ms) xs between rest F (further_members fs) (left xs) (left between) (left rest) ps more
        (given-fills i d (all-head (λ l. is_complete (known i) l.1 ≡ true) l ms c) b more.text)

    members-more : (i : ℕ) {ms : List Named} {xs rest : List Leaf} → AreMembers p ms xs rest → All (λ l. is_complete (known i) l.1 ≡ true) ms → Behind xs → (ps : Pieces) →
        FillsMore p (ShowsEach p (map (λ l. l.1) ms) xs rest) (further_members (member_fillers p leaves (structure_fillers p leaves (known i)) ms)) (left xs) (left rest) ps
    members-more i (NoMember rest) c b ps = none-more p rest (left rest) ps
    members-more i (Member l ms xs between rest d ds) c b ps =
        let F = filler p leaves (known i) l.1 in
        let fs = member_fillers p leaves (structure_fillers p leaves (known i)) ms in
        let more = members-more i ds (all-tail (λ l. is_complete (known i) l.1 ≡ true) l ms c) (behind-given d b) ps in
        one-more p l.1 (map (λ l. l.1) ms) xs between rest F (further_members fs) (left xs) (left between) (left rest) ps more
        (given-fills i d (all-head (λ l. is_complete (known i) l.1 ≡ true) l ms c) b more.text)
