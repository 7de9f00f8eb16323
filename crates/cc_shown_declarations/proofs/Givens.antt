-- Initialisers that show first values give them: by induction over what shows them, where structures nest as deep as their
-- members are complete.
use Rattle.std.proofs.Common.{◌≡◌, ◌≤◌, ◌<◌, ℕ, ℤ, zero, suc, Bool, true, false, ◌||◌, List, [], ◌∷◌, ◌++◌, map, replicate, length, take, Option, Some, None, Ok, refl, ap, sym, ◌∙◌, subst, append_assoc, slice_get, nat_lt, arith}
use Rattle.std.proofs.lemmas.List.{append-nil, map-append}
use Rattle.std.specs.Prelude.{option_to_list, is_some, if◌then◌else◌}
use Rattle.std.specs.List.{All}
use Rattle.cc_expression_trees.specs.Constants.{ShowsInteger, InParens as IntegerInParens, ShowsNatural, ShowsNegative, ShowsLeast, IsZero, Zero, ZeroInParens}
use Rattle.cc_type.specs.CcDesignators.Designators.{TypedExpr, IsValue}
use Rattle.cc_type.specs.CcInitial.Addresses.{integer_leaf, leaf_of}
use Rattle.cc_type.specs.CcInitialisers.Contents.{Contents, Scalar, Elements, Inside, contents_over, of_members, members_at, structure_inside}
use Rattle.cc_type.specs.CcInitialisers.Initialisers.{Step, Give, Initialiser, Init, Filled, is_scalar_object, both_filled, repeated, started, elided, nothing_left, initialiser_of, initialised, here as given_here, text_in, expression_text, sole_text}
use Rattle.cc_type.proofs.CcInitialisers.Layers.{initialiser-One, initialiser-Many}
use Rattle.cc_type.specs.CcLex.declared.token.Mark.TheVariants as m
use Rattle.cc_program.specs.CcNum.declared.int_type.IntType.{IntType}
use Rattle.cc_program.specs.CcNum.Integers.{is_value_of}
use Rattle.cc_type.specs.CcObjects.Values.{objects_in, leaf_given, no_leaf}
use Rattle.cc_type.specs.CcOperands.Operands.{Operand, integer}
use Rattle.cc_type.specs.CcOperands.Verdicts.{Judged, judge_then}
use Rattle.cc_shown_expressions.proofs.ChoiceRules.{constancy-of}
use Rattle.cc_shown_declarations.proofs.Located.{integer-assigned}
use Rattle.cc_type.specs.CcTypedTerms.Values.{valued}
use Rattle.cc_program.specs.declared.func.Func.{Func}
use Rattle.cc_program.specs.declared.object.Object.{Object}
use Rattle.cc_program.specs.declared.program.Program.{Program}
use Rattle.cc_program.specs.declared.types.CType.{CType}
use Rattle.cc_program.specs.declared.types.Shape.{Shape, out-Shape}
use Rattle.cc_program.specs.declared.types.Shape.TheOpen as shape
use Rattle.cc_program.specs.declared.types.Sig.{Sig}
use Rattle.cc_program.specs.declared.types.Structure.{Structure}
use Rattle.cc_program.specs.declared.value.Address.{Address}
use Rattle.cc_program.specs.declared.value.Leaf.{Leaf}
use Rattle.cc_program.specs.declared.value.Leaf.TheVariants as leaf
use Rattle.cc_type.specs.CcScopes.State.{State, structures_of}
use Rattle.cc_type.specs.CcScopes.Verdicts.{Found, whole, and_then}
use Rattle.cc_type.specs.CcSyntax.Initial.{OfInteger, OfPointer, OfArray, OfStructure, NoElement, Element, NoMember, Member}
use Rattle.cc_type.specs.CcSyntax.Programs.{AreLeaves, AreElements, AreMembers, is_address}
use Rattle.cc_type.specs.CcSyntax.Sizes.{AreSized}
use Rattle.cc_type.specs.CcSyntax.Types.{Named, has_members, complete_shape, is_complete}
use Rattle.cc_type.specs.CcSyntax.Values.{ValueType, Integer, pointer_to}
use Rattle.cc_type.proofs.CcSyntax.Parts.{all_at}
use Rattle.cc_type.proofs.CcSyntax.Prefixes.{both_true, get_taken}
use Rattle.cc_type.proofs.CcSyntax.TypeLayouts.{parts_complete, complete-opens}
use Rattle.cc_type.specs.CcTerms.InTurn.{in_turn}
use Rattle.cc_tree.specs.declared.at.At.{At}
use Rattle.cc_tree.specs.declared.tree.Tree.{Tree, out-Tree}
use Rattle.cc_tree.specs.declared.tree.Tree.TheVariants as tree_rolls
use Rattle.cc_tree.specs.declared.unit.Given as given
use Rattle.cc_tree.specs.declared.unit.Given.{Given}
use Rattle.cc_expression_trees.specs.Types.{plain_suffix}
use Rattle.cc_type.specs.CcTypedBodies.Plans.{as_given, step_done}
use Rattle.cc_unit_trees.specs.Values.{ShowsAddress, AddressInParens, ShowsNull, ShowsFunction, ShowsElementAddress, ShowsWholeAddress, ShowsPast, ShowsGiven, ShowsNumber, ShowsPointer, ShowsArray, ShowsStructure, ShowsEach, ShowsNone, ShowsMore}
use Rattle.cc_shown_expressions.proofs.Constants.{integer-found}
use Rattle.cc_shown_expressions.specs.KnownNames.{TypesStand}
use Rattle.cc_shown_expressions.specs.OperationNumbers.{Numbers}
use Rattle.cc_shown_expressions.specs.Numbers.{type_numbered, named_numbered}
use Rattle.cc_shown_expressions.proofs.Numbering.{level-at}
use Rattle.cc_shown_expressions.proofs.Words.{in-turn-append}
use Rattle.cc_shown_declarations.specs.Known.{KnowsStatics}
use Rattle.cc_shown_declarations.specs.Numbers.{leaf_numbered}
use Rattle.cc_shown_declarations.proofs.Addresses.{LeafShown, address-shown}
use Rattle.cc_shown_declarations.proofs.Contents.{contents-at, IsForm, started-shown, scalar-alone, list-alone-taken, list-is-form, scalar-is-form, members-plain}

-- ---- no string shows a value

integer-no-text : (p : Program) (n : ℤ) (t : IntType) (x : Tree) → ShowsInteger p.target n t x → text_in (out-Tree x) ≡ None
integer-no-text p _ _ _ (IntegerInParens n t x h) = ap text_in (tree_rolls.outs-Paren x)
integer-no-text p _ _ _ (ShowsNatural n t h) = ap text_in (tree_rolls.outs-Number _ _)
integer-no-text p _ _ _ (ShowsNegative n t at h k) = ap text_in (tree_rolls.outs-Prefix m.Minus _)
integer-no-text p _ _ _ (ShowsLeast n t a b c h k) = ap text_in (tree_rolls.outs-Binary m.Minus _ _)

zero-no-text : (x : Tree) → IsZero x → text_in (out-Tree x) ≡ None
zero-no-text _ Zero = ap text_in (tree_rolls.outs-Number 0 (plain_suffix 0))
zero-no-text _ (ZeroInParens x h) = ap text_in (tree_rolls.outs-Paren x)

address-no-text : (p : Program) (to : CType) (a : Address) (x : Tree) → ShowsAddress p to a x → text_in (out-Tree x) ≡ None
address-no-text p to _ _ (AddressInParens a x h) = ap text_in (tree_rolls.outs-Paren x)
address-no-text p to _ _ (ShowsNull x h) = zero-no-text x h
address-no-text p to _ _ (ShowsFunction i g there) = ap text_in (tree_rolls.outs-Named g.name)
address-no-text p to _ _ (ShowsElementAddress object path index count x h) = ap text_in (tree_rolls.outs-Prefix m.Amp x)
address-no-text p to _ _ (ShowsWholeAddress object path a x l g h) = ap text_in (tree_rolls.outs-Prefix m.Amp x)
address-no-text p to _ _ (ShowsPast object path x y h i) = ap text_in (tree_rolls.outs-Binary m.Plus x y)

one-text : (x : At Tree) → text_in (out-Tree x.node) ≡ None → (initialiser_of (given.One x)).text ≡ None
one-text x h = ap (λ (i : Initialiser). i.text) (initialiser-One (given.One x) x refl) ∙ h

many-text : (gs : List (At Given)) → (initialiser_of (given.Many gs)).text ≡ sole_text (map given_here gs)
many-text gs = ap (λ (i : Initialiser). i.text) (initialiser-Many (given.Many gs) gs refl)

-- where there is a text in the list, it is that of its one initialiser
text-of-text : (i : Initialiser) → i.text ≡ None → expression_text i ≡ None
text-of-text i h = by (is_some i.expression)
  where
    by : (b : Bool) → (if b then i.text else None) ≡ None
    by true = h
    by false = refl

sole-none : (gs : List (At Given)) → ((g : At Given) (rest : List (At Given)) → gs ≡ g ∷ rest → (initialiser_of g.node).text ≡ None) → sole_text (map given_here gs) ≡ None
sole-none [] h = refl
sole-none (g ∷ []) h = text-of-text (initialiser_of g.node) (h g [] refl)
sole-none (g ∷ f ∷ gs) h = refl

-- ---- what is complete over the first structures

complete-as : (structures : List Structure) (t : CType) (x : shape.Shape-F Shape CType Sig) → out-Shape t.shape ≡ x → is_complete structures t ≡ true → complete_shape structures (parts_complete structures x) ≡ true
complete-as structures t x e h = sym (complete-opens structures t ∙ ap (λ y. complete_shape structures (parts_complete structures y)) e) ∙ h

struct-below : (structures : List Structure) (k i : ℕ) (o : Option Structure) → slice_get (take k structures) i ≡ o → has_members o ≡ true → i < k
struct-below structures k i None e h = absurd (cc)
struct-below structures k i (Some r) e h = (get_taken structures k i r e).0

-- ---- leaves, by the type

module _ (p : Program) where
  record IntegerLeaf (i : IntType) (n : ℤ) (rest more : List Leaf) : Type 0 where
    same : rest ≡ more
    value : is_value_of i p.target n ≡ true

  integer-leaf : (t : CType) (ls more : List Leaf) (i : IntType) (n : ℤ) (rest : List Leaf) → AreLeaves p t ls more → out-Shape t.shape ≡ shape.Int i → ls ≡ leaf.Int n ∷ rest → IntegerLeaf i n rest more
  integer-leaf _ _ _ i n rest (OfInteger t j k more e h) f g =
      let same : j ≡ i = cc in let number : k ≡ n = cc in let behind : rest ≡ more = cc in
      record { same = behind; value = subst (λ (j : IntType). is_value_of j p.target n ≡ true) same (subst (λ (k : ℤ). is_value_of j p.target k ≡ true) number h) }
  integer-leaf _ _ _ i n rest (OfPointer t to a more e h) f g = absurd (cc)
  integer-leaf _ _ _ i n rest (OfArray t of k ls more e h) f g = absurd (cc)
  integer-leaf _ _ _ i n rest (OfStructure t j r ls more e h k) f g = absurd (cc)

  record PointerLeaf (to : CType) (a : Address) (rest more : List Leaf) : Type 0 where
    same : rest ≡ more
    value : is_address p (pointer_to to) a ≡ true

  pointer-leaf : (t : CType) (ls more : List Leaf) (to : CType) (a : Address) (rest : List Leaf) → AreLeaves p t ls more → out-Shape t.shape ≡ shape.Pointer to → ls ≡ leaf.Place a ∷ rest → PointerLeaf to a rest more
  pointer-leaf _ _ _ to a rest (OfInteger t j k more e h) f g = absurd (cc)
  pointer-leaf _ _ _ to a rest (OfPointer t to' b more e h) f g =
      let same : to' ≡ to = cc in let addresses : b ≡ a = cc in let behind : rest ≡ more = cc in
      record { same = behind; value = subst (λ (u : CType). is_address p (pointer_to u) a ≡ true) same (subst (λ (b : Address). is_address p (pointer_to to') b ≡ true) addresses h) }
  pointer-leaf _ _ _ to a rest (OfArray t of k ls more e h) f g = absurd (cc)
  pointer-leaf _ _ _ to a rest (OfStructure t j r ls more e h k) f g = absurd (cc)

  array-leaves : (t : CType) (ls more : List Leaf) (of : CType) (n : ℕ) → AreLeaves p t ls more → out-Shape t.shape ≡ shape.Array of n → AreElements p of n ls more
  array-leaves _ _ _ of n (OfInteger t j k more e h) f = absurd (cc)
  array-leaves _ _ _ of n (OfPointer t to a more e h) f = absurd (cc)
  array-leaves _ _ _ of n (OfArray t of' k ls more e h) f =
      let same : of' ≡ of = cc in let count : k ≡ n = cc in
      subst (λ (u : CType). AreElements p u n ls more) same (subst (λ (k : ℕ). AreElements p of' k ls more) count h)
  array-leaves _ _ _ of n (OfStructure t j r ls more e h k) f = absurd (cc)

  structure-leaves : (t : CType) (ls more : List Leaf) (i : ℕ) (r : Structure) → AreLeaves p t ls more → out-Shape t.shape ≡ shape.Struct i → slice_get p.structures i ≡ Some r → AreMembers p r.members ls more
  structure-leaves _ _ _ i r (OfInteger t j k more e h) f g = absurd (cc)
  structure-leaves _ _ _ i r (OfPointer t to a more e h) f g = absurd (cc)
  structure-leaves _ _ _ i r (OfArray t of k ls more e h) f g = absurd (cc)
  structure-leaves _ _ _ i r (OfStructure t j r' ls more e h k) f g =
      let same : j ≡ i = cc in
      let there : slice_get p.structures i ≡ Some r' = ap (slice_get p.structures) (sym same) ∙ h in
      let structure : r' ≡ r = cc in
      subst (λ (r : Structure). AreMembers p r.members ls more) structure k

  no-element : (of : CType) (rest more : List Leaf) → AreElements p of 0 rest more → rest ≡ more
  no-element _ _ _ (NoElement of rest) = refl

  one-element : (of : CType) (n : ℕ) (ls more : List Leaf) → AreElements p of (suc n) ls more → (between : List Leaf) × AreLeaves p of ls between × AreElements p of n between more
  one-element _ _ _ _ (Element of n ls between more h k) = (between, h, k)

  no-member : (rest more : List Leaf) → AreMembers p [] rest more → rest ≡ more
  no-member _ _ (NoMember rest) = refl

  one-member : (l : Named) (ms : List Named) (ls more : List Leaf) → AreMembers p (l ∷ ms) ls more → (between : List Leaf) × AreLeaves p l.1 ls between × AreMembers p ms between more
  one-member _ _ _ _ (Member l ms ls between more h k) = (between, h, k)

module _ (p : Program) (f : Func) (n : Numbers) (s : State) (sized : AreSized p.structures p.target) (known : KnowsStatics p n s) (stand : TypesStand p f)
    (complete : (i : ℕ) (o : Object) → slice_get p.objects i ≡ Some o → is_complete p.structures o.ctype ≡ true) where
  abbrev numbered : CType → CType
  numbered t = type_numbered n.structure t

  abbrev done : Step → List Leaf → State → Found (List Leaf)
  done step before s = step_done p.target p.roles Leaf (leaf_given p.target) no_leaf step before s

  abbrev inside_at : ℕ → ℕ → Inside
  inside_at depth = structure_inside (structures_of s) depth

  -- steps that give such leaves, whatever stands before
  abbrev pub Give_all : List Step → List Leaf → Type 0
  Give_all steps own = (before : List Leaf) → in_turn done steps before s ≡ Ok (before ++ map (leaf_numbered n) own, s)

  gives-nothing : Give_all [] []
  gives-nothing before = ap (λ (ls : List Leaf). Ok (ls, s)) (sym (append-nil before))

  gives-both : (xs ys : List Step) (own more : List Leaf) → Give_all xs own → Give_all ys more → Give_all (xs ++ ys) (own ++ more)
  gives-both xs ys own more h k before =
      in-turn-append done xs ys before (before ++ map (leaf_numbered n) own) s s (h before)
      ∙ k (before ++ map (leaf_numbered n) own)
      ∙ ap (λ (ls : List Leaf). Ok (ls, s)) (append_assoc before (map (leaf_numbered n) own) (map (leaf_numbered n) more) ∙ ap (λ (ls : List Leaf). before ++ ls) (sym (map-append (leaf_numbered n) own more)))

  -- ---- a scalar

  scalar-gives : (constant : Bool) (w : ValueType) (x : At Tree) (l : Leaf) → LeafShown p f n s sized known stand complete w x.node x.at (leaf_numbered n l) → Give_all (Give constant w x ∷ []) (l ∷ [])
  scalar-gives constant w x l q before =
      ap (λ (r : Found TypedExpr). and_then (and_then (and_then (and_then r (valued x.at)) (λ y s. as_given (whole x.at s (leaf_given p.target constant w y s)))) (λ y s. Ok (before ++ option_to_list y, s))) (in_turn done [])) q.is
      ∙ ap (λ (r : Found Operand). and_then (and_then (and_then r (λ y s. as_given (whole x.at s (leaf_given p.target constant w y s)))) (λ y s. Ok (before ++ option_to_list y, s))) (in_turn done [])) (q.value x.at)
      ∙ ap (λ (j : Judged Leaf). and_then (and_then (as_given (whole x.at s j)) (λ y s. Ok (before ++ option_to_list y, s))) (in_turn done [])) (q.leaf constant)

  -- what an initialiser, with what stands behind its leaves, gives to an object of such contents
  pub record Gives (c : Contents) (at : ℕ) (x : Given) (leaves rest : List Leaf) : Type 0 where
    pub own : List Leaf
    pub split : leaves ≡ own ++ rest
    pub form : IsForm c x
    pub gives : Give_all (initialised c (given_here (record { at = at; node = x }))) own

  integer-shown : (i : IntType) (k : ℤ) (x : Tree) (at : ℕ) → ShowsInteger p.target k i x → is_value_of i p.target k ≡ true → LeafShown p f n s sized known stand complete (Integer i) x at (leaf.Int k)
  integer-shown i k x at h v =
      let q = integer-found p.target p.roles s k i x h v at in
      record {
        found = IsValue (integer k q.type);
        is = q.is;
        taken = integer k q.type;
        value = λ j. refl;
        leaf = λ constant. ap (λ (j : Judged Operand). judge_then j (λ y. leaf_of (structures_of s) (objects_in s) y)) (integer-assigned p.target k q.type i v)
            ∙ ap integer_leaf (constancy-of p.target k i);
      }

  by-contents : (c d : Contents) (at : ℕ) (x : Given) (leaves rest : List Leaf) → c ≡ d → Gives d at x leaves rest → Gives c at x leaves rest
  by-contents c d at x leaves rest e q = subst (λ (b : Contents). Gives b at x leaves rest) (sym e) q

  one-gives : (constant : Bool) (w : ValueType) (at : ℕ) (x : At Tree) (l : Leaf) (rest : List Leaf) → text_in (out-Tree x.node) ≡ None → LeafShown p f n s sized known stand complete w x.node x.at (leaf_numbered n l) →
      Gives (Scalar constant w) at (given.One x) (l ∷ rest) rest
  one-gives constant w at x l rest h q = record {
    own = l ∷ [];
    split = refl;
    form = scalar-is-form constant w x (one-text x h);
    gives = subst (λ (steps : List Step). Give_all steps (l ∷ [])) (sym (scalar-alone constant w at x)) (scalar-gives constant w x l q);
  }

  -- ---- a list

  pub record Fills (filled : Filled) (gs : List (At Given)) (leaves rest : List Leaf) : Type 0 where
    pub own : List Leaf
    pub split : leaves ≡ own ++ rest
    pub left : filled.1 ≡ []
    pub gives : Give_all filled.0 own
    -- none is a string
    pub texts : (g : At Given) (more : List (At Given)) → gs ≡ g ∷ more → (initialiser_of g.node).text ≡ None

  list-gives : (c : Contents) (at : ℕ) (gs : List (At Given)) (leaves rest : List Leaf) → is_scalar_object c ≡ false → Fills (elided c at (map given_here gs)) gs leaves rest → Gives c at (given.Many gs) leaves rest
  list-gives c at gs leaves rest plain q =
      let text = many-text gs ∙ sole-none gs q.texts in
      let filled = elided c at (map given_here gs) in
      record {
        own = q.own;
        split = q.split;
        form = list-is-form c gs plain text;
        gives = subst (λ (steps : List Step). Give_all steps q.own) (sym (list-alone-taken c at gs plain text ∙ ap (λ (left : List Init). filled.0 ++ nothing_left left) q.left ∙ append-nil filled.0)) q.gives;
      }

  no-fills : (leaves rest : List Leaf) → leaves ≡ rest → Fills ([], []) [] leaves rest
  no-fills leaves rest e = record { own = []; split = e; left = refl; gives = gives-nothing; texts = λ g more h. absurd (cc) }

  head-text : (g f : At Given) (gs more : List (At Given)) → g ∷ gs ≡ f ∷ more → (initialiser_of g.node).text ≡ None → (initialiser_of f.node).text ≡ None
  head-text g f gs more e h = let same : g ≡ f = cc in subst (λ (x : At Given). (initialiser_of x.node).text ≡ None) same h

  -- the first of them, and then the others
  both-fills : (c : Contents) (at : ℕ) (g : At Given) (gs : List (At Given)) (next : List Init → Filled) (leaves between rest : List Leaf) → Gives c g.at g.node leaves between → Fills (next (map given_here gs)) gs between rest →
      Fills (both_filled (started c (elided c) at (given_here g ∷ map given_here gs)) next) (g ∷ gs) leaves rest
  both-fills c at g gs next leaves between rest q r =
      let first = started-shown c g at (map given_here gs) q.form in
      let steps = initialised c (given_here g) in
      subst (λ (x : Filled). Fills (both_filled x next) (g ∷ gs) leaves rest) (sym first)
      (record {
        own = q.own ++ r.own;
        split = q.split ∙ ap (λ (ls : List Leaf). q.own ++ ls) r.split ∙ sym (append_assoc q.own r.own rest);
        left = r.left;
        gives = gives-both steps (next (map given_here gs)).0 q.own r.own q.gives r.gives;
        texts = λ f more h. head-text g f gs more h q.form.text;
      })

  -- ---- members, by those of the program

  abbrev member_inside : ℕ → Named → Inside
  member_inside depth l = contents_over (inside_at depth) (numbered l.1)

  member-map : (depth : ℕ) (ms : List Named) → map (λ (l : Named). contents_over (inside_at depth) l.1) (map (named_numbered n.structure) ms) ≡ map (member_inside depth) ms
  member-map depth [] = refl
  member-map depth (l ∷ ls) = ap (λ (is : List Inside). member_inside depth l ∷ is) (member-map depth ls)

  structure-opens : (depth i : ℕ) (r : Structure) (constant : Bool) → slice_get p.structures i ≡ Some r → inside_at (suc depth) (n.structure i) constant ≡ of_members (map (member_inside depth) r.members) constant
  structure-opens depth i r constant h =
      ap (λ (o : Option Structure). of_members (map (λ (l : Named). contents_over (inside_at depth) l.1) (members_at o)) constant) (known.structures.structures i r h)
      ∙ ap (λ (is : List Inside). of_members is constant) (member-map depth r.members)

  abbrev AllComplete : ℕ → List Named → Type 0
  AllComplete i [] = Unit {0}
  AllComplete i (l ∷ ls) = (is_complete (take i p.structures) l.1 ≡ true) × AllComplete i ls

  all-complete : (i : ℕ) (ms ls : List Named) → All (λ (l : Named). is_complete (take i p.structures) l.1 ≡ true) (ms ++ ls) → AllComplete i ls
  all-complete i ms [] h = tt
  all-complete i ms (l ∷ ls) h = (
    all_at (λ (l : Named). is_complete (take i p.structures) l.1 ≡ true) (ms ++ l ∷ ls) (length ms) l (middle ms l ls) h,
    all-complete i (ms ++ l ∷ []) ls (subst (λ (xs : List Named). All (λ (l : Named). is_complete (take i p.structures) l.1 ≡ true) xs) (sym (append_assoc ms (l ∷ []) ls)) h),
  )
    where
      middle : (ms : List Named) (l : Named) (ls : List Named) → slice_get (ms ++ l ∷ ls) (length ms) ≡ Some l
      middle [] l ls = refl
      middle (m ∷ ms) l ls = middle ms l ls

  -- ---- by induction

  abbrev Claim : ℕ → ℕ → CType → List Leaf → List Leaf → ℕ → Given → Type 0
  Claim k depth t leaves rest at x = (more : List Leaf) → AreLeaves p t leaves more → is_complete (take k p.structures) t ≡ true → (constant : Bool) → (rest ≡ more) × Gives (contents_over (inside_at depth) (numbered t) constant) at x leaves rest

  mutual
    pub given-gives : (k depth : ℕ) → k ≤ depth → (t : CType) (leaves rest : List Leaf) (x : Given) → ShowsGiven p t leaves rest x → (at : ℕ) → Claim k depth t leaves rest at x
    given-gives k depth d _ _ _ _ (ShowsNumber t i v rest x e h) at more ls c constant =
        let q = integer-leaf p t (leaf.Int v ∷ rest) more i v rest ls e refl in (
          q.same,
          by-contents (contents_over (inside_at depth) (numbered t) constant) (Scalar (constant || (numbered t).constant) (Integer i)) at (given.One x) (leaf.Int v ∷ rest) rest (contents-at (inside_at depth) (numbered t) (shape.Int i) constant (level-at n.structure t (shape.Int i) e))
              (one-gives (constant || (numbered t).constant) (Integer i) at x (leaf.Int v) rest (integer-no-text p v i x.node h) (integer-shown i v x.node x.at h q.value)),
        )
    given-gives k depth d _ _ _ _ (ShowsPointer t to a rest x e h) at more ls c constant =
        let q = pointer-leaf p t (leaf.Place a ∷ rest) more to a rest ls e refl in (
          q.same,
          by-contents (contents_over (inside_at depth) (numbered t) constant) (Scalar (constant || (numbered t).constant) (pointer_to (numbered to))) at (given.One x) (leaf.Place a ∷ rest) rest (contents-at (inside_at depth) (numbered t) (shape.Pointer (numbered to)) constant (level-at n.structure t (shape.Pointer to) e))
              (one-gives (constant || (numbered t).constant) (pointer_to (numbered to)) at x (leaf.Place a) rest (address-no-text p to a x.node h) (address-shown p f n s sized known stand complete to a x.node h q.value x.at)),
        )
    given-gives k depth d _ _ _ _ (ShowsArray t of count leaves rest gs e h) at more ls c constant =
        let inner = (both_true (nat_lt 0 count) (is_complete (take k p.structures) of) (complete-as (take k p.structures) t (shape.Array of count) e c)).1 in
        let flag = constant || (numbered t).constant in
        let q = elements-fill k depth d of count leaves rest (replicate count of) gs h refl at more (array-leaves p t leaves more of count ls e) inner flag in (
          q.0,
          by-contents (contents_over (inside_at depth) (numbered t) constant) (Elements count (contents_over (inside_at depth) (numbered of) flag)) at (given.Many gs) leaves rest (contents-at (inside_at depth) (numbered t) (shape.Array (numbered of) count) constant (level-at n.structure t (shape.Array of count) e))
              (list-gives (Elements count (contents_over (inside_at depth) (numbered of) flag)) at gs leaves rest refl q.1),
        )
    given-gives k zero d _ _ _ _ (ShowsStructure t i r leaves rest gs e there h) at more ls c constant =
        let below = struct-below p.structures k i (slice_get (take k p.structures) i) refl (complete-as (take k p.structures) t (shape.Struct i) e c) in
        absurd (omega (arith, d, below))
    given-gives k (suc depth) d _ _ _ _ (ShowsStructure t i r leaves rest gs e there h) at more ls c constant =
        let below = struct-below p.structures k i (slice_get (take k p.structures) i) refl (complete-as (take k p.structures) t (shape.Struct i) e c) in
        let flag = constant || (numbered t).constant in
        let members = structure-leaves p t leaves more i r ls e there in
        let q = members-fill i depth (omega (arith, d, below)) r.members (all-complete i [] r.members (sized.in_order i r there)) leaves rest (map (λ (l : Named). l.1) r.members) gs h refl at more members flag in (
          q.0,
          by-contents (contents_over (inside_at (suc depth)) (numbered t) constant) (of_members (map (member_inside depth) r.members) flag) at (given.Many gs) leaves rest
              (contents-at (inside_at (suc depth)) (numbered t) (shape.Struct (n.structure i)) constant (level-at n.structure t (shape.Struct i) e) ∙ structure-opens depth i r flag there)
              (list-gives (of_members (map (member_inside depth) r.members) flag) at gs leaves rest (members-plain (member_inside depth) flag r.members) q.1),
        )

    elements-fill : (k depth : ℕ) → k ≤ depth → (of : CType) (count : ℕ) (leaves rest : List Leaf) (ts : List CType) (gs : List (At Given)) → ShowsEach p ts leaves rest gs → ts ≡ replicate count of → (at : ℕ) (more : List Leaf) → AreElements p of count leaves more →
        is_complete (take k p.structures) of ≡ true → (constant : Bool) →
        (rest ≡ more) × Fills (repeated count (started (contents_over (inside_at depth) (numbered of) constant) (elided (contents_over (inside_at depth) (numbered of) constant))) at (map given_here gs)) gs leaves rest
    elements-fill k depth d of zero _ _ _ _ (ShowsNone rest) e at more ls c constant = (no-element p of rest more ls, no-fills rest rest refl)
    elements-fill k depth d of (suc count) _ _ _ _ (ShowsNone rest) e at more ls c constant = absurd (cc)
    elements-fill k depth d of zero _ _ _ _ (ShowsMore t ts leaves between rest g gs hg hs) e at more ls c constant = absurd (cc)
    elements-fill k depth d of (suc count) _ _ _ _ (ShowsMore t ts leaves between rest g gs hg hs) e at more ls c constant =
        let head : t ≡ of = cc in
        let tail : ts ≡ replicate count of = cc in
        let split = one-element p of count leaves more ls in
        let q = given-gives k depth d t leaves between g.node hg g.at split.0 (subst (λ (u : CType). AreLeaves p u leaves split.0) (sym head) split.1) (subst (λ (u : CType). is_complete (take k p.structures) u ≡ true) (sym head) c) constant in
        let r = elements-fill k depth d of count between rest ts gs hs tail at more (subst (λ (b : List Leaf). AreElements p of count b more) (sym q.0) split.2) c constant in
        let own = contents_over (inside_at depth) (numbered of) constant in
        (r.0, both-fills own at g gs (λ gs. repeated count (started own (elided own)) at gs) leaves between rest (subst (λ (u : CType). Gives (contents_over (inside_at depth) (numbered u) constant) g.at g.node leaves between) head q.1) r.1)

    members-fill : (k depth : ℕ) → k ≤ depth → (ms : List Named) → AllComplete k ms → (leaves rest : List Leaf) (ts : List CType) (gs : List (At Given)) → ShowsEach p ts leaves rest gs → ts ≡ map (λ (l : Named). l.1) ms → (at : ℕ) (more : List Leaf) →
        AreMembers p ms leaves more → (constant : Bool) → (rest ≡ more) × Fills (elided (of_members (map (member_inside depth) ms) constant) at (map given_here gs)) gs leaves rest
    members-fill k depth d [] c _ _ _ _ (ShowsNone rest) e at more ls constant = (no-member p rest more ls, no-fills rest rest refl)
    members-fill k depth d (l ∷ ms) c _ _ _ _ (ShowsNone rest) e at more ls constant = absurd (cc)
    members-fill k depth d [] c _ _ _ _ (ShowsMore t ts leaves between rest g gs hg hs) e at more ls constant = absurd (cc)
    members-fill k depth d (l ∷ ms) c _ _ _ _ (ShowsMore t ts leaves between rest g gs hg hs) e at more ls constant =
        let head : t ≡ l.1 = cc in
        let tail : ts ≡ map (λ (l : Named). l.1) ms = cc in
        let split = one-member p l ms leaves more ls in
        let q = given-gives k depth d t leaves between g.node hg g.at split.0 (subst (λ (u : CType). AreLeaves p u leaves split.0) (sym head) split.1) (subst (λ (u : CType). is_complete (take k p.structures) u ≡ true) (sym head) c.0) constant in
        let r = members-fill k depth d ms c.1 between rest ts gs hs tail at more (subst (λ (b : List Leaf). AreMembers p ms b more) (sym q.0) split.2) constant in
        let own = member_inside depth l constant in
        (r.0, both-fills own at g gs (λ gs. elided (of_members (map (member_inside depth) ms) constant) at gs) leaves between rest (subst (λ (u : CType). Gives (contents_over (inside_at depth) (numbered u) constant) g.at g.node leaves between) head q.1) r.1)
