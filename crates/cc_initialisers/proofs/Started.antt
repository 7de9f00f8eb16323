-- A part of an object takes a string, a list in braces, or what it takes itself; and strings as they are written.
use Rattle.std.proofs.Common.{arith, ◌≡◌, ◌∙◌, ◌⊎◌, inl, inr, ◌+◌, ◌-◌, ◌<◌, ◌≤◌, ℕ, zero, suc, Bool, false, List, [], ◌∷◌, ◌++◌, Option, None, refl, ap, sym, subst, map, take, drop, length, get_or, append_assoc}
use Rattle.std.specs.Prelude.{is_some, if◌then◌else◌}
use Rattle.std.specs.List.{flat_map}
use Rattle.std.proofs.lemmas.List.{append-nil, drop_more}
use Rattle.cc_initialisers.specs.Contents.{Contents}
use Rattle.cc_initialisers.specs.Initialisers.{Step, Give, Init, Initialiser, Filled, behind, is_scalar_object, string_for, started_by, refused_by, sole, sole_by, scalar_given, list_initialised, aggregate_initialised, list_braced, elided, started, initialiser_of, here, expression_text, sole_text, all_taken, nothing_left, elements_of, left_by}
use Rattle.cc_initialisers.proofs.Filling.{drop_past}
use Rattle.cc_initialisers.proofs.Layers.{initialiser-One, initialiser-Many}
use Rattle.cc_operands.specs.declared.rule.Rule.TheVariants as rule
use Rattle.cc_operands.specs.CcSyntax.Values.{ValueType}
use Rattle.cc_tree.specs.declared.at.At.{At}
use Rattle.cc_tree.specs.declared.tree.Tree.{Tree}
use Rattle.cc_tree.specs.declared.unit.Given.{Given, One, Many}

-- ---- what stands behind the first of a list

take_all : {A : Type 0} → (xs : List A) → take (length xs) xs ≡ xs
take_all [] = refl
take_all (x ∷ xs) = ap (λ l. x ∷ l) (take_all xs)

abbrev behind_first : List (At Given) → List (At Given)
behind_first gs = take (length gs - 1) (drop 1 gs)

rest-is : (x : At Given) (rest : List (At Given)) → behind_first (x ∷ rest) ≡ rest
rest-is x rest = let e : length (x ∷ rest) - 1 ≡ length rest = omega arith in ap (λ n. take n rest) e ∙ take_all rest

abbrev pair : List Step → List Init → Filled
pair steps left = (steps, left)

-- an initialiser at a place
abbrev placed : ℕ → Initialiser → Init
placed at i = record { at = at; node = i }

module _ (c : Contents) (at : ℕ) (plain : is_scalar_object c ≡ false) where
  list_first : (g : At Given) (rest inner : List (At Given)) → string_for c (initialiser_of g.node).text ≡ None → g.node ≡ Many inner →
      started c (elided c) at (map here (g ∷ rest)) ≡ pair (list_braced (map here inner) c g.at) (map here rest)
  list_first g rest inner h is =
      ap (λ b. if b then elided c at (map here (g ∷ rest)) else started_by c (elided c) at (here g) (map here rest) (string_for c (initialiser_of g.node).text)) plain
      ∙ ap (started_by c (elided c) at (here g) (map here rest)) h
      ∙ ap (λ (i : Initialiser). started_by c (elided c) at (placed g.at i) (map here rest) None) (initialiser-Many g.node inner is)

  expression_first : (g : At Given) (rest : List (At Given)) (e : At Tree) → string_for c (initialiser_of g.node).text ≡ None → g.node ≡ One e →
      started c (elided c) at (map here (g ∷ rest)) ≡ elided c at (map here (g ∷ rest))
  expression_first g rest e h is =
      ap (λ b. if b then elided c at (map here (g ∷ rest)) else started_by c (elided c) at (here g) (map here rest) (string_for c (initialiser_of g.node).text)) plain
      ∙ ap (started_by c (elided c) at (here g) (map here rest)) h
      ∙ ap (λ (x : Option (At Tree)). if is_some x then elided c at (map here (g ∷ rest)) else pair ((initialiser_of g.node).braced c g.at) (map here rest)) (ap (λ (i : Initialiser). i.expression) (initialiser-One g.node e is))

  pub list-started : (gs : List (At Given)) (g : At Given) (inner all : List (At Given)) (before after : List Step) → 1 ≤ length gs → g ≡ get_or gs 0 g →
      string_for c (initialiser_of g.node).text ≡ None → g.node ≡ Many inner → all ≡ inner → after ≡ before ++ list_braced (map here all) c g.at →
      pair after (map here (behind_first gs)) ≡ behind before (started c (elided c) at (map here gs))
  list-started [] g inner all before after k first h is e a = absurd (omega arith)
  list-started (x ∷ rest) g inner all before after k first h is e a =
      let h' = subst (λ (x : At Given). string_for c (initialiser_of x.node).text ≡ None) first h in
      let is' = subst (λ (x : At Given). x.node ≡ Many inner) first is in
      ap (λ (r : List (At Given)). pair after (map here r)) (rest-is x rest)
      ∙ ap (λ (s : List Step). pair s (map here rest)) (a ∙ ap (λ (l : List (At Given)). before ++ list_braced (map here l) c g.at) e ∙ ap (λ (y : At Given). before ++ list_braced (map here inner) c y.at) first)
      ∙ ap (behind before) (sym (list_first x rest inner h' is'))

  pub expression-started : (gs : List (At Given)) (g : At Given) (e : At Tree) → 1 ≤ length gs → g ≡ get_or gs 0 g →
      string_for c (initialiser_of g.node).text ≡ None → g.node ≡ One e → started c (elided c) at (map here gs) ≡ elided c at (map here gs)
  expression-started [] g e k first h is = absurd (omega arith)
  expression-started (x ∷ rest) g e k first h is =
      expression_first x rest e (subst (λ (x : At Given). string_for c (initialiser_of x.node).text ≡ None) first h) (subst (λ (x : At Given). x.node ≡ One e) first is)

-- ---- a scalar takes one expression

module _ (constant : Bool) (t : ValueType) where
  pub sole-given : (at : ℕ) (gs : List (At Given)) (g : At Given) (e : At Tree) (before after : List Step) → 1 ≤ length gs → g ≡ get_or gs 0 g → g.node ≡ One e →
      after ≡ before ++ Give constant t e ∷ [] → after ++ nothing_left (map here (behind_first gs)) ≡ before ++ sole constant t at (map here gs)
  sole-given at [] g e before after k first is a = absurd (omega arith)
  sole-given at (x ∷ rest) g e before after k first is a =
      let is' = subst (λ (x : At Given). x.node ≡ One e) first is in
      ap (λ (r : List (At Given)). after ++ nothing_left (map here r)) (rest-is x rest)
      ∙ ap (λ (s : List Step). s ++ nothing_left (map here rest)) a
      ∙ append_assoc before (Give constant t e ∷ []) (nothing_left (map here rest))
      ∙ ap (λ (o : Option (At Tree)). before ++ sole_by constant t (here x) o (map here rest)) (sym (ap (λ (i : Initialiser). i.expression) (initialiser-One x.node e is')))

  pub sole-list : (at : ℕ) (gs : List (At Given)) (g : At Given) (inner : List (At Given)) → 1 ≤ length gs → g ≡ get_or gs 0 g → g.node ≡ Many inner →
      refused_by rule.InitialiserShape (here g) ≡ sole constant t at (map here gs)
  sole-list at [] g inner k first is = absurd (omega arith)
  sole-list at (x ∷ rest) g inner k first is =
      let is' = subst (λ (x : At Given). x.node ≡ Many inner) first is in
      ap (λ (x : At Given). refused_by rule.InitialiserShape (here x)) first
      ∙ ap (λ (o : Option (At Tree)). sole_by constant t (here x) o (map here rest)) (sym (ap (λ (i : Initialiser). i.expression) (initialiser-Many x.node inner is')))

  pub scalar-expression : (g : At Given) (e : At Tree) → g.node ≡ One e → Give constant t e ∷ [] ≡ scalar_given constant t (here g) (initialiser_of g.node).expression
  scalar-expression g e is = sym (ap (scalar_given constant t (here g)) (ap (λ (i : Initialiser). i.expression) (initialiser-One g.node e is)))

  pub scalar-list : (g : At Given) (gs all : List (At Given)) → g.node ≡ Many gs → all ≡ gs → sole constant t g.at (map here all) ≡ scalar_given constant t (here g) (initialiser_of g.node).expression
  scalar-list g gs all is e =
      ap (λ (l : List (At Given)). sole constant t g.at (map here l)) e
      ∙ sym (ap (λ (i : Initialiser). scalar_given constant t (placed g.at i) i.expression) (initialiser-Many g.node gs is))

-- ---- an array or a structure as a whole

module _ (c : Contents) (g : At Given) (h : string_for c (initialiser_of g.node).text ≡ None) where
  pub aggregate-list : (gs all : List (At Given)) → g.node ≡ Many gs → all ≡ gs → list_braced (map here all) c g.at ≡ aggregate_initialised c (here g) (string_for c (initialiser_of g.node).text)
  aggregate-list gs all is e =
      ap (λ (l : List (At Given)). list_braced (map here l) c g.at) e
      ∙ sym (ap (aggregate_initialised c (here g)) h ∙ ap (λ (i : Initialiser). list_initialised c (placed g.at i) i.expression) (initialiser-Many g.node gs is))

  pub aggregate-expression : (e : At Tree) → g.node ≡ One e → refused_by rule.InitialiserShape (here g) ≡ aggregate_initialised c (here g) (string_for c (initialiser_of g.node).text)
  aggregate-expression e is =
      sym (ap (aggregate_initialised c (here g)) h ∙ ap (list_initialised c (here g)) (ap (λ (i : Initialiser). i.expression) (initialiser-One g.node e is)))

-- an object takes all of a list
pub taken-all : (before after : List Step) (left : List Init) (filled : Filled) → (after, left) ≡ behind before filled → after ++ nothing_left left ≡ before ++ all_taken filled
taken-all before after left filled e = ap (λ (f : Filled). f.0 ++ nothing_left f.1) e ∙ append_assoc before filled.0 (nothing_left filled.1)

-- ---- strings as they are written

many_text : (g : Given) (gs all : List (At Given)) → g ≡ Many gs → all ≡ gs → (initialiser_of g).text ≡ sole_text (map here all)
many_text g gs all is e = ap (λ i. i.text) (initialiser-Many g gs is) ∙ ap (λ (gs : List (At Given)). sole_text (map here gs)) (sym e)

one_text : (all : List (At Given)) (x : At Given) → 1 ≤ length all → length all < 2 → x ≡ get_or all 0 x → expression_text (initialiser_of x.node) ≡ sole_text (map here all)
one_text [] x h k e = absurd (omega arith)
one_text (y ∷ []) x h k e = ap (λ (x : At Given). expression_text (initialiser_of x.node)) e
one_text (y ∷ z ∷ all) x h k e = absurd (omega arith)

pub text-one : (g : Given) (gs all : List (At Given)) (x : At Given) → g ≡ Many gs → all ≡ gs → 1 ≤ length all → length all < 2 → x ≡ get_or all 0 x →
    expression_text (initialiser_of x.node) ≡ (initialiser_of g).text
text-one g gs all x is e h k i = one_text all x h k i ∙ sym (many_text g gs all is e)

none_text : (all : List (At Given)) → (length all < 1) ⊎ (2 ≤ length all) → sole_text (map here all) ≡ None
none_text [] h = refl
none_text (y ∷ []) (inl h) = absurd (omega arith)
none_text (y ∷ []) (inr h) = absurd (omega arith)
none_text (y ∷ z ∷ all) h = refl

pub text-none : (g : Given) (gs all : List (At Given)) → g ≡ Many gs → all ≡ gs → (length all < 1) ⊎ (2 ≤ length all) → (initialiser_of g).text ≡ None
text-none g gs all is e h = many_text g gs all is e ∙ none_text all h

-- ---- expressions are visited one behind another

abbrev pub visits : List (At Given) → List Step
visits gs = flat_map (λ (g : Init). g.node.visited) (map here gs)

pub visits-begin : (before : List Step) (g : Given) (gs all : List (At Given)) → g ≡ Many gs → all ≡ gs → before ++ visits all ≡ before ++ (initialiser_of g).visited
visits-begin before g gs all is e = ap (λ l. before ++ l) (ap visits e ∙ sym (ap (λ i. i.visited) (initialiser-Many g gs is)))

pub visits-next : (gs : List (At Given)) (i : ℕ) (g : At Given) (before after whole : List Step) → i < length gs → g ≡ get_or gs i g → after ≡ before ++ (initialiser_of g.node).visited →
    before ++ visits (drop i gs) ≡ whole → after ++ visits (drop (i + 1) gs) ≡ whole
visits-next gs i g before after whole h is a w =
    ap (λ l. l ++ visits (drop (i + 1) gs)) a
    ∙ append_assoc before (initialiser_of g.node).visited (visits (drop (i + 1) gs))
    ∙ ap (λ l. before ++ l) (sym (ap visits (drop_more gs i g h ∙ ap (λ d. d ∷ drop (i + 1) gs) (sym is)))) ∙ w

pub visits-end : (gs : List (At Given)) (i : ℕ) (before whole : List Step) → length gs ≤ i → before ++ visits (drop i gs) ≡ whole → before ≡ whole
visits-end gs i before whole h w = sym (append-nil before) ∙ ap (λ l. before ++ l) (sym (ap visits (drop_past gs i h))) ∙ w

-- ---- elements of which an initialiser has something

opened : (of : Contents) (m : ℕ) (gs : List (At Given)) → 0 < length gs → elements_of (suc m) of (map here gs) ≡ suc (elements_of m of (left_by of (map here gs)))
opened of m [] h = absurd (omega arith)
opened of m (g ∷ gs) h = refl

moved : (n x : ℕ) → (n + 1) + x ≡ n + suc x
moved n x = omega arith

pub elements-next : (of : Contents) (m n : ℕ) (gs : List (At Given)) (left : List Init) (whole : ℕ) → n < m → 0 < length gs → left ≡ left_by of (map here gs) →
    n + elements_of (m - n) of (map here gs) ≡ whole → (n + 1) + elements_of (m - (n + 1)) of left ≡ whole
elements-next of m n gs left whole h k e w =
    let d : m - n ≡ suc (m - (n + 1)) = omega arith in
    moved n (elements_of (m - (n + 1)) of left)
    ∙ ap (λ l. n + suc (elements_of (m - (n + 1)) of l)) e
    ∙ ap (λ x. n + x) (sym (opened of (m - (n + 1)) gs k))
    ∙ ap (λ x. n + elements_of x of (map here gs)) (sym d) ∙ w

ended : (of : Contents) (gs : List (At Given)) (m : ℕ) → length gs ≤ 0 → elements_of m of (map here gs) ≡ 0
ended of [] m h = refl
ended of (g ∷ gs) m h = absurd (omega arith)

pub elements-none : (of : Contents) (m n : ℕ) (gs : List (At Given)) (whole : ℕ) → length gs ≤ 0 → n + elements_of (m - n) of (map here gs) ≡ whole → n ≡ whole
elements-none of m n gs whole h w = let e = ended of gs (m - n) h in omega (arith, e, w)

zero_most : (of : Contents) (gs : List Init) → elements_of zero of gs ≡ 0
zero_most of [] = refl
zero_most of (g ∷ gs) = refl

pub elements-all : (of : Contents) (m n : ℕ) (gs : List (At Given)) (whole : ℕ) → n ≤ m → m ≤ n → n + elements_of (m - n) of (map here gs) ≡ whole → m ≡ whole
elements-all of m n gs whole h k w =
    let d : m - n ≡ zero = omega arith in
    let e = ap (λ x. elements_of x of (map here gs)) d ∙ zero_most of (map here gs) in
    omega (arith, e, w)
