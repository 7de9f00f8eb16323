-- What is done for an initialiser whose names may name something has such expressions, which count no more than it does, by induction over initialisers and over what an object consists of.
use Rattle.std.proofs.Common.{◌≡◌, ◌≤◌, ◌+◌, ℕ, zero, suc, Bool, true, false, List, [], ◌∷◌, ◌++◌, map, Option, Some, None, refl, sym, ◌∙◌, subst, arith}
use Rattle.std.specs.Prelude.{flat_map, length, is_some, nat_le, if◌then◌else◌}
use Rattle.cc_named_units.specs.Counts.{total, tree_count, given_counts, given_count}
use Rattle.cc_type.specs.CcInitialisers.Contents.{Contents, Scalar, Elements, NoMember, Members}
use Rattle.cc_type.specs.CcInitialisers.Initialisers.{Step, Give, Character, Zero, Visit, Break, Initialiser, Init, Filled, Filling, breaks, refused_by, is_scalar_object, char_or_zero, chars_given, text_by, text_given, both_filled, scalar_given, scalar_filled, string_for, started_by, started, repeated, elided, nothing_left, all_taken, sole_by, sole, list_braced, given_step, initialiser_of, here, list_initialised, aggregate_initialised, initialised}
use Rattle.cc_named_units.proofs.Cycle.{front_few, rest_few}
use Rattle.cc_named_units.specs.Names.{all_named, tree_named, given_names, given_named}
use Rattle.cc_type.specs.CcOperands.declared.rule.Rule.{Rule}
use Rattle.cc_type.specs.CcOperands.declared.rule.Rule.TheVariants as rule
use Rattle.cc_type.specs.CcSyntax.Values.{ValueType}
use Rattle.cc_type.proofs.CcSyntax.Prefixes.{both_true}
use Rattle.cc_tree.specs.declared.at.At.{At}
use Rattle.cc_tree.specs.declared.tree.Tree.{Tree}
use Rattle.cc_tree.specs.declared.unit.Given.{Given, roll-Given, map-Given, fold-roll-Given, ind-Given}
use Rattle.cc_tree.specs.declared.unit.Given.TheOpen as one_given

some_tree : (a b : At Tree) → Some a ≡ Some b → a ≡ b
some_tree a b h = cc

names-open : (x : one_given.Given-F Given) → given_named (roll-Given x) ≡ given_names (map-Given Given Bool given_named x)
unfolding given_named
names-open x = fold-roll-Given Bool given_names x

counts-open : (x : one_given.Given-F Given) → given_count (roll-Given x) ≡ given_counts (map-Given Given ℕ given_count x)
unfolding given_count
counts-open x = fold-roll-Given ℕ given_counts x

given-means : (x : one_given.Given-F Given) → initialiser_of (roll-Given x) ≡ given_step (map-Given Given Initialiser initialiser_of x)
unfolding initialiser_of
given-means x = fold-roll-Given Initialiser given_step x

abbrev named_at : At Given → At Bool
named_at g = record { at = g.at; node = given_named g.node }

abbrev count_at : At Given → At ℕ
count_at g = record { at = g.at; node = given_count g.node }

abbrev mean_at : At Given → Init
mean_at g = record { at = g.at; node = initialiser_of g.node }

module _ (most : ℕ) where
  -- a tree whose names may name something, and which counts no more than so much
  abbrev pub IsNamedTree : ℕ → Tree → Type 0
  IsNamedTree c e = (tree_named e ≡ true) × (tree_count e ≤ most) × (tree_count e ≤ c)

  abbrev pub IsNamedStep : ℕ → Step → Type 0
  IsNamedStep c (Give constant t e) = IsNamedTree c e.node
  IsNamedStep c (Visit e) = IsNamedTree c e.node
  IsNamedStep c (Character at constant t byte) = Unit {0}
  IsNamedStep c (Zero at constant t) = Unit {0}
  IsNamedStep c (Break at broken) = Unit {0}

  -- all together count no more than so much
  abbrev pub AreNamedSteps : ℕ → List Step → Type 0
  AreNamedSteps c [] = Unit {0}
  AreNamedSteps c (x ∷ xs) = (m : ℕ) × (k : ℕ) × (m + k ≤ c) × IsNamedStep m x × AreNamedSteps k xs

  pub record IsNamedInitialiser (c : ℕ) (i : Initialiser) : Type 0 where
    pub expression : (e : At Tree) → i.expression ≡ Some e → IsNamedTree c e.node
    pub braced : (of : Contents) (at : ℕ) → AreNamedSteps c (i.braced of at)
    pub visited : AreNamedSteps c i.visited

  abbrev AreNamedInits : ℕ → List Init → Type 0
  AreNamedInits c [] = Unit {0}
  AreNamedInits c (g ∷ gs) = (m : ℕ) × (k : ℕ) × (m + k ≤ c) × IsNamedInitialiser m g.node × AreNamedInits k gs

  -- what is done, and what is left
  abbrev IsNamedFilled : ℕ → Filled → Type 0
  IsNamedFilled c f = (a : ℕ) × (b : ℕ) × (a + b ≤ c) × AreNamedSteps a f.0 × AreNamedInits b f.1

  abbrev IsNamedFilling : Filling → Type 0
  IsNamedFilling f = (c at : ℕ) (gs : List Init) → AreNamedInits c gs → IsNamedFilled c (f at gs)

  more_steps : (a c : ℕ) (xs : List Step) → a ≤ c → AreNamedSteps a xs → AreNamedSteps c xs
  more_steps a c [] l h = tt
  more_steps a c (x ∷ xs) l h = let k = h.2 in (h.0, h.1, omega arith, h.3, h.4)

  pub named_both : (a b c : ℕ) (xs ys : List Step) → a + b ≤ c → AreNamedSteps a xs → AreNamedSteps b ys → AreNamedSteps c (xs ++ ys)
  named_both a b c [] ys l h k = more_steps b c ys (omega arith) k
  named_both a b c (x ∷ xs) ys l h k = let i = h.2 in (h.0, h.1 + b, omega arith, h.3, named_both h.1 b (h.1 + b) xs ys (omega arith) h.4 k)

  pub breaks_named : (c at : ℕ) (broken : Rule) → AreNamedSteps c (breaks at broken)
  breaks_named c at broken = (0, 0, omega arith, tt, tt)

  pub refused_named : (c : ℕ) (broken : Rule) (g : Init) → IsNamedInitialiser c g.node → AreNamedSteps c (refused_by broken g)
  refused_named c broken g h = named_both c 0 c g.node.visited (breaks g.at broken) (omega arith) h.visited (breaks_named 0 g.at broken)

  filled_both : (c : ℕ) (first : Filled) (next : List Init → Filled) → IsNamedFilled c first → ((k : ℕ) (gs : List Init) → AreNamedInits k gs → IsNamedFilled k (next gs)) → IsNamedFilled c (both_filled first next)
  filled_both c first next h f =
      let n = f h.1 first.1 h.4 in
      let l = h.2 in
      let k = n.2 in
      (h.0 + n.0, n.1, omega arith, named_both h.0 n.0 (h.0 + n.0) first.0 (next first.1).0 (omega arith) h.3 n.3, n.4)

  -- ---- strings

  char_named : (m at : ℕ) (constant : Bool) (t : ValueType) (b : Option ℕ) → IsNamedStep m (char_or_zero at constant t b)
  char_named m at constant t (Some b) = tt
  char_named m at constant t None = tt

  chars_named : (c at : ℕ) (constant : Bool) (t : ValueType) (n : ℕ) (bytes : List ℕ) → AreNamedSteps c (chars_given at constant t n bytes)
  chars_named c at constant t zero bytes = tt
  chars_named c at constant t (suc n) [] = (0, 0, omega arith, tt, chars_named 0 at constant t n [])
  chars_named c at constant t (suc n) (b ∷ bs) = (0, 0, omega arith, tt, chars_named 0 at constant t n bs)

  chars_if : (b : Bool) (c at : ℕ) (constant : Bool) (t : ValueType) (n : ℕ) (bytes : List ℕ) → AreNamedSteps c (if b then chars_given at constant t n bytes else breaks at rule.InitialiserShape)
  chars_if true c at constant t n bytes = chars_named c at constant t n bytes
  chars_if false c at constant t n bytes = breaks_named c at rule.InitialiserShape

  text_by_named : (c at n : ℕ) (of : Contents) (bytes : List ℕ) → AreNamedSteps c (text_by at n of bytes)
  text_by_named c at n (Scalar constant t) bytes = chars_if (nat_le (length bytes) n) c at constant t n bytes
  text_by_named c at n (Elements m of) bytes = breaks_named c at rule.InitialiserShape
  text_by_named c at n NoMember bytes = breaks_named c at rule.InitialiserShape
  text_by_named c at n (Members first rest) bytes = breaks_named c at rule.InitialiserShape

  text_named : (c at : ℕ) (of : Contents) (bytes : List ℕ) → AreNamedSteps c (text_given at of bytes)
  text_named c at (Elements n of) bytes = text_by_named c at n of bytes
  text_named c at (Scalar constant t) bytes = breaks_named c at rule.InitialiserShape
  text_named c at NoMember bytes = breaks_named c at rule.InitialiserShape
  text_named c at (Members first rest) bytes = breaks_named c at rule.InitialiserShape

  -- ---- objects without braces of their own

  scalar_named : (c : ℕ) (constant : Bool) (t : ValueType) (g : Init) (o : Option (At Tree)) → g.node.expression ≡ o → IsNamedInitialiser c g.node → AreNamedSteps c (scalar_given constant t g o)
  scalar_named c constant t g (Some e) k h = (c, 0, omega arith, h.expression e k, tt)
  scalar_named c constant t g None k h = h.braced (Scalar constant t) g.at

  scalar_filled_named : (constant : Bool) (t : ValueType) → IsNamedFilling (scalar_filled constant t)
  scalar_filled_named constant t c at [] h = (0, 0, omega arith, (0, 0, omega arith, tt, tt), tt)
  scalar_filled_named constant t c at (g ∷ rest) h = (h.0, h.1, h.2, scalar_named h.0 constant t g g.node.expression refl h.3, h.4)

  started_if : (b : Bool) (of : Contents) (inner : Filling) → IsNamedFilling inner → (c at : ℕ) (g : Init) (rest : List Init) → AreNamedInits c (g ∷ rest) → IsNamedFilled c (if b then inner at (g ∷ rest) else (g.node.braced of g.at, rest))
  started_if true of inner f c at g rest h = f c at (g ∷ rest) h
  started_if false of inner f c at g rest h = (h.0, h.1, h.2, h.3.braced of g.at, h.4)

  started_by_named : (of : Contents) (inner : Filling) → IsNamedFilling inner → (c at : ℕ) (g : Init) (rest : List Init) (o : Option (List ℕ)) → AreNamedInits c (g ∷ rest) → IsNamedFilled c (started_by of inner at g rest o)
  started_by_named of inner f c at g rest (Some bytes) h = let l = h.2 in (0, h.1, omega arith, text_named 0 g.at of bytes, h.4)
  started_by_named of inner f c at g rest None h = started_if (is_some g.node.expression) of inner f c at g rest h

  started_at : (b : Bool) (of : Contents) (inner : Filling) → IsNamedFilling inner → (c at : ℕ) (g : Init) (rest : List Init) → AreNamedInits c (g ∷ rest) →
      IsNamedFilled c (if b then inner at (g ∷ rest) else started_by of inner at g rest (string_for of g.node.text))
  started_at true of inner f c at g rest h = f c at (g ∷ rest) h
  started_at false of inner f c at g rest h = started_by_named of inner f c at g rest (string_for of g.node.text) h

  started_named : (of : Contents) (inner : Filling) → IsNamedFilling inner → IsNamedFilling (started of inner)
  started_named of inner f c at [] h = f c at [] h
  started_named of inner f c at (g ∷ rest) h = started_at (is_scalar_object of) of inner f c at g rest h

  nothing_taken : (c : ℕ) (gs : List Init) → AreNamedInits c gs → IsNamedFilled c ([], gs)
  nothing_taken c gs h = (0, c, omega arith, tt, h)

  repeated_named : (n : ℕ) (element : Filling) → IsNamedFilling element → IsNamedFilling (repeated n element)
  repeated_named zero element f c at gs h = nothing_taken c gs h
  repeated_named (suc n) element f c at gs h = filled_both c (element at gs) (λ gs. repeated n element at gs) (f c at gs h) (λ k gs i. repeated_named n element f k at gs i)

  elided_named : (of : Contents) → IsNamedFilling (elided of)
  elided_named (Scalar constant t) = λ c at gs h. scalar_filled_named constant t c at gs h
  elided_named (Elements n of) = λ c at gs h. repeated_named n (started of (elided of)) (started_named of (elided of) (elided_named of)) c at gs h
  elided_named NoMember = λ c at gs h. nothing_taken c gs h
  elided_named (Members first rest) = λ c at gs h.
      filled_both c (started first (elided first) at gs) (λ gs. elided rest at gs) (started_named first (elided first) (elided_named first) c at gs h) (λ k gs i. elided_named rest k at gs i)

  -- ---- lists in braces

  left_named : (c : ℕ) (gs : List Init) → AreNamedInits c gs → AreNamedSteps c (nothing_left gs)
  left_named c [] h = tt
  left_named c (g ∷ rest) h = let l = h.2 in more_steps h.0 c (refused_by rule.TooManyInitialisers g) (omega arith) (refused_named h.0 rule.TooManyInitialisers g h.3)

  taken_named : (c : ℕ) (f : Filled) → IsNamedFilled c f → AreNamedSteps c (all_taken f)
  taken_named c f h = named_both h.0 h.1 c f.0 (nothing_left f.1) h.2 h.3 (left_named h.1 f.1 h.4)

  sole_by_named : (c : ℕ) (constant : Bool) (t : ValueType) (g : Init) (o : Option (At Tree)) (rest : List Init) → g.node.expression ≡ o → AreNamedInits c (g ∷ rest) → AreNamedSteps c (sole_by constant t g o rest)
  sole_by_named c constant t g (Some e) rest k h = (h.0, h.1, h.2, h.3.expression e k, left_named h.1 rest h.4)
  sole_by_named c constant t g None rest k h = let l = h.2 in more_steps h.0 c (refused_by rule.InitialiserShape g) (omega arith) (refused_named h.0 rule.InitialiserShape g h.3)

  sole_named : (c : ℕ) (constant : Bool) (t : ValueType) (at : ℕ) (gs : List Init) → AreNamedInits c gs → AreNamedSteps c (sole constant t at gs)
  sole_named c constant t at [] h = breaks_named c at rule.InitialiserShape
  sole_named c constant t at (g ∷ rest) h = sole_by_named c constant t g g.node.expression rest refl h

  braced_named : (c : ℕ) (gs : List Init) → AreNamedInits c gs → (of : Contents) (at : ℕ) → AreNamedSteps c (list_braced gs of at)
  braced_named c gs h (Scalar constant t) at = sole_named c constant t at gs h
  braced_named c gs h (Elements n of) at = taken_named c (elided (Elements n of) at gs) (elided_named (Elements n of) c at gs h)
  braced_named c gs h NoMember at = taken_named c (elided NoMember at gs) (elided_named NoMember c at gs h)
  braced_named c gs h (Members first rest) at = taken_named c (elided (Members first rest) at gs) (elided_named (Members first rest) c at gs h)

  all_visited : (c : ℕ) (gs : List Init) → AreNamedInits c gs → AreNamedSteps c (flat_map (λ (g : Init). g.node.visited) gs)
  all_visited c [] h = tt
  all_visited c (g ∷ rest) h = named_both h.0 h.1 c g.node.visited (flat_map (λ (g : Init). g.node.visited) rest) h.2 h.3.visited (all_visited h.1 rest h.4)

  -- ---- each initialiser

  abbrev P : Given → Type 0
  P g = given_named g ≡ true → given_count g ≤ most → IsNamedInitialiser (given_count g) (initialiser_of g)

  abbrev SomeGiven : Type 0
  SomeGiven = (g : Given) × P g

  abbrev bare : one_given.Given-F SomeGiven → one_given.Given-F Given
  bare y = map-Given SomeGiven Given (λ g. g.0) y

  abbrev bare_at : At SomeGiven → At Given
  bare_at g = record { at = g.at; node = g.node.0 }

  same_most : (a : ℕ) → a ≤ a
  same_most a = omega arith

  each_initialiser : (gs : List (At SomeGiven)) → all_named (map named_at (map bare_at gs)) ≡ true → total (map count_at (map bare_at gs)) ≤ most → AreNamedInits (total (map count_at (map bare_at gs))) (map mean_at (map bare_at gs))
  each_initialiser [] h l = tt
  each_initialiser (g ∷ gs) h l =
      let b = both_true (given_named g.node.0) (all_named (map named_at (map bare_at gs))) h in
      let rest = total (map count_at (map bare_at gs)) in
      (given_count g.node.0, rest, same_most (given_count g.node.0 + rest), g.node.1 b.0 (front_few (given_count g.node.0) rest most l), each_initialiser gs b.1 (rest_few (given_count g.node.0) rest most l))

  level : (y : one_given.Given-F SomeGiven) → given_names (map-Given Given Bool given_named (bare y)) ≡ true → given_counts (map-Given Given ℕ given_count (bare y)) ≤ most →
      IsNamedInitialiser (given_counts (map-Given Given ℕ given_count (bare y))) (given_step (map-Given Given Initialiser initialiser_of (bare y)))
  level (one_given.One e) h l = record {
    expression = λ x k. subst (λ (z : At Tree). IsNamedTree (tree_count e.node) z.node) (some_tree e x k) (h, l, same_most (tree_count e.node));
    braced = λ of at. breaks_named (tree_count e.node) at rule.InitialiserShape;
    visited = (tree_count e.node, 0, omega arith, (h, l, same_most (tree_count e.node)), tt);
  }
  level (one_given.Many gs) h l =
      let fit = each_initialiser gs h l in
      let count = total (map count_at (map bare_at gs)) in
      record {
        expression = λ x k. absurd (cc);
        braced = λ of at. braced_named count (map mean_at (map bare_at gs)) fit of at;
        visited = all_visited count (map mean_at (map bare_at gs)) fit;
      }

  made : (y : one_given.Given-F SomeGiven) → P (roll-Given (bare y))
  made y h l =
      subst (λ c. IsNamedInitialiser c (initialiser_of (roll-Given (bare y)))) (sym (counts-open (bare y)))
      (subst (IsNamedInitialiser (given_counts (map-Given Given ℕ given_count (bare y)))) (sym (given-means (bare y))) (level y (sym (names-open (bare y)) ∙ h) (subst (λ c. c ≤ most) (counts-open (bare y)) l)))

  pub initialiser_named : (g : Given) → P g
  initialiser_named = ind-Given P (λ x y e. subst (λ (z : one_given.Given-F Given). P (roll-Given z)) e (made y))

  -- ---- the initialiser of an object

  listed_named : (c : ℕ) (of : Contents) (g : Init) (o : Option (At Tree)) → IsNamedInitialiser c g.node → AreNamedSteps c (list_initialised of g o)
  listed_named c of g (Some e) h = refused_named c rule.InitialiserShape g h
  listed_named c of g None h = h.braced of g.at

  aggregate_named : (c : ℕ) (of : Contents) (g : Init) (o : Option (List ℕ)) → IsNamedInitialiser c g.node → AreNamedSteps c (aggregate_initialised of g o)
  aggregate_named c of g None h = listed_named c of g g.node.expression h
  aggregate_named c of g (Some bytes) h = text_named c g.at of bytes

  initialised_by : (c : ℕ) (of : Contents) (g : Init) → IsNamedInitialiser c g.node → AreNamedSteps c (initialised of g)
  initialised_by c (Scalar constant t) g h = scalar_named c constant t g g.node.expression refl h
  initialised_by c (Elements n of) g h = aggregate_named c (Elements n of) g (string_for (Elements n of) g.node.text) h
  initialised_by c NoMember g h = aggregate_named c NoMember g (string_for NoMember g.node.text) h
  initialised_by c (Members first rest) g h = aggregate_named c (Members first rest) g (string_for (Members first rest) g.node.text) h

  pub initialised_named : (g : At Given) → given_named g.node ≡ true → given_count g.node ≤ most → (of : Contents) → AreNamedSteps (given_count g.node) (initialised of (here g))
  initialised_named g h l of = initialised_by (given_count g.node) of (here g) (initialiser_named g.node h l)
