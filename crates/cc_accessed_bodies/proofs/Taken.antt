-- Steps that break no rule take each expression for something: by induction over initialisers, and over what an object consists of (C99 6.7.8).
use Rattle.std.proofs.Common.{◌≡◌, ℕ, zero, suc, Bool, true, false, List, [], ◌∷◌, ◌++◌, map, Option, Some, None, sym, subst}
use Rattle.std.specs.Prelude.{length, is_some, nat_le, if◌then◌else◌}
use Rattle.cc_type.specs.CcInitialisers.Contents.{Contents, Scalar, Elements, NoMember, Members}
use Rattle.cc_type.specs.CcInitialisers.Initialisers.{Step, Give, Character, Zero, Visit, Break, Initialiser, Init, Filled, Filling, breaks, refused_by, is_scalar_object, chars_given, text_by, text_given, both_filled, scalar_given, scalar_filled, string_for, started_by, started, repeated, elided, nothing_left, all_taken, sole_by, sole, list_braced, given_step, initialiser_of, here, list_initialised, aggregate_initialised, initialised}
use Rattle.cc_type.specs.CcOperands.declared.rule.Rule.{Rule}
use Rattle.cc_type.specs.CcOperands.declared.rule.Rule.TheVariants as rule
use Rattle.cc_program.proofs.Each.{Each}
use Rattle.cc_sound_declarations.specs.Scalars.{AreUnbroken}
use Rattle.cc_type.specs.CcSyntax.Values.{ValueType}
use Rattle.cc_tree.specs.declared.at.At.{At}
use Rattle.cc_tree.specs.declared.tree.Tree.{Tree}
use Rattle.cc_tree.specs.declared.unit.Given.{Given, roll-Given, map-Given, fold-roll-Given, ind-Given}
use Rattle.cc_tree.specs.declared.unit.Given.TheOpen as one_given

-- a step that gives something to a scalar
abbrev pub IsTaken : Step → Type 0
IsTaken (Give constant t e) = Unit {0}
IsTaken (Character at constant t byte) = Unit {0}
IsTaken (Zero at constant t) = Unit {0}
IsTaken (Visit e) = ⊥
IsTaken (Break at broken) = ⊥

abbrev pub AreTaken : List Step → Type 0
AreTaken xs = AreUnbroken xs → Each IsTaken xs

abbrev IsTakenInitialiser : Initialiser → Type 0
IsTakenInitialiser i = (c : Contents) (at : ℕ) → AreTaken (i.braced c at)

abbrev AllTaken : List Init → Type 0
AllTaken gs = Each (λ (g : Init). IsTakenInitialiser g.node) gs

-- what is done, and what is left
abbrev FilledTaken : Filled → Type 0
FilledTaken f = AreTaken f.0 × AllTaken f.1

abbrev FillingTaken : Filling → Type 0
FillingTaken f = (at : ℕ) (gs : List Init) → AllTaken gs → FilledTaken (f at gs)

-- ---- lists of steps

unbroken_first : (xs ys : List Step) → AreUnbroken (xs ++ ys) → AreUnbroken xs
unbroken_first [] ys u = tt
unbroken_first (x ∷ xs) ys u = (u.0, unbroken_first xs ys u.1)

unbroken_second : (xs ys : List Step) → AreUnbroken (xs ++ ys) → AreUnbroken ys
unbroken_second [] ys u = u
unbroken_second (x ∷ xs) ys u = unbroken_second xs ys u.1

joined : (xs ys : List Step) → Each IsTaken xs → Each IsTaken ys → Each IsTaken (xs ++ ys)
joined [] ys h k = k
joined (x ∷ xs) ys h k = (h.0, joined xs ys h.1 k)

taken_both : (xs ys : List Step) → AreTaken xs → AreTaken ys → AreTaken (xs ++ ys)
taken_both xs ys h k u = joined xs ys (h (unbroken_first xs ys u)) (k (unbroken_second xs ys u))

breaks_taken : (at : ℕ) (broken : Rule) → AreTaken (breaks at broken)
breaks_taken at broken u = absurd u.0

refused_taken : (broken : Rule) (g : Init) → AreTaken (refused_by broken g)
refused_taken broken g u = absurd (unbroken_second g.node.visited (breaks g.at broken) u).0

-- ---- strings

chars_taken : (at : ℕ) (constant : Bool) (t : ValueType) (n : ℕ) (bytes : List ℕ) → AreTaken (chars_given at constant t n bytes)
chars_taken at constant t zero bytes u = tt
chars_taken at constant t (suc n) [] u = (tt, chars_taken at constant t n [] u.1)
chars_taken at constant t (suc n) (b ∷ bs) u = (tt, chars_taken at constant t n bs u.1)

chars_if : (b : Bool) (at : ℕ) (constant : Bool) (t : ValueType) (n : ℕ) (bytes : List ℕ) → AreTaken (if b then chars_given at constant t n bytes else breaks at rule.InitialiserShape)
chars_if true at constant t n bytes u = chars_taken at constant t n bytes u
chars_if false at constant t n bytes u = absurd u.0

text_by_taken : (at n : ℕ) (c : Contents) (bytes : List ℕ) → AreTaken (text_by at n c bytes)
text_by_taken at n (Scalar constant t) bytes = chars_if (nat_le (length bytes) n) at constant t n bytes
text_by_taken at n (Elements m of) bytes = breaks_taken at rule.InitialiserShape
text_by_taken at n NoMember bytes = breaks_taken at rule.InitialiserShape
text_by_taken at n (Members first rest) bytes = breaks_taken at rule.InitialiserShape

text_taken : (at : ℕ) (c : Contents) (bytes : List ℕ) → AreTaken (text_given at c bytes)
text_taken at (Elements n of) bytes = text_by_taken at n of bytes
text_taken at (Scalar constant t) bytes = breaks_taken at rule.InitialiserShape
text_taken at NoMember bytes = breaks_taken at rule.InitialiserShape
text_taken at (Members first rest) bytes = breaks_taken at rule.InitialiserShape

-- ---- objects without braces of their own

scalar_taken : (constant : Bool) (t : ValueType) (g : Init) (o : Option (At Tree)) → IsTakenInitialiser g.node → AreTaken (scalar_given constant t g o)
scalar_taken constant t g (Some e) h u = (tt, tt)
scalar_taken constant t g None h u = h (Scalar constant t) g.at u

scalar_filled_taken : (constant : Bool) (t : ValueType) → FillingTaken (scalar_filled constant t)
scalar_filled_taken constant t at [] h = (λ u. (tt, tt), tt)
scalar_filled_taken constant t at (g ∷ rest) h = (scalar_taken constant t g g.node.expression h.0, h.1)

started_if : (b : Bool) (c : Contents) (inner : Filling) → FillingTaken inner → (at : ℕ) (g : Init) (rest : List Init) → AllTaken (g ∷ rest) → FilledTaken (if b then inner at (g ∷ rest) else (g.node.braced c g.at, rest))
started_if true c inner f at g rest h = f at (g ∷ rest) h
started_if false c inner f at g rest h = (h.0 c g.at, h.1)

started_by_taken : (c : Contents) (inner : Filling) → FillingTaken inner → (at : ℕ) (g : Init) (rest : List Init) (o : Option (List ℕ)) → AllTaken (g ∷ rest) → FilledTaken (started_by c inner at g rest o)
started_by_taken c inner f at g rest (Some bytes) h = (text_taken g.at c bytes, h.1)
started_by_taken c inner f at g rest None h = started_if (is_some g.node.expression) c inner f at g rest h

started_at : (b : Bool) (c : Contents) (inner : Filling) → FillingTaken inner → (at : ℕ) (g : Init) (rest : List Init) → AllTaken (g ∷ rest) → FilledTaken (if b then inner at (g ∷ rest) else started_by c inner at g rest (string_for c g.node.text))
started_at true c inner f at g rest h = f at (g ∷ rest) h
started_at false c inner f at g rest h = started_by_taken c inner f at g rest (string_for c g.node.text) h

started_taken : (c : Contents) (inner : Filling) → FillingTaken inner → FillingTaken (started c inner)
started_taken c inner f at [] h = f at [] h
started_taken c inner f at (g ∷ rest) h = started_at (is_scalar_object c) c inner f at g rest h

both_taken : (first : Filled) (next : List Init → Filled) → FilledTaken first → ((gs : List Init) → AllTaken gs → FilledTaken (next gs)) → FilledTaken (both_filled first next)
both_taken first next h f = let n = f first.1 h.1 in (taken_both first.0 (next first.1).0 h.0 n.0, n.1)

nothing_taken : (gs : List Init) → AllTaken gs → FilledTaken ([], gs)
nothing_taken gs h = (λ u. tt, h)

repeated_taken : (n : ℕ) (element : Filling) → FillingTaken element → FillingTaken (repeated n element)
repeated_taken zero element f at gs h = nothing_taken gs h
repeated_taken (suc n) element f at gs h = both_taken (element at gs) (λ gs. repeated n element at gs) (f at gs h) (λ gs k. repeated_taken n element f at gs k)

elided_taken : (c : Contents) → FillingTaken (elided c)
elided_taken (Scalar constant t) = λ at gs h. scalar_filled_taken constant t at gs h
elided_taken (Elements n of) = λ at gs h. repeated_taken n (started of (elided of)) (started_taken of (elided of) (elided_taken of)) at gs h
elided_taken NoMember = λ at gs h. nothing_taken gs h
elided_taken (Members first rest) = λ at gs h. both_taken (started first (elided first) at gs) (λ gs. elided rest at gs) (started_taken first (elided first) (elided_taken first) at gs h) (λ gs k. elided_taken rest at gs k)

-- ---- lists in braces

left_taken : (gs : List Init) → AreTaken (nothing_left gs)
left_taken [] u = tt
left_taken (g ∷ rest) u = refused_taken rule.TooManyInitialisers g u

all_taken_taken : (f : Filled) → FilledTaken f → AreTaken (all_taken f)
all_taken_taken f h = taken_both f.0 (nothing_left f.1) h.0 (left_taken f.1)

sole_by_taken : (constant : Bool) (t : ValueType) (g : Init) (o : Option (At Tree)) (rest : List Init) → AreTaken (sole_by constant t g o rest)
sole_by_taken constant t g (Some e) rest u = (tt, left_taken rest u.1)
sole_by_taken constant t g None rest u = refused_taken rule.InitialiserShape g u

sole_taken : (constant : Bool) (t : ValueType) (at : ℕ) (gs : List Init) → AreTaken (sole constant t at gs)
sole_taken constant t at [] = breaks_taken at rule.InitialiserShape
sole_taken constant t at (g ∷ rest) = sole_by_taken constant t g g.node.expression rest

braced_taken : (gs : List Init) → AllTaken gs → (c : Contents) (at : ℕ) → AreTaken (list_braced gs c at)
braced_taken gs h (Scalar constant t) at = sole_taken constant t at gs
braced_taken gs h (Elements n of) at = all_taken_taken (elided (Elements n of) at gs) (elided_taken (Elements n of) at gs h)
braced_taken gs h NoMember at = all_taken_taken (elided NoMember at gs) (elided_taken NoMember at gs h)
braced_taken gs h (Members first rest) at = all_taken_taken (elided (Members first rest) at gs) (elided_taken (Members first rest) at gs h)

-- ---- each initialiser

abbrev P : Given → Type 0
P g = IsTakenInitialiser (initialiser_of g)

abbrev SomeGiven : Type 0
SomeGiven = (g : Given) × P g

abbrev bare : one_given.Given-F SomeGiven → one_given.Given-F Given
bare y = map-Given SomeGiven Given (λ g. g.0) y

given-means : (x : one_given.Given-F Given) → initialiser_of (roll-Given x) ≡ given_step (map-Given Given Initialiser initialiser_of x)
unfolding initialiser_of
given-means x = fold-roll-Given Initialiser given_step x

abbrev bare_at : At SomeGiven → At Given
bare_at g = record { at = g.at; node = g.node.0 }

abbrev mean_at : At Given → Init
mean_at g = record { at = g.at; node = initialiser_of g.node }

each_taken : (gs : List (At SomeGiven)) → AllTaken (map mean_at (map bare_at gs))
each_taken [] = tt
each_taken (g ∷ gs) = (g.node.1, each_taken gs)

level : (y : one_given.Given-F SomeGiven) → IsTakenInitialiser (given_step (map-Given Given Initialiser initialiser_of (bare y)))
level (one_given.One e) c at = breaks_taken at rule.InitialiserShape
level (one_given.Many gs) c at = braced_taken (map mean_at (map bare_at gs)) (each_taken gs) c at

made : (y : one_given.Given-F SomeGiven) → P (roll-Given (bare y))
made y = subst IsTakenInitialiser (sym (given-means (bare y))) (level y)

initialiser_taken : (g : Given) → P g
initialiser_taken = ind-Given P (λ x y e. subst (λ (z : one_given.Given-F Given). P (roll-Given z)) e (made y))

-- ---- the initialiser of an object

listed_taken : (c : Contents) (g : Init) (o : Option (At Tree)) → IsTakenInitialiser g.node → AreTaken (list_initialised c g o)
listed_taken c g (Some e) h = refused_taken rule.InitialiserShape g
listed_taken c g None h = h c g.at

aggregate_taken : (c : Contents) (g : Init) (o : Option (List ℕ)) → IsTakenInitialiser g.node → AreTaken (aggregate_initialised c g o)
aggregate_taken c g None h = listed_taken c g g.node.expression h
aggregate_taken c g (Some bytes) h = text_taken g.at c bytes

initialised_by : (c : Contents) (g : Init) → IsTakenInitialiser g.node → AreTaken (initialised c g)
initialised_by (Scalar constant t) g h = scalar_taken constant t g g.node.expression h
initialised_by (Elements n of) g h = aggregate_taken (Elements n of) g (string_for (Elements n of) g.node.text) h
initialised_by NoMember g h = aggregate_taken NoMember g (string_for NoMember g.node.text) h
initialised_by (Members first rest) g h = aggregate_taken (Members first rest) g (string_for (Members first rest) g.node.text) h

pub initialised_taken : (c : Contents) (g : At Given) → AreTaken (initialised c (here g))
initialised_taken c g = initialised_by c (here g) (initialiser_taken g.node)

-- what is refused breaks a rule
pub refused_unbroken : (broken : Rule) (g : Init) → AreUnbroken (refused_by broken g) → ⊥
refused_unbroken broken g u = (unbroken_second g.node.visited (breaks g.at broken) u).0
