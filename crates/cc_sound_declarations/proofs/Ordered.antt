-- Steps that break no rule give each scalar of an object something, in order: by induction over initialisers, and over what an object consists of.
use Rattle.std.proofs.Common.{◌≡◌, ℕ, zero, suc, Bool, true, false, List, [], ◌∷◌, ◌++◌, map, length, Option, Some, None, refl, ap, sym, ◌∙◌, subst, append_assoc}
use Rattle.std.specs.Prelude.{is_some, nat_le, if◌then◌else◌}
use Rattle.cc_typed_bodies.specs.CcInitialisers.Contents.{Contents, Scalar, Elements, NoMember, Members}
use Rattle.cc_typed_bodies.specs.CcInitialisers.Initialisers.{Step, Initialiser, Init, Filled, Filling, breaks, refused_by, is_scalar_object, char_or_zero, chars_given, text_by, text_given, both_filled, scalar_given, scalar_filled, string_for, started_by, started, repeated, elided, nothing_left, all_taken, sole_by, sole, list_braced, given_step, initialiser_of, here, list_initialised, aggregate_initialised, initialised}
use Rattle.cc_typed_bodies.specs.CcOperands.declared.rule.Rule.{Rule}
use Rattle.cc_typed_bodies.specs.CcOperands.declared.rule.Rule.TheVariants as rule
use Rattle.cc_program.proofs.Each.{Each}
use Rattle.cc_typed_bodies.specs.CcSyntax.Values.{ValueType}
use Rattle.cc_tree.specs.declared.at.At.{At}
use Rattle.cc_tree.specs.declared.tree.Tree.{Tree}
use Rattle.cc_tree.specs.declared.unit.Given.{Given, roll-Given, map-Given, fold-roll-Given, ind-Given}
use Rattle.cc_tree.specs.declared.unit.Given.TheOpen as one_given
use Rattle.cc_sound_declarations.specs.Scalars.{OneScalar, times, scalars_of, step_gives, steps_give, AreUnbroken}

-- ---- lists of steps

append_nothing : {A : Type 0} (xs : List A) → xs ++ [] ≡ xs
append_nothing [] = refl
append_nothing (x ∷ xs) = ap (λ ys. x ∷ ys) (append_nothing xs)

gives_both : (xs ys : List Step) → steps_give (xs ++ ys) ≡ steps_give xs ++ steps_give ys
gives_both [] ys = refl
gives_both (x ∷ xs) ys = ap (λ zs. step_gives x ++ zs) (gives_both xs ys) ∙ sym (append_assoc (step_gives x) (steps_give xs) (steps_give ys))

unbroken_first : (xs ys : List Step) → AreUnbroken (xs ++ ys) → AreUnbroken xs
unbroken_first [] ys h = tt
unbroken_first (x ∷ xs) ys h = (h.0, unbroken_first xs ys h.1)

unbroken_second : (xs ys : List Step) → AreUnbroken (xs ++ ys) → AreUnbroken ys
unbroken_second [] ys h = h
unbroken_second (x ∷ xs) ys h = unbroken_second xs ys h.1

-- the steps give these, where no rule is broken
abbrev Gives : List Step → List OneScalar → Type 0
Gives xs given = AreUnbroken xs → steps_give xs ≡ given

both_give : (xs ys : List Step) (a b : List OneScalar) → Gives xs a → Gives ys b → Gives (xs ++ ys) (a ++ b)
both_give xs ys a b f g h =
    gives_both xs ys ∙ ap (λ (z : List OneScalar). z ++ steps_give ys) (f (unbroken_first xs ys h)) ∙ ap (λ (z : List OneScalar). a ++ z) (g (unbroken_second xs ys h))

breaks_give : (at : ℕ) (broken : Rule) (given : List OneScalar) → Gives (breaks at broken) given
breaks_give at broken given h = absurd h.0

-- an initialiser, as what it means where it stands as a list, and as what is visited of it
pub record IsOrderly (i : Initialiser) : Type 0 where
  pub braced : (c : Contents) (at : ℕ) → Gives (i.braced c at) (scalars_of c)

abbrev AllOrderly : List Init → Type 0
AllOrderly gs = Each (λ (g : Init). IsOrderly g.node) gs

refused_gives : (broken : Rule) (g : Init) (given : List OneScalar) → Gives (refused_by broken g) given
refused_gives broken g given h = absurd (unbroken_second g.node.visited (breaks g.at broken) h).0

-- what is done for an object of such contents, and what is left
abbrev Fills : Contents → Filled → Type 0
Fills c f = Gives f.0 (scalars_of c) × AllOrderly f.1

abbrev FillingOf : Contents → Filling → Type 0
FillingOf c f = (at : ℕ) (gs : List Init) → AllOrderly gs → Fills c (f at gs)

-- ---- strings

char_gives : (at : ℕ) (constant : Bool) (t : ValueType) (b : Option ℕ) → step_gives (char_or_zero at constant t b) ≡ (constant, t) ∷ []
char_gives at constant t (Some b) = refl
char_gives at constant t None = refl

chars_give : (at : ℕ) (constant : Bool) (t : ValueType) (n : ℕ) (bytes : List ℕ) → steps_give (chars_given at constant t n bytes) ≡ times n ((constant, t) ∷ [])
chars_give at constant t zero bytes = refl
chars_give at constant t (suc n) [] = ap (λ zs. (constant, t) ∷ zs) (chars_give at constant t n [])
chars_give at constant t (suc n) (b ∷ bs) = ap (λ zs. (constant, t) ∷ zs) (chars_give at constant t n bs)

chars_if : (b : Bool) (at : ℕ) (constant : Bool) (t : ValueType) (n : ℕ) (bytes : List ℕ) → Gives (if b then chars_given at constant t n bytes else breaks at rule.InitialiserShape) (times n ((constant, t) ∷ []))
chars_if true at constant t n bytes h = chars_give at constant t n bytes
chars_if false at constant t n bytes h = absurd h.0

text_by_gives : (at n : ℕ) (c : Contents) (bytes : List ℕ) → Gives (text_by at n c bytes) (times n (scalars_of c))
text_by_gives at n (Scalar constant t) bytes = chars_if (nat_le (length bytes) n) at constant t n bytes
text_by_gives at n (Elements m of) bytes = breaks_give at rule.InitialiserShape (times n (scalars_of (Elements m of)))
text_by_gives at n NoMember bytes = breaks_give at rule.InitialiserShape (times n [])
text_by_gives at n (Members first rest) bytes = breaks_give at rule.InitialiserShape (times n (scalars_of (Members first rest)))

text_gives : (at : ℕ) (c : Contents) (bytes : List ℕ) → Gives (text_given at c bytes) (scalars_of c)
text_gives at (Elements n of) bytes = text_by_gives at n of bytes
text_gives at (Scalar constant t) bytes = breaks_give at rule.InitialiserShape ((constant, t) ∷ [])
text_gives at NoMember bytes = breaks_give at rule.InitialiserShape []
text_gives at (Members first rest) bytes = breaks_give at rule.InitialiserShape (scalars_of (Members first rest))

-- ---- objects without braces of their own

scalar_gives : (constant : Bool) (t : ValueType) (g : Init) (o : Option (At Tree)) → IsOrderly g.node → Gives (scalar_given constant t g o) ((constant, t) ∷ [])
scalar_gives constant t g (Some e) h u = refl
scalar_gives constant t g None h u = h.braced (Scalar constant t) g.at u

scalar_fills : (constant : Bool) (t : ValueType) → FillingOf (Scalar constant t) (scalar_filled constant t)
scalar_fills constant t at [] h = (λ u. refl, tt)
scalar_fills constant t at (g ∷ rest) h = (scalar_gives constant t g g.node.expression h.0, h.1)

started_if : (b : Bool) (c : Contents) (inner : Filling) → FillingOf c inner → (at : ℕ) (g : Init) (rest : List Init) → IsOrderly g.node → AllOrderly rest → Fills c (if b then inner at (g ∷ rest) else (g.node.braced c g.at, rest))
started_if true c inner f at g rest h k = f at (g ∷ rest) (h, k)
started_if false c inner f at g rest h k = (h.braced c g.at, k)

started_by_fills : (c : Contents) (inner : Filling) → FillingOf c inner → (at : ℕ) (g : Init) (rest : List Init) (o : Option (List ℕ)) → IsOrderly g.node → AllOrderly rest → Fills c (started_by c inner at g rest o)
started_by_fills c inner f at g rest (Some bytes) h k = (text_gives g.at c bytes, k)
started_by_fills c inner f at g rest None h k = started_if (is_some g.node.expression) c inner f at g rest h k

started_at : (b : Bool) (c : Contents) (inner : Filling) → FillingOf c inner → (at : ℕ) (g : Init) (rest : List Init) → IsOrderly g.node → AllOrderly rest → Fills c (if b then inner at (g ∷ rest) else started_by c inner at g rest (string_for c g.node.text))
started_at true c inner f at g rest h k = f at (g ∷ rest) (h, k)
started_at false c inner f at g rest h k = started_by_fills c inner f at g rest (string_for c g.node.text) h k

started_fills : (c : Contents) (inner : Filling) → FillingOf c inner → FillingOf c (started c inner)
started_fills c inner f at [] h = f at [] h
started_fills c inner f at (g ∷ rest) h = started_at (is_scalar_object c) c inner f at g rest h.0 h.1

both_fill : (first : Filled) (next : List Init → Filled) (a b : List OneScalar) → Gives first.0 a × AllOrderly first.1 → ((gs : List Init) → AllOrderly gs → Gives (next gs).0 b × AllOrderly (next gs).1) →
    Gives (both_filled first next).0 (a ++ b) × AllOrderly (both_filled first next).1
both_fill first next a b h f = let n = f first.1 h.1 in (both_give first.0 (next first.1).0 a b h.0 n.0, n.1)

repeated_fills : (n : ℕ) (of : Contents) (element : Filling) → FillingOf of element → FillingOf (Elements n of) (repeated n element)
repeated_fills zero of element f at gs h = (λ u. refl, h)
repeated_fills (suc n) of element f at gs h =
    both_fill (element at gs) (λ gs. repeated n element at gs) (scalars_of of) (times n (scalars_of of)) (f at gs h) (λ gs k. repeated_fills n of element f at gs k)

elided_fills : (c : Contents) → FillingOf c (elided c)
elided_fills (Scalar constant t) = λ at gs h. scalar_fills constant t at gs h
elided_fills (Elements n of) = λ at gs h. repeated_fills n of (started of (elided of)) (started_fills of (elided of) (elided_fills of)) at gs h
elided_fills NoMember = λ at gs h. (λ u. refl, h)
elided_fills (Members first rest) = λ at gs h.
    both_fill (started first (elided first) at gs) (λ gs. elided rest at gs) (scalars_of first) (scalars_of rest) (started_fills first (elided first) (elided_fills first) at gs h) (λ gs k. elided_fills rest at gs k)

-- ---- lists in braces

left_gives : (gs : List Init) → Gives (nothing_left gs) []
left_gives [] h = refl
left_gives (g ∷ rest) h = refused_gives rule.TooManyInitialisers g [] h

taken_gives : (c : Contents) (f : Filled) → Fills c f → Gives (all_taken f) (scalars_of c)
taken_gives c f h u = both_give f.0 (nothing_left f.1) (scalars_of c) [] h.0 (left_gives f.1) u ∙ append_nothing (scalars_of c)

sole_by_gives : (constant : Bool) (t : ValueType) (g : Init) (o : Option (At Tree)) (rest : List Init) → Gives (sole_by constant t g o rest) ((constant, t) ∷ [])
sole_by_gives constant t g (Some e) rest h = ap (λ (z : List OneScalar). (constant, t) ∷ z) (left_gives rest h.1)
sole_by_gives constant t g None rest h = refused_gives rule.InitialiserShape g ((constant, t) ∷ []) h

sole_gives : (constant : Bool) (t : ValueType) (at : ℕ) (gs : List Init) → Gives (sole constant t at gs) ((constant, t) ∷ [])
sole_gives constant t at [] = breaks_give at rule.InitialiserShape ((constant, t) ∷ [])
sole_gives constant t at (g ∷ rest) = sole_by_gives constant t g g.node.expression rest

braced_gives : (gs : List Init) → AllOrderly gs → (c : Contents) (at : ℕ) → Gives (list_braced gs c at) (scalars_of c)
braced_gives gs h (Scalar constant t) at = sole_gives constant t at gs
braced_gives gs h (Elements n of) at = taken_gives (Elements n of) (elided (Elements n of) at gs) (elided_fills (Elements n of) at gs h)
braced_gives gs h NoMember at = taken_gives NoMember (elided NoMember at gs) (elided_fills NoMember at gs h)
braced_gives gs h (Members first rest) at = taken_gives (Members first rest) (elided (Members first rest) at gs) (elided_fills (Members first rest) at gs h)

-- ---- each initialiser

abbrev P : Given → Type 0
P g = IsOrderly (initialiser_of g)

abbrev SomeGiven : Type 0
SomeGiven = (g : Given) × P g

abbrev bare : one_given.Given-F SomeGiven → one_given.Given-F Given
bare y = map-Given SomeGiven Given (λ g. g.0) y

given-means : (x : one_given.Given-F Given) → initialiser_of (roll-Given x) ≡ given_step (map-Given Given Initialiser initialiser_of x)
unfolding initialiser_of
given-means x = fold-roll-Given Initialiser given_step x

abbrev bare_at : At SomeGiven → At Given
bare_at g = record { at = g.at; node = g.node.0 }

abbrev mean_at : At Given → Init
mean_at g = record { at = g.at; node = initialiser_of g.node }

each_orderly : (gs : List (At SomeGiven)) → AllOrderly (map mean_at (map bare_at gs))
each_orderly [] = tt
each_orderly (g ∷ gs) = (g.node.1, each_orderly gs)

level : (y : one_given.Given-F SomeGiven) → IsOrderly (given_step (map-Given Given Initialiser initialiser_of (bare y)))
level (one_given.One e) = record { braced = λ c at. breaks_give at rule.InitialiserShape (scalars_of c) }
level (one_given.Many gs) = record { braced = λ c at. braced_gives (map mean_at (map bare_at gs)) (each_orderly gs) c at }

made : (y : one_given.Given-F SomeGiven) → P (roll-Given (bare y))
made y = subst IsOrderly (sym (given-means (bare y))) (level y)

pub initialiser_orderly : (g : Given) → P g
initialiser_orderly = ind-Given P (λ x y e. subst (λ (z : one_given.Given-F Given). P (roll-Given z)) e (made y))

-- ---- the initialiser of an object

listed_gives : (c : Contents) (g : Init) (o : Option (At Tree)) → IsOrderly g.node → Gives (list_initialised c g o) (scalars_of c)
listed_gives c g (Some e) h = refused_gives rule.InitialiserShape g (scalars_of c)
listed_gives c g None h = h.braced c g.at

aggregate_gives : (c : Contents) (g : Init) (o : Option (List ℕ)) → IsOrderly g.node → Gives (aggregate_initialised c g o) (scalars_of c)
aggregate_gives c g None h = listed_gives c g g.node.expression h
aggregate_gives c g (Some bytes) h = text_gives g.at c bytes

initialised_by : (c : Contents) (g : Init) → IsOrderly g.node → Gives (initialised c g) (scalars_of c)
initialised_by (Scalar constant t) g h = scalar_gives constant t g g.node.expression h
initialised_by (Elements n of) g h = aggregate_gives (Elements n of) g (string_for (Elements n of) g.node.text) h
initialised_by NoMember g h = aggregate_gives NoMember g (string_for NoMember g.node.text) h
initialised_by (Members first rest) g h = aggregate_gives (Members first rest) g (string_for (Members first rest) g.node.text) h

pub initialised_gives : (c : Contents) (g : At Given) → Gives (initialised c (here g)) (scalars_of c)
initialised_gives c g = initialised_by c (here g) (initialiser_orderly g.node)
