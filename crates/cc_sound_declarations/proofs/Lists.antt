-- What is done for an initialiser whose numbers fit 64 bits has such expressions, by induction over initialisers and over what an object consists of.
use Rattle.std.proofs.Common.{◌≡◌, ℕ, zero, suc, Bool, true, false, List, [], ◌∷◌, ◌++◌, map, Option, Some, None, refl, sym, ◌∙◌, subst}
use Rattle.std.specs.Prelude.{flat_map, length, is_some, nat_le, if◌then◌else◌}
use Rattle.cc_typed_bodies.specs.CcInitialisers.Contents.{Contents, Scalar, Elements, NoMember, Members}
use Rattle.cc_typed_bodies.specs.CcInitialisers.Initialisers.{Step, Initialiser, Init, Filled, Filling, breaks, refused_by, is_scalar_object, char_or_zero, chars_given, text_by, text_given, both_filled, scalar_given, scalar_filled, string_for, started_by, started, repeated, elided, nothing_left, all_taken, sole_by, sole, list_braced, given_step, initialiser_of, here, list_initialised, aggregate_initialised, initialised}
use Rattle.cc_typed_bodies.specs.CcOperands.declared.rule.Rule.{Rule}
use Rattle.cc_typed_bodies.specs.CcOperands.declared.rule.Rule.TheVariants as rule
use Rattle.cc_program.proofs.Each.{Each}
use Rattle.cc_sound_terms.specs.Ranges.{all_fit, fits}
use Rattle.cc_typed_bodies.specs.CcSyntax.Values.{ValueType}
use Rattle.cc_typed_bodies.proofs.CcSyntax.Prefixes.{both_true}
use Rattle.cc_tree.specs.declared.at.At.{At}
use Rattle.cc_tree.specs.declared.tree.Tree.{Tree}
use Rattle.cc_tree.specs.declared.unit.Given.{Given, roll-Given, map-Given, fold-roll-Given, ind-Given}
use Rattle.cc_tree.specs.declared.unit.Given.TheOpen as one_given
use Rattle.cc_sound_declarations.specs.Ranges.{given_fits, given_in_range}
use Rattle.cc_sound_declarations.proofs.Initialised.{StepFits}

abbrev AllFit : List Step → Type 0
AllFit steps = Each StepFits steps

pub record IsFitting (i : Initialiser) : Type 0 where
  pub expression : (e : At Tree) → i.expression ≡ Some e → fits e.node ≡ true
  pub braced : (c : Contents) (at : ℕ) → AllFit (i.braced c at)
  pub visited : AllFit i.visited

abbrev InitsFit : List Init → Type 0
InitsFit gs = Each (λ (g : Init). IsFitting g.node) gs

-- what is done, and what is left
abbrev FilledFits : Filled → Type 0
FilledFits f = AllFit f.0 × InitsFit f.1

abbrev FillingFits : Filling → Type 0
FillingFits f = (at : ℕ) (gs : List Init) → InitsFit gs → FilledFits (f at gs)

fit_both : (xs ys : List Step) → AllFit xs → AllFit ys → AllFit (xs ++ ys)
fit_both [] ys h k = k
fit_both (x ∷ xs) ys h k = (h.0, fit_both xs ys h.1 k)

breaks_fit : (at : ℕ) (broken : Rule) → AllFit (breaks at broken)
breaks_fit at broken = (tt, tt)

refused_fits : (broken : Rule) (g : Init) → IsFitting g.node → AllFit (refused_by broken g)
refused_fits broken g h = fit_both g.node.visited (breaks g.at broken) h.visited (breaks_fit g.at broken)

both_fit : (first : Filled) (next : List Init → Filled) → FilledFits first → ((gs : List Init) → InitsFit gs → FilledFits (next gs)) → FilledFits (both_filled first next)
both_fit first next h f = let n = f first.1 h.1 in (fit_both first.0 (next first.1).0 h.0 n.0, n.1)

-- ---- strings

char_fits : (at : ℕ) (constant : Bool) (t : ValueType) (b : Option ℕ) → StepFits (char_or_zero at constant t b)
char_fits at constant t (Some b) = tt
char_fits at constant t None = tt

chars_fit : (at : ℕ) (constant : Bool) (t : ValueType) (n : ℕ) (bytes : List ℕ) → AllFit (chars_given at constant t n bytes)
chars_fit at constant t zero bytes = tt
chars_fit at constant t (suc n) [] = (tt, chars_fit at constant t n [])
chars_fit at constant t (suc n) (b ∷ bs) = (tt, chars_fit at constant t n bs)

chars_if : (b : Bool) (at : ℕ) (constant : Bool) (t : ValueType) (n : ℕ) (bytes : List ℕ) → AllFit (if b then chars_given at constant t n bytes else breaks at rule.InitialiserShape)
chars_if true at constant t n bytes = chars_fit at constant t n bytes
chars_if false at constant t n bytes = breaks_fit at rule.InitialiserShape

text_by_fits : (at n : ℕ) (c : Contents) (bytes : List ℕ) → AllFit (text_by at n c bytes)
text_by_fits at n (Scalar constant t) bytes = chars_if (nat_le (length bytes) n) at constant t n bytes
text_by_fits at n (Elements m of) bytes = breaks_fit at rule.InitialiserShape
text_by_fits at n NoMember bytes = breaks_fit at rule.InitialiserShape
text_by_fits at n (Members first rest) bytes = breaks_fit at rule.InitialiserShape

text_fits : (at : ℕ) (c : Contents) (bytes : List ℕ) → AllFit (text_given at c bytes)
text_fits at (Elements n of) bytes = text_by_fits at n of bytes
text_fits at (Scalar constant t) bytes = breaks_fit at rule.InitialiserShape
text_fits at NoMember bytes = breaks_fit at rule.InitialiserShape
text_fits at (Members first rest) bytes = breaks_fit at rule.InitialiserShape

-- ---- objects without braces of their own

scalar_fits : (constant : Bool) (t : ValueType) (g : Init) (o : Option (At Tree)) → g.node.expression ≡ o → IsFitting g.node → AllFit (scalar_given constant t g o)
scalar_fits constant t g (Some e) k h = (h.expression e k, tt)
scalar_fits constant t g None k h = h.braced (Scalar constant t) g.at

scalar_filled_fits : (constant : Bool) (t : ValueType) → FillingFits (scalar_filled constant t)
scalar_filled_fits constant t at [] h = ((tt, tt), tt)
scalar_filled_fits constant t at (g ∷ rest) h = (scalar_fits constant t g g.node.expression refl h.0, h.1)

started_if : (b : Bool) (c : Contents) (inner : Filling) → FillingFits inner → (at : ℕ) (g : Init) (rest : List Init) → IsFitting g.node → InitsFit rest → FilledFits (if b then inner at (g ∷ rest) else (g.node.braced c g.at, rest))
started_if true c inner f at g rest h k = f at (g ∷ rest) (h, k)
started_if false c inner f at g rest h k = (h.braced c g.at, k)

started_by_fits : (c : Contents) (inner : Filling) → FillingFits inner → (at : ℕ) (g : Init) (rest : List Init) (o : Option (List ℕ)) → IsFitting g.node → InitsFit rest → FilledFits (started_by c inner at g rest o)
started_by_fits c inner f at g rest (Some bytes) h k = (text_fits g.at c bytes, k)
started_by_fits c inner f at g rest None h k = started_if (is_some g.node.expression) c inner f at g rest h k

started_at : (b : Bool) (c : Contents) (inner : Filling) → FillingFits inner → (at : ℕ) (g : Init) (rest : List Init) → IsFitting g.node → InitsFit rest → FilledFits (if b then inner at (g ∷ rest) else started_by c inner at g rest (string_for c g.node.text))
started_at true c inner f at g rest h k = f at (g ∷ rest) (h, k)
started_at false c inner f at g rest h k = started_by_fits c inner f at g rest (string_for c g.node.text) h k

started_fits : (c : Contents) (inner : Filling) → FillingFits inner → FillingFits (started c inner)
started_fits c inner f at [] h = f at [] h
started_fits c inner f at (g ∷ rest) h = started_at (is_scalar_object c) c inner f at g rest h.0 h.1

repeated_fits : (n : ℕ) (element : Filling) → FillingFits element → FillingFits (repeated n element)
repeated_fits zero element f at gs h = (tt, h)
repeated_fits (suc n) element f at gs h = both_fit (element at gs) (λ gs. repeated n element at gs) (f at gs h) (λ gs k. repeated_fits n element f at gs k)

elided_fits : (c : Contents) → FillingFits (elided c)
elided_fits (Scalar constant t) = λ at gs h. scalar_filled_fits constant t at gs h
elided_fits (Elements n of) = λ at gs h. repeated_fits n (started of (elided of)) (started_fits of (elided of) (elided_fits of)) at gs h
elided_fits NoMember = λ at gs h. (tt, h)
elided_fits (Members first rest) = λ at gs h. both_fit (started first (elided first) at gs) (λ gs. elided rest at gs) (started_fits first (elided first) (elided_fits first) at gs h) (λ gs k. elided_fits rest at gs k)

-- ---- lists in braces

left_fits : (gs : List Init) → InitsFit gs → AllFit (nothing_left gs)
left_fits [] h = tt
left_fits (g ∷ rest) h = refused_fits rule.TooManyInitialisers g h.0

taken_fits : (f : Filled) → FilledFits f → AllFit (all_taken f)
taken_fits f h = fit_both f.0 (nothing_left f.1) h.0 (left_fits f.1 h.1)

sole_by_fits : (constant : Bool) (t : ValueType) (g : Init) (o : Option (At Tree)) (rest : List Init) → g.node.expression ≡ o → IsFitting g.node → InitsFit rest → AllFit (sole_by constant t g o rest)
sole_by_fits constant t g (Some e) rest k h r = (h.expression e k, left_fits rest r)
sole_by_fits constant t g None rest k h r = refused_fits rule.InitialiserShape g h

sole_fits : (constant : Bool) (t : ValueType) (at : ℕ) (gs : List Init) → InitsFit gs → AllFit (sole constant t at gs)
sole_fits constant t at [] h = breaks_fit at rule.InitialiserShape
sole_fits constant t at (g ∷ rest) h = sole_by_fits constant t g g.node.expression rest refl h.0 h.1

braced_fits : (gs : List Init) → InitsFit gs → (c : Contents) (at : ℕ) → AllFit (list_braced gs c at)
braced_fits gs h (Scalar constant t) at = sole_fits constant t at gs h
braced_fits gs h (Elements n of) at = taken_fits (elided (Elements n of) at gs) (elided_fits (Elements n of) at gs h)
braced_fits gs h NoMember at = taken_fits (elided NoMember at gs) (elided_fits NoMember at gs h)
braced_fits gs h (Members first rest) at = taken_fits (elided (Members first rest) at gs) (elided_fits (Members first rest) at gs h)

all_visited : (gs : List Init) → InitsFit gs → AllFit (flat_map (λ (g : Init). g.node.visited) gs)
all_visited [] h = tt
all_visited (g ∷ rest) h = fit_both g.node.visited (flat_map (λ (g : Init). g.node.visited) rest) h.0.visited (all_visited rest h.1)

-- ---- each initialiser

some_tree : (a b : At Tree) → Some a ≡ Some b → a ≡ b
some_tree a b h = cc

abbrev P : Given → Type 0
P g = given_in_range g ≡ true → IsFitting (initialiser_of g)

abbrev SomeGiven : Type 0
SomeGiven = (g : Given) × P g

abbrev bare : one_given.Given-F SomeGiven → one_given.Given-F Given
bare y = map-Given SomeGiven Given (λ g. g.0) y

range-opens : (x : one_given.Given-F Given) → given_in_range (roll-Given x) ≡ given_fits (map-Given Given Bool given_in_range x)
unfolding given_in_range
range-opens x = fold-roll-Given Bool given_fits x

given-means : (x : one_given.Given-F Given) → initialiser_of (roll-Given x) ≡ given_step (map-Given Given Initialiser initialiser_of x)
unfolding initialiser_of
given-means x = fold-roll-Given Initialiser given_step x

abbrev bare_at : At SomeGiven → At Given
bare_at g = record { at = g.at; node = g.node.0 }

abbrev range_at : At Given → At Bool
range_at g = record { at = g.at; node = given_in_range g.node }

abbrev mean_at : At Given → Init
mean_at g = record { at = g.at; node = initialiser_of g.node }

each_fits : (gs : List (At SomeGiven)) → all_fit (map range_at (map bare_at gs)) ≡ true → InitsFit (map mean_at (map bare_at gs))
each_fits [] h = tt
each_fits (g ∷ gs) h = let b = both_true (given_in_range g.node.0) (all_fit (map range_at (map bare_at gs))) h in (g.node.1 b.0, each_fits gs b.1)

level : (y : one_given.Given-F SomeGiven) → given_fits (map-Given Given Bool given_in_range (bare y)) ≡ true → IsFitting (given_step (map-Given Given Initialiser initialiser_of (bare y)))
level (one_given.One e) h = record {
  expression = λ x k. subst (λ (z : At Tree). fits z.node ≡ true) (some_tree e x k) h;
  braced = λ c at. breaks_fit at rule.InitialiserShape;
  visited = (h, tt);
}
level (one_given.Many gs) h =
    let fit = each_fits gs h in
    record {
      expression = λ x k. absurd (cc);
      braced = λ c at. braced_fits (map mean_at (map bare_at gs)) fit c at;
      visited = all_visited (map mean_at (map bare_at gs)) fit;
    }

made : (y : one_given.Given-F SomeGiven) → P (roll-Given (bare y))
made y h = subst IsFitting (sym (given-means (bare y))) (level y (sym (range-opens (bare y)) ∙ h))

pub initialiser_fits : (g : Given) → P g
initialiser_fits = ind-Given P (λ x y e. subst (λ (z : one_given.Given-F Given). P (roll-Given z)) e (made y))

-- ---- the initialiser of an object

listed_fits : (c : Contents) (g : Init) (o : Option (At Tree)) → IsFitting g.node → AllFit (list_initialised c g o)
listed_fits c g (Some e) h = refused_fits rule.InitialiserShape g h
listed_fits c g None h = h.braced c g.at

aggregate_fits : (c : Contents) (g : Init) (o : Option (List ℕ)) → IsFitting g.node → AllFit (aggregate_initialised c g o)
aggregate_fits c g None h = listed_fits c g g.node.expression h
aggregate_fits c g (Some bytes) h = text_fits g.at c bytes

initialised_by : (c : Contents) (g : Init) → IsFitting g.node → AllFit (initialised c g)
initialised_by (Scalar constant t) g h = scalar_fits constant t g g.node.expression refl h
initialised_by (Elements n of) g h = aggregate_fits (Elements n of) g (string_for (Elements n of) g.node.text) h
initialised_by NoMember g h = aggregate_fits NoMember g (string_for NoMember g.node.text) h
initialised_by (Members first rest) g h = aggregate_fits (Members first rest) g (string_for (Members first rest) g.node.text) h

pub initialised_fits : (g : At Given) → given_in_range g.node ≡ true → (c : Contents) → AllFit (initialised c (here g))
initialised_fits g h c = initialised_by c (here g) (initialiser_fits g.node h)
