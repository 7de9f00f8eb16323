-- What is done for small initialisers (C99 6.7.8), by evaluation.
use Rattle.std.specs.Prelude.{◌≡◌, ℕ, false, List, [], ◌∷◌, Some, None, refl}
use Rattle.cc_program.specs.CcNum.declared.int_type.IntType.TheVariants as int
use Rattle.cc_operands.specs.declared.rule.Rule.TheVariants as rule
use Rattle.cc_operands.specs.CcSyntax.Values.{Integer}
use Rattle.cc_tree.specs.declared.at.At.{At}
use Rattle.cc_tree.specs.declared.tree.Tree.{Tree}
use Rattle.cc_tree.specs.declared.unit.Given.TheOpen as one_given
use Rattle.cc_initialisers.specs.Contents.{Contents, Scalar, Elements, NoMember, Members}
use Rattle.cc_initialisers.specs.Initialisers.{Give, Character, Zero, Visit, Break, Init, breaks, given_step, initialised, elements_of}

-- an expression that is no string, a string, and a list in braces
abbrev value : At Tree → Init
value e = record { at = e.at; node = record { expression = Some e; text = None; braced = λ c at. breaks at rule.InitialiserShape; visited = Visit e ∷ [] } }

abbrev string : At Tree → List ℕ → Init
string e bytes = record { at = e.at; node = record { expression = Some e; text = Some bytes; braced = λ c at. breaks at rule.InitialiserShape; visited = Visit e ∷ [] } }

abbrev list : ℕ → List Init → Init
list at gs = record { at = at; node = given_step (one_given.Many gs) }

abbrev an_int : Contents
an_int = Scalar false (Integer int.Int)

abbrev char_array : ℕ → Contents
char_array n = Elements n (Scalar false (Integer int.Char))

module _ (e f g h : At Tree) where
  -- int x = e; int x = { e }; int x = { e, f }; int x = { { e } };
  scalar : initialised an_int (value e) ≡ Give false (Integer int.Int) e ∷ []
  scalar = refl

  scalar_in_braces : initialised an_int (list 7 (value e ∷ [])) ≡ Give false (Integer int.Int) e ∷ []
  scalar_in_braces = refl

  scalar_of_two : initialised an_int (list 7 (value e ∷ value f ∷ [])) ≡ Give false (Integer int.Int) e ∷ Visit f ∷ Break f.at rule.TooManyInitialisers ∷ []
  scalar_of_two = refl

  scalar_in_two_braces : initialised an_int (list 7 (list 9 (value e ∷ []) ∷ [])) ≡ Visit e ∷ Break 9 rule.InitialiserShape ∷ []
  scalar_in_two_braces = refl

  -- int a[3] = { e, f }; the rest is zero (21)
  fewer_than_elements : initialised (Elements 3 an_int) (list 7 (value e ∷ value f ∷ [])) ≡
      Give false (Integer int.Int) e ∷ Give false (Integer int.Int) f ∷ Zero 7 false (Integer int.Int) ∷ []
  fewer_than_elements = refl

  -- int a[1] = { e, f }; int a[3] = e;
  more_than_elements : initialised (Elements 1 an_int) (list 7 (value e ∷ value f ∷ [])) ≡
      Give false (Integer int.Int) e ∷ Visit f ∷ Break f.at rule.TooManyInitialisers ∷ []
  more_than_elements = refl

  array_of_expression : initialised (Elements 3 an_int) (value e) ≡ Visit e ∷ Break e.at rule.InitialiserShape ∷ []
  array_of_expression = refl

  -- struct { int a[2]; int b; } s = { { e }, f }; and s = { e, f, g }; (20)
  nested_braces : initialised (Members (Elements 2 an_int) (Members an_int NoMember)) (list 7 (list 9 (value e ∷ []) ∷ value f ∷ [])) ≡
      Give false (Integer int.Int) e ∷ Zero 9 false (Integer int.Int) ∷ Give false (Integer int.Int) f ∷ []
  nested_braces = refl

  braces_left_out : initialised (Members (Elements 2 an_int) (Members an_int NoMember)) (list 7 (value e ∷ value f ∷ value g ∷ [])) ≡
      Give false (Integer int.Int) e ∷ Give false (Integer int.Int) f ∷ Give false (Integer int.Int) g ∷ []
  braces_left_out = refl

  -- char s[3] = "ab"; char s[2] = { "ab" }; char s[1] = "ab"; (14)
  string_with_zero : initialised (char_array 3) (string e (97 ∷ 98 ∷ [])) ≡
      Character e.at false (Integer int.Char) 97 ∷ Character e.at false (Integer int.Char) 98 ∷ Zero e.at false (Integer int.Char) ∷ []
  string_with_zero = refl

  string_in_braces : initialised (char_array 2) (list 7 (string e (97 ∷ 98 ∷ []) ∷ [])) ≡
      Character 7 false (Integer int.Char) 97 ∷ Character 7 false (Integer int.Char) 98 ∷ []
  string_in_braces = refl

  string_too_long : initialised (char_array 1) (string e (97 ∷ 98 ∷ [])) ≡ Break e.at rule.InitialiserShape ∷ []
  string_too_long = refl

  -- int a[][2] = { { e }, f, g, h }; has three elements (22)
  elements_given : elements_of 4 (Elements 2 an_int) (list 9 (value e ∷ []) ∷ value f ∷ value g ∷ value h ∷ []) ≡ 3
  elements_given = refl
