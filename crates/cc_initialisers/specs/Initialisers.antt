-- Initialisers (C99 6.7.8): what is done for one, from left to right, so that each scalar of the object is given
-- something in the order of paths. It depends on the initialiser's form and on the object's scalars alone.
use Rattle.std.specs.Prelude.{ℕ, zero, suc, ◌+◌, Bool, true, false, nat_le, is_some, List, [], ◌∷◌, ◌++◌, map, flat_map, length, Option, Some, None, if◌then◌else◌}
use Rattle.cc_initialisers.specs.Contents.{Contents, Scalar, Elements, NoMember, Members}
use Rattle.cc_program.specs.CcNum.declared.int_type.IntType.{IntType}
use Rattle.cc_program.specs.CcNum.declared.int_type.IntType.TheVariants as int
use Rattle.cc_operands.specs.declared.rule.Rule.{Rule}
use Rattle.cc_operands.specs.declared.rule.Rule.TheVariants as rule
use Rattle.cc_operands.specs.CcSyntax.Values.{ValueType, Integer}
use Rattle.cc_tree.specs.declared.at.At.{At}
use Rattle.cc_tree.specs.declared.tree.Declr.{Declr}
use Rattle.cc_tree.specs.declared.tree.Declr.TheOpen as one
use Rattle.cc_tree.specs.declared.tree.Enumr.{Enumr}
use Rattle.cc_tree.specs.declared.tree.MemberDecl.{MemberDecl}
use Rattle.cc_tree.specs.declared.tree.Param.{Param}
use Rattle.cc_tree.specs.declared.tree.Params.{Params}
use Rattle.cc_tree.specs.declared.tree.Spec.{Spec}
use Rattle.cc_tree.specs.declared.tree.Tree.{Tree, out-Tree}
use Rattle.cc_tree.specs.declared.tree.TypeName.{TypeName}
use Rattle.cc_tree.specs.declared.unit.Given.{Given, fold-Given, out-Given}
use Rattle.cc_tree.specs.declared.unit.Given.TheOpen as one_given

-- one thing that is done: a scalar, const or not, is given an expression, a character of a string that begins at a
-- place, or zero in a list that begins at one; an expression is taken as a value, for nothing; or a construct at a
-- place breaks a rule, and nothing is done behind that
pub data Step : Type 0 where
  Give : Bool → ValueType → At Tree → Step
  Character : ℕ → Bool → ValueType → ℕ → Step
  Zero : ℕ → Bool → ValueType → Step
  Visit : At Tree → Step
  Break : ℕ → Rule → Step

-- an initialiser: an expression, or a list, with what the list means for an object of such contents; `text` is there
-- where it is a string alone, in braces or not; `visited` takes its expressions as values
pub record Initialiser : Type 0 where
  pub expression : Option (At Tree)
  pub text : Option (List ℕ)
  pub braced : Contents → ℕ → List Step
  pub visited : List Step

abbrev pub Init : Type 0
Init = At Initialiser

-- what is done for an object without braces of its own, and the initialisers that are left; `at` is where the list
-- begins
abbrev pub Filled : Type 0
Filled = List Step × List Init

abbrev pub Filling : Type 0
Filling = ℕ → List Init → Filled

abbrev pub breaks : ℕ → Rule → List Step
breaks at broken = Break at broken ∷ []

-- an initialiser that may not stand there: its expressions are taken as values before it breaks the rule
abbrev pub refused_by : Rule → Init → List Step
refused_by broken g = g.node.visited ++ breaks g.at broken

-- steps behind others
abbrev pub behind : List Step → Filled → Filled
behind before filled = (before ++ filled.0, filled.1)

-- ---- arrays of characters (6.7.8, 14)

abbrev pub is_char : IntType → Bool
is_char int.Char = true
is_char int.SChar = true
is_char int.UChar = true
is_char _ = false

abbrev pub is_char_type : ValueType → Bool
is_char_type (Integer t) = is_char t
is_char_type _ = false

abbrev pub is_character : Contents → Bool
is_character (Scalar constant t) = is_char_type t
is_character _ = false

-- whether such an object is a scalar, and whether a string may initialise it
abbrev pub is_scalar_object : Contents → Bool
is_scalar_object (Scalar constant t) = true
is_scalar_object _ = false

abbrev pub takes_text : Contents → Bool
takes_text (Elements n of) = is_character of
takes_text _ = false

abbrev pub text_in : one.Tree-F Declr Params Spec Tree Enumr MemberDecl Param TypeName → Option (List ℕ)
text_in (one.Text bytes) = Some bytes
text_in _ = None

-- a character, or zero behind the end of a string
abbrev pub char_or_zero : ℕ → Bool → ValueType → Option ℕ → Step
char_or_zero at constant t (Some b) = Character at constant t b
char_or_zero at constant t None = Zero at constant t

-- a string: its characters, and zeros for the rest
abbrev pub chars_given : ℕ → Bool → ValueType → ℕ → List ℕ → List Step
chars_given at constant t zero bytes = []
chars_given at constant t (suc n) [] = char_or_zero at constant t None ∷ chars_given at constant t n []
chars_given at constant t (suc n) (b ∷ bs) = char_or_zero at constant t (Some b) ∷ chars_given at constant t n bs

abbrev pub text_by : ℕ → ℕ → Contents → List ℕ → List Step
text_by at n (Scalar constant t) bytes = if nat_le (length bytes) n then chars_given at constant t n bytes else breaks at rule.InitialiserShape
text_by at n _ bytes = breaks at rule.InitialiserShape

abbrev pub text_given : ℕ → Contents → List ℕ → List Step
text_given at (Elements n of) bytes = text_by at n of bytes
text_given at _ bytes = breaks at rule.InitialiserShape

-- ---- an object without braces of its own takes from a list what it has scalars for (6.7.8, 20)

-- first these, then those
abbrev pub both_filled : Filled → (List Init → Filled) → Filled
both_filled first next = (first.0 ++ (next first.1).0, (next first.1).1)

abbrev pub scalar_given : Bool → ValueType → Init → Option (At Tree) → List Step
scalar_given constant t g (Some e) = Give constant t e ∷ []
scalar_given constant t g None = g.node.braced (Scalar constant t) g.at

abbrev pub scalar_filled : Bool → ValueType → Filling
scalar_filled constant t at [] = (Zero at constant t ∷ [], [])
scalar_filled constant t at (g ∷ rest) = (scalar_given constant t g g.node.expression, rest)

-- the string that initialises an object, if one does
abbrev pub string_for : Contents → Option (List ℕ) → Option (List ℕ)
string_for c text = if takes_text c then text else None

-- a string, a list in braces, or what the object takes itself
abbrev pub started_by : Contents → Filling → ℕ → Init → List Init → Option (List ℕ) → Filled
started_by c inner at g rest (Some bytes) = (text_given g.at c bytes, rest)
started_by c inner at g rest None = if is_some g.node.expression then inner at (g ∷ rest) else (g.node.braced c g.at, rest)

abbrev pub started : Contents → Filling → Filling
started c inner at [] = inner at []
started c inner at (g ∷ rest) = if is_scalar_object c then inner at (g ∷ rest) else started_by c inner at g rest (string_for c g.node.text)

abbrev pub repeated : ℕ → Filling → Filling
repeated zero element at gs = ([], gs)
repeated (suc n) element at gs = both_filled (element at gs) (λ gs. repeated n element at gs)

abbrev pub elided : Contents → Filling
elided (Scalar constant t) = λ at gs. scalar_filled constant t at gs
elided (Elements n of) = λ at gs. repeated n (started of (elided of)) at gs
elided NoMember = λ at gs. ([], gs)
elided (Members first rest) = λ at gs. both_filled (started first (elided first) at gs) (λ gs. elided rest at gs)

-- ---- a list in braces: nothing is left of it (6.7.8, 2)

abbrev pub nothing_left : List Init → List Step
nothing_left [] = []
nothing_left (g ∷ rest) = refused_by rule.TooManyInitialisers g

abbrev pub all_taken : Filled → List Step
all_taken filled = filled.0 ++ nothing_left filled.1

-- a scalar takes one expression, in braces or not (6.7.8, 11)
abbrev pub sole_by : Bool → ValueType → Init → Option (At Tree) → List Init → List Step
sole_by constant t g (Some e) rest = Give constant t e ∷ nothing_left rest
sole_by constant t g None rest = refused_by rule.InitialiserShape g

abbrev pub sole : Bool → ValueType → ℕ → List Init → List Step
sole constant t at [] = breaks at rule.InitialiserShape
sole constant t at (g ∷ rest) = sole_by constant t g g.node.expression rest

abbrev pub list_braced : List Init → Contents → ℕ → List Step
list_braced gs (Scalar constant t) at = sole constant t at gs
list_braced gs c at = all_taken (elided c at gs)

-- a string alone, in braces or not
abbrev pub expression_text : Initialiser → Option (List ℕ)
expression_text g = if is_some g.expression then g.text else None

abbrev pub sole_text : List Init → Option (List ℕ)
sole_text (g ∷ []) = expression_text g.node
sole_text _ = None

abbrev pub given_step : one_given.Given-F Initialiser → Initialiser
given_step (one_given.One e) = record {
  expression = Some e;
  text = text_in (out-Tree e.node);
  braced = λ c at. breaks at rule.InitialiserShape;
  visited = Visit e ∷ [];
}
given_step (one_given.Many gs) = record {
  expression = None;
  text = sole_text gs;
  braced = list_braced gs;
  visited = flat_map (λ g. g.node.visited) gs;
}

unfoldable pub initialiser_of : Given → Initialiser
initialiser_of g = fold-Given Initialiser given_step g

abbrev pub here : At Given → Init
here g = record { at = g.at; node = initialiser_of g.node }

-- ---- the initialiser of an object (6.7.8, 11, 14 and 16); an expression alone initialises a scalar

abbrev pub list_initialised : Contents → Init → Option (At Tree) → List Step
list_initialised c g (Some e) = refused_by rule.InitialiserShape g
list_initialised c g None = g.node.braced c g.at

abbrev pub aggregate_initialised : Contents → Init → Option (List ℕ) → List Step
aggregate_initialised c g None = list_initialised c g g.node.expression
aggregate_initialised c g (Some bytes) = text_given g.at c bytes

abbrev pub initialised : Contents → Init → List Step
initialised (Scalar constant t) g = scalar_given constant t g g.node.expression
initialised c g = aggregate_initialised c g (string_for c g.node.text)

-- ---- the bound that an initialiser gives to an array (6.7.8, 22)

-- what an object leaves of a list
abbrev pub left_by : Contents → List Init → List Init
left_by c gs = (started c (elided c) 0 gs).1

-- elements until nothing is left; each takes one at least, so there are no more than initialisers
abbrev pub elements_of : ℕ → Contents → List Init → ℕ
elements_of most of [] = 0
elements_of zero of (g ∷ rest) = 0
elements_of (suc most) of (g ∷ rest) = suc (elements_of most of (left_by of (g ∷ rest)))

abbrev pub listed : Contents → one_given.Given-F Given → ℕ
listed of (one_given.One e) = 1
listed of (one_given.Many gs) = elements_of (length gs) of (map here gs)

abbrev pub bound_by_text : Contents → one_given.Given-F Given → Option (List ℕ) → ℕ
bound_by_text of g None = listed of g
bound_by_text of g (Some bytes) = if is_character of then length bytes + 1 else listed of g

-- of elements with such contents
abbrev pub bound_given : Contents → Given → ℕ
bound_given of g = bound_by_text of (out-Given g) (initialiser_of g).text
