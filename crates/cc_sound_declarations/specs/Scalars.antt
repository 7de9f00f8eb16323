-- The scalars of an object, in the order of paths, and those to which an initialiser gives something (C99 6.7.8, 19 and 20).
use Rattle.std.specs.Prelude.{ℕ, zero, suc, Bool, List, [], ◌∷◌, ◌++◌}
use Rattle.cc_typed_bodies.specs.CcInitialisers.Contents.{Contents, Scalar, Elements, NoMember, Members}
use Rattle.cc_typed_bodies.specs.CcInitialisers.Initialisers.{Step, Give, Character, Zero, Visit, Break}
use Rattle.cc_program.proofs.Each.{Each}
use Rattle.cc_typed_bodies.specs.CcSyntax.Values.{ValueType}

-- whether it is const, and the type of its value
abbrev pub OneScalar : Type 0
OneScalar = Bool × ValueType

abbrev pub times : ℕ → List OneScalar → List OneScalar
times zero xs = []
times (suc n) xs = xs ++ times n xs

abbrev pub scalars_of : Contents → List OneScalar
scalars_of (Scalar constant t) = (constant, t) ∷ []
scalars_of (Elements n of) = times n (scalars_of of)
scalars_of NoMember = []
scalars_of (Members first rest) = scalars_of first ++ scalars_of rest

-- those that steps give something to
abbrev pub step_gives : Step → List OneScalar
step_gives (Give constant t e) = (constant, t) ∷ []
step_gives (Character at constant t byte) = (constant, t) ∷ []
step_gives (Zero at constant t) = (constant, t) ∷ []
step_gives (Visit e) = []
step_gives (Break at broken) = []

abbrev pub steps_give : List Step → List OneScalar
steps_give [] = []
steps_give (x ∷ xs) = step_gives x ++ steps_give xs

-- no step breaks a rule
abbrev pub IsUnbroken : Step → Type 0
IsUnbroken (Give constant t e) = Unit {0}
IsUnbroken (Character at constant t byte) = Unit {0}
IsUnbroken (Zero at constant t) = Unit {0}
IsUnbroken (Visit e) = Unit {0}
IsUnbroken (Break at broken) = ⊥

abbrev pub AreUnbroken : List Step → Type 0
AreUnbroken xs = Each IsUnbroken xs
