-- The order in which a program's text names its structures first, by which a translation unit numbers them: those that are
-- announced, and then each structure, with those that the words of its members name (C99 6.2.1, 4; 6.7.2.3).
use Rattle.std.specs.Prelude.{ℕ, suc, Bool, nat_eq, List, [], ◌∷◌, ◌++◌, Option, Some, None, take, if◌then◌else◌}
use Rattle.std.specs.List.{list_any}
use Rattle.cc_print.specs.Units.{first_naming, is_in_parameters}
use Rattle.cc_program.specs.declared.program.Program.{Program}
use Rattle.cc_program.specs.declared.types.CType.{CType, fold-CType}
use Rattle.cc_program.specs.declared.types.Shape.TheOpen as shape
use Rattle.cc_program.specs.declared.types.Structure.{Structure}
use Rattle.cc_type.specs.CcSyntax.Types.{Named}

-- the structure that the words of a type name
abbrev pub base_step : shape.Shape-F (Option ℕ) (Option ℕ) (Option ℕ) → Option ℕ
base_step shape.Void = None
base_step (shape.Int t) = None
base_step (shape.Pointer to) = to
base_step (shape.Array of n) = of
base_step (shape.Struct i) = Some i
base_step (shape.Func result) = result

unfoldable pub base_of : CType → Option ℕ
base_of t = fold-CType (Option ℕ) (Option ℕ) (Option ℕ) base_step (λ t. t.shape) (λ s. s.result) t

abbrev pub is_among : ℕ → List ℕ → Bool
is_among i order = list_any (nat_eq i) order

-- one that is named, behind those before
abbrev pub with_first : ℕ → List ℕ → List ℕ
with_first i order = if is_among i order then order else order ++ i ∷ []

abbrev pub with_base : Option ℕ → List ℕ → List ℕ
with_base None order = order
with_base (Some i) order = with_first i order

abbrev pub with_members : List Named → List ℕ → List ℕ
with_members [] order = order
with_members (l ∷ ls) order = with_members ls (with_base (base_of l.1) order)

abbrev pub with_structures : ℕ → List Structure → List ℕ → List ℕ
with_structures i [] order = order
with_structures i (s ∷ ss) order = with_structures (suc i) ss (with_members s.members (with_first i order))

abbrev pub in_front_if : Bool → ℕ → List ℕ → List ℕ
in_front_if b i is = if b then i ∷ is else is

-- those of the structures, from the i-th of all on, that a list of parameters in front of them names first
abbrev pub announced_from : List Structure → ℕ → List Structure → List ℕ
announced_from all i [] = []
announced_from all i (s ∷ rest) = in_front_if (is_in_parameters (first_naming i (take i all))) i (announced_from all (suc i) rest)

-- in front of the k-th structure, and behind all of them
abbrev pub order_before : Program → ℕ → List ℕ
order_before p k = with_structures 0 (take k p.structures) (announced_from p.structures 0 p.structures)

abbrev pub appearance : Program → List ℕ
appearance p = with_structures 0 p.structures (announced_from p.structures 0 p.structures)

-- where it stands there
abbrev pub place_in : ℕ → List ℕ → ℕ
place_in i [] = 0
place_in i (j ∷ js) = if nat_eq i j then 0 else suc (place_in i js)

-- the number that the unit gives it
abbrev pub structure_number : Program → ℕ → ℕ
structure_number p i = place_in i (appearance p)
