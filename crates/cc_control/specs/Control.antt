-- Where an activation stands: what is left of each list of statements that it is in, and how far the first statement of
-- each list has come. The first statement of a list around another is the one that contains that other (C99 6.8).
use Rattle.std.specs.Prelude.{ℕ, ℤ, ◌+◌, ◌-◌, ◌^◌, min, Bool, true, false, List, [], ◌∷◌, ◌++◌, map, reverse, Option, Some, None, length, if◌then◌else◌}
use Rattle.std.specs.Ordering.{int_eq}
use Rattle.cc_program.specs.declared.stmt.Stmt.{Stmt, out-Stmt, fold-Stmt}
use Rattle.cc_program.specs.declared.stmt.Case.{Case}
use Rattle.cc_program.specs.declared.stmt.Stmt.TheOpen as is
use Rattle.cc_control.specs.declared.phase.Phase.{Phase}
use Rattle.cc_control.specs.declared.phase.Phase.TheVariants.{First, Test, Again}

-- a level of nesting: what is left of a list, the position of its first statement in the whole list, and which full
-- expression of that statement is worked, or of a level around another comes once that one is done
pub record Level : Type 0 where
  pub rest : List Stmt
  pub position : ℕ
  pub phase : Phase

-- the innermost level, and those around it
abbrev pub Control : Type 0
Control = Level × List Level

-- a position as the machine counts it: up to the end of its type
abbrev pub counted : ℕ → ℕ
counted n = min n (2 ^ 32 - 1)

abbrev pub level : List Stmt → ℕ → Phase → Level
level rest position phase = record { rest = rest; position = position; phase = phase }

-- what `continue` goes on with, and `break` leaves (6.8.6.2, 6.8.6.3)
abbrev pub is_loop : is.Stmt-F Stmt Case → Bool
is_loop (is.Do e) = false
is_loop (is.If e a b) = false
is_loop (is.While e a) = true
is_loop (is.DoWhile a e) = true
is_loop (is.For first test step a) = true
is_loop (is.Switch e cases) = false
is_loop is.Break = false
is_loop is.Continue = false
is_loop (is.Return e) = false
is_loop is.Empty = false
is_loop (is.Block a) = false

abbrev pub is_left_by_break : is.Stmt-F Stmt Case → Bool
is_left_by_break (is.Do e) = false
is_left_by_break (is.If e a b) = false
is_left_by_break (is.While e a) = true
is_left_by_break (is.DoWhile a e) = true
is_left_by_break (is.For first test again a) = true
is_left_by_break (is.Switch e cases) = true
is_left_by_break is.Break = false
is_left_by_break is.Continue = false
is_left_by_break (is.Return e) = false
is_left_by_break is.Empty = false
is_left_by_break (is.Block a) = false

-- the full expression of a statement that comes once the list inside it is done: of a loop the test of its next turn, or
-- what a `for` does before that; another statement has none, and is left
abbrev pub behind_body : is.Stmt-F Stmt Case → Phase
behind_body (is.Do e) = First
behind_body (is.If e a b) = First
behind_body (is.While e a) = Test
behind_body (is.DoWhile a e) = Test
behind_body (is.For first test None a) = Test
behind_body (is.For first test (Some again) a) = Again
behind_body (is.Switch e cases) = First
behind_body is.Break = First
behind_body is.Continue = First
behind_body (is.Return e) = First
behind_body is.Empty = First
behind_body (is.Block a) = First

-- the statements that a statement begins with, without a step (6.8.2, 6.8.5.2)
abbrev pub opening : is.Stmt-F Stmt Case → List Stmt
opening (is.Do e) = []
opening (is.If e a b) = []
opening (is.While e a) = []
opening (is.DoWhile a e) = a
opening (is.For first test step a) = []
opening (is.Switch e cases) = []
opening is.Break = []
opening is.Continue = []
opening (is.Return e) = []
opening is.Empty = []
opening (is.Block a) = a

-- what a statement begins with where it begins with none: its first expression, or its test
abbrev pub first_phase : is.Stmt-F Stmt Case → Phase
first_phase (is.Do e) = First
first_phase (is.If e a b) = First
first_phase (is.While e a) = Test
first_phase (is.DoWhile a e) = Test
first_phase (is.For None test again a) = Test
first_phase (is.For (Some e) test again a) = First
first_phase (is.Switch e cases) = First
first_phase is.Break = First
first_phase is.Continue = First
first_phase (is.Return e) = First
first_phase is.Empty = First
first_phase (is.Block a) = First

-- begins a statement, by its position in a list, what stands behind it there, and the levels around
abbrev pub Begins : Type 0
Begins = Stmt → ℕ → List Stmt → List Level → Control

abbrev pub stands : Begins
stands s n rest around = (level (s ∷ rest) n (first_phase (out-Stmt s)), around)

-- begins the first of the statements inside
abbrev pub inside : List Begins → List Stmt → Begins
inside (begin ∷ others) (t ∷ ts) s n rest around = begin t 0 ts (level (s ∷ rest) n (behind_body (out-Stmt s)) ∷ around)
inside _ _ s n rest around = stands s n rest around

abbrev pub begin_step : is.Stmt-F Begins (Unit {0}) → Begins
begin_step (is.Do e) = stands
begin_step (is.If e a b) = stands
begin_step (is.While e a) = stands
begin_step (is.DoWhile a e) = λ s. inside a (opening (out-Stmt s)) s
begin_step (is.For first test step a) = stands
begin_step (is.Switch e cases) = stands
begin_step is.Break = stands
begin_step is.Continue = stands
begin_step (is.Return e) = stands
begin_step is.Empty = stands
begin_step (is.Block a) = λ s. inside a (opening (out-Stmt s)) s

unfoldable pub begun : Stmt → ℕ → List Stmt → List Level → Control
begun s = fold-Stmt Begins (Unit {0}) begin_step (λ c. tt) s s

abbrev pub behind_first : List Stmt → List Stmt
behind_first [] = []
behind_first (s ∷ rest) = rest

-- whether the first statement has this property
abbrev pub first_is : (is.Stmt-F Stmt Case → Bool) → List Stmt → Bool
first_is property [] = false
first_is property (s ∷ rest) = property (out-Stmt s)

-- a level around the list inside its first statement
abbrev pub coming : List Stmt → Phase
coming [] = First
coming (s ∷ rest) = behind_body (out-Stmt s)

abbrev pub around_list : Level → Level
around_list at = level at.rest at.position (coming at.rest)

-- goes on with a list: one that is done gives way to the one around it, a loop's body to what comes behind it
abbrev pub close : List Stmt → ℕ → List Level → Control
close (s ∷ rest) position around = begun s position rest around
close [] position [] = (level [] position First, [])
close [] position (at ∷ around) =
    if first_is is_loop at.rest then (at, around) else close (behind_first at.rest) (counted (at.position + 1)) around

-- behind the first statement of a level
abbrev pub behind : Level → List Level → Control
behind at around = close (behind_first at.rest) (counted (at.position + 1)) around

-- behind the innermost loop or switch (6.8.6.3)
abbrev pub broken : List Level → Control
broken [] = (level [] 0 First, [])
broken (at ∷ around) = if first_is is_left_by_break at.rest then behind at around else broken around

-- behind the body of the innermost loop (6.8.6.2)
abbrev pub continued : List Level → Control
continued [] = (level [] 0 First, [])
continued (at ∷ around) = if first_is is_loop at.rest then (at, around) else continued around

-- the arm of an `if`; positions in the second count on from the first (6.8.4.1)
abbrev pub arm : Bool → List Stmt → List Stmt → List Level → Control
arm true these those around = close these 0 around
arm false these those around = close those (counted (length these)) around

-- all statements of cases, one after the other: each falls through into the next
abbrev pub bodies : List Case → List Stmt
bodies [] = []
bodies (c ∷ cases) = c.body ++ bodies cases

-- from the first case with this label on, and how many statements stand before it
abbrev pub from_label : (List (Option ℤ) → Bool) → ℕ → List Case → Option (ℕ × List Stmt)
from_label has n [] = None
from_label has n (c ∷ cases) = if has c.labels then Some (n, bodies (c ∷ cases)) else from_label has (n + length c.body) cases

-- the positions in each list, from the body inwards
abbrev pub path_of : Control → List ℕ
path_of at = reverse (at.0.position ∷ map (λ l. l.position) at.1)

-- whether a label of a case is this constant, or `default`
abbrev pub is_label : ℤ → Option ℤ → Bool
is_label v None = false
is_label v (Some n) = int_eq v n

abbrev pub is_default : Option ℤ → Bool
is_default None = true
is_default (Some n) = false
