-- Where an activation stands among the points: what is left of each list that it is in, with the site of its first statement.
use Rattle.std.specs.Prelude.{◌≡◌, ◌⊎◌, ◌+◌, ◌||◌, ℕ, Bool, true, false, nat_eq, List, [], ◌∷◌, ◌++◌, length, map, is_none}
use Rattle.std.specs.List.{list_any}
use Rattle.cc_program.specs.declared.func.Func.{Func}
use Rattle.cc_program.specs.declared.program.Program.{Program}
use Rattle.cc_program.specs.declared.stmt.Case.{Case, out-Case}
use Rattle.cc_program.specs.declared.stmt.Stmt.{Stmt, out-Stmt}
use Rattle.cc_program.specs.declared.stmt.Stmt.TheOpen as is
use Rattle.cc_states.specs.CcControl.Control.{Level, Control, counted, bodies}
use Rattle.cc_flow.specs.declared.next.Site.{Site}
use Rattle.cc_flow.specs.Next.{reached, branches, may_pass}
use Rattle.cc_flow.specs.Points.{size_of, total_of, body_site}
use Rattle.cc_flow.specs.View.{case_total}
use Rattle.cc_flow_sound.specs.Moves.{entry}

abbrev pub moved_to : ℕ → Site → Site
moved_to n site = record site { number = n }

-- the site of a statement, from that of the list that begins with it: control goes on with what stands behind it
abbrev pub own_site : Stmt → List Stmt → Site → Site
own_site s rest site = record site { behind = reached (total_of rest) (site.number + size_of s) site.behind }

abbrev pub loop_site : Site → Site
loop_site own = record own { number = own.number + 1; behind = own.number; breaks = own.behind; continues = own.number }

abbrev pub switch_site : Site → Site
switch_site own = record own { number = own.number + 1; breaks = own.behind }

-- a list inside a statement of this site, the number at which positions in it begin, and its own site
abbrev pub IsSiteIn : is.Stmt-F Stmt Case → Site → List Stmt → ℕ → Site → Type 0
IsSiteIn (is.Do e) own list first inner = ⊥
IsSiteIn (is.If e these those) own list first inner =
    ((list ≡ these) × (first ≡ 0) × (inner ≡ moved_to (own.number + 1) own)) ⊎ ((list ≡ those) × (first ≡ length these) × (inner ≡ moved_to (own.number + 1 + total_of these) own))
IsSiteIn (is.While e body) own list first inner = (list ≡ body) × (first ≡ 0) × (inner ≡ loop_site own)
IsSiteIn (is.DoWhile body e) own list first inner = ⊥
IsSiteIn (is.For start test again body) own list first inner = ⊥
IsSiteIn (is.Switch e cases) own list first inner = (list ≡ bodies cases) × (first ≡ 0) × (inner ≡ switch_site own)
IsSiteIn is.Break own list first inner = ⊥
IsSiteIn is.Continue own list first inner = ⊥
IsSiteIn (is.Return e) own list first inner = ⊥
IsSiteIn is.Empty own list first inner = ⊥
IsSiteIn (is.Block body) own list first inner = ⊥

-- what is left of a list of this site
pub record IsPlaced (list : List Stmt) (first : ℕ) (inner : Site) (rest : List Stmt) (position : ℕ) (site : Site) : Type 0 where
  pub front : List Stmt
  pub whole : list ≡ front ++ rest
  pub counts : position ≡ counted (first + length front)
  pub place : site ≡ moved_to (inner.number + total_of front) inner

-- what is left of a list inside the first statement of the level around
pub record IsWithin (Around : List Stmt → Site → Type 0) (at : Level) (rest : List Stmt) (position : ℕ) (site : Site) : Type 0 where
  pub statement : Stmt
  pub after : List Stmt
  pub outer : Site
  pub list : List Stmt
  pub first : ℕ
  pub inner : Site
  pub here : at.rest ≡ statement ∷ after
  pub around : Around (statement ∷ after) outer
  pub inside : IsSiteIn (out-Stmt statement) (own_site statement after outer) list first inner
  pub left : IsPlaced list first inner rest position site

-- a list that is left stands at a site, in the body of a function whose site is the first one
abbrev pub StandsAt : Site → List Stmt → List Level → List Stmt → ℕ → Site → Type 0
StandsAt base body [] rest position site = IsPlaced body 0 base rest position site
StandsAt base body (at ∷ around) rest position site = IsWithin (λ list outer. StandsAt base body around list at.position outer) at rest position site

-- the site of a function's body
abbrev pub base_of : Program → ℕ → Func → Site
base_of p id f = body_site id (entry p id) (entry p id + total_of f.body)

-- the point of a list: that of its first statement, and where there is none that to which control goes behind it
abbrev pub number_at : List Stmt → Site → ℕ
number_at rest site = reached (total_of rest) site.number site.behind

-- an activation that stands at this place stands at the point of this number; what is behind the last statement of an inner list is the place
-- behind that list
abbrev pub IsPoint : Site → List Stmt → Control → ℕ → Type 0
IsPoint base body at n = (site : Site) × StandsAt base body at.1 at.0.rest at.0.position site × (number_at at.0.rest site ≡ n) × (at.0.rest ≡ [] → at.1 ≡ [])

-- where the test of an `if` leads, by its truth
abbrev pub arm_point : Bool → List Stmt → List Stmt → Site → ℕ
arm_point true these those own = number_at these (moved_to (own.number + 1) own)
arm_point false these those own = number_at those (moved_to (own.number + 1 + total_of these) own)

abbrev pub has_default : List Case → Bool
has_default cases = list_any (λ c. list_any is_none (out-Case c).labels) cases

-- where control goes from a statement, by its own site
abbrev pub nexts : is.Stmt-F Stmt Case → Site → List ℕ
nexts (is.Do e) own = own.behind ∷ []
nexts (is.If e these those) own = branches (nat_eq (total_of these) 0 || nat_eq (total_of those) 0) own (total_of these ∷ total_of those ∷ [])
nexts (is.While e body) own = reached (total_of body) (own.number + 1) own.number ∷ []
nexts (is.DoWhile body e) own = own.behind ∷ []
nexts (is.For start test again body) own = own.behind ∷ []
nexts (is.Switch e cases) own = branches (may_pass (has_default cases) (map case_total cases)) own (map case_total cases)
nexts is.Break own = own.breaks ∷ []
nexts is.Continue own = own.continues ∷ []
nexts (is.Return e) own = own.exit ∷ []
nexts is.Empty own = own.behind ∷ []
nexts (is.Block body) own = own.behind ∷ []
