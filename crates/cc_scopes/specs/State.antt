-- What is known up to a place of a translation unit: names and tags in scope, structures, and what has a place in
-- memory of its own (C99 6.2.1 to 6.2.4).
use Rattle.std.specs.Prelude.{ℕ, zero, suc, Bool, false, nat_eq, List, [], ◌∷◌, ◌++◌, map, Option, Some, None, if◌then◌else◌}
use Rattle.std.specs.Str.{bytes_eq}
use Rattle.cc_program.specs.declared.expr.Expr.{Expr}
use Rattle.cc_program.specs.declared.expr.Expr.TheOpen as place
use Rattle.cc_program.specs.declared.expr.Place.{Place, out-Place}
use Rattle.cc_program.specs.declared.types.Structure.{Structure}
use Rattle.cc_operands.specs.CcSyntax.Layout.{nothing}
use Rattle.cc_operands.specs.CcSyntax.Types.{Named}
use Rattle.cc_operands.specs.CcSyntax.declared.sizes.Layout.{Layout}
use Rattle.cc_scopes.specs.declared.designated.Designated.{Designated}
use Rattle.cc_scopes.specs.declared.designated.Tagged.{Tagged}
use Rattle.cc_scopes.specs.declared.unit.Declared.{Declared}

abbrev pub Name : Type 0
Name = List ℕ

pub record Scope : Type 0 where
  pub names : List (Name × Designated)
  pub tags : List (Name × Tagged)

abbrev pub empty : Scope
empty = record { names = []; tags = [] }

-- a structure type, numbered in order of first appearance; until it is complete it has no members
pub record KnownStructure : Type 0 where
  pub tag : Option Name
  pub alias : Option Name
  pub members : Option (List Named)
  pub layout : Layout

pub record State : Type 0 where
  -- the innermost first
  pub scopes : List Scope
  pub structures : List KnownStructure
  -- structures in the order of their closing braces
  pub completed : List ℕ
  pub names : List Declared
  -- the automatic objects of the function
  pub locals : List Named
  -- the array whose initialiser is read, where that gives its bound: it is incomplete to the end of it (6.7.8, 22)
  pub unfinished : Option Place

-- in front of a unit: the scope of the file
abbrev pub at_first : State
at_first = record { scopes = empty ∷ []; structures = []; completed = []; names = []; locals = []; unfinished = None }

-- ---- look-up (6.2.1, 4)

abbrev pub find_name : {A : Type 0} → Name → List (Name × A) → Option A
find_name x [] = None
find_name x (b ∷ rest) = if bytes_eq x b.0 then Some b.1 else find_name x rest

abbrev pub or_else : {A : Type 0} → Option A → Option A → Option A
or_else None other = other
or_else (Some a) other = Some a

-- in the innermost scope that has the name
abbrev pub designated : Name → List Scope → Option Designated
designated x [] = None
designated x (scope ∷ outer) = or_else (find_name x scope.names) (designated x outer)

abbrev pub tagged : Name → List Scope → Option Tagged
tagged x [] = None
tagged x (scope ∷ outer) = or_else (find_name x scope.tags) (tagged x outer)

-- in the innermost scope alone
abbrev pub innermost : List Scope → Scope
innermost [] = empty
innermost (scope ∷ outer) = scope

abbrev pub named_here : Name → State → Option Designated
named_here x s = find_name x (innermost s.scopes).names

abbrev pub tagged_here : Name → State → Option Tagged
tagged_here x s = find_name x (innermost s.scopes).tags

-- ---- changes

abbrev pub in_innermost : (Scope → Scope) → List Scope → List Scope
in_innermost change [] = change empty ∷ []
in_innermost change (scope ∷ outer) = change scope ∷ outer

abbrev pub with_scopes : List Scope → State → State
with_scopes scopes s = record { scopes = scopes; structures = s.structures; completed = s.completed; names = s.names; locals = s.locals; unfinished = s.unfinished }

abbrev pub with_structures : List KnownStructure → State → State
with_structures structures s = record { scopes = s.scopes; structures = structures; completed = s.completed; names = s.names; locals = s.locals; unfinished = s.unfinished }

abbrev pub with_names : List Declared → State → State
with_names names s = record { scopes = s.scopes; structures = s.structures; completed = s.completed; names = names; locals = s.locals; unfinished = s.unfinished }

abbrev pub with_locals : List Named → State → State
with_locals locals s = record { scopes = s.scopes; structures = s.structures; completed = s.completed; names = s.names; locals = locals; unfinished = s.unfinished }

abbrev pub with_unfinished : Option Place → State → State
with_unfinished a s = record { scopes = s.scopes; structures = s.structures; completed = s.completed; names = s.names; locals = s.locals; unfinished = a }

abbrev pub same_variable : place.Place-F Expr Place → place.Place-F Expr Place → Bool
same_variable (place.Local n) (place.Local m) = nat_eq n m
same_variable (place.Static i) (place.Static j) = nat_eq i j
same_variable _ _ = false

abbrev pub is_place : Place → Option Place → Bool
is_place a None = false
is_place a (Some b) = same_variable (out-Place a) (out-Place b)

abbrev pub is_unfinished : Place → State → Bool
is_unfinished a s = is_place a s.unfinished

-- a name means one thing in a scope: where it is declared there already, the last declaration counts
abbrev pub with_name : {A : Type 0} → Name → A → List (Name × A) → List (Name × A)
with_name x d [] = (x, d) ∷ []
with_name x d (b ∷ rest) = if bytes_eq x b.0 then (b.0, d) ∷ rest else b ∷ with_name x d rest

abbrev pub bind : Name → Designated → State → State
bind x d s = with_scopes (in_innermost (λ scope. record { names = with_name x d scope.names; tags = scope.tags }) s.scopes) s

abbrev pub bind_tag : Name → Tagged → State → State
bind_tag x t s = with_scopes (in_innermost (λ scope. record { names = scope.names; tags = with_name x t scope.tags }) s.scopes) s

-- a scope begins, with what is declared in it so far; and one ends
abbrev pub entered : Scope → State → State
entered scope s = with_scopes (scope ∷ s.scopes) s

abbrev pub outer_scopes : List Scope → List Scope
outer_scopes [] = []
outer_scopes (scope ∷ outer) = outer

abbrev pub left : State → State
left s = with_scopes (outer_scopes s.scopes) s

-- one more of what has a place in memory of its own; its number is how many there were
abbrev pub with_declared : Declared → State → State
with_declared d s = with_names (s.names ++ d ∷ []) s

abbrev pub change_at : {A : Type 0} → ℕ → (A → A) → List A → List A
change_at i change [] = []
change_at zero change (x ∷ xs) = change x ∷ xs
change_at (suc i) change (x ∷ xs) = x ∷ change_at i change xs

abbrev pub change_name : ℕ → (Declared → Declared) → State → State
change_name i change s = with_names (change_at i change s.names) s

-- ---- structures

abbrev pub name_or_none : Option Name → Name
name_or_none None = []
name_or_none (Some x) = x

abbrev pub members_or_none : Option (List Named) → List Named
members_or_none None = []
members_or_none (Some ms) = ms

abbrev pub as_structure : KnownStructure → Structure
as_structure k = record { tag = name_or_none k.tag; members = members_or_none k.members }

abbrev pub structures_of : State → List Structure
structures_of s = map as_structure s.structures

abbrev pub layouts_of : State → List Layout
layouts_of s = map (λ k. k.layout) s.structures

-- one that is only named
abbrev pub only_named : Option Name → KnownStructure
only_named tag = record { tag = tag; alias = None; members = None; layout = nothing }
