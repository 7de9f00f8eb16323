-- States whose names may name something, and which have few members and locals; so do declarators (C99 6.4.2.1, 6.7.2.1, 6.7.5).
use Rattle.std.specs.Prelude.{◌≡◌, ◌≤◌, ◌+◌, ℕ, Bool, true, false, not, is_some, nat_lt, List, [], ◌∷◌, length, Option, Some, None}
use Rattle.std.specs.List.{list_all}
use Rattle.cc_named_units.specs.Names.{tag_named}
use Rattle.cc_type.specs.CcTypedTerms.Primary.{is_intrinsic}
use Rattle.cc_program.proofs.Each.{Each}
use Rattle.cc_program.specs.declared.program.Roles.{Roles}
use Rattle.cc_type.specs.CcScopes.State.{State, Name, Scope, KnownStructure}
use Rattle.cc_type.specs.CcScopes.declared.unit.Declared.{Declared}
use Rattle.cc_type.specs.CcSpecifiers.declared.derivation.Declarator.{Declarator}
use Rattle.cc_type.specs.CcSpecifiers.declared.derivation.Derivation.{Derivation}
use Rattle.cc_type.specs.CcSpecifiers.declared.derivation.Derivation.TheVariants as to
use Rattle.cc_type.specs.CcSpecifiers.declared.derivation.Parameter.{Parameter}
use Rattle.cc_type.specs.CcSyntax.Names.{local_names}
use Rattle.cc_type.specs.CcSyntax.Types.{Named}
use Rattle.cc_tree.specs.declared.at.At.{At}
use Rattle.cc_type.specs.CcUnit.declared.unit.UnitKind.{UnitKind}
use Rattle.cc_type.specs.CcUnit.declared.unit.UnitKind.TheVariants as kind
use Rattle.cc_program.specs.CcWords.Names.{are_distinct, is_name}

-- so many members and locals at most; and the roles, which say what the intrinsics are named
pub record Limits : Type 0 where
  pub few : ℕ
  pub roles : Roles

-- nothing else has an intrinsic's name
abbrev pub is_own : Roles → Option Name → Bool
is_own roles None = true
is_own roles (Some x) = not (is_intrinsic roles x)

-- members of a structure, or locals of a function: no more than so many, each with a name
pub record AreFewNames (n : ℕ) (xs : List Named) : Type 0 where
  pub names : list_all is_name (local_names xs) ≡ true
  pub few : length xs ≤ n

-- members of a complete structure: at least one, and no two of one name (6.7.2.1)
pub record AreFewMembers (n : ℕ) (ms : List Named) : Type 0 where
  pub named : AreFewNames n ms
  pub apart : are_distinct (local_names ms) ≡ true
  pub some : nat_lt 0 (length ms) ≡ true

abbrev pub HasFewMembers : ℕ → Option (List Named) → Type 0
HasFewMembers n None = Unit {0}
HasFewMembers n (Some ms) = AreFewMembers n ms

pub record IsNamedStructure (most : Limits) (k : KnownStructure) : Type 0 where
  pub tag : tag_named k.tag ≡ true
  pub alias : tag_named k.alias ≡ true
  pub members : HasFewMembers most.few k.members

abbrev pub HasFewLocals : Limits → UnitKind → Type 0
HasFewLocals most (kind.Func by (Some f)) = AreFewNames most.few f.locals
HasFewLocals most (kind.Func by None) = Unit {0}
HasFewLocals most (kind.Object init) = Unit {0}
HasFewLocals most (kind.Device d) = Unit {0}

pub record IsNamedEntry (most : Limits) (d : Declared) : Type 0 where
  pub name : tag_named d.name ≡ true
  pub own : is_own most.roles d.name ≡ true
  pub locals : HasFewLocals most d.kind

pub record IsNamedState (most : Limits) (s : State) : Type 0 where
  pub structures : Each (IsNamedStructure most) s.structures
  pub names : Each (IsNamedEntry most) s.names

-- what a construct adds: names that may name something, where structures have no more members, and functions no more locals, than the limit; and of locals, of names, and of structures with those that are completed, no more than so many
pub record Adds (most : Limits) (count : ℕ) (s t : State) : Type 0 where
  pub state : IsNamedState most s → IsNamedState most t
  pub locals : list_all is_name (local_names s.locals) ≡ true → list_all is_name (local_names t.locals) ≡ true
  pub few_locals : length t.locals ≤ length s.locals + count
  pub few_names : length t.names ≤ length s.names + count
  pub few_structures : length t.structures + length t.completed ≤ length s.structures + length s.completed + count

-- ---- declarators, where the count of the tree is n

-- a parameter; where the flag is not set it has a name
pub record IsNamedParameter (unnamed : Bool) (p : Parameter) : Type 0 where
  pub name : tag_named p.name ≡ true
  pub there : unnamed ≡ false → is_some p.name ≡ true

pub record AreNamedParameters (unnamed : Bool) (n : ℕ) (ps : List Parameter) : Type 0 where
  pub each : Each (IsNamedParameter unnamed) ps
  pub few : length ps ≤ n

abbrev pub IsNamedDerivation : Bool → ℕ → Derivation Scope → Type 0
IsNamedDerivation unnamed n (to.Function ps scope) = AreNamedParameters unnamed n ps
IsNamedDerivation unnamed n (to.Pointer constant volatile) = Unit {0}
IsNamedDerivation unnamed n (to.Array bound) = Unit {0}

-- the one next to the name
abbrev pub IsNamedNext : Bool → ℕ → List (At (Derivation Scope)) → Type 0
IsNamedNext unnamed n [] = Unit {0}
IsNamedNext unnamed n (d ∷ ds) = IsNamedDerivation unnamed n d.node

-- what a declarator adds, whose count is this, is less by one where it has a name; the flags say that its tree has a name, and that its parameters need none
pub record AddsDeclarator (most : Limits) (count : ℕ) (named unnamed : Bool) (s : State) (r : Declarator Scope × State) : Type 0 where
  pub used : ℕ
  pub within : used ≤ count
  pub adds : Adds most used s r.1
  pub name : (x : Name) → r.0.name ≡ Some x → (is_name x ≡ true) × (used + 1 ≤ count)
  pub there : named ≡ true → is_some r.0.name ≡ true
  pub next : IsNamedNext unnamed count r.0.derivations
