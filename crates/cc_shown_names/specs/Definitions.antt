-- What is known in front of the definitions of a program's functions, where all that it names is declared, and behind them
-- (C99 6.9).
use Rattle.std.specs.Prelude.{◌≡◌, ℕ, suc, List, [], ◌∷◌, Option, Some, slice_get, unwrap_or}
use Rattle.cc_unit_trees.specs.Units.{ShowsFunction}
use Rattle.cc_program.specs.declared.func.Entry.{Entry}
use Rattle.cc_program.specs.declared.func.Func.{Func}
use Rattle.cc_program.specs.declared.program.Program.{Program}
use Rattle.cc_type.specs.CcScopes.Linked.{linked_name}
use Rattle.cc_type.specs.CcScopes.State.{State, named_here, with_locals}
use Rattle.cc_type.specs.CcScopes.declared.designated.Designated.TheVariants as means
use Rattle.cc_type.specs.CcScopes.declared.unit.Declared.{Declared}
use Rattle.cc_shown_names.specs.Bodies.{first_locals}
use Rattle.cc_shown_names.specs.Functions.{type_of_function, func_numbered}
use Rattle.cc_shown_expressions.specs.KnownNames.{KnowsNames}
use Rattle.cc_shown_expressions.specs.OperationNumbers.{Numbers}
use Rattle.cc_shown_names.specs.Devices.{KnowsDevices, with_devices}
use Rattle.cc_type.specs.CcSyntax.Normal.{devices_in, next_of}
use Rattle.cc_tree.specs.declared.at.At.{At}
use Rattle.cc_tree.specs.declared.unit.Item.{Item}
use Rattle.cc_tree.specs.declared.unit.Item.TheVariants as item
use Rattle.cc_type.specs.Functions.{defined_as}
use Rattle.cc_type.specs.CcUnit.declared.unit.Linkage.TheVariants as linkage
use Rattle.cc_type.specs.CcUnit.declared.unit.UnitKind.TheVariants as kind

-- items that show functions, one each
pub data ShowsFunctions (p : Program) : List Func → List (At Item) → Type 0 where
  NoFunction : ShowsFunctions p [] []
  MoreFunctions : (f : Func) (fs : List Func) (x : At Item) (xs : List (At Item)) → ShowsFunction p f x.node → ShowsFunctions p fs xs → ShowsFunctions p (f ∷ fs) (x ∷ xs)

-- a function that is declared, with this number and its type
pub record IsKnownFunction (n : Numbers) (s : State) (g : Func) (k : ℕ) : Type 0 where
  pub linked : linked_name g.name s ≡ Some k
  pub here : named_here g.name s ≡ Some (means.Linked k)
  pub declared : Declared
  pub there : slice_get s.names k ≡ Some declared
  pub linkage : declared.linkage ≡ linkage.External
  pub ctype : declared.ctype ≡ type_of_function n g
  pub entry : Option Entry
  pub body : Option Func
  pub kind : declared.kind ≡ kind.Func entry body

pub record KnowsFile (p : Program) (n : Numbers) (known_devices : ℕ) (s : State) : Type 0 where
  pub names : (f : Func) → KnowsNames p (first_locals 0 f) n s
  pub functions : (i : ℕ) (g : Func) → slice_get p.funcs i ≡ Some g → IsKnownFunction n s g (n.func i)
  pub devices : KnowsDevices p n known_devices s.names

-- ---- behind them

-- where the declarator of a definition begins
abbrev pub place_of : Item → ℕ
place_of (item.Func specs d attrs body) = d.at
place_of (item.Decl d) = 0

-- how many devices are known behind a function's body
abbrev pub devices_behind : ℕ → Func → ℕ
devices_behind a f = unwrap_or (next_of a (devices_in f.body)) a

-- the definitions of these functions, from the i-th on
abbrev pub with_definitions : Program → Numbers → List Func → List (At Item) → ℕ → ℕ → State → State
with_definitions p n [] xs i a s = s
with_definitions p n (f ∷ fs) [] i a s = s
with_definitions p n (f ∷ fs) (x ∷ xs) i a s =
    with_definitions p n fs xs (suc i) (devices_behind a f) (defined_as (place_of x.node) (n.func i) (type_of_function n f) (func_numbered n f) (with_locals [] (with_devices p a (devices_behind a f) s)))
