-- Orders of the static objects of a program whose text names no others.
use Rattle.std.specs.Prelude.{◌≡◌, ◌<◌, ℕ, Bool, true, nat_eq, All, List, length, Some, slice_get}
use Rattle.std.specs.List.{list_any}
use Rattle.cc_lower_numbers.specs.Order.{arranged}
use Rattle.cc_program.specs.declared.func.Func.{Func}
use Rattle.cc_program.specs.declared.object.Object.{Object}
use Rattle.cc_program.specs.declared.program.Program.{Program}
use Rattle.cc_rewrite_renamed.specs.Names.{names_in_stmt, names_in_leaf}

-- whether it stands in an order
abbrev pub is_in : List ℕ → ℕ → Bool
is_in order i = list_any (nat_eq i) order

module _ (order : List ℕ) where
  abbrev pub NamesInFunc : Func → Type 0
  NamesInFunc f = All (λ s. names_in_stmt (is_in order) s ≡ true) f.body

  abbrev pub NamesInObject : Object → Type 0
  NamesInObject o = All (λ l. names_in_leaf (is_in order) l ≡ true) o.init

  -- objects of a program, each once; what its functions name stands there, and what first values of these objects name
  pub record IsOrderOf (p : Program) : Type 0 where
    pub within : All (λ i. i < length p.objects) order
    pub once : (i j k : ℕ) → slice_get order i ≡ Some k → slice_get order j ≡ Some k → i ≡ j
    pub text : All NamesInFunc p.funcs
    pub first : All NamesInObject (arranged p.objects order)
