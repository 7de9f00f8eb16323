-- The items of a unit that shows a program, in parts: objects without their first values stand behind prototypes, the first
-- values behind them, and functions last.
use Rattle.std.specs.Prelude.{◌≡◌, List, ◌++◌, length, map}
use Rattle.cc_program.specs.declared.program.Program.{Program}
use Rattle.cc_tree.specs.declared.at.At.{At}
use Rattle.cc_tree.specs.declared.unit.Item.{Item}
use Rattle.cc_unit_trees.specs.Externals.{AnObject, AFunction}
use Rattle.cc_unit_trees.specs.Programs.{ShowsExternals}

pub record HasParts (p : Program) (xs : List (At Item)) : Type 0 where
  pub front : List (At Item)
  pub objects : List (At Item)
  pub values : List (At Item)
  pub functions : List (At Item)
  pub whole : xs ≡ front ++ (objects ++ (values ++ functions))
  pub show_objects : ShowsExternals p (map AnObject p.objects) objects
  pub show_functions : ShowsExternals p (map AFunction p.funcs) functions
  -- one each
  pub many_objects : length objects ≡ length p.objects
  pub many_functions : length functions ≡ length p.funcs
