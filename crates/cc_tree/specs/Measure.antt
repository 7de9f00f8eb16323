-- Of the machine, a twin of the code: what falls with each turn. A token weighs more than whatever one turn may add,
-- and what waits weighs more than the step from what has been read to what that is a part of.
use Rattle.std.specs.Prelude.{ℕ, ◌+◌, ◌*◌, length}
use Rattle.cc_tree.specs.declared.state.Control.{Control}
use Rattle.cc_tree.specs.declared.state.Control.TheVariants as control
use Rattle.cc_tree.specs.Machine.{State}

-- how many turns may come of what is to be done, where they take no token
abbrev pub rank : Control → ℕ
rank (control.Expr l) = 3
rank (control.Operand l) = 0
rank (control.Postfix e) = 1
rank (control.Operators least level e) = 1
rank (control.Tree level e) = 0
rank (control.Specs s) = 4
rank (control.HaveSpecs s) = 3
rank (control.Structure s) = 7
rank (control.Enumr e) = 0
rank (control.Enumeration e) = 0
rank control.Declr = 2
rank (control.Suffix d) = 1
rank (control.HaveDeclr d) = 0
rank control.Value = 6
rank (control.HaveValue g) = 0
rank (control.Decl outside) = 7
rank (control.Inits d) = 0
rank (control.HaveDecl n d) = 9
rank control.Statement = 6
rank (control.Block b) = 10
rank (control.HaveLine a) = 9
rank (control.Test f) = 6
rank (control.Step f) = 6
rank (control.HaveBody b) = 8
rank (control.Items is) = 10
rank (control.HaveItem i) = 9
rank (control.Done u) = 0

unfoldable pub measure : State → ℕ
measure s = 16 * length s.rest + 2 * length s.frames + rank s.control
