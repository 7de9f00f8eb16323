-- Statements whose loops are all `while (1)`, without blocks and without empty statements.
use Rattle.std.specs.Prelude.{Bool, true, false, ◌&&◌, List, map}
use Rattle.std.specs.List.{list_all}
use Rattle.cc_program.specs.declared.program.Program.{Program}
use Rattle.cc_program.specs.declared.stmt.Stmt.{Stmt, fold-Stmt}
use Rattle.cc_program.specs.declared.stmt.Stmt.TheOpen as is
use Rattle.cc_eval.specs.CcSyntax.Forms.{form_of}
use Rattle.cc_eval.specs.CcSyntax.Normal.{is_one}

abbrev pub plain_step : is.Stmt-F Bool Bool → Bool
plain_step (is.Do e) = true
plain_step (is.If e a b) = list_all (λ b. b) a && list_all (λ b. b) b
plain_step (is.While e a) = is_one (form_of e) && list_all (λ b. b) a
plain_step (is.DoWhile a e) = false
plain_step (is.For first test step a) = false
plain_step (is.Switch e cases) = list_all (λ b. b) cases
plain_step is.Break = true
plain_step is.Continue = true
plain_step (is.Return e) = true
plain_step is.Empty = false
plain_step (is.Block a) = false

unfoldable pub is_plain : Stmt → Bool
is_plain s = fold-Stmt Bool Bool plain_step (λ c. list_all (λ b. b) c.body) s

abbrev pub are_plain : List Stmt → Bool
are_plain list = list_all (λ b. b) (map is_plain list)

-- those of each function of a program are such
abbrev pub has_plain_statements : Program → Bool
has_plain_statements p = list_all (λ f. are_plain f.body) p.funcs
