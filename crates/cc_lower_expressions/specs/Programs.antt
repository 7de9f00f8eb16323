-- Programs whose full expressions are in normal form: other bodies, and the temporaries behind the locals, which have no names yet.
use Rattle.std.specs.Prelude.{[], List, ◌++◌, map, length}
use Rattle.cc_program.specs.declared.func.Func.{Func}
use Rattle.cc_program.specs.declared.program.Program.{Program}
use Rattle.cc_program.specs.declared.stmt.Stmt.{Stmt}
use Rattle.cc_eval.specs.CcSyntax.Types.{Named}
use Rattle.cc_lower_expressions.specs.Expressions.{Piece}
use Rattle.cc_lower_expressions.specs.Statements.{lower_list}
use Rattle.cc_lower_expressions.specs.Temporaries.{declared_type}

-- of a function of the program
abbrev pub made_of : Program → Func → Piece (Unit {0})
made_of p f = lower_list p f f.body (length f.locals)

abbrev pub temporaries : Program → Func → List Named
temporaries p f = map (λ t. ([], declared_type t)) (made_of p f).temps

abbrev pub lowered_body : Program → Func → List Stmt
lowered_body p f = (made_of p f).stmts

abbrev pub lower_func : Program → Func → Func
lower_func p f = record { name = f.name; sig = f.sig; entry = f.entry; params = f.params; locals = f.locals ++ temporaries p f; body = lowered_body p f }

-- the program with other bodies and more locals; all else is the same
abbrev pub lower_expressions_program : Program → Program
lower_expressions_program p =
    record { target = p.target; roles = p.roles; structures = p.structures; devices = p.devices; objects = p.objects; funcs = map (lower_func p) p.funcs; main = p.main }
