-- Programs whose functions have other bodies, and maybe more locals.
use Rattle.std.specs.Prelude.{◌≡◌, ℕ, true, List, ◌++◌, map, Some, is_some, slice_get}
use Rattle.cc_program.specs.declared.func.Func.{Func}
use Rattle.cc_program.specs.declared.program.Program.{Program}
use Rattle.cc_program.specs.declared.stmt.Stmt.{Stmt}
use Rattle.cc_steps.specs.CcSyntax.Types.{Named}
use Rattle.cc_steps.specs.CcSyntax.Values.{scalar_value}

abbrev pub with_funcs : Program → List Func → Program
with_funcs p funcs =
    record { target = p.target; roles = p.roles; structures = p.structures; devices = p.devices; objects = p.objects; funcs = funcs; main = p.main }

abbrev pub with_body : (Func → List Stmt) → Func → Func
with_body new f = record { name = f.name; sig = f.sig; entry = f.entry; params = f.params; locals = f.locals; body = new f }

abbrev pub with_bodies : (Func → List Stmt) → Program → Program
with_bodies new p = with_funcs p (map (with_body new) p.funcs)

-- with other bodies, and more locals behind those that there are
abbrev pub extended : (Func → List Named) → (Func → List Stmt) → Func → Func
extended more new f = record { name = f.name; sig = f.sig; entry = f.entry; params = f.params; locals = f.locals ++ more f; body = new f }

abbrev pub all_extended : (Func → List Named) → (Func → List Stmt) → Program → Program
all_extended more new p = with_funcs p (map (extended more new) p.funcs)

-- the locals that are added are scalars
abbrev pub AddsScalars : (Func → List Named) → Type 0
AddsScalars more = (f : Func) (k : ℕ) (l : Named) → slice_get (more f) k ≡ Some l → is_some (scalar_value l.1) ≡ true
