-- Why linking gives no program: the first cause against the sources, or want of memory.
use Rattle.std.specs.Prelude.{⊤, List}
use Rattle.cc_link.specs.Linked.{Breaks}
use Rattle.cc_link.specs.declared.fault.LinkEnd.{LinkEnd}
use Rattle.cc_link.specs.declared.fault.LinkEnd.TheVariants as end
use Rattle.cc_program.specs.declared.program.Roles.{Roles}
use Rattle.cc_things.specs.declared.text.Text.{Text}

abbrev pub Tells : List Text → Roles → LinkEnd → Type 0
Tells texts roles (end.Fault f) = Breaks texts roles f
Tells texts roles end.NoMemory = ⊤
