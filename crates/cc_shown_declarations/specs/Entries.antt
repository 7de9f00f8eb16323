-- How the text of a program says that a function is a handler: by its attribute. One that the roles alone name has none.
use Rattle.std.specs.Prelude.{Option, Some, None}
use Rattle.cc_program.specs.declared.func.Entry.{Entry}
use Rattle.cc_program.specs.declared.func.Entry.TheVariants as entry

abbrev pub written_entry : Option Entry → Option Entry
written_entry None = None
written_entry (Some entry.Listed) = None
written_entry (Some entry.Signal) = Some entry.Signal
written_entry (Some entry.Interrupt) = Some entry.Interrupt
