-- How a function is a handler by several declarations.
use Rattle.std.specs.Prelude.{Option, Some, None}
use Rattle.cc_program.specs.declared.func.Entry.{Entry}
use Rattle.cc_program.specs.declared.func.Entry.TheVariants as entry

-- attributes of several declarations add up, and signal wins over interrupt
abbrev pub both_entries : Option Entry → Option Entry → Option Entry
both_entries None b = b
both_entries (Some entry.Signal) b = Some entry.Signal
both_entries (Some entry.Interrupt) (Some entry.Signal) = Some entry.Signal
both_entries (Some entry.Interrupt) b = Some entry.Interrupt
both_entries (Some entry.Listed) b = Some entry.Listed
