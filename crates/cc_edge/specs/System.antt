-- What is answered for what a call of the system gave: each error of the system is a fault.
use Rattle.std.specs.Prelude.{ℕ, zero, suc, Result, Ok, Err}
use Rattle.cc_edge.specs.declared.store.Got.{Got}
use Rattle.cc_edge.specs.declared.store.Got.TheVariants as got
use Rattle.cc_edge.specs.declared.store.Made.{Made}
use Rattle.cc_edge.specs.declared.store.Made.TheVariants as made
use Rattle.cc_edge.specs.declared.store.Put.{Put}
use Rattle.cc_edge.specs.declared.store.Put.TheVariants as put

-- a read that gives no byte stands at the end of its file
abbrev pub got_of : {E : Type 0} → Result ℕ E → Got
got_of (Ok zero) = got.End
got_of (Ok (suc n)) = got.Bytes (suc n)
got_of (Err e) = got.Failed

-- a file that was opened, and emptied by that, is made
abbrev pub made_of : {F E : Type 0} → Result F E → Made
made_of (Ok file) = made.Done
made_of (Err e) = made.Failed

-- a write that takes no byte is a fault too
abbrev pub put_of : {E : Type 0} → Result ℕ E → Put
put_of (Ok zero) = put.Failed
put_of (Ok (suc n)) = put.Bytes (suc n)
put_of (Err e) = put.Failed
