use Rattle.std.proofs.Common.{IsTrue, Err, ap, refl}
use Rattle.cc_edge.specs.Faults.{Rose}
use Rattle.cc_files.proofs.Within.{by-fault, by-length}
use Rattle.cc_files.proofs.unread.read_file.Goals as goal

pub returns-in-Err-ReadFault-clause-unread : goal.returns-in-Err-ReadFault-clause-unread
returns-in-Err-ReadFault-clause-unread g c = λ n told.
    by-fault (g.F.Store.files c.args.store.now) (Rose (g.F.Store.faults c.args.store.now) (g.F.Store.faults c.read_whole.new.store)) (IsTrue (g.F.Store.told c.args.store.now)) c.args.limit c.args.name.now c.in_ok-copy.copy
    c.in_ok-copy.ensures (c.in-Err-ReadFault.ensures.fault (ap Err c.in-Err-ReadFault.field-0-is))

pub returns-in-Err-TooLong-clause-unread : goal.returns-in-Err-TooLong-clause-unread
returns-in-Err-TooLong-clause-unread g c = λ n told.
    by-length (g.F.Store.files c.args.store.now) (Rose (g.F.Store.faults c.args.store.now) (g.F.Store.faults c.read_whole.new.store)) c.args.limit c.args.name.now c.in_ok-copy.copy (g.F.Store.files c.args.store.now c.args.name.now) refl
    c.in_ok-copy.ensures (c.in-Err-TooLong.ensures.long (ap Err c.in-Err-TooLong.field-0-is) told)
