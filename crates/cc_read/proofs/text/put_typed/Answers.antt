use Rattle.cc_read.proofs.text.put_typed.Goals as goal

pub returns-clause-typed : goal.returns-clause-typed
returns-clause-typed c = record { unit = c.in_ok-typed.typed; typed = c.in_ok-typed.ensures.typed; behind = c.in_ok-put_text.ensures }
