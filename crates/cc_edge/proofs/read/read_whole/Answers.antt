-- The bytes of a read are counted behind those that were taken before.
use Rattle.std.proofs.Common.{◌≡◌, ◌≤◌, ◌+◌, ◌∙◌, false, IsTrue, length, vec_len, arith, rules, ap, refl, sym, subst}
use Rattle.std.proofs.lemmas.Grind.{common_steps}
use Rattle.cc_edge.specs.Faults.{raised}
use Rattle.cc_edge.proofs.Prefixes.{IsStart-long, of_reads, raised-more, raised-least, fault-since}
use Rattle.cc_edge.proofs.read.read_whole.Goals as goal

pub returns-in-Failed-clause-fault : goal.returns-in-Failed-clause-fault
returns-in-Failed-clause-fault g c = λ e.
    fault-since (g.F.Store.faults c.args.store.now) (g.F.Store.faults c.loop-piece.store) (g.F.Store.faults c.read_at.new.self) c.loop-piece.invariant.later (c.in-Failed.ensures.cause refl)
    (λ missing.
    let told : IsTrue (g.F.Store.told c.args.store.now) = subst IsTrue c.loop-piece.invariant.told missing.0 in
    (told, sym (c.loop-piece.invariant.stay told c.args.name.now) ∙ missing.1))

pub returns-in-Failed-clause-under : goal.returns-in-Failed-clause-under
returns-in-Failed-clause-under g c = λ e untold.
    let taken = c.in-Failed.ensures.taken (c.loop-piece.invariant.told ∙ untold) ∙ c.loop-piece.invariant.taken untold in
    rw taken (raised-least (vec_len c.loop-piece.bytes) c.args.limit (g.F.Store.taken c.args.store.now) (omega arith))

pub returns-in-Failed-clause-most : goal.returns-in-Failed-clause-most
returns-in-Failed-clause-most g c = λ untold.
    let taken = c.in-Failed.ensures.taken (c.loop-piece.invariant.told ∙ untold) ∙ c.loop-piece.invariant.taken untold in
    rw taken (raised-least (vec_len c.loop-piece.bytes) (c.args.limit + 1) (g.F.Store.taken c.args.store.now) c.loop-piece.invariant.most)

pub returns-in-End-clause-most : goal.returns-in-End-clause-most
returns-in-End-clause-most g c = λ untold.
    let taken = c.in-End.ensures.taken (c.loop-piece.invariant.told ∙ untold) ∙ c.loop-piece.invariant.taken untold in
    rw taken (raised-least (vec_len c.loop-piece.bytes) (c.args.limit + 1) (g.F.Store.taken c.args.store.now) c.loop-piece.invariant.most)

pub returns-in-End-clause-taken : goal.returns-in-End-clause-taken
returns-in-End-clause-taken g c = λ untold.
    let all : vec_len c.loop-piece.bytes ≡ length c.loop-piece.bytes.items = omega arith in
    c.in-End.ensures.taken (c.loop-piece.invariant.told ∙ untold) ∙ c.loop-piece.invariant.taken untold ∙ ap (λ k. raised k (g.F.Store.taken c.args.store.now)) all

pub returns-in-End-clause-whole : goal.returns-in-End-clause-whole
returns-in-End-clause-whole g c = grind (arith, of_reads)

pub returns-then-is_err-clause-most : goal.returns-then-is_err-clause-most
returns-then-is_err-clause-most g c = λ untold.
    let now : g.F.Store.told c.loop-piece.store ≡ false = c.loop-piece.invariant.told ∙ untold in
    let e : g.F.Store.taken c.read_at.new.self ≡ raised (vec_len c.loop-piece.bytes + c.in-Bytes.n) (g.F.Store.taken c.args.store.now) =
    cc (c.loop-piece.invariant.taken untold, c.in-Bytes.ensures.taken now, raised-more c.in-Bytes.n (vec_len c.loop-piece.bytes) (g.F.Store.taken c.args.store.now)) in
    let within : vec_len c.loop-piece.bytes + c.in-Bytes.n ≤ c.args.limit + 1 = grind (arith, common_steps) in
    rw e (raised-least (vec_len c.loop-piece.bytes + c.in-Bytes.n) (c.args.limit + 1) (g.F.Store.taken c.args.store.now) within)

pub returns-clause-long : goal.returns-clause-long
returns-clause-long g c = λ e told. IsStart-long c.loop-piece.bytes.items (g.F.Store.files c.args.store.now c.args.name.now) c.args.limit (c.loop-piece.invariant.start told) (omega arith)

pub returns-clause-over : goal.returns-clause-over
returns-clause-over g c = λ e untold.
    let all : vec_len c.loop-piece.bytes ≡ c.args.limit + 1 = omega arith in
    c.loop-piece.invariant.taken untold ∙ ap (λ k. raised k (g.F.Store.taken c.args.store.now)) all

pub returns-clause-most : goal.returns-clause-most
returns-clause-most g c = λ untold. rw (c.loop-piece.invariant.taken untold) (raised-least (vec_len c.loop-piece.bytes) (c.args.limit + 1) (g.F.Store.taken c.args.store.now) c.loop-piece.invariant.most)

pub loop-piece-preserved : goal.loop-piece-preserved
loop-piece-preserved g c = record {
  told = search rules;
  later = search rules;
  size = grind (arith, common_steps);
  most = grind (arith, common_steps);
  stay = λ told name.
      c.in-Bytes.ensures.stay (subst IsTrue (sym c.loop-piece.invariant.told) told) name ∙ c.loop-piece.invariant.stay told name;
  taken = λ untold.
      let now : g.F.Store.told c.loop-piece.store ≡ false = c.loop-piece.invariant.told ∙ untold in
      let grown : vec_len c.extend_from_slice.new.self ≡ vec_len c.loop-piece.bytes + c.in-Bytes.n = grind (arith, common_steps) in
      cc (c.loop-piece.invariant.taken untold, c.in-Bytes.ensures.taken now, raised-more c.in-Bytes.n (vec_len c.loop-piece.bytes) (g.F.Store.taken c.args.store.now), grown);
  start = grind (arith, common_steps, of_reads);
}
