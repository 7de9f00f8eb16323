use Rattle.std.proofs.Common.{ap}
use Rattle.cc_eval.specs.Eval.{Meaning, Designation}
use Rattle.cc_eval.proofs.Opened.{meaning_at, designation_at, next-Both, next-Either, next-Choose, next-Intr, at-Const, at-Null, at-FuncAddr, at-Un, at-Bin, at-Conv, at-Qualify, at-Move, at-Gap, at-Compare, at-Seq, at-Load, at-AddrOf, at-Assign, at-Change, at-After, at-Call, at-Local, at-Static, at-Device, at-Element, at-Member, at-Deref}
use Rattle.cc_eval.proofs.kinds.equations.Goals as goal

pub returns : goal.returns
returns g = record {
  expressions = λ c e x h. meaning_at c e x h;
  places = λ c a x h. designation_at c a x h;
  constants = λ c n t later. ap (λ (m : Meaning). m.next later) (at-Const c n t);
  nulls = λ c t later. ap (λ (m : Meaning). m.next later) (at-Null c t);
  functions = λ c f later. ap (λ (m : Meaning). m.next later) (at-FuncAddr c f);
  unary_operators = λ c o t a later. ap (λ (m : Meaning). m.next later) (at-Un c o t a);
  binary_operators = λ c o t a b later. ap (λ (m : Meaning). m.next later) (at-Bin c o t a b);
  conversions = λ c t a later. ap (λ (m : Meaning). m.next later) (at-Conv c t a);
  qualifications = λ c t a later. ap (λ (m : Meaning). m.next later) (at-Qualify c t a);
  movements = λ c a b back later. ap (λ (m : Meaning). m.next later) (at-Move c a b back);
  differences = λ c a b later. ap (λ (m : Meaning). m.next later) (at-Gap c a b);
  comparisons = λ c o a b later. ap (λ (m : Meaning). m.next later) (at-Compare c o a b);
  conjunctions = λ c a b later. next-Both c a b later;
  disjunctions = λ c a b later. next-Either c a b later;
  choices = λ c x a b later. next-Choose c x a b later;
  sequences = λ c a b later. ap (λ (m : Meaning). m.next later) (at-Seq c a b);
  loads = λ c a later. ap (λ (m : Meaning). m.next later) (at-Load c a);
  addresses = λ c a later. ap (λ (m : Meaning). m.next later) (at-AddrOf c a);
  assignments = λ c a e later. ap (λ (m : Meaning). m.next later) (at-Assign c a e);
  changes = λ c a o t e later. ap (λ (m : Meaning). m.next later) (at-Change c a o t e);
  steps = λ c a down later. ap (λ (m : Meaning). m.next later) (at-After c a down);
  calls = λ c f args later. ap (λ (m : Meaning). m.next later) (at-Call c f args);
  intrinsics = λ c i a later. next-Intr c i a later;
  locals = λ c r later. ap (λ (m : Designation). m.leads later) (at-Local c r);
  statics = λ c i later. ap (λ (m : Designation). m.leads later) (at-Static c i);
  devices = λ c d later. ap (λ (m : Designation). m.leads later) (at-Device c d);
  elements = λ c a i later. ap (λ (m : Designation). m.leads later) (at-Element c a i);
  members = λ c a m later. ap (λ (m : Designation). m.leads later) (at-Member c a m);
  pointers = λ c e later. ap (λ (m : Designation). m.leads later) (at-Deref c e);
}
