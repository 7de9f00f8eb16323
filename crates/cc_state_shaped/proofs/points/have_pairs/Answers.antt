use Rattle.std.proofs.Common.{◌↔◌, ℕ, IsTrue, List, length, ap, subst}
use Rattle.std.specs.List.{All, AllPairs, Contains}
use Rattle.cc_state_reads.specs.CcStateFacts.Orders.{IsBefore}
use Rattle.cc_state_shaped.proofs.Filled.{each_contained, all_from_each}
use Rattle.cc_state_shaped.proofs.Tests.{both, not_first, as_said}
use Rattle.cc_state_shaped.specs.Parts.{IsWithin}
use Rattle.cc_state_shaped.proofs.points.have_pairs.Goals as goal

pub returns-then-are_within : goal.returns-then-are_within
returns-then-are_within g c =
    let n = length c.args.registers.now in
    let m = length c.args.layout.now.tracked in
    let within = subst (λ k. IsTrue c.are_within.result ↔ All (IsWithin n k) c.all-pairs.result.now) (ap length c.all.ensures) c.are_within.ensures in
    subst (λ (ps : List (ℕ × ℕ)). IsTrue c.do_ascend.result ↔ (((pair : ℕ × ℕ) → Contains ps pair → IsWithin n m pair) × AllPairs IsBefore ps)) c.all-pairs.ensures
    (both c.are_within.result c.do_ascend.result (as_said c.are_within.result (each_contained (IsWithin n m) c.all-pairs.result.now) (all_from_each (IsWithin n m) c.all-pairs.result.now) within) c.if-are_within.true c.do_ascend.ensures)

pub returns-else-are_within : goal.returns-else-are_within
returns-else-are_within g c =
    let n = length c.args.registers.now in
    let m = length c.args.layout.now.tracked in
    let within = subst (λ k. IsTrue c.are_within.result ↔ All (IsWithin n k) c.all-pairs.result.now) (ap length c.all.ensures) c.are_within.ensures in
    subst (λ (ps : List (ℕ × ℕ)). IsTrue c.are_within.result ↔ (((pair : ℕ × ℕ) → Contains ps pair → IsWithin n m pair) × AllPairs IsBefore ps)) c.all-pairs.ensures
    (not_first c.are_within.result (as_said c.are_within.result (each_contained (IsWithin n m) c.all-pairs.result.now) (all_from_each (IsWithin n m) c.all-pairs.result.now) within) c.if-are_within.false)
