-- What is told once of a program.
use Rattle.std.specs.Prelude.{◌≡◌, ◌≤◌, ℕ, List, [], length}
use Rattle.cc_program.specs.declared.program.Program.{Program}
use Rattle.cc_rules_again.specs.Named as is
use Rattle.cc_rules_readers.specs.declared.groups.By.TheVariants as by
use Rattle.cc_rules_readers.specs.declared.index.Index.{Index}
use Rattle.cc_rules_readers.specs.declared.naming.Named.TheVariants as named
use Rattle.cc_rules_readers.specs.declared.picked.Test.TheVariants as test
use Rattle.cc_rules_readers.specs.Points.{points_that, passes_in, group, group_at}
use Rattle.cc_rules_readers.specs.View.{AreDeeds}
use Rattle.cc_rules_asked.specs.CcStateFacts.declared.facts.Key.{Key}
use Rattle.cc_rules_asked.specs.CcStateFacts.declared.facts.Key.TheVariants as key

-- its lists are those of what the statements of the points do
pub record IsIndexed (index : Index) : Type 0 where
  pub few : length index.deeds ≤ 65536
  pub functions : (g : ℕ) → group_at index.functions g ≡ group index.deeds by.Function g
  pub callers : (g : ℕ) → group_at index.callers g ≡ group index.deeds by.Callee g
  pub pointer_calls : index.pointer_calls ≡ points_that index.deeds (passes_in test.CallsThroughPointer)
  pub objects : (i : ℕ) → group_at index.objects i ≡ group index.deeds by.Object i
  pub locals : (g : ℕ) → group_at index.locals g ≡ group index.deeds by.Local g
  pub members : (m : ℕ) → group_at index.members m ≡ group index.deeds by.Member m
  pub named_reads : index.named_reads ≡ points_that index.deeds (passes_in (test.Reads named.EachKey))
  pub pointer_reads : index.pointer_reads ≡ points_that index.deeds (passes_in test.ReadsThroughPointer)

-- and these do what they do in the program
pub record IsIndexOf (p : Program) (index : Index) : Type 0 where
  pub deeds : AreDeeds p index.deeds
  pub lists : IsIndexed index

-- ---- points among which are those that read some keys without a pointer

abbrev pub key_candidates : Index → Key → List ℕ
key_candidates index (key.Object i) = group_at index.objects i
key_candidates index (key.Local g r) = group_at index.locals g
key_candidates index (key.Member s m) = group_at index.members m

abbrev pub candidates : Index → is.Named → List ℕ
candidates index is.NoKey = []
candidates index (is.OneKey k) = key_candidates index k
candidates index (is.MembersAt m) = group_at index.members m
candidates index (is.LocalsOf g) = group_at index.locals g
candidates index is.EachKey = index.named_reads
