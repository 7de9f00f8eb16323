-- Points that read some keys without a pointer are among the candidates; and callers are those by address and those through pointers.
use Rattle.std.proofs.Common.{arith, ◌≡◌, ◌≤◌, ◌<◌, ℕ, Bool, true, false, true≢false, ◌&&◌, ◌||◌, List, length, All, Option, Some, None, slice_get, refl, sym, ap, subst, ◌∙◌}
use Rattle.std.specs.Prelude.{◌==◌}
use Rattle.std.specs.List.{filter}
use Rattle.std.proofs.lemmas.List.Elements.{filter_agree}
use Rattle.cc_rules_again.specs.Named as is
use Rattle.cc_rules_asked.specs.CcRulesNeeds.Flowing.{numbers}
use Rattle.cc_rules_readers.specs.declared.deeds.Called.{Called}
use Rattle.cc_rules_readers.specs.declared.deeds.Called.TheVariants as called
use Rattle.cc_rules_readers.specs.declared.deeds.Deed.{Deed}
use Rattle.cc_rules_readers.specs.declared.groups.By.TheVariants as by
use Rattle.cc_rules_readers.specs.declared.index.Index.{Index}
use Rattle.cc_rules_readers.specs.declared.naming.Named.{Named}
use Rattle.cc_rules_readers.specs.declared.naming.Named.TheVariants as named
use Rattle.cc_rules_readers.specs.declared.picked.Test.TheVariants as test
use Rattle.cc_rules_readers.specs.Index.{IsIndexed, key_candidates, candidates}
use Rattle.cc_rules_readers.specs.Points.{on, points_that, is_of, may_call_in, is_each_call, reads_in, passes_in, callee_in, group_of, is_that, group, group_at, merged}
use Rattle.cc_rules_readers.specs.View.{named_view, calls_it, object_of, function_of, member_of}
use Rattle.cc_rules_readers.proofs.Merging.{merged_parts}
use Rattle.cc_rules_readers.proofs.Numbers.{either_way, none_passes, not_passed, filter_within, small_from}
use Rattle.cc_rules_asked.specs.CcStateFacts.declared.facts.Key.{Key}
use Rattle.cc_rules_asked.specs.CcStateFacts.declared.facts.Key.TheVariants as key

-- ---- bounds

pub small_points : (deeds : List Deed) (does : Deed → Bool) → length deeds ≤ 65536 → All (λ n. n ≤ 65536) (points_that deeds does)
small_points deeds does few = small_from (λ n. on does (slice_get deeds n)) 65536 0 (length deeds) (omega (arith, few))

module _ (index : Index) (indexed : IsIndexed index) where
  small_by : (xs : List ℕ) (does : Deed → Bool) → xs ≡ points_that index.deeds does → All (λ n. n ≤ 65536) xs
  small_by xs does e = subst (λ (xs : List ℕ). All (λ n. n ≤ 65536) xs) (sym e) (small_points index.deeds does indexed.few)

  pub small_functions : (g : ℕ) → All (λ n. n ≤ 65536) (group_at index.functions g)
  small_functions g = small_by (group_at index.functions g) (λ deed. is_that (group_of by.Function deed) g) (indexed.functions g)

  pub small_callers : (g : ℕ) → All (λ n. n ≤ 65536) (group_at index.callers g)
  small_callers g = small_by (group_at index.callers g) (λ deed. is_that (group_of by.Callee deed) g) (indexed.callers g)

  pub small_pointer_calls : All (λ n. n ≤ 65536) index.pointer_calls
  small_pointer_calls = small_by index.pointer_calls (passes_in test.CallsThroughPointer) indexed.pointer_calls

  pub small_pointer_reads : All (λ n. n ≤ 65536) index.pointer_reads
  small_pointer_reads = small_by index.pointer_reads (passes_in test.ReadsThroughPointer) indexed.pointer_reads

  small_key : (k : Key) → All (λ n. n ≤ 65536) (key_candidates index k)
  small_key (key.Object i) = small_by (group_at index.objects i) (λ deed. is_that (group_of by.Object deed) i) (indexed.objects i)
  small_key (key.Local g r) = small_by (group_at index.locals g) (λ deed. is_that (group_of by.Local deed) g) (indexed.locals g)
  small_key (key.Member s m) = small_by (group_at index.members m) (λ deed. is_that (group_of by.Member deed) m) (indexed.members m)

  pub small_candidates : (keys : is.Named) → All (λ n. n ≤ 65536) (candidates index keys)
  small_candidates is.NoKey = λ n d l. absurd (let h : n < 0 = l in omega (arith, h))
  small_candidates (is.OneKey k) = small_key k
  small_candidates (is.MembersAt m) = small_by (group_at index.members m) (λ deed. is_that (group_of by.Member deed) m) (indexed.members m)
  small_candidates (is.LocalsOf g) = small_by (group_at index.locals g) (λ deed. is_that (group_of by.Local deed) g) (indexed.locals g)
  small_candidates is.EachKey = small_by index.named_reads (passes_in (test.Reads named.EachKey)) indexed.named_reads

-- ---- callers

or_false : (b : Bool) → b ≡ (b || false)
or_false true = refl
or_false false = refl

and_false : (b : Bool) → (b && false) ≡ false
and_false true = refl
and_false false = refl

calls_parts : (c : Called) (g : ℕ) → calls_it c g ≡ (is_that (callee_in c) g || is_each_call c)
calls_parts called.Nothing g = refl
calls_parts (called.Function h) g = or_false (g == h)
calls_parts called.Each g = refl

calls_apart : (c : Called) (g : ℕ) → (is_that (callee_in c) g && is_each_call c) ≡ false
calls_apart called.Nothing g = refl
calls_apart (called.Function h) g = and_false (g == h)
calls_apart called.Each g = refl

on_parts : (o : Option Deed) (g : ℕ) → on (may_call_in g) o ≡ (on (λ deed. is_that (group_of by.Callee deed) g) o || on (passes_in test.CallsThroughPointer) o)
on_parts None g = refl
on_parts (Some deed) g = calls_parts deed.called g

on_apart : (o : Option Deed) (g : ℕ) → (on (λ deed. is_that (group_of by.Callee deed) g) o && on (passes_in test.CallsThroughPointer) o) ≡ false
on_apart None g = refl
on_apart (Some deed) g = calls_apart deed.called g

-- ---- reads

same_class : (a b : ℕ) (c : Bool) → ((a == b) && c) ≡ true → (b == a) ≡ true
same_class a b c h = grind (arith, h)

turned : (a b : ℕ) → (a == b) ≡ true → (b == a) ≡ true
turned a b h = either_way b a ∙ h

never : {C : Type 0} → false ≡ true → C
never h = absurd (true≢false (sym h))

module _ (index : Index) (indexed : IsIndexed index) where
  pub callers_merged : (g : ℕ) → merged (group_at index.callers g) index.pointer_calls ≡ points_that index.deeds (may_call_in g)
  callers_merged g =
      ap (λ xs. merged xs index.pointer_calls) (indexed.callers g)
      ∙ (ap (merged (group index.deeds by.Callee g)) indexed.pointer_calls
      ∙ merged_parts (λ n. on (may_call_in g) (slice_get index.deeds n)) (λ n. on (λ deed. is_that (group_of by.Callee deed) g) (slice_get index.deeds n)) (λ n. on (passes_in test.CallsThroughPointer) (slice_get index.deeds n))
      (λ n. on_parts (slice_get index.deeds n) g) (λ n. on_apart (slice_get index.deeds n) g) (length index.deeds))

  of_function : (o : Option Deed) (g : ℕ) → on (λ deed. is_that (group_of by.Function deed) g) o ≡ on (is_of g) o
  of_function None g = refl
  of_function (Some deed) g = refl

  pub functions_are : (g : ℕ) → group_at index.functions g ≡ points_that index.deeds (is_of g)
  functions_are g = indexed.functions g ∙ filter_agree (λ n. on (λ deed. is_that (group_of by.Function deed) g) (slice_get index.deeds n)) (λ n. on (is_of g) (slice_get index.deeds n)) (λ n. of_function (slice_get index.deeds n) g) (numbers 0 (length index.deeds))

  -- candidates that are points whose statements do something that is done wherever one of the keys is read
  enough_by : (keys : Named) (xs : List ℕ) (does : Deed → Bool) → xs ≡ points_that index.deeds does → ((deed : Deed) → reads_in keys deed ≡ true → does deed ≡ true) →
      filter (λ n. on (reads_in keys) (slice_get index.deeds n)) xs ≡ points_that index.deeds (reads_in keys)
  enough_by keys xs does e within =
      ap (filter (λ n. on (reads_in keys) (slice_get index.deeds n))) e
      ∙ filter_within (λ n. on (reads_in keys) (slice_get index.deeds n)) (λ n. on does (slice_get index.deeds n)) (λ n. both (slice_get index.deeds n)) (numbers 0 (length index.deeds))
    where
      both : (o : Option Deed) → on (reads_in keys) o ≡ true → on does o ≡ true
      both None h = h
      both (Some deed) h = within deed h

object_read : (i : ℕ) (r : is.Named) → is.is_named (is.OneKey (key.Object i)) r ≡ true → is_that (object_of r) i ≡ true
object_read i is.NoKey h = never h
object_read i (is.OneKey (key.Object j)) h = h
object_read i (is.OneKey (key.Local g r)) h = never h
object_read i (is.OneKey (key.Member s m)) h = never h
object_read i (is.MembersAt m) h = never h
object_read i (is.LocalsOf g) h = never h
object_read i is.EachKey h = never h

local_read : (g r : ℕ) (x : is.Named) → is.is_named (is.OneKey (key.Local g r)) x ≡ true → is_that (function_of x) g ≡ true
local_read g r is.NoKey h = never h
local_read g r (is.OneKey (key.Object j)) h = never h
local_read g r (is.OneKey (key.Local f q)) h = turned f g (same_class g f (r == q) h)
local_read g r (is.OneKey (key.Member s m)) h = never h
local_read g r (is.MembersAt m) h = never h
local_read g r (is.LocalsOf f) h = h
local_read g r is.EachKey h = never h

member_read : (s m : ℕ) (x : is.Named) → is.is_named (is.OneKey (key.Member s m)) x ≡ true → is_that (member_of x) m ≡ true
member_read s m is.NoKey h = never h
member_read s m (is.OneKey (key.Object j)) h = never h
member_read s m (is.OneKey (key.Local f q)) h = never h
member_read s m (is.OneKey (key.Member t n)) h = second (s == t) (m == n) h
  where
    second : (a b : Bool) → (a && b) ≡ true → b ≡ true
    second true b h = h
    second false b h = never h
member_read s m (is.MembersAt n) h = h
member_read s m (is.LocalsOf f) h = never h
member_read s m is.EachKey h = never h

members_read : (m : ℕ) (x : is.Named) → is.is_named (is.MembersAt m) x ≡ true → is_that (member_of x) m ≡ true
members_read m is.NoKey h = never h
members_read m (is.OneKey (key.Object j)) h = never h
members_read m (is.OneKey (key.Local f q)) h = never h
members_read m (is.OneKey (key.Member t n)) h = turned n m h
members_read m (is.MembersAt n) h = h
members_read m (is.LocalsOf f) h = never h
members_read m is.EachKey h = never h

locals_read : (g : ℕ) (x : is.Named) → is.is_named (is.LocalsOf g) x ≡ true → is_that (function_of x) g ≡ true
locals_read g is.NoKey h = never h
locals_read g (is.OneKey (key.Object j)) h = never h
locals_read g (is.OneKey (key.Local f q)) h = turned f g h
locals_read g (is.OneKey (key.Member t n)) h = never h
locals_read g (is.MembersAt n) h = never h
locals_read g (is.LocalsOf f) h = h
locals_read g is.EachKey h = never h

no_read : (x : is.Named) → is.is_named is.NoKey x ≡ true → ⊥
no_read is.NoKey h = never h
no_read (is.OneKey k) h = never h
no_read (is.MembersAt m) h = never h
no_read (is.LocalsOf g) h = never h
no_read is.EachKey h = never h

module _ (index : Index) (indexed : IsIndexed index) where
  pub enough : (keys : Named) → filter (λ n. on (reads_in keys) (slice_get index.deeds n)) (candidates index (named_view keys)) ≡ points_that index.deeds (reads_in keys)
  enough named.NoKey = sym (none_passes (λ n. on (reads_in named.NoKey) (slice_get index.deeds n)) 0 (length index.deeds) (λ g l m. not_passed (on (reads_in named.NoKey) (slice_get index.deeds g)) (λ h. none (slice_get index.deeds g) h)))
    where
      none : (o : Option Deed) → on (reads_in named.NoKey) o ≡ true → ⊥
      none None h = never h
      none (Some deed) h = no_read (named_view deed.read) h
  enough (named.OneKey (key.Object i)) = enough_by index indexed (named.OneKey (key.Object i)) (group_at index.objects i) (λ deed. is_that (group_of by.Object deed) i) (indexed.objects i) (λ deed h. object_read i (named_view deed.read) h)
  enough (named.OneKey (key.Local g r)) = enough_by index indexed (named.OneKey (key.Local g r)) (group_at index.locals g) (λ deed. is_that (group_of by.Local deed) g) (indexed.locals g) (λ deed h. local_read g r (named_view deed.read) h)
  enough (named.OneKey (key.Member s m)) = enough_by index indexed (named.OneKey (key.Member s m)) (group_at index.members m) (λ deed. is_that (group_of by.Member deed) m) (indexed.members m) (λ deed h. member_read s m (named_view deed.read) h)
  enough (named.MembersAt m) = enough_by index indexed (named.MembersAt m) (group_at index.members m) (λ deed. is_that (group_of by.Member deed) m) (indexed.members m) (λ deed h. members_read m (named_view deed.read) h)
  enough (named.LocalsOf g) = enough_by index indexed (named.LocalsOf g) (group_at index.locals g) (λ deed. is_that (group_of by.Local deed) g) (indexed.locals g) (λ deed h. locals_read g (named_view deed.read) h)
  enough named.EachKey = enough_by index indexed named.EachKey index.named_reads (passes_in (test.Reads named.EachKey)) indexed.named_reads (λ deed h. h)
