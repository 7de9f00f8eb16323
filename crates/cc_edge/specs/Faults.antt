-- Counts of calls, of faults and of bytes: how they rise, and when a fault may be answered.
use Rattle.std.specs.Prelude.{◌≡◌, ℕ, ◌+◌, ◌-◌, ◌^◌, ◌≤◌, ◌<◌, max, min, Option, Some, None}
use Rattle.cc_edge.specs.declared.store.Got.{Got}
use Rattle.cc_edge.specs.declared.store.Got.TheVariants as got
use Rattle.cc_edge.specs.declared.store.Made.{Made}
use Rattle.cc_edge.specs.declared.store.Made.TheVariants as made
use Rattle.cc_edge.specs.declared.store.Put.{Put}
use Rattle.cc_edge.specs.declared.store.Put.TheVariants as put

-- one more; a count stands still at the end of its type
abbrev pub risen : ℕ → ℕ
risen count = min (count + 1) (2 ^ 64 - 1)

-- the count has risen, or stands at the end of its type
abbrev pub Rose : ℕ → ℕ → Type 0
Rose before now = risen before ≤ now

-- no call had a fault: the count is as before, and not at the end of its type, where every call may fail
abbrev pub HasNoFault : ℕ → ℕ → Type 0
HasNoFault before now = (now ≡ before) × (before < 2 ^ 64 - 1)

-- the count of faults after a call: one more where it failed
abbrev pub faults_after_got : Got → ℕ → ℕ
faults_after_got (got.Bytes n) faults = faults
faults_after_got got.End faults = faults
faults_after_got got.Failed faults = risen faults

abbrev pub faults_after_made : Made → ℕ → ℕ
faults_after_made made.Done faults = faults
faults_after_made made.Failed faults = risen faults

abbrev pub faults_after_put : Put → ℕ → ℕ
faults_after_put (put.Bytes n) faults = faults
faults_after_put put.Failed faults = risen faults

-- n more; a count stands still at the end of its type
unfoldable pub raised : ℕ → ℕ → ℕ
raised n count = max count (min (count + n) (2 ^ 64 - 1))

-- the count of bytes that reads have given, after one more read
abbrev pub taken_after : Got → ℕ → ℕ
taken_after (got.Bytes n) taken = raised n taken
taken_after got.End taken = taken
taken_after got.Failed taken = taken

-- where a read from a place found the end of its file, if it did
abbrev pub end_after : Got → ℕ → Option ℕ
end_after (got.Bytes n) at = None
end_after got.End at = Some at
end_after got.Failed at = None
