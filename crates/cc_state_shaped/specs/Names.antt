-- Of which cells an address may stand in a set, and lists of keys.
use Rattle.std.specs.Prelude.{◌≡◌, ℕ, Bool, false, not, ◌||◌, List, Option, Some, None, slice_get}
use Rattle.std.specs.List.{list_any}
use Rattle.cc_program.specs.declared.program.Program.{Program}
use Rattle.cc_program.specs.declared.types.CType.{CType}
use Rattle.cc_state.specs.Shape.{ctype_of, is_slot_type}
use Rattle.cc_state_reads.specs.CcStateFacts.declared.facts.Key.{Key}
use Rattle.cc_state_reads.specs.CcStateKeys.Addressed.{taken_keys}
use Rattle.cc_state_reads.specs.CcStateKeys.Keys.{is_key}

-- whether a key is a slot's, by the type that is declared
abbrev pub is_slot_of : Key → Option CType → Bool
is_slot_of k None = false
is_slot_of k (Some t) = is_slot_type k t

-- whether an address may name a cell of a key: it is no slot's, or the text takes its address
unfoldable pub may_name : Program → Key → Bool
may_name p k = not (is_slot_of k (ctype_of p k)) || list_any (is_key k) (taken_keys p)

-- two lists have one key at a place
abbrev pub HaveSame : List Key → List Key → ℕ → Type 0
HaveSame keys others n = (k : Key) × (slice_get keys n ≡ Some k) × (slice_get others n ≡ Some k)
