-- What the accesses of a key say of it, where a run may come to them: its class, the points that read and write it, and whether an access
-- is divided by an interrupt, lies outside its array, or is volatile.
use Rattle.std.specs.Prelude.{ℕ, Bool, true, false, not, ◌&&◌, nat_lt, List, filter, fold, map, bit_or, if◌then◌else◌}
use Rattle.std.specs.List.{list_any}
use Rattle.cc_slots_accesses.specs.declared.access.Access.{Access}
use Rattle.cc_slots_types.specs.declared.class.Class.{Class}
use Rattle.cc_slots_types.specs.declared.class.Class.TheVariants.{Lone, Read, Written}
use Rattle.cc_state_points.specs.CcStateFacts.Levels.{one_may_enter}

abbrev pub is_reached_read : Access → Bool
is_reached_read x = x.is_reached && not x.writes

abbrev pub is_reached_write : Access → Bool
is_reached_write x = x.is_reached && x.writes

-- the points of those that read and of those that write
abbrev pub points_of : (Access → Bool) → List Access → List ℕ
points_of passes accesses = map (λ (x : Access). x.point) (filter passes accesses)

abbrev pub reads_in_handler : Access → Bool
reads_in_handler x = is_reached_read x && x.by_handler

abbrev pub writes_in_handler : Access → Bool
writes_in_handler x = is_reached_write x && x.by_handler

abbrev pub class_by : Bool → Bool → Class
class_by reads true = Written
class_by true false = Read
class_by false false = Lone

abbrev pub class_of : List Access → Class
class_of accesses = class_by (list_any reads_in_handler accesses) (list_any writes_in_handler accesses)

-- the levels of the handlers from which one of them is reached
abbrev pub with_levels : ℕ → Access → ℕ
with_levels levels x = if x.is_reached then bit_or levels x.from else levels

abbrev pub levels_from : List Access → ℕ
levels_from accesses = fold with_levels 0 accesses

abbrev pub is_entered : ℕ → Access → Bool
is_entered levels x = x.is_reached && (x.may_be_on && one_may_enter x.levels levels)

abbrev pub is_lone : Class → Bool
is_lone Lone = true
is_lone Read = false
is_lone Written = false

abbrev pub is_torn : List Access → Class → ℕ → ℕ → Bool
is_torn accesses class bytes atomic = nat_lt atomic bytes && (not (is_lone class) && list_any (is_entered (levels_from accesses)) accesses)

abbrev pub is_unbounded : List Access → Bool
is_unbounded accesses = list_any (λ (x : Access). x.may_be_outside) accesses

-- volatile accesses count wherever they stand
abbrev pub is_volatile_somewhere : List Access → Bool
is_volatile_somewhere accesses = list_any (λ (x : Access). x.is_volatile) accesses
