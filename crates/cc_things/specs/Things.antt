-- What the sources name: an object, a device or a function is one thing, whichever sources mention it (C99 6.2.2).
use Rattle.std.specs.Prelude.{ℕ, Bool, true, false, not, ◌&&◌, ◌||◌, nat_eq, nat_lt, List, [], ◌∷◌, ◌++◌, map, filter, fold, sum_by, Option, Some, None, option_and_then, if◌then◌else◌, slice_get}
use Rattle.std.specs.List.{list_any, position_or_len}
use Rattle.std.specs.Str.{bytes_eq}
use denote.Enum.Declared.{tag_of}
use Rattle.cc_program.specs.CcNum.contracts.int_type.IntType as int_type
use Rattle.cc_program.specs.CcNum.declared.int_type.IntType.{IntType}
use Rattle.cc_program.specs.declared.object.Device.{Device}
use Rattle.cc_syntax.specs.SameTypes.{same_flag}
use Rattle.cc_things.specs.Mentions.{Mention, mentions}
use Rattle.cc_things.specs.declared.text.Text.{Text}
use Rattle.cc_unit.specs.declared.unit.Linkage.{Linkage}
use Rattle.cc_unit.specs.declared.unit.Linkage.TheVariants as linkage
use Rattle.cc_unit.specs.declared.unit.UnitKind.{UnitKind}
use Rattle.cc_unit.specs.declared.unit.UnitKind.TheVariants as kind

-- what tells things apart
pub data Identity : Type 0 where
  -- an external name, in all sources (6.2.2, 2)
  External : List ℕ → Identity
  -- a device without a name, by its address, the position of its type among those of C, and whether it is const
  Numbered : ℕ → ℕ → Bool → Identity
  -- what only one source knows: the source, and the position among its names
  Single : ℕ → ℕ → Identity

abbrev pub same_identity : Identity → Identity → Bool
same_identity (External x) (External y) = bytes_eq x y
same_identity (External x) (Numbered n i c) = false
same_identity (External x) (Single t p) = false
same_identity (Numbered n i c) (External y) = false
same_identity (Numbered n i c) (Numbered m j d) = nat_eq n m && (nat_eq i j && same_flag c d)
same_identity (Numbered n i c) (Single t p) = false
same_identity (Single t p) (External y) = false
same_identity (Single t p) (Numbered m j d) = false
same_identity (Single t p) (Single u q) = nat_eq t u && nat_eq p q

abbrev pub position_of_type : IntType → ℕ
position_of_type t = tag_of int_type.the_type t

abbrev pub external_or : Linkage → Option (List ℕ) → Identity → Identity
external_or linkage.External (Some x) other = External x
external_or linkage.External None other = other
external_or linkage.Internal name other = other
external_or linkage.Local name other = other

abbrev pub address_or : Device → Option (List ℕ) → Identity → Identity
address_or d None other = Numbered d.number (position_of_type d.int) d.constant
address_or d (Some x) other = other

abbrev pub numbered_or : UnitKind → Identity → Identity
numbered_or (kind.Device d) other = address_or d d.name other
numbered_or (kind.Object init) other = other
numbered_or (kind.Func entry f) other = other

abbrev pub identity_of : Mention → Identity
identity_of m = external_or m.name.linkage m.name.name (numbered_or m.name.kind (Single m.text m.position))

-- each at its first appearance
abbrev pub with_identity : List Identity → Identity → List Identity
with_identity found x = if list_any (same_identity x) found then found else found ++ x ∷ []

unfoldable pub identities : List Mention → List Identity
identities ms = fold with_identity [] (map identity_of ms)

-- a thing, and all mentions of it, in order of appearance
pub record Thing : Type 0 where
  pub identity : Identity
  pub mentions : List Mention

abbrev pub is_of : Identity → Mention → Bool
is_of x m = same_identity (identity_of m) x

abbrev pub thing_of : List Mention → Identity → Thing
thing_of ms x = record { identity = x; mentions = filter (is_of x) ms }

-- the things, in order of first appearance
unfoldable pub things_in : List Mention → List Thing
things_in ms = map (thing_of ms) (identities ms)

abbrev pub things : List Text → List Thing
things texts = things_in (mentions texts)

-- the number of the thing that is mentioned
abbrev pub number_in : List Identity → Mention → ℕ
number_in xs m = position_or_len (same_identity (identity_of m)) xs

unfoldable pub numbers_in : List Mention → List ℕ
numbers_in ms = map (number_in (identities ms)) ms

-- ---- what is known of a thing

abbrev pub name_of : Mention → Option (List ℕ)
name_of m = m.name.name

-- the name that it has in the sources
abbrev pub own_name : Thing → Option (List ℕ)
own_name t = option_and_then name_of (slice_get t.mentions 0)

abbrev pub is_external_linkage : Linkage → Bool
is_external_linkage linkage.External = true
is_external_linkage linkage.Internal = false
is_external_linkage linkage.Local = false

abbrev pub is_external : Thing → Bool
is_external t = list_any (λ m. is_external_linkage m.name.linkage) t.mentions

abbrev pub is_device_kind : UnitKind → Bool
is_device_kind (kind.Device d) = true
is_device_kind (kind.Object init) = false
is_device_kind (kind.Func entry f) = false

abbrev pub is_func_kind : UnitKind → Bool
is_func_kind (kind.Func entry f) = true
is_func_kind (kind.Object init) = false
is_func_kind (kind.Device d) = false

abbrev pub is_func : Thing → Bool
is_func t = list_any (λ m. is_func_kind m.name.kind) t.mentions

-- how many definitions it has: tentative ones are one a source (6.9.2, 2)
abbrev pub definitions : Thing → ℕ
definitions t = sum_by (λ m. m.name.count) t.mentions

abbrev pub is_definition : Mention → Bool
is_definition m = nat_lt 0 m.name.count

abbrev pub is_defined : Thing → Bool
is_defined t = list_any is_definition t.mentions

-- a body or a first value speaks of it
abbrev pub is_used : Thing → Bool
is_used t = list_any (λ m. m.used) t.mentions

-- a device is defined nowhere: what some source defines is an object
abbrev pub is_device : Thing → Bool
is_device t = list_any (λ m. is_device_kind m.name.kind) t.mentions && not (is_defined t)

-- what the program has: what is defined, and devices
abbrev pub is_there : Thing → Bool
is_there t = is_defined t || is_device t
