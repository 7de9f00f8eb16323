-- What a row says: a key and two fields behind it. What the fields are depends on the key.
use Rattle.std.specs.Prelude.{ℕ, Bool, true, false, ◌&&◌, ◌-◌, ◌^◌, List, [], ◌∷◌, Option, Some, None, find, filter_map, codes}
use Rattle.std.specs.List.{list_any}
use Rattle.std.specs.Option.{is_some}
use Rattle.std.specs.Str.{bytes_eq}
use Rattle.cc_program.specs.CcWords.Names.{is_name}
use Rattle.cc_cost.specs.declared.key.Key.{Key}
use Rattle.cc_cost.specs.declared.key.Key.TheVariants as key
use Rattle.cc_cost.specs.declared.setting.Setting.{Setting}
use Rattle.cc_cost.specs.declared.setting.Line.{Line}
use Rattle.cc_cost.specs.declared.setting.Line.TheVariants as line
use Rattle.cc_cost.specs.Keys.{key_of, spelling}
use Rattle.cc_rows.specs.Numbers.{number_in}
use Rattle.cc_rows.specs.Rows.{Row}

-- ---- rows

-- a row with a key that is known says something
abbrev pub says : Option Key → List ℕ → List ℕ → Line
says None second third = line.Breaks 2
says (Some key) second third = line.Says (record { key = key; second = second; third = third })

-- what a row says, or the rule that it breaks: 1 where it has not three fields, 2 where there is no such key
abbrev pub line_of : Row → Line
line_of [] = line.Breaks 1
line_of (a ∷ []) = line.Breaks 1
line_of (a ∷ b ∷ []) = line.Breaks 1
line_of (a ∷ b ∷ c ∷ []) = says (key_of a) b c
line_of (a ∷ b ∷ c ∷ d ∷ rest) = line.Breaks 1

abbrev pub setting_in : Line → Option Setting
setting_in (line.Says s) = Some s
setting_in (line.Breaks rule) = None

-- what the rows say
abbrev pub settings_of : List Line → List Setting
settings_of lines = filter_map setting_in lines

-- ---- things

-- what a setting is for: its key, and where that is given once for each second field, that field
pub record Thing : Type 0 where
  pub key : List ℕ
  pub second : List ℕ

abbrev pub has_second : Key → Bool
has_second key.Int = false
has_second key.Pointer = false
has_second key.Char = false
has_second key.Align = false
has_second key.Atomic = false
has_second key.Handler = true
has_second key.Intrinsic = true
has_second key.Count = true
has_second key.Weight = true
has_second key.Budget = true
has_second key.Level = true

abbrev pub second_if : Bool → List ℕ → List ℕ
second_if true second = second
second_if false second = []

abbrev pub thing_of : Setting → Thing
thing_of s = record { key = spelling s.key; second = second_if (has_second s.key) s.second }

abbrev pub same_thing : Thing → Thing → Bool
same_thing a b = bytes_eq a.key b.key && bytes_eq a.second b.second

-- the first setting for a thing
abbrev pub given : List ℕ → List ℕ → List Setting → Option Setting
given key second settings = find (λ s. same_thing (record { key = key; second = second }) (thing_of s)) settings

-- ---- fields

abbrev pub is_one_of : List (List ℕ) → List ℕ → Bool
is_one_of words field = list_any (bytes_eq field) words

abbrev pub is_within : ℕ → ℕ → List ℕ → Bool
is_within least most field = is_some (number_in least most field)

-- the values that a key allows in the fields behind it
abbrev pub allows : Key → List ℕ → List ℕ → Bool
allows key.Int second third = is_one_of (codes "2" ∷ codes "4" ∷ []) second
allows key.Pointer second third = is_one_of (codes "2" ∷ codes "4" ∷ []) second
allows key.Char second third = is_one_of (codes "signed" ∷ codes "unsigned" ∷ []) second
allows key.Align second third = is_one_of (codes "1" ∷ codes "2" ∷ codes "4" ∷ []) second
allows key.Atomic second third = is_one_of (codes "1" ∷ codes "2" ∷ codes "4" ∷ []) second
allows key.Handler second third = true
allows key.Intrinsic second third = is_one_of (codes "off" ∷ codes "on" ∷ codes "save" ∷ codes "restore" ∷ []) second
allows key.Count second third = is_within 0 1000000000 third
allows key.Weight second third = is_one_of (codes "code" ∷ codes "time" ∷ []) second && is_within 0 1000 third
allows key.Budget second third = is_one_of (codes "code" ∷ codes "time" ∷ []) second && is_within 0 (2 ^ 32 - 1) third
allows key.Level second third = is_within 1 7 third

abbrev pub is_allowed : Setting → Bool
is_allowed s = allows s.key s.second s.third

-- whether the third field has to be empty
abbrev pub ends_early : Key → Bool
ends_early key.Int = true
ends_early key.Pointer = true
ends_early key.Char = true
ends_early key.Align = true
ends_early key.Atomic = true
ends_early key.Handler = true
ends_early key.Intrinsic = false
ends_early key.Count = false
ends_early key.Weight = false
ends_early key.Budget = false
ends_early key.Level = false

abbrev pub is_empty : List ℕ → Bool
is_empty [] = true
is_empty (b ∷ bs) = false

-- the name that a row gives to a role, of a handler or of an intrinsic
abbrev pub role_name : Key → List ℕ → List ℕ → Option (List ℕ)
role_name key.Handler second third = Some second
role_name key.Intrinsic second third = Some third
role_name other second third = None

-- the name of a function that a row tells something of
abbrev pub function_name : Key → List ℕ → Option (List ℕ)
function_name key.Count second = Some second
function_name key.Level second = Some second
function_name other second = None

-- whether the names may name something in a program
abbrev pub may_be : Option (List ℕ) → Bool
may_be None = true
may_be (Some name) = is_name name

abbrev pub role_of : Setting → Option (List ℕ)
role_of s = role_name s.key s.second s.third

abbrev pub has_names : Setting → Bool
has_names s = may_be (role_of s) && may_be (function_name s.key s.second)
