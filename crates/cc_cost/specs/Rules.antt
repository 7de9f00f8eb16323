-- The rules of a profile, and the first row that breaks one.
use Rattle.std.specs.Prelude.{ℕ, ◌+◌, Bool, false, not, ◌&&◌, ◌||◌, List, [], ◌∷◌, ◌++◌, length, map, filter_map, Option, Some, None, if◌then◌else◌, codes}
use Rattle.std.specs.List.{list_any}
use Rattle.std.specs.Option.{is_some}
use Rattle.std.specs.Str.{bytes_eq}
use Rattle.cc_cost.specs.declared.setting.Setting.{Setting}
use Rattle.cc_cost.specs.declared.setting.Line.{Line}
use Rattle.cc_cost.specs.declared.setting.Line.TheVariants as line
use Rattle.cc_rows.specs.Rows.{Row}
use Rattle.cc_cost.specs.Settings.{Thing, thing_of, same_thing, given, is_allowed, ends_early, is_empty, role_of, has_names, line_of, settings_of}

-- ---- names of roles

-- the name that an intrinsic has where no row gives it one
abbrev pub default_of : List ℕ → List ℕ → List Setting → List (List ℕ)
default_of intrinsic name settings = if is_some (given (codes "intrinsic") intrinsic settings) then [] else name ∷ []

-- the names of the intrinsics to which no row gives one
abbrev pub defaults : List Setting → List (List ℕ)
defaults settings = default_of (codes "off") (codes "irq_off") settings ++ default_of (codes "on") (codes "irq_on") settings
    ++ default_of (codes "save") (codes "irq_save") settings ++ default_of (codes "restore") (codes "irq_restore") settings

-- the names that roles have by a row, where `all` are the settings of the whole text and `before` those of the rows
-- before it: a second row for an intrinsic breaks rule 4, so each row for one gives its name
abbrev pub taken : List Setting → List Setting → List (List ℕ)
taken all before = defaults all ++ filter_map role_of before

abbrev pub is_among : List (List ℕ) → Option (List ℕ) → Bool
is_among names None = false
is_among names (Some name) = list_any (bytes_eq name) names

-- ---- rules

-- the rule of names: one is none, or is a role's
abbrev pub name_rule : List (List ℕ) → Setting → Option ℕ
name_rule names s = if not (has_names s) || is_among names (role_of s) then Some 6 else None

-- the least rule that a setting breaks, where rows before it are for `things` and roles have the names `names`: 3 where a
-- value is not allowed, 4 where the thing stands twice, 5 where a field that has to be empty is not, and 6 where a name
-- is none or is a role's
abbrev pub rule_of : List Thing → List (List ℕ) → Setting → Option ℕ
rule_of things names s =
    if not (is_allowed s) then Some 3
    else if list_any (same_thing (thing_of s)) things then Some 4
    else if ends_early s.key && not (is_empty s.third) then Some 5
    else name_rule names s

-- the least rule that a row breaks
abbrev pub line_rule : List Thing → List (List ℕ) → Line → Option ℕ
line_rule things names (line.Breaks rule) = Some rule
line_rule things names (line.Says s) = rule_of things names s

abbrev pub or_later : Option ℕ → ℕ → Option (ℕ × ℕ) → Option (ℕ × ℕ)
or_later None number later = later
or_later (Some rule) number later = Some (number, rule)

-- the first of these rows that breaks a rule, by its number from 1, and the least rule that it breaks; `before` is what
-- the rows in front of them say, none of which breaks a rule, so there are as many of them
unfoldable pub first_from : List Setting → List Setting → List Line → Option (ℕ × ℕ)
first_from all before [] = None
first_from all before (l ∷ lines) = or_later (line_rule (map thing_of before) (taken all before) l) (length before + 1) (first_from all (before ++ settings_of (l ∷ [])) lines)

abbrev pub first_fault : List Row → Option (ℕ × ℕ)
first_fault rows = first_from (settings_of (map line_of rows)) [] (map line_of rows)
