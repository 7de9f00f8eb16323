-- The profile that rows give, over the default.
use Rattle.std.specs.Prelude.{◌≡◌, ℕ, ◌-◌, ◌^◌, not, List, [], Option, Some, None, map, filter_map, if◌then◌else◌, codes}
use Rattle.std.specs.Option.{unwrap_or}
use Rattle.std.specs.Str.{bytes_eq}
use Rattle.cc_program.specs.CcNum.declared.target.Target.{Target}
use Rattle.cc_program.specs.declared.program.Roles.{Roles}
use Rattle.cc_cost.specs.declared.key.Key.{Key}
use Rattle.cc_cost.specs.declared.key.Key.TheVariants as key
use Rattle.cc_cost.specs.declared.profile.Profile.{Profile}
use Rattle.cc_cost.specs.declared.setting.Setting.{Setting}
use Rattle.cc_rows.specs.Numbers.{number_in}
use Rattle.cc_rows.specs.Rows.{Row}
use Rattle.cc_cost.specs.Settings.{given, line_of, settings_of}

-- ---- fields

-- the second field of the first row for a thing; no field where there is no such row
abbrev pub second_or : Option Setting → List ℕ → List ℕ
second_or None other = other
second_or (Some s) other = s.second

abbrev pub third_or : Option Setting → List ℕ → List ℕ
third_or None other = other
third_or (Some s) other = s.third

abbrev pub second_for : List ℕ → List Setting → List ℕ
second_for key settings = second_or (given key [] settings) []

abbrev pub third_for : List ℕ → List ℕ → List Setting → List ℕ
third_for key second settings = third_or (given key second settings) []

-- ---- the target

-- a width of 2 or 4 bytes; 2 where there is no row
abbrev pub two_or_four : List ℕ → ℕ
two_or_four field = if bytes_eq field (codes "4") then 4 else 2

-- a width of 1, 2 or 4 bytes; 1 where there is no row
abbrev pub one_to_four : List ℕ → ℕ
one_to_four field = if bytes_eq field (codes "4") then 4 else if bytes_eq field (codes "2") then 2 else 1

-- what rows say of the target
pub record GivesTarget (settings : List Setting) (target : Target) : Type 0 where
  pub int : target.int_bytes ≡ two_or_four (second_for (codes "int") settings)
  pub pointer : target.pointer_bytes ≡ two_or_four (second_for (codes "pointer") settings)
  pub char : target.char_signed ≡ not (bytes_eq (second_for (codes "char") settings) (codes "unsigned"))
  pub align : target.align_max ≡ one_to_four (second_for (codes "align") settings)
  pub atomic : target.atomic_bytes ≡ one_to_four (second_for (codes "atomic") settings)

-- ---- the roles

abbrev pub handler_of : Key → List ℕ → Option (List ℕ)
handler_of key.Handler second = Some second
handler_of other second = None

abbrev pub level_of : Key → List ℕ → List ℕ → Option (List ℕ × ℕ)
level_of key.Level second third = Some (second, unwrap_or (number_in 1 7 third) 1)
level_of other second third = None

abbrev pub handlers_in : List Setting → List (List ℕ)
handlers_in settings = filter_map (λ s. handler_of s.key s.second) settings

abbrev pub levels_in : List Setting → List (List ℕ × ℕ)
levels_in settings = filter_map (λ s. level_of s.key s.second s.third) settings

-- the name of an intrinsic, and what it is where there is no row
abbrev pub intrinsic_for : List ℕ → List ℕ → List Setting → List ℕ
intrinsic_for intrinsic other settings = third_or (given (codes "intrinsic") intrinsic settings) other

-- what rows say of the roles
pub record GivesRoles (settings : List Setting) (roles : Roles) : Type 0 where
  pub handlers : roles.handlers ≡ handlers_in settings
  pub off : roles.off ≡ intrinsic_for (codes "off") (codes "irq_off") settings
  pub on : roles.on ≡ intrinsic_for (codes "on") (codes "irq_on") settings
  pub save : roles.save ≡ intrinsic_for (codes "save") (codes "irq_save") settings
  pub restore : roles.restore ≡ intrinsic_for (codes "restore") (codes "irq_restore") settings
  pub levels : roles.levels ≡ levels_in settings

-- ---- counts, weights, budgets

abbrev pub count_of : Key → List ℕ → List ℕ → Option (List ℕ × ℕ)
count_of key.Count second third = Some (second, unwrap_or (number_in 0 1000000000 third) 0)
count_of other second third = None

abbrev pub counts_in : List Setting → List (List ℕ × ℕ)
counts_in settings = filter_map (λ s. count_of s.key s.second s.third) settings

-- 1 where there is no row
abbrev pub weight_for : List ℕ → List Setting → ℕ
weight_for measure settings = unwrap_or (number_in 0 1000 (third_for (codes "weight") measure settings)) 1

-- none where there is no row
abbrev pub budget_for : List ℕ → List Setting → Option ℕ
budget_for measure settings = number_in 0 (2 ^ 32 - 1) (third_for (codes "budget") measure settings)

-- ---- the profile

pub record GivesProfile (settings : List Setting) (profile : Profile) : Type 0 where
  pub target : GivesTarget settings profile.target
  pub roles : GivesRoles settings profile.roles
  pub counts : profile.counts ≡ counts_in settings
  pub weight_code : profile.weight_code ≡ weight_for (codes "code") settings
  pub weight_time : profile.weight_time ≡ weight_for (codes "time") settings
  pub budget_code : profile.budget_code ≡ budget_for (codes "code") settings
  pub budget_time : profile.budget_time ≡ budget_for (codes "time") settings

-- what the rows of a profile give
abbrev pub Gives : List Row → Profile → Type 0
Gives rows profile = GivesProfile (settings_of (map line_of rows)) profile
