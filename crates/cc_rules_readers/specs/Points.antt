-- Lists of points by what their statements do, all ascending, and of constraints there by their numbers.
use Rattle.std.specs.Prelude.{ℕ, ◌<◌, ◌^◌, suc, ◌==◌, nat_lt, Bool, true, false, List, [], ◌∷◌, ◌++◌, map, length, take, drop, Option, Some, None, slice_get, if◌then◌else◌, Vec}
use Rattle.std.specs.declared.alloc.Global.{Global}
use Rattle.std.specs.List.{filter, flat_map, list_any}
use Rattle.cc_program.specs.declared.program.Program.{Program}
use Rattle.cc_rules_asked.specs.CcRules.Constraints.{Flow, Write, Touch, Call, Back, Return, Handler, Stability}
use Rattle.cc_rules_again.specs.Again.{number_at}
use Rattle.cc_rules_again.specs.Named as is
use Rattle.cc_rules_functions.specs.declared.functions.Function.{Function}
use Rattle.cc_rules_made.specs.declared.rules.Rules.{Rules}
use Rattle.cc_rules_asked.specs.CcRulesNeeds.Flowing.{numbers}
use Rattle.cc_rules_readers.specs.declared.deeds.Called.{Called}
use Rattle.cc_rules_readers.specs.declared.deeds.Called.TheVariants as called
use Rattle.cc_rules_readers.specs.declared.deeds.Deed.{Deed}
use Rattle.cc_rules_readers.specs.declared.groups.By.{By}
use Rattle.cc_rules_readers.specs.declared.groups.By.TheVariants as by
use Rattle.cc_rules_readers.specs.declared.groups.Groups.{Groups}
use Rattle.cc_rules_readers.specs.declared.naming.Named.{Named}
use Rattle.cc_rules_readers.specs.declared.picked.Test.{Test}
use Rattle.cc_rules_readers.specs.declared.picked.Test.TheVariants as test
use Rattle.cc_rules_readers.specs.View.{named_view, calls_it, object_of, function_of, member_of}
use Rattle.cc_rules_asked.specs.CcStateFacts.declared.facts.Facts.{Facts}
use Rattle.cc_rules_asked.specs.CcStateFacts.declared.facts.Key.TheVariants as key
use Rattle.cc_rules_asked.specs.CcStateFacts.Facts.{mark_of, levels_of}
use Rattle.cc_rules_asked.specs.CcStateFacts.Levels.{one_may_enter}
use Rattle.cc_rules_asked.specs.CcStateKeys.Keys.{key_number}
use Rattle.cc_rules_asked.specs.CcStateKeys.Lists.{only_if}

-- ---- points whose statements do something

abbrev pub on : (Deed → Bool) → Option Deed → Bool
on does None = false
on does (Some deed) = does deed

abbrev pub points_that : List Deed → (Deed → Bool) → List ℕ
points_that deeds does = filter (λ n. on does (slice_get deeds n)) (numbers 0 (length deeds))

abbrev pub is_of : ℕ → Deed → Bool
is_of g deed = g == deed.func

abbrev pub may_call_in : ℕ → Deed → Bool
may_call_in g deed = calls_it deed.called g

abbrev pub is_each_call : Called → Bool
is_each_call called.Nothing = false
is_each_call (called.Function h) = false
is_each_call called.Each = true

abbrev pub reads_in : Named → Deed → Bool
reads_in keys deed = is.is_named (named_view keys) (named_view deed.read)

abbrev pub passes_in : Test → Deed → Bool
passes_in test.CallsThroughPointer deed = is_each_call deed.called
passes_in test.ReadsThroughPointer deed = is.is_each (named_view deed.read)
passes_in (test.Reads keys) deed = reads_in keys deed
passes_in (test.StandsIn functions) deed = mark_of functions.now deed.func
passes_in test.IsThere deed = true

-- ---- groups of points

abbrev pub callee_in : Called → Option ℕ
callee_in called.Nothing = None
callee_in (called.Function g) = Some g
callee_in called.Each = None

abbrev pub group_of : By → Deed → Option ℕ
group_of by.Function deed = Some deed.func
group_of by.Callee deed = callee_in deed.called
group_of by.Object deed = object_of (named_view deed.read)
group_of by.Local deed = function_of (named_view deed.read)
group_of by.Member deed = member_of (named_view deed.read)

abbrev pub is_that : Option ℕ → ℕ → Bool
is_that None b = false
is_that (Some number) b = b == number

abbrev pub group : List Deed → By → ℕ → List ℕ
group deeds how b = points_that deeds (λ deed. is_that (group_of how deed) b)

-- as the code has them
abbrev pub points_in : Option (Vec ℕ Global) → List ℕ
points_in None = []
points_in (Some points) = points.items

abbrev pub list_at : List (Vec ℕ Global) → ℕ → List ℕ
list_at lists b = points_in (slice_get lists b)

abbrev pub group_at : Groups → ℕ → List ℕ
group_at groups b = list_at groups.lists.items b

-- ---- lists of numbers

-- how many at the front are below one
abbrev pub count_below : ℕ → List ℕ → ℕ
count_below k [] = 0
count_below k (m ∷ ms) = if nat_lt m k then suc (count_below k ms) else 0

-- two that ascend, as one
abbrev pub merged : List ℕ → List ℕ → List ℕ
merged [] ys = ys
merged (x ∷ xs) ys = take (count_below x ys) ys ++ x ∷ merged xs (drop (count_below x ys) ys)

-- ---- constraints by their numbers

abbrev pub own_numbers : ℕ → List ℕ
own_numbers n = map (λ rule. number_at rule n) (Flow ∷ Write ∷ Touch ∷ Call ∷ Back ∷ Return ∷ Handler ∷ Stability ∷ [])

abbrev pub reach_numbers : List ℕ → List ℕ
reach_numbers points = flat_map (λ rule. map (number_at rule) points) (Touch ∷ Call ∷ Handler ∷ Stability ∷ [])

-- ---- functions and cells

abbrev pub ends_at : ℕ → Option Function → Bool
ends_at n None = false
ends_at n (Some function) = function.exit == n

abbrev pub there_called : ℕ → Option Function → List ℕ
there_called g None = []
there_called g (Some function) = g ∷ []

abbrev pub few_functions : Rules → Type 0
few_functions rules = length rules.functions < 2 ^ 32

abbrev pub is_entered_by : {I : Type 0} → Facts I → ℕ → Option ℕ → Bool
is_entered_by facts id None = false
is_entered_by facts id (Some k) = one_may_enter (levels_of facts.levels id) (levels_of facts.write_levels k)

abbrev pub concern_any : is.Named → List ℕ → Bool
concern_any keys objects = list_any (λ i. is.concerns keys (key.Object i)) objects

-- the numbers of the keys of those objects whose keys are among some
abbrev pub numbers_concerned : Program → is.Named → List ℕ → List (Option ℕ)
numbers_concerned p keys [] = []
numbers_concerned p keys (i ∷ objects) = only_if (is.concerns keys (key.Object i)) (key_number p (key.Object i)) ++ numbers_concerned p keys objects
