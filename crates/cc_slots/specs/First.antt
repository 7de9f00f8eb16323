-- The first reason that holds; and the first of those that were found to hold.
use Rattle.std.specs.Prelude.{◌<◌, Bool, Option, Some, None, if◌then◌else◌}
use Rattle.cc_slots.specs.declared.first.Findings.{Findings}
use Rattle.cc_slots_types.specs.declared.reason.Reason.{Reason}
use Rattle.cc_slots_types.specs.declared.reason.Reason.TheVariants as reason
use Rattle.cc_slots_types.specs.Slots.{reason_number}

module _ (Holds : Reason → Type 0) where
  pub record IsFirst (r : Reason) : Type 0 where
    pub holds : Holds r
    pub none_before : (q : Reason) → reason_number q < reason_number r → Holds q → ⊥

  abbrev pub IsReasonOf : Option Reason → Type 0
  IsReasonOf None = (q : Reason) → Holds q → ⊥
  IsReasonOf (Some r) = IsFirst r

-- ---- as the code finds it

abbrev pub found : Findings → Reason → Bool
found f reason.Volatile = f.volatile
found f reason.Const = f.constant
found f reason.Addressed = f.addressed
found f reason.Automatic = f.automatic
found f reason.Torn = f.torn
found f reason.Index = f.index
found f reason.Wide = f.wide

abbrev pub first_reason : Findings → Option Reason
first_reason f =
    if f.volatile then Some reason.Volatile
    else (if f.constant then Some reason.Const
    else (if f.addressed then Some reason.Addressed
    else (if f.automatic then Some reason.Automatic
    else (if f.torn then Some reason.Torn
    else (if f.index then Some reason.Index
    else (if f.wide then Some reason.Wide else None))))))
