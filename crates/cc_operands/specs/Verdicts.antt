-- What a construct is found to be whose parts are typed: its meaning, or a rule that it breaks; and what the code answers
-- of it.
use Rattle.std.specs.Prelude.{◌≡◌, Bool, Option, Some, None, Result, Ok, Err, ⊤, if◌then◌else◌}
use Rattle.cc_operands.specs.declared.rule.Rule.{Rule}
use Rattle.cc_operands.specs.declared.verdict.Breach.{Breach}
use Rattle.cc_operands.specs.declared.verdict.Breach.TheVariants as breach

-- the whole, or the rule that it breaks
abbrev pub Judged : Type 0 → Type 0
Judged A = Result A Rule

-- a test, and the rule that is broken where it fails
abbrev pub must : {A : Type 0} → Bool → Rule → Judged A → Judged A
must good rule next = if good then next else Err rule

abbrev pub judge_then : {A B : Type 0} → Judged A → (A → Judged B) → Judged B
judge_then (Ok x) next = next x
judge_then (Err rule) next = Err rule

-- what is there, or the rule that is broken where nothing is
abbrev pub some_or : {A : Type 0} → Rule → Option A → Judged A
some_or rule None = Err rule
some_or rule (Some x) = Ok x

-- what the code answers, where `view` says what its values are; want of memory says nothing
abbrev pub Judges : {A B : Type 0} → (A → B) → Result A Breach → Judged B → Type 0
Judges view (Ok x) judged = judged ≡ Ok (view x)
Judges view (Err (breach.Breaks rule)) judged = judged ≡ Err rule
Judges view (Err breach.NoMemory) judged = ⊤
