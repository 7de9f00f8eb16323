-- What becomes of slots.
use Rattle.std.specs.Prelude.{ℕ, ◌+◌, ◌==◌, Bool, true, false, ◌&&◌, List, [], ◌∷◌, if◌then◌else◌, is_none}
use Rattle.cc_bins.specs.declared.types.Want.{Want}
use Rattle.cc_plan_choice.specs.declared.fate.Fate.{Fate}
use Rattle.cc_plan_choice.specs.declared.fate.Fate.TheVariants as fate
use Rattle.cc_plan_legal.specs.declared.candidate.Candidate.{Candidate}
use Rattle.cc_plan_legal.specs.declared.candidate.Form.{Form}
use Rattle.cc_plan_legal.specs.declared.candidate.Form.TheVariants as form
use Rattle.cc_plan_legal.specs.Candidates.{form_number}
use Rattle.cc_plan_legal.specs.Legality.{is_among}

abbrev pub fate_number : Fate → ℕ
fate_number fate.Untouched = 0
fate_number fate.Left = 1
fate_number fate.Const = 2
fate_number fate.Array = 3
fate_number fate.Field = 4
fate_number fate.Dissolved = 5

-- of a slot that is taken
abbrev pub fate_by_form : Form → Bool → Fate
fate_by_form form.Const has_field = fate.Const
fate_by_form form.Array has_field = fate.Array
fate_by_form form.Field true = fate.Field
fate_by_form form.Field false = fate.Dissolved

-- of a slot that is taken or is not, and has no reason or has one
abbrev pub fate_by : Bool → Bool → Form → Bool → Fate
fate_by true is_free f has_field = fate_by_form f has_field
fate_by false true f has_field = fate.Left
fate_by false false f has_field = fate.Untouched

-- where these are taken, and these of them have fields
abbrev pub fate_of : List ℕ → List ℕ → ℕ → Candidate → Fate
fate_of taken fielded slot c = fate_by (is_among taken slot) (is_none c.reason) c.form (is_among fielded slot)

-- the numbers of the slots that pass, of those from this number on
abbrev pub numbers : (ℕ → Candidate → Bool) → ℕ → List Candidate → List ℕ
numbers passes number [] = []
numbers passes number (c ∷ more) = if passes number c then number ∷ numbers passes (number + 1) more else numbers passes (number + 1) more

abbrev pub has_fate : List ℕ → List ℕ → Fate → ℕ → Candidate → Bool
has_fate taken fielded f slot c = fate_number (fate_of taken fielded slot c) == fate_number f

-- the slots of one fate
abbrev pub slots_with : List ℕ → List ℕ → Fate → List Candidate → List ℕ
slots_with taken fielded f slots = numbers (has_fate taken fielded f) 0 slots

-- whether a slot is taken, and is to have a field
abbrev pub is_wanted : List ℕ → ℕ → Candidate → Bool
is_wanted taken slot c = (form_number c.form == 0) && is_among taken slot

abbrev pub want_of : ℕ → Candidate → Want
want_of slot c = record { group = c.group; slot = slot; bits = c.bits; bytes = c.bytes }

-- the slots that are to have fields, of those from this number on
abbrev pub wants_from : List ℕ → ℕ → List Candidate → List Want
wants_from taken number [] = []
wants_from taken number (c ∷ more) = if is_wanted taken number c then want_of number c ∷ wants_from taken (number + 1) more else wants_from taken (number + 1) more
