-- A slot has one fate: in which lists it stands, by whether it is taken, whether it has no reason, its form, and whether it has a field.
use Rattle.std.proofs.Common.{◌≡◌, ◌≤◌, ◌<◌, ◌+◌, ◌==◌, ◌⊎◌, inl, inr, ℕ, Bool, true, false, refl, arith}
use Rattle.cc_plan_choice.specs.declared.fate.Fate.{Fate}
use Rattle.cc_plan_choice.specs.Fates.{fate_by, fate_number}
use Rattle.cc_plan_legal.specs.declared.candidate.Form.{Form}
use Rattle.cc_plan_legal.specs.declared.candidate.Form.TheVariants as form
use Rattle.cc_plan_legal.specs.Legality.{one_if}

abbrev pub in_lists : Bool → Bool → Bool → Bool → Bool → ℕ
in_lists fields consts arrays budget dissolved = one_if fields + one_if consts + one_if arrays + one_if budget + one_if dissolved

-- in how many lists a slot of a fate stands
abbrev pub in_lists_by : Bool → Fate → ℕ
in_lists_by has_field f = in_lists has_field (fate_number f == 2) (fate_number f == 3) (fate_number f == 1) (fate_number f == 5)

-- one that stands somewhere is taken or has no reason
pub stands_free : (taken free : Bool) (f : Form) (has_field : Bool) → (has_field ≡ true → taken ≡ true) → 0 < in_lists_by has_field (fate_by taken free f has_field) → (taken ≡ true) ⊎ (free ≡ true)
stands_free true free f has_field h l = inl refl
stands_free false true f has_field h l = inr refl
stands_free false false f true h l = inl (h refl)
stands_free false false f false h l = absurd (omega (arith, l))

-- one stands once at most
pub stands_once : (taken free : Bool) (f : Form) (has_field : Bool) → (has_field ≡ true → taken ≡ true) → (has_field ≡ true → f ≡ form.Field) → in_lists_by has_field (fate_by taken free f has_field) ≤ 1
stands_once true free form.Field true h k = omega arith
stands_once true free form.Field false h k = omega arith
stands_once true free form.Const true h k = let e : form.Const ≡ form.Field = k refl in absurd (cc)
stands_once true free form.Const false h k = omega arith
stands_once true free form.Array true h k = let e : form.Array ≡ form.Field = k refl in absurd (cc)
stands_once true free form.Array false h k = omega arith
stands_once false free f true h k = let e : false ≡ true = h refl in absurd (cc)
stands_once false true f false h k = omega arith
stands_once false false f false h k = omega arith

-- a constant stands among constants alone, and an array among arrays
pub stands_const : (taken free : Bool) (f : Form) (has_field : Bool) → (fate_number (fate_by taken free f has_field) == 2) ≡ true → f ≡ form.Const
stands_const true free form.Const has_field e = refl
stands_const true free form.Array has_field e = let k : false ≡ true = e in absurd (cc)
stands_const true free form.Field true e = let k : false ≡ true = e in absurd (cc)
stands_const true free form.Field false e = let k : false ≡ true = e in absurd (cc)
stands_const false true f has_field e = let k : false ≡ true = e in absurd (cc)
stands_const false false f has_field e = let k : false ≡ true = e in absurd (cc)

pub stands_array : (taken free : Bool) (f : Form) (has_field : Bool) → (fate_number (fate_by taken free f has_field) == 3) ≡ true → f ≡ form.Array
stands_array true free form.Const has_field e = let k : false ≡ true = e in absurd (cc)
stands_array true free form.Array has_field e = refl
stands_array true free form.Field true e = let k : false ≡ true = e in absurd (cc)
stands_array true free form.Field false e = let k : false ≡ true = e in absurd (cc)
stands_array false true f has_field e = let k : false ≡ true = e in absurd (cc)
stands_array false false f has_field e = let k : false ≡ true = e in absurd (cc)
