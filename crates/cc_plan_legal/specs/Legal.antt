-- What it says of a plan that it is legal.
use Rattle.std.specs.Prelude.{◌≡◌, ◌≢◌, ◌≤◌, ◌<◌, ◌/◌, ◌⊎◌, ℕ, true, List, Some, None, slice_get}
use Rattle.cc_bins.specs.declared.types.Field.{Field}
use Rattle.cc_bins.specs.declared.types.Word.{Word}
use Rattle.cc_plan_legal.specs.declared.candidate.Candidate.{Candidate}
use Rattle.cc_plan_legal.specs.declared.candidate.Form.{Form}
use Rattle.cc_plan_legal.specs.declared.kinds.Plan.{Plan}
use Rattle.cc_plan_legal.specs.Legality.{bytes_in, end_of, most_bits, stands_as, times}

-- a field has a bit of its word
pub record HasBit (slots : List Candidate) (f : Field) (bit : ℕ) : Type 0 where
  pub from : f.shift ≤ bit
  pub below : bit < end_of slots f

-- a field of a slot is as it has to be in its word, among the plan's fields
pub record IsSeated (slots : List Candidate) (fields : List Field) (c : Candidate) (f : Field) (w : Word) : Type 0 where
  pub of_group : w.group ≡ c.group
  -- no bit of the word is another slot's too
  pub apart : (j : ℕ) (g : Field) → slice_get fields j ≡ Some g → g.slot ≢ f.slot → g.word ≡ f.word → (bit : ℕ) → HasBit slots f bit → HasBit slots g bit → ⊥
  pub within : end_of slots f ≤ w.bits
  -- the word has two bytes only where a slot in it has more than 8 bits
  pub sized : (w.bits ≡ 8) ⊎ ((w.bits ≡ 16) × (8 < most_bits slots f.word 0 fields))
  pub saves : w.bits / 8 < bytes_in slots f.word fields

-- the slots of the plan have no reason, its fields are as they have to be, and each slot stands once, in the list where it belongs
pub record IsLegal (slots : List Candidate) (plan : Plan) : Type 0 where
  pub free : (n : ℕ) (c : Candidate) → slice_get slots n ≡ Some c → 0 < times plan n → c.reason ≡ None
  pub seated : (j : ℕ) (f : Field) (c : Candidate) (w : Word) → slice_get plan.fields j ≡ Some f → slice_get slots f.slot ≡ Some c → slice_get plan.words f.word ≡ Some w → IsSeated slots plan.fields c f w
  pub in_form : (n : ℕ) (c : Candidate) (form : Form) → slice_get slots n ≡ Some c → stands_as plan n form ≡ true → form ≡ c.form
  pub once : (n : ℕ) (c : Candidate) → slice_get slots n ≡ Some c → times plan n ≤ 1
