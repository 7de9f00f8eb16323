-- What is offered to the ranking: of each slot without a reason what coding it gains and costs.
use Rattle.std.specs.Prelude.{ℕ, ◌+◌, ◌*◌, ◌-◌, List, [], ◌∷◌, is_none, slice_index_or, if◌then◌else◌}
use Rattle.cc_cost_ranking.specs.declared.costs.Cost.{Cost}
use Rattle.cc_cost_ranking.specs.declared.types.Costed.{Costed}
use Rattle.cc_plan_legal.specs.declared.candidate.Candidate.{Candidate}
use Rattle.cc_plan_legal.specs.declared.candidate.Form.{Form}
use Rattle.cc_plan_legal.specs.declared.candidate.Form.TheVariants as form
use Rattle.cc_plan_legal.specs.Short.{element_bits}

-- the bits that a scalar of a coded slot keeps: those of its code, and as an element those that it is packed in
abbrev pub bits_by : Form → ℕ → ℕ
bits_by form.Field bits = bits
bits_by form.Const bits = bits
bits_by form.Array bits = element_bits bits

-- the bits of RAM that coding a slot gains: for each of its scalars those that it takes less
abbrev pub gain_of : Candidate → ℕ
gain_of c = (8 * c.bytes - bits_by c.form c.bits) * c.count

-- what coding the slot of a number costs
abbrev pub cost_at : List Cost → ℕ → Cost
cost_at costs n = slice_index_or costs n (record { code = 0; time = 0 })

abbrev pub offer_of : ℕ → Candidate → Cost → Costed
offer_of slot c cost = record { slot = slot; gain = gain_of c; code = cost.code; time = cost.time }

-- of those of the slots from this number on that have no reason
abbrev pub offers_from : List Cost → ℕ → List Candidate → List Costed
offers_from costs number [] = []
offers_from costs number (c ∷ more) =
    if is_none c.reason then offer_of number c (cost_at costs number) ∷ offers_from costs (number + 1) more
    else offers_from costs (number + 1) more
