-- Which part of an interval can pass a comparison with a number of another one.
use Rattle.std.specs.Prelude.{ℤ, pos, ◌+ℤ◌, ◌-ℤ◌, Some, None, if◌then◌else◌}
use Rattle.std.specs.Int.{int_max, int_min}
use Rattle.std.specs.Ordering.{int_eq}
use Rattle.cc_num.specs.declared.op.BinOp.{BinOp}
use Rattle.cc_num.specs.declared.op.BinOp.TheVariants as op
use Rattle.cc_ranges.specs.Ends.{Ends, between}

-- without a number that stands at an end
abbrev pub without : ℤ → ℤ → ℤ → Ends
without low high v = if int_eq low v then between (low +ℤ pos 1) high else (if int_eq high v then between low (high -ℤ pos 1) else Some (low, high))

-- the ends are cut
abbrev pub keep_rule : BinOp → ℤ → ℤ → ℤ → ℤ → Ends
keep_rule op.Lt low high lb hb = between low (int_min high (hb -ℤ pos 1))
keep_rule op.Le low high lb hb = between low (int_min high hb)
keep_rule op.Gt low high lb hb = between (int_max low (lb +ℤ pos 1)) high
keep_rule op.Ge low high lb hb = between (int_max low lb) high
keep_rule op.Eq low high lb hb = between (int_max low lb) (int_min high hb)
keep_rule op.Ne low high lb hb = if int_eq lb hb then without low high lb else Some (low, high)
keep_rule _ low high lb hb = Some (low, high)

abbrev pub keep_ends : BinOp → Ends → Ends → Ends
keep_ends test None b = None
keep_ends test (Some (low, high)) None = None
keep_ends test (Some (low, high)) (Some (lb, hb)) = keep_rule test low high lb hb
