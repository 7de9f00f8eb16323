-- Whether its code keeps a slot from being coded, as a test.
use Rattle.std.specs.Prelude.{ℕ, ◌*◌, Bool, not, ◌&&◌, ◌||◌, nat_le, nat_lt}
use Rattle.cc_plan_legal.specs.Short.{packed_bytes}

abbrev pub is_wide_by : Bool → Bool → ℕ → ℕ → ℕ → Bool
is_wide_by has_code is_array count bytes bits = not has_code || (nat_le (8 * bytes) bits || (nat_lt 16 bits || (is_array && nat_le (count * bytes) (packed_bytes bits count))))
