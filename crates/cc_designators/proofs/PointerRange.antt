-- Whether a pointer holds a number, as a comparison tells it.
use Rattle.std.proofs.Common.{◌≡◌, ℕ, ◌*◌, ◌^◌, true, ℤ, pos, negsuc, int_lt, int_le, nat_lt, ap}
use Rattle.cc_designators.specs.Casts.{fits_pointer}
use Rattle.cc_program.specs.CcNum.declared.target.Target.{Target}

pub held : (target : Target) (n : ℤ) (end : ℕ) → int_le (pos 0) n ≡ true → end ≡ 2 ^ (8 * target.pointer_bytes) → int_lt n (pos end) ≡ fits_pointer target n
held target (pos k) end h e = ap (nat_lt k) e
held target (negsuc k) end h e = cc

pub ruleset of_pointers = (held)
