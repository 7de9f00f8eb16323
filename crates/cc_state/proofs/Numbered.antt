-- Registers and keys, by their numbers.
use Rattle.std.proofs.Common.{arith, ◌≡◌, ◌≤◌, ◌<◌, ◌+◌, ℕ, Bool, true, false, true≢false, not, ◌&&◌, length, Option, Some, None, refl, ap, sym, ◌∙◌, slice_get}
use Rattle.std.proofs.lemmas.Option.{slice_get_within}
use Rattle.cc_program.specs.declared.func.Func.{Func}
use Rattle.cc_program.specs.declared.program.Program.{Program}
use Rattle.cc_state.proofs.Lists.{IsIn, position_at, position_there, number_at, number_there, same_key, is_itself, made_there, made_few}
use Rattle.cc_state_reads.specs.CcStateFacts.declared.facts.Key.{Key}
use Rattle.cc_state_reads.specs.CcStateKeys.Keys.{is_key, keys_of, key_number}
use Rattle.cc_state_reads.specs.CcStateKeys.Tracked.{registers, register_number}
use Rattle.cc_state_reads.specs.CcSyntax.Registers.{is_register, may_be_register, is_addressed}
use Rattle.cc_state_reads.specs.CcSyntax.Types.{Named}

first_true : (a b : Bool) → (a && b) ≡ true → a ≡ true
first_true true b h = refl
first_true false b h = h

-- ---- registers

pub register_at : (f : Func) (r n : ℕ) → register_number f r ≡ Some n → slice_get (registers f) n ≡ Some r
register_at f r n h = number_at (registers f) r n h

pub register_below : (f : Func) (r n : ℕ) → register_number f r ≡ Some n → n < length (registers f)
register_below f r n h = slice_get_within (registers f) n r (register_at f r n h)

-- it is one of the locals
register_local : (f : Func) (r : ℕ) → is_register f r ≡ true → (l : Named) × (slice_get f.locals r ≡ Some l)
unfolding is_register
register_local f r h = by (slice_get f.locals r) refl (first_true (may_be_register (slice_get f.locals r)) (not (is_addressed f r)) h)
  where
    by : (o : Option Named) → slice_get f.locals r ≡ o → may_be_register o ≡ true → (l : Named) × (slice_get f.locals r ≡ Some l)
    by None e t = absurd (true≢false (sym t))
    by (Some l) e t = (l, e)

pub register_numbered : (f : Func) (r : ℕ) → is_register f r ≡ true → (n : ℕ) × (register_number f r ≡ Some n)
register_numbered f r h =
    let l = register_local f r h in
    number_there (registers f) r (made_there (λ q (l : Named). is_register f q) (λ q. q) 0 f.locals r l.0 r l.1 (let q : r ≡ 0 + r = omega arith in q) h)

pub registers_few : (f : Func) → length (registers f) ≤ length f.locals
registers_few f = made_few (λ q (l : Named). is_register f q) (λ q. q) 0 f.locals

-- ---- keys

pub key_at : (p : Program) (k : Key) (n : ℕ) → key_number p k ≡ Some n → slice_get (keys_of p) n ≡ Some k
key_at p k n h = let s = position_at (is_key k) (keys_of p) n h in s.1 ∙ ap Some (sym (same_key k s.0 s.2))

pub key_numbered : (p : Program) (k : Key) → IsIn (keys_of p) k → (n : ℕ) × (key_number p k ≡ Some n)
key_numbered p k h = position_there (is_key k) (keys_of p) h.0 k h.1 (is_itself k)
