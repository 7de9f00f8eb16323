-- Registers, tracked cells and keys, by their numbers.
use Rattle.std.proofs.Common.{arith, ◌≡◌, ◌<◌, ◌+◌, ℕ, Bool, true, false, true≢false, not, ◌&&◌, length, Option, Some, None, refl, ap, sym, ◌∙◌, subst, slice_get}
use Rattle.std.specs.Prelude.{is_some}
use Rattle.std.proofs.lemmas.Option.{slice_get_within}
use Rattle.cc_program.specs.declared.func.Func.{Func}
use Rattle.cc_program.specs.declared.object.Object.{Object}
use Rattle.cc_program.specs.declared.program.Program.{Program}
use Rattle.cc_proof_rules.proofs.Positions.{IsIn, number_at, number_there, position_at, position_there, same_key, is_itself, made_there, made_of, get_taken}
use Rattle.cc_rules.specs.CcStateFacts.declared.facts.Key.{Key}
use Rattle.cc_rules.specs.CcStateKeys.Addressed.{taken_keys}
use Rattle.cc_rules.specs.CcStateKeys.Keys.{is_key, keys_of, key_number}
use Rattle.cc_rules.specs.CcStateKeys.Tracked.{numbers, registers, register_number, most_tracked, may_be_tracked, tracked, tracked_number}
use Rattle.cc_state_values_sound.specs.CcSyntax.Registers.{is_register, may_be_register, is_addressed}
use Rattle.cc_state_values_sound.specs.CcSyntax.Types.{Named}
use Rattle.cc_state_values_sound.specs.CcSyntax.Values.{scalar_value}

pub first_true : (a b : Bool) → (a && b) ≡ true → a ≡ true
first_true true b h = refl
first_true false b h = h

-- ---- registers

pub register_at : (f : Func) (r n : ℕ) → register_number f r ≡ Some n → slice_get (registers f) n ≡ Some r
register_at f r n h = number_at (registers f) r n h

pub register_below : (f : Func) (r n : ℕ) → register_number f r ≡ Some n → n < length (registers f)
register_below f r n h = slice_get_within (registers f) n r (register_at f r n h)

pub numbered_register : (f : Func) (r n : ℕ) → register_number f r ≡ Some n → is_register f r ≡ true
numbered_register f r n h =
    let m = made_of (λ q (l : Named). is_register f q) (λ q. q) 0 f.locals n r (register_at f r n h) in
    subst (λ q. is_register f q ≡ true) (sym m.is) m.passes_it

-- it is one of the locals
register_local : (f : Func) (r : ℕ) → is_register f r ≡ true → (l : Named) × (slice_get f.locals r ≡ Some l)
unfolding is_register
register_local f r h = by (slice_get f.locals r) refl (first_true (may_be_register (slice_get f.locals r)) (not (is_addressed f r)) h)
  where
    by : (o : Option Named) → slice_get f.locals r ≡ o → may_be_register o ≡ true → (l : Named) × (slice_get f.locals r ≡ Some l)
    by None e t = absurd (true≢false (sym t))
    by (Some l) e t = (l, e)

pub register_numbered : (f : Func) (r : ℕ) → is_register f r ≡ true → (n : ℕ) × (register_number f r ≡ Some n)
register_numbered f r h = let l = register_local f r h in of_local l.0 l.1 h
  where
    of_local : (l : Named) → slice_get f.locals r ≡ Some l → is_register f r ≡ true → (n : ℕ) × (register_number f r ≡ Some n)
    of_local l e h = number_there (registers f) r (made_there (λ q (l : Named). is_register f q) (λ q. q) 0 f.locals r l r e (let q : r ≡ 0 + r = omega arith in q) h)

-- ---- tracked cells

pub tracked_at : (p : Program) (i n : ℕ) → tracked_number p i ≡ Some n → slice_get (tracked p) n ≡ Some i
tracked_at p i n h = number_at (tracked p) i n h

pub tracked_below : (p : Program) (i n : ℕ) → tracked_number p i ≡ Some n → n < length (tracked p)
tracked_below p i n h = slice_get_within (tracked p) n i (tracked_at p i n h)

-- whether there is something
pub some_is : {A : Type 0} (o : Option A) → is_some o ≡ true → (x : A) × (o ≡ Some x)
some_is None h = absurd (true≢false (sym h))
some_is (Some x) h = (x, refl)

pub is_some_of : {A : Type 0} (o : Option A) (x : A) → o ≡ Some x → is_some o ≡ true
is_some_of o x e = ap is_some e

-- a tracked object is a scalar
pub record IsTrackedScalar (p : Program) (i : ℕ) : Type 0 where
  pub object : Object
  pub there : slice_get p.objects i ≡ Some object
  pub scalar : is_some (scalar_value object.ctype) ≡ true

pub tracked_scalar : (p : Program) (i n : ℕ) → tracked_number p i ≡ Some n → IsTrackedScalar p i
tracked_scalar p i n h =
    let m = made_of (may_be_tracked (taken_keys p)) (λ q. q) 0 p.objects n i (get_taken most_tracked (numbers (may_be_tracked (taken_keys p)) p.objects) n i (tracked_at p i n h)) in
    let same : i ≡ m.place = (let a = m.is in let b = m.counts in omega (arith, a, b)) in
    record {
      object = m.thing;
      there = subst (λ q. slice_get p.objects q ≡ Some m.thing) (sym same) m.there;
      scalar = first_true (is_some (scalar_value m.thing.ctype)) _ m.passes_it;
    }

-- ---- keys

pub key_at : (p : Program) (k : Key) (n : ℕ) → key_number p k ≡ Some n → slice_get (keys_of p) n ≡ Some k
key_at p k n h = let s = position_at (is_key k) (keys_of p) n h in s.1 ∙ ap Some (sym (same_key k s.0 s.2))

pub key_numbered : (p : Program) (k : Key) → IsIn (keys_of p) k → (n : ℕ) × (key_number p k ≡ Some n)
key_numbered p k h = position_there (is_key k) (keys_of p) h.0 k h.1 (is_itself k)
