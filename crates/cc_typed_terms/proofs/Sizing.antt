-- A size that no object has is held by no size_t.
use Rattle.std.proofs.Common.{◌≡◌, ◌∙◌, ℕ, pos, ◌*◌, ◌-◌, ◌^◌, int_le, Bool, true, false, ◌&&◌, Option, Some, None, Result, Ok, Err, nat_le, if◌then◌else◌, refl, sym, ap, subst, ⊎_elim, arith}
use Rattle.cc_designators.specs.Casts.{size_value}
use Rattle.cc_program.proofs.CcNum.Conversions.{int_bytes_is}
use Rattle.cc_program.specs.CcNum.Integers.{is_value_of}
use Rattle.cc_program.specs.CcNum.declared.int_type.IntType.TheVariants as int
use Rattle.cc_program.specs.CcNum.declared.target.Target.{Target}
use Rattle.cc_scopes.specs.CcOperands.Operands.{Operand, integer, size_type}
use Rattle.cc_scopes.specs.CcOperands.Verdicts.{Judged, Judges, must}
use Rattle.cc_scopes.specs.CcOperands.declared.rule.Rule.TheVariants as rule
use Rattle.cc_scopes.specs.CcOperands.declared.verdict.Breach.{Breach}
use Rattle.cc_program.specs.declared.types.CType.{CType}
use Rattle.cc_scopes.specs.State.{State, structures_of, layouts_of}
use Rattle.cc_specifiers.specs.Objects.{object_size, size_of}
use Rattle.cc_scopes.specs.CcSyntax.Kinds.{is_small}
use Rattle.cc_scopes.specs.CcSyntax.Types.{is_complete}
use Rattle.cc_typed_terms.specs.Sizes.{size_of_type}

-- by what an object of the type takes
abbrev pub sized : Target → Option ℕ → Judged Operand
sized target None = Err rule.SizeOf
sized target (Some n) = size_value target n

and_false : (b : Bool) → (b && false) ≡ false
and_false true = refl
and_false false = refl

smaller : (n : ℕ) → is_small n ≡ false → nat_le n 65535 ≡ false
smaller n h = grind arith

held : (target : Target) (n : ℕ) (b : Bool) → is_small n ≡ false → is_value_of (if b then int.UInt else int.ULong) target (pos n) ≡ false
held target n true h =
    ⊎_elim (λ (e : target.int_bytes ≡ 2). subst (λ (width : ℕ). int_le (pos 0) (pos n) && nat_le n (2 ^ (8 * width) - 1) ≡ false) (sym e) (rw (smaller n h) (and_false (int_le (pos 0) (pos n)))))
    (λ (e : target.int_bytes ≡ 4). subst (λ (width : ℕ). int_le (pos 0) (pos n) && nat_le n (2 ^ (8 * width) - 1) ≡ false) (sym e) (rw h (and_false (int_le (pos 0) (pos n)))))
    (int_bytes_is target)
held target n false h = rw h (and_false (int_le (pos 0) (pos n)))

too_large : (target : Target) (n : ℕ) → is_small n ≡ false → size_value target n ≡ Err rule.SizeOf
too_large target n h = ap (λ b. must b rule.SizeOf (Ok (integer (pos n) (size_type target)))) (held target n (nat_le target.pointer_bytes target.int_bytes) h)

by_tests : (target : Target) (n : ℕ) (complete small : Bool) → is_small n ≡ small → must complete rule.SizeOf (size_value target n) ≡ sized target (if complete && small then Some n else None)
by_tests target n true true h = refl
by_tests target n true false h = too_large target n h
by_tests target n false true h = refl
by_tests target n false false h = refl

sized_type : (target : Target) (s : State) (t : CType) → size_of_type target s t ≡ sized target (object_size target (structures_of s) (layouts_of s) t)
sized_type target s t = by_tests target (size_of target (structures_of s) (layouts_of s) t) (is_complete (structures_of s) t) (is_small (size_of target (structures_of s) (layouts_of s) t)) refl

pub none-sized : (target : Target) (s : State) (t : CType) → object_size target (structures_of s) (layouts_of s) t ≡ None → size_of_type target s t ≡ Err rule.SizeOf
none-sized target s t is = sized_type target s t ∙ ap (sized target) is

pub some-sized : {A : Type 0} (view : A → Operand) (r : Result A Breach) (target : Target) (s : State) (t : CType) (n : ℕ) → object_size target (structures_of s) (layouts_of s) t ≡ Some n → Judges view r (size_value target n)
    → Judges view r (size_of_type target s t)
some-sized view r target s t n is h = subst (Judges view r) (sym (sized_type target s t ∙ ap (sized target) is)) h

pub ruleset of_sizes = (none-sized, some-sized)
