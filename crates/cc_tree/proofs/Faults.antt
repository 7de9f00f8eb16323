-- Tokens have one fault at most. What has one is not read, so what is read is answered with its tree, or with want of memory.
use Rattle.std.proofs.Common.{◌≡◌, ◌≢◌, ◌∙◌, ◌-◌, ℕ, length, max, slice_get, Option, Some, None, Result, Ok, Err, IfOk, IfErr, refl, sym, ap}
use Rattle.cc_lex.specs.declared.token.Token.{Token}
use Rattle.cc_tree.specs.declared.fault.GramFault.{GramFault}
use Rattle.cc_tree.specs.declared.fault.GramFault.TheVariants as fault
use Rattle.cc_tree.specs.declared.unit.Unit.{Unit as UnitTree}
use Rattle.cc_tree.specs.Faults.{IsRead, HasFault, IsOutside, IsTooDeep, IsWrong, place}
use Rattle.cc_tree.specs.Height.{greatest_height}
use Rattle.cc_tree.specs.Outside.{first_outside}
use Rattle.cc_tree.specs.Tokens.{Tokens, Name}
use Rattle.cc_tree.proofs.Outcomes.{unique}
use Rattle.cc_tree.proofs.Stops.{one_refusal, one_excess, refuses_or_exceeds}

some_same : {A : Type 0} {a b : A} → Some a ≡ Some b → a ≡ b
some_same e = cc

not_outside : (ts : Tokens) (x : Name) (n : ℕ) → first_outside ts ≡ Some (x, n) → first_outside ts ≡ None → ⊥
not_outside ts x n h k = absurd (cc)

pub not_read : (ts : Tokens) (e : GramFault) (u : UnitTree) → HasFault ts e → IsRead ts u → ⊥
not_read ts e u (IsOutside _ x n h) r = not_outside ts x n h r.sentence.inside
not_read ts e u (IsTooDeep _ ahead before t h k _ _ _ _) r = k u r
not_read ts e u (IsWrong _ ahead n h k _ _) r = k u r.sentence

pub one_tree : (ts : Tokens) (u v : UnitTree) → IsRead ts u → IsRead ts v → u ≡ v
one_tree ts u v h k = unique u v h.sentence.after k.sentence.after ts h.sentence.items k.sentence.items

-- ---- tokens have one fault

outside_same : (ts : Tokens) (x y : Name) (n m : ℕ) → first_outside ts ≡ Some (x, n) → first_outside ts ≡ Some (y, m) → fault.Outside x n ≡ fault.Outside y m
outside_same ts x y n m h k = ap (λ (p : Name × ℕ). fault.Outside p.0 p.1) (some_same (sym h ∙ k))

token_same : (ts : Tokens) (n m : ℕ) (t u : Token) → n ≡ m → slice_get ts n ≡ Some t → slice_get ts m ≡ Some u → fault.TooDeep t.at ≡ fault.TooDeep u.at
token_same ts n m t u e h k = ap (λ (t : Token). fault.TooDeep t.at) (some_same (sym h ∙ (ap (slice_get ts) e ∙ k)))

pub one_fault : (ts : Tokens) (e f : GramFault) → HasFault ts e → HasFault ts f → e ≡ f
one_fault ts _ _ (IsOutside _ x n h) (IsOutside _ y m k) = outside_same ts x y n m h k
one_fault ts _ _ (IsOutside _ x n h) (IsTooDeep _ a b t k _ _ _ _ _) = absurd (not_outside ts x n h k)
one_fault ts _ _ (IsOutside _ x n h) (IsWrong _ a m k _ _ _) = absurd (not_outside ts x n h k)
one_fault ts _ _ (IsTooDeep _ a b t h _ _ _ _ _) (IsOutside _ y m k) = absurd (not_outside ts y m k h)
one_fault ts _ _ (IsTooDeep _ a b t h _ x is there _) (IsTooDeep _ c d u k _ y are here _) =
    token_same ts b d t u (is ∙ (ap (λ n. length ts - max n 1) (one_excess greatest_height ts a c x y) ∙ sym are)) there here
one_fault ts _ _ (IsTooDeep _ a b t h _ x _ _ _) (IsWrong _ c m k _ y _) = absurd (refuses_or_exceeds greatest_height ts c a y x)
one_fault ts _ _ (IsWrong _ a n h _ _ _) (IsOutside _ y m k) = absurd (not_outside ts y m k h)
one_fault ts _ _ (IsWrong _ a n h _ x _) (IsTooDeep _ c d u k _ y _ _ _) = absurd (refuses_or_exceeds greatest_height ts a c x y)
one_fault ts _ _ (IsWrong _ a n h _ x e) (IsWrong _ c m k _ y f) = ap fault.Syntax (e ∙ (ap (place ts) (one_refusal greatest_height ts a c x y) ∙ sym f))

-- a fault that nothing may have is want of memory
only_memory : (e : GramFault) → ((e ≢ fault.NoMemory) → ⊥) → e ≡ fault.NoMemory
only_memory (fault.Outside x n) h = absurd (h (λ p. absurd (cc)))
only_memory (fault.TooDeep n) h = absurd (h (λ p. absurd (cc)))
only_memory (fault.Syntax n) h = absurd (h (λ p. absurd (cc)))
only_memory fault.NoMemory h = refl

pub answered : (ts : Tokens) (r : Result UnitTree GramFault) (u : UnitTree) → IfOk r (IsRead ts) → IfErr r (λ e. e ≢ fault.NoMemory → HasFault ts e) → IsRead ts u →
    IfOk r (λ v. v ≡ u) × IfErr r (λ e. e ≡ fault.NoMemory)
answered ts (Ok v) u h k r = (one_tree ts v u h r, tt)
answered ts (Err e) u h k r = (tt, only_memory e (λ n. not_read ts e u (k n) r))
