-- Which keys a place may name: of two places that may name one key, the other is named, or leads through a pointer.
use Rattle.std.proofs.Common.{arith, ◌≡◌, ◌⊎◌, inl, inr, ℕ, true, true≢false, Some, refl, sym, ap, ◌∙◌}
use Rattle.std.specs.Prelude.{◌==◌}
use Rattle.std.proofs.lemmas.Option.{same_Some}
use Rattle.cc_program.specs.declared.expr.Expr.{Expr, fold-Expr}
use Rattle.cc_program.specs.declared.expr.Expr.TheOpen as one
use Rattle.cc_program.specs.declared.expr.Place.{Place, out-Place, map-Place, fold-Place, fold_out-Place}
use Rattle.cc_program.specs.declared.func.Func.{Func}
use Rattle.cc_program.specs.declared.program.Program.{Program}
use Rattle.cc_rules_again.specs.Named.{Named, NoKey, OneKey, MembersAt, LocalsOf, EachKey, is_member, is_local, concerns, has_member, has_local, is_named, is_each, no_expression, named_step, named}
use Rattle.cc_rules_reads.specs.Reads.{MayName, ByLocal, ByStatic, ByElement, ByMember, ByTarget}
use Rattle.cc_rules_grow.proofs.CcState.Lists.{same_key, is_itself, position_at}
use Rattle.cc_rules_grow.specs.CcStateFacts.declared.facts.Key.{Key}
use Rattle.cc_rules_grow.specs.CcStateFacts.declared.facts.Key.TheVariants as key
use Rattle.cc_rules_grow.specs.CcStateKeys.Keys.{keys_of, is_key, key_number}

-- a number is that of one key
pub one_key : (p : Program) (k l : Key) (number : ℕ) → key_number p k ≡ Some number → key_number p l ≡ Some number → k ≡ l
one_key p k l number a b =
    let (x, at, is) = position_at (is_key k) (keys_of p) number a in
    let (y, at', is') = position_at (is_key l) (keys_of p) number b in
    same_key k x is ∙ (same_Some x y (sym at ∙ at') ∙ sym (same_key l y is'))

number_itself : (n : ℕ) → (n == n) ≡ true
number_itself n = grind arith

-- ---- a place concerns the keys that it may name

module _ (id : ℕ) where
  named_at : (a : Place) (x : one.Place-F Expr Place) → out-Place a ≡ x → named id a ≡ named_step id (map-Place Expr Place (Unit {0}) Named (fold-Expr (Unit {0}) Named no_expression (named_step id)) (fold-Place (Unit {0}) Named no_expression (named_step id)) x)
  unfolding named
  named_at a x h = fold_out-Place (Unit {0}) Named no_expression (named_step id) a
      ∙ ap (λ (y : one.Place-F Expr Place). named_step id (map-Place Expr Place (Unit {0}) Named (fold-Expr (Unit {0}) Named no_expression (named_step id)) (fold-Place (Unit {0}) Named no_expression (named_step id)) y)) h

  element_at : (a b : Place) (i : Expr) → out-Place a ≡ one.Element b i → named id a ≡ named id b
  unfolding named
  element_at a b i h = named_at a (one.Element b i) h

  pub may_concern : (p : Program) (f : Func) (k : Key) (a : Place) → MayName p id f k a → concerns (named id a) k ≡ true
  may_concern p f k a (ByLocal r h is) = ap (λ (x : Named). concerns x k) (named_at a (one.Local r) h) ∙ (ap (is_key (key.Local id r)) is ∙ is_itself (key.Local id r))
  may_concern p f k a (ByStatic i h is) = ap (λ (x : Named). concerns x k) (named_at a (one.Static i) h) ∙ (ap (is_key (key.Object i)) is ∙ is_itself (key.Object i))
  may_concern p f k a (ByElement b i h m) = ap (λ (x : Named). concerns x k) (element_at a b i h) ∙ may_concern p f k b m
  may_concern p f k a (ByMember b m s h at is) = ap (λ (x : Named). concerns x k) (named_at a (one.Member b m) h) ∙ (ap (is_member m) is ∙ number_itself m)
  may_concern p f k a (ByTarget e h) = ap (λ (x : Named). concerns x k) (named_at a (one.Deref e) h)

-- ---- two that concern one key

both_equal : (l m n : ℕ) → (l == m) ≡ true → (l == n) ≡ true → (m == n) ≡ true
both_equal l m n h k = grind (arith, h, k)

members : (m n : ℕ) (k : Key) → is_member m k ≡ true → is_member n k ≡ true → (m == n) ≡ true
members m n (key.Object i) h l = absurd (true≢false (sym h))
members m n (key.Local g r) h l = absurd (true≢false (sym h))
members m n (key.Member s q) h l = both_equal q m n h l

locals : (g h : ℕ) (k : Key) → is_local g k ≡ true → is_local h k ≡ true → (g == h) ≡ true
locals g h (key.Object i) l m = absurd (true≢false (sym l))
locals g h (key.Local f r) l m = both_equal f g h l m
locals g h (key.Member s q) l m = absurd (true≢false (sym l))

no_both : (m g : ℕ) (k : Key) → is_member m k ≡ true → is_local g k ≡ true → ⊥
no_both m g (key.Object i) h l = true≢false (sym h)
no_both m g (key.Local f r) h l = true≢false (sym h)
no_both m g (key.Member s q) h l = true≢false (sym l)

has_that_member : (keys : Named) (m : ℕ) (k : Key) → concerns keys k ≡ true → is_member m k ≡ true → has_member keys m ≡ true
has_that_member NoKey m k h l = absurd (true≢false (sym h))
has_that_member (OneKey q) m k h l = ap (is_member m) (same_key q k h) ∙ l
has_that_member (MembersAt n) m k h l = members n m k h l
has_that_member (LocalsOf g) m k h l = absurd (no_both m g k l h)
has_that_member EachKey m k h l = refl

has_that_local : (keys : Named) (g : ℕ) (k : Key) → concerns keys k ≡ true → is_local g k ≡ true → has_local keys g ≡ true
has_that_local NoKey g k h l = absurd (true≢false (sym h))
has_that_local (OneKey q) g k h l = ap (is_local g) (same_key q k h) ∙ l
has_that_local (MembersAt n) g k h l = absurd (no_both n g k h l)
has_that_local (LocalsOf f) g k h l = locals f g k h l
has_that_local EachKey g k h l = refl

pub meet : (keys other : Named) (k : Key) → concerns keys k ≡ true → concerns other k ≡ true → (is_named keys other ≡ true) ⊎ (is_each other ≡ true)
meet keys NoKey k h l = absurd (true≢false (sym l))
meet keys (OneKey q) k h l = inl (ap (concerns keys) (same_key q k l) ∙ h)
meet keys (MembersAt m) k h l = inl (has_that_member keys m k h l)
meet keys (LocalsOf g) k h l = inl (has_that_local keys g k h l)
meet keys EachKey k h l = inr refl
