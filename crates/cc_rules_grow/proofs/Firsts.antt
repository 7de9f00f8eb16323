-- The tracked cells of a typed program have first values (C99 6.7.8, 10).
use Rattle.std.proofs.Common.{arith, ◌≡◌, ◌+◌, ℕ, zero, suc, Bool, true, false, true≢false, ◌&&◌, List, [], ◌∷◌, ◌++◌, map, take, Option, Some, None, slice_get, refl, ap, sym, ◌∙◌, subst}
use Rattle.std.specs.Prelude.{is_some, option_and_then}
use Rattle.std.proofs.lemmas.Option.{same_Some, none-some}
use Rattle.cc_rules.specs.CcCells.Cells.{scalar_in}
use Rattle.cc_program.specs.declared.object.Object.{Object}
use Rattle.cc_program.specs.declared.program.Program.{Program}
use Rattle.cc_program.specs.declared.value.Value.{Value}
use Rattle.cc_rules.specs.CcStateKeys.Addressed.{taken_keys}
use Rattle.cc_rules.specs.CcStateKeys.Lists.{only_if, made_from}
use Rattle.cc_rules.specs.CcStateKeys.Tracked.{numbers, most_tracked, may_be_tracked, tracked}
use Rattle.cc_rules.proofs.CcStates.StartLemmas.{start_state}
use Rattle.cc_rules.specs.CcSteps.State.{first_values}
use Rattle.cc_rules.proofs.CcSyntax.NameRules.{sound-typed}
use Rattle.cc_rules.specs.CcSyntax.Normal.{IsNormal}
use Rattle.cc_rules.specs.CcSyntax.Values.{scalar_value}

-- ---- the numbers of things that pass

module _ {A : Type 0} (passes : ℕ → A → Bool) where
  pub record IsMade (n : ℕ) (xs : List A) (number : ℕ) : Type 0 where
    pub place : ℕ
    pub thing : A
    pub there : slice_get xs place ≡ Some thing
    pub counts : number ≡ n + place
    pub passes_it : passes number thing ≡ true

  made_later : (n : ℕ) (x : A) (xs : List A) (number : ℕ) → IsMade (n + 1) xs number → IsMade n (x ∷ xs) number
  made_later n x xs number h = record { place = suc h.place; thing = h.thing; there = h.there; counts = (let c = h.counts in omega (arith, c)); passes_it = h.passes_it }

  made_by : (n : ℕ) (x : A) (xs : List A) (number : ℕ) (b : Bool) → passes n x ≡ b → ((k : ℕ) → slice_get (made_from passes (λ m. m) (n + 1) xs) k ≡ Some number → IsMade (n + 1) xs number) → (k : ℕ) →
      slice_get (only_if b n ++ made_from passes (λ m. m) (n + 1) xs) k ≡ Some number → IsMade n (x ∷ xs) number
  made_by n x xs number true t rest zero e =
      let same = same_Some n number e in
      record { place = zero; thing = x; there = refl; counts = omega (arith, same); passes_it = subst (λ (i : ℕ). passes i x ≡ true) same t }
  made_by n x xs number true t rest (suc k) e = made_later n x xs number (rest k e)
  made_by n x xs number false t rest k e = made_later n x xs number (rest k e)

  pub made_of : (n : ℕ) (xs : List A) (k number : ℕ) → slice_get (made_from passes (λ m. m) n xs) k ≡ Some number → IsMade n xs number
  made_of n [] k number e = absurd (none-some number e)
  made_of n (x ∷ xs) k number e = made_by n x xs number (passes n x) refl (λ m h. made_of (n + 1) xs m number h) k e

get_taken : {A : Type 0} (n : ℕ) (xs : List A) (k : ℕ) (x : A) → slice_get (take n xs) k ≡ Some x → slice_get xs k ≡ Some x
get_taken zero xs k x e = absurd (none-some x e)
get_taken (suc n) [] k x e = e
get_taken (suc n) (y ∷ ys) zero x e = e
get_taken (suc n) (y ∷ ys) (suc k) x e = get_taken n ys k x e

pub first_true : (a b : Bool) → (a && b) ≡ true → a ≡ true
first_true true b h = refl
first_true false b h = h

pub some_is : {A : Type 0} (o : Option A) → is_some o ≡ true → (x : A) × (o ≡ Some x)
some_is None h = absurd (true≢false (sym h))
some_is (Some x) h = (x, refl)

-- ---- a tracked cell

pub tracked_scalar : (p : Program) (j i : ℕ) → slice_get (tracked p) j ≡ Some i → (o : Object) × (slice_get p.objects i ≡ Some o) × (is_some (scalar_value o.ctype) ≡ true)
tracked_scalar p j i e =
    let m = made_of (may_be_tracked (taken_keys p)) 0 p.objects j i (get_taken most_tracked (numbers (may_be_tracked (taken_keys p)) p.objects) j i e) in
    let same : i ≡ m.place = (let c = m.counts in omega (arith, c)) in
    (m.thing, subst (λ (q : ℕ). slice_get p.objects q ≡ Some m.thing) (sym same) m.there, first_true (is_some (scalar_value m.thing.ctype)) _ m.passes_it)

pub first_there : (p : Program) → IsNormal p → (j i : ℕ) → slice_get (tracked p) j ≡ Some i → (v : Value) × (scalar_in (map (first_values p) p.objects) i 0 ≡ Some v)
first_there p normal j i e =
    let (o, there, scalar) = tracked_scalar p j i e in
    let (w, type) = some_is (scalar_value o.ctype) scalar in
    let start = start_state p (sound-typed p normal.sound) [] in
    let (values, stands, are) = start.1.statics.1 i o there in
    let (v, first, has) = are.typed [] w type in
    (v, ap (λ (l : Option (List Value)). option_and_then (λ scalars. slice_get scalars 0) l) stands ∙ first)
