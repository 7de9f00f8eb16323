-- A read or a write of a local through a pointer, of whichever activation: it is the same in both programs, and what activations have
-- still to do stays, since no pointer names a register or a temporary.
use Rattle.std.proofs.Common.{◌≡◌, ◌<◌, ℕ, Bool, true, false, not, List, [], ◌∷◌, Option, Some, refl, ap, sym, ◌∙◌, subst, if◌then◌else◌}
use Rattle.std.specs.Prelude.{◌==◌}
use Rattle.std.proofs.lemmas.Bool.{eqb-true}
use Rattle.cc_steps.specs.CcCells.Cells.{scalar_in, with_scalar}
use Rattle.cc_program.specs.declared.program.Program.{Program}
use Rattle.cc_program.specs.declared.value.Value.{Value}
use Rattle.cc_rewrite_homes.specs.Homes.{Field}
use Rattle.cc_rewrite_homes.proofs.ScalarLemmas.{written_elsewhere}
use Rattle.cc_rewrite_residues.specs.Residues.{Need, Has, There, Bad, register_of, IsMet, AreMet, AreOwn}
use Rattle.cc_rewrite_residues.specs.Standing.{Frame, Locals, Spot, standing}
use Rattle.cc_rewrite_residues.proofs.ResidueLemmas.{agree-set}
use Rattle.cc_rewrite_actions.specs.Actions.{IsWithin, IsNamed, StaysUnguarded}
use Rattle.cc_rewrite_simulation.specs.Comparison.{Comparison}
use Rattle.cc_rewrite_simulation.specs.Relation.{Stands, Level, Reading, Writing, Trapping, IsLevel, MayWait, Pair, Stacks}
use Rattle.cc_steps.specs.Access.{content, local_content, with_local, with_locals, is_open}
use Rattle.cc_steps.specs.State.{Active}

need-still : (own : ℕ → Bool) (n : Need) (locals : Locals) (i k : ℕ) (v : Option Value) → own (register_of n) ≡ true → own i ≡ false → scalar_in (with_scalar locals i k v) (register_of n) 0 ≡ scalar_in locals (register_of n) 0
need-still own n locals i k v h other = written_elsewhere locals i k v (register_of n) 0 (λ e _. differ (own i) (own (register_of n)) (ap own e) other h)
  where
    differ : (a b : Bool) → a ≡ b → a ≡ false → b ≡ true → ⊥
    differ a b e f g = let x : false ≡ true = sym f ∙ e ∙ g in absurd (cc)

is-met-still : (own : ℕ → Bool) (n : Need) (locals : Locals) (i k : ℕ) (v : Option Value) → own (register_of n) ≡ true → own i ≡ false → IsMet n locals → IsMet n (with_scalar locals i k v)
is-met-still own (Has j u) locals i k v h other m = need-still own (Has j u) locals i k v h other ∙ m
is-met-still own (There j) locals i k v h other m = (m.0, need-still own (There j) locals i k v h other ∙ m.1)
is-met-still own (Bad j) locals i k v h other m = need-still own (Bad j) locals i k v h other ∙ m

-- the needs are met still
pub met-still : (own : ℕ → Bool) (needs : List Need) (locals : Locals) (i k : ℕ) (v : Option Value) → AreOwn own needs → own i ≡ false → AreMet needs locals → AreMet needs (with_scalar locals i k v)
met-still own [] locals i k v h other m = tt
met-still own (n ∷ needs) locals i k v h other m = (is-met-still own n locals i k v h.0 other m.0, met-still own needs locals i k v h.1 other m.1)

module _ {Q P : Program} (c : Comparison Q P) (May : Type 0) (unguarded-still : StaysUnguarded c) where
  abbrev Together : List (List Value) → Active → Active → Type 0
  Together = Pair c May

  abbrev Below : List (List Value) → Bool → List Active → List Active → Type 0
  Below = Stacks c May

  stands-still : (qs : List (List Value)) (frame : Frame) (ql pl : Locals) (sq sp : Spot) (i k : ℕ) (u v : Option Value) → c.own frame.func i ≡ false → Stands c May qs frame ql pl sq sp →
      Stands c May qs frame (with_scalar ql i k u) (with_scalar pl i k v) sq sp
  stands-still qs frame ql pl sq sp i k u v other (Level h) = Level h
  stands-still qs frame ql pl sq sp i k u v other (Reading may h) = Reading may (record {
    n = h.n;
    m = h.m;
    q_needs = h.q_needs;
    p_needs = h.p_needs;
    register = h.register;
    value = h.value;
    tq = h.tq;
    tp = h.tp;
    q_met = met-still (c.own frame.func) h.q_needs ql i k u h.q_own other h.q_met;
    p_met = met-still (c.own frame.func) h.p_needs pl i k v h.p_own other h.p_met;
    q_own = h.q_own;
    p_own = h.p_own;
    below = h.below;
    q_left = h.q_left;
    p_left = h.p_left;
    joined = h.joined;
  })
  stands-still qs frame ql pl sq sp i k u v other (Writing may h) = Writing may (record {
    n = h.n;
    m = h.m;
    q_needs = h.q_needs;
    p_needs = h.p_needs;
    object = h.object;
    position = h.position;
    field = h.field;
    word = h.word;
    code = h.code;
    value = h.value;
    tq = h.tq;
    tp = h.tp;
    q_met = met-still (c.own frame.func) h.q_needs ql i k u h.q_own other h.q_met;
    p_met = met-still (c.own frame.func) h.p_needs pl i k v h.p_own other h.p_met;
    q_own = h.q_own;
    p_own = h.p_own;
    at = h.at;
    holds = h.holds;
    small = h.small;
    coded = h.coded;
    q_left = h.q_left;
    p_left = h.p_left;
    joined = h.joined;
    unguarded = unguarded-still frame pl sp h.field i k v h.unguarded;
  })
  stands-still qs frame ql pl sq sp i k u v other (Trapping may h) = Trapping may (record {
    n = h.n;
    m = h.m;
    q_needs = h.q_needs;
    p_needs = h.p_needs;
    q_met = met-still (c.own frame.func) h.q_needs ql i k u h.q_own other h.q_met;
    p_met = met-still (c.own frame.func) h.p_needs pl i k v h.p_own other h.p_met;
    q_own = h.q_own;
    p_own = h.p_own;
    q_left = h.q_left;
    p_left = h.p_left;
  })

  abbrev local_set : Active → ℕ → ℕ → Option Value → Active
  local_set a i k v = with_locals a (with_scalar a.locals i k v)

  pair-still : (qs : List (List Value)) (q p : Active) (h : Together qs q p) (i k : ℕ) (v : Value) → i < c.base h.frame.func → (c.own h.frame.func i ≡ false) → Together qs (local_set q i k (Some v)) (local_set p i k (Some v))
  pair-still qs q p h i k v below other = record {
    frame = h.frame;
    ql = with_scalar h.ql i k (Some v);
    pl = with_scalar h.pl i k (Some v);
    sq = h.sq;
    sp = h.sp;
    q_is = ap (λ (a : Active). local_set a i k (Some v)) h.q_is;
    p_is = ap (λ (a : Active). local_set a i k (Some v)) h.p_is;
    agree = agree-set (c.base h.frame.func) i k (Some v) h.ql h.pl h.agree below;
    stands = stands-still qs h.frame h.ql h.pl h.sq h.sp i k (Some v) (Some v) other h.stands;
  }

  level-by : (qs : List (List Value)) (frame : Frame) (ql pl : Locals) (sq sp : Spot) (i k : ℕ) (u v : Option Value) (other : c.own frame.func i ≡ false) (s : Stands c May qs frame ql pl sq sp) →
      IsLevel c May qs frame ql pl sq sp s →
      IsLevel c May qs frame (with_scalar ql i k u) (with_scalar pl i k v) sq sp (stands-still qs frame ql pl sq sp i k u v other s)
  unfolding stands-still
  level-by qs frame ql pl sq sp i k u v other (Level s) m = tt
  level-by qs frame ql pl sq sp i k u v other (Reading may s) m = absurd m
  level-by qs frame ql pl sq sp i k u v other (Writing may s) m = absurd m
  level-by qs frame ql pl sq sp i k u v other (Trapping may s) m = absurd m

  level-still : (qs : List (List Value)) (waits : Bool) (q p : Active) (h : Together qs q p) (i k : ℕ) (v : Value) (below : i < c.base h.frame.func) (other : c.own h.frame.func i ≡ false) → MayWait c May waits qs q p h →
      MayWait c May waits qs (local_set q i k (Some v)) (local_set p i k (Some v)) (pair-still qs q p h i k v below other)
  unfolding pair-still
  level-still qs false q p h i k v below other m = tt
  level-still qs true q p h i k v below other m = level-by qs h.frame h.ql h.pl h.sq h.sp i k (Some v) (Some v) other h.stands m

  number-same : (qs : List (List Value)) (q p : Active) (h : Together qs q p) → (q.number ≡ h.frame.number) × (p.number ≡ h.frame.number)
  number-same qs q p h = (ap (λ (a : Active). a.number) h.q_is, ap (λ (a : Active). a.number) h.p_is)

  func-same : (qs : List (List Value)) (q p : Active) (h : Together qs q p) → p.func ≡ h.frame.func
  func-same qs q p h = ap (λ (a : Active). a.func) h.p_is

  number-of : (qs : List (List Value)) (q p : Active) (h : Together qs q p) (number : ℕ) → (q.number == number) ≡ true → p.number ≡ number
  number-of qs q p h number e = let same = number-same qs q p h in same.1 ∙ sym same.0 ∙ eqb-true q.number number e

  frame-named : (qs : List (List Value)) (q p : Active) (h : Together qs q p) (number i : ℕ) → (p.number ≡ number → (i < c.base p.func) × (c.own p.func i ≡ false)) → (q.number == number) ≡ true →
      (i < c.base h.frame.func) × (c.own h.frame.func i ≡ false)
  frame-named qs q p h number i named e =
      let n = named (number-of qs q p h number e) in
      (subst (λ (f : ℕ). i < c.base f) (func-same qs q p h) n.0, subst (λ (f : ℕ). c.own f i ≡ false) (func-same qs q p h) n.1)

  frame-within : (qs : List (List Value)) (q p : Active) (h : Together qs q p) (number i : ℕ) → (p.number ≡ number → i < c.base p.func) → (q.number == number) ≡ true → i < c.base h.frame.func
  frame-within qs q p h number i within e = subst (λ (f : ℕ). i < c.base f) (func-same qs q p h) (within (number-of qs q p h number e))

  written-by : (qs : List (List Value)) (waits : Bool) (q p : Active) (below others : List Active) (number i k : ℕ) (v : Value) (b d : Bool) → b ≡ d → (h : Together qs q p) → MayWait c May waits qs q p h →
      (b ≡ true → (i < c.base h.frame.func) × (c.own h.frame.func i ≡ false)) → Below qs (not p.handler) below others → Below qs (not p.handler) (with_local below number i k v) (with_local others number i k v) →
      Below qs waits (if b then local_set q i k (Some v) ∷ below else q ∷ with_local below number i k v) (if d then local_set p i k (Some v) ∷ others else p ∷ with_local others number i k v)
  written-by qs waits q p below others number i k v true true g h m named rest next = let n = named refl in (pair-still qs q p h i k v n.0 n.1, level-still qs waits q p h i k v n.0 n.1 m, rest)
  written-by qs waits q p below others number i k v false false g h m named rest next = (h, m, next)
  written-by qs waits q p below others number i k v true false g h m named rest next = absurd (cc)
  written-by qs waits q p below others number i k v false true g h m named rest next = absurd (cc)

  -- the write of a local in both stacks
  pub stacks-written : (qs : List (List Value)) (waits : Bool) (below others : List Active) (number i k : ℕ) (v : Value) → IsNamed c others number i → Below qs waits below others → Below qs waits (with_local below number i k v) (with_local others number i k v)
  stacks-written qs waits [] [] number i k v named h = tt
  stacks-written qs waits (q ∷ below) (p ∷ others) number i k v named h =
      let same = number-same qs q p h.0 in
      written-by qs waits q p below others number i k v (q.number == number) (p.number == number) (ap (λ (n : ℕ). n == number) (same.0 ∙ sym same.1)) h.0 h.1
      (frame-named qs q p h.0 number i named.0) h.2 (stacks-written qs (not p.handler) below others number i k v named.1 h.2)
  stacks-written qs waits [] (p ∷ others) number i k v named h = absurd h
  stacks-written qs waits (q ∷ below) [] number i k v named h = absurd h

  content-by : (qs : List (List Value)) (q p : Active) (below others : List Active) (number i k : ℕ) (b d : Bool) → b ≡ d → (h : Together qs q p) → (b ≡ true → i < c.base h.frame.func) →
      local_content below number i k ≡ local_content others number i k →
      (if b then content (scalar_in q.locals i k) else local_content below number i k) ≡ (if d then content (scalar_in p.locals i k) else local_content others number i k)
  content-by qs q p below others number i k true true f h named next =
      ap (λ (a : Active). content (scalar_in a.locals i k)) h.q_is ∙ ap content (h.agree i k (named refl)) ∙ sym (ap (λ (a : Active). content (scalar_in a.locals i k)) h.p_is)
  content-by qs q p below others number i k false false f h named next = next
  content-by qs q p below others number i k true false f h named next = absurd (cc)
  content-by qs q p below others number i k false true f h named next = absurd (cc)

  -- and what a local holds
  pub content-same : (qs : List (List Value)) (waits : Bool) (below others : List Active) (number i k : ℕ) → IsWithin c others number i → Below qs waits below others →
      local_content below number i k ≡ local_content others number i k
  content-same qs waits [] [] number i k named h = refl
  content-same qs waits (q ∷ below) (p ∷ others) number i k named h =
      let same = number-same qs q p h.0 in
      content-by qs q p below others number i k (q.number == number) (p.number == number) (ap (λ (n : ℕ). n == number) (same.0 ∙ sym same.1)) h.0
      (frame-within qs q p h.0 number i named.0) (content-same qs (not p.handler) below others number i k named.1 h.2)
  content-same qs waits [] (p ∷ others) number i k named h = absurd h
  content-same qs waits (q ∷ below) [] number i k named h = absurd h

  -- whether an activation is open still
  pub open-same : (qs : List (List Value)) (waits : Bool) (below others : List Active) (number : ℕ) → Below qs waits below others → is_open below number ≡ is_open others number
  open-same qs waits [] [] number h = refl
  open-same qs waits (q ∷ below) (p ∷ others) number h =
      let same = number-same qs q p h.0 in
      ap (λ (n : ℕ). if n == number then true else is_open below number) (same.0 ∙ sym same.1) ∙ ap (λ (b : Bool). if p.number == number then true else b) (open-same qs (not p.handler) below others number h.2)
  open-same qs waits [] (p ∷ others) number h = absurd h
  open-same qs waits (q ∷ below) [] number h = absurd h
