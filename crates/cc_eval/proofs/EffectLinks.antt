-- The registers that later operands assign, by what is known of the operands before they run.
use Rattle.std.proofs.Common.{◌≡◌, List, [], ◌∷◌, ℕ, Bool, true, false, ◌||◌, map, refl, ap, sym, ◌∙◌}
use Rattle.std.specs.Borrow.{Bor}
use Rattle.cc_program.specs.declared.expr.Expr.{Expr}
use Rattle.cc_syntax.specs.Effects.{Registers, Effects, all_assigned, effects_of}
use Rattle.cc_eval.specs.declared.effects.Later.{Later, Behind, BothBehind, AllBehind, fold-roll-Later}
use Rattle.cc_eval.specs.declared.effects.Later.TheVariants.{rolls-Behind, rolls-BothBehind, rolls-AllBehind}
use Rattle.cc_eval.specs.declared.effects.Later.TheOpen as at
use Rattle.cc_eval.specs.Context.{Context}
use Rattle.cc_eval.specs.Eval.{meaning, assigned_by}
use Rattle.cc_eval.specs.View.{later_step, later_of}
use Rattle.cc_eval.proofs.Links.{effects_linked}

or_assoc : (a b c : Bool) → (a || (b || c)) ≡ ((a || b) || c)
or_assoc true b c = refl
or_assoc false b c = refl

-- a test of the first alternative, where it holds and where it does not
pub or-taken : (x e y whole : Bool) → x ≡ e → x ≡ true → whole ≡ (e || y) → x ≡ whole
or-taken x e y whole h t k = t ∙ sym (k ∙ ap (λ (b : Bool). b || y) (sym h ∙ t))

pub or-passed : (x e y z whole : Bool) → x ≡ e → x ≡ false → whole ≡ (e || y) → z ≡ y → z ≡ whole
or-passed x e y z whole h f k w = w ∙ sym (k ∙ ap (λ (b : Bool). b || y) (sym h ∙ f))

pub either-same : (r x y a b : Bool) → r ≡ (x || y) → x ≡ a → y ≡ b → r ≡ (a || b)
either-same r x y a b h k l = h ∙ ap (λ (x : Bool). x || y) k ∙ ap (λ (y : Bool). a || y) l

module _ (c : Context) where
  assigned-linked : (e : Expr) (r : ℕ) → (meaning c e).effects.assigned r ≡ (effects_of c.func e).assigned r
  assigned-linked e r = ap (λ (x : Effects). x.assigned r) (effects_linked c e)

  all-linked : (es : List Expr) (r : ℕ) → assigned_by (map (meaning c) es) r ≡ all_assigned (map (effects_of c.func) es) r
  all-linked [] r = refl
  all-linked (e ∷ es) r =
      ap (λ (b : Bool). b || assigned_by (map (meaning c) es) r) (assigned-linked e r) ∙
      ap (λ (b : Bool). (effects_of c.func e).assigned r || b) (all-linked es r)

  pub behind-step : (l : Later) (e : Bor Expr) (more : Bor Later) (r : ℕ) → l ≡ Behind e more → later_of c l r ≡ ((effects_of c.func e.now).assigned r || later_of c more.now r)
  behind-step l e more r h =
      ap (λ (l : Later). later_of c l r) (h ∙ sym (rolls-Behind e more)) ∙ ap (λ (f : Registers). f r) (fold-roll-Later Registers (later_step c) (at.Behind e more)) ∙
      ap (λ (b : Bool). b || later_of c more.now r) (assigned-linked e.now r)

  pub both-step : (l : Later) (a b : Bor Expr) (more : Bor Later) (r : ℕ) → l ≡ BothBehind a b more →
      later_of c l r ≡ (((effects_of c.func a.now).assigned r || (effects_of c.func b.now).assigned r) || later_of c more.now r)
  both-step l a b more r h =
      ap (λ (l : Later). later_of c l r) (h ∙ sym (rolls-BothBehind a b more)) ∙ ap (λ (f : Registers). f r) (fold-roll-Later Registers (later_step c) (at.BothBehind a b more)) ∙
      ap (λ (x : Bool). x || ((meaning c b.now).effects.assigned r || later_of c more.now r)) (assigned-linked a.now r) ∙
      ap (λ (x : Bool). (effects_of c.func a.now).assigned r || (x || later_of c more.now r)) (assigned-linked b.now r) ∙
      or_assoc ((effects_of c.func a.now).assigned r) ((effects_of c.func b.now).assigned r) (later_of c more.now r)

  pub all-step : (l : Later) (es : Bor (List Expr)) (more : Bor Later) (r : ℕ) → l ≡ AllBehind es more →
      later_of c l r ≡ (all_assigned (map (effects_of c.func) es.now) r || later_of c more.now r)
  all-step l es more r h =
      ap (λ (l : Later). later_of c l r) (h ∙ sym (rolls-AllBehind es more)) ∙ ap (λ (f : Registers). f r) (fold-roll-Later Registers (later_step c) (at.AllBehind es more)) ∙
      ap (λ (b : Bool). b || later_of c more.now r) (all-linked es.now r)
