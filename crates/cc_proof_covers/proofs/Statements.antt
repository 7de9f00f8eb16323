-- An activation at a statement of a normal body: where that stands, and what one more mark makes of an expression statement. It is left for
-- what is behind it where its value is known, and stays else.
use Rattle.std.proofs.Common.{◌≡◌, ℕ, Bool, true, false, List, [], ◌∷◌, ◌++◌, Option, Some, None, refl, ap, sym, ◌∙◌, subst, slice_get}
use Rattle.std.specs.Prelude.{if◌then◌else◌}
use Rattle.std.proofs.lemmas.Option.{same_Some}
use Rattle.cc_flow_sound.specs.CcControl.Control.{behind}
use Rattle.cc_flow_sound.specs.CcEval.declared.mark.Mark.{Mark}
use Rattle.cc_flow_sound.specs.CcEval.Eval.{next_of}
use Rattle.cc_flow_sound.specs.CcEval.Progress.{Progress, Known, Waits, Traps}
use Rattle.cc_flow_sound.specs.CcFlow.declared.next.Site.{Site}
use Rattle.cc_flow_sound.proofs.Goes.{goes_at}
use Rattle.cc_flow_sound.proofs.Opened.{all_normal, NormalAt, normal_level, normal_head}
use Rattle.cc_flow_sound.proofs.Places.{AreNormal, sited, normal_inside, behind_at}
use Rattle.cc_flow_sound.specs.Sites.{own_site, StandsAt, base_of}
use Rattle.cc_program.specs.declared.expr.Expr.{Expr}
use Rattle.cc_program.specs.declared.func.Func.{Func}
use Rattle.cc_program.specs.declared.program.Program.{Program}
use Rattle.cc_program.specs.declared.stmt.Case.{Case}
use Rattle.cc_program.specs.declared.stmt.Stmt.TheOpen as is
use Rattle.cc_program.specs.declared.stmt.Stmt.{Stmt, out-Stmt}
use Rattle.cc_program.specs.declared.value.Value.{Value}
use Rattle.cc_proof_covers.specs.Invariant.{IsAtPoint, EndsAt}
use Rattle.cc_flow_sound.specs.CcStates.Inside.{AreInside}
use Rattle.cc_flow_sound.specs.CcStates.States.{expression_of, worked_at, context_in, IsActive}
use Rattle.cc_flow_sound.specs.CcSteps.State.{Active}
use Rattle.cc_flow_sound.specs.CcSteps.Step.{worked, progress_in, progress_at, is_known, with_mark, goes_to, settled_in, settled, marked}

-- its statement, with what is left of the list behind it, and the site of that; what is left of all lists is normal
pub record AtStatement (p : Program) (a : Active) (f : Func) : Type 0 where
  pub function : slice_get p.funcs a.func ≡ Some f
  pub statement : Stmt
  pub rest : List Stmt
  pub here : a.here.rest ≡ statement ∷ rest
  pub site : Site
  pub stands : StandsAt (base_of p a.func f) f.body a.around (statement ∷ rest) a.here.position site
  pub levels : AreNormal p.target f (base_of p a.func f) f.body (a.here ∷ a.around)

module _ (p : Program) (normal : (g : ℕ) (f : Func) → slice_get p.funcs g ≡ Some f → all_normal p.target f f.body ≡ true) where
  pub at_statement_of : (openings : List ℕ) (a : Active) → IsActive p openings a → (f : Func) → slice_get p.funcs a.func ≡ Some f → (s : Stmt) (rest : List Stmt) → a.here.rest ≡ s ∷ rest → AtStatement p a f
  at_statement_of openings a active f function s rest here =
      let base = base_of p a.func f in
      let whole = normal a.func f function in
      let inside : AreInside f.body (a.here ∷ a.around) = subst (λ (g : Func). AreInside g.body (a.here ∷ a.around)) (same_Some active.func f (sym active.function ∙ function)) active.inside in
      let place = sited p.target f base f.body whole a.around a.here.rest a.here.position inside.0 inside.1 in
      record {
        function = function;
        statement = s;
        rest = rest;
        here = here;
        site = place.0;
        stands = subst (λ (l : List Stmt). StandsAt base f.body a.around l a.here.position place.0) here place.1;
        levels = normal_inside p.target f base f.body whole (a.here ∷ a.around) inside;
      }

module _ (p : Program) (a : Active) (f : Func) (at : AtStatement p a f) where
  abbrev pub own : Site
  own = own_site at.statement at.rest at.site

  pub is_normal : NormalAt p.target f (out-Stmt at.statement)
  is_normal = normal_level p.target f at.statement (normal_head p.target f at.statement at.rest (ap (all_normal p.target f) (sym at.here) ∙ at.levels.0)).0

  pub marked_is : (m : Mark) (y : is.Stmt-F Stmt Case) → out-Stmt at.statement ≡ y → marked p a m ≡ settled_in p y (with_mark a m)
  marked_is m y i = ap (λ (l : List Stmt). settled p l (with_mark a m)) at.here ∙ ap (λ z. settled_in p z (with_mark a m)) i

  pub works_on : (y : is.Stmt-F Stmt Case) → out-Stmt at.statement ≡ y → expression_of a ≡ worked y a.here.phase
  works_on y i = ap (worked_at a.here) at.here ∙ ap (λ z. worked z a.here.phase) i

  pub progress_is : (e : Expr) → expression_of a ≡ Some e → (ms : List Mark) → progress_at p a.number a.func ms (expression_of a) ≡ next_of (context_in p a f) e ms
  progress_is e works ms = ap (progress_at p a.number a.func ms) works ∙ ap (λ (g : Option Func). progress_in p a.number a.func ms g (Some e)) at.function

  module _ (e : Expr) (is_do : out-Stmt at.statement ≡ is.Do e) where
    pub works_e : expression_of a ≡ Some e
    works_e = works_on (is.Do e) is_do

    settled_is : (m : Mark) → marked p a m ≡ (if is_known (next_of (context_in p a f) e (a.marks ++ m ∷ [])) then goes_to p (with_mark a m) (behind a.here a.around) else with_mark a m)
    settled_is m =
        marked_is m (is.Do e) is_do
        ∙ ap (λ (q : Progress (Option Value)). if is_known q then goes_to p (with_mark a m) (behind a.here a.around) else with_mark a m)
        (ap (λ (g : Option Func). progress_in p a.number a.func (a.marks ++ m ∷ []) g (Some e)) at.function)

    unknown : (q : Progress (Option Value)) → ((w : Value) (ms : List Mark) → q ≡ Known (Some w) ms → ⊥) → is_known q ≡ false
    unknown (Known (Some w) ms) h = absurd (h w ms refl)
    unknown (Known None ms) h = refl
    unknown (Waits action) h = refl
    unknown (Traps ms) h = refl

    pub stays : (m : Mark) → ((w : Value) (ms : List Mark) → next_of (context_in p a f) e (a.marks ++ m ∷ []) ≡ Known (Some w) ms → ⊥) → marked p a m ≡ with_mark a m
    stays m h = settled_is m ∙ ap (λ (b : Bool). if b then goes_to p (with_mark a m) (behind a.here a.around) else with_mark a m) (unknown (next_of (context_in p a f) e (a.marks ++ m ∷ [])) h)

    -- left with this mark, it stands at the point behind the statement
    pub left_at : (m : Mark) → marked p a m ≡ goes_to p (with_mark a m) (behind a.here a.around) → EndsAt p f a own.behind m
    left_at m is =
        let base = base_of p a.func f in
        let there = behind_at p.target f base f.body a.here a.around at.statement at.rest at.site at.here at.stands at.levels in (
          subst (λ (b : Active). IsAtPoint p f b own.behind) (sym is) (goes_at p.target f base f.body p (with_mark a m) (behind a.here a.around) own.behind there),
          ap (λ (b : Active). b.marks) is,
        )

    pub ends : (m : Mark) (w : Value) (ms : List Mark) → next_of (context_in p a f) e (a.marks ++ m ∷ []) ≡ Known (Some w) ms → EndsAt p f a own.behind m
    ends m w ms h = left_at m (settled_is m ∙ ap (λ (q : Progress (Option Value)). if is_known q then goes_to p (with_mark a m) (behind a.here a.around) else with_mark a m) h)
