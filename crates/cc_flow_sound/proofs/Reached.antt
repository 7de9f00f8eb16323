-- The path of an activation leads to the statement of its next step.
use Rattle.std.proofs.Common.{arith, ◌≡◌, ◌≤◌, ◌<◌, inl, inr, ◌+◌, ◌^◌, ℕ, List, [], ◌∷◌, ◌++◌, length, length-append, append_assoc, Option, Some, slice_get, refl, ap, sym, ◌∙◌, subst}
use Rattle.std.proofs.lemmas.Option.{same_Some}
use Rattle.cc_program.specs.declared.func.Func.{Func}
use Rattle.cc_program.specs.declared.program.Program.{Program}
use Rattle.cc_program.specs.declared.stmt.Case.{Case}
use Rattle.cc_program.specs.declared.stmt.Stmt.{Stmt, out-Stmt}
use Rattle.cc_program.specs.declared.stmt.Stmt.TheOpen as is
use Rattle.cc_states.specs.CcControl.Control.{Level, Control, counted, bodies, path_of}
use Rattle.cc_flow.specs.declared.next.Site.{Site}
use Rattle.cc_flow.specs.Points.{total_of, body_site, count_of}
use Rattle.cc_states.proofs.ListLemmas.{get_before, get_after}
use Rattle.cc_states.specs.States.{IsActive}
use Rattle.cc_states.specs.CcSteps.State.{Active}
use Rattle.cc_states.specs.CcSyntax.Expressions.{of_one}
use Rattle.cc_states.specs.CcSyntax.Normal.{IsNormal}
use Rattle.cc_flow_sound.specs.Sites.{own_site, IsSiteIn, StandsAt, base_of}
use Rattle.cc_flow_sound.specs.Moves.{entry}
use Rattle.cc_flow_sound.specs.Statements.{inside, statement_at}
use Rattle.cc_flow_sound.proofs.Normal.{normal_body}
use Rattle.cc_flow_sound.proofs.Numbered.{room}
use Rattle.cc_flow_sound.proofs.Places.{sited}
use Rattle.cc_flow_sound.proofs.Segments.{prefix, prefix_is, number_from, placed_low, lower_bound}

-- what is left of a list begins at its place
part_at : (list front : List Stmt) (s : Stmt) (rest : List Stmt) (n : ℕ) → list ≡ front ++ s ∷ rest → n ≡ length front → slice_get list n ≡ Some s
part_at list front s rest n e k = ap (λ (l : List Stmt). slice_get l n) e ∙ get_after front (s ∷ rest) 0 n (omega (arith, k))

inside_at : (x : is.Stmt-F Stmt Case) (own : Site) (list : List Stmt) (first : ℕ) (inner : Site) → IsSiteIn x own list first inner → (front : List Stmt) (s : Stmt) (rest : List Stmt) (n : ℕ) → list ≡ front ++ s ∷ rest → n ≡ first + length front →
    slice_get (inside x) n ≡ Some s
inside_at (is.If e these those) own list first inner (inl h) front s rest n k m =
    let zero = h.1 in
    let lengths = ap length (sym h.0 ∙ k) in
    let parts = length-append front (s ∷ rest) in
    get_before these those n (omega (arith, m, zero, lengths, parts)) ∙ part_at these front s rest n (sym h.0 ∙ k) (omega (arith, m, zero))
inside_at (is.If e these those) own list first inner (inr h) front s rest n k m =
    let zero = h.1 in
    get_after these those (length front) n (omega (arith, m, zero)) ∙ part_at those front s rest (length front) (sym h.0 ∙ k) refl
inside_at (is.While e body) own list first inner h front s rest n k m = let zero = h.1 in part_at body front s rest n (sym h.0 ∙ k) (omega (arith, m, zero))
inside_at (is.Switch e cases) own list first inner h front s rest n k m = let zero = h.1 in part_at (bodies cases) front s rest n (sym h.0 ∙ k) (omega (arith, m, zero))
inside_at _ own list first inner h front s rest n k m = absurd h

-- where a path goes on from a statement
abbrev further : Stmt → List ℕ → Option Stmt
further s [] = Some s
further s (m ∷ path) = statement_at (inside (out-Stmt s)) (m ∷ path)

first_step : (list : List Stmt) (n : ℕ) (s : Stmt) (path : List ℕ) → slice_get list n ≡ Some s → statement_at list (n ∷ path) ≡ further s path
first_step list n s [] e = e
first_step list n s (m ∷ path) e = ap (λ (o : Option Stmt). of_one o (λ s. statement_at (inside (out-Stmt s)) (m ∷ path))) e

module _ (func first : ℕ) (body : List Stmt) (few : first + total_of body < 2 ^ 32) where
  abbrev base : Site
  base = body_site func first (first + total_of body)

  -- positions are counted in full
  place_of : (around : List Level) (s : Stmt) (rest : List Stmt) (position : ℕ) (site : Site) → StandsAt base body around (s ∷ rest) position site → (n : ℕ) → position ≡ counted n → n ≤ site.number → position ≡ n
  place_of around s rest position site h n e l =
      let number = number_from func first body few around (s ∷ rest) position site h in
      let is = number.1 in
      let low = number.2 in
      omega (arith, e, l, is, low, few)

  reaches : (around : List Level) (s : Stmt) (rest : List Stmt) (position : ℕ) (site : Site) → StandsAt base body around (s ∷ rest) position site → (path : List ℕ) → statement_at body (prefix around ++ position ∷ path) ≡ further s path
  reaches [] s rest position site h path =
      let low : 0 + length h.front ≤ site.number = placed_low base body body 0 base (s ∷ rest) position site h (omega arith) in
      first_step body position s path (part_at body h.front s rest position h.whole (place_of [] s rest position site h (length h.front) (h.counts ∙ ap counted (let e : 0 + length h.front ≡ length h.front = omega arith in e)) (omega (arith, low))))
  reaches (at ∷ around) s rest position site h path =
      let own = own_site h.statement h.after h.outer in
      let low = placed_low base body h.list h.first h.inner (s ∷ rest) position site h.left (lower_bound base body (out-Stmt h.statement) own h.list h.first h.inner h.inside) in
      let place = place_of (at ∷ around) s rest position site h (h.first + length h.left.front) h.left.counts low in
      ap (statement_at body) (append_assoc (prefix around) (at.position ∷ []) (position ∷ path))
      ∙ reaches around h.statement h.after at.position h.outer h.around (position ∷ path)
      ∙ first_step (inside (out-Stmt h.statement)) position s path (inside_at (out-Stmt h.statement) own h.list h.first h.inner h.inside h.left.front s rest position h.left.whole place)

  pub reached_by : (at : Control) (s : Stmt) (rest : List Stmt) (site : Site) → StandsAt base body at.1 (s ∷ rest) at.0.position site → statement_at body (path_of at) ≡ Some s
  reached_by at s rest site h = ap (statement_at body) (prefix_is (at.0 ∷ at.1)) ∙ reaches at.1 s rest at.0.position site h []

pub active_statement : (p : Program) → IsNormal p → count_of p < 2 ^ 32 → (openings : List ℕ) (a : Active) → IsActive p openings a → (f : Func) → slice_get p.funcs a.func ≡ Some f → (s : Stmt) (rest : List Stmt) → a.here.rest ≡ s ∷ rest →
    statement_at f.body (path_of (a.here, a.around)) ≡ Some s
active_statement p normal few openings a h f there s rest here =
    let g = h.func in
    let base = base_of p a.func g in
    let r = room p a.func g h.function in
    let small : entry p a.func + total_of g.body < 2 ^ 32 = omega (arith, r, few) in
    let i = sited p.target g base g.body (normal_body p normal a.func g h.function) a.around a.here.rest a.here.position h.inside.0 h.inside.1 in
    let stands : StandsAt base g.body a.around (s ∷ rest) a.here.position i.0 = subst (λ (l : List Stmt). StandsAt base g.body a.around l a.here.position i.0) here i.1 in
    ap (λ (k : Func). statement_at k.body (path_of (a.here, a.around))) (same_Some f g (sym there ∙ h.function))
    ∙ reached_by a.func (entry p a.func) g.body small (a.here, a.around) s rest i.0 stands
