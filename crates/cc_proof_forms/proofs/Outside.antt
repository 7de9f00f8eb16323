-- What is behind a statement of a body, and behind what is left of a list in it, is not inside.
use Rattle.std.proofs.Common.{arith, ◌≡◌, ◌≤◌, ◌<◌, ◌⊎◌, inl, inr, ◌+◌, ℕ, Bool, true, false, nat_eq, List, [], ◌∷◌, refl, ap, ◌∙◌}
use Rattle.std.specs.Prelude.{if◌then◌else◌}
use Rattle.std.proofs.lemmas.List.Sums.{sum_by-cons}
use Rattle.cc_flow_sound.specs.CcControl.Control.{Level}
use Rattle.cc_flow_sound.proofs.CcFlow.Tests.{zero_of}
use Rattle.cc_flow_sound.specs.CcFlow.declared.next.Site.{Site}
use Rattle.cc_flow_sound.specs.CcFlow.Points.{size_of, total_of}
use Rattle.cc_flow_sound.proofs.Opened.{form_size, size_at, total-append, total-bodies}
use Rattle.cc_flow_sound.specs.Sites.{own_site, IsSiteIn, IsPlaced, StandsAt, base_of}
use Rattle.cc_program.specs.declared.func.Func.{Func}
use Rattle.cc_program.specs.declared.program.Program.{Program}
use Rattle.cc_program.specs.declared.stmt.Case.{Case}
use Rattle.cc_program.specs.declared.stmt.Stmt.TheOpen as is
use Rattle.cc_program.specs.declared.stmt.Stmt.{Stmt, out-Stmt}
use Rattle.cc_proof_forms.specs.Branches.{LeadsOut}

abbrev Out : List Stmt → Site → Type 0
Out list site = (site.behind < site.number) ⊎ (site.number + total_of list ≤ site.behind)

-- of a list, so of what is left of it
placed_out : (list : List Stmt) (first : ℕ) (inner : Site) (rest : List Stmt) (position : ℕ) (site : Site) → IsPlaced list first inner rest position site → Out list inner → Out rest site
placed_out list first inner rest position site h o = by o
  where
    behind : site.behind ≡ inner.behind
    behind = ap (λ (z : Site). z.behind) h.place

    number : site.number ≡ inner.number + total_of h.front
    number = ap (λ (z : Site). z.number) h.place

    total : total_of list ≡ total_of h.front + total_of rest
    total = ap total_of h.whole ∙ total-append h.front rest

    by : Out list inner → Out rest site
    by (inl k) = inl (let b = behind in let n = number in omega (arith, b, n, k))
    by (inr k) = inr (let b = behind in let n = number in let t = total in omega (arith, b, n, t, k))

-- of a list, so of its first statement
own_out : (s : Stmt) (rest : List Stmt) (site : Site) → Out (s ∷ rest) site → LeadsOut s (own_site s rest site)
own_out s rest site o = by (nat_eq (total_of rest) 0) refl o
  where
    by : (b : Bool) → nat_eq (total_of rest) 0 ≡ b → Out (s ∷ rest) site →
        ((if b then site.behind else site.number + size_of s) < site.number) ⊎ (site.number + size_of s ≤ (if b then site.behind else site.number + size_of s))
    by true e (inl k) = inl k
    by true e (inr k) = inr (let z = zero_of (total_of rest) e in let t = sum_by-cons size_of s rest in omega (arith, z, t, k))
    by false e k = inr (omega arith)

-- of a statement, so of a list inside
inside_out : (s : Stmt) (x : is.Stmt-F Stmt Case) (own : Site) (list : List Stmt) (first : ℕ) (inner : Site) → out-Stmt s ≡ x → IsSiteIn x own list first inner → LeadsOut s own → Out list inner
inside_out s (is.If e these those) own list first inner i (inl h) o = by o
  where
    by : LeadsOut s own → Out list inner
    by (inl k) = inl (let b = ap (λ (z : Site). z.behind) h.2 in let n = ap (λ (z : Site). z.number) h.2 in omega (arith, b, n, k))
    by (inr k) =
        inr (
        let b = ap (λ (z : Site). z.behind) h.2 in
        let n = ap (λ (z : Site). z.number) h.2 in
        let t = ap total_of h.0 in
        let c : size_of s ≡ 1 + (total_of these + total_of those) = size_at s ∙ ap form_size i in
        omega (arith, b, n, t, c, k)
        )
inside_out s (is.If e these those) own list first inner i (inr h) o = by o
  where
    by : LeadsOut s own → Out list inner
    by (inl k) = inl (let b = ap (λ (z : Site). z.behind) h.2 in let n = ap (λ (z : Site). z.number) h.2 in omega (arith, b, n, k))
    by (inr k) =
        inr (
        let b = ap (λ (z : Site). z.behind) h.2 in
        let n = ap (λ (z : Site). z.number) h.2 in
        let t = ap total_of h.0 in
        let c : size_of s ≡ 1 + (total_of these + total_of those) = size_at s ∙ ap form_size i in
        omega (arith, b, n, t, c, k)
        )
inside_out s (is.While e body) own list first inner i h o = inl (let b = ap (λ (z : Site). z.behind) h.2 in let n = ap (λ (z : Site). z.number) h.2 in omega (arith, b, n))
inside_out s (is.Switch e cases) own list first inner i h o = by o
  where
    by : LeadsOut s own → Out list inner
    by (inl k) = inl (let b = ap (λ (z : Site). z.behind) h.2 in let n = ap (λ (z : Site). z.number) h.2 in omega (arith, b, n, k))
    by (inr k) =
        inr (
        let b = ap (λ (z : Site). z.behind) h.2 in
        let n = ap (λ (z : Site). z.number) h.2 in
        let t = ap total_of h.0 ∙ total-bodies cases in
        let c : size_of s ≡ form_size (is.Switch e cases) = size_at s ∙ ap form_size i in
        omega (arith, b, n, t, c, k)
        )
inside_out s _ own list first inner i h o = absurd h

module _ (base : Site) (body : List Stmt) (whole : Out body base) where
  stands_out : (around : List Level) (rest : List Stmt) (position : ℕ) (site : Site) → StandsAt base body around rest position site → Out rest site
  stands_out [] rest position site h = placed_out body 0 base rest position site h whole
  stands_out (at ∷ around) rest position site h =
      placed_out h.list h.first h.inner rest position site h.left
      (inside_out h.statement (out-Stmt h.statement) (own_site h.statement h.after h.outer) h.list h.first h.inner refl h.inside
      (own_out h.statement h.after h.outer (stands_out around (h.statement ∷ h.after) at.position h.outer h.around)))

-- of the first statement that is left in a body
pub leads_out : (p : Program) (id : ℕ) (f : Func) (around : List Level) (s : Stmt) (rest : List Stmt) (position : ℕ) (site : Site) → StandsAt (base_of p id f) f.body around (s ∷ rest) position site → LeadsOut s (own_site s rest site)
leads_out p id f around s rest position site h = own_out s rest site (stands_out (base_of p id f) f.body (inr (omega arith)) around (s ∷ rest) position site h)
