-- Where an activation goes on, it stands among the points; and each place in the body of a function does.
use Rattle.std.proofs.Common.{arith, ◌≡◌, ◌<◌, inl, inr, ◌+◌, ℕ, Bool, true, false, ◌||◌, List, [], ◌∷◌, ◌++◌, nat_eq, length, length-append, append_assoc, refl, ap, sym, ◌∙◌, subst}
use Rattle.std.specs.Prelude.{if◌then◌else◌}
use Rattle.std.proofs.lemmas.List.Sums.{sum_by-cons}
use Rattle.cc_program.specs.CcNum.declared.target.Target.{Target}
use Rattle.cc_program.specs.declared.func.Func.{Func}
use Rattle.cc_program.specs.declared.stmt.Case.{Case}
use Rattle.cc_program.specs.declared.stmt.Stmt.{Stmt, out-Stmt}
use Rattle.cc_program.specs.declared.stmt.Stmt.TheOpen as is
use Rattle.cc_states.specs.CcControl.Control.{Level, Control, counted, is_loop, is_left_by_break, behind_first, first_is, close, behind, broken, continued}
use Rattle.cc_states.proofs.CcControl.Begun.{begun_stands}
use Rattle.cc_flow.specs.declared.next.Site.{Site}
use Rattle.cc_flow.specs.Next.{reached}
use Rattle.cc_flow.specs.Points.{size_of, total_of}
use Rattle.cc_flow.proofs.Tests.{zero_of}
use Rattle.cc_states.specs.Inside.{IsListIn, IsListInFirst, IsLeft, StandsIn, AreInside}
use Rattle.cc_states.specs.States.{may_break, may_continue}
use Rattle.cc_flow_sound.specs.Sites.{moved_to, own_site, loop_site, switch_site, IsSiteIn, IsPlaced, StandsAt, number_at, IsPoint}
use Rattle.cc_flow_sound.proofs.Opened.{total-append, some_points, all_normal, NormalAt, normal_level, normal_parts, normal_head, normal_lists, opening_none}

-- ---- numbers

pub reached_some : (count number behind : ℕ) → 0 < count → reached count number behind ≡ number
reached_some count number behind h = by (nat_eq count 0) refl
  where
    by : (b : Bool) → nat_eq count 0 ≡ b → (if b then behind else number) ≡ number
    by true e = let z = zero_of count e in absurd (omega (arith, h, z))
    by false e = refl

pub first_number : (s : Stmt) (rest : List Stmt) (site : Site) → number_at (s ∷ rest) site ≡ site.number
first_number s rest site = reached_some (total_of (s ∷ rest)) site.number site.behind (some_points s rest)

-- ---- the sites of lists inside a statement

pub behind_loop : (x : is.Stmt-F Stmt Case) (own : Site) (list : List Stmt) (first : ℕ) (inner : Site) → IsSiteIn x own list first inner → is_loop x ≡ true → inner.behind ≡ own.number
behind_loop (is.While e body) own list first inner h k = ap (λ (s : Site). s.behind) h.2
behind_loop (is.If e these those) own list first inner h k = absurd (cc)
behind_loop (is.Switch e cases) own list first inner h k = absurd (cc)
behind_loop _ own list first inner h k = absurd h

pub behind_other : (x : is.Stmt-F Stmt Case) (own : Site) (list : List Stmt) (first : ℕ) (inner : Site) → IsSiteIn x own list first inner → is_loop x ≡ false → inner.behind ≡ own.behind
behind_other (is.While e body) own list first inner h k = absurd (cc)
behind_other (is.If e these those) own list first inner (inl h) k = ap (λ (s : Site). s.behind) h.2
behind_other (is.If e these those) own list first inner (inr h) k = ap (λ (s : Site). s.behind) h.2
behind_other (is.Switch e cases) own list first inner h k = ap (λ (s : Site). s.behind) h.2
behind_other _ own list first inner h k = absurd h

breaks_here : (x : is.Stmt-F Stmt Case) (own : Site) (list : List Stmt) (first : ℕ) (inner : Site) → IsSiteIn x own list first inner → is_left_by_break x ≡ true → inner.breaks ≡ own.behind
breaks_here (is.While e body) own list first inner h k = ap (λ (s : Site). s.breaks) h.2
breaks_here (is.If e these those) own list first inner h k = absurd (cc)
breaks_here (is.Switch e cases) own list first inner h k = ap (λ (s : Site). s.breaks) h.2
breaks_here _ own list first inner h k = absurd h

breaks_out : (x : is.Stmt-F Stmt Case) (own : Site) (list : List Stmt) (first : ℕ) (inner : Site) → IsSiteIn x own list first inner → is_left_by_break x ≡ false → inner.breaks ≡ own.breaks
breaks_out (is.While e body) own list first inner h k = absurd (cc)
breaks_out (is.If e these those) own list first inner (inl h) k = ap (λ (s : Site). s.breaks) h.2
breaks_out (is.If e these those) own list first inner (inr h) k = ap (λ (s : Site). s.breaks) h.2
breaks_out (is.Switch e cases) own list first inner h k = absurd (cc)
breaks_out _ own list first inner h k = absurd h

continues_here : (x : is.Stmt-F Stmt Case) (own : Site) (list : List Stmt) (first : ℕ) (inner : Site) → IsSiteIn x own list first inner → is_loop x ≡ true → inner.continues ≡ own.number
continues_here (is.While e body) own list first inner h k = ap (λ (s : Site). s.continues) h.2
continues_here (is.If e these those) own list first inner h k = absurd (cc)
continues_here (is.Switch e cases) own list first inner h k = absurd (cc)
continues_here _ own list first inner h k = absurd h

continues_out : (x : is.Stmt-F Stmt Case) (own : Site) (list : List Stmt) (first : ℕ) (inner : Site) → IsSiteIn x own list first inner → is_loop x ≡ false → inner.continues ≡ own.continues
continues_out (is.While e body) own list first inner h k = absurd (cc)
continues_out (is.If e these those) own list first inner (inl h) k = ap (λ (s : Site). s.continues) h.2
continues_out (is.If e these those) own list first inner (inr h) k = ap (λ (s : Site). s.continues) h.2
continues_out (is.Switch e cases) own list first inner h k = ap (λ (s : Site). s.continues) h.2
continues_out _ own list first inner h k = absurd h

-- of all of them the exit is the function's
exits : (x : is.Stmt-F Stmt Case) (own : Site) (list : List Stmt) (first : ℕ) (inner : Site) → IsSiteIn x own list first inner → (inner.exit ≡ own.exit) × (inner.func ≡ own.func)
exits (is.While e body) own list first inner h = (ap (λ (s : Site). s.exit) h.2, ap (λ (s : Site). s.func) h.2)
exits (is.If e these those) own list first inner (inl h) = (ap (λ (s : Site). s.exit) h.2, ap (λ (s : Site). s.func) h.2)
exits (is.If e these those) own list first inner (inr h) = (ap (λ (s : Site). s.exit) h.2, ap (λ (s : Site). s.func) h.2)
exits (is.Switch e cases) own list first inner h = (ap (λ (s : Site). s.exit) h.2, ap (λ (s : Site). s.func) h.2)
exits _ own list first inner h = absurd h

-- ---- what is left of a list

counted_more : (first n m : ℕ) → m ≡ n + 1 → counted (counted (first + n) + 1) ≡ counted (first + m)
counted_more first n m e = omega (arith, e)

next_placed : (list : List Stmt) (first : ℕ) (inner : Site) (s : Stmt) (rest : List Stmt) (position : ℕ) (site : Site) → IsPlaced list first inner (s ∷ rest) position site →
    IsPlaced list first inner rest (counted (position + 1)) (moved_to (site.number + size_of s) site)
next_placed list first inner s rest position site h = record {
  front = h.front ++ s ∷ [];
  whole = h.whole ∙ sym (append_assoc h.front (s ∷ []) rest);
  counts = ap (λ (n : ℕ). counted (n + 1)) h.counts ∙ counted_more first (length h.front) (length (h.front ++ s ∷ [])) (length-append h.front (s ∷ []));
  place =
      ap (λ (z : Site). moved_to (z.number + size_of s) z) h.place
      ∙ ap (λ (n : ℕ). moved_to n inner) (let t = total-append h.front (s ∷ []) in let o = sum_by-cons size_of s [] in omega (arith, t, o));
}

zero_more : (site : Site) → site ≡ moved_to (site.number + 0) site
zero_more site = ap (λ (n : ℕ). moved_to n site) (plus_none site.number)
  where
    plus_none : (n : ℕ) → n ≡ n + 0
    plus_none n = omega arith

counted_first : (n : ℕ) → counted n ≡ counted (n + 0)
counted_first n = ap counted (omega arith)

pub whole_placed : (list : List Stmt) (first : ℕ) (inner : Site) → IsPlaced list first inner list (counted first) inner
whole_placed list first inner = record { front = []; whole = refl; counts = counted_first first; place = zero_more inner }

-- a part of a list
pub part_placed : (list front rest : List Stmt) (inner : Site) → list ≡ front ++ rest → IsPlaced list 0 inner rest (counted (length front)) (moved_to (inner.number + total_of front) inner)
part_placed list front rest inner e = record { front = front; whole = e; counts = ap counted (no_more (length front)); place = refl }
  where
    no_more : (n : ℕ) → n ≡ 0 + n
    no_more n = omega arith

zero_counted : 0 ≡ counted 0
zero_counted = omega arith

pub first_placed : (list : List Stmt) (inner : Site) → IsPlaced list 0 inner list 0 inner
first_placed list inner = subst (λ (n : ℕ). IsPlaced list 0 inner list n inner) (sym zero_counted) (whole_placed list 0 inner)

no_first : (s : Stmt) (rest : List Stmt) → s ∷ rest ≡ [] → ⊥
no_first s rest e = cc

module _ (target : Target) (f : Func) (base : Site) (body : List Stmt) where
  abbrev pub At : Control → ℕ → Type 0
  At at n = IsPoint base body at n

  abbrev pub Stands : List Level → List Stmt → ℕ → Site → Type 0
  Stands around rest position site = StandsAt base body around rest position site

  -- what is left of each list is normal
  abbrev pub AreNormal : List Level → Type 0
  AreNormal [] = Unit {0}
  AreNormal (at ∷ around) = (all_normal target f at.rest ≡ true) × AreNormal around

  pub at_number : (at : Control) (m n : ℕ) → m ≡ n → At at m → At at n
  at_number at m n e h = (h.0, h.1, h.2 ∙ e, h.3)

  -- where nothing is left, it is at the end of the body
  pub end_at : (here : Level) (around : List Level) (n : ℕ) → At (here, around) n → here.rest ≡ [] → n ≡ base.behind
  end_at here around n h e = by around h.1 (h.3 e) ∙ refl
    where
      by : (levels : List Level) → Stands levels here.rest here.position h.0 → levels ≡ [] → n ≡ base.behind
      by [] stands k = sym h.2 ∙ ap (λ (l : List Stmt). number_at l h.0) e ∙ ap (λ (z : Site). z.behind) stands.place
      by (at ∷ levels) stands k = absurd (cc)

  pub next_stands : (around : List Level) (s : Stmt) (rest : List Stmt) (position : ℕ) (site : Site) → Stands around (s ∷ rest) position site →
      Stands around rest (counted (position + 1)) (moved_to (site.number + size_of s) site)
  next_stands [] s rest position site h = next_placed body 0 base s rest position site h
  next_stands (at ∷ around) s rest position site h = record {
    statement = h.statement;
    after = h.after;
    outer = h.outer;
    list = h.list;
    first = h.first;
    inner = h.inner;
    here = h.here;
    around = h.around;
    inside = h.inside;
    left = next_placed h.list h.first h.inner s rest position site h.left;
  }

  -- ---- going on

  tail_normal : (list : List Stmt) → all_normal target f list ≡ true → all_normal target f (behind_first list) ≡ true
  tail_normal [] h = refl
  tail_normal (s ∷ rest) h = (normal_head target f s rest h).1

  -- the level around a list
  module _ (at : Level) (around : List Level) (rest : List Stmt) (position : ℕ) (site : Site) (h : Stands (at ∷ around) rest position site) where
    abbrev own : Site
    own = own_site h.statement h.after h.outer

    -- its point, and that behind its first statement
    pub around_at : At (at, around) h.outer.number
    around_at =
        (h.outer, subst (λ (l : List Stmt). Stands around l at.position h.outer) (sym h.here) h.around, ap (λ (l : List Stmt). number_at l h.outer) h.here ∙ first_number h.statement h.after h.outer, λ e. absurd (no_first h.statement h.after (sym h.here ∙ e)))

    pub after_stands : Stands around (behind_first at.rest) (counted (at.position + 1)) (moved_to (h.outer.number + size_of h.statement) h.outer)
    after_stands =
        subst (λ (l : List Stmt). Stands around (behind_first l) (counted (at.position + 1)) (moved_to (h.outer.number + size_of h.statement) h.outer)) (sym h.here)
        (next_stands around h.statement h.after at.position h.outer h.around)

    pub after_number : number_at (behind_first at.rest) (moved_to (h.outer.number + size_of h.statement) h.outer) ≡ own.behind
    after_number = ap (λ (l : List Stmt). number_at (behind_first l) (moved_to (h.outer.number + size_of h.statement) h.outer)) h.here

    pub is_first : (property : is.Stmt-F Stmt Case → Bool) → property (out-Stmt h.statement) ≡ first_is property at.rest
    is_first property = sym (ap (first_is property) h.here)

    pub site_behind : site.behind ≡ h.inner.behind
    site_behind = ap (λ (s : Site). s.behind) h.left.place

    pub site_breaks : site.breaks ≡ h.inner.breaks
    site_breaks = ap (λ (s : Site). s.breaks) h.left.place

    pub site_continues : site.continues ≡ h.inner.continues
    site_continues = ap (λ (s : Site). s.continues) h.left.place

  close_by : (at : Level) (around : List Level) (position : ℕ) (site : Site) (h : Stands (at ∷ around) [] position site) →
      ((next : Site) → Stands around (behind_first at.rest) (counted (at.position + 1)) next → At (close (behind_first at.rest) (counted (at.position + 1)) around) (number_at (behind_first at.rest) next)) →
      (b : Bool) → first_is is_loop at.rest ≡ b → At (if b then (at, around) else close (behind_first at.rest) (counted (at.position + 1)) around) site.behind
  close_by at around position site h next true e =
      at_number (at, around) h.outer.number site.behind
      (sym (site_behind at around [] position site h ∙ behind_loop (out-Stmt h.statement) (own at around [] position site h) h.list h.first h.inner h.inside (is_first at around [] position site h is_loop ∙ e)))
      (around_at at around [] position site h)
  close_by at around position site h next false e =
      let behind_is : site.behind ≡ (own at around [] position site h).behind =
      site_behind at around [] position site h ∙ behind_other (out-Stmt h.statement) (own at around [] position site h) h.list h.first h.inner h.inside (is_first at around [] position site h is_loop ∙ e) in
      at_number (close (behind_first at.rest) (counted (at.position + 1)) around) (number_at (behind_first at.rest) (moved_to (h.outer.number + size_of h.statement) h.outer)) site.behind
      (after_number at around [] position site h ∙ sym behind_is)
      (next (moved_to (h.outer.number + size_of h.statement) h.outer) (after_stands at around [] position site h))

  pub close_at : (list : List Stmt) (position : ℕ) (around : List Level) (site : Site) → Stands around list position site → all_normal target f list ≡ true → AreNormal around → At (close list position around) (number_at list site)
  close_at (s ∷ rest) position around site h k l =
      subst (λ (c : Control). At c (number_at (s ∷ rest) site)) (sym (begun_stands s position rest around (opening_none target f (out-Stmt s) (normal_level target f s (normal_head target f s rest k).0))))
      (site, h, refl, λ e. absurd (no_first s rest e))
  close_at [] position [] site h k l = (site, h, refl, λ e. refl)
  close_at [] position (at ∷ around) site h k l =
      close_by at around position site h (λ next n. close_at (behind_first at.rest) (counted (at.position + 1)) around next n (tail_normal at.rest l.0) l.1) (first_is is_loop at.rest) refl

  -- behind the first statement of a level
  pub behind_at : (at : Level) (around : List Level) (s : Stmt) (rest : List Stmt) (site : Site) → at.rest ≡ s ∷ rest → Stands around (s ∷ rest) at.position site → AreNormal (at ∷ around) → At (behind at around) (own_site s rest site).behind
  behind_at at around s rest site e h k =
      at_number (behind at around) (number_at (behind_first at.rest) (moved_to (site.number + size_of s) site)) (own_site s rest site).behind
      (ap (λ (l : List Stmt). number_at (behind_first l) (moved_to (site.number + size_of s) site)) e)
      (close_at (behind_first at.rest) (counted (at.position + 1)) around (moved_to (site.number + size_of s) site)
      (subst (λ (l : List Stmt). Stands around (behind_first l) (counted (at.position + 1)) (moved_to (site.number + size_of s) site)) (sym e) (next_stands around s rest at.position site h))
      (tail_normal at.rest k.0) k.1)

  -- ---- `break` and `continue`

  broken_by : (at : Level) (around : List Level) (rest : List Stmt) (position : ℕ) (site : Site) (h : Stands (at ∷ around) rest position site) → AreNormal (at ∷ around) → (b : Bool) → first_is is_left_by_break at.rest ≡ b → b || may_break around ≡ true →
      (may_break around ≡ true → At (broken around) h.outer.breaks) → At (if b then behind at around else broken around) site.breaks
  broken_by at around rest position site h k true e m next =
      at_number (behind at around) (own at around rest position site h).behind site.breaks
      (sym (site_breaks at around rest position site h ∙ breaks_here (out-Stmt h.statement) (own at around rest position site h) h.list h.first h.inner h.inside (is_first at around rest position site h is_left_by_break ∙ e)))
      (behind_at at around h.statement h.after h.outer h.here h.around k)
  broken_by at around rest position site h k false e m next =
      at_number (broken around) h.outer.breaks site.breaks
      (sym (site_breaks at around rest position site h ∙ breaks_out (out-Stmt h.statement) (own at around rest position site h) h.list h.first h.inner h.inside (is_first at around rest position site h is_left_by_break ∙ e)))
      (next m)

  pub broken_at : (around : List Level) (rest : List Stmt) (position : ℕ) (site : Site) → Stands around rest position site → AreNormal around → may_break around ≡ true → At (broken around) site.breaks
  broken_at [] rest position site h k m = absurd (cc)
  broken_at (at ∷ around) rest position site h k m =
      broken_by at around rest position site h k (first_is is_left_by_break at.rest) refl m (λ n. broken_at around (h.statement ∷ h.after) at.position h.outer h.around k.1 n)

  continued_by : (at : Level) (around : List Level) (rest : List Stmt) (position : ℕ) (site : Site) (h : Stands (at ∷ around) rest position site) → (b : Bool) → first_is is_loop at.rest ≡ b → b || may_continue around ≡ true →
      (may_continue around ≡ true → At (continued around) h.outer.continues) → At (if b then (at, around) else continued around) site.continues
  continued_by at around rest position site h true e m next =
      at_number (at, around) h.outer.number site.continues
      (sym (site_continues at around rest position site h ∙ continues_here (out-Stmt h.statement) (own at around rest position site h) h.list h.first h.inner h.inside (is_first at around rest position site h is_loop ∙ e)))
      (around_at at around rest position site h)
  continued_by at around rest position site h false e m next =
      at_number (continued around) h.outer.continues site.continues
      (sym (site_continues at around rest position site h ∙ continues_out (out-Stmt h.statement) (own at around rest position site h) h.list h.first h.inner h.inside (is_first at around rest position site h is_loop ∙ e)))
      (next m)

  pub continued_at : (around : List Level) (rest : List Stmt) (position : ℕ) (site : Site) → Stands around rest position site → may_continue around ≡ true → At (continued around) site.continues
  continued_at [] rest position site h m = absurd (cc)
  continued_at (at ∷ around) rest position site h m =
      continued_by at around rest position site h (first_is is_loop at.rest) refl m (λ n. continued_at around (h.statement ∷ h.after) at.position h.outer h.around n)

  -- ---- each place in a normal body stands somewhere

  pub exit_of : (around : List Level) (rest : List Stmt) (position : ℕ) (site : Site) → Stands around rest position site → (site.exit ≡ base.exit) × (site.func ≡ base.func)
  exit_of [] rest position site h = (ap (λ (s : Site). s.exit) h.place, ap (λ (s : Site). s.func) h.place)
  exit_of (at ∷ around) rest position site h =
      let i = exits (out-Stmt h.statement) (own at around rest position site h) h.list h.first h.inner h.inside in
      let o = exit_of around (h.statement ∷ h.after) at.position h.outer h.around in
      (ap (λ (s : Site). s.exit) h.left.place ∙ i.0 ∙ o.0, ap (λ (s : Site). s.func) h.left.place ∙ i.1 ∙ o.1)

  abbrev Sited : List Level → List Stmt → ℕ → Type 0
  Sited around rest position = (site : Site) × Stands around rest position site × (all_normal target f rest ≡ true)

  -- the site of a list in a normal statement
  abbrev SiteIn : is.Stmt-F Stmt Case → Site → List Stmt → ℕ → Type 0
  SiteIn x own list first = (inner : Site) × IsSiteIn x own list first inner

  site_in : (x : is.Stmt-F Stmt Case) (own : Site) (list : List Stmt) (first : ℕ) → NormalAt target f x → IsListIn x list first → SiteIn x own list first
  site_in (is.Do e) own list first n k = absurd k
  site_in (is.If e these those) own list first n (inl k) = (moved_to (own.number + 1) own, inl (k.0, k.1, refl))
  site_in (is.If e these those) own list first n (inr k) = (moved_to (own.number + 1 + total_of these) own, inr (k.0, k.1, refl))
  site_in (is.While e list') own list first n k = (loop_site own, (k.0, k.1, refl))
  site_in (is.DoWhile list' e) own list first n k = absurd (cc)
  site_in (is.For start test again list') own list first n k = absurd (cc)
  site_in (is.Switch e cases) own list first n k = (switch_site own, (k.0, k.1, refl))
  site_in is.Break own list first n k = absurd k
  site_in is.Continue own list first n k = absurd k
  site_in (is.Return e) own list first n k = absurd k
  site_in is.Empty own list first n k = absurd k
  site_in (is.Block list') own list first n k = absurd (cc)

  sited_in : (at : Level) (around : List Level) (rest : List Stmt) (position : ℕ) (here : List Stmt) → at.rest ≡ here → Sited around here at.position → (list : List Stmt) (first : ℕ) → IsListInFirst here list first → IsLeft list first rest position →
      Sited (at ∷ around) rest position
  sited_in at around rest position [] e o list first k l = absurd k
  sited_in at around rest position (s ∷ after) e o list first k l =
      let own = own_site s after o.0 in
      let n = normal_level target f s (normal_head target f s after o.2).0 in
      let i = site_in (out-Stmt s) own list first n k in (
        moved_to (i.0.number + total_of l.front) i.0,
        record {
          statement = s;
          after = after;
          outer = o.0;
          list = list;
          first = first;
          inner = i.0;
          here = e;
          around = o.1;
          inside = i.1;
          left = record { front = l.front; whole = l.whole; counts = l.counts; place = refl };
        },
        (normal_parts target f l.front rest (ap (all_normal target f) (sym l.whole) ∙ normal_lists target f (out-Stmt s) list first n k)).1,
      )

  module _ (whole : all_normal target f body ≡ true) where
    pub sited : (around : List Level) (rest : List Stmt) (position : ℕ) → StandsIn body around rest position → AreInside body around → Sited around rest position
    sited [] rest position h k = (
      moved_to (base.number + total_of h.front) base,
      record { front = h.front; whole = h.whole; counts = h.counts; place = refl },
      (normal_parts target f h.front rest (ap (all_normal target f) (sym h.whole) ∙ whole)).1,
    )
    sited (at ∷ around) rest position h k = sited_in at around rest position at.rest refl (sited around at.rest at.position k.0 k.1) h.0 h.1 h.2 h.3

    pub normal_inside : (levels : List Level) → AreInside body levels → AreNormal levels
    normal_inside [] k = tt
    normal_inside (at ∷ around) k = ((sited around at.rest at.position k.0 k.1).2, normal_inside around k.1)

    -- a function begins at its entry
    pub body_at : At (close body 0 []) (number_at body base)
    body_at = close_at body 0 [] base (first_placed body base) whole tt
