-- From each statement of a normal body control goes to a next point.
use Rattle.std.proofs.Common.{arith, ◌≡◌, ◌⊎◌, inl, inr, ◌+◌, ℕ, ℤ, Bool, true, false, List, [], ◌∷◌, length, Contains, Option, Some, None, refl, ap, sym, ◌∙◌, subst}
use Rattle.std.specs.Prelude.{if◌then◌else◌}
use Rattle.std.specs.List.{list_any}
use Rattle.std.specs.Option.{option_or}
use Rattle.cc_program.specs.CcNum.declared.target.Target.{Target}
use Rattle.cc_program.specs.declared.expr.Expr.{Expr}
use Rattle.cc_program.specs.declared.func.Func.{Func}
use Rattle.cc_program.specs.declared.program.Program.{Program}
use Rattle.cc_program.specs.declared.stmt.Case.{Case}
use Rattle.cc_program.specs.declared.stmt.Stmt.{Stmt, out-Stmt}
use Rattle.cc_program.specs.declared.stmt.Stmt.TheOpen as is
use Rattle.cc_program.specs.declared.value.Value.{Value}
use Rattle.cc_states.specs.CcControl.Control.{Level, Control, counted, around_list, behind, arm, bodies, from_label, is_label, is_default}
use Rattle.cc_flow.specs.declared.next.Site.{Site}
use Rattle.cc_flow.specs.Points.{total_of}
use Rattle.cc_states.specs.CcSteps.State.{Active}
use Rattle.cc_states.specs.CcSteps.Step.{in_case, looped, next_place, number_in, goes_to, passes, at_test}
use Rattle.cc_states.specs.CcValues.Values.{is_true}
use Rattle.cc_states.specs.States.{may_break, may_continue}
use Rattle.cc_flow_sound.specs.Sites.{moved_to, own_site, loop_site, switch_site, IsSiteIn, IsPlaced, number_at, arm_point, nexts}
use Rattle.cc_flow_sound.proofs.Opened.{all_normal, NormalAt, normal_level, normal_head, normal_lists, normal_parts}
use Rattle.cc_flow_sound.proofs.Places.{AreNormal, At, Stands, whole_placed, first_placed, part_placed, close_at, behind_at, broken_at, continued_at}
use Rattle.cc_flow_sound.proofs.Starts.{IsLabelled, is_here, first_arm, second_arm, labelled, undefaulted, start_goes, behind_goes}

module _ (target : Target) (f : Func) (base : Site) (body : List Stmt) where
  abbrev Point : Control → ℕ → Type 0
  Point at n = At target f base body at n

  -- the place is that of one of these points
  abbrev pub Among : List ℕ → Control → Type 0
  Among points at = (n : ℕ) × At target f base body at n × Contains points n

  -- an activation at the first statement of what is left of its list
  module _ (a : Active) (s : Stmt) (rest : List Stmt) (site : Site) (here : a.here.rest ≡ s ∷ rest) (stands : Stands target f base body a.around (s ∷ rest) a.here.position site)
      (normal : AreNormal target f base body (a.here ∷ a.around)) where
    abbrev pub own : Site
    own = own_site s rest site

    abbrev within : List Level
    within = around_list a.here ∷ a.around

    first_normal : NormalAt target f (out-Stmt s)
    first_normal = normal_level target f s (normal_head target f s rest (ap (all_normal target f) (sym here) ∙ normal.0)).0

    stands_within : (x : is.Stmt-F Stmt Case) → out-Stmt s ≡ x → (list : List Stmt) (first : ℕ) (inner : Site) (left : List Stmt) (position : ℕ) (there : Site) → IsSiteIn x own list first inner →
        IsPlaced list first inner left position there → Stands target f base body within left position there
    stands_within x e list first inner left position there i l = record {
      statement = s;
      after = rest;
      outer = site;
      list = list;
      first = first;
      inner = inner;
      here = here;
      around = stands;
      inside = subst (λ y. IsSiteIn y own list first inner) (sym e) i;
      left = l;
    }

    pub on_behind : Point (behind a.here a.around) own.behind
    on_behind = behind_at target f base body a.here a.around s rest site here stands normal

    inner_normal : AreNormal target f base body within
    inner_normal = (normal.0, normal.1)

    list_normal : (x : is.Stmt-F Stmt Case) → out-Stmt s ≡ x → NormalAt target f x
    list_normal x e = subst (NormalAt target f) e first_normal

    pub arm_at : (b : Bool) (e : Expr) (these those : List Stmt) → out-Stmt s ≡ is.If e these those → Point (arm b these those within) (arm_point b these those own)
    arm_at true e these those k =
        close_at target f base body these 0 within (moved_to (own.number + 1) own)
        (stands_within (is.If e these those) k these 0 (moved_to (own.number + 1) own) these 0 (moved_to (own.number + 1) own) (inl (refl, refl, refl)) (first_placed these (moved_to (own.number + 1) own)))
        (normal_lists target f (is.If e these those) these 0 (list_normal (is.If e these those) k) (inl (refl, refl))) inner_normal
    arm_at false e these those k =
        let inner = moved_to (own.number + 1 + total_of these) own in
        close_at target f base body those (counted (length these)) within inner
        (stands_within (is.If e these those) k those (length these) inner those (counted (length these)) inner (inr (refl, refl, refl)) (whole_placed those (length these) inner))
        (normal_lists target f (is.If e these those) those (length these) (list_normal (is.If e these those) k) (inr (refl, refl))) inner_normal

    arm_goes : (b : Bool) (e : Expr) (these those : List Stmt) → out-Stmt s ≡ is.If e these those → Among (nexts (is.If e these those) own) (arm b these those within)
    arm_goes true e these those k = (arm_point true these those own, arm_at true e these those k, first_arm own (total_of these) (total_of those))
    arm_goes false e these those k = (arm_point false these those own, arm_at false e these those k, second_arm own (total_of these) (total_of those))

    looped_goes : (b : Bool) (e : Expr) (list : List Stmt) → b ≡ true → out-Stmt s ≡ is.While e list → Among (nexts (is.While e list) own) (looped b list a)
    looped_goes true e list t k = (
      number_at list (loop_site own),
      close_at target f base body list 0 within (loop_site own)
          (stands_within (is.While e list) k list 0 (loop_site own) list 0 (loop_site own) (refl, refl, refl) (first_placed list (loop_site own)))
          (normal_lists target f (is.While e list) list 0 (list_normal (is.While e list) k) (refl, refl)) inner_normal,
      is_here (number_at list (loop_site own)) [],
    )
    looped_goes false e list t k = absurd (cc)

    found_goes : (e : Expr) (cases : List Case) → out-Stmt s ≡ is.Switch e cases → (at : ℕ × List Stmt) → IsLabelled (own.number + 1) own.behind 0 cases at → Among (nexts (is.Switch e cases) own) (in_case a (Some at))
    found_goes e cases k at h =
        let inner = switch_site own in
        let there = moved_to (inner.number + total_of h.front) inner in (
          number_at at.1 there,
          close_at target f base body at.1 (counted at.0) within there
              (stands_within (is.Switch e cases) k (bodies cases) 0 inner at.1 (counted at.0) there (refl, refl, refl)
              (subst (λ (n : ℕ). IsPlaced (bodies cases) 0 inner at.1 (counted n) there) (sym (h.counts ∙ none_before (length h.front))) (part_placed (bodies cases) h.front at.1 inner h.whole)))
              (normal_parts target f h.front at.1 (ap (all_normal target f) (sym h.whole) ∙ normal_lists target f (is.Switch e cases) (bodies cases) 0 (list_normal (is.Switch e cases) k) (refl, refl))).1 inner_normal,
          start_goes own cases (number_at at.1 there) h.starts_there,
        )
      where
        none_before : (n : ℕ) → 0 + n ≡ n
        none_before n = omega arith

    case_goes : (e : Expr) (cases : List Case) (v : ℤ) → out-Stmt s ≡ is.Switch e cases → (x y : Option (ℕ × List Stmt)) → from_label (list_any (is_label v)) 0 cases ≡ x → from_label (list_any is_default) 0 cases ≡ y →
        Among (nexts (is.Switch e cases) own) (in_case a (option_or x y))
    case_goes e cases v k (Some at) y l m = found_goes e cases k at (labelled (list_any (is_label v)) (own.number + 1) own.behind 0 cases at l)
    case_goes e cases v k None (Some at) l m = found_goes e cases k at (labelled (list_any is_default) (own.number + 1) own.behind 0 cases at m)
    case_goes e cases v k None None l m = (own.behind, on_behind, behind_goes own cases (undefaulted 0 cases m))

    -- where a `break` and a `continue` may stand, and a loop's test is not 0
    module _ (v : Value) (breaks : out-Stmt s ≡ is.Break → may_break a.around ≡ true) (continues : out-Stmt s ≡ is.Continue → may_continue a.around ≡ true)
        (taken : (e : Expr) (list : List Stmt) → out-Stmt s ≡ is.While e list → is_true v ≡ true) (stays : (e : Option Expr) → out-Stmt s ≡ is.Return e → ⊥) where
      next_by : (x : is.Stmt-F Stmt Case) → out-Stmt s ≡ x → Among (nexts x own) (next_place x a v)
      next_by (is.Do e) k = (own.behind, on_behind, is_here own.behind [])
      next_by (is.If e these those) k = arm_goes (is_true v) e these those k
      next_by (is.While e list) k = looped_goes (is_true v) e list (taken e list k) k
      next_by (is.DoWhile list e) k = absurd (let n = list_normal (is.DoWhile list e) k in cc)
      next_by (is.For start test again list) k = absurd (let n = list_normal (is.For start test again list) k in cc)
      next_by (is.Switch e cases) k = case_goes e cases (number_in v) k (from_label (list_any (is_label (number_in v))) 0 cases) (from_label (list_any is_default) 0 cases) refl refl
      next_by is.Break k = (site.breaks, broken_at target f base body a.around (s ∷ rest) a.here.position site stands normal.1 (breaks k), is_here site.breaks [])
      next_by is.Continue k = (site.continues, continued_at target f base body a.around (s ∷ rest) a.here.position site stands (continues k), is_here site.continues [])
      next_by (is.Return e) k = absurd (stays e k)
      next_by is.Empty k = (own.behind, on_behind, is_here own.behind [])
      next_by (is.Block list) k = (own.behind, on_behind, is_here own.behind [])

      -- what a statement does once the value of its expression is known
      pub next_at : Among (nexts (out-Stmt s) own) (next_place (out-Stmt s) a v)
      next_at = next_by (out-Stmt s) refl

  -- ---- activations

  module _ (p : Program) where
    begun_by : (at : Control) (n : ℕ) (b : Bool) → Point at n → Point (if b then (at_test at.0, at.1) else at) n
    begun_by at n true h = h
    begun_by at n false h = h

    pub goes_at : (a : Active) (at : Control) (n : ℕ) → Point at n → Point ((goes_to p a at).here, (goes_to p a at).around) n
    goes_at a at n h = begun_by at n (passes p a.number a.func [] at.0) h

    -- it has done one more step of its full expression
    abbrev pub Stays : Active → Site → Active → Type 0
    Stays a site b = Point (b.here, b.around) site.number

    either_at : (points : List ℕ) (n : ℕ) (b : Bool) (these those : Active) → Point (these.here, these.around) n → Contains points n → (m : ℕ) → Point (those.here, those.around) m →
        (let c = if b then these else those in Point (c.here, c.around) m ⊎ Among points (c.here, c.around))
    either_at points n true these those h c m k = inr (n, h, c)
    either_at points n false these those h c m k = inl k
