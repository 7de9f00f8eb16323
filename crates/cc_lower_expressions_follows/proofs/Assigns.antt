-- The value of an assignment: the operands of the place, a temporary that holds the right side, and the write.
use Rattle.std.proofs.Common.{◌≡◌, ◌≤◌, ℕ, suc, ◌+◌, List, [], ◌∷◌, ◌++◌, Option, Some, None, Bool, refl, subst, ap, sym, ◌∙◌, arith}
use Rattle.std.proofs.Math.Path.{fun_ext}
use Rattle.cc_program.specs.declared.value.Value.{Value}
use Rattle.cc_program.specs.declared.value.Cell.{Cell}
use Rattle.cc_states.specs.CcEval.Progress.{Get, known, ask, bind, needs}
use Rattle.cc_states.specs.CcEval.declared.action.Action.TheVariants.{Write}
use Rattle.cc_lower_expressions_follows.specs.Trees.{IsSharedCell, Regs, Setting, Sim, Done, Runs}
use Rattle.cc_states.specs.CcSyntax.Effects.{Registers, also}
use Rattle.cc_lower_expressions_follows.specs.Relation.{Agree, Holds, Post, Wrote}
use Rattle.cc_program.specs.declared.stmt.Stmt.{Stmt}
use Rattle.cc_lower_expressions_follows.specs.Relation.{stmt_tree}
use Rattle.cc_lower_expressions_follows.proofs.TreeLaws.{bind-assoc, bind-known}
use Rattle.cc_lower_expressions_follows.proofs.Frames.{kept_then, holds_then, holds_now}
use Rattle.cc_lower_expressions_follows.proofs.Rules.{put_tree, sim_put}
use Rattle.cc_lower_expressions_follows.proofs.Combined.{code, sim_then}
use Rattle.cc_lower_expressions_follows.specs.Claims.{good, After, Written}
use Rattle.cc_lower_expressions_follows.proofs.Whole.{wrote_temp, wrote_kept}

-- the write of a value that is the answer too
abbrev pub store : Option Cell → Bool → Option Value → Option Value → Get (Option Value)
store c is_event v answer = needs c (λ c. needs v (λ x. ask (Write c is_event x) (λ m. answer)))

-- a bad value traps before it is looked where the place leads
swapped : (c : Option Cell) (is_event : Bool) (v : Option Value) → store c is_event v v ≡ bind (needs v known) (λ x. store c is_event (Some x) (Some x))
swapped None is_event None = refl
swapped None is_event (Some x) = refl
swapped (Some c) is_event None = refl
swapped (Some c) is_event (Some x) = refl

module _ {S : Type 0} (place : Get S) (e : Get (Option Value)) (reach : S → Option Cell) (is_event : Bool) where
  abbrev pub paired : Get (S × Option Value)
  paired = bind place (λ s. bind e (λ v. known (s, v)))

  abbrev stored_at : S × Option Value → Get (Option Value)
  stored_at p = store (reach p.0) is_event p.1 p.1

  abbrev pub assigned : Get (Option Value)
  assigned = bind paired stored_at

  abbrev with_value : S → Get (S × Option Value)
  with_value s = bind e (λ v. known (s, v))

  abbrev with_good : S → Get (Option Value)
  with_good s = bind (good e) (λ x. store (reach s) is_event (Some x) (Some x))

  at_place : (s : S) → bind (with_value s) stored_at ≡ with_good s
  at_place s =
      bind-assoc e (λ v. known (s, v)) stored_at ∙
      ap (bind e) (fun_ext (λ v. swapped (reach s) is_event v)) ∙
      sym (bind-assoc e (λ v. needs v known) (λ x. store (reach s) is_event (Some x) (Some x)))

  pub assigned-form : assigned ≡ bind place with_good
  assigned-form = bind-assoc place with_value stored_at ∙ ap (bind place) (fun_ext at_place)

module _ (w : Setting) where
  abbrev tree : Stmt → Get (Unit {0})
  tree = stmt_tree w

  module _ {S : Type 0} (place : Get S) (e : Get (Option Value)) (reach : S → Option Cell) (is_event : Bool) (pa ea later : Registers) (k m count top : ℕ) (fits : suc m ≤ count)
      (Led : S → Regs → Type 0) (Is : Option Value → Regs → Type 0) (above : w.base ≤ k) (n : ℕ) (is_n : n ≡ k + m) (above_n : suc n ≤ top) where
    abbrev Value-at : Option Value → Regs → Type 0
    Value-at v t = t n ≡ v

    assigned_post : (at_temp : (v : Option Value) (t : Regs) → t n ≡ v → Is v t) (s : Regs) (o : S) (r1 s1 : Regs) (x : Value) (r2 s2 : Regs) →
        Post w pa (also ea later) k m (Led o) s r1 s1 → Wrote w ea top n x s1 r2 s2 → Post w (also pa ea) later k count (Is (Some x)) s r2 s2
    assigned_post at_temp s o r1 s1 x r2 s2 y z = record {
      agree = wrote_temp w ea top n x s1 r2 s2 (omega (arith, is_n)) z;
      kept = kept_then w pa ea k n s s1 s2 (omega (arith, is_n)) y.kept (wrote_kept w ea top n x s1 r2 s2 (omega (arith, is_n)) (omega (arith, above_n)) z);
      value = λ t h. at_temp (Some x) t (sym (h.temps n (omega (arith, is_n)) (omega (arith, is_n, fits))) ∙ z.here);
    }

    -- of a place that is no register
    module _ (xs ys : List Stmt) (one : Stmt) (puts_e : Get (Option Cell × Option Value)) (puts : tree one ≡ put_tree puts_e is_event)
        (leads : (o : S) (x : Value) (t : Regs) → Led o t → t n ≡ Some x → Runs w (reach o, Some x) t puts_e t) (shares : (o : S) (t : Regs) → Led o t → (c : Cell) → reach o ≡ Some c → IsSharedCell w c)
        (at_temp : (v : Option Value) (t : Regs) → t n ≡ v → Is v t) where
      abbrev Result : Regs → Option Value → Unit {0} → Regs → Regs → Type 0
      Result s = After w (also pa ea) later k count Is s

      -- the place leads there still
      still : (s : Regs) (o : S) (r1 s1 : Regs) (x : Value) (r2 s2 : Regs) → Post w pa (also ea later) k m (Led o) s r1 s1 → Wrote w ea top n x s1 r2 s2 → Led o s2
      still s o r1 s1 x r2 s2 y z =
          holds_now w (λ i. later i) k n (Led o) s2 (holds_then w ea later k n n (Led o) s1 s2 above (omega arith) (wrote_kept w ea top n x s1 r2 s2 (omega (arith, is_n)) (omega (arith, above_n)) z) (subst (λ to. Holds w (also ea later) k to (Led o) s1) (sym is_n) y.value))

      last_put : (s : Regs) (o : S) (r1 s1 : Regs) (x : Value) (r2 s2 : Regs) → Post w pa (also ea later) k m (Led o) s r1 s1 → Wrote w ea top n x s1 r2 s2 →
          Sim w (Result s) (store (reach o) is_event (Some x) (Some x)) r2 (code w (one ∷ [])) s2
      last_put s o r1 s1 x r2 s2 y z =
          subst (λ h. Sim w (Result s) (store (reach o) is_event (Some x) (Some x)) r2 (bind h (λ u. known tt)) s2) (sym puts)
          (subst (λ g. Sim w (Result s) g r2 (bind (put_tree puts_e is_event) (λ u. known tt)) s2) (bind-known (store (reach o) is_event (Some x) (Some x)))
          (sim_put w (Result s) (known tt) is_event known (Some x) r2 s2 puts_e (reach o) (Some x)
          (leads o x s2 (still s o r1 s1 x r2 s2 y z) z.here)
          (shares o s2 (still s o r1 s1 x r2 s2 y z))
          (λ x' f. Done (Some x) tt refl refl (assigned_post at_temp s o r1 s1 x r2 s2 y z))))

      pub sim_assigned : (r s : Regs) → Sim w (After w pa (also ea later) k m Led s) place r (code w xs) s →
          ((r' s' : Regs) → Agree w r' s' → Sim w (Written w ea top n s') (good e) r' (code w ys) s') →
          Sim w (Result s) (assigned place e reach is_event) r (code w (xs ++ (ys ++ one ∷ []))) s
      sim_assigned r s da db =
          subst (λ g. Sim w (Result s) g r (code w (xs ++ (ys ++ one ∷ []))) s) (sym (assigned-form place e reach is_event))
          (sim_then w (After w pa (also ea later) k m Led s) (Result s) (λ o. bind (good e) (λ x. store (reach o) is_event (Some x) (Some x))) xs (ys ++ one ∷ []) place r s da
          (λ o r1 s1 y.
          sim_then w (Written w ea top n s1) (Result s) (λ x. store (reach o) is_event (Some x) (Some x)) ys (one ∷ []) (good e) r1 s1 (db r1 s1 y.agree)
          (λ x r2 s2 z. last_put s o r1 s1 x r2 s2 y z)))
