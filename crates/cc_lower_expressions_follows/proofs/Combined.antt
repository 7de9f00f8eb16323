-- Code behind code.
use Rattle.std.proofs.Common.{◌≡◌, ◌≤◌, ℕ, ◌+◌, List, [], ◌∷◌, ◌++◌, map, refl, subst, ap, sym, ◌∙◌, arith}
use Rattle.std.proofs.lemmas.List.{map-append}
use Rattle.cc_states.specs.CcEval.Progress.{Get, known, bind}
use Rattle.cc_lower_expressions_follows.specs.Trees.{Regs, Setting, Sim, Done}
use Rattle.cc_states.specs.CcSyntax.Effects.{Registers, also}
use Rattle.cc_lower_expressions_follows.specs.Relation.{all, Agree, Post}
use Rattle.cc_program.specs.declared.stmt.Stmt.{Stmt}
use Rattle.cc_lower_expressions_follows.specs.Relation.{stmt_tree}
use Rattle.cc_lower_expressions_follows.specs.Claims.{After}
use Rattle.cc_lower_expressions_follows.proofs.TreeLaws.{bind-assoc, bind-known, sim_bind}
use Rattle.cc_lower_expressions_follows.proofs.Frames.{kept_then, holds_then, holds_in}

pub all-append : (xs ys : List (Get (Unit {0}))) → all (xs ++ ys) ≡ bind (all xs) (λ u. all ys)
all-append [] ys = refl
all-append (x ∷ xs) ys = ap (λ h. bind x (λ u. h)) (all-append xs ys) ∙ sym (bind-assoc x (λ u. all xs) (λ u. all ys))

module _ (w : Setting) where
  abbrev tree : Stmt → Get (Unit {0})
  tree = stmt_tree w

  abbrev pub code : List Stmt → Get (Unit {0})
  code xs = all (map tree xs)

  pub code-append : (xs ys : List Stmt) → code (xs ++ ys) ≡ bind (code xs) (λ u. code ys)
  code-append xs ys = ap all (map-append tree xs ys) ∙ all-append (map tree xs) (map tree ys)

  module _ {A C : Type 0} (P : A → Unit {0} → Regs → Regs → Type 0) (Q : C → Unit {0} → Regs → Regs → Type 0) (f : A → Get C) (xs ys : List Stmt) where
    -- code behind code
    pub sim_then : (g : Get A) (r s : Regs) → Sim w P g r (code xs) s → ((a : A) (r' s' : Regs) → P a tt r' s' → Sim w Q (f a) r' (code ys) s') → Sim w Q (bind g f) r (code (xs ++ ys)) s
    sim_then g r s d next =
        subst (λ h. Sim w Q (bind g f) r h s) (sym (code-append xs ys)) (sim_bind w P Q f (λ u. code ys) (λ a u r' s' x. next a r' s' x) d)

  -- no code
  pub sim_done : {A : Type 0} (Q : A → Unit {0} → Regs → Regs → Type 0) (a : A) (r s : Regs) → Q a tt r s → Sim w Q (known a) r (code []) s
  sim_done Q a r s h = Done a tt refl refl h

  -- ---- two operands

  module _ {A B C : Type 0} (ga : Get A) (gb : Get B) (f : A → B → C) (aa ab later : Registers) (k n m : ℕ) (GA : A → Regs → Type 0) (GB : B → Regs → Type 0) (GC : C → Regs → Type 0)
      (above : w.base ≤ k) (joins : (a : A) (b : B) (t : Regs) → GA a t → GB b t → GC (f a b) t) (xs ys : List Stmt) where
    abbrev two_answers : Get C
    two_answers = bind ga (λ a. bind gb (λ b. known (f a b)))

    both_post : (s : Regs) (a : A) (r1 s1 : Regs) (b : B) (r2 s2 : Regs) → Post w aa (also ab later) k n (GA a) s r1 s1 → Post w ab later (k + n) m (GB b) s1 r2 s2 → Post w (also aa ab) later k (n + m) (GC (f a b)) s r2 s2
    both_post s a r1 s1 b r2 s2 x y = record {
      agree = y.agree;
      kept = kept_then w aa ab k (k + n) s s1 s2 (omega arith) x.kept y.kept;
      value = λ t h.
          joins a b t
          (holds_in w later k (k + n) k (k + (n + m)) (GA a) s2 (omega arith) (omega arith) (holds_then w ab later k (k + n) (k + n) (GA a) s1 s2 above (omega arith) y.kept x.value) t h)
          (holds_in w later (k + n) (k + n + m) k (k + (n + m)) (GB b) s2 (omega arith) (omega arith) y.value t h);
    }

    pub sim_two : (r s : Regs) → Sim w (After w aa (also ab later) k n GA s) ga r (code xs) s →
        ((r' s' : Regs) → Agree w r' s' → Sim w (After w ab later (k + n) m GB s') gb r' (code ys) s') →
        Sim w (After w (also aa ab) later k (n + m) GC s) two_answers r (code (xs ++ ys)) s
    sim_two r s da db =
        sim_then (After w aa (also ab later) k n GA s) (After w (also aa ab) later k (n + m) GC s) (λ a. bind gb (λ b. known (f a b))) xs ys ga r s da
        (λ a r1 s1 x.
        subst (λ h. Sim w (After w (also aa ab) later k (n + m) GC s) (bind gb (λ b. known (f a b))) r1 h s1) (bind-known (code ys))
        (sim_bind w (After w ab later (k + n) m GB s1) (After w (also aa ab) later k (n + m) GC s) (λ b. known (f a b)) known
        (λ b u r2 s2 y. Done (f a b) tt refl refl (both_post s a r1 s1 b r2 s2 x y)) (db r1 s1 x.agree)))

  -- ---- one operand

  module _ {A B : Type 0} (g : Get A) (f : A → B) (aa later : Registers) (k n : ℕ) (GA : A → Regs → Type 0) (GB : B → Regs → Type 0) (maps : (a : A) (t : Regs) → GA a t → GB (f a) t) (xs : List Stmt) where
    pub sim_one : (r s : Regs) → Sim w (After w aa later k n GA s) g r (code xs) s → Sim w (After w aa later k n GB s) (bind g (λ a. known (f a))) r (code xs) s
    sim_one r s d =
        subst (λ h. Sim w (After w aa later k n GB s) (bind g (λ a. known (f a))) r h s) (bind-known (code xs))
        (sim_bind w (After w aa later k n GA s) (After w aa later k n GB s) (λ a. known (f a)) known
        (λ a u r1 s1 x. Done (f a) tt refl refl (record { agree = x.agree; kept = x.kept; value = λ t h. maps a t (x.value t h) })) d)
