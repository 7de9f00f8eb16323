-- Lists that are printed from the last element to the first: what an element more adds in front.
use Rattle.std.proofs.Common.{arith, ◌≡◌, ℕ, suc, zero, ◌+◌, ◌<◌, ◌≤◌, List, [], ◌∷◌, map, drop, length, get_or, slice_get, Option, Some, None, refl, ap, sym, ◌∙◌}
use Rattle.cc_lex.specs.declared.token.Mark.TheVariants as m
use Rattle.cc_program.specs.declared.expr.Expr.{Expr}
use Rattle.cc_program.specs.declared.func.Func.{Func}
use Rattle.cc_program.specs.declared.program.Program.{Program}
use Rattle.cc_program.specs.declared.types.CType.{CType}
use Rattle.cc_pieces.specs.Pieces.{Pieces, punct, space}
use Rattle.cc_pieces.proofs.ListLemmas.{drop_at, drop_all}
use Rattle.cc_bodies.specs.Exprs.{expr}
use Rattle.cc_bodies.specs.Spots.{Whole}
use Rattle.cc_bodies.specs.Stmts.{StmtText, all_lines, CaseText, case_lines, further_arguments, arguments, first, behind_first}

-- the first of those from an element on
first_from : (ts : List CType) (i : ℕ) → first (drop i ts) ≡ slice_get ts i
first_from [] zero = refl
first_from [] (suc i) = refl
first_from (t ∷ ts) zero = refl
first_from (t ∷ ts) (suc i) = first_from ts i

behind_from : (ts : List CType) (i : ℕ) → behind_first (drop i ts) ≡ drop (suc i) ts
behind_from [] zero = refl
behind_from [] (suc i) = refl
behind_from (t ∷ ts) zero = refl
behind_from (t ∷ ts) (suc i) = behind_from ts i

module _ (p : Program) (f : Func) (ts : List CType) (es : List Expr) where
  -- an argument more
  pub arguments_more : (i k : ℕ) (e : Expr) (t : Option CType) (ps qs rs : Pieces) → k ≡ suc i → i < length es → e ≡ get_or es i e → t ≡ slice_get ts i →
      qs ≡ further_arguments p f (drop k ts) (drop k es) ps → rs ≡ punct m.Comma ∷ space ∷ expr p f e (Whole t) qs → rs ≡ further_arguments p f (drop i ts) (drop i es) ps
  arguments_more i k e t ps qs rs n l is is_type h w =
      let n' : suc i ≡ i + 1 = omega arith in
      w ∙ ap (λ u. punct m.Comma ∷ space ∷ expr p f e (Whole u) qs) (is_type ∙ sym (first_from ts i))
      ∙ ap (λ zs. punct m.Comma ∷ space ∷ expr p f e (Whole (first (drop i ts))) zs)
      (h ∙ ap (λ j. further_arguments p f (drop j ts) (drop j es) ps) n ∙ ap (λ us. further_arguments p f us (drop (suc i) es) ps) (sym (behind_from ts i))
      ∙ ap (λ j. further_arguments p f (behind_first (drop i ts)) (drop j es) ps) n')
      ∙ ap (λ xs. further_arguments p f (drop i ts) xs ps) (sym (drop_at es i e l is))

  pub arguments_none : (ps : Pieces) → ps ≡ further_arguments p f (drop (length es) ts) (drop (length es) es) ps
  arguments_none ps = ap (λ xs. further_arguments p f (drop (length es) ts) xs ps) (sym (drop_all es))

  -- the first one
  pub arguments_of : (k : ℕ) (e : Expr) (t : Option CType) (ps qs rs : Pieces) → k ≡ 1 → 0 < length es → e ≡ get_or es 0 e → t ≡ slice_get ts 0 →
      qs ≡ further_arguments p f (drop k ts) (drop k es) ps → rs ≡ expr p f e (Whole t) qs → rs ≡ arguments p f ts es ps
  arguments_of k e t ps qs rs n l is is_type h w =
      w ∙ ap (λ u. expr p f e (Whole u) qs) (is_type ∙ sym (first_from ts 0))
      ∙ ap (λ zs. expr p f e (Whole (first ts)) zs) (h ∙ ap (λ j. further_arguments p f (drop j ts) (drop j es) ps) n ∙ ap (λ us. further_arguments p f us (drop 1 es) ps) (sym (behind_from ts 0)))
      ∙ ap (λ xs. arguments p f ts xs ps) (sym (drop_at es 0 e l is))
