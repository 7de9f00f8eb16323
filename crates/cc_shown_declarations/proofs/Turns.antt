-- Items that show external declarations, in two parts, one behind the other.
use Rattle.std.proofs.Common.{◌≡◌, List, [], ◌∷◌, ◌++◌, Ok, refl, ap, subst}
use Rattle.cc_program.specs.CcNum.declared.target.Target.{Target}
use Rattle.cc_program.specs.declared.program.Program.{Program}
use Rattle.cc_program.specs.declared.program.Roles.{Roles}
use Rattle.cc_type.specs.CcScopes.State.{State, Name}
use Rattle.cc_type.specs.CcScopes.Verdicts.{checked}
use Rattle.cc_tree.specs.declared.at.At.{At}
use Rattle.cc_tree.specs.declared.unit.Item.{Item}
use Rattle.cc_type.specs.Units.{item_next, items_found}
use Rattle.cc_unit_trees.specs.Externals.{External}
use Rattle.cc_unit_trees.specs.Programs.{ShowsExternal, ShowsExternals, NoExternal, MoreExternals}
use Rattle.cc_shown_expressions.proofs.Words.{in-turn-append}

module _ (p : Program) where
  pub record ShownApart (es fs : List External) (xs : List (At Item)) : Type 0 where
    pub front : List (At Item)
    pub behind : List (At Item)
    pub is : xs ≡ front ++ behind
    pub first : ShowsExternals p es front
    pub second : ShowsExternals p fs behind

  apart-by : (es fs gs : List External) (xs : List (At Item)) → ShowsExternals p gs xs → gs ≡ es ++ fs → ShownApart es fs xs
  apart-by [] fs gs xs h e = record { front = []; behind = xs; is = refl; first = NoExternal; second = subst (λ (gs : List External). ShowsExternals p gs xs) e h }
  apart-by (e ∷ es) fs _ _ NoExternal k = absurd (cc)
  apart-by (e ∷ es) fs _ _ (MoreExternals f gs x xs h r) k =
      let same : f ≡ e = cc in
      let rest : gs ≡ es ++ fs = cc in
      let q = apart-by es fs gs xs r rest in
      record {
        front = x ∷ q.front;
        behind = q.behind;
        is = ap (λ (ys : List (At Item)). x ∷ ys) q.is;
        first = MoreExternals e es x q.front (subst (λ (g : External). ShowsExternal p g x.node) same h) q.first;
        second = q.second;
      }

  pub shown-apart : (es fs : List External) (xs : List (At Item)) → ShowsExternals p (es ++ fs) xs → ShownApart es fs xs
  shown-apart es fs xs h = apart-by es fs (es ++ fs) xs h refl

pub found-behind : (target : Target) (roles : Roles) (defined : List Name) (ys zs : List (At Item)) (s u : State) → items_found target roles defined ys s ≡ Ok (checked, u) →
    items_found target roles defined (ys ++ zs) s ≡ items_found target roles defined zs u
found-behind target roles defined ys zs s u h = in-turn-append (item_next target roles defined) ys zs checked checked s u h
