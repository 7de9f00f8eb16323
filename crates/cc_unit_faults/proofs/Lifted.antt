-- What stands in declarations has the law in a unit too.
use Rattle.std.proofs.Common.{◌≡◌, ◌∙◌, ℕ, List, [], ◌∷◌, ◌++◌, map, Result, Ok, Err, refl, ap}
use Rattle.cc_first_faults.proofs.Declarations.{law as inner-law}
use Rattle.cc_first_faults.proofs.Lawful.{goes_on, Lawful, first-of}
use Rattle.cc_first_faults.specs.Behind.{behind as behind_inner}
use Rattle.cc_first_faults.specs.Constructs.{Construct as Inner, place as inner_place}
use Rattle.cc_first_faults.specs.FirstFaults.{forget, BreakNone, IsCarried, Itself, InPart}
use Rattle.cc_first_faults.specs.Parts.{parts as inner_parts}
use Rattle.cc_program.specs.CcNum.declared.target.Target.{Target}
use Rattle.cc_program.specs.declared.program.Roles.{Roles}
use Rattle.cc_type.specs.CcScopes.State.{State, Name}
use Rattle.cc_type.specs.CcScopes.Verdicts.{Found}
use Rattle.cc_type.specs.CcScopes.declared.verdict.Fault.{Fault}
use Rattle.cc_unit_faults.specs.Behind.{behind}
use Rattle.cc_unit_faults.specs.Constructs.{Construct, Within, place}
use Rattle.cc_unit_faults.specs.Parts.{parts, within_unit}
use Rattle.cc_unit_faults.proofs.Laws.{First, Told, single}

map-joined : {A B : Type 0} (f : A → B) (xs ys : List A) → map f (xs ++ ys) ≡ map f xs ++ map f ys
map-joined f [] ys = refl
map-joined f (x ∷ xs) ys = ap (λ zs. f x ∷ zs) (map-joined f xs ys)

goes-also : (r : Result State Fault) (P Q : Type 0) (all : Result State Fault) → goes_on r P all → (P → Q) → goes_on r Q all
goes-also (Ok t) P Q all l h = h l
goes-also (Err fault) P Q all l h = l

module _ (target : Target) (roles : Roles) (defined : List Name) where
  none-lifted : (ps : List (Inner × State)) → BreakNone Inner inner_place (behind_inner target roles defined) (inner_parts target roles defined) ps →
      BreakNone Construct place (behind target roles defined) (parts target roles defined) (map within_unit ps)
  none-lifted [] b = tt
  none-lifted (p ∷ ps) b = (b.0, none-lifted ps b.1)

  carried-lifted : (fault : Fault) (c : Inner) (s : State) → IsCarried Inner inner_place (behind_inner target roles defined) (inner_parts target roles defined) fault c s →
      IsCarried Construct place (behind target roles defined) (parts target roles defined) fault (Within c) s
  carried-lifted fault _ _ (Itself c s h b at) = Itself (Within c) s h (none-lifted (inner_parts target roles defined c s) b) at
  carried-lifted fault _ _ (InPart c s p before rest e b inner) =
      InPart (Within c) s (Within p.0, p.1) (map within_unit before) (map within_unit rest) (ap (map within_unit) e ∙ map-joined within_unit before (p ∷ rest)) (none-lifted before b) (carried-lifted fault p.0 p.1 inner)

  pub lifted : (at : ℕ) (ps : List (Inner × State)) (all : Result State Fault) → Lawful Inner inner_place (behind_inner target roles defined) (inner_parts target roles defined) at ps all →
      Lawful Construct place (behind target roles defined) (parts target roles defined) at (map within_unit ps) all
  lifted at [] all l = l
  lifted at (p ∷ ps) all l = (
    (λ fault h. carried-lifted fault p.0 p.1 (l.0 fault h)),
    goes-also (behind_inner target roles defined p.0 p.1) (Lawful Inner inner_place (behind_inner target roles defined) (inner_parts target roles defined) at ps all)
        (Lawful Construct place (behind target roles defined) (parts target roles defined) at (map within_unit ps) all) all l.1 (λ l. lifted at ps all l),
  )

  pub lifted-told : {A : Type 0} (at : ℕ) (ps : List (Inner × State)) (m : Found A) → Lawful Inner inner_place (behind_inner target roles defined) (inner_parts target roles defined) at ps (forget m) →
      Told target roles defined at (map within_unit ps) m
  lifted-told at ps m l = lifted at ps (forget m) l

  pub inner-first : (c : Inner) (s : State) → First target roles defined (Within c) s
  inner-first c s fault h =
      carried-lifted fault c s (first-of Inner inner_place (behind_inner target roles defined) (inner_parts target roles defined) c s (inner-law target roles defined c s) fault h)

  pub inner-told : {A : Type 0} (at : ℕ) (c : Inner) (s : State) (m : Found A) → behind_inner target roles defined c s ≡ forget m → Told target roles defined at ((Within c, s) ∷ []) m
  inner-told at c s m is = single target roles defined at (Within c) s m is (inner-first c s)
