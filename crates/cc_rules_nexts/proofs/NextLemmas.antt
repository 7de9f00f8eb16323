-- What is asked of next points, one by one.
use Rattle.std.proofs.Common.{◌≡◌, ◌<◌, ◌+◌, ℕ, List, [], ◌∷◌, ◌++◌, length, take, get_or, append-nil, append_assoc, Option, Some, None, refl, ap, sym, subst, ◌∙◌}
use Rattle.std.proofs.lemmas.List.{take_more}
use Rattle.cc_rules_asked.specs.CcRules.Rules.{ComesToEach}
use Rattle.cc_rules_asked.specs.declared.asked.Asked.{Asked}
use Rattle.cc_rules_asked.specs.declared.asked.Asked.TheVariants as asked
use Rattle.cc_rules_asked.specs.Asked.{all_needs}
use Rattle.cc_rules_asked.proofs.Listed.{parts_behind}
use Rattle.cc_rules_asked.specs.CcRulesFlows.declared.after.Here.{Here}
use Rattle.cc_rules_asked.specs.CcRulesFlows.Joins.{flows_to, IsTogether}
use Rattle.cc_rules_asked.specs.CcRulesNeeds.Flowing.{Flowing, needs_at, of_fact}
use Rattle.cc_rules_asked.specs.CcRulesNeeds.Needs.{Needs}
use Rattle.cc_rules_nexts.specs.Told.{ComesToHere, AskMore, ComeToEachHere}
use Rattle.cc_rules_asked.specs.CcStateFacts.declared.facts.PointFact.{PointFact}
use Rattle.cc_rules_asked.specs.CcStateKeys.Tracked.{registers, tracked}
use Rattle.cc_rules_asked.specs.CcStateOperators.Domains.{Domain}

module _ {I : Type 0} (d : Domain I) (here : Here I) where
  abbrev told_at : ℕ → ℕ → PointFact I → Needs I
  told_at n k fact = needs_at k n (length (tracked here.context.program.now)) (of_fact fact)

  some_comes : (k n : ℕ) (flows : List (Flowing I)) (fact : PointFact I) → n ≡ length (registers here.context.func.now) → IsTogether d.below flows (Some fact) → ComesToHere d here k flows (told_at n k fact)
  some_comes k n [] fact e t = absurd (cc)
  some_comes k n (a ∷ flows) fact e t =
      let known : ◌≡◌ {A = Option (PointFact I)} (Some fact) (Some t.0) = t.1 in
      let same : fact ≡ t.0 = cc in
      (of_fact t.0, t.2, ap (λ m. told_at m k fact) e ∙ ap (told_at (length (registers here.context.func.now)) k) same)

  none_comes : (k : ℕ) (flows : List (Flowing I)) → IsTogether d.below flows None → ComesToHere d here k flows []
  none_comes k [] t = refl
  none_comes k (a ∷ flows) t = let known : ◌≡◌ {A = Option (PointFact I)} None (Some t.0) = t.1 in absurd (cc)

  pub some_asked : (flows : List (ℕ × Flowing I)) (k n : ℕ) (fact : PointFact I) (now new : List (Asked I)) → n ≡ length (registers here.context.func.now) → IsTogether d.below (flows_to k flows) (Some fact) → new ≡ now ++ asked.Point k n fact ∷ [] →
      AskMore d here flows k now new
  some_asked flows k n fact now new e t l =
      (asked.Point k n fact ∷ [], l, subst (ComesToHere d here k (flows_to k flows)) (sym (append-nil (told_at n k fact))) (some_comes k n (flows_to k flows) fact e t))

  pub none_asked : (flows : List (ℕ × Flowing I)) (k : ℕ) (now : List (Asked I)) → IsTogether d.below (flows_to k flows) None → AskMore d here flows k now now
  none_asked flows k now t = ([], sym (append-nil now), none_comes k (flows_to k flows) t)

  -- ---- all of them

  abbrev Each : List ℕ → List (ℕ × Flowing I) → Needs I → Type 0
  Each ks flows ns = ComesToEach d here.context.program.now here.facts.now here.number here.context.id here.context.func.now here.point.now here.fact.now ks flows ns

  each_behind : (flows : List (ℕ × Flowing I)) (ks : List ℕ) (k : ℕ) (ns more : Needs I) → Each ks flows ns → ComesToHere d here k (flows_to k flows) more → Each (ks ++ k ∷ []) flows (ns ++ more)
  each_behind flows [] k ns more e c = (more, [], c, refl, ap (λ ns. ns ++ more) e ∙ sym (append-nil more))
  each_behind flows (j ∷ ks) k ns more e c = (e.0, e.1 ++ more, e.2, each_behind flows ks k e.1 more e.3 c, ap (λ ns. ns ++ more) e.4 ∙ append_assoc e.0 e.1 more)

  pub each_on : (flows : List (ℕ × Flowing I)) (nexts : List ℕ) (i x : ℕ) (now new : List (Asked I)) → i < length nexts → ComeToEachHere d here (take i nexts) flows now → AskMore d here flows (get_or nexts i x) now new →
      ComeToEachHere d here (take (i + 1) nexts) flows new
  each_on flows nexts i x now new l e a =
      subst (λ ks. Each ks flows (all_needs here.context.program.now new)) (sym (take_more nexts i x l))
      (subst (Each (take i nexts ++ get_or nexts i x ∷ []) flows) (sym (ap (all_needs here.context.program.now) a.1 ∙ parts_behind here.context.program.now now a.0))
      (each_behind flows (take i nexts) (get_or nexts i x) (all_needs here.context.program.now now) (all_needs here.context.program.now a.0) e a.2))
