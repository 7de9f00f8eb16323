-- The keys are the numbers so far, and every part is no, so the facts are below all others.
use Rattle.std.proofs.Common.{◌≡◌, ◌+◌, ◌++◌, ◌∷◌, [], length, refl, sym, ap, ◌∙◌, arith}
use Rattle.std.proofs.lemmas.List.Elements.{All-push, recursion_from_All}
use Rattle.std.proofs.lemmas.Grind.{length_at_push}
use Rattle.cases_domains.specs.declared.chain.Truth.{Truth}
use Rattle.cases_domains.specs.declared.chain.Truth.TheVariants.{No}
use Rattle.cases_domains.specs.Chain.{numbers}
use Rattle.cases_domains.specs.ChainLaws.{numbers_none, numbers_more, all_no_below}
use Rattle.cases_domains.proofs.chain.ChainSystem.lowest.Goals as goal

pub loop-key-init : goal.loop-key-init
loop-key-init c = rw (c.new-keys.ensures.items, c.new-parts.ensures.items) (sym numbers_none, refl, λ k d h. absurd (omega arith))

pub loop-key-preserved : goal.loop-key-preserved
loop-key-preserved c =
    let key = c.loop-key.key in
    let before = c.loop-key.invariant in (
      c.in_ok-push.ensures.items ∙ (ap (λ ks. ks ++ key ∷ []) before.0 ∙ sym (numbers_more key)),
      ap length c.in_ok-push-2.ensures.items ∙ ((length_at_push c.loop-key.parts.items No).1 ∙ ap (λ n. n + 1) before.1),
      rw c.in_ok-push-2.ensures.items (All-push (λ (part : Truth). part ≡ No) c.loop-key.parts.items No before.2 refl),
    )

pub returns-clause-below : goal.returns-clause-below
returns-clause-below c = λ g fits all.
    let n : c.loop-key.key ≡ 1000 = omega (arith, c.loop-key-test.false, c.loop-key.auto.key-end) in
    let now = c.loop-key.invariant in (
      c.of.ensures ∙ (now.0 ∙ (ap numbers n ∙ sym fits.keys)),
      rw c.of-2.ensures (all_no_below c.loop-key.parts.items g.parts (recursion_from_All (λ (part : Truth). part ≡ No) c.loop-key.parts.items now.2) (now.1 ∙ (n ∙ sym fits.parts))),
    )
