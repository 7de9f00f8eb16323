use Rattle.std.proofs.Common.{List, refl, ap, ◌∙◌}
use Rattle.cc_rules_readers.specs.declared.deeds.Deed.{Deed}
use Rattle.cc_rules_readers.specs.declared.groups.By.TheVariants as by
use Rattle.cc_rules_readers.specs.declared.naming.Named.TheVariants as named
use Rattle.cc_rules_readers.specs.declared.picked.Test.TheVariants as test
use Rattle.cc_rules_readers.specs.Points.{points_that, passes_in, group}
use Rattle.cc_rules_readers.proofs.index.indexed.Goals as goal

pub returns : goal.returns
returns c = (
  refl,
  record {
    few = c.requires;
    functions = λ g. c.in_ok-functions.ensures g ∙ ap (λ (ds : List Deed). group ds by.Function g) c.all-does.ensures;
    callers = λ g. c.in_ok-callers.ensures g ∙ ap (λ (ds : List Deed). group ds by.Callee g) c.all-does.ensures;
    pointer_calls = c.of.ensures ∙ (c.in_ok-pointer_calls.ensures ∙ ap (λ (ds : List Deed). points_that ds (passes_in test.CallsThroughPointer)) c.all-does.ensures);
    objects = λ i. c.in_ok-objects.ensures i ∙ ap (λ (ds : List Deed). group ds by.Object i) c.all-does.ensures;
    locals = λ g. c.in_ok-locals.ensures g ∙ ap (λ (ds : List Deed). group ds by.Local g) c.all-does.ensures;
    members = λ m. c.in_ok-members.ensures m ∙ ap (λ (ds : List Deed). group ds by.Member m) c.all-does.ensures;
    named_reads = c.of-2.ensures ∙ (c.in_ok-named_reads.ensures ∙ ap (λ (ds : List Deed). points_that ds (passes_in (test.Reads named.EachKey))) c.all-does.ensures);
    pointer_reads = c.of-3.ensures ∙ (c.in_ok-pointer_reads.ensures ∙ ap (λ (ds : List Deed). points_that ds (passes_in test.ReadsThroughPointer)) c.all-does.ensures);
  },
)
