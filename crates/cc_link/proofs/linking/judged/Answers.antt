use Rattle.std.proofs.Common.{◌∙◌, sym}
use Rattle.cc_structures.specs.View.{knowns_of}
use Rattle.cc_link.proofs.linking.judged.Goals as goal

pub returns-in-Some : goal.returns-in-Some
returns-in-Some c = record {
  linked = tt;
  refused = record {
    numbering = c.args.sources.now.structures.numbers.items;
    firsts = knowns_of c.args.sources.now.structures.firsts.items;
    numbered = c.requires.numbered;
    first = sym (c.in_ok-fault.ensures c.args.texts.now c.requires) ∙ c.in-Some.is;
  };
}

pub returns : goal.returns
returns c = record {
  linked = λ target. record {
    numbering = c.args.sources.now.structures.numbers.items;
    firsts = knowns_of c.args.sources.now.structures.firsts.items;
    numbered = c.requires.numbered;
    none = sym (c.in_ok-fault.ensures c.args.texts.now c.requires) ∙ c.in_default.is;
    is = c.in_ok-parts.ensures target;
  };
  refused = tt;
}
