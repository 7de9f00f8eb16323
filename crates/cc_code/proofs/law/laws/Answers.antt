use Rattle.cc_code.proofs.CodeLemmas.{decodes, fits, one_coding, ranges}
use Rattle.cc_code.proofs.law.laws.Goals as goal

pub returns-clause-decodes : goal.returns-clause-decodes
returns-clause-decodes c = λ values least coding v code h m e. decodes values least coding v code h m e

pub returns-clause-fits : goal.returns-clause-fits
returns-clause-fits c = λ values least coding v code h m e. fits values least coding v code h m e

pub returns-clause-one_coding : goal.returns-clause-one_coding
returns-clause-one_coding c = λ values least x y h m. one_coding values least x y h m

pub returns-clause-ranges : goal.returns-clause-ranges
returns-clause-ranges c = λ r least coding h. ranges r least coding h
