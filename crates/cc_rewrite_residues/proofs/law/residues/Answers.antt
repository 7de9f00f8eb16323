-- By the lemmas on residues.
use Rattle.cc_rewrite_residues.proofs.ResidueLemmas.{silent-agree, silent-turn, residue-run, doomed-run, agree-set}
use Rattle.cc_rewrite_residues.proofs.law.residues.Goals as goal

pub returns : goal.returns
returns g = record {
  silent = λ p frame base needs s t step h k r flag statics locals met. silent-turn p frame base needs s step t h k r flag statics locals met;
  agree = silent-agree;
  runs = λ p frame own base n needs s t does h r flag statics locals met. residue-run p frame own base n needs s does t h r flag statics locals met;
  traps = λ p frame own base n needs s h r flag statics locals met. doomed-run p frame own base n needs s h r flag statics locals met;
  writes = agree-set;
}
