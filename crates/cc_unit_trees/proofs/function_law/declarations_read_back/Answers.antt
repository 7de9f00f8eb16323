use Rattle.std.proofs.Common.{false, ◌∷◌, [], refl}
use Rattle.cc_program.specs.declared.types.Sig.{out-Sig}
use Rattle.cc_unit_trees.proofs.Lines.{body-reads}
use Rattle.cc_typed.specs.CcSyntax.Programs.{kind_in}
use Rattle.cc_program.specs.CcWords.declared.word.Word.TheVariants as w
use Rattle.cc_unit_trees.proofs.FunctionDeclarations.{name-decl-read}
use Rattle.cc_unit_trees.proofs.FunctionFitting.{decl-fits, function-fits}
use Rattle.cc_unit_trees.proofs.Functions.{function-read}
use Rattle.cc_unit_trees.proofs.Sound.{object-some, object-reads, result-reads, parameters-known, locals-known}
use Rattle.cc_unit_trees.proofs.function_law.declarations_read_back.Goals as goal

pub returns : goal.returns
returns c = record {
  objects = λ p o h at ps. name-decl-read p.structures (w.Static ∷ []) refl o.ctype (object-reads p o.ctype h) o.name at ps;
  functions = λ p f h n at ps. function-read p f (result-reads p (out-Sig f.sig).result h.result) (parameters-known p f.params f.locals h.locals) (locals-known p f.params f.locals h.locals)
      (body-reads p f f.body false false n h.body 1) at ps;
  objects_part = λ p tags o h n ps g. decl-fits p tags (w.Static ∷ []) o.ctype (object-some (kind_in p o.ctype) h) o.name n ps g;
  functions_part = λ p devices acts f names n h k ps g. function-fits p names.tags devices acts f names n h k ps g;
}
