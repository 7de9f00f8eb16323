-- What the code knows of objects and of what is done for an initialiser, as the definitions do.
use Rattle.std.specs.Prelude.{List, Vec, map}
use Rattle.std.specs.declared.alloc.Global.{Global}
use Rattle.cc_initialisers.specs.Contents.{Contents, Scalar, Elements, of_members, contents_over, structure_inside}
use Rattle.cc_initialisers.specs.Initialisers.{Step, Give, Character, Zero, Visit, Break}
use Rattle.cc_initialisers.specs.declared.content.Content.{Content as CodeContent}
use Rattle.cc_initialisers.specs.declared.content.Content.TheVariants as content
use Rattle.cc_initialisers.specs.declared.content.Members.{Members as CodeMembers}
use Rattle.cc_initialisers.specs.declared.content.Part.{Part as CodePart}
use Rattle.cc_initialisers.specs.declared.step.Step.{Step as CodeStep}
use Rattle.cc_initialisers.specs.declared.step.Step.TheVariants as step
use Rattle.cc_operands.specs.View.{type_view}
use Rattle.cc_operands.specs.CcSyntax.Types.{Named}
use Rattle.cc_operands.specs.CcTyped.View.{value_view}

abbrev pub part_view : CodePart → Contents
part_view p = contents_over (structure_inside p.structures.now p.depth) p.ctype.now p.constant

-- a member, and all of them
abbrev pub member_view : CodeMembers → Named → Contents
member_view ms m = contents_over (structure_inside ms.structures.now ms.depth) m.1 ms.constant

abbrev pub members_view : CodeMembers → Contents
members_view ms = of_members (map (λ m. contents_over (structure_inside ms.structures.now ms.depth) m.1) ms.all.now) ms.constant

abbrev pub content_view : CodeContent → Contents
content_view (content.Scalar constant t) = Scalar constant (value_view t)
content_view (content.Elements n of) = Elements n (part_view of)
content_view (content.Members ms) = members_view ms

abbrev pub step_view : CodeStep → Step
step_view (step.Give constant t e) = Give constant (type_view t) e.now
step_view (step.Character at constant t byte) = Character at constant (type_view t) byte
step_view (step.Zero at constant t) = Zero at constant (type_view t)
step_view (step.Visit e) = Visit e.now
step_view (step.Breaks at broken) = Break at broken

unfoldable pub steps_of : Vec CodeStep Global → List Step
steps_of steps = map step_view steps.items
