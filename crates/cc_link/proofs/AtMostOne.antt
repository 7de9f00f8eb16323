-- Sources link to at most one program, have at most one first cause against them, and never both.
use Rattle.std.proofs.Common.{◌≡◌, ◌∙◌, List, map, None, Some, ap, sym}
use Rattle.cc_causes.specs.declared.fault.LinkFault.{LinkFault}
use Rattle.cc_link.proofs.Unique.{one_numbering, one_firsts}
use Rattle.cc_link.specs.Linked.{Links, Breaks, first_cause, program}
use Rattle.cc_program.specs.CcNum.declared.target.Target.{Target}
use Rattle.cc_program.specs.declared.program.Program.{Program}
use Rattle.cc_program.specs.declared.program.Roles.{Roles}
use Rattle.cc_structures.specs.Structures.{Known, Numbering, AreNumbered}
use Rattle.cc_things.specs.declared.text.Text.{Text}

-- the first cause is one, whatever numbers are taken
one : (texts : List Text) (roles : Roles) (n m : Numbering) (f g : List Known) → AreNumbered (map (λ x. x.unit) texts) n f → AreNumbered (map (λ x. x.unit) texts) m g → first_cause texts roles n f ≡ first_cause texts roles m g
one texts roles n m f g a b =
    ap (λ k. first_cause texts roles k f) (one_numbering (map (λ x. x.unit) texts) n m f g a b)
    ∙ ap (first_cause texts roles m) (one_firsts (map (λ x. x.unit) texts) n m f g a b)

pub one_program : (texts : List Text) (target : Target) (roles : Roles) (p q : Program) → Links texts target roles p → Links texts target roles q → p ≡ q
one_program texts target roles p q a b =
    a.is
    ∙ (ap (λ k. program texts roles k a.firsts target) (one_numbering (map (λ x. x.unit) texts) a.numbering b.numbering a.firsts b.firsts a.numbered b.numbered)
    ∙ (ap (λ fs. program texts roles b.numbering fs target) (one_firsts (map (λ x. x.unit) texts) a.numbering b.numbering a.firsts b.firsts a.numbered b.numbered)
    ∙ sym b.is))

pub one_cause : (texts : List Text) (roles : Roles) (e f : LinkFault) → Breaks texts roles e → Breaks texts roles f → e ≡ f
one_cause texts roles e f a b =
    let same : Some e ≡ Some f = sym a.first ∙ (one texts roles a.numbering b.numbering a.firsts b.firsts a.numbered b.numbered ∙ b.first) in
    cc

pub not_both : (texts : List Text) (target : Target) (roles : Roles) (p : Program) (f : LinkFault) → Links texts target roles p → Breaks texts roles f → ⊥
not_both texts target roles p f a b =
    let same : None ≡ Some f = sym a.none ∙ (one texts roles a.numbering b.numbering a.firsts b.firsts a.numbered b.numbered ∙ b.first) in
    cc
