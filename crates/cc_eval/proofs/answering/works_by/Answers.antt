use Rattle.cc_eval.proofs.Works.{works_known, works_ask, works_needs, works_bind, works_choice, works_after}
use Rattle.cc_eval.proofs.answering.works_by.Goals as goal

pub returns : goal.returns
returns g c =
    let s = g.T.Answers in
    record {
      known = λ v h. works_known s.is_mark s.is_step s.whole v h;
      asked = λ action f i h. works_ask s.is_mark s.is_step s.whole action f i h;
      needed = λ v f h. works_needs s.is_mark s.is_step s.whole v f h;
      in_order = λ x f h k. works_bind s.is_mark s.is_step s.first s.whole x f h k;
      chosen = λ pure condition these those i n h k l. works_choice s.is_mark s.is_step s.first s.whole pure condition these those i n h k l;
      left = λ x action m w i h. works_after s.is_mark s.is_step s.whole x action m w i h;
    }
