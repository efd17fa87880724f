-- What a receiver over any decoder lends.
use Rattle.std.proofs.Common.{ℕ, ◌<◌, ◌≤◌, List, length, refl, sym, ◌∙◌, subst, Bool}
use Rattle.std.specs.Borrow.{Bor}
use Rattle.postcard_tree.specs.Tree.{Tree}
use Rattle.link.specs.Filled.{Filled}
use Rattle.link.specs.Link.{Holds, begun, IsAt}
use Rattle.link.specs.Steps.{course_of}
use Rattle.link.specs.Lending.{ReadsLent, AdvancesToEvent, Leads, AnswersBy, StandsBy}
use Rattle.link.specs.declared.reception.Reception.{Reception}
use Rattle.link.specs.declared.reception.Taken.{Taken}
use Rattle.link.specs.declared.receiver.Pushed.{Pushed}
use Rattle.link.specs.Finds.{IsSpan}
use Rattle.link.specs.Lemmas.AnswerLaws.{behind_after, answered, stretch_of}

module _ {D V : Type 0} (inside : D → Filled) (takes : Tree → Type 0) (reads : Tree → V → Type 0) (grows : Bool) (r : Reception D) (piece : List ℕ) (taken : Taken (Bor (List ℕ))) (result : Pushed V) (a : AdvancesToEvent inside r piece taken) (h : ReadsLent takes reads grows taken result) where
  -- what is lent is answered as a push is
  pub lent_answers : AnswersBy inside takes reads grows r piece result
  lent_answers = record {
    within = subst (λ n. n ≤ length piece) (sym h.used) a.within;
    forward = λ l. subst (λ n. 0 < n) (sym h.used) (a.forward l);
    answers = λ limit s stream i.
        let k = course_of limit s (begun limit s stream) piece in
        let t = a.taken limit s (begun limit s stream) i in
        answered (Holds takes) limit s (begun limit s stream) piece stream refl reads result.used result.answer (h.used ∙ t.used) (h.replies limit k t);
    stretch = λ limit s stream i.
        let k = course_of limit s (begun limit s stream) piece in
        let t = a.taken limit s (begun limit s stream) i in
        stretch_of (Holds takes) reads limit s stream piece result.used result.stretch result.answer (h.used ∙ t.used) (h.replies limit k t) (subst (IsSpan limit k.event) (sym h.stretch) t.span);
    memory = h.memory;
  }

  -- and leaves the receiver where a push does
  pub lent_stands : (later : Reception D) → Leads inside r piece later → StandsBy inside r piece result later
  lent_stands later l = record {
    after = λ limit s stream i.
        behind_after limit s (IsAt inside limit s later) stream piece result.used (h.used ∙ (a.taken limit s (begun limit s stream) i).used) (l.at limit s (begun limit s stream) i);
    same = l.same;
  }
