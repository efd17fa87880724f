-- What is received of the line of a run.
use Rattle.std.proofs.Common.{◌≡◌, ℕ, List, Option, Some, subst}
use Rattle.std.specs.List.{AllZip}
use Rattle.line_io.specs.Device.{LineState}
use Rattle.postcard_tree.specs.Tree.{Tree}
use Rattle.link.specs.Stream.{Answers}
use Rattle.link.specs.Laws.{IsTold}
use Rattle.link.specs.Pushes.{Matches}
use Rattle.link.specs.Run.{Send, IsRun, line, told}
use Rattle.line_io.specs.Transfers.{HasRead}
use Rattle.link.specs.Listening.{HasAnswered, IsReceived, IsUnmade}
use Rattle.link.specs.declared.receiver.Answer.{Answer}
use Rattle.line_io.specs.declared.transfers.End.{End}
use Rattle.line_io.specs.declared.transfers.End.TheVariants.{Ended}
use Rattle.link_laws.specs.Sessions.{all_read}

module _ {V : Type 0} (takes : Tree → Type 0) (holds : List ℕ → Tree → Type 0) (reads : Tree → V → Type 0) (limit s : ℕ) (is_told : IsTold takes holds limit s) (run : List (List Send)) (allowed : IsRun takes limit s run) where
  -- what is received of it is what is to be told
  pub run_received : (old new : LineState) (end : End) (answers : List (Answer V)) (bytes : List ℕ) → HasRead old new end bytes → IsReceived holds reads limit s end answers bytes
      → old.told ≡ Some (line s run) → end ≡ Ended → AllZip (Matches reads) answers (told s run)
  run_received old new end answers bytes h r comes ends =
      let answered : HasAnswered holds reads limit s answers bytes = subst (λ e. IsReceived holds reads limit s e answers bytes) ends r in
      let same = all_read (line s run) bytes old new comes (subst (λ e. HasRead old new e bytes) ends h) in
      let heard = subst (λ x. Answers holds limit s x answered.verdicts) same answered.all in
      subst (λ vs. AllZip (Matches reads) answers vs) ((is_told run answered.verdicts allowed).0 heard) answered.matching

-- a receiver that couldn't be made doesn't hear the end
pub not_ended : {V R : Type 0} (old new : R) (end : End) (answers : List (Answer V)) → IsUnmade old new end answers → end ≡ Ended → ⊥
not_ended old new end answers u e = let k = u.end_is in cc
