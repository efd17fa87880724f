-- The records of a call's contract, from the clauses of `wire_lib`.
use Rattle.std.proofs.Common.{◌≡◌, ℕ, Bool, true, false, List, [], drop, sym, subst, ap, ◌∙◌, if◌then◌else◌}
use Rattle.schema_table.specs.declared.value.Value.{Value}
use Rattle.link.specs.Listening.{HasGiven}
use Rattle.link.specs.declared.receiver.Answer.{Answer}
use Rattle.wire_lib.specs.declared.receive.Reading.{Reading}
use Rattle.wire_lib.specs.declared.receive.LinesOfFrames.{LinesOfFrames}
use Rattle.wire_lib.specs.declared.send.Sending.{Sending}
use Rattle.wire_lib.specs.Received.{HasGot, held_by, read_by, reading_of, added_at_end, TellsEach, TellsEnd}
use Rattle.wire_c.specs.declared.terms.WireTerms.{WireTerms}
use Rattle.wire_c.specs.Flags.{is_set}
use Rattle.wire_c.specs.Streams.{skipped_in, TellsLast, TellsStream, ReadsStream}
use Rattle.wire_c.specs.Texts.{MakesFrames, WritesFrames, RefusesLines}

-- a stream's lines, by what a receiver that was pushed all of it has told
pub stream_told : (r old : Reading) (new : LinesOfFrames) (ends : Bool) (passed skip : ℕ)
    (stream lines before after : List ℕ) (more : List (Answer Value))
    → old ≡ r → reading_of new ≡ old → skip ≡ passed → lines ≡ []
    → HasGot new passed (drop skip stream) more
    → TellsEach old passed (drop skip stream) [] more lines before
    → TellsLast r ends passed (drop passed stream) before after
    → TellsStream r passed ends stream after
stream_told r old new ends passed skip stream lines before after more e en es el h t l = record {
  answers = more;
  given = subst (λ x. HasGiven (held_by x) (read_by x) 65536 x.sentinel more (drop passed stream)) (en ∙ e)
      (subst (λ k. HasGiven (held_by new.reading) (read_by new.reading) 65536 new.reading.sentinel more (drop k stream)) es h.given);
  before_end = before;
  told = subst (λ xs. TellsEach r passed (drop passed stream) [] more xs before) el
      (subst (λ k. TellsEach r passed (drop k stream) [] more lines before) es
      (subst (λ x. TellsEach x passed (drop skip stream) [] more lines before) e t));
  at_end = l;
}

-- the lines of the end, by what the receiver told at it
pub last_told : (r : Reading) (new : LinesOfFrames) (ends : Bool) (passed skip : ℕ) (stream before after : List ℕ)
    → ends ≡ true → reading_of new ≡ r → skip ≡ passed
    → TellsEnd (reading_of new) passed (drop skip stream) (added_at_end new (drop skip stream)) before after
    → TellsLast r ends passed (drop passed stream) before after
last_told r new ends passed skip stream before after e en es t =
    subst (λ b. TellsLast r b passed (drop passed stream) before after) (sym e)
    (subst (λ x. TellsLast x true passed (drop passed stream) before after) en
    (subst (λ k. TellsLast (reading_of new) true passed (drop k stream) before after) es t))

-- there are none where it doesn't end
pub none_told : (r : Reading) (ends : Bool) (passed : ℕ) (stream before after : List ℕ)
    → ends ≡ false → after ≡ before → TellsLast r ends passed stream before after
none_told r ends passed stream before after e same =
    subst (λ b. TellsLast r b passed stream before after) (sym e) same

-- what is read by terms
pub reads_by : (terms : WireTerms) (r : Reading) (stream lines : List ℕ) (passed : ℕ) (inside ends : Bool)
    → TellsStream r passed ends stream lines → r.sentinel ≡ terms.sentinel → r.strict ≡ is_set terms.strict
    → r.summed ≡ is_set terms.crc32 → r.hex ≡ is_set terms.hex
    → r.depth ≡ (if is_set terms.crc32 then 61 else 60) → ends ≡ is_set terms.ends → inside ≡ is_set terms.inside
    → passed ≡ skipped_in inside terms.sentinel stream → ReadsStream terms stream lines
reads_by terms r stream lines passed inside ends t a b c h d e f g = record {
  reading = r;
  sentinel = a;
  strict = b;
  summed = c;
  hex = h;
  depth = d;
  lines_are = subst (λ k. TellsStream r k (is_set terms.ends) stream lines)
      (g ∙ ap (λ i. skipped_in i terms.sentinel stream) f)
      (subst (λ x. TellsStream r passed x stream lines) e t);
}

-- what is written by terms, where all lines are frames
pub writes_by : (terms : WireTerms) (s : Sending) (text frames wrongs : List ℕ) (good : Bool)
    → s.sentinel ≡ terms.sentinel → s.summed ≡ is_set terms.crc32 → s.depth ≡ 60 → good ≡ true
    → MakesFrames s text frames wrongs good → WritesFrames terms text frames
writes_by terms s text frames wrongs good a b d e m = record {
  sending = s;
  sentinel = a;
  summed = b;
  depth = d;
  wrongs = wrongs;
  frames_are = subst (λ g. MakesFrames s text frames wrongs g) e m;
}

-- what is said of the lines, where one isn't a frame
pub refuses_by : (terms : WireTerms) (s : Sending) (text frames wrongs : List ℕ) (good : Bool)
    → s.sentinel ≡ terms.sentinel → s.summed ≡ is_set terms.crc32 → s.depth ≡ 60 → good ≡ false
    → MakesFrames s text frames wrongs good → RefusesLines terms text wrongs
refuses_by terms s text frames wrongs good a b d e m = record {
  sending = s;
  sentinel = a;
  summed = b;
  depth = d;
  frames = frames;
  wrongs_are = subst (λ g. MakesFrames s text frames wrongs g) e m;
}
