-- The frames of a text's lines, put some at a time.
use Rattle.std.proofs.Common.{◌≡◌, ℕ, ◌/◌, ◌%◌, Bool, true, false, List, [], ◌∷◌, ◌++◌, length, refl, ap, ◌∙◌, append_assoc}
use Rattle.std.proofs.lemmas.List.{append-nil}
use Rattle.std.specs.Prelude.{slice_index}
use Rattle.hex.specs.Hex.{encode_with, lower_digits}
use Rattle.line_io.specs.Device.{LineState}
use Rattle.line_io.specs.Transfers.{broken}
use Rattle.link.specs.Run.{Send, written, session_line}
use Rattle.link.specs.Fates.{clean_after_all}
use Rattle.framed_lib.specs.Output.{WritingByFew, Puts}
use Rattle.framed_lib.specs.Program.{framed_text, shown, shown_end}
use Rattle.framed_lib.specs.Sending.{lines_in, AreSendsOf, IsSendOfLine, Sent}
use Rattle.framed_lib.proofs.OutputLemmas.{put-none, put-done, put-breaks}
use Rattle.link.specs.Lemmas.SendLaws.{line_then}
use Rattle.framed_lib.proofs.SendingLemmas.{Sent-more, Sent-split, session-more, none-sent}

encode-append : (t a b : List ℕ) → encode_with t (a ++ b) ≡ encode_with t a ++ encode_with t b
unfolding encode_with
encode-append t [] b = refl
encode-append t (x ∷ a) b = ap (λ l. slice_index t (x / 16) ∷ slice_index t (x % 16) ∷ l) (encode-append t a b)

shown-append : (hex : Bool) (a b : List ℕ) → shown hex (a ++ b) ≡ shown hex a ++ shown hex b
shown-append false a b = refl
shown-append true a b = encode-append lower_digits a b

pub none-put : (w : LineState) (hex : Bool) → Puts w w [] [] (shown hex [])
unfolding encode_with
none-put w false = put-none w []
none-put w true = put-none w []

module _ (hex : Bool) (sentinel : ℕ) where
  -- the frames of the first lines as they are written
  abbrev pub shown_of : List Send → List ℕ
  shown_of done = shown hex (session_line sentinel false done)

  abbrev pub text_of_all : List Send → List ℕ
  text_of_all sends = framed_text hex (session_line sentinel false sends)

  -- one more line
  pub shown-more : (clean : Bool) (done : List Send) (x : Send) → clean ≡ clean_after_all false done → shown_of (done ++ x ∷ []) ≡ shown_of done ++ shown hex (written sentinel clean x)
  shown-more clean done x c = ap (shown hex) (session-more sentinel clean done x c) ∙ shown-append hex (session_line sentinel false done) (written sentinel clean x)

  abbrev later-shown : List Send → List Send → List ℕ
  later-shown done later = shown hex (session_line sentinel (clean_after_all false done) later) ++ shown_end hex

  framed-parts : (done later : List Send) → text_of_all (done ++ later) ≡ shown_of done ++ later-shown done later
  framed-parts done later =
      let a = session_line sentinel false done in let b = session_line sentinel (clean_after_all false done) later in
      ap (λ x. shown hex x ++ shown_end hex) (line_then sentinel false done later)
      ∙ (ap (λ x. x ++ shown_end hex) (shown-append hex a b)
      ∙ append_assoc (shown hex a) (shown hex b) (shown_end hex))

  all-shown : (text rest : List ℕ) (done sends : List Send) → Sent text rest done → length rest ≡ 0 → AreSendsOf (lines_in text) sends → text_of_all sends ≡ shown_of done ++ shown_end hex
  all-shown text rest done sends s none a =
      let d = Sent-split text rest done sends s a in
      ap text_of_all (d.1 ∙ (ap (λ x. done ++ x) (none-sent rest d.0 none d.2) ∙ append-nil done))

  module _ {u v w : LineState} {held : List ℕ} (text rest : List ℕ) (done : List Send) (s : Sent text rest done) (p : Puts u v [] held (shown_of done)) where
    -- the writer failed at a line
    pub line-broke : (line tail : List ℕ) (clean : Bool) (x : Send) → lines_in rest ≡ line ∷ lines_in tail → IsSendOfLine line x → clean ≡ clean_after_all false done
        → WritingByFew v w broken (held ++ shown hex (written sentinel clean x)) → (sends : List Send) → AreSendsOf (lines_in text) sends → WritingByFew u w broken (text_of_all sends)
    line-broke line tail clean x e o c q sends a =
        let d = Sent-split text tail (done ++ x ∷ []) sends (Sent-more text rest line tail done x s e o) a in
        let later = later-shown (done ++ x ∷ []) d.0 in
        put-breaks _ (shown hex (written sentinel clean x)) later
        (ap text_of_all d.1 ∙ (framed-parts (done ++ x ∷ []) d.0 ∙ (ap (λ t. t ++ later) (shown-more clean done x c) ∙ append_assoc (shown_of done) (shown hex (written sentinel clean x)) later))) p q

    -- all was put
    pub all-put : {kept : List ℕ} → length rest ≡ 0 → Puts v w held kept (shown_end hex) → (sends : List Send) → AreSendsOf (lines_in text) sends → Puts u w [] kept (text_of_all sends)
    all-put none q sends a = put-done _ (all-shown text rest done sends s none a) p q
