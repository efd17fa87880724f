-- The sends of a text's lines, line by line.
use Rattle.std.proofs.Common.{◌≡◌, ℕ, ◌+◌, ◌<◌, ◌==◌, inl, inr, Bool, ◌&&◌, ◌||◌, false, List, [], ◌∷◌, ◌++◌, length, refl, sym, ap, ◌∙◌, arith, append_assoc, get_or, take, drop, length-append}
use Rattle.std.proofs.Math.Bool.{and-true, or-true, or-false}
use Rattle.std.proofs.lemmas.List.{append-nil, nil_from_length}
use Rattle.std.proofs.lemmas.Slice.Zip.{all_zipped_more}
use Rattle.std.specs.List.{list_all}
use Rattle.std.proofs.lemmas.List.Folds.{list_all-append}
use Rattle.std.proofs.lemmas.List.Splits.{slice_split_at, slice_split_none, length-slice_split}
use Rattle.link.specs.Run.{Send, completed, refused, broken, written, clean_after, session_line}
use Rattle.link.specs.Fates.{clean_after_all}
use Rattle.link.specs.Lemmas.HeardLaws.{zip_parts, zip_once}
use Rattle.link.specs.Lemmas.SendLaws.{clean_then, line_then}
use Rattle.framed_lib.specs.Program.{SaysFirst}
use Rattle.framed_lib.specs.Sending.{LacksMark, pieces, filled, lines_in, IsSendOfLine, AreSendsOf, is_whole, said_of, refusals, Sent}
use Rattle.std.specs.Str.{IsUtf8}
use Rattle.std.proofs.Math.Seq.{take-append_seam, drop-append-add, get_or-append_seam}
use Rattle.std.proofs.lemmas.Str.{IsUtf8-take, IsUtf8-drop, IsCharBoundary-before_ascii, IsCharBoundary-after_ascii}

-- A text that is UTF-8 is so on each side of a line feed.
pub utf8-cut : (line tail : List ℕ) → IsUtf8 (line ++ 10 ∷ tail) → IsUtf8 line × IsUtf8 tail
utf8-cut line tail u =
    let text = line ++ 10 ∷ tail in
    let long : length line < length text = omega (arith, length-append line (10 ∷ tail)) in
    let small : get_or text (length line) 0 < 128 = rw (get_or-append_seam line 10 tail 0) (omega arith) in
    let front : IsUtf8 (take (length line) text) = IsUtf8-take text (length line) u (IsCharBoundary-before_ascii text (length line) long small) in
    let behind : IsUtf8 (drop (length line + 1) text) = IsUtf8-drop text (length line + 1) u (IsCharBoundary-after_ascii text (length line) u long small) in
    (rw (take-append_seam line (10 ∷ tail)) at front, rw (drop-append-add line (10 ∷ tail) 1) at behind)

pieces-some : (bytes : List ℕ) → 0 < length (pieces 10 bytes)
pieces-some bytes = omega (arith, length-slice_split (λ b. b == 10) bytes)

filled-more : (line : List ℕ) (ps : List (List ℕ)) → 0 < length ps → filled (line ∷ ps) ≡ line ∷ filled ps
filled-more line [] some = absurd (omega arith)
filled-more [] (p ∷ ps) some = refl
filled-more (b ∷ bytes) (p ∷ ps) some = refl

pub lines-more : (line tail : List ℕ) → LacksMark 10 line → lines_in (line ++ 10 ∷ tail) ≡ line ∷ lines_in tail
lines-more line tail h = ap filled (slice_split_at (λ b. b == 10) line 10 tail h refl) ∙ filled-more line (pieces 10 tail) (pieces-some tail)

filled-last : (rest : List ℕ) → 0 < length rest → filled (rest ∷ []) ≡ rest ∷ []
filled-last [] some = absurd (omega arith)
filled-last (b ∷ rest) some = refl

pub lines-last : (rest : List ℕ) → LacksMark 10 rest → 0 < length rest → lines_in rest ≡ rest ∷ []
lines-last rest h some = ap filled (slice_split_none (λ b. b == 10) rest h) ∙ filled-last rest some

pub Sent-none : (text : List ℕ) → Sent text text []
Sent-none text = record { seen = []; lines_are = refl; are = tt }

pub Sent-more : (text rest line tail : List ℕ) (done : List Send) (x : Send) → Sent text rest done
    → lines_in rest ≡ line ∷ lines_in tail → IsSendOfLine line x → Sent text tail (done ++ x ∷ [])
Sent-more text rest line tail done x p e o = record {
  seen = p.seen ++ line ∷ [];
  lines_are = p.lines_are ∙ (ap (λ l. p.seen ++ l) e ∙ sym (append_assoc p.seen (line ∷ []) (lines_in tail)));
  are = all_zipped_more IsSendOfLine p.seen done line x p.are o;
}

pub Sent-all : (text rest : List ℕ) (done : List Send) → Sent text rest done → length rest ≡ 0 → AreSendsOf (lines_in text) done
Sent-all text rest done p h = rw (p.lines_are, ap lines_in (nil_from_length rest h), append-nil p.seen) p.are

-- standard error failed at the refusal of a line
pub Sent-first : (text rest line : List ℕ) (later : List (List ℕ)) (done : List Send) (x : Send) → Sent text rest done → lines_in rest ≡ line ∷ later
    → IsSendOfLine line x → SaysFirst text (refusals 1 (done ++ x ∷ []))
Sent-first text rest line later done x p e o = record {
  seen = p.seen ++ line ∷ [];
  later = later;
  lines_are = p.lines_are ∙ (ap (λ l. p.seen ++ l) e ∙ sym (append_assoc p.seen (line ∷ []) later));
  sends = done ++ x ∷ [];
  are = all_zipped_more IsSendOfLine p.seen done line x p.are o;
  said_is = refl;
}

-- what was said of all lines was said of the first ones
pub all-first : (text : List ℕ) (sends : List Send) → AreSendsOf (lines_in text) sends → SaysFirst text (refusals 1 sends)
all-first text sends h = record { seen = lines_in text; later = []; lines_are = sym (append-nil (lines_in text)); sends = sends; are = h; said_is = refl }

refusals-append : (n : ℕ) (a b : List Send) → refusals n (a ++ b) ≡ refusals n a ++ refusals (n + length a) b
refusals-append n [] b = let k : n ≡ n + length {A = Send} [] = omega arith in ap (λ m. refusals m b) k
refusals-append n (x ∷ a) b =
    let k : (n + 1) + length a ≡ n + length (x ∷ a) = omega arith in
    ap (λ l. said_of n x ++ l) (refusals-append (n + 1) a b ∙ ap (λ m. refusals (n + 1) a ++ refusals m b) k)
    ∙ sym (append_assoc (said_of n x) (refusals (n + 1) a) (refusals (n + length (x ∷ a)) b))

pub session-more : (sentinel : ℕ) (clean : Bool) (done : List Send) (x : Send) → clean ≡ clean_after_all false done
    → session_line sentinel false (done ++ x ∷ []) ≡ session_line sentinel false done ++ written sentinel clean x
session-more sentinel clean done x c =
    line_then sentinel false done (x ∷ [])
    ∙ ap (λ l. session_line sentinel false done ++ l) (append-nil (written sentinel (clean_after_all false done) x) ∙ ap (λ b. written sentinel b x) (sym c))

clean-next : (clean : Bool) (line : List ℕ) (x : Send) → IsSendOfLine line x → clean_after clean x ≡ (clean || is_whole x)
clean-next clean line (completed t) o = sym (or-true clean)
clean-next clean line refused o = sym (or-false clean)
clean-next clean line (broken t k) o = absurd o

pub clean-more : (clean some : Bool) (line : List ℕ) (done : List Send) (x : Send) → clean ≡ clean_after_all false done → IsSendOfLine line x → is_whole x ≡ some
    → (clean || some) ≡ clean_after_all false (done ++ x ∷ [])
clean-more clean some line done x c o w =
    sym (clean_then false done (x ∷ []) ∙ (ap (λ b. clean_after b x) (sym c) ∙ (clean-next clean line x o ∙ ap (λ b. clean || b) w)))

pub refusals-more : (n : ℕ) (done : List Send) (x : Send) → n ≡ length done + 1 → refusals 1 (done ++ x ∷ []) ≡ refusals 1 done ++ said_of n x
refusals-more n done x e =
    let k : 1 + length done ≡ n = omega arith in
    refusals-append 1 done (x ∷ []) ∙ ap (λ m. refusals 1 done ++ refusals m (x ∷ [])) k ∙ ap (λ l. refusals 1 done ++ l) (append-nil (said_of n x))

pub all-more : (good sent : Bool) (done : List Send) (x : Send) → good ≡ list_all is_whole done → sent ≡ is_whole x → good && sent ≡ list_all is_whole (done ++ x ∷ [])
all-more good sent done x g s = rw (g, s) (ap (λ b. list_all is_whole done && b) (sym (and-true (is_whole x))) ∙ sym (list_all-append is_whole done (x ∷ [])))

-- What comes of a line is one thing

one-send : (line : List ℕ) (x y : Send) → IsSendOfLine line x → IsSendOfLine line y → x ≡ y
one-send line (completed t) (completed u) p q = ap completed (p.0 ∙ sym q.0)
one-send line (completed t) refused p (inl f) = absurd (f p.1)
one-send line (completed t) refused p (inr f) = absurd (f p.2)
one-send line refused (completed u) (inl f) q = absurd (f q.1)
one-send line refused (completed u) (inr f) q = absurd (f q.2)
one-send line refused refused p q = refl
one-send line (broken t k) y p q = absurd p
one-send line x (broken t k) p q = absurd q

-- the sends of a text's lines begin with those of its first lines
pub Sent-split : (text rest : List ℕ) (done sends : List Send) → Sent text rest done → AreSendsOf (lines_in text) sends
    → (later : List Send) × (sends ≡ done ++ later) × AreSendsOf (lines_in rest) later
Sent-split text rest done sends p h =
    let z = zip_parts IsSendOfLine p.seen (lines_in rest) sends (rw p.lines_are at h) in
    (z.vs, z.whole ∙ ap (λ x. x ++ z.vs) (zip_once IsSendOfLine one-send p.seen z.us done z.first p.are), z.second)

pub none-sent : (rest : List ℕ) (later : List Send) → length rest ≡ 0 → AreSendsOf (lines_in rest) later → later ≡ []
none-sent [] [] l a = refl
none-sent [] (x ∷ later) l a = absurd a
none-sent (b ∷ rest) later l a = absurd (omega arith)
