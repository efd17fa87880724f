-- What a sender makes, line by line.
use Rattle.std.proofs.Common.{◌≡◌, ◌≢◌, ℕ, zero, suc, ◌+◌, ◌<◌, ◌≤◌, Bool, true, false, ◌&&◌, List, [], ◌∷◌, ◌++◌, length, take, Result, Ok, Err, OnErr, refl, sym, ap, ◌∙◌, subst, append_assoc, inl, arith}
use Rattle.std.specs.List.{All, flat_map}
use Rattle.std.specs.Prelude.{slice_index}
use Rattle.std.proofs.lemmas.List.{append-nil, get_or-take, length-append, length-take-le}
use Rattle.std.proofs.lemmas.List.Elements.{All-append}
use Rattle.std.proofs.lemmas.Grind.{flat_map-append}
use Rattle.wire_lib.specs.Sent.{LineMade, framed, refused, IsTextMade, IsUnsendable, IsLineWith, IsLineMade, last_line, is_framed, framed_bytes, refused_bytes, are_all_framed, number_behind, AreLinesMade, LacksFeed, with_feed, IsTextOf, HasMadeBy, HaveBecome, AppendedApart, IsFrameToSend}
use Rattle.wire_json.specs.Refused.{refusal_text}
use Rattle.wire_lib.specs.declared.send.Sending.{Sending}

-- one line more
pub all_framed_then : (ms : List LineMade) (m : LineMade) → are_all_framed (ms ++ m ∷ []) ≡ (are_all_framed ms && is_framed m)
all_framed_then [] (framed bytes) = refl
all_framed_then [] (refused bytes) = refl
all_framed_then (framed bytes ∷ ms) m = all_framed_then ms m
all_framed_then (refused bytes ∷ ms) m = refl

lines_made_then : (s : Sending) (n : ℕ) (ls : List (List ℕ)) (ms : List LineMade) (l : List ℕ) (m : LineMade) → AreLinesMade s n ls ms → IsLineMade s (number_behind (n + length ms)) l m → AreLinesMade s n (ls ++ l ∷ []) (ms ++ m ∷ [])
lines_made_then s n [] [] l m h k = (subst (λ j. IsLineMade s (number_behind j) l m) (omega arith) k, tt)
lines_made_then s n [] (x ∷ ms) l m h k = absurd h
lines_made_then s n (y ∷ ls) [] l m h k = absurd h
lines_made_then s n (y ∷ ls) (x ∷ ms) l m h k = (h.0, lines_made_then s (n + 1) ls ms l m h.1 (subst (λ j. IsLineMade s (number_behind j) l m) (omega arith) k))

-- bytes that lack a line feed
pub lacks_append : (xs ys : List ℕ) → LacksFeed xs → LacksFeed ys → LacksFeed (xs ++ ys)
lacks_append [] ys a b = b
lacks_append (x ∷ xs) ys a b = cons_lacks x (xs ++ ys) (a 0 (omega arith)) (lacks_append xs ys (λ k l. a (suc k) (omega arith)) b)
  where
    cons_lacks : (z : ℕ) (zs : List ℕ) → z ≢ 10 → LacksFeed zs → LacksFeed (z ∷ zs)
    cons_lacks z zs first rest zero l = first
    cons_lacks z zs first rest (suc k) l = rest k (omega arith)

pub lacks_take : (n : ℕ) (xs : List ℕ) → n ≤ length xs → ((k : ℕ) → k < n → slice_index xs k ≢ 10) → LacksFeed (take n xs)
lacks_take n xs within h k l e =
    let below : k < n = omega (arith, l, length-take-le n xs within) in
    h k below (sym (get_or-take n xs k _ below) ∙ e)

-- of one line alone
one_lacks : (line : List ℕ) → LacksFeed line → All LacksFeed (line ∷ [])
one_lacks line h zero d l = h
one_lacks line h (suc k) d l = absurd (omega arith)

-- a text with more of the line that is begun
pub text_on : (text : List ℕ) (lines : List (List ℕ)) (begun part : List ℕ) → IsTextOf text lines begun → LacksFeed part → IsTextOf (text ++ part) lines (begun ++ part)
text_on text lines begun part h lacks = record {
  whole = ap (λ x. x ++ part) h.whole ∙ append_assoc (flat_map with_feed lines) begun part;
  apart = h.apart;
  begun_apart = lacks_append begun part h.begun_apart lacks;
}

-- a text whose line is ended
pub text_ended : (text : List ℕ) (lines : List (List ℕ)) (begun : List ℕ) → IsTextOf text lines begun → IsTextOf (text ++ 10 ∷ []) (lines ++ begun ∷ []) []
text_ended text lines begun h = record {
  whole = ap (λ x. x ++ 10 ∷ []) h.whole ∙ append_assoc (flat_map with_feed lines) begun (10 ∷ [])
      ∙ ap (λ x. flat_map with_feed lines ++ x) (sym (append-nil (begun ++ 10 ∷ []))) ∙ sym (flat_map-append with_feed lines (begun ∷ [])) ∙ sym (append-nil _);
  apart = All-append LacksFeed lines (begun ∷ []) h.apart (one_lacks begun h.begun_apart);
  begun_apart = λ k l. absurd (omega arith);
}

-- nothing more was made, of more of a line
pub made_on : (s : Sending) (begun part : List ℕ) (number : ℕ) (good : Bool) (text : List ℕ) (made : List LineMade) → HasMadeBy s begun number good text made → LacksFeed part → HasMadeBy s (begun ++ part) number good (text ++ part) (made ++ [])
made_on s begun part number good text made h lacks = subst (λ x. HasMadeBy s (begun ++ part) number good (text ++ part) x) (sym (append-nil made)) (record {
  lines = h.lines;
  parts = text_on text h.lines begun part h.parts lacks;
  are = h.are;
  counted = h.counted;
  good_is = h.good_is;
})

-- a line was ended and became this
pub made_then : (s : Sending) (begun part : List ℕ) (number number' : ℕ) (good good' : Bool) (text : List ℕ) (made : List LineMade) (m : LineMade)
    → HasMadeBy s begun number good text made → LacksFeed part → IsLineMade s number' (begun ++ part) m → number' ≡ number_behind number → good' ≡ (good && is_framed m)
    → HasMadeBy s [] number' good' (text ++ (part ++ 10 ∷ [])) (made ++ m ∷ [])
made_then s begun part number number' good good' text made m h lacks is counted good_is =
    let on = text_ended (text ++ part) h.lines (begun ++ part) (text_on text h.lines begun part h.parts lacks) in
    let behind : number' ≡ number_behind (0 + length made) = omega (arith, counted, h.counted) in record {
      lines = h.lines ++ (begun ++ part) ∷ [];
      parts = subst (λ x. IsTextOf x (h.lines ++ (begun ++ part) ∷ []) []) (append_assoc text part (10 ∷ [])) on;
      are = lines_made_then s 0 h.lines made (begun ++ part) m h.are (subst (λ n. IsLineMade s n (begun ++ part) m) behind is);
      counted = omega (arith, counted, h.counted, length-append made (m ∷ []));
      good_is = good_is ∙ ap (λ g. g && is_framed m) h.good_is ∙ sym (all_framed_then made m);
    }

-- nothing was appended
pub appended_none : (frames wrongs : List ℕ) → AppendedApart frames frames wrongs wrongs []
appended_none frames wrongs = record { to_frames = sym (append-nil frames); to_wrongs = sym (append-nil wrongs) }

-- some was appended, and then more
pub appended_then : (f g h v w x : List ℕ) (ms ns : List LineMade) → AppendedApart f g v w ms → AppendedApart g h w x ns → AppendedApart f h v x (ms ++ ns)
appended_then f g h v w x ms ns a b = record {
  to_frames = b.to_frames ∙ ap (λ z. z ++ flat_map framed_bytes ns) a.to_frames ∙ append_assoc f (flat_map framed_bytes ms) (flat_map framed_bytes ns) ∙ ap (λ z. f ++ z) (sym (flat_map-append framed_bytes ms ns));
  to_wrongs = b.to_wrongs ∙ ap (λ z. z ++ flat_map refused_bytes ns) a.to_wrongs ∙ append_assoc v (flat_map refused_bytes ms) (flat_map refused_bytes ns) ∙ ap (λ z. v ++ z) (sym (flat_map-append refused_bytes ms ns));
}

-- a line became a frame
pub sent_framed : (s : Sending) (number : ℕ) (line frames frames' wrongs bytes : List ℕ) (good : Bool) → IsFrameToSend s line bytes → frames' ≡ frames ++ bytes
    → (m : LineMade) × IsTextMade s number line m × AppendedApart frames frames' wrongs wrongs (m ∷ []) × (good ≡ (good && is_framed m))
sent_framed s number line frames frames' wrongs bytes good is e = (
  framed bytes,
  is,
  record { to_frames = e ∙ ap (λ x. frames ++ x) (sym (append-nil bytes)); to_wrongs = sym (append-nil wrongs) },
  still good,
)
  where
    still : (g : Bool) → g ≡ (g && true)
    still true = refl
    still false = refl

-- a line was refused
pub sent_refused : (s : Sending) (number number' : ℕ) (line frames wrongs wrongs' : List ℕ) (good good' : Bool) → number' ≡ number → good' ≡ false → IsUnsendable s line → (why : List ℕ) × (wrongs' ≡ wrongs ++ refusal_text number why)
    → (m : LineMade) × IsTextMade s number' line m × AppendedApart frames frames wrongs wrongs' (m ∷ []) × (good' ≡ (good && is_framed m))
sent_refused s number number' line frames wrongs wrongs' good good' e bad owed (why, said) = (
  refused (refusal_text number why),
  (owed, (why, ap (λ n. refusal_text n why) (sym e))),
  record { to_frames = sym (append-nil frames); to_wrongs = said ∙ ap (λ x. wrongs ++ x) (sym (append-nil (refusal_text number why))) },
  bad ∙ sym (never good),
)
  where
    never : (g : Bool) → (g && false) ≡ false
    never true = refl
    never false = refl

-- what a line's text became, the line did
pub line_made : (s : Sending) (number : ℕ) (line text : List ℕ) (m : LineMade) → IsLineWith text line → IsTextMade s number text m → IsLineMade s number line m
line_made s number line text m e h = (text, e, h)

-- the last line, which no line feed ended, became this
pub last_made : (s : Sending) (begun : List ℕ) (number number' : ℕ) (good good' : Bool) (text : List ℕ) (made : List LineMade) (m : LineMade) → begun ≢ []
    → HasMadeBy s begun number good text made → IsTextMade s number' begun m → number' ≡ number_behind number → good' ≡ (good && is_framed m)
    → AreLinesMade s (length made) (last_line begun) (m ∷ []) × (good' ≡ are_all_framed (made ++ m ∷ []))
last_made s [] number number' good good' text made m some h is counted good_is = absurd (some refl)
last_made s (x ∷ xs) number number' good good' text made m some h is counted good_is =
    let behind : number' ≡ number_behind (length made) = omega (arith, counted, h.counted) in (
      ((x ∷ xs, inl refl, subst (λ n. IsTextMade s n (x ∷ xs) m) behind is), tt),
      good_is ∙ ap (λ g. g && is_framed m) h.good_is ∙ sym (all_framed_then made m),
    )

-- what holds, holds at an error
pub at_error : {T E P : Type 0} (r : Result T E) → P → OnErr r P
at_error (Ok x) p = tt
at_error (Err e) p = p

-- the same was appended to what is unchanged since
pub appended_still : (f g h v w x : List ℕ) (ms : List LineMade) → h ≡ g → x ≡ w → AppendedApart f g v w ms → AppendedApart f h v x ms
appended_still f g h v w x ms d e a = record { to_frames = d ∙ a.to_frames; to_wrongs = e ∙ a.to_wrongs }

-- what a sender has made of a text, by the same sending
pub have_become : (s t : Sending) (begun : List ℕ) (number : ℕ) (good : Bool) (text text' : List ℕ) (made : List LineMade) → t ≡ s → text ≡ text' → HasMadeBy t begun number good text made → HaveBecome s text' made
have_become s t begun number good text text' made e f h = (begun, number, good, subst (λ x. HasMadeBy s begun number good x made) f (subst (λ x. HasMadeBy x begun number good text made) e h))
