-- How a buffer holds the frame of what was pushed.
use Rattle.std.proofs.Common.{◌≡◌, ℕ, suc, ◌+◌, ◌-◌, ◌<◌, ◌≤◌, List, [], ◌∷◌, ◌++◌, length, take, drop, set, get_or, slice_index, refl, ap, sym, ◌∙◌, arith, append_assoc, length-append, length-take, length-drop}
use Rattle.std.proofs.lemmas.List.{append-nil, length_push, take-append-drop, take_at, drop_at, get_or_at, set_at, drop_more, take-take, length-take-le, get_or-take}
use Rattle.cobs.specs.Frames.{block, part, shortest_from, shortest_frame}
use Rattle.cobs.specs.Held.{pushed, Laid, GoesOnFromBlock, HoldsFrame, last_run}
use Rattle.cobs.proofs.EncodingLemmas.{open_full, shortest_is_frame}
use Rattle.cobs.proofs.DecodingLemmas.{frame_reads, frame_of_shortest}

-- the bytes are closed blocks, the open block and a rest
pub record Parts (bytes : List ℕ) (code_at len : ℕ) (closed run rest : List ℕ) : Type 0 where
  pub spells : bytes ≡ closed ++ (block run ++ rest)
  pub code : code_at ≡ length closed
  pub end : len ≡ length closed + suc (length run)

pub front : (bytes closed run rest : List ℕ) (code_at len : ℕ) → Parts bytes code_at len closed run rest → take len bytes ≡ closed ++ block run
front bytes closed run rest code_at len p =
    rw (p.spells, ← append_assoc closed (block run) rest) (take_at (closed ++ block run) rest len (omega (arith, length-append closed (block run), p.end)))

pub closed_is : (bytes closed run rest : List ℕ) (code_at len : ℕ) → Parts bytes code_at len closed run rest → take code_at bytes ≡ closed
closed_is bytes closed run rest code_at len p = rw p.spells (take_at closed (block run ++ rest) code_at (sym p.code))

pub run_is : (bytes closed run rest : List ℕ) (code_at len : ℕ) → Parts bytes code_at len closed run rest → last_run bytes code_at len ≡ run
run_is bytes closed run rest code_at len p =
    rw (front bytes closed run rest code_at len p, ← append_assoc closed (suc (length run) ∷ []) run)
    (drop_at (closed ++ suc (length run) ∷ []) run (code_at + 1) (omega (arith, length_push closed (suc (length run)), p.code)))

pub code_is : (bytes closed run rest : List ℕ) (code_at len : ℕ) → Parts bytes code_at len closed run rest → slice_index bytes code_at ≡ suc (length run)
code_is bytes closed run rest code_at len p = rw p.spells (get_or_at closed (suc (length run)) (run ++ rest) 0 code_at (sym p.code))

-- how long the last run is
pub run_length : (bytes : List ℕ) (code_at len : ℕ) → Laid bytes code_at len → suc (length (last_run bytes code_at len)) ≡ len - code_at
run_length bytes code_at len l = simp (length-drop, length-take) (omega (arith, l.begins, l.within))

-- the frame in front is what is closed and the open block
pub front_of : (bytes : List ℕ) (code_at len : ℕ) → Laid bytes code_at len → take len bytes ≡ take code_at bytes ++ block (last_run bytes code_at len)
front_of bytes code_at len l =
    let long : length (take len bytes) ≡ len = length-take-le len bytes l.within in
    let inside : code_at < length (take len bytes) = omega (arith, l.begins) in
    sym (take-append-drop code_at (take len bytes))
    ∙ ap (λ f. f ++ drop code_at (take len bytes)) (take-take code_at len bytes (omega (arith, l.begins)))
    ∙ ap (λ f. take code_at bytes ++ f) (drop_more (take len bytes) code_at 0 inside
    ∙ ap (λ c. c ∷ last_run bytes code_at len) (get_or-take len bytes code_at 0 l.begins ∙ l.code ∙ sym (run_length bytes code_at len l)))

-- laid bytes have parts
pub parts_of : (bytes : List ℕ) (code_at len : ℕ) → Laid bytes code_at len → Parts bytes code_at len (take code_at bytes) (last_run bytes code_at len) (drop len bytes)
parts_of bytes code_at len l =
    let closed : length (take code_at bytes) ≡ code_at = length-take-le code_at bytes (omega (arith, l.begins, l.within)) in
    let run : suc (length (last_run bytes code_at len)) ≡ len - code_at = run_length bytes code_at len l in
    record {
      spells = sym (take-append-drop len bytes) ∙ ap (λ f. f ++ drop len bytes) (front_of bytes code_at len l)
          ∙ append_assoc (take code_at bytes) (block (last_run bytes code_at len)) (drop len bytes);
      code = sym closed;
      end = omega (arith, l.begins, closed, run);
    }

-- parts are laid
pub laid_of : (bytes closed run rest : List ℕ) (code_at len : ℕ) → Parts bytes code_at len closed run rest → length run ≤ 254 → Laid bytes code_at len
laid_of bytes closed run rest code_at len p l =
    let long : length bytes ≡ length closed + (suc (length run) + length rest) = ap length p.spells ∙ length-append closed (block run ++ rest) ∙ ap (λ n. length closed + n) (length-append (block run) rest) in
    record {
      begins = omega (arith, p.code, p.end);
      within = omega (arith, p.end, long);
      short = omega (arith, p.code, p.end);
      code = code_is bytes closed run rest code_at len p ∙ omega (arith, p.code, p.end);
    }

-- what goes on from the parts holds the message
pub holds_of : (bytes closed run rest message : List ℕ) (code_at len : ℕ) → Parts bytes code_at len closed run rest → length run ≤ 254
    → ((more : List ℕ) → shortest_frame (message ++ more) ≡ closed ++ shortest_from run more) → HoldsFrame bytes code_at len × (pushed bytes len ≡ message)
holds_of bytes closed run rest message code_at len p l h =
    let spelled : shortest_frame message ≡ take len bytes = rw (append-nil message) at (h []) ∙ sym (front bytes closed run rest code_at len p) in
    let is : pushed bytes len ≡ message = ap part (sym spelled) ∙ sym (frame_reads (shortest_frame message) message (frame_of_shortest _ _ (shortest_is_frame message))) in (
      record {
        laid = laid_of bytes closed run rest code_at len p l;
        is = ap shortest_frame is ∙ spelled;
        goes_on = λ byte more. rw (is, closed_is bytes closed run rest code_at len p, run_is bytes closed run rest code_at len p) (h (byte ∷ more));
      },
      is,
    )

-- a block after the last one
pub parts_next : (bytes closed run rest : List ℕ) (y : ℕ) (code_at len : ℕ) → Parts bytes code_at len closed run (y ∷ rest) → Parts (set bytes len 1) len (len + 1) (closed ++ block run) [] rest
parts_next bytes closed run rest y code_at len p =
    let long : length (closed ++ block run) ≡ len = length-append closed (block run) ∙ sym p.end in
    record {
      spells = rw (p.spells, ← append_assoc closed (block run) (y ∷ rest)) (set_at (closed ++ block run) y rest 1 len long);
      code = sym long;
      end = omega (arith, long);
    }

-- there is a byte behind the last block
parts_here : (bytes : List ℕ) (code_at len : ℕ) → Laid bytes code_at len → len < length bytes → Parts bytes code_at len (take code_at bytes) (last_run bytes code_at len) (get_or bytes len 0 ∷ drop (len + 1) bytes)
parts_here bytes code_at len l r = rw (drop_more bytes len 0 r) at (parts_of bytes code_at len l)

-- a block opens behind a full one
pub opens_next : (bytes : List ℕ) (code_at len : ℕ) → Laid bytes code_at len → len < length bytes → len ≡ code_at + 255 → GoesOnFromBlock bytes code_at len (pushed bytes len)
    → Laid (set bytes len 1) len (len + 1) × GoesOnFromBlock (set bytes len 1) len (len + 1) (pushed bytes len)
opens_next bytes code_at len l r o g =
    let run = last_run bytes code_at len in
    let full : length run ≡ 254 = omega (arith, run_length bytes code_at len l) in
    let next = parts_next bytes _ run _ _ code_at len (parts_here bytes code_at len l r) in (
      laid_of _ _ [] _ len (len + 1) next (omega arith),
      λ byte more. rw (closed_is _ _ [] _ len (len + 1) next, run_is _ _ [] _ len (len + 1) next)
          (g byte more ∙ ap (λ f. take code_at bytes ++ f) (open_full run byte more full) ∙ sym (append_assoc (take code_at bytes) (block run) _)),
    )

-- a new encoder's buffer
pub holds_new : (bytes : List ℕ) → 0 < length bytes → HoldsFrame (set bytes 0 1) 0 1 × (pushed (set bytes 0 1) 1 ≡ [])
holds_new [] h = absurd (omega arith)
holds_new (y ∷ bytes) h = holds_of _ [] [] bytes [] 0 1 (record { spells = refl; code = refl; end = refl }) (omega arith) (λ more. refl)
