-- What an encoder writes, by the definitions of link.
use Rattle.std.specs.Prelude.{◌≡◌, ℕ, Bool, true, List, length, Option, Some}
use Rattle.postcard_tree.specs.Tree.{Tree, IsTree}
use Rattle.link.specs.Run.{completed, sent, written, IsSend}
use Rattle.link.specs.Senders.{IsRefusal}
use Rattle.link_codec.specs.declared.encoder.LinkEncoder.{LinkEncoder}
use Rattle.link_codec.specs.declared.error.EncodeError.{EncodeError}
use Rattle.link_codec.specs.declared.error.EncodeError.TheVariants.{Refused, Io}
use Rattle.tokio_util.specs.Codec.Chunks.{LacksRoom}

module _ {N : ℕ} where
  -- whether an encoder has written a value
  abbrev pub encoder_clean : LinkEncoder N → Bool
  encoder_clean e = e.clean

  -- its sentinel
  abbrev pub encoder_sentinel : LinkEncoder N → ℕ
  encoder_sentinel e = e.sentinel

  -- these bytes are what a completed send of the value leaves on the line
  pub record Encodes (s : LinkEncoder N) (writes : Option Tree) (holds_of_it : Type 0)
      (frame : List ℕ) (t : LinkEncoder N) : Type 0 where
    -- what the value is written as
    pub tree : Tree
    -- it is the value's
    pub of : writes ≡ Some tree
    -- its frame is at most N bytes long
    pub is : IsSend IsTree N (encoder_sentinel s) (encoder_clean s) (completed tree)
    -- the value is a valid one of its type
    pub valid : holds_of_it
    -- the bytes are those of a completed send
    pub bytes : frame ≡ written (encoder_sentinel s) (encoder_clean s) (completed tree)
    -- the encoder is clean then
    pub clean : encoder_clean t ≡ true
    -- its sentinel stays
    pub sentinel : encoder_sentinel t ≡ encoder_sentinel s

  -- the value is refused as a sender refuses it; or its frame is within the limit, and its bytes had no room
  abbrev pub RefusesValue : LinkEncoder N → Option Tree → ℕ → EncodeError → Type 0
  RefusesValue s writes spare (Refused e) = IsRefusal N writes e
  RefusesValue s writes spare (Io e) = (tree : Tree) × (writes ≡ Some tree)
      × IsSend IsTree N (encoder_sentinel s) (encoder_clean s) (completed tree)
      × LacksRoom (length (sent (encoder_sentinel s) (encoder_clean s) tree)) spare e
