-- The bytes of a record.
use Rattle.std.proofs.Common.{◌≡◌, ℕ, ◌+◌, ◌-◌, ◌<◌, ◌≤◌, true, List, [], ◌∷◌, ◌++◌, length, take, Option, Some, None, Ok, Err, refl, sym, ap, ◌∙◌, subst, arith}
use Rattle.std.specs.Prelude.{bit_xor}
use Rattle.std.proofs.lemmas.List.{length-append, length-map, take_all}
use Rattle.cobs.specs.Frames.{shortest_frame}
use Rattle.cobs.specs.Sentinel.{frame_for}
use Rattle.line_io.specs.Device.{Wrote}
use Rattle.postcard_tree.specs.Tree.{Tree, IsTree}
use Rattle.postcard_tree.specs.Spelling.{short}
use Rattle.postcard.specs.Written.{WrittenWhole}
use Rattle.link.specs.Run.{completed, broken, IsFramed, sent}
use Rattle.journal.specs.Records.{numbered, record_of}
use Rattle.journal.specs.Appending.{Appended, LogPlace}
use Rattle.journal.specs.declared.log.AppendError.TheVariants.{Line}

-- the record that stands in front of a buffer
pub record InBuffer (number : ℕ) (writes : Option Tree) (n limit : ℕ) (b : List ℕ) : Type 0 where
  pub value : Tree
  pub is : writes ≡ Some value
  pub framed : IsFramed IsTree limit (numbered number value)
  pub bytes : take n b ≡ sent 0 true (numbered number value)
  pub long : n ≡ length (sent 0 true (numbered number value))

pub in_buffer : (number : ℕ) (writes : Option Tree) (n size : ℕ) (b : List ℕ) → n ≤ size
    → WrittenWhole (record_of number writes) (λ bytes. (n ≡ length (shortest_frame bytes) + 1) × (take n b ≡ frame_for 0 bytes ++ 0 ∷ []))
    → InBuffer number writes n (size - 1) b
in_buffer number None n size b l h = absurd h
in_buffer number (Some v) n size b l h =
    let f = shortest_frame (short (numbered number v)) in
    record {
      value = v;
      is = refl;
      framed = record { taken = h.0; within = omega (arith, h.1.0) };
      bytes = h.1.1;
      long = h.1.0 ∙ sym (length-append (frame_for 0 (short (numbered number v))) (0 ∷ []) ∙ ap (λ i. i + 1) (length-map f (bit_xor 0)));
    }

module _ (size n k : ℕ) (writes : Option Tree) (b : List ℕ) (old new : LogPlace) (h : InBuffer old.next writes n (size - 1) b) (w : Wrote old.line new.line (take k (take n b))) where
  -- all of it went out
  pub went_out : n ≤ k → Appended (size - 1) writes (Ok old.next) old new
  went_out l = record {
    send = completed (numbered old.next h.value);
    is_send = h.framed;
    is = (refl, (h.value, h.is, refl));
    wrote = subst (λ x. Wrote old.line new.line x) (ap (take k) h.bytes ∙ take_all k (sent 0 true (numbered old.next h.value)) (omega (arith, l, h.long))) w;
  }

  -- a beginning of it did
  pub broke_off : k < n → Appended (size - 1) writes (Err Line) old new
  broke_off l = record {
    send = broken (numbered old.next h.value) k;
    is_send = (h.framed, omega (arith, l, h.long));
    is = (h.value, k, h.is, refl);
    wrote = subst (λ x. Wrote old.line new.line x) (ap (take k) h.bytes) w;
  }
