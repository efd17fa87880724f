-- What a part of a caller's buffer owns, and what a borrow of it has.
use Rattle.std.specs.Prelude.{◌≡◌, ℕ, ◌+◌, ◌<◌, Bool, true, false, List}
use Rattle.std.specs.Borrow.{u8, Bor, MutBor}
use base.Fml.{Lft, GName, Fml}
use mir.Syntax.{named}
use denote.Sharing.{said, beside, within}
use denote.Slice.{MutSlice, mut_slice_vals, mut_slice_at, elements_shared, ShrSlice, shr_slice_vals, shr_slice_at}

-- the position where a run of bytes begins: a block, and an offset in it
abbrev pub Place : Type 0
Place = ℕ × ℕ

-- the position of the byte at an index
abbrev pub byte_at : Place → ℕ → Place
byte_at p i = (p.0, p.1 + i)

-- two runs of bytes, by their positions and lengths, share no byte
abbrev pub Apart : Place → ℕ → Place → ℕ → Type 0
Apart p m q n = (i j : ℕ) → i < m → j < n → byte_at p i ≡ byte_at q j → ⊥

-- a `&mut` of those bytes, borrowed under that name
abbrev pub borrow_of : Place → GName → List ℕ → MutBor (List ℕ)
borrow_of place name bytes = record { ref_ptr = place; ghost_name = name; now = bytes }

-- what a `&mut` for κ of those bytes owns, borrowed under that name
abbrev pub bytes_owned : Lft → Place → GName → List ℕ → Fml
bytes_owned κ place name bytes = (MutSlice (named 0) κ u8).own_val (borrow_of place name bytes)
    (mut_slice_vals (borrow_of place name bytes))

-- what the holder of a `&` to that has
abbrev pub bytes_lent : Lft → Place → GName → List ℕ → Lft → Fml
bytes_lent κ place name bytes = beside (said (mut_slice_at u8 (borrow_of place name bytes)
    (mut_slice_vals (borrow_of place name bytes))))
    (within κ (elements_shared u8 bytes place.0 place.1))

-- a `&` of those bytes
abbrev pub view_of : Place → List ℕ → Bor (List ℕ)
view_of place bytes = record { ref_ptr = place; now = bytes }

-- what a `&` for κ of those bytes owns
abbrev pub bytes_seen : Lft → Place → List ℕ → Fml
bytes_seen κ place bytes =
    (ShrSlice (named 0) κ u8).own_val (view_of place bytes) (shr_slice_vals (view_of place bytes))

-- those bytes borrowed by `&` for another lifetime
abbrev pub seen_lent : Lft → Place → List ℕ → Lft → Fml
seen_lent κ place bytes = beside (said (shr_slice_at u8 (view_of place bytes)
    (shr_slice_vals (view_of place bytes)))) (within κ (elements_shared u8 bytes place.0 place.1))

-- what a memory owns, by whether it may be written
abbrev pub access_owned : Bool → Lft → Place → GName → List ℕ → Fml
access_owned true κ place name bytes = bytes_owned κ place name bytes
access_owned false κ place name bytes = bytes_seen κ place bytes

-- what a borrow of it has, by the same
abbrev pub access_lent : Bool → Lft → Place → GName → List ℕ → Lft → Fml
access_lent true κ place name bytes = bytes_lent κ place name bytes
access_lent false κ place name bytes = seen_lent κ place bytes
