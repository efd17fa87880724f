-- A `&` to the right to bytes shows the bytes. Assumes `Logic`.
use Rattle.std.proofs.Common.{[], ◌∷◌, ◌++◌}
use base.Fml.{Lft, Incl-trans}
use contract.BorrowLft.{meet_⊑_left, meet_⊑_right}
use denote.Builtin.{u8}
use denote.Param.Laws.{Laws}
use denote.Param.Shared.{copy_shared}
use denote.Ref.{NamedLft}
use denote.RattleType.{RattleType}
use denote.Struct.Field.{mut_ref_field}
use denote.Struct.Laws.{field_copy}
use denote.Struct.Lending.{of_Lends}
use denote.Struct.Tuple.{Tuple}
use Rattle.std.specs.contracts.marker.PhantomData as marker
use Rattle.spans.specs.declared.memory.Access.{Ghosts}
use Rattle.spans.specs.contracts.memory.Memory as C
use Rattle.spans.proofs.memory.Memory.TheLaw.Statement.{statement}
use Rattle.spans.proofs.MemorySharingLemmas.{access_laws, Lends-access}

pub shares : (a : NamedLft) (T : RattleType) (g : Ghosts T.Denot) (L : Laws T) → statement a T g L
shares a T g L =
    let X : RattleType = Tuple ((mut_ref_field a u8 tt).row ∷ T ∷ []) in
    let both : Lft = (a.lft ++ []) ++ (T.lives ++ []) in
    let tuple : Lft = both ++ both in
    let mark : Lft = (tuple ++ []) ++ [] in
    of_Lends (C.struct a T g) (C.the_codes T.Denot T.coded (marker.the_row X).coded) (C.the_heap a.lft T g) (C.the_lent a.lft T g)
    (λ d p. access_laws g.writes a.lft d.place d.name d.bytes) (copy_shared (marker.the_field X) (field_copy (marker.the_type X) tt), tt)
    (λ M 𝓤 𝓛 d p. Lends-access g.writes a.lft d.place d.name d.bytes 𝓛 (C.the_row a T g).lives
    (Incl-trans (meet_⊑_right (T.lives ++ []) (mark ++ [])) (Incl-trans (meet_⊑_left mark []) (Incl-trans (meet_⊑_left (tuple ++ []) []) (Incl-trans (meet_⊑_left tuple []) (Incl-trans (meet_⊑_left both both) (Incl-trans (meet_⊑_left (a.lft ++ []) (T.lives ++ [])) (meet_⊑_left a.lft []))))))))
