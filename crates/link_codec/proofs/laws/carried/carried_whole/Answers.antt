use Rattle.std.proofs.Common.{◌≡◌, false, [], ◌∷◌, append-nil, sym, ap, ◌∙◌, subst}
use Rattle.std.specs.List.{AllZip}
use Rattle.postcard_tree.specs.Tree.{IsTree}
use Rattle.link.specs.Run.{IsSession, session_line, line, told_session}
use Rattle.link.specs.Pushes.{Matches}
use Rattle.link_codec.specs.Encoding.{encoder_sentinel}
use Rattle.link_codec.specs.Whole.{answers_of}
use Rattle.link_codec.proofs.SessionsLemmas.{sends_of_each, told_alike}
use Rattle.link_codec.proofs.laws.carried.carried_whole.Goals as goal

pub returns : goal.returns
returns g c bytes later items fresh wrote y =
    let s = encoder_sentinel c.args.encoder.now in
    let k = c.session_of.ensures bytes later wrote in
    let session : IsSession IsTree g.row.N s false k.0 = subst (λ b. IsSession IsTree g.row.N s b k.0) fresh k.2 in
    let taken = c.carried.ensures g.row.N s false k.0 (sends_of_each g.T.Readable.form.writes g.T.Readable.form.valid g.row.N c.args.values.now k.0 k.1) session in
    let run = c.within.ensures s g.row.N g.row.L (k.0 ∷ []) c.requires (taken, tt) in
    let is_line : bytes ≡ line s (k.0 ∷ []) = k.3 ∙ ap (λ b. session_line s b k.0) fresh ∙ sym (append-nil (session_line s false k.0)) in
    let told = c.told_whole.ensures g.row.L s items (k.0 ∷ []) run (record { final = y.final; begins = y.begins; oks = y.oks; yields = y.yields; brings = λ b l r e. y.brings b l r e ∙ is_line }) in
    told_alike g.T.Readable.form.writes g.T.Readable.form.valid g.T.Readable.form.reads g.T.Readable.form.alike (λ v w t l e r. g.T.Readable.form.laws.one_value t v w (g.met.T.Lawful.reads_back v t l e) r) s c.args.values.now k.0 false [] (answers_of items) k.1
    (subst (λ vs. AllZip (Matches g.T.Readable.form.reads) (answers_of items) vs) (append-nil (told_session s false [] k.0)) told)
