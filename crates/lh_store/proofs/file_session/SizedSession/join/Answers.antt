use Rattle.std.proofs.Common.{sym, subst}
use Rattle.lh_file.specs.FileState.{FileState}
use Rattle.lh_store.specs.Sessions.{IsSession}
use Rattle.lh_store.proofs.Keeping.{joined_keeps, lessened_keeps}
use Rattle.lh_store.proofs.file_session.SizedSession.join.Goals as goal

pub invariant_of-self-in-Ok-join_hands : goal.invariant_of-self-in-Ok-join_hands
invariant_of-self-in-Ok-join_hands g c =
    let file = c.self.inside.file.now.state in
    let is_named = g.B.SessionName.is_named in
    let name = g.B.SessionName.state in
    let first =
    lessened_keeps g.M.Mode.traced is_named name file 0 c.self.inside.hand c.split_hand.new.hand
    c.self.invariant c.in-Ok.ensures.kept in
    let second =
    subst (λ (f : FileState). IsSession g.M.Mode.traced is_named name f c.args.hand)
    (sym (c.self.invariant.named c.requires.named)) c.requires.session in
    joined_keeps g.M.Mode.traced is_named name file c.replace-first.result c.args.hand c.in-Ok-join_hands.joined
    (subst (IsSession g.M.Mode.traced is_named name file) (sym c.replace-first.ensures.value) first) second
    c.in-Ok-join_hands.ensures.united.ok c.in-Ok-join_hands.ensures.of
