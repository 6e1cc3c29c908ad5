use Rattle.std.proofs.Common.{sym, ◌∙◌}
use Rattle.lh_file.proofs.OfBuckets.Slots.{unperched, kept}
use Rattle.lh_file.proofs.file.SizedFile.act.Goals as goal

pub invariant_of-slot-then-not-keeps_history : goal.invariant_of-slot-then-not-keeps_history
invariant_of-slot-then-not-keeps_history g c =
    unperched g.J.FileBrand.named g.J.FileBrand.tables c.slot.inside.bucket c.change_on.new.bucket c.slot.inside.seat
    (c.self.invariant.named_is ∙ (sym c.keeps_history.ensures ∙ c.if-not-keeps_history.true)) c.slot.invariant

pub invariant_of-slot-in_err-reply-2 : goal.invariant_of-slot-in_err-reply-2
invariant_of-slot-in_err-reply-2 g c =
    kept g.J.FileBrand.named g.J.FileBrand.tables c.slot.inside.bucket c.change_found.new.self c.slot.inside.seat
    c.in_err-reply-2.ensures.err c.slot.invariant
